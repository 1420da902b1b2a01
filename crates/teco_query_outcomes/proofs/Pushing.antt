-- [ and ].
use Rattle.teco_query_outcomes.proofs.Prelude.{◌≡◌, ℕ, ◌+◌, ◌<◌, ◌≤◌, ℤ, pos, List, [], ◌∷◌, ◌++◌, length, Bool, true}
use Rattle.teco_query_outcomes.proofs.Prelude.{false}
use Rattle.teco_query_outcomes.proofs.Prelude.{Option, Some, None, Ok, if◌then◌else◌, slice_get, unwrap_or, refl, sym}
use Rattle.teco_query_outcomes.proofs.Prelude.{ap}
use Rattle.teco_query_outcomes.proofs.Prelude.{subst, ◌∙◌, arith, nat_tests, ints, Term, Valuation, ◌>>=◌, after}
use Rattle.teco_query_outcomes.proofs.Prelude.{pair_of}
use Rattle.teco_query_outcomes.proofs.Prelude.{Kept, after_stack, Operator, IsWhole, Case, Value, One, Steps, Pointer}
use Rattle.teco_query_outcomes.proofs.Prelude.{Size}
use Rattle.teco_query_outcomes.proofs.Prelude.{Held, LineEnd, LineStart, LastLength, CodeHere, CodeBefore, Typed}
use Rattle.teco_query_outcomes.proofs.Prelude.{EntryHeld}
use Rattle.teco_query_outcomes.proofs.Prelude.{Outcomes}
use Rattle.teco_query_outcomes.proofs.Prelude.{Describe, Foretells, IsOne, Succeeds, Before, changed, Describes, Point}
use Rattle.teco_query_outcomes.proofs.Prelude.{IsShape, IsTrueOf, behind, describes_one}
use Rattle.std.proofs.Common.{◌==◌}
use Rattle.std.specs.Option.{ok_or}
use Rattle.teco_base.specs.declared.TheConstants.{REGISTERS}
use Rattle.teco_base.specs.declared.code.Code.TheVariants as code
use Rattle.teco_model.specs.Registers.{Pair, registers_without_top}
use Rattle.teco_model.specs.Storage.{push}
use Rattle.teco_model.specs.declared.kind.Stack.TheVariants.{Push, Pop}
use Rattle.teco_rows.specs.declared.case.Shape.{Shape}
use Rattle.teco_rows.specs.declared.measure.Family.TheVariants.{Number, Length, Turns, PushedNumber, PushedLength}
use Rattle.teco_rows.specs.declared.measure.Family.TheVariants.{First}
use Rattle.teco_rows.specs.declared.measure.Measure.{Measure}
use Rattle.teco_rows.specs.declared.measure.Measure.TheVariants.{Each}
use Rattle.teco_query_outcomes.specs.declared.pushes.TheConstants.{PUSHES, POPS}
use Rattle.teco_rows.specs.declared.row.RowStep.{RowStep}
use Rattle.teco_rows.specs.Cases.{Carries, read_with}
use Rattle.teco_query_outcomes.specs.Pushes.{IsPopped, IsPushed, IsStacked, kept_with_popped}
use Rattle.teco_rows.specs.Rows.{Holds}
use Rattle.teco_rows.specs.States.{IsLast, WaitsFor, from_end}
use Rattle.teco_rows.specs.States.{length_of, measures_of}
use Rattle.teco_rows.specs.States.{number_of, operators_of}
use Rattle.teco_rows.proofs.Closing.{beyond, equal_is}
use Rattle.teco_rows.proofs.Describing.{described}
use Rattle.teco_rows.proofs.Pending.{innermost}
use Rattle.teco_rows.proofs.Registering.{length_set, number_set, pair_there}

abbrev nothing : ℕ → ℤ
nothing i = pos 0

pub is_stacked : (case made : Case) (step : RowStep) (shape : Shape) (pushes : ℕ) (operator : Option Operator)
    → WaitsFor operator case → Carries case step made → made.shape ≡ shape
    → IsLast operator case.shape.operators.items shape.operators.items → shape.iterations ≡ case.shape.iterations
    → shape.pushes ≡ pushes → IsStacked case step pushes made
is_stacked case made step shape pushes operator waits carries shape_is last iterations count =
    record { describes = describes } where
      describes : (n : ℕ) (v : Valuation) (s : Point) (kept : Kept) → IsTrueOf n v case s
          → s.origin.pushes + pushes ≡ length kept.registers.stack
          → Holds step.clauses.now (read_with step n v (measures_of s) nothing)
          (measures_of (behind s (after kept s.arguments)))
          → Describes n made (behind s (after kept s.arguments))
      describes n v s kept true_of long holds =
          described n v case made step s (behind s (after kept s.arguments)) nothing carries true_of holds
          (subst (λ h. IsShape h (behind s (after kept s.arguments))) (sym shape_is) (record {
            operators =
                last (operators_of s.arguments.outer) s.arguments.level.operator true_of.shape.operators
                ∙ ap (λ o. operators_of s.arguments.outer ++ o ∷ []) (sym (waits s true_of.shape));
            iterations = iterations ∙ true_of.shape.iterations;
            pushes = ap (λ k. s.origin.pushes + k) count ∙ long;
          }))

-- counted from the oldest since the entry
same_place : (below at i long : ℕ) → below + at ≡ long → (long == below + i) ≡ (at == i)
same_place below at i long e = grind (arith, nat_tests)

-- one pair more, which has this
module _ (get : Option Pair → Option ℤ) (none : get None ≡ None) where
  pair_more : (pair : Pair) (stack : List Pair) (below at i : ℕ) (x : Option ℤ) → below + at ≡ length stack
      → get (Some pair) ≡ x
      → get (from_end (pair ∷ stack) (below + i)) ≡ (if at == i then x else get (from_end stack (below + i)))
  pair_more pair stack below at i x e f =
      chosen (length stack == below + i)
      ∙ ap (λ b. if b then x else get (from_end stack (below + i))) (same_place below at i (length stack) e) where
        chosen : (b : Bool) → get (if b then Some pair else from_end stack (below + i))
            ≡ (if b then x else get (from_end stack (below + i)))
        chosen true = f
        chosen false = refl

  -- and one fewer
  pair_fewer : (pair : Pair) (rest : List Pair) (below at i : ℕ) → below + at ≡ length rest
      → get (from_end rest (below + i)) ≡ (if at == i then None else get (from_end (pair ∷ rest) (below + i)))
  pair_fewer pair rest below at i e =
      chosen (length rest == below + i) refl
      ∙ ap (λ b. if b then None else get (from_end (pair ∷ rest) (below + i)))
      (same_place below at i (length rest) e) where
        chosen : (b : Bool) → (length rest == below + i) ≡ b
            → get (from_end rest (below + i)) ≡ (if b then None else get (if b then Some pair else from_end rest
            (below + i)))
        chosen true h =
            ap get (beyond rest (below + i) (omega (arith, equal_is (length rest) (below + i) h))) ∙ none
        chosen false h = refl

-- what a number that is there is worth
worth : (x : Option ℤ) (z : ℤ) → x ≡ Some z → unwrap_or x (pos 0) ≡ z
worth x z e = ap (λ o. unwrap_or o (pos 0)) e

module _ (n : ℕ) (v : Valuation) (s : Point) (step : RowStep) (register at : ℕ) (whole : IsWhole s.kept)
    (is : step.here.register ≡ register) (in' : step.here.register < REGISTERS) (push_is : step.here.push ≡ at) where
  abbrev b : Before
  b = read_with step n v (measures_of s) nothing

  there : slice_get s.kept.registers.pairs step.here.register ≡ Some (pair_of step.here.register s.kept.registers)
  there = pair_there s.kept step.here.register whole in'

  number_there : unwrap_or (number_of (slice_get s.kept.registers.pairs step.here.register)) (pos 0)
      ≡ (pair_of step.here.register s.kept.registers).number
  number_there = worth _ _ (ap number_of there)

  length_there : unwrap_or (length_of (slice_get s.kept.registers.pairs step.here.register)) (pos 0)
      ≡ pos (length (pair_of step.here.register s.kept.registers).text)
  length_there = worth _ _ (ap length_of there)

  pub push_holds : s.origin.pushes + at ≡ length s.kept.registers.stack
      → Holds PUSHES b (measures_of (behind s (after (push step.here.register s.kept) s.arguments)))
  push_holds long = record { met = tt; becomes = becomes } where
    at_place : s.origin.pushes + step.here.push ≡ length s.kept.registers.stack
    at_place = ap (λ k. s.origin.pushes + k) push_is ∙ long

    becomes : (m : Measure)
        → measures_of (behind s (after (push step.here.register s.kept) s.arguments)) m
        ≡ changed PUSHES b m (measures_of s m)
    becomes (One Steps) = ap Some (omega (arith, ints))
    becomes (One Pointer) = refl
    becomes (One Size) = refl
    becomes (One Held) = refl
    becomes (One LineEnd) = refl
    becomes (One LineStart) = refl
    becomes (One LastLength) = refl
    becomes (One CodeHere) = refl
    becomes (One CodeBefore) = refl
    becomes (One Typed) = refl
    becomes (One EntryHeld) = refl
    becomes (Each Number i) = refl
    becomes (Each Length i) = refl
    becomes (Each Turns i) = refl
    becomes (Each PushedNumber i) =
        pair_more number_of refl (pair_of step.here.register s.kept.registers) s.kept.registers.stack s.origin.pushes
        step.here.push i _ at_place
        (ap Some (omega (arith, ints, number_there)))
    becomes (Each PushedLength i) =
        pair_more length_of refl (pair_of step.here.register s.kept.registers) s.kept.registers.stack s.origin.pushes
        step.here.push i _ at_place
        (ap Some (omega (arith, ints, length_there)))
    becomes (Each First i) = refl
    becomes (Each Value i) = refl

  pub pop_holds : (pair : Pair) (rest : List Pair) → s.kept.registers.stack ≡ pair ∷ rest
      → s.origin.pushes + at ≡ length rest
      → Holds POPS b (measures_of (behind s (after (kept_with_popped step.here.register pair rest s.kept) s.arguments)))
  pop_holds pair rest e long = record { met = tt; becomes = becomes } where
    at_place : s.origin.pushes + step.here.push ≡ length rest
    at_place = ap (λ k. s.origin.pushes + k) push_is ∙ long

    newest : from_end s.kept.registers.stack (s.origin.pushes + step.here.push) ≡ Some pair
    newest = ap (λ k. from_end s.kept.registers.stack k) at_place ∙ ap (λ l. from_end l (length rest)) e
        ∙ innermost pair rest

    number_newest : unwrap_or (number_of (from_end s.kept.registers.stack (s.origin.pushes + step.here.push))) (pos 0)
        ≡ pair.number
    number_newest = worth _ _ (ap number_of newest)

    length_newest : unwrap_or (length_of (from_end s.kept.registers.stack (s.origin.pushes + step.here.push))) (pos 0)
        ≡ pos (length pair.text)
    length_newest = worth _ _ (ap length_of newest)

    becomes : (m : Measure)
        → measures_of (behind s (after (kept_with_popped step.here.register pair rest s.kept) s.arguments)) m
        ≡ changed POPS b m (measures_of s m)
    becomes (One Steps) = ap Some (omega (arith, ints))
    becomes (One Pointer) = refl
    becomes (One Size) = refl
    becomes (One Held) = refl
    becomes (One LineEnd) = refl
    becomes (One LineStart) = refl
    becomes (One LastLength) = refl
    becomes (One CodeHere) = refl
    becomes (One CodeBefore) = refl
    becomes (One Typed) = refl
    becomes (One EntryHeld) = refl
    becomes (Each Number i) =
        number_set s.kept.registers.pairs step.here.register i pair _ (omega (arith, whole.count))
        (ap Some (omega (arith, ints, number_newest)))
    becomes (Each Length i) =
        length_set s.kept.registers.pairs step.here.register i pair _ (omega (arith, whole.count))
        (ap Some (omega (arith, ints, length_newest)))
    becomes (Each Turns i) = refl
    becomes (Each PushedNumber i) =
        pair_fewer number_of refl pair rest s.origin.pushes step.here.push i at_place
        ∙ ap (λ l. if step.here.push == i then None else number_of (from_end l (s.origin.pushes + i))) (sym e)
    becomes (Each PushedLength i) =
        pair_fewer length_of refl pair rest s.origin.pushes step.here.push i at_place
        ∙ ap (λ l. if step.here.push == i then None else length_of (from_end l (s.origin.pushes + i))) (sym e)
    becomes (Each First i) = refl
    becomes (Each Value i) = refl

pub is_pushed : (case made : Case) (step : RowStep) (register pushes : ℕ) → IsStacked case step pushes made
    → step.clauses.now ≡ PUSHES → step.here.register ≡ register → step.here.register < REGISTERS
    → step.here.push ≡ case.shape.pushes → pushes ≡ step.here.push + 1 → IsPushed case register made
is_pushed case made step register pushes stacked row is in' count more =
    subst (λ r. IsPushed case r made) is (λ n v s true_of whole.
    stacked.describes n v s (push step.here.register s.kept) true_of (omega (arith, true_of.shape.pushes))
    (subst (λ r. Holds r (read_with step n v (measures_of s) nothing)
    (measures_of (behind s (after (push step.here.register s.kept) s.arguments)))) (sym row)
    (push_holds n v s step register case.shape.pushes whole is in' count true_of.shape.pushes)))

-- a list that is not empty
first_of : {X : Type 0} (xs : List X) → 1 ≤ length xs → (x : X) × (rest : List X) × (xs ≡ x ∷ rest)
first_of [] h = absurd (omega arith)
first_of (x ∷ xs) h = (x, xs, refl)

pub is_popped : (case made : Case) (step : RowStep) (register newest : ℕ) → IsStacked case step newest made
    → step.clauses.now ≡ POPS → step.here.register ≡ register → step.here.register < REGISTERS
    → step.here.push ≡ newest → newest + 1 ≡ case.shape.pushes → IsPopped case register made
is_popped case made step register newest stacked row is in' at count =
    subst (λ r. IsPopped case r made) is (λ n v s true_of whole.
    let o = first_of s.kept.registers.stack (omega (arith, true_of.shape.pushes)) in
    let long : s.origin.pushes + newest ≡ length o.1 = omega (arith, true_of.shape.pushes, ap length o.2) in (
      o.0,
      o.1,
      o.2,
      stacked.describes n v s (kept_with_popped step.here.register o.0 o.1 s.kept) true_of long
          (subst (λ r. Holds r (read_with step n v (measures_of s) nothing)
          (measures_of (behind s (after (kept_with_popped step.here.register o.0 o.1 s.kept) s.arguments)))) (sym row)
          (pop_holds n v s step register newest whole is in' at o.0 o.1 o.2 long)),
    ))

-- ---- what is foretold
pub push_foretold : (case made : Case) (register : ℕ) (wanted : List (List Term)) (all : Outcomes)
    → IsPushed case register made → IsOne wanted made all
    → Foretells (λ s. after_stack (Push register) s.kept s.arguments) case all
push_foretold case made register wanted all pushed one n v s begins =
    describes_one n wanted made all _ one (pushed n v s begins.true_of begins.whole)

pub pop_foretold : (case made : Case) (register : ℕ) (wanted : List (List Term)) (all : Outcomes)
    → IsPopped case register made → IsOne wanted made all
    → Foretells (λ s. after_stack (Pop register) s.kept s.arguments) case all
pop_foretold case made register wanted all popped one n v s begins =
    let p = popped n v s begins.true_of begins.whole in
    subst (Succeeds (λ done. Describe n all (behind s done)))
    (sym (ap (λ st. ok_or (registers_without_top register st s.kept.registers) code.Pes
    >>= (λ registers. Ok (record s.kept { registers = registers })) >>= (λ kept. Ok (after kept s.arguments))) p.2))
    (describes_one n wanted made all _ one p.3)
