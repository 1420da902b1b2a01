-- How cases with other iterations are made, and how flow elements go.
use Rattle.teco_flow_outcomes.proofs.Prelude.{◌≡◌, ℕ, suc, ◌+◌, ◌==◌, ℤ, pos, List, [], ◌∷◌, ◌++◌, length, Bool, true}
use Rattle.teco_flow_outcomes.proofs.Prelude.{false, Option, Some, None, if◌then◌else◌, inl, inr, Any, option_and_then}
use Rattle.teco_flow_outcomes.proofs.Prelude.{option_map, unwrap_or, slice_index_or, refl, sym, ap, subst, ◌∙◌, arith}
use Rattle.teco_flow_outcomes.proofs.Prelude.{ints, Term, Valuation, value, levels_after_taking, Operator, Loop, Case}
use Rattle.teco_flow_outcomes.proofs.Prelude.{STEPS, Number, Length, Turns, PushedNumber, PushedLength, First, Value}
use Rattle.teco_flow_outcomes.proofs.Prelude.{Measure, One, Each, Steps, Pointer, Size, Held, LineEnd, LineStart}
use Rattle.teco_flow_outcomes.proofs.Prelude.{LastLength, CodeHere, CodeBefore, Typed, EntryHeld, NumberRange, Ranges}
use Rattle.teco_flow_outcomes.proofs.Prelude.{Clause}
use Rattle.teco_flow_outcomes.proofs.Prelude.{Places, RowStep, IsAtLevel, IsCommanded, IsAgain, IsCounted, IsEnded}
use Rattle.teco_flow_outcomes.proofs.Prelude.{IsInnermost, IsLater, IsLeft, IsUncounted, turned, IsOutermost}
use Rattle.teco_flow_outcomes.proofs.Prelude.{with_arguments, AreBehindIn, Says, AreMet, Before, Holds, changed}
use Rattle.teco_flow_outcomes.proofs.Prelude.{Describes, Point, IsLed, IsTrueOf, WaitsFor, each, from_end, measures_of}
use Rattle.teco_flow_outcomes.proofs.Prelude.{read_at, described, left_alone, leaves_singles, single_alone}
use Rattle.teco_rows.specs.declared.case.Shape.{Shape}
use Rattle.teco_rows.specs.declared.commands.TheConstants.{TAKES}
use Rattle.teco_flow_outcomes.specs.declared.flow.TheConstants.{AGAIN, COUNTS, COUNTS_NOT, ENDS, TURNS}
use Rattle.teco_rows.specs.declared.row.Clause.TheVariants.{Drops}
use Rattle.teco_rows.specs.Cases.{Carries, read_with}
use Rattle.teco_rows.specs.Commands.{Leads, commanded}
use Rattle.teco_flow_outcomes.specs.Flow.{HasIterations}
use Rattle.teco_flow_outcomes.specs.Flow.{IsNext, IsTurned}
use Rattle.teco_flow_outcomes.specs.Flow.{turns_left}
use Rattle.teco_flow_outcomes.specs.Ranges.{IsBehindIn, IsInOther}
use Rattle.teco_rows.specs.States.{IsLast}
use Rattle.teco_rows.specs.States.{operators_of}
use Rattle.teco_rows.proofs.Applying.{changed-append}
use Rattle.teco_rows.proofs.Closing.{beyond, equal_is}
use Rattle.teco_flow_outcomes.proofs.Arguing.{of_levels, rearranges}
use Rattle.teco_rows.proofs.Commanding.{takes}
use Rattle.teco_rows.proofs.Leading.{leaves as leaves_family}
use Rattle.teco_rows.proofs.Pending.{innermost}
use Rattle.teco_rows.proofs.Ways.{met_both}

-- ---- cases with other iterations
abbrev nothing : ℕ → ℤ
nothing i = pos 0

pub has_iterations : (case made : Case) (step : RowStep) (shape : Shape) (iterations : ℕ) → Carries case step made
    → made.shape ≡ shape → IsLast None case.shape.operators.items shape.operators.items
    → shape.iterations ≡ iterations → shape.pushes ≡ case.shape.pushes → HasIterations case step iterations made
has_iterations case made step shape iterations carries shape_is last count pushes = record {
  carries = carries;
  last = subst (λ (h : Shape). IsLast None case.shape.operators.items h.operators.items) (sym shape_is) last;
  count = ap (λ (h : Shape). h.iterations) shape_is ∙ count;
  pushes = ap (λ (h : Shape). h.pushes) shape_is ∙ pushes;
}

pub is_turned : (case made : Case) (step whole : RowStep) (iterations : ℕ) → HasIterations case whole iterations made
    → IsAtLevel step.here case → whole.clauses.now ≡ TAKES ++ step.clauses.now → whole.here ≡ step.here
    → whole.given.now ≡ step.given.now → IsTurned case step iterations made
is_turned case made step whole iterations has at clauses here given = record { describes = describes } where
  describes : (n : ℕ) (v : Valuation) (s : Point) (loops : List Loop) → IsTrueOf n v case s → length loops ≡ iterations
      → AreMet step.clauses.now (read_with step n v (measures_of s) nothing)
      → ((m : Measure) → measures_of (turned s (levels_after_taking s.arguments) loops) m
      ≡ changed step.clauses.now (read_with step n v (measures_of s) nothing) m
      (measures_of (commanded s s.kept None) m))
      → Describes n made (turned s (levels_after_taking s.arguments) loops)
  describes n v s loops true_of long met becomes =
      let b = read_with step n v (measures_of s) nothing in
      let t = turned s (levels_after_taking s.arguments) loops in
      let holds : Holds (TAKES ++ step.clauses.now) b (measures_of t) = record {
        met = met;
        becomes = λ m.
            becomes m
            ∙ ap (changed step.clauses.now b m) (takes s step.here b.given nothing (at s true_of.shape) m)
            ∙ sym (changed-append TAKES step.clauses.now b m (measures_of s m));
      } in
      let read : read_with whole n v (measures_of s) nothing ≡ b =
      ap (λ h. record b { here = h; given = λ i. value (slice_index_or whole.given.now i []) n v }) here
      ∙ ap (λ (g : List (List Term)). record b { given = λ i. value (slice_index_or g i []) n v }) given in
      described n v case made whole s t nothing has.carries true_of
      (subst (λ r. Holds r (read_with whole n v (measures_of s) nothing) (measures_of t)) (sym clauses)
      (subst (λ r. Holds (TAKES ++ step.clauses.now) r (measures_of t)) (sym read) holds))
      (record {
        operators = has.last (operators_of s.arguments.outer) s.arguments.level.operator true_of.shape.operators;
        iterations = has.count ∙ sym long;
        pushes = ap (λ k. s.origin.pushes + k) has.pushes ∙ true_of.shape.pushes;
      })

-- a row says nothing but of turns
pub record IsOfTurns (row : List Clause) : Type 0 where
  pub singles : leaves_singles row ≡ true
  pub numbers : leaves_family Number row ≡ true
  pub lengths : leaves_family Length row ≡ true
  pub pushed_numbers : leaves_family PushedNumber row ≡ true
  pub pushed_lengths : leaves_family PushedLength row ≡ true
  pub firsts : leaves_family First row ≡ true
  pub values : leaves_family Value row ≡ true

pub of_turns : (row : List Clause) → leaves_singles row ≡ true → leaves_family Number row ≡ true
    → leaves_family Length row ≡ true → leaves_family PushedNumber row ≡ true → leaves_family PushedLength row ≡ true
    → leaves_family First row ≡ true → leaves_family Value row ≡ true → IsOfTurns row
of_turns row a b c d e f g = record {
  singles = a;
  numbers = b;
  lengths = c;
  pushed_numbers = d;
  pushed_lengths = e;
  firsts = f;
  values = g;
}

-- the turns left of an iteration, counted from the outermost
abbrev left_at : List Loop → ℕ → Option ℤ
left_at loops i = option_and_then turns_left (from_end loops i)

module _ (row : List Clause) (b : Before) (of : IsOfTurns row) (s : Point) (loops : List Loop) where
  pub turns_become : ((i : ℕ) → left_at loops i ≡ changed row b (Each Turns i) (left_at s.loops i)) → (m : Measure)
      → measures_of (turned s (levels_after_taking s.arguments) loops) m
      ≡ changed row b m (measures_of (commanded s s.kept None) m)
  turns_become turns (One Steps) = sym (single_alone row b Steps _ of.singles)
  turns_become turns (One Pointer) = sym (single_alone row b Pointer _ of.singles)
  turns_become turns (One Size) = sym (single_alone row b Size _ of.singles)
  turns_become turns (One Held) = sym (single_alone row b Held _ of.singles)
  turns_become turns (One LineEnd) = sym (single_alone row b LineEnd _ of.singles)
  turns_become turns (One LineStart) = sym (single_alone row b LineStart _ of.singles)
  turns_become turns (One LastLength) = sym (single_alone row b LastLength _ of.singles)
  turns_become turns (One CodeHere) = sym (single_alone row b CodeHere _ of.singles)
  turns_become turns (One CodeBefore) = sym (single_alone row b CodeBefore _ of.singles)
  turns_become turns (One Typed) = sym (single_alone row b Typed _ of.singles)
  turns_become turns (One EntryHeld) = sym (single_alone row b EntryHeld _ of.singles)
  turns_become turns (Each Number i) = left_alone row b Number i _ of.numbers
  turns_become turns (Each Length i) = left_alone row b Length i _ of.lengths
  turns_become turns (Each Turns i) = turns i
  turns_become turns (Each PushedNumber i) = left_alone row b PushedNumber i _ of.pushed_numbers
  turns_become turns (Each PushedLength i) = left_alone row b PushedLength i _ of.pushed_lengths
  turns_become turns (Each First i) = left_alone row b First i _ of.firsts
  turns_become turns (Each Value i) = left_alone row b Value i _ of.values

-- one iteration more, which has this left,
one_more : (loop : Loop) (loops : List Loop) (at i : ℕ) (x : Option ℤ) → at ≡ length loops → turns_left loop ≡ x
    → left_at (loop ∷ loops) i ≡ (if at == i then x else left_at loops i)
one_more loop loops at i x e f =
    chosen (length loops == i) ∙ ap (λ k. if k == i then x else left_at loops i) (sym e) where
      chosen : (b : Bool) → option_and_then turns_left (if b then Some loop else from_end loops i)
          ≡ (if b then x else option_and_then turns_left (from_end loops i))
      chosen true = f
      chosen false = refl

-- another one in place of the innermost,
one_other : (loop other : Loop) (outer : List Loop) (at i : ℕ) (x : Option ℤ) → at ≡ length outer
    → turns_left other ≡ x
    → left_at (other ∷ outer) i ≡ (if at == i then x else left_at (loop ∷ outer) i)
one_other loop other outer at i x e f =
    chosen (length outer == i) ∙ ap (λ k. if k == i then x else left_at (loop ∷ outer) i) (sym e) where
      chosen : (b : Bool) → option_and_then turns_left (if b then Some other else from_end outer i)
          ≡ (if b then x else option_and_then turns_left (if b then Some loop else from_end outer i))
      chosen true = f
      chosen false = refl

-- and one fewer
one_fewer : (loop : Loop) (outer : List Loop) (at i : ℕ) → at ≡ length outer
    → left_at outer i ≡ (if at == i then None else left_at (loop ∷ outer) i)
one_fewer loop outer at i e =
    chosen (length outer == i) refl ∙ ap (λ k. if k == i then None else left_at (loop ∷ outer) i) (sym e) where
      chosen : (b : Bool) → (length outer == i) ≡ b
          → left_at outer i
          ≡ (if b then None else option_and_then turns_left (if b then Some loop else from_end outer i))
      chosen true h = ap (option_and_then turns_left) (beyond outer i (omega (arith, equal_is (length outer) i h)))
      chosen false h = refl

pub is_uncounted : (case made : Case) (step : RowStep) (iterations : ℕ) → IsTurned case step iterations made
    → step.clauses.now ≡ COUNTS_NOT → IsNext step.here.iteration case → iterations ≡ step.here.iteration + 1
    → IsUncounted case made
is_uncounted case made step iterations turns row next more n v s start true_of =
    let loop : Loop = record { start = start; turns = None } in
    let at = next s true_of.shape in
    let b = read_with step n v (measures_of s) nothing in
    turns.describes n v s (loop ∷ s.loops) true_of (omega arith) (subst (λ r. AreMet r b) (sym row) tt)
    (subst (λ r. (m : Measure) → measures_of (turned s (levels_after_taking s.arguments) (loop ∷ s.loops)) m
    ≡ changed r b m (measures_of (commanded s s.kept None) m)) (sym row)
    (turns_become COUNTS_NOT b (of_turns COUNTS_NOT refl refl refl refl refl refl refl) s (loop ∷ s.loops)
    (λ i. one_more loop s.loops step.here.iteration i None at refl)))

pub is_counted : (case made : Case) (step : RowStep) (iterations : ℕ) → IsTurned case step iterations made
    → step.clauses.now ≡ COUNTS → IsNext step.here.iteration case → iterations ≡ step.here.iteration + 1
    → IsCounted case (slice_index_or step.given.now 0 []) made
is_counted case made step iterations turns row next more n v s start k true_of e =
    let loop : Loop = record { start = start; turns = Some k } in
    let at = next s true_of.shape in
    let b = read_with step n v (measures_of s) nothing in
    turns.describes n v s (loop ∷ s.loops) true_of (omega arith)
    (subst (λ r. AreMet r b) (sym row) (omega (arith, ints), tt))
    (subst (λ r. (m : Measure) → measures_of (turned s (levels_after_taking s.arguments) (loop ∷ s.loops)) m
    ≡ changed r b m (measures_of (commanded s s.kept None) m)) (sym row)
    (turns_become COUNTS b (of_turns COUNTS refl refl refl refl refl refl refl) s (loop ∷ s.loops)
    (λ i. one_more loop s.loops step.here.iteration i _ at (ap Some (omega (arith, ints))))))

-- what is left of the innermost iteration, as a row reads it
pub read_left : (s : Point) (loop : Loop) (outer : List Loop) (at : ℕ) → s.loops ≡ loop ∷ outer → at ≡ length outer
    → each s Turns at ≡ turns_left loop
read_left s loop outer at e f =
    ap (λ i. left_at s.loops i) f ∙ ap (λ ls. left_at ls (length outer)) e
    ∙ ap (option_and_then turns_left) (innermost loop outer)

pub is_again : (case made : Case) (step : RowStep) (iterations : ℕ) → IsTurned case step iterations made
    → step.clauses.now ≡ AGAIN → IsInnermost step.here.iteration case → iterations ≡ step.here.iteration + 1
    → IsAgain case made
is_again case made step iterations turns row inner more n v s loop outer k true_of e f =
    let other : Loop = record loop { turns = Some k } in
    let at = inner s loop outer true_of.shape e in
    let b = read_with step n v (measures_of s) nothing in
    let had : each s Turns step.here.iteration ≡ Some (pos (suc k)) =
    read_left s loop outer step.here.iteration e at ∙ ap (option_map pos) f in
    let worth : unwrap_or (each s Turns step.here.iteration) (pos 0) ≡ pos (suc k) =
    ap (λ o. unwrap_or o (pos 0)) had in
    turns.describes n v s (other ∷ outer) true_of (omega arith)
    (subst (λ r. AreMet r b) (sym row) (omega (arith, ints), tt))
    (subst (λ r. (m : Measure) → measures_of (turned s (levels_after_taking s.arguments) (other ∷ outer)) m
    ≡ changed r b m (measures_of (commanded s s.kept None) m)) (sym row)
    (turns_become AGAIN b (of_turns AGAIN refl refl refl refl refl refl refl) s (other ∷ outer)
    (λ i. subst (λ ls. left_at (other ∷ outer) i ≡ changed AGAIN b (Each Turns i) (left_at ls i)) (sym e)
    (one_other loop other outer step.here.iteration i _ at (ap Some (omega (arith, ints)))))))

pub is_ended : (case made : Case) (step : RowStep) (iterations : ℕ) → IsTurned case step iterations made
    → step.clauses.now ≡ ENDS → IsInnermost step.here.iteration case → iterations ≡ step.here.iteration
    → IsEnded case made
is_ended case made step iterations turns row inner same n v s loop outer true_of e f =
    let at = inner s loop outer true_of.shape e in
    let b = read_with step n v (measures_of s) nothing in
    let worth : unwrap_or (each s Turns step.here.iteration) (pos 0) ≡ pos 0 =
    ap (λ o. unwrap_or o (pos 0)) (read_left s loop outer step.here.iteration e at ∙ ap (option_map pos) f) in
    turns.describes n v s outer true_of (omega arith)
    (subst (λ r. AreMet r b) (sym row) (omega (arith, ints), tt))
    (subst (λ r. (m : Measure) → measures_of (turned s (levels_after_taking s.arguments) outer) m
    ≡ changed r b m (measures_of (commanded s s.kept None) m)) (sym row)
    (turns_become ENDS b (of_turns ENDS refl refl refl refl refl refl refl) s outer
    (λ i. one_fewer loop outer step.here.iteration i at
    ∙ ap (λ ls. changed ENDS b (Each Turns i) (left_at ls i)) (sym e))))

-- the iteration is left, on a case with one level
pub is_left : (case outermost made : Case) (range : NumberRange) (said : List Clause) (step : RowStep) (iterations : ℕ)
    → IsTurned outermost step iterations made → IsOutermost case outermost → Says range said
    → step.clauses.now ≡ said ++ Drops TURNS ∷ [] → IsInnermost step.here.iteration outermost
    → iterations ≡ step.here.iteration → IsLeft case range (slice_index_or step.given.now 0 []) made
is_left case outermost made range said step iterations turns out says whole inner same n v s loop outer true_of e in' =
    let o = out n v s true_of in
    let t = with_arguments s (record { level = o.0; outer = [] }) in
    let at = inner t loop outer o.1.shape e in
    let b = read_with step n v (measures_of t) nothing in
    let h = says b in' in
    let last = Drops TURNS ∷ [] in
    turns.describes n v t outer o.1 (omega arith)
    (subst (λ r. AreMet r b) (sym whole) (met_both said last b h.0 tt))
    (λ m. turns_become last b (of_turns last refl refl refl refl refl refl refl) t outer
    (λ i. one_fewer loop outer step.here.iteration i at
    ∙ ap (λ ls. changed last b (Each Turns i) (left_at ls i)) (sym e)) m
    ∙ ap (changed last b m) (sym (h.1 m (measures_of (commanded t t.kept None) m)))
    ∙ sym (changed-append said last b m (measures_of (commanded t t.kept None) m))
    ∙ ap (λ r. changed r b m (measures_of (commanded t t.kept None) m)) (sym whole))

-- where nothing but a range is said, the case is behind a command that did no more
pub is_behind_in : (case made : Case) (range : NumberRange) (row way : List Clause) (given : List (List Term))
    (here : Places)
    → way ≡ row → Says range row → IsCommanded case way given here made
    → IsBehindIn case range (slice_index_or given 0 []) made
is_behind_in case made range row way given here e says led n v s true_of in' =
    let b = read_at s here (λ i. value (slice_index_or given i []) n v) nothing in
    let h = says b in' in
    led n v s s.kept None nothing true_of (subst (λ r. Leads r b s s.kept None) (sym e)
    (record { met = h.0; becomes = λ m. sym (h.1 m (measures_of (commanded s s.kept None) m)); pushes = refl }))

-- one range alone, or two
pub behind_in_one : (case one : Case) (ranges : Ranges) (form : List Term) (cases : List Case) → ranges.other ≡ None
    → cases ≡ one ∷ [] → IsBehindIn case ranges.one form one → AreBehindIn case ranges form cases
behind_in_one case one ranges form cases e f is n v s true_of (inl h) =
    subst (Any (λ made. Describes n made (commanded s s.kept None))) (sym f)
    (0, one, omega arith, refl, is n v s true_of h)
behind_in_one case one ranges form cases e f is n v s true_of (inr h) =
    absurd (subst (λ r. IsInOther r (value form n v)) e h)

pub behind_in_two : (case one other : Case) (ranges : Ranges) (second : NumberRange) (form : List Term)
    (cases : List Case)
    → ranges.other ≡ Some second → cases ≡ one ∷ other ∷ [] → IsBehindIn case ranges.one form one
    → IsBehindIn case second form other → AreBehindIn case ranges form cases
behind_in_two case one other ranges second form cases e f is and n v s true_of (inl h) =
    subst (Any (λ made. Describes n made (commanded s s.kept None))) (sym f)
    (0, one, omega arith, refl, is n v s true_of h)
behind_in_two case one other ranges second form cases e f is and n v s true_of (inr h) =
    subst (Any (λ made. Describes n made (commanded s s.kept None))) (sym f)
    (1, other, omega arith, refl, and n v s true_of (subst (λ r. IsInOther r (value form n v)) e h))

-- a step, and nothing else
pub is_later : (case made : Case) (step : RowStep) (operator : Option Operator) → step.clauses.now ≡ STEPS
    → WaitsFor operator case → IsLed case step operator made → IsLater case made
is_later case made step operator row waits led n v s true_of =
    let b = read_with step n v (measures_of s) nothing in
    described n v case made step s (turned s s.arguments s.loops) nothing led.carries true_of
    (subst (λ r. Holds r b (measures_of (turned s s.arguments s.loops))) (sym row)
    (rearranges [] (of_levels [] refl refl refl refl refl refl) s step.here b.given nothing s.arguments tt (λ i. refl)
    (λ i. refl)))
    (record {
      operators =
          led.last (operators_of s.arguments.outer) s.arguments.level.operator true_of.shape.operators
          ∙ ap (λ o. operators_of s.arguments.outer ++ o ∷ []) (sym (waits s true_of.shape));
      iterations = led.iterations ∙ true_of.shape.iterations;
      pushes = ap (λ k. s.origin.pushes + k) led.pushes ∙ true_of.shape.pushes;
    })
