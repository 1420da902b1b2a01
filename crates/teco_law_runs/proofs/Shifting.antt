-- Only [ and ] change the push-down list, by one pair.
use Rattle.teco_law_runs.proofs.Prelude.{◌≡◌, ℕ, List, [], ◌∷◌, true, false, Option, Some, None, Result, Ok, refl, sym}
use Rattle.teco_law_runs.proofs.Prelude.{ap, ◌∙◌, subst, Element, Kind, Kept, World, State, Next, Upkeep}
use Rattle.teco_law_runs.proofs.Prelude.{outcome_at, settle, reply_of, step, kept_by_step}
use Rattle.teco_law_runs.proofs.Prelude.{◌>>=◌, pair_of}
use Rattle.std.proofs.Common.{ok_or}
use Rattle.teco_base.specs.declared.code.Code.{Code}
use Rattle.teco_base.specs.declared.code.Code.TheVariants as code
use Rattle.teco_model.specs.declared.kind.Kind.TheVariants as kind
use Rattle.teco_model.specs.declared.kind.Stack.{Stack}
use Rattle.teco_model.specs.declared.kind.Stack.TheVariants as stack_kind
use Rattle.teco_model.specs.Going.{after, on_editor}
use Rattle.teco_model.specs.Names.{is_of_stack}
use Rattle.teco_model.specs.Registers.{Pair, Registers, registers_without_top}
use Rattle.teco_model.specs.Storage.{stack}
use Rattle.teco_law_runs.specs.Framing.{Shifts, ShiftsByKind, ShiftsByStack, StepsShift}
use Rattle.teco_law_runs.proofs.StepWays.{as_element, as_read}

-- ---- all other elements
stack_keeps : (k : Kind) (old : List Pair) → is_of_stack k ≡ false
    → Upkeep k (λ (world : World). world.kept.registers.stack ≡ old)
stack_keeps k old none = record {
  edited = λ before after registers mode files h. ap (λ (r : Registers). r.stack) registers ∙ h;
  numbered = λ world r n names h. h;
  paired = λ world r pair names writes h. h;
  stacked = λ world stack is h. absurd (cc);
  moded = λ world mode sets h. h;
  read = λ world h. h;
  written = λ world bytes h. h;
  filed = λ before after files registers mode h. ap (λ (r : Registers). r.stack) registers ∙ h;
}

-- ---- [ and ]
abbrev stack_of : State → List Pair
stack_of s = s.world.kept.registers.stack

popped : (r : ℕ) (e : Element) (s t : State) (pairs : List Pair)
    → settle e s (on_editor s.left s.world
    ((ok_or (registers_without_top r pairs s.world.kept.registers) code.Pes
    >>= (λ registers. Ok (record s.world.kept { registers = registers })))
    >>= (λ kept. Ok (after kept s.arguments)))) ≡ Next t
    → (pair : Pair) × (pairs ≡ pair ∷ stack_of t)
popped r e s t [] h = absurd (cc)
popped r e s t (pair ∷ rest) h = let z : rest ≡ stack_of t = cc in (pair, ap (λ below. pair ∷ below) z)

by_stack : (k : Stack) (e : Element) (s t : State) → settle e s (reply_of (kind.Stack k) e s) ≡ Next t
    → ShiftsByStack k (stack_of s) (stack_of t)
unfolding reply_of
by_stack (stack_kind.Push r) e s t h =
    let pair = pair_of r s.world.kept.registers in
    let z : stack_of t ≡ pair ∷ stack_of s = cc in
    (pair, z)
by_stack (stack_kind.Pop r) e s t h = popped r e s t (stack_of s) h

pub steps_shift : StepsShift
steps_shift s t None reads goes =
    kept_by_step s t (λ (world : World). world.kept.registers.stack ≡ stack_of s) None (as_element s None reads) tt refl
    goes
steps_shift s t (Some e) reads goes = by_kind e.kind refl
  where
    kept : (k : Kind) → e.kind ≡ k → is_of_stack k ≡ false → stack_of t ≡ stack_of s
    kept k is none =
        kept_by_step s t (λ (world : World). world.kept.registers.stack ≡ stack_of s) (Some e)
        (as_element s (Some e) reads) (stack_keeps e.kind (stack_of s) (ap is_of_stack is ∙ none)) refl goes

    by_kind : (k : Kind) → e.kind ≡ k → ShiftsByKind k (stack_of s) (stack_of t)
    by_kind (kind.Stack k) is =
        by_stack k e s t (ap (λ k. settle e s (reply_of k e s)) (sym is) ∙ sym (as_read s (Some e) reads) ∙ goes)
    by_kind (kind.Flow k) is = kept (kind.Flow k) is refl
    by_kind (kind.Argument k) is = kept (kind.Argument k) is refl
    by_kind (kind.Value k) is = kept (kind.Value k) is refl
    by_kind (kind.Query k) is = kept (kind.Query k) is refl
    by_kind (kind.Command k) is = kept (kind.Command k) is refl
    by_kind (kind.Page k) is = kept (kind.Page k) is refl
    by_kind (kind.Call k) is = kept (kind.Call k) is refl
    by_kind (kind.Search k) is = kept (kind.Search k) is refl
    by_kind (kind.File k) is = kept (kind.File k) is refl
