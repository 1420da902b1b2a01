-- How many steps P and PW take.
use Rattle.teco_law_facts.proofs.Prelude.{ℕ, arith, ℤ, pos, ◌≤ℤ◌, Option, Some, None, Result, Ok, Err, IfOk, w32}
use Rattle.teco_law_facts.proofs.Prelude.{FitsSigned, unwrap_or, ints, Kept, Taken, Page, Polynomial, value, KnownTaken}
use Rattle.teco_law_facts.proofs.Prelude.{Run, IsWhole, Describes, IsTaken, IsOptional, fore_of, back_of, Facts}
use Rattle.teco_law_facts.proofs.Prelude.{steps_of_page, Tells, PagesAtMost, IsTurnOrWrite, IsValue, IsPlaceIf}
use Rattle.teco_law_facts.proofs.Prelude.{Value, RefusalReason}
use Rattle.teco_model.specs.Arguments as model
use Rattle.teco_model.specs.declared.kind.Page.TheVariants as page
use Rattle.teco_law_facts.proofs.Flowing.{tells_then, taking_is, bound_is}
use Rattle.teco_law_facts.proofs.Motion.{or_single}
use Rattle.teco_law_facts.proofs.Shapes.{value-number}
use Rattle.teco_verifier.specs.facts.Motions.{or_one}
use Rattle.teco_verifier.specs.facts.Printed.{steps_of_pages}
use Rattle.teco_law_facts.specs.SoundPages.{PageStepsAreBounded}

one_fits : (fore back : ℕ) (o : Option Value) (v : Option ℤ) → IsOptional (IsValue fore back) o v
    → FitsSigned w32 (unwrap_or v (pos 1))
one_fits fore back None None i = omega (arith, ints)
one_fits fore back (Some s) (Some v) i = i.fits
one_fits fore back None (Some v) i = absurd i
one_fits fore back (Some s) None i = absurd i

one_saved : (fore back : ℕ) (o : Option Value) (v : Option ℤ) → IsOptional (IsValue fore back) o v
    → IsPlaceIf (or_one o).saved fore back (unwrap_or v (pos 1))
one_saved fore back None v i = tt
one_saved fore back (Some s) (Some v) i = i.saved
one_saved fore back (Some s) None i = absurd i

module _ (run : Run) (facts : Facts) (unread : ℕ) (kept : Kept) (arguments : model.Arguments) (whole : IsWhole kept)
    (d : Describes run facts unread kept arguments) where
  counted_steps : (o : Option Value) (v : Option ℤ) → IsOptional (IsValue (fore_of kept) (back_of kept)) o v
      → IfOk (steps_of_pages None o facts) (λ most. unwrap_or v (pos 1) ≤ℤ pos (value most run.n))
  counted_steps o v i = bound_is run facts unread kept arguments whole d (or_one o) (unwrap_or v (pos 1))
      (record {
        is = or_single (fore_of kept) (back_of kept) o v (pos 1) i;
        saved = one_saved (fore_of kept) (back_of kept) o v i;
        fits = one_fits (fore_of kept) (back_of kept) o v i;
      })

  pages_most : (f o : Option Value) (m v : Option ℤ) → IsOptional (IsValue (fore_of kept) (back_of kept)) f m
      → IsOptional (IsValue (fore_of kept) (back_of kept)) o v
      → IfOk (steps_of_pages f o facts) (λ most. PagesAtMost (value most run.n) m v)
  pages_most (Some s) (Some t) (Some v) (Some w) i j = omega (arith, value-number 1 run.n)
  pages_most None o None v i j = counted_steps o v j
  pages_most (Some s) None (Some v) None i j = counted_steps None None tt
  pages_most f o m v i j = absurd (grind arith)

  told : (r : Result Polynomial RefusalReason) (t : Taken)
      → IfOk r (λ most. PagesAtMost (value most run.n) t.first t.value)
      → Tells (λ most (taken : Taken). PagesAtMost (value most run.n) taken.first taken.value) r (Ok t)
  told (Ok most) t h = λ l. h
  told (Err why) t h = tt

  steps_told : (p : Page) → IsTurnOrWrite p → (k : KnownTaken) (t : Taken) → IsTaken (fore_of kept) (back_of kept) k t
      → Tells (λ most (taken : Taken). PagesAtMost (value most run.n) taken.first taken.value) (steps_of_page p k facts)
      (Ok t)
  steps_told page.Next b k t i = told _ t (pages_most k.first k.value t.first t.value i.first i.value)
  steps_told page.Write b k t i = told _ t (pages_most k.first k.value t.first t.value i.first i.value)
  steps_told p b k t i = absurd (grind arith)

pub page_steps_are_bounded : PageStepsAreBounded
page_steps_are_bounded run facts unread kept arguments p whole d b =
    tells_then (IsTaken (fore_of kept) (back_of kept))
    (λ most (taken : Taken). PagesAtMost (value most run.n) taken.first taken.value) _ _ _
    (taking_is run facts unread kept arguments whole d) (steps_told run facts unread kept arguments whole d p b)
