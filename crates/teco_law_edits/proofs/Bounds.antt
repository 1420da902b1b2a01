-- All runs of a strict edit together take no more commands than their bounds together.
use Rattle.std.proofs.Common.{◌≤◌, ◌+◌, ℕ, min, List, Bool, Option, Result, Ok, Err}
use Rattle.std.proofs.Common.{sym, subst, arith}
use Rattle.std.specs.Bool.{⊤}
use Rattle.teco_apply.specs.Apply.{AnswersText, Course, opening}
use Rattle.teco_apply.specs.ByPages.{Behind, BehindMacro, BehindPage, Closing, EachPage, EditCourse}
use Rattle.teco_apply.specs.ByPages.{EditsPages, EndsInMacro, EndsWith, FromStart, Gathers, Once, Order, PagesTurned}
use Rattle.teco_apply.specs.ByPages.{nothing_done, tally_after, to_start}
use Rattle.teco_apply.specs.Sure.{MOST}
use Rattle.teco_apply.specs.declared.by_pages.Edited.{Edited}
use Rattle.teco_options.specs.declared.editing.PageChoice.{PageChoice}
use Rattle.teco_options.specs.declared.editing.PageChoice.TheVariants as pages
use Rattle.teco_apply.specs.declared.stages.Ran.{Ran}
use Rattle.teco_apply.specs.declared.stages.Ran.TheVariants as ran
use Rattle.teco_apply.specs.declared.stages.Tally.{Tally}
use Rattle.teco_law_edits.proofs.Running.{macro_steps}
use Rattle.teco_law_edits.specs.Bounds.{IsBounded, behind_bound, each_bound, macro_bound}
use Rattle.teco_law_edits.specs.Bounds.{once_bound, pages_bound, turned_bound}
use Rattle.teco_law_edits.specs.Strict.{IsStrict}
use Rattle.teco_model.specs.State.{World}
use Rattle.teco_session.specs.declared.fault.SessionFault.{SessionFault}

-- what is told of an edit took at most so many steps
Took : ℕ → Result Edited SessionFault → Type 0
Took most (Ok edited) = edited.steps ≤ most
Took most (Err cannot) = ⊤

less_took : (some most : ℕ) (result : Result Edited SessionFault) → some ≤ most → Took some result → Took most result
unfolding Took
less_took some most (Ok edited) less took = omega (arith, less, took)
less_took some most (Err cannot) less took = tt

told_took : (done : Tally) (line : Result Bool SessionFault) (result : Result Edited SessionFault)
    → EndsWith done line result → Took done.steps result
unfolding Took
told_took done (Ok coded) result is = subst (Took done.steps) (sym is) (omega arith)
told_took done (Err cannot) result is = subst (Took done.steps) (sym is) tt

told_in_macro : (done : Tally) (answer : Result Ran SessionFault) (result : Result Edited SessionFault)
    → EndsInMacro done answer result → Took done.steps result
unfolding Took
told_in_macro done (Ok (ran.On steps)) result is = absurd is
told_in_macro done (Ok ran.Coded) result is = subst (Took done.steps) (sym is) (omega arith)
told_in_macro done (Ok ran.Refused) result is = subst (Took done.steps) (sym is) (omega arith)
told_in_macro done (Err cannot) result is = subst (Took done.steps) (sym is) tt

module _ (order : Order) (strict : IsStrict order) where
  -- what is done behind a run
  Onward : (Tally → EditCourse) → Type 0
  Onward More = (done : Tally) (old new : World) (f g : ℕ) (sink sunk : Option (List ℕ))
      (result : Result Edited SessionFault) → More done old new f g sink sunk result → Took done.steps result

  closing_took : Onward Closing
  unfolding Onward
  closing_took done old new f g sink sunk result c = told_took done c.line result c.told

  page_took : Onward BehindPage
  unfolding Onward
  page_took done old new f g sink sunk result (BehindPage.closes none c) = told_took done c.line result c.told
  page_took done old new f g sink sunk result (BehindPage.stops line not turned told) = told_took done line result told

  macro_took : (More : Tally → EditCourse) → Onward More → (done : Tally) (old new : World) (f g : ℕ)
      (sink sunk : Option (List ℕ)) (result : Result Edited SessionFault)
      (m : BehindMacro order done More old new f g sink sunk result)
      → Took (done.steps + macro_bound order done More old new f g sink sunk result m) result
  unfolding Onward
  macro_took More onward done old new f g sink sunk result (BehindMacro.stops answer runs ends) =
      less_took done.steps _ result (omega arith) (told_in_macro done answer result ends)
  macro_took More onward done old new f g sink sunk result (BehindMacro.goes_on steps mid count written runs rest) =
      let few = macro_steps order strict old mid f count sink written runs.answers in
      less_took (min (done.steps + steps) MOST) _ result (omega (arith, few, runs.counted))
      (onward (tally_after steps done) mid new count g written sunk result rest)

  turned_took : (old : World) (f : ℕ) (sink : Option (List ℕ)) (done : Tally) (mid : World) (k : ℕ)
      (written : Option (List ℕ)) (turned : PagesTurned order old f sink done mid k written)
      → done.steps ≤ turned_bound order old f sink done mid k written turned
  turned_took old f sink done mid k written PagesTurned.none = omega arith
  turned_took old f sink done mid k written
      (PagesTurned.one_more before steps was edited _ m n _ w more _ turned runs turn) =
      let few = macro_steps order strict was edited m n w more runs.answers in
      let rest = turned_took old f sink before was m w turned in
      omega (arith, few, rest, runs.counted)

  each_took : (old new : World) (f g : ℕ) (sink sunk : Option (List ℕ)) (result : Result Edited SessionFault)
      (e : EachPage order old new f g sink sunk result) → Took (each_bound order old new f g sink sunk result e) result
  each_took old new f g sink sunk result (EachPage.ends done mid count written turned rest) =
      let before = turned_took old f sink done mid count written turned in
      less_took (done.steps + macro_bound order done BehindPage mid new count g written sunk result rest) _ result
      (omega (arith, before)) (macro_took BehindPage page_took done mid new count g written sunk result rest)
  each_took old new f g sink sunk result (EachPage.full done mid count written line turned is many told) =
      less_took done.steps _ result (turned_took old f sink done mid count written turned)
      (told_took done line result told)

  Bounds : (More : EditCourse) → ((old new : World) (f g : ℕ) (sink sunk : Option (List ℕ))
      (result : Result Edited SessionFault) → More old new f g sink sunk result → ℕ) → Type 0
  Bounds More bound = (old new : World) (f g : ℕ) (sink sunk : Option (List ℕ)) (result : Result Edited SessionFault)
      (m : More old new f g sink sunk result) → Took (bound old new f g sink sunk result m) result

  behind_took : (First : Course) (More : EditCourse) (bound : (old new : World) (f g : ℕ) (sink sunk : Option (List ℕ))
      (result : Result Edited SessionFault) → More old new f g sink sunk result → ℕ) → Bounds More bound
      → Bounds (Behind First More) (behind_bound First More bound)
  unfolding Bounds
  behind_took First More bound more old new f g sink sunk result (Behind.stops line not first told) =
      told_took nothing_done line result told
  behind_took First More bound more old new f g sink sunk result (Behind.goes_on mid count written first rest) =
      more mid new count g written sunk result rest

  once_took : Bounds (Once order) (once_bound order)
  unfolding Bounds
  once_took old new f g sink sunk result m =
      less_took (0 + macro_bound order nothing_done Closing old new f g sink sunk result m) _ result (omega arith)
      (macro_took Closing closing_took nothing_done old new f g sink sunk result m)

  pages_took : (pages : PageChoice) → Bounds (EditsPages pages order) (pages_bound pages order)
  unfolding Bounds
  pages_took pages.First = once_took
  pages_took pages.Each = each_took
  pages_took pages.Whole =
      behind_took Gathers (FromStart order) (behind_bound (AnswersText to_start) (Once order) (once_bound order))
      (behind_took (AnswersText to_start) (Once order) (once_bound order) once_took)

pub strict_is_bounded : (order : Order) → IsStrict order → IsBounded order
unfolding Bounds Took
strict_is_bounded order strict pages source target old new f g sink sunk edited e =
    behind_took order strict (AnswersText (opening source target)) (EditsPages pages order) (pages_bound pages order)
    (pages_took order strict pages) old e.edited f e.count sink sunk (Ok edited) e.edits
