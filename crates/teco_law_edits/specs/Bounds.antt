-- The bound of an edit: the sum of the printed numbers of commands of its runs.
use Rattle.std.specs.Prelude.{◌≤◌, ◌+◌, ℕ, List, Option, Result, Ok}
use Rattle.teco_jobs.specs.Strict.{AreStrict, on_terms}
use Rattle.teco_jobs.specs.declared.watching.Terms.{Terms}
use Rattle.teco_apply.specs.Apply.{AnswersText, Course, opening}
use Rattle.teco_apply.specs.ByPages.{Behind, BehindMacro, BehindPage, Closing, EachPage, EditCourse, EditsFile}
use Rattle.teco_apply.specs.ByPages.{EditsPages, EditsText, FromStart, Gathers, Once, Order, PagesTurned, nothing_done}
use Rattle.teco_apply.specs.ByPages.{to_start}
use Rattle.teco_apply.specs.Sure.{PromisedCall, loaded}
use Rattle.teco_apply.specs.declared.by_pages.Edited.{Edited}
use Rattle.teco_options.specs.declared.editing.PageChoice.{PageChoice}
use Rattle.teco_options.specs.declared.editing.PageChoice.TheVariants as pages
use Rattle.teco_apply.specs.declared.stages.Tally.{Tally}
use Rattle.teco_law_runs.specs.Ready.{n_of}
use Rattle.teco_model.specs.State.{World}
use Rattle.teco_poly.specs.Polynomial.{value}
use Rattle.teco_session.specs.declared.fault.SessionFault.{SessionFault}

-- the printed number of commands of a run that begins here
abbrev pub bound_at : Order → World → ℕ
bound_at order old = value order.call.promise.commands (n_of (loaded order.call.promise.library old))

-- of the runs on the pages that were turned
abbrev pub turned_bound : (order : Order) (old : World) (f : ℕ) (sink : Option (List ℕ)) (done : Tally) (mid : World)
    (k : ℕ) (written : Option (List ℕ)) → PagesTurned order old f sink done mid k written → ℕ
turned_bound order old f sink done mid k written PagesTurned.none = 0
turned_bound order old f sink done mid k written
    (PagesTurned.one_more before steps was edited _ m n _ w more _ turned runs turn) =
    turned_bound order old f sink before was m w turned + bound_at order was

-- of a run that came to its end
abbrev pub macro_bound : (order : Order) (done : Tally) (More : Tally → EditCourse) (old new : World) (f g : ℕ)
    (sink sunk : Option (List ℕ)) (result : Result Edited SessionFault)
    → BehindMacro order done More old new f g sink sunk result → ℕ
macro_bound order done More old new f g sink sunk result (BehindMacro.stops answer runs ends) = 0
macro_bound order done More old new f g sink sunk result (BehindMacro.goes_on steps mid count written runs rest) =
    bound_at order old

-- page after page
abbrev pub each_bound : (order : Order) (old new : World) (f g : ℕ) (sink sunk : Option (List ℕ))
    (result : Result Edited SessionFault) → EachPage order old new f g sink sunk result → ℕ
each_bound order old new f g sink sunk result (EachPage.ends done mid count written turned rest) =
    turned_bound order old f sink done mid count written turned
    + macro_bound order done BehindPage mid new count g written sunk result rest
each_bound order old new f g sink sunk result (EachPage.full done mid count written line turned is many told) =
    turned_bound order old f sink done mid count written turned

-- behind command strings
abbrev pub behind_bound : (First : Course) (More : EditCourse)
    (bound : (old new : World) (f g : ℕ) (sink sunk : Option (List ℕ)) (result : Result Edited SessionFault)
    → More old new f g sink sunk result → ℕ)
    (old new : World) (f g : ℕ) (sink sunk : Option (List ℕ)) (result : Result Edited SessionFault)
    → Behind First More old new f g sink sunk result → ℕ
behind_bound First More bound old new f g sink sunk result (Behind.stops line not first told) = 0
behind_bound First More bound old new f g sink sunk result (Behind.goes_on mid count written first rest) =
    bound mid new count g written sunk result rest

abbrev pub once_bound : (order : Order) (old new : World) (f g : ℕ) (sink sunk : Option (List ℕ))
    (result : Result Edited SessionFault) → Once order old new f g sink sunk result → ℕ
once_bound order = macro_bound order nothing_done Closing

abbrev pub pages_bound : (pages : PageChoice) (order : Order) (old new : World) (f g : ℕ) (sink sunk : Option (List ℕ))
    (result : Result Edited SessionFault) → EditsPages pages order old new f g sink sunk result → ℕ
pages_bound pages.First order = once_bound order
pages_bound pages.Each order = each_bound order
pages_bound pages.Whole order =
    behind_bound Gathers (FromStart order) (behind_bound (AnswersText to_start) (Once order) (once_bound order))

-- of the runs of an edit that came to their end
abbrev pub edit_bound : (pages : PageChoice) (order : Order) (text : List ℕ) (old new : World) (f g : ℕ)
    (sink sunk : Option (List ℕ)) (result : Result Edited SessionFault)
    → EditsText pages order text old new f g sink sunk result → ℕ
edit_bound pages order text = behind_bound (AnswersText text) (EditsPages pages order) (pages_bound pages order)

-- The steps that are told of an edit are no more than its bound.
abbrev pub IsBounded : Order → Type 0
IsBounded order =
    (pages : PageChoice) (source target : List ℕ) (old new : World) (f g : ℕ) (sink sunk : Option (List ℕ))
    (edited : Edited)
    → (edit : EditsFile pages order source target old new f g sink sunk (Ok edited))
    → edited.steps
    ≤ edit_bound pages order (opening source target) old edit.edited f edit.count sink sunk (Ok edited) edit.edits

-- Its runs take no more commands than their bounds together.
abbrev pub StrictEditsAreBounded : Type 0
StrictEditsAreBounded =
    (terms : Terms) (call : PromisedCall) → AreStrict terms call → IsBounded (on_terms terms call)
