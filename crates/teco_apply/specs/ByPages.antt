-- What editing a file by pages does.
use Rattle.std.specs.Prelude.{ℕ, ◌≡◌, ◌≢◌, ◌+◌, ◌≤◌, ◌⊎◌, min, List, [], ◌∷◌, ◌++◌, codes, Bool, true, false, ◌||◌}
use Rattle.std.specs.Prelude.{Option, IfSome, Result, Ok, Err}
use Rattle.std.specs.Io.KnownBytes.{Keeps}
use Rattle.teco_apply.specs.Apply.{AnswersText, BothOpen, Course, DropsIfCoded, IsNotRun, LineCounts, RunWrites}
use Rattle.teco_apply.specs.Apply.{are_plain, closing, opening}
use Rattle.teco_apply.specs.Sure.{PromisedCall, MOST, Runs, loaded}
use Rattle.teco_apply.specs.declared.by_pages.Edited.{Edited}
use Rattle.teco_options.specs.declared.editing.PageChoice.{PageChoice}
use Rattle.teco_options.specs.declared.editing.PageChoice.TheVariants.{First, Each, Whole}
use Rattle.teco_apply.specs.declared.by_pages.TheConstants.{PAGES}
use Rattle.teco_apply.specs.declared.stages.Ran.{Ran}
use Rattle.teco_apply.specs.declared.stages.Ran.TheVariants as ran
use Rattle.teco_apply.specs.declared.stages.Tally.{Tally}
use Rattle.teco_apply.specs.declared.stages.Turned.{Turned}
use Rattle.teco_apply.specs.declared.stages.Turned.TheVariants as turned
use Rattle.teco_base.specs.declared.bytes.TheConstants.{ESC}
use Rattle.teco_model.specs.Paging.{unread, unread_of}
use Rattle.teco_model.specs.State.{World, held_length}
use Rattle.teco_model.specs.declared.stop.Stop.{Stop}
use Rattle.teco_model.specs.declared.stop.Stop.TheVariants as stop
use Rattle.teco_run.specs.Unread.{TellsIfUnread}
use Rattle.teco_session.specs.declared.fault.SessionFault.{SessionFault}
use Rattle.teco_session.specs.declared.fault.SessionFault.TheVariants as fault

-- ---- command strings
-- what turns to the next page; what reads it behind the page before, with the form feed between them; what goes to
-- the start
abbrev pub turning : List ℕ
turning = codes "P"

abbrev pub gathering : List ℕ
gathering = codes "ZJ12I" ++ ESC ∷ codes "A"

abbrev pub to_start : List ℕ
to_start = codes "J"

-- ---- what was done so far
abbrev pub nothing_done : Tally
nothing_done = record { pages = 0; steps = 0 }

-- the steps of a run that came to an end
abbrev pub steps_of : Stop → ℕ
steps_of (stop.Ended n) = n
steps_of (stop.Exit n) = n
steps_of (stop.Error c) = 0
steps_of stop.Limit = 0
steps_of stop.Memory = 0
steps_of (stop.HostFault fault) = 0

-- the macro came to its end on one more page
abbrev pub tally_after : ℕ → Tally → Tally
tally_after steps done = record { pages = done.pages + 1; steps = min (done.steps + steps) MOST }

-- what is answered where so much is done
abbrev pub edited_with : Tally → Bool → Bool → Edited
edited_with done coded refused =
    record { coded = coded; refused = refused; pages = done.pages; steps = done.steps }

-- what edits do to what stays, to the host's count of failures and to what is written
abbrev pub EditCourse : Type 1
EditCourse = World → World → ℕ → ℕ → Option (List ℕ) → Option (List ℕ) → Result Edited SessionFault → Type 0

-- an edit ends with a command string: it says whether that was a code
abbrev pub EndsWith : Tally → Result Bool SessionFault → Result Edited SessionFault → Type 0
EndsWith done (Ok coded) result = result ≡ Ok (edited_with done coded false)
EndsWith done (Err cannot) result = result ≡ Err cannot

-- ---- the macro
-- what an answer says, where so many characters are held, and no more bytes than these are unread, if that is known
abbrev pub Answering : Type 1
Answering = ℕ → Option ℕ → Bool → Type 0

-- a macro that is to be run, and what a guard's answers say
pub record Order : Type 1 where
  pub call : PromisedCall
  pub answers : Answering

abbrev pub order_by : Answering → PromisedCall → Order
order_by answers call = record { call = call; answers = answers }

-- it was asked with what is held, and at least what is unread, if that is told
pub record IsAskedAt (answers : Answering) (world : World) (answer : Bool) : Type 0 where
  pub most : Option ℕ
  pub unread : IfSome most (λ n. unread_of world ≤ n)
  pub answered : answers (held_length world.kept) most answer

-- it was asked where the library is loaded
abbrev pub IsAnswered : Order → World → Bool → Type 0
IsAnswered order old answer = IsAskedAt order.answers (loaded order.call.promise.library old) answer

-- it has said no, and the library stays loaded
pub record IsRefused (order : Order) (old new : World) : Type 0 where
  pub answered : IsAnswered order old false
  pub stays : new ≡ loaded order.call.promise.library old

-- the macro is run, and the guard has said yes; or it is not run
abbrev pub AdmittedStops : Order → World → Stop → World → Type 0
AdmittedStops order old stop new =
    (IsAnswered order old true × Runs order.call stop old new) ⊎ IsNotRun order.call.promise.needs old stop new

abbrev pub AnswersAdmitted : Order → Course
AnswersAdmitted order old new f g sink sunk result =
    RunWrites (AdmittedStops order old) new f g sink sunk result

-- the macro came to an end, in this many steps
pub record RunsOn (order : Order) (old new : World) (f g : ℕ) (sink sunk : Option (List ℕ))
    (steps : ℕ) : Type 0 where
  pub answers : AnswersAdmitted order old new f g sink sunk (Ok false)
  pub counted : steps ≡ steps_of answers.stop

-- The macro is run, if the guard admits that; else its library stays loaded.
abbrev pub RunsAdmitted : Order → World → World → ℕ → ℕ → Option (List ℕ) → Option (List ℕ)
    → Result Ran SessionFault → Type 0
RunsAdmitted order old new f g sink sunk (Ok (ran.On steps)) = RunsOn order old new f g sink sunk steps
RunsAdmitted order old new f g sink sunk (Ok ran.Coded) = AnswersAdmitted order old new f g sink sunk (Ok true)
RunsAdmitted order old new f g sink sunk (Ok ran.Refused) = IsRefused order old new × (g ≡ f) × (sunk ≡ sink)
RunsAdmitted order old new f g sink sunk (Err cannot) = AnswersAdmitted order old new f g sink sunk (Err cannot)

-- what the macro came to where it is run, by whether a code was written
abbrev pub RanBy : Result Bool SessionFault → Stop → Result Ran SessionFault → Type 0
RanBy (Ok false) answer result = result ≡ Ok (ran.On (steps_of answer))
RanBy (Ok true) answer result = result ≡ Ok ran.Coded
RanBy (Err cannot) answer result = result ≡ Err cannot

-- an edit ends with the macro, unless that came to an end
abbrev pub EndsInMacro : Tally → Result Ran SessionFault → Result Edited SessionFault → Type 0
EndsInMacro done (Ok (ran.On steps)) result = ⊥
EndsInMacro done (Ok ran.Coded) result = result ≡ Ok (edited_with done true false)
EndsInMacro done (Ok ran.Refused) result = result ≡ Ok (edited_with done false true)
EndsInMacro done (Err cannot) result = result ≡ Err cannot

-- the macro is run, and where it came to an end more is done
pub data BehindMacro (order : Order) (done : Tally) (More : Tally → EditCourse) (old new : World) (f g : ℕ)
    (sink sunk : Option (List ℕ)) (result : Result Edited SessionFault) : Type 0 where
  stops :
      (answer : Result Ran SessionFault) →
      RunsAdmitted order old new f g sink sunk answer → EndsInMacro done answer result →
      BehindMacro order done More old new f g sink sunk result
  goes_on :
      (steps : ℕ) (mid : World) (count : ℕ) (written : Option (List ℕ)) →
      RunsAdmitted order old mid f count sink written (Ok (ran.On steps)) →
      More (tally_after steps done) mid new count g written sunk result →
      BehindMacro order done More old new f g sink sunk result

-- the output is closed
pub record Closing (done : Tally) (old new : World) (f g : ℕ) (sink sunk : Option (List ℕ))
    (result : Result Edited SessionFault) : Type 0 where
  pub line : Result Bool SessionFault
  pub closes : AnswersText closing old new f g sink sunk line
  pub told : EndsWith done line result

-- ---- page after page
-- whether bytes are unread can't be told: why is written
abbrev pub Untold : Course
Untold old new f g sink sunk line =
    RunWrites (λ why after. TellsIfUnread old after (Err why)) new f g sink sunk line

-- bytes are unread, and a command string is run
pub record RunsForMore (text : List ℕ) (old new : World) (f g : ℕ) (sink sunk : Option (List ℕ))
    (line : Result Bool SessionFault) : Type 0 where
  pub some : unread old.files ≢ []
  pub answers : AnswersText text old new f g sink sunk line

abbrev pub Turning : List ℕ → Course
Turning text old new f g sink sunk line = RunsForMore text old new f g sink sunk line
    ⊎ Untold old new f g sink sunk line

-- what came of one that is run, by whether a code was written
abbrev pub TurnedBy : Result Bool SessionFault → Result Turned SessionFault → Type 0
TurnedBy (Ok false) result = result ≡ Ok turned.On
TurnedBy (Ok true) result = result ≡ Ok turned.Coded
TurnedBy (Err cannot) result = result ≡ Err cannot

-- A command string is run, if bytes are unread; else nothing is done.
abbrev pub Turns : List ℕ → World → World → ℕ → ℕ → Option (List ℕ) → Option (List ℕ)
    → Result Turned SessionFault → Type 0
Turns text old new f g sink sunk (Ok turned.On) = Turning text old new f g sink sunk (Ok false)
Turns text old new f g sink sunk (Ok turned.Through) =
    (unread old.files ≡ []) × (new ≡ old) × (g ≡ f) × (sunk ≡ sink)
Turns text old new f g sink sunk (Ok turned.Coded) = Turning text old new f g sink sunk (Ok true)
Turns text old new f g sink sunk (Err cannot) = Turning text old new f g sink sunk (Err cannot)

-- there are more pages than an edit takes: the code of a limit is written
abbrev pub TooMany : Course
TooMany old new f g sink sunk line =
    RunWrites (λ why after. (why ≡ stop.Limit) × (after ≡ old)) new f g sink sunk line

-- A number of pages were edited, one after another: behind each the next was turned to.
pub data PagesTurned (order : Order) (old : World) (f : ℕ) (sink : Option (List ℕ)) :
    Tally → World → ℕ → Option (List ℕ) → Type 0 where
  none : PagesTurned order old f sink nothing_done old f sink
  one_more :
      (done : Tally) (steps : ℕ) (mid edited new : World) (k m g : ℕ) (written more sunk : Option (List ℕ)) →
      PagesTurned order old f sink done mid k written →
      RunsAdmitted order mid edited k m written more (Ok (ran.On steps)) →
      Turning turning edited new m g more sunk (Ok false) →
      PagesTurned order old f sink (tally_after steps done) new g sunk

-- Behind the macro on a page no bytes are unread, and the output is closed; or turning to the next page is the end.
pub data BehindPage (done : Tally) (old new : World) (f g : ℕ) (sink sunk : Option (List ℕ))
    (result : Result Edited SessionFault) : Type 0 where
  closes : unread old.files ≡ [] → Closing done old new f g sink sunk result
      → BehindPage done old new f g sink sunk result
  stops :
      (line : Result Bool SessionFault) →
      line ≢ Ok false → Turning turning old new f g sink sunk line → EndsWith done line result →
      BehindPage done old new f g sink sunk result

-- The macro is run on each page in turn, as long as bytes are unread behind it.
pub data EachPage (order : Order) (old new : World) (f g : ℕ) (sink sunk : Option (List ℕ))
    (result : Result Edited SessionFault) : Type 0 where
  ends :
      (done : Tally) (mid : World) (count : ℕ) (written : Option (List ℕ)) →
      PagesTurned order old f sink done mid count written →
      BehindMacro order done BehindPage mid new count g written sunk result →
      EachPage order old new f g sink sunk result
  full :
      (done : Tally) (mid : World) (count : ℕ) (written : Option (List ℕ)) (line : Result Bool SessionFault) →
      PagesTurned order old f sink done mid count written → done.pages ≡ PAGES →
      TooMany mid new count g written sunk line → EndsWith done line result →
      EachPage order old new f g sink sunk result

-- ---- all pages as one
-- this many pages were read behind the first
pub data PagesGathered (old : World) (f : ℕ) (sink : Option (List ℕ)) : ℕ → World → ℕ
    → Option (List ℕ) → Type 0 where
  none : PagesGathered old f sink 0 old f sink
  one_more :
      (pages : ℕ) (mid new : World) (k g : ℕ) (written sunk : Option (List ℕ)) →
      PagesGathered old f sink pages mid k written →
      Turning gathering mid new k g written sunk (Ok false) →
      PagesGathered old f sink (pages + 1) new g sunk

-- All pages are read, as long as bytes are unread.
pub data Gathers (old new : World) (f g : ℕ) (sink sunk : Option (List ℕ))
    (line : Result Bool SessionFault) : Type 0 where
  through :
      (pages : ℕ) →
      PagesGathered old f sink pages new g sunk → unread new.files ≡ [] → line ≡ Ok false →
      Gathers old new f g sink sunk line
  stops :
      (pages : ℕ) (mid : World) (count : ℕ) (written : Option (List ℕ)) →
      PagesGathered old f sink pages mid count written →
      line ≢ Ok false → Turning gathering mid new count g written sunk line →
      Gathers old new f g sink sunk line
  full :
      (mid : World) (count : ℕ) (written : Option (List ℕ)) →
      PagesGathered old f sink PAGES mid count written → TooMany mid new count g written sunk line →
      Gathers old new f g sink sunk line

-- ---- the whole
-- command strings, and behind them, where none is a code and all is written, the rest of an edit
pub data Behind (First : Course) (More : EditCourse) (old new : World) (f g : ℕ) (sink sunk : Option (List ℕ))
    (result : Result Edited SessionFault) : Type 0 where
  stops :
      (line : Result Bool SessionFault) →
      line ≢ Ok false → First old new f g sink sunk line → EndsWith nothing_done line result →
      Behind First More old new f g sink sunk result
  goes_on :
      (mid : World) (count : ℕ) (written : Option (List ℕ)) →
      First old mid f count sink written (Ok false) → More mid new count g written sunk result →
      Behind First More old new f g sink sunk result

-- the macro is run once, and the output is closed
abbrev pub Once : Order → EditCourse
Once order = BehindMacro order nothing_done Closing

-- an edit whose first command string goes to the start
abbrev pub FromStart : Order → EditCourse
FromStart order = Behind (AnswersText to_start) (Once order)

-- all pages are read, and edited as one
abbrev pub AllPages : Order → EditCourse
AllPages order = Behind Gathers (FromStart order)

-- what is done once the first page is read
abbrev pub EditsPages : PageChoice → Order → EditCourse
EditsPages First order = Once order
EditsPages Each order = EachPage order
EditsPages Whole order = AllPages order

abbrev pub EditsText : PageChoice → Order → List ℕ → EditCourse
EditsText pages order text = Behind (AnswersText text) (EditsPages pages order)

-- the output is dropped behind a code, and where the guard refused a run
abbrev pub is_dropped : Result Edited SessionFault → Result Bool SessionFault
is_dropped (Ok edited) = Ok (edited.coded || edited.refused)
is_dropped (Err cannot) = Err cannot

-- Where no name has an ESC, what opens the files leaves both open, so that the macro lacks none when it is first run.
abbrev pub OpensBoth : List ℕ → List ℕ → World → Type 0
OpensBoth source target old =
    (new : World) (f g : ℕ) (sink sunk : Option (List ℕ)) → are_plain source target ≡ true →
    AnswersText (opening source target) old new f g sink sunk (Ok false) → BothOpen new.files

-- the edit of one file into another
pub record EditsFile (pages : PageChoice) (order : Order) (source target : List ℕ) (old new : World) (f g : ℕ)
    (sink sunk : Option (List ℕ)) (result : Result Edited SessionFault) : Type 0 where
  pub edited : World
  pub count : ℕ
  pub edits : EditsText pages order (opening source target) old edited f count sink sunk result
  pub opens : OpensBoth source target old
  pub drops : DropsIfCoded (is_dropped result) edited new count g

-- What comes of it. With an argument that the macro does not take, or without memory for the first command string,
-- nothing is done.
abbrev pub FileEdited : PageChoice → Order → List ℕ → List ℕ → EditCourse
FileEdited pages order source target old new f g sink sunk (Ok edited) =
    EditsFile pages order source target old new f g sink sunk (Ok edited)
FileEdited pages order source target old new f g sink sunk (Err fault.Write) =
    EditsFile pages order source target old new f g sink sunk (Err fault.Write)
FileEdited pages order source target old new f g sink sunk (Err fault.Memory) = (new ≡ old) × Keeps sink sunk
FileEdited pages order source target old new f g sink sunk (Err fault.Argument) = (new ≡ old) × Keeps sink sunk
FileEdited pages order source target old new f g sink sunk (Err fault.Read) = ⊥

-- ---- counts, for every host
-- The host's count of failures, from f to g, rises only where a code is written, or a run's bytes cannot be.
abbrev pub RanCounts : Result Ran SessionFault → ℕ → ℕ → Type 0
RanCounts (Ok (ran.On steps)) f g = LineCounts (Ok false) f g
RanCounts (Ok ran.Coded) f g = LineCounts (Ok true) f g
RanCounts (Ok ran.Refused) f g = g ≡ f
RanCounts (Err cannot) f g = LineCounts (Err cannot) f g

abbrev pub TurnCounts : Result Turned SessionFault → ℕ → ℕ → Type 0
TurnCounts (Ok turned.On) f g = LineCounts (Ok false) f g
TurnCounts (Ok turned.Through) f g = g ≡ f
TurnCounts (Ok turned.Coded) f g = LineCounts (Ok true) f g
TurnCounts (Err cannot) f g = LineCounts (Err cannot) f g

abbrev pub PagesCount : Result Edited SessionFault → ℕ → ℕ → Type 0
PagesCount (Ok edited) f g = LineCounts (Ok edited.coded) f g
PagesCount (Err cannot) f g = LineCounts (Err cannot) f g

-- Of the whole: where the output is dropped the host may fail in that, too.
abbrev pub FileCounts : Result Edited SessionFault → ℕ → ℕ → Type 0
FileCounts (Ok edited) f g = LineCounts (Ok (edited.coded || edited.refused)) f g
FileCounts (Err fault.Write) f g = f ≤ g
FileCounts (Err fault.Memory) f g = g ≡ f
FileCounts (Err fault.Argument) f g = g ≡ f
FileCounts (Err fault.Read) f g = ⊥
