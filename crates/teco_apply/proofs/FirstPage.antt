-- The edit of a first page that no guard refuses.
use Rattle.teco_apply.proofs.Prelude.{◌≡◌, ◌≢◌, ℕ, List, Bool, true, false, Option, Result, Ok, Err, inl, inr, refl}
use Rattle.teco_apply.proofs.Prelude.{sym, ap, subst, ◌∙◌, AnswersText, BothOpen, MacroStops, closing, opening}
use Rattle.teco_apply.proofs.Prelude.{AdmittedStops, Behind, BehindMacro, EditsText, EndsInMacro, EndsWith, FileEdited}
use Rattle.teco_apply.proofs.Prelude.{Once, OpensBoth, Order, RunsAdmitted, is_dropped, nothing_done, order_by}
use Rattle.teco_apply.proofs.Prelude.{Edited, First, Ran, Tally, World, Stop, Telling, Holdings, Joined, Joined-on}
use Rattle.teco_apply.proofs.Prelude.{Said, SessionFault, Done, PromisedCall}
use Rattle.std.proofs.lemmas.Bool.{false≢true}
use Rattle.teco_apply.proofs.Edits.{macro_stops}
use Rattle.teco_apply.specs.Apply.{AnswersMacro, Applied, EditCounts, Edits, Finishes}
use Rattle.teco_apply.specs.Apply.{Then, are_plain}
use Rattle.teco_apply.specs.ByPages.{AnswersAdmitted}
use Rattle.teco_apply.specs.ByPages.{FileCounts}
use Rattle.teco_apply.specs.declared.stages.Ran.TheVariants as ran
use Rattle.teco_session.specs.declared.fault.SessionFault.TheVariants as fault

-- what ends with a line is dropped as that says
by_line : (done : Tally) (line : Result Bool SessionFault) (result : Result Edited SessionFault)
    → EndsWith done line result → line ≡ is_dropped result
by_line done (Ok true) result ends = rw ends refl
by_line done (Ok false) result ends = rw ends refl
by_line done (Err cannot) result ends = rw ends refl

module _ (call : PromisedCall) where
  -- no run is refused
  abbrev order : Order
  order = order_by (λ held most answer. answer ≡ true) call

  stops_as : (opened : Bool) (old : World) (stop : Stop) (new : World) → (opened ≡ true → BothOpen old.files)
      → AdmittedStops order old stop new → MacroStops opened call old stop new
  stops_as false old stop new both (inl ran) = inl ran.1
  stops_as false old stop new both (inr is) = inr is
  stops_as true old stop new both (inl ran) = inl ran.1
  stops_as true old stop new both (inr is) = macro_stops call old stop new (both refl) (inr is)

  answers_as : (opened : Bool) (old new : World) (f g : ℕ) (sink sunk : Option (List ℕ))
      (result : Result Bool SessionFault) → (opened ≡ true → BothOpen old.files)
      → AnswersAdmitted order old new f g sink sunk result → AnswersMacro opened call old new f g sink sunk result
  answers_as opened old new f g sink sunk result both a = record {
    stop = a.stop;
    after = a.after;
    ran = stops_as opened old a.stop a.after both a.ran;
    counted = a.counted;
    stays = a.stays;
    writes = a.writes;
    told = a.told;
  }

  ends_as : (opened : Bool) (old new : World) (f g : ℕ) (sink sunk : Option (List ℕ)) (answer : Result Ran SessionFault)
      (result : Result Edited SessionFault) → (opened ≡ true → BothOpen old.files)
      → RunsAdmitted order old new f g sink sunk answer → EndsInMacro nothing_done answer result
      → Finishes opened call old new f g sink sunk (is_dropped result)
  ends_as opened old new f g sink sunk (Ok (ran.On steps)) result both runs ends = absurd ends
  ends_as opened old new f g sink sunk (Ok ran.Coded) result both runs ends =
      rw ends (Then.stops (λ e. cc) (answers_as opened old new f g sink sunk (Ok true) both runs))
  ends_as opened old new f g sink sunk (Ok ran.Refused) result both runs ends =
      absurd (false≢true runs.0.answered.answered)
  ends_as opened old new f g sink sunk (Err cannot) result both runs ends =
      rw ends (Then.stops (λ e. cc) (answers_as opened old new f g sink sunk (Err cannot) both runs))

  once_as : (opened : Bool) (old new : World) (f g : ℕ) (sink sunk : Option (List ℕ))
      (result : Result Edited SessionFault) → (opened ≡ true → BothOpen old.files)
      → Once order old new f g sink sunk result → Finishes opened call old new f g sink sunk (is_dropped result)
  once_as opened old new f g sink sunk result both (BehindMacro.stops answer runs ends) =
      ends_as opened old new f g sink sunk answer result both runs ends
  once_as opened old new f g sink sunk result both (BehindMacro.goes_on steps mid count written runs closed) =
      Then.goes_on mid count written (answers_as opened old mid f count sink written (Ok false) both runs.answers)
      (subst (λ (l : Result Bool SessionFault). AnswersText closing mid new count g written sunk l)
      (by_line _ closed.line result closed.told) closed.closes)

  edits_as : (source target : List ℕ) (old new : World) (f g : ℕ) (sink sunk : Option (List ℕ))
      (result : Result Edited SessionFault) → OpensBoth source target old
      → EditsText First order (opening source target) old new f g sink sunk result
      → Edits (are_plain source target) call (opening source target) old new f g sink sunk (is_dropped result)
  edits_as source target old new f g sink sunk result opens (Behind.stops line other first ends) =
      let is = by_line nothing_done line result ends in
      Then.stops (subst (λ (l : Result Bool SessionFault). l ≢ Ok false) is other)
      (subst (λ (l : Result Bool SessionFault). AnswersText (opening source target) old new f g sink sunk l) is
      first)
  edits_as source target old new f g sink sunk result opens (Behind.goes_on mid count written first more) =
      Then.goes_on mid count written first (once_as (are_plain source target) mid new count g written sunk result
      (λ plain. opens mid f count sink written plain first) more)

  applied_as : (source target : List ℕ) (old new : World) (f g : ℕ) (sink sunk : Option (List ℕ))
      (result : Result Edited SessionFault) → FileEdited First order source target old new f g sink sunk result
      → (done : Result Done SessionFault) → Said (is_dropped result) false done
      → Applied call source target old new f g sink sunk done
  applied_as source target old new f g sink sunk (Ok e) is done said = rw said (record {
    edited = is.edited;
    count = is.count;
    line = is_dropped (Ok e);
    edits = edits_as source target old is.edited f is.count sink sunk (Ok e) is.opens is.edits;
    drops = is.drops;
    said = refl;
  })
  applied_as source target old new f g sink sunk (Err fault.Write) is done said = rw said (record {
    edited = is.edited;
    count = is.count;
    line = Err fault.Write;
    edits = edits_as source target old is.edited f is.count sink sunk (Err fault.Write) is.opens is.edits;
    drops = is.drops;
    said = refl;
  })
  applied_as source target old new f g sink sunk (Err fault.Memory) is done said = rw said is
  applied_as source target old new f g sink sunk (Err fault.Argument) is done said = rw said is
  applied_as source target old new f g sink sunk (Err fault.Read) is done said = absurd is

pub first-page : (call : PromisedCall) (source target : List ℕ) (a b : Holdings) (x y : Telling) (f g : ℕ)
    (sink sunk : Option (List ℕ)) (result : Result Edited SessionFault) (done : Result Done SessionFault)
    → Said (is_dropped result) false done
    → Joined (λ old new. FileEdited First (order_by (λ held most answer. answer ≡ true) call) source target old new f g
    sink sunk result) a b x y → Joined (λ old new. Applied call source target old new f g sink sunk done) a b x y
first-page call source target a b x y f g sink sunk result done said =
    Joined-on (λ old new. FileEdited First (order_by (λ held most answer. answer ≡ true) call) source target old new f g
    sink sunk result) (λ old new. Applied call source target old new f g sink sunk done) a b x y
    (λ (old : World) (new : World) is. applied_as call source target old new f g sink sunk result is done said)

-- the count is that of the edit
pub first-counts : (result : Result Edited SessionFault) (done : Result Done SessionFault) (f g : ℕ)
    → Said (is_dropped result) false done → FileCounts result f g → EditCounts done f g
first-counts (Ok e) done f g said counted = rw said counted
first-counts (Err fault.Write) done f g said counted = rw said counted
first-counts (Err fault.Memory) done f g said counted = rw said counted
first-counts (Err fault.Argument) done f g said counted = rw said counted
first-counts (Err fault.Read) done f g said counted = absurd counted

-- a fault is said as it is
pub said-fault : (result : Result Edited SessionFault) (done : Result Done SessionFault) (cannot : SessionFault)
    → Said (is_dropped result) false done → (done ≡ Err cannot → result ≡ Err cannot)
    × (result ≡ Err cannot → done ≡ Err cannot)
said-fault (Ok e) done cannot said = ((λ is. absurd (let k = sym said ∙ is in cc)), (λ is. absurd (cc)))
said-fault (Err x) done cannot said = (
  (λ is. let k : Path (Result Done SessionFault) (Err x) (Err cannot) = sym said ∙ is in
      ap Err (let e : x ≡ cannot = cc in e)),
  (λ is. said ∙ ap Err (let e : x ≡ cannot = cc in e)),
)
