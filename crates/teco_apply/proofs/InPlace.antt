-- The edit of a file in place, from the edit of the file into another.
use Rattle.teco_apply.proofs.Prelude.{◌≡◌, ℕ, List, [], Bool, false, Option, Result, Ok, Err, refl, sym, subst}
use Rattle.teco_apply.proofs.Prelude.{FileEdited, Order, EditTouches, Edited, PageChoice, world, World, Event}
use Rattle.teco_apply.proofs.Prelude.{PromisedCall}
use Rattle.teco_apply.proofs.Prelude.{Telling, Tells, Notes, Touches, NotesFit, Holdings, Joined, SessionFault}
use Rattle.std.specs.List.{AllByRecursion}
use Rattle.teco_apply.specs.InPlace.{IsRewritten}
use Rattle.teco_in_place.proofs.Fitting.{fits-beneath}
use Rattle.teco_in_place.specs.InPlace.{FilesAreReplaced, IsPassedOn, all_beneath, new_text}
use Rattle.teco_hosts.specs.Events.{Happened, IsOfBytes}
use Rattle.teco_hosts.specs.Noting.{EndsAtEnd}
use Rattle.teco_session.specs.declared.fault.SessionFault.TheVariants as fault

-- ---- what was noted
-- nothing was read behind the end of an input, and all is of bytes
record IsInOrder (events : List Event) : Type 0 where
  end : Bool
  end' : Bool
  order : EndsAtEnd end events end'
  bytes : AllByRecursion IsOfBytes events

in_order : (touched : List Event) (end end' : Bool) (events : List Event)
    → Touches touched end end' (Notes []) (Notes events) → IsInOrder events
in_order touched end end' events t = record {
  end = end;
  end' = end';
  order = subst (λ l. EndsAtEnd end l end') (sym t.noted) t.order;
  bytes = subst (AllByRecursion IsOfBytes) (sym t.noted) t.bytes;
}

none_in_order : (events : List Event) → Notes events ≡ Notes [] → IsInOrder events
none_in_order events is = let none : events ≡ [] = cc in
    rw none (record { end = false; end' = false; order = λ h. h; bytes = tt })

edit_in_order : {X : Type 0} (call : PromisedCall) (source target : List ℕ) (result : Result X SessionFault)
    (a b : Holdings)
    (events : List Event) → EditTouches call source target result a b (Notes []) (Notes events) → IsInOrder events
edit_in_order call source target (Ok edited) a b events t = in_order t.touched a.held.end b.held.end events t.notes
edit_in_order call source target (Err fault.Write) a b events t =
    in_order t.touched a.held.end b.held.end events t.notes
edit_in_order call source target (Err fault.Memory) a b events t = none_in_order events t.1
edit_in_order call source target (Err fault.Argument) a b events t = none_in_order events t.1
edit_in_order call source target (Err fault.Read) a b events t = none_in_order events t.1

-- ---- the edit
module _ (fit : NotesFit) (replaced : FilesAreReplaced) (pages : PageChoice) (order : Order) (name : List ℕ)
    (replaces : Bool) where
  abbrev Edits : ℕ → ℕ → Option (List ℕ) → Option (List ℕ) → Result Edited SessionFault → Holdings → Holdings → Telling
      → Telling → Type 0
  Edits f g sink sunk result = Joined
      (λ old new. FileEdited pages order name (new_text name) old new f g sink sunk result)

  pub rewritten : (call : PromisedCall) (a b : Holdings) (y under : Telling) (f g : ℕ) (sink sunk : Option (List ℕ))
      (result : Result Edited SessionFault) → Edits f g sink sunk result a b (Notes []) y
      → EditTouches call name (new_text name) result a b (Notes []) y → IsPassedOn replaces y under
      → IsRewritten pages order name replaces a b under f sink sunk result
  rewritten call a b (Tells files) under f g sink sunk result edits touches passed = absurd passed
  rewritten call a b (Notes events) under f g sink sunk result edits touches passed =
      let noted = edit_in_order call name (new_text name) result a b events touches in
      let begun = passed.1.0 in
      let one = passed.1.1 in
      record {
        events = all_beneath replaces events;
        noted = passed.0;
        possible = fits-beneath fit replaces events noted.end noted.end' begun noted.bytes noted.order one;
        failures = g;
        edits = λ files left bytes ready same happened.
            let there = replaced replaces events begun files left one ready happened in
            let done = edits.holds files there.0 bytes (subst (λ l. Happened l files there.0) edits.noted there.1) same
            in
            (there.0, done.0, there.2);
      }

  -- nothing is done
  pub unedited : (a : Holdings) (under : Telling) (f : ℕ) (sink : Option (List ℕ)) (why : SessionFault)
      → under ≡ Notes [] → ((old : World) → FileEdited pages order name (new_text name) old old f f sink sink (Err why))
      → IsRewritten pages order name replaces a a under f sink sink (Err why)
  unedited a under f sink why none done = record {
    events = [];
    noted = none;
    possible = fits-beneath fit replaces [] false false false tt (λ h. h) refl;
    failures = f;
    edits = λ files left bytes ready same happened.
        let there = replaced replaces [] false files left refl ready happened in (
          there.0,
          subst (λ apart. FileEdited pages order name (new_text name) (world a.kept a.held files)
              (world a.kept a.held apart) f f sink sink (Err why)) (sym there.1) (done (world a.kept a.held files)),
          there.2,
        );
  }

  -- where the host began without notes
  pub rewritten-from : (call : PromisedCall) (target : List ℕ) (a b : Holdings) (x y under : Telling) (f f' g : ℕ)
      (sink sunk : Option (List ℕ)) (result : Result Edited SessionFault) → target ≡ new_text name → x ≡ Notes []
      → f' ≡ f
      → Joined (λ old new. FileEdited pages order name target old new f' g sink sunk result) a b x y
      → EditTouches call name target result a b x y → IsPassedOn replaces y under
      → IsRewritten pages order name replaces a b under f sink sunk result
  rewritten-from call target a b x y under f f' g sink sunk result named fresh same edits touches passed =
      let by_name = subst (λ t. Joined (λ old new. FileEdited pages order name t old new f' g sink sunk result) a b x y)
      named edits in
      let counted = subst (λ n. Edits n g sink sunk result a b x y) same by_name in
      rewritten call a b y under f g sink sunk result (subst (λ z. Edits f g sink sunk result a b z y) fresh counted)
      (subst (λ z. EditTouches call name (new_text name) result a b z y) fresh
      (subst (λ t. EditTouches call name t result a b x y) named touches)) passed
