-- Outputs that keep policies, one call further.
use Rattle.std.proofs.Common.{◌≡◌, ◌≢◌, ◌∙◌, sym, ap, refl, subst, ℕ, ◌⊎◌, inl, inr, List, [], ◌∷◌, ◌++◌, Bool, true}
use Rattle.std.proofs.Common.{length, ◌==◌, cond, false, take, Result, Ok, Err, Option, Some, None}
use mathlib.Core.Bool.{beq}
use Rattle.std.proofs.Math.Logic.{∥∥₁_map}
use Rattle.std.proofs.lemmas.List.{append-nil}
use Rattle.teco_hosts.specs.Events.{Event, opened_input, gave, ended, opened_output, wrote, closed, dropped, measured}
use Rattle.teco_hosts.specs.Noting.{event_of_reading, noted_close_out, noted_left, noted_open_in, noted_open_out}
use Rattle.teco_hosts.specs.Noting.{noted_read, noted_write}
use Rattle.teco_hosts.specs.HostFiles.{Notes, Telling, Tells}
use Rattle.teco_pages.specs.Policies.{AreKept, ClosedKeep, IsMet, MeetTerms, NoneClosed}
use Rattle.teco_pages.specs.Texts.{EditTexts, texts_of}
use Rattle.teco_policy.specs.Policies.{ImplyEach}
use Rattle.teco_policy.specs.declared.policy.Policy.{Policy}

-- nothing is not something behind others
some_behind : (front behind : List Event) (event : Event) → [] ≡ front ++ event ∷ behind → ⊥
some_behind [] behind event is = cc
some_behind (first ∷ front) behind event is = cc

-- an event of some and one more is one of them, or the last
abbrev Splits : List Event → List Event → Event → Type 0
Splits events front last =
    ((front ≡ events) × (last ≡ closed)) ⊎ ((rest : List Event) × (events ≡ front ++ closed ∷ rest))

deeper : (e f : Event) (events front : List Event) (last : Event) → e ≡ f → Splits events front last
    → Splits (e ∷ events) (f ∷ front) last
deeper e f events front last same (inl both) = inl (cc, both.1)
deeper e f events front last same (inr more) = inr (more.0, cc)

split_more : (events front behind : List Event) (last : Event) → events ++ last ∷ [] ≡ front ++ closed ∷ behind
    → Splits events front last
split_more [] [] behind last is = inl (refl, cc)
split_more [] (f ∷ front) behind last is =
    let none : [] ≡ front ++ closed ∷ behind = cc in absurd (some_behind front behind closed none)
split_more (e ∷ events) [] behind last is =
    let same : e ≡ closed = cc in inr (events, ap (λ x. x ∷ events) same)
split_more (e ∷ events) (f ∷ front) behind last is =
    let same : e ≡ f = cc in
    let rest : events ++ last ∷ [] ≡ front ++ closed ∷ behind = cc in
    deeper e f events front last same (split_more events front behind last rest)

-- one call more: where it closes an output, the texts keep the policies
kept_split : (policies : List Policy) (events front : List Event) (last : Event) → ClosedKeep policies events
    → (last ≡ closed → AreKept policies (texts_of events)) → Splits events front last
    → AreKept policies (texts_of front)
kept_split policies events front last kept now (inl both) =
    subst (λ (it : List Event). AreKept policies (texts_of it)) (sym both.0) (now both.1)
kept_split policies events front last kept now (inr more) = kept front more.0 more.1

pub kept_more : (policies : List Policy) (events : List Event) (last : Event) → ClosedKeep policies events
    → (last ≡ closed → AreKept policies (texts_of events)) → ClosedKeep policies (events ++ last ∷ [])
kept_more policies events last kept now front behind is =
    kept_split policies events front last kept now (split_more events front behind last is)

-- and outputs may be closed
none_split : (events front : List Event) (last : Event) → NoneClosed events → last ≢ closed → Splits events front last
    → ⊥
none_split events front last none other (inl both) = other both.1
none_split events front last none other (inr more) = none front more.0 more.1

pub none_more : (events : List Event) (last : Event) → NoneClosed events → last ≢ closed
    → NoneClosed (events ++ last ∷ [])
none_more events last none other front behind is =
    none_split events front last none other (split_more events front behind last is)

-- before any call
pub kept_first : (policies : List Policy) → ClosedKeep policies []
kept_first policies front behind is = absurd (some_behind front behind closed is)

none_first : NoneClosed []
none_first front behind is = some_behind front behind closed is

-- ---- calls
abbrev notes_is : Telling → List Event
notes_is (Tells files) = []
notes_is (Notes events) = events

pub first_met : (policies : List Policy) (closes : Bool) → MeetTerms policies closes []
first_met policies closes = record { kept = kept_first policies; closed = λ tried. none_first }

pub new_met : (policies : List Policy) (closes : Bool) (events : List Event) → Notes events ≡ Notes []
    → MeetTerms policies closes events
new_met policies closes events is =
    let none : events ≡ [] = ap notes_is is in
    subst (λ (it : List Event). MeetTerms policies closes it) (sym none) (first_met policies closes)

-- one that closes no output
pub other_met : (policies : List Policy) (closes : Bool) (old new : List Event) (event : Event)
    → MeetTerms policies closes old → event ≢ closed → new ≡ old ++ event ∷ [] → MeetTerms policies closes new
other_met policies closes old new event met other is =
    subst (λ (it : List Event). MeetTerms policies closes it) (sym is) (record {
      kept = kept_more policies old event met.kept (λ same. absurd (other same));
      closed = λ tried. none_more old event (met.closed tried) other;
    })

-- one that notes nothing
pub same_met : (policies : List Policy) (closes : Bool) (old new : List Event) → MeetTerms policies closes old
    → new ≡ old ++ [] → MeetTerms policies closes new
same_met policies closes old new met is =
    subst (λ (it : List Event). MeetTerms policies closes it) (sym (is ∙ append-nil old)) met

-- one that closes an output which keeps the policies
pub closed_met : (policies : List Policy) (closes : Bool) (old new : List Event) → MeetTerms policies closes old
    → AreKept policies (texts_of old) → closes ≡ true → new ≡ old ++ closed ∷ [] → MeetTerms policies closes new
closed_met policies closes old new met kept may is =
    subst (λ (it : List Event). MeetTerms policies closes it) (sym is) (record {
      kept = kept_more policies old closed met.kept (λ same. kept);
      closed = λ tried. let wrong : true ≡ false = sym may ∙ tried in absurd (cc);
    })

-- events that close no output
abbrev pub is_closing : Event → Bool
is_closing (opened_input name) = false
is_closing (gave bytes) = false
is_closing ended = false
is_closing (opened_output name) = false
is_closing (wrote bytes) = false
is_closing closed = true
is_closing dropped = false
is_closing (measured most) = false

not_closed : (event : Event) → is_closing event ≡ false → event ≢ closed
not_closed event quiet same = let wrong : true ≡ false = sym (ap is_closing same) ∙ quiet in absurd (cc)

quiet_met : (policies : List Policy) (closes : Bool) (old new : List Event) (event : Event)
    → MeetTerms policies closes old → is_closing event ≡ false → new ≡ old ++ event ∷ []
    → MeetTerms policies closes new
quiet_met policies closes old new event met quiet is =
    other_met policies closes old new event met (not_closed event quiet) is

pub opened_in : {E : Type 0} → (policies : List Policy) (closes : Bool) (old new : List Event) (name : List ℕ)
    (result : Result (Unit {0}) E) → MeetTerms policies closes old → new ≡ old ++ noted_open_in name result
    → MeetTerms policies closes new
opened_in policies closes old new name (Ok done) met is =
    quiet_met policies closes old new (opened_input name) met refl is
opened_in policies closes old new name (Err failed) met is = same_met policies closes old new met is

quiet_some : (first second : Bool) (bytes : List ℕ)
    → is_closing (cond first (cond second (gave []) ended) (gave bytes)) ≡ false
quiet_some true true bytes = refl
quiet_some true false bytes = refl
quiet_some false second bytes = refl

quiet_reading : (n : ℕ) (buffer : List ℕ) → is_closing (event_of_reading n buffer) ≡ false
quiet_reading n buffer = quiet_some (n == 0) (length buffer == 0) (take n buffer)

pub was_read : {E : Type 0} → (policies : List Policy) (closes : Bool) (old new : List Event) (buffer : List ℕ)
    (result : Result ℕ E) → MeetTerms policies closes old → new ≡ old ++ noted_read buffer result
    → MeetTerms policies closes new
was_read policies closes old new buffer (Ok n) met is =
    quiet_met policies closes old new (event_of_reading n buffer) met (quiet_reading n buffer) is
was_read policies closes old new buffer (Err failed) met is = same_met policies closes old new met is

pub opened_out : {E : Type 0} → (policies : List Policy) (closes : Bool) (old new : List Event) (name : List ℕ)
    (result : Result (Unit {0}) E) → MeetTerms policies closes old → new ≡ old ++ noted_open_out name result
    → MeetTerms policies closes new
opened_out policies closes old new name (Ok done) met is =
    quiet_met policies closes old new (opened_output name) met refl is
opened_out policies closes old new name (Err failed) met is = same_met policies closes old new met is

pub was_written : {E : Type 0} → (policies : List Policy) (closes : Bool) (old new : List Event) (bytes : List ℕ)
    (result : Result ℕ E) → MeetTerms policies closes old → new ≡ old ++ noted_write bytes result
    → MeetTerms policies closes new
was_written policies closes old new bytes (Ok n) met is =
    quiet_met policies closes old new (wrote (take n bytes)) met refl is
was_written policies closes old new bytes (Err failed) met is = same_met policies closes old new met is

pub was_dropped : (policies : List Policy) (closes : Bool) (old new : List Event) → MeetTerms policies closes old
    → new ≡ old ++ dropped ∷ [] → MeetTerms policies closes new
was_dropped policies closes old new met is = quiet_met policies closes old new dropped met refl is

pub was_closed : {E : Type 0} → (policies : List Policy) (closes : Bool) (old new : List Event)
    (result : Result (Unit {0}) E) → MeetTerms policies closes old → AreKept policies (texts_of old) → closes ≡ true
    → new ≡ old ++ noted_close_out result → MeetTerms policies closes new
was_closed policies closes old new (Ok done) met kept may is = closed_met policies closes old new met kept may is
was_closed policies closes old new (Err failed) met kept may is = was_dropped policies closes old new met is

pub was_measured : (policies : List Policy) (closes : Bool) (old new : List Event) (result : Option ℕ)
    → MeetTerms policies closes old → new ≡ old ++ noted_left result → MeetTerms policies closes new
was_measured policies closes old new (Some most) met is =
    quiet_met policies closes old new (measured most) met refl is
was_measured policies closes old new None met is = same_met policies closes old new met is

-- ---- terms that say the same
same_answer : (one other : Bool) → beq one other ≡ true → one ≡ other
same_answer true true is = refl
same_answer true false is = absurd (cc)
same_answer false true is = absurd (cc)
same_answer false false is = refl

pub implied : (policies others : List Policy) (closes mine : Bool) (noted : List Event) → ImplyEach policies others
    → beq mine closes ≡ true → MeetTerms policies mine noted → IsMet others closes (Notes noted)
implied policies others closes mine noted imply same met events is =
    let all : noted ≡ events = ap notes_is is in
    subst (λ (it : List Event). MeetTerms others closes it) all (record {
      kept = λ front behind split.
          ∥∥₁_map (met.kept front behind split) (imply (texts_of front).old (texts_of front).new);
      closed = λ tried. met.closed (same_answer mine closes same ∙ tried);
    })

-- texts that are those of what was noted
pub told_kept : (policies : List Policy) (texts noted : EditTexts) → texts ≡ noted → AreKept policies texts
    → AreKept policies noted
told_kept policies texts noted is kept = subst (λ (it : EditTexts). AreKept policies it) is kept
