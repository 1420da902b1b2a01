-- Policies that are asked for, and others behind them; and what is noted, one call further.
use Rattle.std.proofs.Common.{List, [], ◌∷◌, ◌++◌, ◌≡◌, ◌∙◌, ◌==◌, true, false, Bool, ℕ, Option, Some, ap, cond}
use Rattle.std.proofs.Common.{length, refl, subst, sym, take}
use Rattle.teco_hosts.specs.Events.{Event, ended, gave}
use Rattle.teco_hosts.specs.HostFiles.{Notes}
use Rattle.teco_hosts.specs.Noting.{event_of_reading}
use Rattle.teco_pages.proofs.Policies.{implied, is_closing, other_met, told_kept}
use Rattle.teco_pages.specs.Policies.{AreKept, IsMet, MeetTerms}
use Rattle.teco_pages.specs.Texts.{AreNoted, EditTexts, Follow, IsTextOf, edit_texts, texts_of}
use Rattle.teco_pages.specs.declared.texts.Texts.{Texts}
use Rattle.teco_policy.proofs.Keeping.{in_front, none_yet}
use Rattle.teco_policy.specs.Policies.{ImplyEach, KeepEach}
use Rattle.teco_policy.specs.declared.policy.Policy.{Policy}

-- what is noted keeps whatever those say that are asked
pub asked_met : (asked more policies : List Policy) (noted : List Event) → ImplyEach asked policies
    → MeetTerms (asked ++ more) true noted → IsMet policies true (Notes noted)
asked_met asked more policies noted imply met =
    implied (asked ++ more) policies true true noted
    (λ old new keeps. imply old new (in_front asked more old new keeps)) refl met

-- ---- one call more
pub now_noted : (old new : List Event) (event : Event) (before after : Option Texts) → new ≡ old ++ event ∷ []
    → Follow event before after → AreNoted old before → AreNoted new after
now_noted old new event before after is follow noted =
    subst (λ (it : List Event). AreNoted it after) (sym is) (follow old noted)

-- one that closes no output
pub quiet_met : (policies : List Policy) (old new : List Event) (event : Event) → MeetTerms policies true old
    → is_closing event ≡ false → new ≡ old ++ event ∷ [] → MeetTerms policies true new
quiet_met policies old new event met quiet is =
    other_met policies true old new event met
    (λ same. let wrong : true ≡ false = sym (ap is_closing same) ∙ quiet in absurd (cc)) is

quiet_some : (first second : Bool) (bytes : List ℕ)
    → is_closing (cond first (cond second (gave []) ended) (gave bytes)) ≡ false
quiet_some true true bytes = refl
quiet_some true false bytes = refl
quiet_some false second bytes = refl

pub quiet_reading : (n : ℕ) (buffer : List ℕ) → is_closing (event_of_reading n buffer) ≡ false
quiet_reading n buffer = quiet_some (n == 0) (length buffer == 0) (take n buffer)

-- ---- what is judged
pub none_asked : (policies : List Policy) (texts : EditTexts) → policies ≡ [] → AreKept policies texts
none_asked policies texts none =
    subst (λ (it : List Policy). AreKept it texts) (sym none) ∣ none_yet [] texts.old texts.new ∣₁

noted_text : (texts : Texts) (events : List Event) → IsTextOf events texts → edit_texts texts ≡ texts_of events
noted_text texts events is = ap (λ old. record { old = old; new = texts.new.items }) is.0
    ∙ ap (λ new. record { old = (texts_of events).old; new = new }) is.1

pub kept_of_noted : (policies : List Policy) (events : List Event) (kept : Option Texts) (texts : Texts)
    → AreNoted events kept → kept ≡ Some texts → KeepEach policies texts.old.items texts.new.items
    → AreKept policies (texts_of events)
kept_of_noted policies events kept texts noted is keeps =
    told_kept policies (edit_texts texts) (texts_of events) (noted_text texts events (noted texts is)) ∣ keeps ∣₁
