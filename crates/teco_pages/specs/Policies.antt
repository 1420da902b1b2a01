-- Outputs that take their names only where they keep policies, by what their host notes.
use Rattle.std.specs.Prelude.{◌≡◌, ◌≢◌, List, ◌∷◌, ◌++◌, Bool, false}
use Rattle.teco_hosts.specs.Events.{Event, closed}
use Rattle.teco_hosts.specs.HostFiles.{Telling, Notes}
use Rattle.teco_pages.specs.Texts.{EditTexts, texts_of}
use Rattle.teco_policy.specs.Policies.{KeepEach}
use Rattle.teco_policy.specs.declared.policy.Policy.{Policy}

-- an edit with these texts keeps each of the policies
abbrev pub AreKept : List Policy → EditTexts → Type 0
AreKept policies texts = ∥ KeepEach policies texts.old texts.new ∥₁

-- Each output that took its name keeps each policy, with what the input gave.
abbrev pub ClosedKeep : List Policy → List Event → Type 0
ClosedKeep policies events =
    (front behind : List Event) → events ≡ front ++ closed ∷ behind → AreKept policies (texts_of front)

-- no output took its name
abbrev pub NoneClosed : List Event → Type 0
NoneClosed events = (front behind : List Event) → events ≢ front ++ closed ∷ behind

-- what is asked of an edit is met by all that was noted
pub record MeetTerms (policies : List Policy) (closes : Bool) (events : List Event) : Type 0 where
  pub kept : ClosedKeep policies events
  pub closed : closes ≡ false → NoneClosed events

abbrev pub IsMet : List Policy → Bool → Telling → Type 0
IsMet policies closes files = (events : List Event) → files ≡ Notes events → MeetTerms policies closes events
