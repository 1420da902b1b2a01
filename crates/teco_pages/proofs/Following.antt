-- The texts of an edit, one call further.
use Rattle.std.proofs.Common.{eqb-true, length, ◌==◌, cond, Bool, true, false, ◌≡◌, ◌∙◌, sym, ap, refl, ℕ, List, []}
use Rattle.std.proofs.Common.{◌∷◌, ◌++◌, take, subst, Option, Some, None}
use Rattle.std.proofs.lemmas.List.{append-nil}
use Rattle.teco_hosts.specs.Events.{Event, closed, dropped, ended, gave, measured}
use Rattle.teco_hosts.specs.Noting.{event_of_reading}
use Rattle.teco_pages.specs.Texts.{AreNoted, EditTexts, Follow, IsTextOf, edit_texts, texts_from, texts_of, with_event}
use Rattle.teco_pages.specs.declared.texts.Texts.{Texts}

-- one more event is the last
pub texts_more : (texts : EditTexts) (events : List Event) (event : Event) →
    texts_from texts (events ++ event ∷ []) ≡ with_event (texts_from texts events) event
texts_more texts [] event = refl
texts_more texts (first ∷ events) event = texts_more (with_event texts first) events event

-- a call that makes these of the texts is followed by them
abbrev pub Makes : Event → Texts → Texts → Type 0
Makes event before after =
    (after.old.items ≡ (with_event (edit_texts before) event).old)
    × (after.new.items ≡ (with_event (edit_texts before) event).new)

both : (texts : Texts) (events : List Event) → IsTextOf events texts → edit_texts texts ≡ texts_of events
both texts events is = ap (λ old. record { old = old; new = texts.new.items }) is.0
    ∙ ap (λ new. record { old = (texts_of events).old; new = new }) is.1

last : (events : List Event) (event : Event) (texts : EditTexts) → texts ≡ texts_of events
    → with_event texts event ≡ texts_of (events ++ event ∷ [])
last events event texts is =
    ap (λ it. with_event it event) is ∙ sym (texts_more (record { old = []; new = [] }) events event)

pub follows : (event : Event) (before after : Texts) → Makes event before after
    → Follow event (Some before) (Some after)
follows event before after makes events noted b is =
    let was : edit_texts before ≡ texts_of events = both before events (noted before refl) in
    let now : with_event (edit_texts before) event ≡ texts_of (events ++ event ∷ []) =
    last events event (edit_texts before) was in
    let same : after ≡ b = cc in
    subst (λ it. IsTextOf (events ++ event ∷ []) it) same
    (makes.0 ∙ ap (λ it. it.old) now, makes.1 ∙ ap (λ it. it.new) now)

-- texts that are kept no more
pub follows_none : (event : Event) (before : Option Texts) → Follow event before None
follows_none event before events noted b is = absurd (cc)

-- a reading adds to the old text what it gave
read_some : (first second : Bool) (bytes : List ℕ) (before after : Texts) → (first ≡ true → bytes ≡ [])
    → after.old.items ≡ before.old.items ++ bytes → after.new.items ≡ before.new.items
    → Follow (cond first (cond second (gave []) ended) (gave bytes)) (Some before) (Some after)
read_some true true bytes before after none old new =
    follows (gave []) before after (old ∙ ap (λ it. before.old.items ++ it) (none refl), new)
read_some true false bytes before after none old new =
    follows ended before after
    (old ∙ ap (λ it. before.old.items ++ it) (none refl) ∙ append-nil before.old.items, new)
read_some false second bytes before after none old new = follows (gave bytes) before after (old, new)

pub follows_reading : (n : ℕ) (buffer : List ℕ) (before after : Texts)
    → after.old.items ≡ before.old.items ++ take n buffer → after.new.items ≡ before.new.items
    → Follow (event_of_reading n buffer) (Some before) (Some after)
follows_reading n buffer before after old new =
    read_some (n == 0) (length buffer == 0) (take n buffer) before after
    (λ is. ap (λ k. take k buffer) (eqb-true n 0 is)) old new

-- a call that neither reads nor writes nor opens
quiet : (events : List Event) (event : Event) (kept : Option Texts)
    → ((texts : EditTexts) → with_event texts event ≡ texts) → AreNoted events kept
    → AreNoted (events ++ event ∷ []) kept
quiet events event kept same noted texts is =
    let more : texts_of (events ++ event ∷ []) ≡ texts_of events =
    texts_more (record { old = []; new = [] }) events event ∙ same (texts_of events) in
    subst (λ it. (texts.old.items ≡ it.old) × (texts.new.items ≡ it.new)) (sym more) (noted texts is)

behind : (event : Event) (old new : List Event) (kept : Option Texts)
    → ((texts : EditTexts) → with_event texts event ≡ texts) → new ≡ old ++ event ∷ [] → AreNoted old kept
    → AreNoted new kept
behind event old new kept same is noted =
    subst (λ (it : List Event). AreNoted it kept) (sym is) (quiet old event kept same noted)

pub still_closed : (old new : List Event) (kept : Option Texts) → new ≡ old ++ closed ∷ [] → AreNoted old kept
    → AreNoted new kept
still_closed old new kept is noted = behind closed old new kept (λ texts. refl) is noted

pub still_dropped : (old new : List Event) (kept : Option Texts) → new ≡ old ++ dropped ∷ [] → AreNoted old kept
    → AreNoted new kept
still_dropped old new kept is noted = behind dropped old new kept (λ texts. refl) is noted

pub still_measured : (old new : List Event) (most : ℕ) (kept : Option Texts) → new ≡ old ++ measured most ∷ []
    → AreNoted old kept → AreNoted new kept
still_measured old new most kept is noted = behind (measured most) old new kept (λ texts. refl) is noted
