-- What is noted of one call more.
use Rattle.std.proofs.Common.{◌≡◌, ℕ, List, [], ◌∷◌, ◌++◌, ◌==◌, cond, length, take, Bool, true, false, Option, Some}
use Rattle.std.proofs.Common.{None, Result, Ok, Err, refl, sym, ap, subst, ◌∙◌}
use Rattle.std.proofs.lemmas.List.{map-append}
use Rattle.std.specs.Prelude.{◌||◌, if◌then◌else◌}
use Rattle.teco_in_place.specs.InPlace.{IsNotedBeneath, IsOneEdit, all_beneath, begun_by, beneath, is_new_text}
use Rattle.teco_in_place.specs.InPlace.{noted_end}
use Rattle.teco_hosts.specs.Events.{Event, opened_input, gave, ended, opened_output, wrote, closed, dropped, measured}
use Rattle.teco_hosts.specs.HostFiles.{Telling, Tells, Notes}
use Rattle.teco_hosts.specs.Noting.{NotesJust, event_of_reading}
use Rattle.teco_hosts.specs.declared.fault.Failed.{Failed}

-- the host beneath notes the call
noted-beneath : (replaces : Bool) (events : List Event) (event : Event) (x y : Telling)
    → IsNotedBeneath replaces events x → NotesJust (beneath replaces event ∷ []) x y
    → IsNotedBeneath replaces (events ++ event ∷ []) y
noted-beneath replaces events event (Tells f) y was now = absurd (cc)
noted-beneath replaces events event (Notes a) (Tells g) was now = absurd now
noted-beneath replaces events event (Notes a) (Notes b) was now =
    let all : a ≡ all_beneath replaces events = cc in
    ap Notes (now ∙ ap (λ l. l ++ beneath replaces event ∷ []) all
    ∙ sym (map-append (beneath replaces) events (event ∷ [])))

-- tests that were passed
passed : (test : Bool) (x : Option Bool) (y : Bool) → (if test then x else None) ≡ Some y → (test ≡ true) × (x ≡ Some y)
passed true x y is = (refl, is)
passed false x y is = absurd (cc)

failed : (a b : Bool) (x : Option Bool) (y : Bool) → (if a || b then None else x) ≡ Some y
    → (a ≡ false) × (b ≡ false) × (x ≡ Some y)
failed true b x y is = absurd (cc)
failed false true x y is = absurd (cc)
failed false false x y is = (refl, refl, is)

pub opens-file : (begun : Bool) (name : List ℕ) (events : List Event) (begun' : Bool)
    → begun_by begun (opened_input name ∷ events) ≡ Some begun' → (begun ≡ false) × (is_new_text name ≡ false)
    × (begun_by true events ≡ Some begun')
opens-file begun name events begun' is = failed begun (is_new_text name) (begun_by true events) begun' is

pub opens-new : (begun : Bool) (name : List ℕ) (events : List Event) (begun' : Bool)
    → begun_by begun (opened_output name ∷ events) ≡ Some begun'
    → (is_new_text name ≡ true) × (begun_by true events ≡ Some begun')
opens-new begun name events begun' is = passed (is_new_text name) (begun_by true events) begun' is

-- the calls behind others
new-on : (test mid : Bool) (events more : List Event) → (if test then begun_by true events else None) ≡ Some mid
    → (begun_by true events ≡ Some mid → begun_by true (events ++ more) ≡ begun_by mid more)
    → (if test then begun_by true (events ++ more) else None) ≡ begun_by mid more
new-on true mid events more is on = on is
new-on false mid events more is on = absurd (cc)

file-on : (test mid : Bool) (events more : List Event) → (if test then None else begun_by true events) ≡ Some mid
    → (begun_by true events ≡ Some mid → begun_by true (events ++ more) ≡ begun_by mid more)
    → (if test then None else begun_by true (events ++ more)) ≡ begun_by mid more
file-on true mid events more is on = absurd (cc)
file-on false mid events more is on = on is

begun-on : (begun mid : Bool) (events more : List Event) → begun_by begun events ≡ Some mid
    → begun_by begun (events ++ more) ≡ begun_by mid more
begun-on begun mid [] more is = let same : begun ≡ mid = cc in ap (λ b. begun_by b more) same
begun-on begun mid (opened_input name ∷ events) more is =
    file-on (begun || is_new_text name) mid events more is (begun-on true mid events more)
begun-on begun mid (gave bytes ∷ events) more is = begun-on begun mid events more is
begun-on begun mid (ended ∷ events) more is = begun-on begun mid events more is
begun-on begun mid (opened_output name ∷ events) more is =
    new-on (is_new_text name) mid events more is (begun-on true mid events more)
begun-on begun mid (wrote bytes ∷ events) more is = begun-on begun mid events more is
begun-on begun mid (closed ∷ events) more is = begun-on begun mid events more is
begun-on begun mid (dropped ∷ events) more is = begun-on begun mid events more is
begun-on begun mid (measured most ∷ events) more is = begun-on begun mid events more is

-- ---- a call
pub called : (replaces : Bool) (events after : List Event) (event : Event) (begun begun' : Bool) (x y : Telling)
    → IsNotedBeneath replaces events x → IsOneEdit events begun → NotesJust (beneath replaces event ∷ []) x y
    → begun_by begun (event ∷ []) ≡ Some begun' → after ≡ events ++ event ∷ []
    → IsNotedBeneath replaces after y × IsOneEdit after begun'
called replaces events after event begun begun' x y noted one now quiet is =
    rw is (noted-beneath replaces events event x y noted now, begun-on false begun events (event ∷ []) one ∙ quiet)

-- one that reads
reading-beneath : (replaces begun first second : Bool) (bytes : List ℕ)
    → (beneath replaces (cond first (cond second (gave []) ended) (gave bytes)) ≡ cond first
    (cond second (gave []) ended) (gave bytes))
    × (begun_by begun (cond first (cond second (gave []) ended) (gave bytes) ∷ []) ≡ Some begun)
reading-beneath replaces begun true true bytes = (refl, refl)
reading-beneath replaces begun true false bytes = (refl, refl)
reading-beneath replaces begun false second bytes = (refl, refl)

pub read-called : (replaces : Bool) (events after : List Event) (n : ℕ) (buffer : List ℕ) (begun : Bool) (x y : Telling)
    → IsNotedBeneath replaces events x → IsOneEdit events begun → NotesJust (event_of_reading n buffer ∷ []) x y
    → after ≡ events ++ event_of_reading n buffer ∷ []
    → IsNotedBeneath replaces after y × IsOneEdit after begun
read-called replaces events after n buffer begun x y noted one now is =
    let quiet = reading-beneath replaces begun (n == 0) (length buffer == 0) (take n buffer) in
    called replaces events after (event_of_reading n buffer) begun begun x y noted one
    (subst (λ e. NotesJust (e ∷ []) x y) (sym quiet.0) now) quiet.1 is

-- one that closes the output, or fails in that
pub close-called : (replaces : Bool) (events after : List Event) (begun : Bool) (x y : Telling)
    (result : Result (Unit {0}) Failed) → result ≡ Ok tt → IsNotedBeneath replaces events x → IsOneEdit events begun
    → NotesJust (noted_end replaces result) x y → after ≡ events ++ closed ∷ []
    → IsNotedBeneath replaces after y × IsOneEdit after begun
close-called true events after begun x y result done noted one now is =
    called true events after closed begun begun x y noted one (rw done at now) refl is
close-called false events after begun x y result done noted one now is =
    called false events after closed begun begun x y noted one (rw done at now) refl is

pub failed-called : (replaces : Bool) (events after : List Event) (begun : Bool) (x y : Telling)
    (result : Result (Unit {0}) Failed) (why : Failed) → result ≡ Err why → IsNotedBeneath replaces events x
    → IsOneEdit events begun → NotesJust (noted_end replaces result) x y → after ≡ events ++ dropped ∷ []
    → IsNotedBeneath replaces after y × IsOneEdit after begun
failed-called true events after begun x y result why failed noted one now is =
    called true events after dropped begun begun x y noted one (rw failed at now) refl is
failed-called false events after begun x y result why failed noted one now is =
    called false events after dropped begun begun x y noted one (rw failed at now) refl is
