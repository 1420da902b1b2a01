-- What the parts of an edit touch, one behind another.
use Rattle.teco_apply.proofs.Prelude.{◌≡◌, ℕ, List, [], ◌++◌, Bool, false, Option, Result, Ok, Err, inl, inr, refl, sym}
use Rattle.teco_apply.proofs.Prelude.{ap, opening, is_dropped, PromisedCall, IsReady, MOST, kept_loaded, EditTouches}
use Rattle.teco_apply.proofs.Prelude.{IsReadyLoaded, TouchesByParts, TouchesNone, by_none, by_string, by_dropping}
use Rattle.teco_apply.proofs.Prelude.{in_turn, Edited, Event, Held, Telling, Tells, Notes, Touches, NotesFit, Holdings}
use Rattle.teco_apply.proofs.Prelude.{Said, SessionFault, Done}
use Rattle.teco_apply.proofs.Touched.{touches-none-loaded}
use Rattle.teco_apply.specs.Touched.{AreMeasuredAnew, Measures}
use Rattle.teco_apply.specs.Touched.{TouchesInEdit, TouchesOpening, by_measure}
use Rattle.teco_apply.specs.Touched.{by_macro}
use Rattle.teco_hosts.proofs.Touching.{touches-none, touches-on}
use Rattle.teco_hosts.specs.Noting.{noted_left}
use Rattle.teco_hosts.specs.Possible.{FitWhere}
use Rattle.teco_run.specs.Touched.{TouchesBetween}
use Rattle.teco_session.specs.Touched.{TouchesByString}
use Rattle.teco_session.specs.declared.fault.SessionFault.TheVariants as fault

-- where no call is made
pub parts-same : (call : PromisedCall) (a b : Holdings) (x : Telling) → b.held ≡ a.held → TouchesByParts call a b x x
parts-same call a b x same = by_none a b x x (rw (ap (λ (h : Held). h.end) same) (touches-none a.held.end x))

-- where what was typed is taken
pub parts-taken : (call : PromisedCall) (a b : Holdings) (x : Telling)
    → b ≡ record a { kept = record a.kept { typed = [] } }
    → TouchesByParts call a b x x
parts-taken call a b x taken = parts-same call a b x (ap (λ (h : Holdings). h.held) taken)

-- ---- runs of the macro, whose library is loaded
asked-on : (call : PromisedCall) (a : Holdings) (x y : Telling)
    → Measures (record a { kept = kept_loaded call.promise.library a.kept }) x y
    → TouchesByParts call a (record a { kept = kept_loaded call.promise.library a.kept }) x y
asked-on call a x y measured =
    let ready = record a { kept = kept_loaded call.promise.library a.kept } in
    in_turn a ready ready x x y (parts-same call a ready x refl) (by_measure ready x y measured)

pub asked-touches : (call : PromisedCall) (a ready : Holdings) (x y : Telling)
    → ready ≡ record a { kept = kept_loaded call.promise.library a.kept } → Measures ready x y
    → TouchesByParts call a ready x y
asked-touches call a ready x y loaded measured = rw loaded (asked-on call a x y (rw loaded at measured))

pub called-touches : (call : PromisedCall) (a ready b : Holdings) (x y z : Telling)
    → ready ≡ record a { kept = kept_loaded call.promise.library a.kept } → Measures ready x y
    → TouchesNone (IsReady call.promise) ready b y z → TouchesByParts call a b x z
called-touches call a ready b x y z loaded measured none =
    let with_library = record a { kept = kept_loaded call.promise.library a.kept } in
    let asked = asked-touches call a ready x y loaded measured in
    let back : a.held ≡ ready.held = ap (λ (h : Holdings). h.held) (sym loaded) in
    in_turn a ready b x y z asked
    (in_turn ready a b y y z (parts-same call ready a y back)
    (by_macro a b y z (touches-none-loaded call a ready b y z loaded none)))

-- ---- which files they touch
by_taken : (touched : List Event) (a b c : Holdings) (x y : Telling)
    → c ≡ record b { kept = record b.kept { typed = [] } } → TouchesBetween touched a b x y
    → TouchesBetween touched a c x y
by_taken touched a b c x y taken t = rw taken t

pub string-touches : (steps : ℕ) (string : List ℕ) (a b : Holdings) (x y : Telling)
    → TouchesByString steps string a b x y → (touched : List Event) × TouchesBetween touched a b x y
string-touches steps string a b x y s =
    (s.ran.touches.touched, by_taken s.ran.touches.touched a s.behind b x y s.taken s.ran.touches.notes)

macro-touches : (call : PromisedCall) (a b : Holdings) (x y : Telling) → TouchesNone (IsReadyLoaded call) a b x y
    → (touched : List Event) × TouchesBetween touched a b x y
macro-touches call a b x y (inl none) = ([], none.0)
macro-touches call a b x y (inr was) = (was.touched, touches-on [] was.touched _ _ _ _ _ _ was.quiet was.others)

pub parts-touch : (call : PromisedCall) (a b : Holdings) (x y : Telling) → TouchesByParts call a b x y
    → (touched : List Event) × TouchesBetween touched a b x y
parts-touch call a b x y (by_none c d u v none) = ([], none)
parts-touch call a b x y (by_measure desk u v most) = (noted_left most.0, most.1)
parts-touch call a b x y (by_string string c d u v is s) = string-touches MOST string c d u v s
parts-touch call a b x y (by_dropping c d u v r) = (r.touches.touched, r.touches.notes)
parts-touch call a b x y (by_macro c d u v none) = macro-touches call c d u v none
parts-touch call a b x y (in_turn c m d u mid v first next) =
    let before = parts-touch call c m u mid first in
    let behind = parts-touch call m d mid v next in
    (before.0 ++ behind.0, touches-on before.0 behind.0 _ _ _ _ _ _ before.1 behind.1)

-- ---- the whole
fit-measured : NotesFit → (output : Option (List ℕ)) (touched : List Event) (end end' : Bool) (x y : Telling)
    → Touches touched end end' x y → FitWhere (AreMeasuredAnew output) output x y
fit-measured fit output touched end end' (Tells f) (Tells g) t = tt
fit-measured fit output touched end end' (Tells f) (Notes b) t = absurd t
fit-measured fit output touched end end' (Notes a) (Tells g) t = absurd t
fit-measured fit output touched end end' (Notes a) (Notes b) t = record {
  meanwhile = t.meanwhile;
  noted = t.noted;
  fitted = λ anew. fit output end end' t.meanwhile t.bytes t.order anew.gives anew.opened.inputs
      anew.opened.own;
}

in-edit : NotesFit → (call : PromisedCall) (source target : List ℕ) (a b c : Holdings) (x y z : Telling)
    → TouchesOpening call (opening source target) a b x y → TouchesByParts call b c y z
    → TouchesInEdit call source target a c x z
in-edit fit call source target a b c x y z opened drops =
    let all : TouchesOpening call (opening source target) a c x z = record {
      mid = opened.mid;
      until = opened.until;
      opened = opened.opened;
      behind = in_turn opened.mid b c opened.until y z opened.behind drops;
    } in
    let first = string-touches MOST (opening source target) a all.mid x all.until all.opened in
    let more = parts-touch call all.mid c all.until z all.behind in
    let notes : TouchesBetween (first.0 ++ more.0) a c x z = touches-on first.0 more.0 _ _ _ _ _ _ first.1 more.1 in
    record {
      opened = all;
      touched = first.0 ++ more.0;
      notes = notes;
      possible = fit-measured fit a.held.output (first.0 ++ more.0) a.held.end c.held.end x z notes;
    }

-- whatever it answers, if it is no want of memory, nor an argument that is not taken
pub edit-touches : {X : Type 0} → NotesFit
    → (call : PromisedCall) (source target : List ℕ) (result : Result X SessionFault)
    (a b c : Holdings) (x y z : Telling) → (result ≡ Err fault.Memory → ⊥) → (result ≡ Err fault.Argument → ⊥)
    → (result ≡ Err fault.Read → ⊥)
    → TouchesOpening call (opening source target) a b x y → TouchesByParts call b c y z
    → EditTouches call source target result a c x z
edit-touches fit call source target (Ok edited) a b c x y z memory argument read opened drops =
    in-edit fit call source target a b c x y z opened drops
edit-touches fit call source target (Err fault.Write) a b c x y z memory argument read opened drops =
    in-edit fit call source target a b c x y z opened drops
edit-touches fit call source target (Err fault.Memory) a b c x y z memory argument read opened drops =
    absurd (memory refl)
edit-touches fit call source target (Err fault.Argument) a b c x y z memory argument read opened drops =
    absurd (argument refl)
edit-touches fit call source target (Err fault.Read) a b c x y z memory argument read opened drops = absurd (read refl)

-- by what is said of it
pub first-touches : (call : PromisedCall) (source target : List ℕ) (a b : Holdings) (x y : Telling)
    (edited : Result Edited SessionFault) (result : Result Done SessionFault) → Said (is_dropped edited) false result
    → EditTouches call source target edited a b x y → EditTouches call source target result a b x y
first-touches call source target a b x y (Ok edited) result said t = rw said t
first-touches call source target a b x y (Err fault.Write) result said t = rw said t
first-touches call source target a b x y (Err fault.Memory) result said t = rw said t
first-touches call source target a b x y (Err fault.Argument) result said t = rw said t
first-touches call source target a b x y (Err fault.Read) result said t = rw said t
