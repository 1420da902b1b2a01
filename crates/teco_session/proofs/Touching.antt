-- What the command strings of a session touch, one behind another.
use Rattle.teco_session.proofs.Prelude.{◌≡◌, ℕ, List, [], ◌∷◌, ◌++◌, Bool, Option, refl, sym, subst}
use Rattle.teco_session.proofs.Prelude.{Consumes-nil, Consumes-trans, prepend_known-nil}
use Rattle.teco_session.proofs.Prelude.{Consumes, prepend_known, Limits, Telling, Holdings, IsPiece, Piece, Command}
use Rattle.teco_session.proofs.Prelude.{Rest}
use Rattle.std.specs.List.{AllByRecursion}
use Rattle.teco_hosts.proofs.Touching.{touches-none, touches-on}
use Rattle.teco_hosts.specs.Events.{Event, opened_input, gave, ended, opened_output, wrote, closed, dropped, measured}
use Rattle.teco_hosts.specs.HostFiles.{Tells, Notes}
use Rattle.teco_hosts.specs.Noting.{Touches, openings}
use Rattle.teco_hosts.specs.Possible.{AreOpenedAnew, FitWhere, GivesMeasured, NotesFit}
use Rattle.teco_run.proofs.Due.{unmeasured-on}
use Rattle.teco_run.specs.Touched.{IsUnmeasured, TouchesBetween}
use Rattle.teco_session.proofs.Known.{Consumes-ahead}
use Rattle.teco_session.specs.Touched.{TouchesByPiece, TouchesByStrings, TouchesInSession}
use Rattle.teco_session.specs.Touched.{nothing, one_more}

-- ---- notes in which nothing is measured
gives-measured : (events : List Event) → AllByRecursion IsUnmeasured (openings events) → GivesMeasured events
gives-measured [] h = tt
gives-measured (opened_input name ∷ events) h = gives-measured events h.1
gives-measured (gave bytes ∷ events) h = gives-measured events h
gives-measured (ended ∷ events) h = gives-measured events h
gives-measured (opened_output name ∷ events) h = gives-measured events h.1
gives-measured (wrote bytes ∷ events) h = gives-measured events h
gives-measured (closed ∷ events) h = gives-measured events h.1
gives-measured (dropped ∷ events) h = gives-measured events h.1
gives-measured (measured most ∷ events) h = absurd (h.0)

fit-anew : NotesFit → (output : Option (List ℕ)) (touched : List Event) (end end' : Bool) (x y : Telling)
    → AllByRecursion IsUnmeasured touched → Touches touched end end' x y
    → FitWhere (AreOpenedAnew output) output x y
fit-anew fit output touched end end' (Tells f) (Tells g) none t = tt
fit-anew fit output touched end end' (Tells f) (Notes b) none t = absurd t
fit-anew fit output touched end end' (Notes a) (Tells g) none t = absurd t
fit-anew fit output touched end end' (Notes a) (Notes b) none t = record {
  meanwhile = t.meanwhile;
  noted = t.noted;
  fitted = λ anew. fit output end end' t.meanwhile t.bytes t.order
      (gives-measured t.meanwhile (subst (AllByRecursion IsUnmeasured) (sym t.openings) none)) anew.inputs
      anew.own;
}

-- ---- as far as the input was read
pub record TouchesSoFar (limits : Limits) (unread left : Option (List ℕ)) (old new : Holdings)
    (before after : Telling) : Type 0 where
  pub input : List ℕ
  pub came : Consumes unread left input
  pub strings : TouchesByStrings limits input old new before after
  pub touched : List Event
  pub notes : TouchesBetween touched old new before after
  pub unmeasured : AllByRecursion IsUnmeasured touched

pub so_far-none : (limits : Limits) (unread : Option (List ℕ)) (ahead : List ℕ) (a : Holdings) (x : Telling)
    → ahead ≡ [] → TouchesSoFar limits unread (prepend_known ahead unread) a a x x
so_far-none limits unread ahead a x none = record {
  input = [];
  came = rw (none, prepend_known-nil) (Consumes-nil unread);
  strings = nothing a x;
  touched = [];
  notes = touches-none a.held.end x;
  unmeasured = tt;
}

pub so_far-more : (limits : Limits) (unread mid left : Option (List ℕ)) (bytes : List ℕ) (piece : Piece)
    (rest : Option (List ℕ)) (a b c : Holdings) (x y z : Telling) → piece ≡ Command →
    TouchesSoFar limits unread mid a b x y → Consumes mid left bytes → IsPiece limits rest bytes piece
    → TouchesByPiece limits piece bytes b c y z → TouchesSoFar limits unread left a c x z
so_far-more limits unread mid left bytes Command rest a b c x y z is before came one now = record {
  input = before.input ++ bytes;
  came = Consumes-trans unread mid left before.input bytes before.came came;
  strings = one_more before.input bytes a b c x y z before.strings one now;
  touched = before.touched ++ now.ran.touches.touched;
  notes = touches-on before.touched now.ran.touches.touched _ _ _ _ _ _ before.notes
      (rw (now.taken) now.ran.touches.notes);
  unmeasured = unmeasured-on before.touched now.ran.touches.touched before.unmeasured now.ran.touches.unmeasured;
}
so_far-more limits unread mid left bytes Rest rest a b c x y z is before came one now = absurd (cc)

-- ---- where the session ends
-- behind these bytes, which were not run, and those ahead
pub in_session-behind : NotesFit → (limits : Limits) (unread mid left : Option (List ℕ)) (bytes ahead : List ℕ)
    (a b : Holdings) (x y : Telling) →
    TouchesSoFar limits unread mid a b x y → Consumes mid (prepend_known ahead left) bytes
    → TouchesInSession limits unread left a b x y
in_session-behind fit limits unread mid left bytes ahead a b x y before came = record {
  input = before.input;
  rest = bytes ++ ahead;
  came = Consumes-trans unread mid left before.input (bytes ++ ahead) before.came
      (Consumes-ahead mid left bytes ahead came);
  strings = before.strings;
  touched = before.touched;
  notes = before.notes;
  possible = fit-anew fit a.held.output before.touched a.held.end b.held.end x y before.unmeasured before.notes;
}

-- behind a piece
pub in_session-piece : NotesFit → (limits : Limits) (unread mid left : Option (List ℕ)) (bytes ahead : List ℕ)
    (piece : Piece) (rest : Option (List ℕ)) (a b c : Holdings) (x y z : Telling) →
    TouchesSoFar limits unread mid a b x y → Consumes mid (prepend_known ahead left) bytes
    → IsPiece limits rest bytes piece → TouchesByPiece limits piece bytes b c y z
    → TouchesInSession limits unread left a c x z
in_session-piece fit limits unread mid left bytes ahead Command rest a b c x y z before came one now =
    in_session-behind fit limits unread (prepend_known ahead left) left [] ahead a c x z
    (so_far-more limits unread mid (prepend_known ahead left) bytes Command rest a b c x y z refl before came one now)
    (Consumes-nil (prepend_known ahead left))
in_session-piece fit limits unread mid left bytes ahead Rest rest a b c x y z before came one now =
    rw (now.0, now.1) (in_session-behind fit limits unread mid left bytes ahead a b x y before came)
