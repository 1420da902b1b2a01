-- What was noted of calls in turn.
use Rattle.teco_hosts.proofs.Prelude.{◌≡◌, ℕ, suc, List, [], ◌∷◌, ◌++◌, ◌<◌, ◌==◌, length, arith, Bool, true, false}
use Rattle.teco_hosts.proofs.Prelude.{drop, take, refl, sym, ap, subst, ◌∙◌, append_assoc, eqb-true, append-nil}
use Rattle.teco_hosts.proofs.Prelude.{AreBytes, Event, IsOfBytes, opened_input, gave, ended, opened_output, wrote}
use Rattle.teco_hosts.proofs.Prelude.{closed, dropped, measured, Telling, Tells, Notes, EndsAtEnd, Touches}
use Rattle.std.proofs.Common.{zero}
use Rattle.std.proofs.lemmas.Bool.{false≢true, ne_eqb}
use Rattle.teco_hosts.proofs.Bytes.{both_of_bytes}
use Rattle.teco_hosts.specs.Noting.{NotesJust, event_of_reading, openings}

-- of no call
pub touches-none : (end : Bool) (x : Telling) → Touches [] end end x x
touches-none end (Tells f) = tt
touches-none end (Notes a) = record {
  meanwhile = [];
  noted = sym (append-nil a);
  openings = refl;
  order = λ h. h;
  bytes = tt;
}

-- of one call that noted nothing
pub touches-nothing : (end : Bool) (x y : Telling) → NotesJust [] x y → Touches [] end end x y
touches-nothing end (Tells f) (Tells g) n = tt
touches-nothing end (Tells f) (Notes b) n = absurd n
touches-nothing end (Notes a) (Tells g) n = absurd n
touches-nothing end (Notes a) (Notes b) n = record {
  meanwhile = [];
  noted = n;
  openings = refl;
  order = λ h. h;
  bytes = tt;
}

-- of one call
pub touches-just : (e : Event) (end end' : Bool) (x y : Telling) → NotesJust (e ∷ []) x y → EndsAtEnd end (e ∷ []) end'
    → IsOfBytes e → Touches (openings (e ∷ [])) end end' x y
touches-just e end end' (Tells f) (Tells g) n o b = tt
touches-just e end end' (Tells f) (Notes z) n o b = absurd n
touches-just e end end' (Notes a) (Tells g) n o b = absurd n
touches-just e end end' (Notes a) (Notes z) n o b = record {
  meanwhile = e ∷ [];
  noted = n;
  openings = refl;
  order = o;
  bytes = (b, tt);
}

openings-on : (a b : List Event) → openings (a ++ b) ≡ openings a ++ openings b
openings-on [] b = refl
openings-on (opened_input name ∷ a) b = ap (λ l. opened_input name ∷ l) (openings-on a b)
openings-on (gave bytes ∷ a) b = openings-on a b
openings-on (ended ∷ a) b = openings-on a b
openings-on (opened_output name ∷ a) b = ap (λ l. opened_output name ∷ l) (openings-on a b)
openings-on (wrote bytes ∷ a) b = openings-on a b
openings-on (closed ∷ a) b = ap (λ l. closed ∷ l) (openings-on a b)
openings-on (dropped ∷ a) b = ap (λ l. dropped ∷ l) (openings-on a b)
openings-on (measured most ∷ a) b = ap (λ l. measured most ∷ l) (openings-on a b)

-- one who may read on need not
order-off : (b : List Event) (e f : Bool) → EndsAtEnd e b f → EndsAtEnd false b f
order-off [] e f i = λ h. absurd (false≢true h)
order-off (opened_input name ∷ b) e f i = i
order-off (gave bytes ∷ b) e f i = (refl, i.1)
order-off (ended ∷ b) e f i = (refl, i.1)
order-off (opened_output name ∷ b) e f i = order-off b e f i
order-off (wrote bytes ∷ b) e f i = order-off b e f i
order-off (closed ∷ b) e f i = order-off b e f i
order-off (dropped ∷ b) e f i = order-off b e f i
order-off (measured most ∷ b) e f i = order-off b e f i

order-from : (b : List Event) (d e f : Bool) → (d ≡ true → e ≡ true) → EndsAtEnd e b f → EndsAtEnd d b f
order-from b true e f h i = subst (λ k. EndsAtEnd k b f) (h refl) i
order-from b false e f h i = order-off b e f i

order-on : (a b : List Event) (d e f : Bool) → EndsAtEnd d a e → EndsAtEnd e b f → EndsAtEnd d (a ++ b) f
order-on [] b d e f h i = order-from b d e f h i
order-on (opened_input name ∷ a) b d e f h i = order-on a b false e f h i
order-on (gave bytes ∷ a) b d e f h i = (h.0, order-on a b false e f h.1 i)
order-on (ended ∷ a) b d e f h i = (h.0, order-on a b true e f h.1 i)
order-on (opened_output name ∷ a) b d e f h i = order-on a b d e f h i
order-on (wrote bytes ∷ a) b d e f h i = order-on a b d e f h i
order-on (closed ∷ a) b d e f h i = order-on a b d e f h i
order-on (dropped ∷ a) b d e f h i = order-on a b d e f h i
order-on (measured most ∷ a) b d e f h i = order-on a b d e f h i

-- of some calls, and then others
pub touches-on : (a b : List Event) (d e f : Bool) (x y z : Telling) → Touches a d e x y → Touches b e f y z
    → Touches (a ++ b) d f x z
touches-on a b d e f (Tells x) (Tells y) (Tells z) r s = tt
touches-on a b d e f (Tells x) (Tells y) (Notes z) r s = absurd s
touches-on a b d e f (Tells x) (Notes y) z r s = absurd r
touches-on a b d e f (Notes x) (Tells y) z r s = absurd r
touches-on a b d e f (Notes x) (Notes y) (Tells z) r s = absurd s
touches-on a b d e f (Notes x) (Notes y) (Notes z) r s = record {
  meanwhile = r.meanwhile ++ s.meanwhile;
  noted = s.noted ∙ ap (λ l. l ++ s.meanwhile) r.noted ∙ append_assoc x r.meanwhile s.meanwhile;
  openings = openings-on r.meanwhile s.meanwhile ∙ ap (λ l. l ++ openings s.meanwhile) r.openings
      ∙ ap (λ l. a ++ l) s.openings;
  order = order-on r.meanwhile s.meanwhile d e f r.order s.order;
  bytes = both_of_bytes r.meanwhile s.meanwhile r.bytes s.bytes;
}

-- some of bytes from their front
pub bytes_taken : (n : ℕ) (xs : List ℕ) → AreBytes xs → AreBytes (take n xs)
bytes_taken zero xs b = tt
bytes_taken (suc n) [] b = tt
bytes_taken (suc n) (x ∷ xs) b = (b.0, bytes_taken n xs b.1)

-- of one that reads into a buffer with room: none come at the end
pub touches-reading : (n : ℕ) (buffer : List ℕ) (x y : Telling) → NotesJust (event_of_reading n buffer ∷ []) x y
    → 0 < length buffer → AreBytes (take n buffer) → Touches [] false (n == 0) x y
touches-reading n buffer x y just room bytes = by (n == 0) (length buffer == 0) refl refl where
  by : (t u : Bool) → (n == 0) ≡ t → (length buffer == 0) ≡ u → Touches [] false (n == 0) x y
  by true true e f = absurd (omega (arith, room, eqb-true (length buffer) 0 f))
  by true false e f =
      let k : NotesJust (ended ∷ []) x y = rw (e, f) at just in
      rw e (touches-just ended false true x y k (refl, λ h. h) tt)
  by false u e f =
      let k : NotesJust (gave (take n buffer) ∷ []) x y = rw e at just in
      rw e (touches-just (gave (take n buffer)) false false x y k (refl, λ h. h) bytes)

-- some of them behind others
pub bytes_left : (n : ℕ) (xs : List ℕ) → AreBytes xs → AreBytes (drop n xs)
bytes_left zero xs b = b
bytes_left (suc n) [] b = tt
bytes_left (suc n) (x ∷ xs) b = bytes_left n xs b.1

-- of one that writes
pub touches-writing : (n : ℕ) (bytes : List ℕ) (end : Bool) (x y : Telling) → NotesJust (wrote (take n bytes) ∷ []) x y
    → AreBytes bytes → Touches [] end end x y
touches-writing n bytes end x y just b =
    touches-just (wrote (take n bytes)) end end x y just (λ h. h) (bytes_taken n bytes b)

-- a count that is not 0
pub some_count : (n : ℕ) → 0 < n → (n == 0) ≡ false
some_count n h = ne_eqb n 0 (λ e. absurd (omega (arith, h, e)))

-- of some calls and then others that touch no files
pub touches-more : (d e f : Bool) (x y z : Telling) → Touches [] d e x y → Touches [] e f y z → Touches [] d f x z
touches-more d e f x y z r s = touches-on [] [] d e f x y z r s

order-end : (a : List Event) (d e : Bool) → EndsAtEnd d a e → EndsAtEnd d a true
order-end [] d e h = λ is. refl
order-end (opened_input name ∷ a) d e h = order-end a false e h
order-end (gave bytes ∷ a) d e h = (h.0, order-end a false e h.1)
order-end (ended ∷ a) d e h = (h.0, order-end a true e h.1)
order-end (opened_output name ∷ a) d e h = order-end a d e h
order-end (wrote bytes ∷ a) d e h = order-end a d e h
order-end (closed ∷ a) d e h = order-end a d e h
order-end (dropped ∷ a) d e h = order-end a d e h
order-end (measured most ∷ a) d e h = order-end a d e h

-- of some calls, behind which no more is read
pub touches-end : (a : List Event) (d e : Bool) (x y : Telling) → Touches a d e x y → Touches a d true x y
touches-end a d e (Tells x) (Tells y) r = tt
touches-end a d e (Tells x) (Notes y) r = absurd r
touches-end a d e (Notes x) (Tells y) r = absurd r
touches-end a d e (Notes x) (Notes y) r = record {
  meanwhile = r.meanwhile;
  noted = r.noted;
  openings = r.openings;
  order = order-end r.meanwhile d e r.order;
  bytes = r.bytes;
}
