-- Bytes that are written in turn.
use Rattle.teco_hosts.proofs.Prelude.{◌≡◌, ℕ, ◌+◌, ◌≤◌, List, [], ◌++◌, length, take, drop, Option, Some, None, refl}
use Rattle.teco_hosts.proofs.Prelude.{sym, ap, subst, ◌∙◌, append_assoc, append-nil, take_all, take-append-drop, Output}
use Rattle.teco_hosts.proofs.Prelude.{with_written, Result, Ok, Err, Telling, Becomes, Stays, after_writing}
use Rattle.teco_hosts.proofs.Prelude.{WritesFront, Fault}
use Rattle.std.proofs.Math.Seq.{take-add}
use Rattle.teco_hosts.specs.PageCalls.{WritesBytes}
use Rattle.teco_hosts.proofs.Told.{told-same, told-on}

pub written-written : (o : Option Output) (a b : List ℕ) → with_written b (with_written a o) ≡ with_written (a ++ b) o
written-written None a b = refl
written-written (Some o) a b = ap (λ w. Some (record { name = o.name; written = w })) (append_assoc o.written a b)

-- some bytes, and then others
pub written-on : (a b : List ℕ) (x y z : Telling) → Becomes (after_writing a) x y → Becomes (after_writing b) y z
    → Becomes (after_writing (a ++ b)) x z
written-on a b = told-on (λ f g. g ≡ after_writing a f) (λ g h. h ≡ after_writing b g)
    (λ f h. h ≡ after_writing (a ++ b) f)
    (λ f g h p q. q ∙ ap (after_writing b) p ∙ ap (λ (o : Option Output). record f { output = o })
    (written-written f.output a b))

-- none
pub written-nil : (o : Option Output) → o ≡ with_written [] o
written-nil None = refl
written-nil (Some o) = ap (λ w. Some (record { name = o.name; written = w })) (sym (append-nil o.written))

pub written-none : (x : Telling) → Becomes (after_writing []) x x
written-none = told-same (λ f g. g ≡ after_writing [] f)
    (λ f. ap (λ (o : Option Output). record f { output = o }) (written-nil f.output))

-- the next of some bytes
pub written-part : (bytes : List ℕ) (k n : ℕ) (x y z : Telling) → Becomes (after_writing (take k bytes)) x y
    → Becomes (after_writing (take n (drop k bytes))) y z → Becomes (after_writing (take (k + n) bytes)) x z
written-part bytes k n x y z p q =
    subst (λ l. Becomes (after_writing l) x z) (sym (take-add k n bytes))
    (written-on (take k bytes) (take n (drop k bytes)) x y z p q)

-- a failure writes no more
pub written-stays : (a : List ℕ) (x y z : Telling) → Becomes (after_writing a) x y → Stays y z
    → Becomes (after_writing a) x z
written-stays a = told-on (λ f g. g ≡ after_writing a f) (λ g h. h ≡ g) (λ f h. h ≡ after_writing a f)
    (λ f g h p q. q ∙ p)

-- all of some bytes
pub written-all : (bytes : List ℕ) (k : ℕ) (x y : Telling) → length bytes ≤ k
    → Becomes (after_writing (take k bytes)) x y → Becomes (after_writing bytes) x y
written-all bytes k x y h p = subst (λ l. Becomes (after_writing l) x y) (take_all k bytes h) p

-- some from their front
pub front-part : (bytes : List ℕ) (k : ℕ) (x y : Telling) → Becomes (after_writing (take k bytes)) x y
    → WritesFront bytes x y
front-part bytes k x y p = record {
  front = take k bytes;
  left = drop k bytes;
  whole = sym (take-append-drop k bytes);
  written = p;
}

pub front-more : (a b : List ℕ) (x y : Telling) → WritesFront a x y → WritesFront (a ++ b) x y
front-more a b x y w =
    record {
      front = w.front;
      left = w.left ++ b;
      whole = ap (λ l. l ++ b) w.whole ∙ append_assoc w.front w.left b;
      written = w.written;
    }

pub front-on : (a b : List ℕ) (x y z : Telling) → Becomes (after_writing a) x y → WritesFront b y z
    → WritesFront (a ++ b) x z
front-on a b x y z p w =
    record {
      front = a ++ w.front;
      left = w.left;
      whole = ap (λ l. a ++ l) w.whole ∙ sym (append_assoc a w.front w.left);
      written =
          written-on a w.front x y z p w.written;
    }

pub both : (a b : List ℕ) (r : Result (Unit {0}) Fault) (x y z : Telling) → Becomes (after_writing a) x y
    → WritesBytes b r y z → WritesBytes (a ++ b) r x z
both a b (Ok u) x y z p w = written-on a b x y z p w
both a b (Err e) x y z p w = front-on a b x y z p w

pub both-as : (a b c : List ℕ) (r : Result (Unit {0}) Fault) (x y z : Telling) → b ≡ c → Becomes (after_writing a) x y
    → WritesBytes b r y z → WritesBytes (a ++ c) r x z
both-as a b c r x y z e p w = subst (λ l. WritesBytes (a ++ l) r x z) e (both a b r x y z p w)
