-- Known bytes that are consumed and appended in turn.
use Rattle.teco_session.proofs.Prelude.{◌≡◌, ℕ, ◌+◌, List, ◌++◌, length, take, drop, Option, Some, None, Result, Ok}
use Rattle.teco_session.proofs.Prelude.{Err, sym, subst, ◌∙◌, append_assoc, arith, length-append, Appends-trans}
use Rattle.teco_session.proofs.Prelude.{Appends, Consumes, prepend_known, Writes, SessionFault}
use Rattle.std.proofs.Math.Seq.{take-add, take-append-add}
use Rattle.std.proofs.lemmas.List.{take-append-le}
use Rattle.teco_session.specs.Output.{WritesPart}

-- a part that was written, and then more
pub Appends-part : (a b c : Option (List ℕ)) (bs : List ℕ) (n m : ℕ) → Appends a b (take n bs)
    → Appends b c (take m (drop n bs)) → Appends a c (take (n + m) bs)
Appends-part a b c bs n m first second =
    subst (Appends a c) (sym (take-add n m bs)) (Appends-trans a b c _ _ first second)

-- bytes that were taken, and then those ahead
pub Consumes-ahead : (a b : Option (List ℕ)) (taken ahead : List ℕ) → Consumes a (prepend_known ahead b) taken
    → Consumes a b (taken ++ ahead)
Consumes-ahead None b taken ahead came = tt
Consumes-ahead (Some x) None taken ahead came = absurd came
Consumes-ahead (Some x) (Some y) taken ahead came = came ∙ sym (append_assoc taken ahead y)

-- a part of the front is a part of all
pub WritesPart-front : (sink sunk : Option (List ℕ)) (front rest : List ℕ) → WritesPart sink sunk front
    → WritesPart sink sunk (front ++ rest)
WritesPart-front sink sunk front rest p =
    let same : take p.len (front ++ rest) ≡ take p.len front =
    take-append-le p.len front rest (omega (arith, p.short)) in
    record {
      len = p.len;
      short = omega (arith, p.short, length-append front rest);
      part = subst (Appends sink sunk) (sym same) p.part;
    }

-- a part of the rest, behind all of the front
pub WritesPart-behind : (sink mid sunk : Option (List ℕ)) (front rest : List ℕ) → Appends sink mid front
    → WritesPart mid sunk rest → WritesPart sink sunk (front ++ rest)
WritesPart-behind sink mid sunk front rest first p = record {
  len = length front + p.len;
  short = omega (arith, p.short, length-append front rest);
  part = subst (Appends sink sunk) (sym (take-append-add front rest p.len))
      (Appends-trans sink mid sunk front (take p.len rest) first p.part);
}

-- bytes behind others, which were all written
pub Writes-behind : {X : Type 0} (sink mid sunk : Option (List ℕ)) (front rest : List ℕ)
    (result : Result X SessionFault) → Appends sink mid front → Writes mid sunk rest result
    → Writes sink sunk (front ++ rest) result
Writes-behind sink mid sunk front rest (Ok done) first more = Appends-trans sink mid sunk front rest first more
Writes-behind sink mid sunk front rest (Err fault) first more =
    (more.0, WritesPart-behind sink mid sunk front rest first more.1)
