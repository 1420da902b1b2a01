-- Fronts of bytes that are written.
use Rattle.std.proofs.Common.{arith, IsErr, Result, Ok, Err, ℕ, ◌+◌, List, length, take, drop, Option, Some}
use Rattle.std.proofs.Common.{None, IfSome, sym, subst}
use Rattle.std.proofs.KnownBytes.{Appends-trans, Appends-nil, Appends-kept}
use Rattle.std.proofs.Math.Seq.{take-add}
use Rattle.std.proofs.lemmas.List.{take_all}
use Rattle.std.specs.Io.KnownBytes.{Appends, Keeps}
use Rattle.teco_console.specs.Output.{Writes, WritesFront}

-- a front that was written, and then more
pub Appends-part : (a b c : Option (List ℕ)) (bs : List ℕ) (n m : ℕ) → Appends a b (take n bs)
    → Appends b c (take m (drop n bs)) → Appends a c (take (n + m) bs)
Appends-part a b c bs n m first second =
    subst (Appends a c) (sym (take-add n m bs)) (Appends-trans a b c _ _ first second)

-- nothing of the bytes was written
pub nothing : (a : Option (List ℕ)) (bs : List ℕ) → WritesFront a a bs
nothing a bs = record { len = 0; front = Appends-nil a }

pub nothing_of : (a : Option (List ℕ)) (text : Option (List ℕ)) → IfSome text (WritesFront a a)
nothing_of a None = tt
nothing_of a (Some bs) = nothing a bs

-- a front was written, and then nothing
pub kept_front : (a b c : Option (List ℕ)) (bs : List ℕ) (n : ℕ) → Appends a b (take n bs) → Keeps b c
    → WritesFront a c bs
kept_front a b c bs n first kept = record { len = n; front = Appends-kept a b c (take n bs) first kept }

-- all was written
pub whole_front : (a b : Option (List ℕ)) (bs : List ℕ) → Appends a b bs → WritesFront a b bs
whole_front a b bs all = record {
  len = length bs;
  front = subst (Appends a b) (sym (take_all (length bs) bs (omega arith))) all;
}

-- with a fault nothing was written
pub none_written : {X E : Type 0} (a : Option (List ℕ)) (text : Option (List ℕ)) (result : Result X E) → IsErr result
    → IfSome text (λ bs. Writes a a bs result)
none_written a text (Ok x) failed = absurd (cc)
none_written a text (Err e) failed = nothing_of a text
