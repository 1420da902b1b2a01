-- The texts of an element are of bytes, as the text that it stands in.
use Rattle.teco_model.proofs.Prelude.{◌≡◌, ℕ, ◌-◌, List, drop, length, Option, Some, None, IfSome, Result, Ok, Err}
use Rattle.teco_model.proofs.Prelude.{IfOk, refl, sym, subst, Code, Element, element_at, AreBytes, IsOfBytes}
use Rattle.teco_model.proofs.Standing.{StandsIn, found_read}
use Rattle.teco_model.proofs.Bytes.{IsByte, all_taken, all_dropped}

part_bytes : (text : List ℕ) (place : ℕ) (part : List ℕ) (end : ℕ) → AreBytes text → StandsIn text place part end
    → AreBytes part
part_bytes text place part end h s =
    subst AreBytes (sym s.is) (all_taken IsByte (length part) (drop (end - length part) text)
    (all_dropped IsByte (end - length part) text h))

pub element_bytes : (text : List ℕ) (at : ℕ) → AreBytes text → IfOk (element_at text at) (λ o. IfSome o IsOfBytes)
element_bytes text at h = by (element_at text at) refl where
  by : (r : Result (Option Element) Code) → element_at text at ≡ r → IfOk r (λ o. IfSome o IsOfBytes)
  by (Err c) was = tt
  by (Ok None) was = tt
  by (Ok (Some e)) was = let r = found_read text at e was in
      record { text = part_bytes _ _ _ _ h r.text; second = part_bytes _ _ _ _ h r.second }
