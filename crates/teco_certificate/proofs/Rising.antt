-- Texts whose registers rise.
use Rattle.teco_certificate.proofs.Prelude.{◌≡◌, ℕ, zero, suc, ◌+◌, ◌<◌, ◌≤◌, List, [], ◌∷◌, ◌++◌, length, arith}
use Rattle.teco_certificate.proofs.Prelude.{REGISTERS, TextsRise, AreOfRegisters, LongerText}
use Rattle.std.proofs.Common.{get_or}
use Rattle.std.proofs.Common.{length-append}
use Rattle.std.proofs.lemmas.List.{get_or_append_left}
use Rattle.std.proofs.lemmas.List.Elements.{All-from_recursion}

-- the front of such texts
pub front_rises : (xs ys : List LongerText) → TextsRise (xs ++ ys) → TextsRise xs
front_rises xs ys rise = λ k d h.
    let at = rise k d (omega (arith, length-append xs ys)) in
    let here : get_or (xs ++ ys) k d ≡ get_or xs k d = get_or_append_left xs ys d k (omega arith) in
    let next : get_or (xs ++ ys) (k + 1) d ≡ get_or xs (k + 1) d = get_or_append_left xs ys d (k + 1) (omega arith) in
    rw (here, next) at at

-- each register is at least the place of its text
at_least_place : (ls : List LongerText) → TextsRise ls → (k : ℕ) (d : LongerText) → k < length ls
    → k ≤ (get_or ls k d).register
at_least_place ls rise zero d h = omega arith
at_least_place ls rise (suc k) d h =
    let before = at_least_place ls rise k d (omega arith) in
    let next : k + 1 ≡ suc k = omega arith in
    let step : (get_or ls k d).register < (get_or ls (suc k) d).register = rw next at (rise k d (omega arith)) in
    omega arith

-- so there are no more texts than registers
pub few_rise : (ls : List LongerText) → TextsRise ls → AreOfRegisters ls → length ls ≤ REGISTERS
few_rise [] rise registers = omega arith
few_rise (l ∷ ls) rise registers =
    let last : length ls < length (l ∷ ls) = omega arith in
    let place = at_least_place (l ∷ ls) rise (length ls) l last in
    let small = All-from_recursion (λ (l : LongerText). l.register < REGISTERS) (l ∷ ls) registers (length ls) l last in
    omega arith
