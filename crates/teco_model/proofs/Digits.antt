-- A run of digits that grows by one.
use Rattle.std.proofs.Common.{◌≡◌, ℕ, ◌+◌, ◌-◌, ◌*◌, ◌<◌, List, [], ◌∷◌, ◌++◌, length, take, get_or, pos, ◌*ℤ◌, ap}
use Rattle.std.proofs.Common.{sym, refl, ◌∙◌}
use Rattle.std.proofs.lemmas.List.{take_more, map-append}
use Rattle.std.proofs.lemmas.Int.{int_wrap-add_left, int_wrap-add_same, int_wrap-mul_left}
use Rattle.std.proofs.lemmas.Int.Digits.{number_push}
use Rattle.std.specs.Int.{w32, int_wrap}
use Rattle.teco_base.specs.Arithmetic.{add, mul, in_32_bits}
use Rattle.teco_model.specs.Arguments.{decimal_number, run_value}

-- one more digit at the end
decimal_number-push : (digits : List ℕ) (digit : ℕ)
    → decimal_number (digits ++ digit ∷ []) ≡ decimal_number digits * 10 + (digit - 48)
decimal_number-push digits digit = rw (map-append, number_push) refl

-- wrapping on the way changes nothing
onward : (n d : ℕ) → add (mul (in_32_bits (pos n)) (pos 10)) (pos d) ≡ in_32_bits (pos (n * 10 + d))
onward n d =
    int_wrap-add_left w32 (int_wrap w32 (pos n) *ℤ pos 10) (pos d)
    ∙ int_wrap-add_same w32 (int_wrap w32 (pos n) *ℤ pos 10) (pos n *ℤ pos 10) (pos d)
    (int_wrap-mul_left w32 (pos n) (pos 10))

-- the value with one more digit
pub run_value-more : (digits : List ℕ) (i : ℕ) → i < length digits
    → run_value (take (i + 1) digits) ≡ add (mul (run_value (take i digits)) (pos 10)) (pos (get_or digits i 0 - 48))
run_value-more digits i within =
    ap run_value (take_more digits i 0 within)
    ∙ ap (λ n. in_32_bits (pos n)) (decimal_number-push (take i digits) (get_or digits i 0))
    ∙ sym (onward (decimal_number (take i digits)) (get_or digits i 0 - 48))
