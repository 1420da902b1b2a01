-- What a conditional asks of its argument.
use Rattle.std.specs.Prelude.{ℕ, ℤ, zero, suc, pos, negsuc, Bool, true, false, not}
use Rattle.teco_base.specs.Bytes.{is_letter, is_symbol, is_digit, is_letter_or_digit, is_lower, is_upper}
use Rattle.teco_model.specs.declared.kind.Test.{Test}
use Rattle.teco_model.specs.declared.kind.Test.TheVariants as test

abbrev pub is_zero : ℤ → Bool
is_zero (pos zero) = true
is_zero n = false

abbrev pub is_negative : ℤ → Bool
is_negative (pos n) = false
is_negative (negsuc n) = true

abbrev pub is_positive : ℤ → Bool
is_positive (pos (suc n)) = true
is_positive n = false

-- is it the code of a character of a class?
abbrev pub is_code_of : (ℕ → Bool) → ℤ → Bool
is_code_of class (pos c) = class c
is_code_of class (negsuc n) = false

abbrev pub holds : Test → ℤ → Bool
holds test.Zero n = is_zero n
holds test.NotZero n = not (is_zero n)
holds test.Negative n = is_negative n
holds test.Positive n = is_positive n
holds test.Letter n = is_code_of is_letter n
holds test.Symbol n = is_code_of is_symbol n
holds test.Digit n = is_code_of is_digit n
holds test.LetterOrDigit n = is_code_of is_letter_or_digit n
holds test.Lower n = is_code_of is_lower n
holds test.Upper n = is_code_of is_upper n
