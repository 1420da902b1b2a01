-- The number at the pointer.
use Rattle.std.specs.Prelude.{ℕ, ℤ, pos, ◌+◌, List, [], ◌∷◌, codes, take, drop, length, if◌then◌else◌, Bool, true}
use Rattle.std.specs.Prelude.{false}
use Rattle.std.specs.List.{prefix_len}
use Rattle.teco_base.specs.Arithmetic.{sub}
use Rattle.teco_base.specs.Bytes.{is_digit, is_among}
use Rattle.teco_model.specs.Arguments.{run_value}
use Rattle.teco_model.specs.State.{Kept}

-- a sign may stand before digits
abbrev pub sign_len : List ℕ → ℕ
sign_len [] = 0
sign_len (b ∷ text) = if is_among b (codes "+-") then 1 else 0

abbrev pub is_minus : List ℕ → Bool
is_minus [] = false
is_minus (b ∷ text) = is_among b (codes "-")

-- the number that digits behind such a sign are, modulo 2^32
abbrev pub signed_value : Bool → List ℕ → ℤ
signed_value false digits = run_value digits
signed_value true digits = sub (pos 0) (run_value digits)

-- a number that is read, and how many characters it takes; without a digit it is 0, and takes none
pub record Reading : Type 0 where
  pub number : ℤ
  pub len : ℕ

abbrev pub reading : Bool → ℕ → List ℕ → Reading
reading minus sign [] = record { number = pos 0; len = 0 }
reading minus sign (digit ∷ digits) = record {
  number = signed_value minus (digit ∷ digits);
  len = sign + length (digit ∷ digits);
}

-- the number at the front of a text
abbrev pub number_at : List ℕ → Reading
number_at text =
    let behind = drop (sign_len text) text in
    reading (is_minus text) (sign_len text) (take (prefix_len is_digit behind) behind)

-- the number at the pointer
abbrev pub number_here : Kept → Reading
number_here kept = number_at (drop kept.pointer kept.text)
