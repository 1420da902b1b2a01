-- Texts of bytes, and numbers that fit 32 bits.
use Rattle.teco_model.proofs.Prelude.{ℕ, zero, suc, ◌+◌, ◌-◌, ◌<◌, ◌≤◌, arith, w32, FitsSigned, ℤ, pos, negsuc, List}
use Rattle.teco_model.proofs.Prelude.{[], ◌∷◌, ◌++◌, take, drop, get_or, length, length-take, length-drop, Option, Some}
use Rattle.teco_model.proofs.Prelude.{None, IfSome, option_map, Bool, true, false, cond, ◌==◌, AllByRecursion}
use Rattle.teco_model.proofs.Prelude.{prefix_len, slice_get, unwrap_or, ints, SFits-int_wrap, byte_of, is_digit}
use Rattle.teco_model.proofs.Prelude.{decimal, text_after_replacement, empty_pair, AreBytes, IsWholePair}
use Rattle.std.proofs.Common.{mod-lt}
use Rattle.std.proofs.Common.{set}
use Rattle.std.proofs.Common.{◌||◌}
use Rattle.std.specs.Fmt.{signed_decimal}
use Rattle.std.specs.Str.{IsAscii}
use Rattle.std.proofs.lemmas.Fmt.{IsAscii-signed}
use Rattle.teco_base.specs.Text.{range}
use Rattle.teco_model.specs.Character.{code_at}
use Rattle.teco_model.specs.Conversion.{sign_len, is_minus, signed_value, reading, number_at}

pub of_either : {X : Type 0} (P : X → Type 0) (b : Bool) (x y : X) → P x → P y → P (cond b x y)
of_either P true x y h i = h
of_either P false x y h i = i

-- ---- lists
module _ {X : Type 0} (P : X → Type 0) where
  pub all_taken : (n : ℕ) (xs : List X) → AllByRecursion P xs → AllByRecursion P (take n xs)
  all_taken zero xs h = tt
  all_taken (suc n) [] h = tt
  all_taken (suc n) (x ∷ xs) h = (h.0, all_taken n xs h.1)

  pub all_dropped : (n : ℕ) (xs : List X) → AllByRecursion P xs → AllByRecursion P (drop n xs)
  all_dropped zero xs h = h
  all_dropped (suc n) [] h = tt
  all_dropped (suc n) (x ∷ xs) h = all_dropped n xs h.1

  pub all_joined : (xs ys : List X) → AllByRecursion P xs → AllByRecursion P ys → AllByRecursion P (xs ++ ys)
  all_joined [] ys h i = i
  all_joined (x ∷ xs) ys h i = (h.0, all_joined xs ys h.1 i)

  pub all_put : (r : ℕ) (x : X) (xs : List X) → AllByRecursion P xs → P x → AllByRecursion P (set xs r x)
  all_put r x [] h p = tt
  all_put zero x (y ∷ xs) h p = (p, h.1)
  all_put (suc r) x (y ∷ xs) h p = (h.0, all_put r x xs h.1 p)

  pub all_at : (xs : List X) (d : X) → AllByRecursion P xs → P d → (r : ℕ) → P (get_or xs r d)
  all_at [] d h p r = p
  all_at (x ∷ xs) d h p zero = h.0
  all_at (x ∷ xs) d h p (suc r) = all_at xs d h.1 p r

pub empty_whole : IsWholePair empty_pair
empty_whole = record { number = omega (arith, ints); within = omega arith; bytes = tt }

-- ---- texts
abbrev pub IsByte : ℕ → Type 0
IsByte c = c < 256

pub range_bytes : (text : List ℕ) (a b : ℕ) → AreBytes text → AreBytes (range text a b)
range_bytes text a b h = all_taken IsByte (b - a) (drop a text) (all_dropped IsByte a text h)

pub replaced_bytes : (text : List ℕ) (a b : ℕ) (new : List ℕ) → AreBytes text → AreBytes new
    → AreBytes (text_after_replacement text a b new)
replaced_bytes text a b new h i =
    all_joined IsByte (take a text ++ new) (drop b text)
    (all_joined IsByte (take a text) new (all_taken IsByte a text h) i) (all_dropped IsByte b text h)

pub byte_small : (n : ℤ) → byte_of n < 256
byte_small (pos n) = omega (arith, mod-lt n {m = 256} (omega arith))
byte_small (negsuc n) = omega arith

ascii_bytes : (text : List ℕ) → IsAscii text → AreBytes text
ascii_bytes [] h = tt
ascii_bytes (c ∷ text) h = (omega (arith, h 0), ascii_bytes text (λ i. h (suc i)))

pub decimal_bytes : (v : ℤ) → FitsSigned w32 v → AreBytes (decimal v)
decimal_bytes (pos n) f = ascii_bytes (signed_decimal (pos n)) (IsAscii-signed (pos n) (omega (arith, ints)))
decimal_bytes (negsuc n) f = ascii_bytes (signed_decimal (negsuc n)) (IsAscii-signed (negsuc n) (omega (arith, ints)))

pub byte_at : (text : List ℕ) → AreBytes text → (n : ℕ) → IfSome (slice_get text n) (λ c. c < 256)
byte_at [] h n = tt
byte_at (c ∷ text) h zero = h.0
byte_at (c ∷ text) h (suc n) = byte_at text h.1 n

pub code_fits : (text : List ℕ) → AreBytes text → (z : ℤ) → FitsSigned w32 (code_at text z)
code_fits text h (negsuc n) = omega (arith, ints)
code_fits text h (pos n) = by _ (byte_at text h n)
  where
    by : (o : Option ℕ) → IfSome o (λ c. c < 256) → FitsSigned w32 (unwrap_or (option_map pos o) (negsuc 0))
    by None h = omega (arith, ints)
    by (Some c) h = omega (arith, ints)

-- ---- the number at the front of a text
sign_short : (text : List ℕ) → sign_len text ≤ length text
sign_short [] = omega arith
sign_short (b ∷ text) = one_or (b == 43 || b == 45) where
  one_or : (x : Bool) → cond x 1 0 ≤ suc (length text)
  one_or true = omega arith
  one_or false = omega arith

read_short : (minus : Bool) (sign : ℕ) (digits : List ℕ) → (reading minus sign digits).len ≤ sign + length digits
read_short minus sign [] = omega arith
read_short minus sign (d ∷ digits) = omega arith

pub number_short : (text : List ℕ) → (number_at text).len ≤ length text
number_short text = search (read_short, length-take, length-drop, sign_short, arith)

-- what is read is a 32-bit number
signed_fits : (minus : Bool) (digits : List ℕ) → FitsSigned w32 (signed_value minus digits)
signed_fits true digits = SFits-int_wrap w32 _
signed_fits false digits = SFits-int_wrap w32 _

read_fits : (minus : Bool) (sign : ℕ) (digits : List ℕ) → FitsSigned w32 (reading minus sign digits).number
read_fits minus sign [] = omega (arith, ints)
read_fits minus sign (d ∷ digits) = signed_fits minus (d ∷ digits)

pub number_fits : (text : List ℕ) → FitsSigned w32 (number_at text).number
number_fits text = read_fits (is_minus text) (sign_len text)
    (take (prefix_len is_digit (drop (sign_len text) text)) (drop (sign_len text) text))
