-- Codes of characters, and what Q, ^X and \ give.
use Rattle.teco_law_facts.proofs.Prelude.{ℕ, ◌+◌, ◌≤◌, arith, w32, FitsSigned, refl, ℤ, pos, negsuc, List, drop, length}
use Rattle.teco_law_facts.proofs.Prelude.{length-drop, Option, Some, None, get_or, ◌<◌, IfSome, option_map, ints}
use Rattle.teco_law_facts.proofs.Prelude.{number_at, empty_pair, Kept, Query, number, all_at, empty_whole, Run, IsWhole}
use Rattle.teco_law_facts.proofs.Prelude.{IsWholePair, Holds, fore_of, back_of, Facts, number_of, IsWithin, IsValue}
use Rattle.teco_law_facts.proofs.Prelude.{value_in, any_number, Interval, unwrap_or}
use Rattle.std.proofs.lemmas.Fmt.{length_signed_le, decimal_nonempty}
use Rattle.teco_base.specs.NumberText.{decimal}
use Rattle.teco_model.specs.Character.{code_at}
use Rattle.teco_model.specs.Query as model
use Rattle.teco_model.specs.Storage.{text_in, number_in}
use Rattle.teco_model.specs.declared.kind.Query.TheVariants.{Number, Mode, Conversion}
use Rattle.teco_model.proofs.Bytes.{byte_at, number_short}
use Rattle.teco_law_facts.proofs.Insertion.{inserted_foretold}
use Rattle.teco_law_facts.proofs.Numbers.{value_in_in, any_within}
use Rattle.teco_law_facts.proofs.Registers.{number_at as known_number_at, untouched}
use Rattle.teco_law_facts.proofs.Saved.{saved_at}
use Rattle.teco_law_facts.proofs.Shapes.{Shifts, Foretells, value-number, done_with}
use Rattle.teco_law_facts.specs.Describes.{AreBytes}
use Rattle.teco_verifier.specs.facts.Queries as row
use Rattle.teco_law_facts.proofs.Motion.{pointer_at}

-- ---- characters
byte_within : (o : Option ℕ) → IfSome o (λ c. c < 256)
    → IsWithin row.character (unwrap_or (option_map pos o) (negsuc 0))
byte_within None h = record { low = omega (arith, ints); high = omega (arith, ints) }
byte_within (Some c) h = record { low = omega (arith, ints); high = omega (arith, ints) }

pub code_within : (text : List ℕ) → AreBytes text → (z : ℤ) → IsWithin row.character (code_at text z)
code_within text h (pos n) = byte_within _ (byte_at text h n)
code_within text h (negsuc n) = record { low = omega (arith, ints); high = omega (arith, ints) }

-- a number of an interval that fits may be pending
pub interval_value : (fore back : ℕ) (i : Interval) (v : ℤ) → IsWithin i v → FitsSigned w32 v
    → IsValue fore back (value_in i) v
interval_value fore back i v w f = record { is = value_in_in i fore back v w; fits = f; saved = tt }

pub code_value : (fore back : ℕ) (text : List ℕ) → AreBytes text → (z : ℤ)
    → IsValue fore back (value_in row.character) (code_at text z)
code_value fore back text h z = let w = code_within text h z in
    interval_value fore back row.character _ w (omega (arith, ints, w))

-- ---- decimal numbers
-- one of 32 bits has 1 to 11 characters
decimal_length : (v : ℤ) → FitsSigned w32 v → (1 ≤ length (decimal v)) × (length (decimal v) ≤ 11)
decimal_length (pos n) f = (
  decimal_nonempty n (omega (arith, ints)),
  length_signed_le 10 (pos n) (omega (arith, ints)) (omega (arith, ints)),
)
decimal_length (negsuc n) f = (omega arith, length_signed_le 10 (negsuc n) (omega (arith, ints)) (omega (arith, ints)))

-- ---- queries
module _ (run : Run) (facts : Facts) (unread : ℕ) (kept : Kept) (whole : IsWhole kept)
    (h : Holds run facts unread kept) where
  pair_whole : (r : ℕ) → IsWholePair (get_or kept.registers.pairs r empty_pair)
  pair_whole r = all_at IsWholePair kept.registers.pairs empty_pair whole.pairs empty_whole r

  -- with a value
  pub query_foretold : (q : Query) (v : ℤ) → FitsSigned w32 v
      → Foretells run facts unread kept (row.query_with q facts) (model.query_with q v kept)
  query_foretold (Number r) v f =
      λ l. done_with run facts unread kept whole h facts _ (Some (value_in row.character)) h refl refl refl refl
      (code_value _ _ (text_in r kept) (pair_whole r).bytes v)
  query_foretold Mode v f = λ l. untouched run facts unread kept whole h _ _
  query_foretold Conversion v f = let d = decimal_length v f in
      inserted_foretold run facts unread kept whole h 1 (number 11) (decimal v) d.0
      (omega (arith, d.1, value-number 11 run.n))

  -- without one, where the pointer stays
  pub number_is : (r : ℕ) → IsValue (fore_of kept) (back_of kept) (row.query (Number r) 0 facts) (number_in r kept)
  number_is r =
      let i = value_in_in (number_of r facts) (fore_of kept) (back_of kept) _
      (known_number_at run facts.numbers facts.texts kept.registers.pairs h.registers r) in
      record {
        is = record { low = i.low; high = i.high };
        fits = (pair_whole r).number;
        saved = saved_at (fore_of kept) (back_of kept) facts.position.saved kept.registers.pairs h.position.saved r;
      }

  pub length_is : (r : ℕ) → IsValue (fore_of kept) (back_of kept) (value_in row.text_length)
      (pos (length (text_in r kept)))
  length_is r = let p = (pair_whole r).within in
      interval_value _ _ _ _ (record { low = omega (arith, ints); high = omega (arith, ints, p) })
      (omega (arith, ints, p))

  pub mode_is : IsValue (fore_of kept) (back_of kept) (value_in any_number) kept.mode
  mode_is = interval_value _ _ _ _ (any_within kept.mode whole.mode) whole.mode

  -- and where it goes past a number
  pub past : Shifts run.n (row.past_number facts.position.distances) kept
      (record kept { pointer = kept.pointer + (number_at (drop kept.pointer kept.text)).len })
  past =
      let w = number_short (drop kept.pointer kept.text) in
      let l = length-drop kept.pointer kept.text in
      pointer_at run facts unread kept whole h (row.past_number facts.position.distances) _
      (omega (arith, h.position.begin)) (omega (arith, w, l, whole.inside))
      (omega (arith, ints, w, l, whole.inside))
