-- How many blanks stand at the front, by what the first bytes are.
use Rattle.std.proofs.Common.{◌≡◌, ℕ, ◌+◌, true, false, List, [], ◌∷◌, length, refl, arith, ap}
use Rattle.teco_base.specs.Bytes.{is_blank}
use Rattle.teco_model.specs.Element.{blank_len, is_blank_pair}
use Rattle.teco_lex.specs.Blanks.{SkipsBlank}

blank_len-blank : (b : ℕ) (rest : List ℕ) → is_blank b ≡ true → blank_len (b ∷ rest) ≡ 1 + blank_len rest
unfolding blank_len
blank_len-blank b [] h = rw (h, blank_len) refl
blank_len-blank b (c ∷ rest) h = rw (h, blank_len) refl

blank_len-pair : (b c : ℕ) (rest : List ℕ) → is_blank b ≡ false → is_blank_pair b c ≡ true
    → blank_len (b ∷ c ∷ rest) ≡ 2 + blank_len rest
unfolding blank_len
blank_len-pair b c rest h p = rw (h, p, blank_len) refl

-- nothing, or one byte that is no blank
pub no_blank_at_end : (bytes : List ℕ) → length bytes ≡ 0 → blank_len bytes ≡ 0
unfolding blank_len
no_blank_at_end [] h = refl
no_blank_at_end (b ∷ bytes) h = absurd (omega arith)

pub no_blank_last : (bytes rest : List ℕ) (b : ℕ) → bytes ≡ b ∷ rest → is_blank b ≡ false → length rest ≡ 0
    → blank_len bytes ≡ 0
unfolding blank_len
no_blank_last bytes [] b e h l = rw (e, h, blank_len) refl
no_blank_last bytes (c ∷ rest) b e h l = absurd (omega arith)

pub no_pair : (bytes rest behind : List ℕ) (b c : ℕ) → bytes ≡ b ∷ rest → rest ≡ c ∷ behind → is_blank b ≡ false
    → is_blank_pair b c ≡ false → blank_len bytes ≡ 0
unfolding blank_len
no_pair bytes rest behind b c e f h p = rw (e, f, h, p, blank_len) refl

pub skips_blank : (bytes rest : List ℕ) (b : ℕ) → bytes ≡ b ∷ rest → is_blank b ≡ true → SkipsBlank bytes rest
skips_blank bytes rest b e h = record {
  blank = omega (arith, ap blank_len e, ap length e, blank_len-blank b rest h);
  shorter = omega (arith, ap length e);
}

pub skips_pair : (bytes rest behind : List ℕ) (b c : ℕ) → bytes ≡ b ∷ rest → rest ≡ c ∷ behind → is_blank b ≡ false
    → is_blank_pair b c ≡ true → SkipsBlank bytes behind
skips_pair bytes rest behind b c e f h p = let whole : bytes ≡ b ∷ c ∷ behind = cc in record {
  blank = omega (arith, ap blank_len whole, ap length whole, blank_len-pair b c behind h p);
  shorter = omega (arith, ap length whole);
}

pub ruleset blanks = (no_blank_at_end, no_blank_last, no_pair, skips_blank, skips_pair)
