-- What is read of texts that have words, registers and files.
use Rattle.teco_certificate.proofs.Prelude.{◌≡◌, ℕ, ◌+◌, ◌-◌, Bool, true, false, Option, Some, None, List, [], ◌∷◌}
use Rattle.teco_certificate.proofs.Prelude.{◌++◌, length, drop, flat_map, sym, ap, ◌∙◌, refl, arith, append_assoc, ltb}
use Rattle.teco_certificate.proofs.Prelude.{cond, Decides-eqb, append_cancel_right, decimal, AllByRecursion, codes, ◌≢◌}
use Rattle.teco_certificate.proofs.Prelude.{register_name, LF, Fields, EndsPolynomial, line, version_text, letters_of}
use Rattle.teco_certificate.proofs.Prelude.{kept_text, longer_text, longer_texts, behind_comma, chosen_text}
use Rattle.teco_certificate.proofs.Prelude.{IsLongerText, Polynomial, ArgumentRange, Needs, LongerText, Chosen}
use Rattle.std.proofs.Common.{Bor}
use Rattle.std.proofs.lemmas.Slice.Eq.{strip_suffix_is}
use Rattle.std.specs.Cmp.Lexicographic.{pointwise}
use Rattle.std.specs.Option.{MatchOption}
use Rattle.std.specs.Prelude.{take, nat_eq, unwrap_or}
use Rattle.teco_poly.specs.Front.{LooksFor, LacksWord}
use Rattle.teco_poly.specs.Text.{text as poly_text}

-- a text that begins with another byte than a word does not begin with the word
pub other_byte : (text word rest : List ℕ) (c d : ℕ) → text ≡ c ∷ rest → (c ≡ d → ⊥) → (behind : List ℕ)
    → text ≢ (d ∷ word) ++ behind
other_byte text word rest c d e other behind f = other (heads (sym e ∙ f))
  where
    heads : c ∷ rest ≡ d ∷ (word ++ behind) → c ≡ d
    heads same = cc

-- I, then O, and then -
module _ (text one two three rest : List ℕ) (input output dash : Bool) (first : LooksFor text (codes "I") input one)
    (second : LooksFor one (codes "O") output two) (third : LooksFor two (codes "-") dash three) where
  nothing_more : two ≡ LF ∷ rest → three ≡ LF ∷ rest
  nothing_more e = (third.not_there (other_byte two [] rest 10 45 e (λ (same : 10 ≡ 45). omega arith))).1 ∙ e

  letters_read : (i o : Bool) → text ≡ letters_of i o ++ LF ∷ rest → (input ≡ i) × (output ≡ o) × (three ≡ LF ∷ rest)
  letters_read true true e =
      let i = first.there (79 ∷ 10 ∷ rest) e in
      let o = second.there (10 ∷ rest) i.1 in
      (i.0, o.0, nothing_more o.1)
  letters_read true false e =
      let i = first.there (10 ∷ rest) e in
      let o = second.not_there (other_byte one [] rest 10 79 i.1 (λ (same : 10 ≡ 79). omega arith)) in
      (i.0, o.0, nothing_more (o.1 ∙ i.1))
  letters_read false true e =
      let i = first.not_there (other_byte text [] (10 ∷ rest) 79 73 e (λ (same : 79 ≡ 73). omega arith)) in
      let o = second.there (10 ∷ rest) (i.1 ∙ e) in
      (i.0, o.0, nothing_more o.1)
  letters_read false false e =
      let i = first.not_there (other_byte text [] (10 ∷ rest) 45 73 e (λ (same : 45 ≡ 73). omega arith)) in
      let o = second.not_there (other_byte one [] (10 ∷ rest) 45 79 (i.1 ∙ e) (λ (same : 45 ≡ 79). omega arith)) in
      (i.0, o.0, (third.there (10 ∷ rest) (o.1 ∙ (i.1 ∙ e))).1)

  pub needs_read : (needs : Needs) → text ≡ letters_of needs.input needs.output ++ LF ∷ rest
      → (record { input = input; output = output } ≡ needs) × (three ≡ LF ∷ rest)
  needs_read needs e =
      let read = letters_read needs.input needs.output e in
      let i : input ≡ needs.input = read.0 in
      let o : output ≡ needs.output = read.1 in
      (rw (i, o) refl, read.2)

-- 1, or 2
pub version_read : (text one two : List ℕ) (a b : Bool) (argument : Option ArgumentRange) (rest : List ℕ)
    → LooksFor text (codes "1") a one → LooksFor one (codes "2") b two → text ≡ version_text argument ++ LF ∷ rest
    → two ≡ LF ∷ rest
version_read text one two a b None rest first second e =
    let o = first.there (LF ∷ rest) e in
    (second.not_there (other_byte one [] rest 10 50 o.1 (λ (same : 10 ≡ 50). omega arith))).1 ∙ o.1
version_read text one two a b (Some range) rest first second e =
    let o = first.not_there (other_byte text [] (LF ∷ rest) 50 49 e (λ (same : 50 ≡ 49). omega arith)) in
    (second.there (LF ∷ rest) (o.1 ∙ e)).1

-- the space behind a polynomial is left out
pub without_space : (words p : List ℕ) (r : Option (Bor (List ℕ))) (x d : Bor (List ℕ))
    → MatchOption r (pointwise nat_eq (drop (length words - 1) words) (codes " ") ≡ false)
    (λ y. (pointwise nat_eq (drop (length words - 1) words) (codes " ") ≡ true)
    × (y.now ≡ take (length words - 1) words) × (length y.now + 1 ≡ length words))
    → x ≡ unwrap_or r d → words ≡ p ++ codes " " → x.now ≡ p
without_space words p None x d cases is e = absurd (strip_suffix_is Decides-eqb words (codes " ") None cases p e)
without_space words p (Some y) x d cases is e =
    ap (λ (b : Bor (List ℕ)). b.now) is ∙ append_cancel_right y.now p (codes " ")
    (sym (strip_suffix_is Decides-eqb words (codes " ") (Some y) cases) ∙ e)

-- no register's name is a -
pub no_dash : (r : ℕ) → register_name r ≡ 45 → ⊥
no_dash r e = by_test (ltb r 26) refl e
  where
    by_test : (b : Bool) → ltb r 26 ≡ b → cond b (65 + r) (48 + (r - 26)) ≡ 45 → ⊥
    by_test true is named = omega arith
    by_test false is named = omega arith

-- texts that do not begin with a - have a first
pub record HasFirst (ls : List LongerText) (text rest : List ℕ) : Type 0 where
  pub first : LongerText
  pub others : List LongerText
  pub all : ls ≡ first ∷ others
  pub is_first : IsLongerText first
  pub are_others : AllByRecursion IsLongerText others
  pub spelled : text ≡ longer_text first ++ (flat_map behind_comma others ++ LF ∷ rest)

pub texts_first : (ls : List LongerText) (text rest : List ℕ) → AllByRecursion IsLongerText ls
    → ((words : List ℕ) → text ≢ codes "-" ++ words) → text ≡ longer_texts ls ++ LF ∷ rest → HasFirst ls text rest
texts_first [] text rest are no_dash e = absurd (no_dash (LF ∷ rest) e)
texts_first (l ∷ ls) text rest are no_dash e = record {
  first = l;
  others = ls;
  all = refl;
  is_first = are.0;
  are_others = are.1;
  spelled = e ∙ append_assoc (longer_text l) (flat_map behind_comma ls) (LF ∷ rest);
}

-- no byte of a polynomial stands behind one
pub ends_longer : (ls : List LongerText) (rest : List ℕ) → EndsPolynomial (flat_map behind_comma ls ++ LF ∷ rest)
ends_longer [] rest = refl
ends_longer (l ∷ ls) rest = refl

pub ends_kept : (kept : Bool) (rest : List ℕ) → EndsPolynomial (kept_text kept ++ rest)
ends_kept true rest = refl
ends_kept false rest = refl

-- the parts of a line one after another
pub parts_of_line : (chosen : Chosen) (rest : List ℕ)
    → line (chosen_text chosen) ++ rest ≡ decimal chosen.begin
    ++ (codes " held " ++ (poly_text chosen.held
    ++ (codes " " ++ (kept_text chosen.kept ++ (codes " texts " ++ (longer_texts chosen.longer ++ LF ∷ rest))))))
parts_of_line chosen rest = simp append_assoc

-- the line of the files is not that of an argument
pub no_argument : (rest : List ℕ) → LacksWord (codes "needs " ++ rest) (codes "argument ")
no_argument rest =
    other_byte (codes "needs " ++ rest) (codes "rgument ") (codes "eeds " ++ rest) 110 97 refl
    (λ (same : 110 ≡ 97). omega arith)

-- fields that are those of another are it
pub same_chosen : (chosen : Chosen) {begin : ℕ} {held : Polynomial} {kept : Bool} {longer : List LongerText}
    → begin ≡ chosen.begin → held ≡ chosen.held → kept ≡ chosen.kept → longer ≡ chosen.longer
    → record { begin = begin; held = held; kept = kept; longer = longer } ≡ chosen
same_chosen chosen b h k l = rw (b, h, k, l) refl

pub same_fields : (fields : Fields) {entry : ℕ} {argument : Option ArgumentRange} {needs : Needs}
    {commands size : Polynomial} {loops : List Chosen}
    → entry ≡ fields.entry → argument ≡ fields.argument → needs ≡ fields.needs → commands ≡ fields.commands
    → size ≡ fields.size → loops ≡ fields.loops
    → record {
      entry = entry;
      argument = argument;
      needs = needs;
      commands = commands;
      size = size;
      loops = loops;
    } ≡ fields
same_fields fields e a n c s l = rw (e, a, n, c, s, l) refl
