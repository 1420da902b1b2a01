-- The first line of a text ends behind its first line end.
use Rattle.std.proofs.Common.{◌≡◌, ◌==◌, ℕ, zero, suc, ◌+◌, ◌-◌, ◌<◌, ◌≤◌, List, [], ◌∷◌, ◌++◌, length}
use Rattle.std.proofs.Common.{take, drop, true, false, cond, not, refl, sym, subst, ap, ◌∙◌, arith, get_or}
use Rattle.std.proofs.lemmas.Bool.{false_from_ne_true}
use Rattle.std.proofs.lemmas.List.{append-nil, length-drop, take-append-drop, take_rest}
use Rattle.std.proofs.lemmas.List.Elements.{filter-append}
use Rattle.std.proofs.Math.Seq.{drop-cons}
use Rattle.std.specs.Prelude.{None, Some}
use Rattle.memchr.specs.Find.{IsFirstByte, Nowhere, Passes}
use Rattle.teco_base.specs.Bytes.{is_line_end}
use Rattle.teco_policy.specs.Lines.{body, in_first, line_end, lines}
use Rattle.teco_policy.specs.Walks.{IsFirstOf, IsLineOf}

module _ (b : ℕ) (text : List ℕ) where
  pub line-ended : is_line_end b ≡ true → lines (b ∷ text) ≡ (b ∷ []) ∷ lines text
  line-ended e = ap (λ t. cond t ((b ∷ []) ∷ lines text) (in_first b (lines text))) e

  pub line-open : is_line_end b ≡ false → lines (b ∷ text) ≡ in_first b (lines text)
  line-open e = ap (λ t. cond t ((b ∷ []) ∷ lines text) (in_first b (lines text))) e

  pub end-ended : is_line_end b ≡ true → line_end (b ∷ text) ≡ b ∷ line_end text
  end-ended e = ap (λ t. cond t (b ∷ line_end text) (line_end text)) e

  pub end-open : is_line_end b ≡ false → line_end (b ∷ text) ≡ line_end text
  end-open e = ap (λ t. cond t (b ∷ line_end text) (line_end text)) e

  pub body-ended : is_line_end b ≡ true → body (b ∷ text) ≡ body text
  body-ended e = ap (λ t. cond (not t) (b ∷ body text) (body text)) e

  pub body-open : is_line_end b ≡ false → body (b ∷ text) ≡ b ∷ body text
  body-open e = ap (λ t. cond (not t) (b ∷ body text) (body text)) e

-- no character of a text is a line end
abbrev pub IsOpen : List ℕ → Type 0
IsOpen text = Nowhere (Passes is_line_end text) 0 (length text)

open_first : (b : ℕ) (text : List ℕ) → IsOpen (b ∷ text) → is_line_end b ≡ false
open_first b text none = false_from_ne_true (is_line_end b) (λ e. none 0 (omega arith) (omega arith) e)

open_rest : (b : ℕ) (text : List ℕ) → IsOpen (b ∷ text) → IsOpen text
open_rest b text none = λ k low high. none (suc k) (omega arith) (omega arith)

pub line_end-open : (text : List ℕ) → IsOpen text → line_end text ≡ []
line_end-open [] none = refl
line_end-open (b ∷ text) none = end-open b text (open_first b text none) ∙ line_end-open text (open_rest b text none)

pub body_of_open : (text : List ℕ) → IsOpen text → body text ≡ text
body_of_open [] none = refl
body_of_open (b ∷ text) none =
    body-open b text (open_first b text none) ∙ ap (λ l. b ∷ l) (body_of_open text (open_rest b text none))

-- a line up to its line end
pub lines-ended : (inside : List ℕ) (b : ℕ) (rest : List ℕ) → IsOpen inside → is_line_end b ≡ true
    → lines (inside ++ b ∷ rest) ≡ (inside ++ b ∷ []) ∷ lines rest
lines-ended [] b rest none e = line-ended b rest e
lines-ended (c ∷ inside) b rest none e =
    line-open c (inside ++ b ∷ rest) (open_first c inside none)
    ∙ ap (λ l. in_first c l) (lines-ended inside b rest (open_rest c inside none) e)

-- a line up to the end of the text
pub lines-open : (b : ℕ) (text : List ℕ) → IsOpen (b ∷ text) → lines (b ∷ text) ≡ (b ∷ text) ∷ []
lines-open b [] none = line-open b [] (open_first b [] none)
lines-open b (c ∷ text) none =
    line-open b (c ∷ text) (open_first b (c ∷ text) none)
    ∙ ap (λ l. in_first b l) (lines-open c text (open_rest b (c ∷ text) none))

pub is_line : (inside : List ℕ) (b : ℕ) → IsOpen inside → is_line_end b ≡ true → IsLineOf inside (b ∷ [])
is_line inside b none e = record {
  ends =
      filter-append is_line_end inside (b ∷ [])
      ∙ ap (λ l. l ++ line_end (b ∷ [])) (line_end-open inside none) ∙ end-ended b [] e;
  has =
      filter-append (λ c. not (is_line_end c)) inside (b ∷ [])
      ∙ ap (λ l. l ++ body (b ∷ [])) (body_of_open inside none) ∙ ap (λ l. inside ++ l) (body-ended b [] e)
      ∙ append-nil inside;
}

pub is_open_line : (inside : List ℕ) → IsOpen inside → IsLineOf inside []
is_open_line inside none = record {
  ends = ap (λ l. line_end l) (append-nil inside) ∙ line_end-open inside none;
  has = ap (λ l. body l) (append-nil inside) ∙ body_of_open inside none;
}

open_cons : (b : ℕ) (text : List ℕ) → (is_line_end b ≡ true → ⊥) → IsOpen text → (j : ℕ) → 0 ≤ j
    → j < length (b ∷ text) → Passes is_line_end (b ∷ text) j → ⊥
open_cons b text first later zero low high = first
open_cons b text first later (suc j) low high = later j (omega arith) (omega arith)

-- what stands before a place where no line end stands before
pub open_front : (k : ℕ) (text : List ℕ) → Nowhere (Passes is_line_end text) 0 k → IsOpen (take k text)
open_front zero text none = λ j low high. absurd (omega arith)
open_front (suc k) [] none = λ j low high. absurd (omega arith)
open_front (suc k) (b ∷ text) none =
    open_cons b (take k text) (none 0 (omega arith) (omega arith))
    (open_front k text (λ j low high. none (suc j) (omega arith) (omega arith)))

-- what a byte at a place is, as a slice
one_at : (k : ℕ) (text : List ℕ) → k < length text → take (k + 1 - k) (drop k text) ≡ get_or text k 0 ∷ []
one_at k text within =
    let one : k + 1 - k ≡ 1 = omega arith in
    ap (λ l. take (k + 1 - k) l) (drop-cons text k 0 within)
    ∙ ap (λ n. take n (get_or text k 0 ∷ drop (suc k) text)) one

pub ended_first : (text : List ℕ) (k : ℕ) → IsFirstByte is_line_end text (Some k)
    → IsFirstOf text (take k text) (take (k + 1 - k) (drop k text)) (take (length text - (k + 1)) (drop (k + 1) text))
ended_first text k found =
    let within = found.0.high in
    let end = one_at k text within in
    let one : k + 1 ≡ suc k = omega arith in
    let rest : take (length text - (k + 1)) (drop (k + 1) text) ≡ drop (suc k) text =
    take_rest text (k + 1) ∙ ap (λ n. drop n text) one in
    let front = open_front k text found.0.before in
    let split : text ≡ take k text ++ get_or text k 0 ∷ drop (suc k) text =
    sym (take-append-drop k text) ∙ ap (λ l. take k text ++ l) (drop-cons text k 0 within) in
    record {
      line = subst (λ l. IsLineOf (take k text) l) (sym end) (is_line (take k text) (get_or text k 0) front found.1);
      is =
          ap (λ l. lines l) split ∙ lines-ended (take k text) (get_or text k 0) (drop (suc k) text) front found.1
          ∙ ap (λ l. (take k text ++ l) ∷ lines (drop (suc k) text)) (sym end)
          ∙ ap (λ l. (take k text ++ take (k + 1 - k) (drop k text)) ∷ lines l) (sym rest);
      shorter = let long = ap (λ l. length l) rest ∙ length-drop (suc k) text in omega arith;
    }

pub open_first_line : (text : List ℕ) → (length text == 0) ≡ false → IsFirstByte is_line_end text None
    → IsFirstOf text text [] []
open_first_line [] some none = cc
open_first_line (b ∷ text) some none = record {
  line = is_open_line (b ∷ text) none;
  is = lines-open b text none ∙ ap (λ l. l ∷ []) (sym (append-nil (b ∷ text)));
  shorter = omega arith;
}
