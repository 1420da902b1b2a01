-- The last line of a text begins behind the last line end that is not its own.
use Rattle.std.proofs.Common.{◌≡◌, ◌≢◌, ℕ, suc, ◌+◌, ◌-◌, ◌<◌, List, [], ◌∷◌, ◌++◌, length, take, drop}
use Rattle.std.proofs.Common.{Bool, true, false, cond, refl, sym, subst, ap, ◌∙◌, arith, get_or}
use Rattle.std.proofs.lemmas.Bool.{false_from_ne_true}
use Rattle.std.proofs.lemmas.List.{get_or-drop, get_or-take, length-drop, length-take, take-append-drop, take_more}
use Rattle.std.proofs.Math.Seq.{drop-cons}
use Rattle.std.specs.Prelude.{None, Some}
use Rattle.memchr.specs.Find.{IsLastByte}
use Rattle.teco_base.specs.Bytes.{is_line_end}
use Rattle.teco_policy.specs.Lines.{in_first, lines}
use Rattle.teco_policy.specs.Walks.{IsLastOf}
use Rattle.teco_policy.proofs.Firsts.{line-ended, line-open}

in_first_some : (b : ℕ) (l : List (List ℕ)) → in_first b l ≢ []
in_first_some b [] = λ e. cc
in_first_some b (line ∷ l) = λ e. cc

cond_some : (t : Bool) (b : ℕ) (l m : List (List ℕ)) → cond t ((b ∷ []) ∷ l) (in_first b m) ≢ []
cond_some true b l m = λ e. cc
cond_some false b l m = in_first_some b m

-- a text that is not empty has a line
pub lines_some : (b : ℕ) (text : List ℕ) → lines (b ∷ text) ≢ []
lines_some b text = cond_some (is_line_end b) b (lines text) (lines text)

lines_some_pushed : (text : List ℕ) (b : ℕ) → lines (text ++ b ∷ []) ≢ []
lines_some_pushed [] b = lines_some b []
lines_some_pushed (c ∷ text) b = lines_some c (text ++ b ∷ [])

in_first-append : (c : ℕ) (l m : List (List ℕ)) → l ≢ [] → in_first c (l ++ m) ≡ in_first c l ++ m
in_first-append c [] m some = absurd (some refl)
in_first-append c (line ∷ l) m some = refl

cond-append : (t : Bool) (c : ℕ) (l m : List (List ℕ)) → l ≢ []
    → cond t ((c ∷ []) ∷ (l ++ m)) (in_first c (l ++ m)) ≡ cond t ((c ∷ []) ∷ l) (in_first c l) ++ m
cond-append true c l m some = refl
cond-append false c l m some = in_first-append c l m some

-- behind a line end the lines are those of what follows
pub lines-append : (text : List ℕ) (e : ℕ) (rest : List ℕ) → is_line_end e ≡ true
    → lines (text ++ e ∷ rest) ≡ lines (text ++ e ∷ []) ++ lines rest
lines-append [] e rest is = line-ended e rest is ∙ ap (λ l. l ++ lines rest) (sym (line-ended e [] is))
lines-append (c ∷ text) e rest is =
    ap (λ l. cond (is_line_end c) ((c ∷ []) ∷ l) (in_first c l)) (lines-append text e rest is)
    ∙ cond-append (is_line_end c) c (lines (text ++ e ∷ [])) (lines rest) (lines_some_pushed text e)

alone_first : (t : Bool) (b : ℕ) → cond t ((b ∷ []) ∷ []) (in_first b []) ≡ (b ∷ []) ∷ []
alone_first true b = refl
alone_first false b = refl

-- a text with no line end before its last character is one line
alone : (b : ℕ) (text : List ℕ) → ((j : ℕ) → j < length text → is_line_end (get_or (b ∷ text) j 0) ≡ true → ⊥)
    → lines (b ∷ text) ≡ (b ∷ text) ∷ []
alone b [] none = alone_first (is_line_end b) b
alone b (c ∷ text) none =
    line-open b (c ∷ text) (false_from_ne_true (is_line_end b) (λ e. none 0 (omega arith) e))
    ∙ ap (λ l. in_first b l) (alone c text (λ j within. none (suc j) (omega arith)))

one_line : (text : List ℕ) → 0 < length text
    → ((j : ℕ) → j + 1 < length text → is_line_end (get_or text j 0) ≡ true → ⊥) → lines text ≡ text ∷ []
one_line [] some none = absurd (omega arith)
one_line (b ∷ text) some none = alone b text (λ j within. none j (omega arith))

-- all but the last character
abbrev pub inner : List ℕ → List ℕ
inner text = take (length text - 1) text

module _ (text : List ℕ) (some : 0 < length text) where
  pub whole_last : IsLastByte is_line_end (inner text) None → IsLastOf text [] text
  whole_last none = record {
    is =
        one_line text some
        (λ j within e. none j (omega arith) (omega (arith, length-take (length text - 1) text))
        (subst (λ b. is_line_end b ≡ true) (sym (get_or-take (length text - 1) text j 0 (omega arith))) e));
    shorter = some;
  }

  pub behind_last : (k : ℕ) → IsLastByte is_line_end (inner text) (Some k)
      → IsLastOf text (take (k + 1) text) (drop (k + 1) text)
  behind_last k found =
      let long = length-take (length text - 1) text in
      let high = found.0.high in
      let within : k + 1 < length text = omega arith in
      let here : is_line_end (get_or text k 0) ≡ true =
      subst (λ b. is_line_end b ≡ true) (get_or-take (length text - 1) text k 0 (omega arith)) found.1 in
      let front : take (k + 1) text ≡ take k text ++ get_or text k 0 ∷ [] = take_more text k 0 (omega arith) in
      let one : suc k ≡ k + 1 = omega arith in
      let rest : drop (suc k) text ≡ drop (k + 1) text = ap (λ n. drop n text) one in
      let split : text ≡ take k text ++ get_or text k 0 ∷ drop (k + 1) text =
      sym (take-append-drop k text)
      ∙ ap (λ l. take k text ++ l) (drop-cons text k 0 (omega arith) ∙ ap (λ l. get_or text k 0 ∷ l) rest) in
      let left = length-drop (k + 1) text in
      let last : lines (drop (k + 1) text) ≡ drop (k + 1) text ∷ [] =
      one_line (drop (k + 1) text) (omega arith)
      (λ j below e. found.0.after (k + 1 + j) (omega arith) (omega arith)
      (subst (λ b. is_line_end b ≡ true)
      (get_or-drop (k + 1) text j 0 ∙ sym (get_or-take (length text - 1) text (k + 1 + j) 0 (omega arith))) e)) in
      record {
        is =
            ap (λ l. lines l) split ∙ lines-append (take k text) (get_or text k 0) (drop (k + 1) text) here
            ∙ ap (λ l. lines l ++ lines (drop (k + 1) text)) (sym front)
            ∙ ap (λ l. lines (take (k + 1) text) ++ l) last;
        shorter = omega (arith, length-take (k + 1) text);
      }
