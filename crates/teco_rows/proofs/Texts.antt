-- The line ends of a text in which other characters stand for some.
use Rattle.teco_rows.proofs.Prelude.{◌≡◌, ℕ, ◌+◌, ◌-◌, ◌≤◌, ◌<◌, inl, inr, ◌∙◌, arith, refl, ap, List, ◌++◌, length}
use Rattle.teco_rows.proofs.Prelude.{take, drop, get_or, false, length-append, get_or_append_left, is_line_end}
use Rattle.std.proofs.Common.{length-take, length-drop}
use Rattle.std.proofs.lemmas.List.{get_or-append_right, get_or-take, get_or-drop}
use Rattle.teco_rows.proofs.Lines.{ends, IsEnd, IsBegin, above_or}

module _ (text new : List ℕ) (a b : ℕ) (ordered : a ≤ b) (inside : b ≤ length text) where
  abbrev pub after : List ℕ
  after = take a text ++ (new ++ drop b text)

  pub length_after : length after + b ≡ a + length new + length text
  length_after = omega (arith, length-append {A = ℕ}, length-take a text, length-drop b text)

  ends_before : (i : ℕ) → i < a → ends after i ≡ ends text i
  ends_before i h =
      ap is_line_end (get_or_append_left (take a text) (new ++ drop b text) 0 i (omega (arith, length-take a text))
      ∙ get_or-take a text i 0 h)

  ends_new : (i j : ℕ) → i ≡ a + j → j < length new → ends after i ≡ ends new j
  ends_new i j e h =
      ap is_line_end (get_or-append_right (take a text) (new ++ drop b text) a i 0 (omega
      (arith, length-take a text)) (omega arith) ∙ ap (λ k. get_or (new ++ drop b text) k 0) (omega arith)
      ∙ get_or_append_left new (drop b text) 0 j h)

  ends_behind : (i j : ℕ) → i + b ≡ j + a + length new → b ≤ j → ends after i ≡ ends text j
  ends_behind i j e h =
      ap is_line_end (get_or-append_right (take a text) (new ++ drop b text) a i 0 (omega
      (arith, length-take a text)) (omega arith)
      ∙ get_or-append_right new (drop b text) (length new) (i - a) 0 refl (omega arith)
      ∙ get_or-drop b text (i - a - length new) 0 ∙ ap (λ k. get_or text k 0) (omega arith))

  -- the end of a line behind the change
  pub end_behind : (q e q' e' : ℕ) → IsEnd text q e → b ≤ q → q' + b ≡ q + a + length new
      → e' + b ≡ e + a + length new → IsEnd after q' e'
  end_behind q e q' e' f h r t = record {
    after = omega (arith, f.after);
    within = omega (arith, f.within, length_after);
    more = λ l. omega (arith, f.more (omega (arith, length_after)));
    none = λ i v w. ends_behind i (i + b - (a + length new)) (omega (arith, f.after)) (omega arith)
        ∙ f.none (i + b - (a + length new)) (omega arith) (omega arith);
    one = λ k v w. let m =
        f.more (omega (arith, length_after)) in ends_behind k (k + b - (a + length new)) (omega arith)
        (omega arith) ∙ f.one (k + b - (a + length new)) (omega arith) (omega (arith, length_after));
  }

  -- the begin of the line stays where no line end is new
  pub begin_kept : (s q : ℕ) → IsBegin text a s → q ≡ a + length new → ((i : ℕ) → i < length new
      → ends new i ≡ false) → IsBegin after q s
  begin_kept s q f r n = record {
    before = omega (arith, f.before);
    none = λ i v w. elim (above_or a i) as (λ x. ends after i ≡ false) [
      | inl y ↦ ends_new i (i - a) (omega arith) (omega arith) ∙ n (i - a) (omega arith)
      | inr y ↦ ends_before i y ∙ f.none i v y
    ];
    one = λ k v. ends_before k (omega (arith, f.before)) ∙ f.one k v;
  }

  -- and else lies in what is new
  pub begin_new : (t : ℕ) → IsBegin new (length new) t → 1 ≤ t → IsBegin after (a + length new) (a + t)
  begin_new t f h = record {
    before = omega (arith, f.before);
    none = λ i v w. ends_new i (i - a) (omega arith) (omega arith) ∙ f.none (i - a) (omega arith) (omega arith);
    one = λ k v. ends_new k (k - a) (omega arith) (omega (arith, f.before)) ∙ f.one (k - a) (omega arith);
  }
