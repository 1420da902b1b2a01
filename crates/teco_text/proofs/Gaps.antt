-- Moving a gap, which is from s to e, and texts in two pieces.
use Rattle.std.proofs.Common.{◌≡◌, ℕ, ◌+◌, ◌-◌, ◌≤◌, zero, suc, min, List, [], ◌∷◌, ◌++◌, length, take, drop, refl}
use Rattle.std.proofs.Common.{sym, ap, ◌∙◌, arith, append_assoc}
use Rattle.std.proofs.Math.Seq.{paste, take-append-add, drop-append-add}
use Rattle.std.proofs.lemmas.List.{drop_at, drop-append-le, drop-drop, drop-take, drop_min, length-drop}
use Rattle.std.proofs.lemmas.List.{length-take-le, take_min}
use native.Mathlib.Numerals.{unary_clauses}
use Rattle.std.proofs.lemmas.List.Edits.{drop-paste, take-paste}
use Rattle.std.specs.List.{copy_within}
use Rattle.teco_base.specs.Text.{range}

-- to a place before it
pub behind_moved_back : (xs : List ℕ) (at s e : ℕ) → at ≤ s → s ≤ e → e ≤ length xs
    → drop (at + (e - s)) (copy_within xs at s (at + (e - s))) ≡ drop at (take s xs ++ drop e xs)
behind_moved_back xs at s e before gap within =
    let d : ℕ = at + (e - s) in
    let n : ℕ = s - at in
    let past : d + n ≡ e = omega arith in
    let front : at + n ≡ s = omega arith in
    let part = ap (λ k. drop at (take k xs)) (sym front) ∙ drop-take at n xs in
    ap (drop d) (append_assoc (take d xs) (take n (drop at xs)) (drop (d + n) xs))
    ∙ drop_at (take d xs) (take n (drop at xs) ++ drop (d + n) xs) d (length-take-le d xs (omega arith))
    ∙ ap (λ k. take n (drop at xs) ++ drop k xs) past
    ∙ ap (λ t. t ++ drop e xs) (sym part)
    ∙ sym (drop-append-le at (take s xs) (drop e xs) (omega (arith, length-take-le s xs (omega arith))))

-- to a place behind it, n characters on
module _ (xs : List ℕ) (at s e : ℕ) (behind : s ≤ at) (gap : s ≤ e) (within : at + (e - s) ≤ length xs) where
  n : ℕ
  n = at + (e - s) - e

  place : s + n ≡ at
  unfolding n
  place = omega arith

  reached : s ≤ length xs
  reached = omega arith

  moved : n ≤ length (drop e xs)
  unfolding n
  moved = omega (arith, length-drop e xs)

  front : length (take s xs) + n ≡ at
  front = ap (λ k. k + n) (length-take-le s xs reached) ∙ place

  pub before_moved_on : take at (copy_within xs e (at + (e - s)) s) ≡ take at (take s xs ++ drop e xs)
  unfolding n
  before_moved_on =
      ap (λ k. take k (paste xs s (drop e xs) n)) (sym place)
      ∙ take-paste xs s (drop e xs) n reached moved
      ∙ sym (take-append-add (take s xs) (drop e xs) n)
      ∙ ap (λ k. take k (take s xs ++ drop e xs)) front

  pub behind_moved_on : drop (at + (e - s)) (copy_within xs e (at + (e - s)) s) ≡ drop at (take s xs ++ drop e xs)
  unfolding n
  behind_moved_on =
      sym (drop-drop (e - s) at (paste xs s (drop e xs) n))
      ∙ ap (λ k. drop (e - s) (drop k (paste xs s (drop e xs) n))) (sym place)
      ∙ ap (drop (e - s)) (drop-paste xs s (drop e xs) n reached moved)
      ∙ drop-drop (e - s) (s + n) xs
      ∙ ap (λ k. drop k xs) (omega arith)
      ∙ sym (drop-drop n e xs)
      ∙ sym (drop-append-add (take s xs) (drop e xs) n)
      ∙ ap (λ k. drop k (take s xs ++ drop e xs)) front

-- a front of two pieces, and what is behind it
take_of_pieces : (xs ys : List ℕ) (count : ℕ) → take count (xs ++ ys) ≡ take count xs ++ take (count - length xs) ys
take_of_pieces [] ys zero = refl
take_of_pieces [] ys (suc count) = simp unary_clauses
take_of_pieces (x ∷ xs) ys zero =
    let none : 0 ≡ 0 - length (x ∷ xs) = omega arith in ap (λ k. take k ys) none
take_of_pieces (x ∷ xs) ys (suc count) = ap (λ t. x ∷ t) (take_of_pieces xs ys count) ∙ simp unary_clauses

drop_of_pieces : (xs ys : List ℕ) (count : ℕ) → drop count (xs ++ ys) ≡ drop count xs ++ drop (count - length xs) ys
drop_of_pieces [] ys zero = refl
drop_of_pieces [] ys (suc count) = simp unary_clauses
drop_of_pieces (x ∷ xs) ys zero =
    let none : 0 ≡ 0 - length (x ∷ xs) = omega arith in ap (λ k. x ∷ (xs ++ drop k ys)) none
drop_of_pieces (x ∷ xs) ys (suc count) = drop_of_pieces xs ys count ∙ simp unary_clauses

-- what a part has of two pieces
module _ (xs ys : List ℕ) (a b : ℕ) (order : a ≤ b) where
  from : ℕ
  from = min a (length xs)

  to : ℕ
  to = min b (length xs)

  first_part : take (b - a) (drop a xs) ≡ range xs from to
  unfolding from to
  first_part =
      sym (take_min (b - a) (drop a xs))
      ∙ ap (λ k. take k (drop a xs)) (omega (arith, length-drop a xs))
      ∙ take_min (to - from) (drop a xs)
      ∙ ap (take (to - from)) (sym (drop_min a xs))

  pub range_of_pieces : range (xs ++ ys) a b
      ≡ range xs (min a (length xs)) (min b (length xs)) ++ range ys (a - length xs) (b - length xs)
  unfolding from to
  range_of_pieces =
      ap (take (b - a)) (drop_of_pieces xs ys a)
      ∙ take_of_pieces (drop a xs) (drop (a - length xs) ys) (b - a)
      ∙ ap (λ t. t ++ take (b - a - length (drop a xs)) (drop (a - length xs) ys)) first_part
      ∙ ap (λ k. range xs from to ++ take k (drop (a - length xs) ys)) (omega (arith, length-drop a xs))
