-- Items that stand behind a word each, and then an end that does not begin with the word: how they are read one by one.
use Rattle.teco_poly.proofs.Prelude.{◌≡◌, ℕ, List, [], ◌∷◌, ◌++◌, sym, ap, ◌∙◌, refl, append_assoc}
use Rattle.std.proofs.Common.{flat_map}
use Rattle.std.proofs.lemmas.List.{append-nil, append_cancel_left}
use Rattle.std.specs.List.{AllByRecursion}
use Rattle.std.specs.Prelude.{◌≢◌}

-- one more of which it holds
pub all_and : {X : Type 0} (P : X → Type 0) (xs : List X) (x : X) → AllByRecursion P xs → P x
    → AllByRecursion P (xs ++ x ∷ [])
all_and P [] x are is = (is, tt)
all_and P (y ∷ ys) x are is = (are.0, all_and P ys x are.1 is)

module _ {X : Type 0} (word : List ℕ) (item : X → List ℕ) where
  -- the item with its word
  abbrev pub spelled : X → List ℕ
  spelled x = word ++ item x

  abbrev pub all_spelled : List X → List ℕ
  all_spelled xs = flat_map spelled xs

  -- the first item behind its word, and what comes behind it
  first_spelled : (x : X) (xs : List X) (last : List ℕ) → all_spelled (x ∷ xs) ++ last ≡ word
      ++ (item x ++ (all_spelled xs ++ last))
  first_spelled x xs last = append_assoc (word ++ item x) (all_spelled xs) last
      ∙ append_assoc word (item x) (all_spelled xs ++ last)

  module _ (IsItem : X → Type 0) (end : List ℕ) where
    -- those that are read and those that are left are all
    pub record AreLeft (all read : List X) (rest : List ℕ) : Type 0 where
      pub left : List X
      pub are : AllByRecursion IsItem left
      pub whole : read ++ left ≡ all
      pub text : rest ≡ all_spelled left ++ end

    module _ (apart : (words : List ℕ) → end ≢ word ++ words) (all read : List X) (rest : List ℕ) where
      -- an item more is read
      pub more_read : AreLeft all read rest → (words : List ℕ) → rest ≡ word ++ words → (y : X) (behind : List ℕ)
          → ((x : X) (xs : List X) → IsItem x → words ≡ item x ++ (all_spelled xs ++ end)
          → (y ≡ x) × (behind ≡ all_spelled xs ++ end))
          → AreLeft all (read ++ y ∷ []) behind
      more_read h words stands y behind taken = by_left h.left h.are h.whole (sym stands ∙ h.text)
        where
          by_left : (left : List X) → AllByRecursion IsItem left → read ++ left ≡ all → word ++ words ≡ all_spelled left
              ++ end → AreLeft all (read ++ y ∷ []) behind
          by_left [] are whole e = absurd (apart words (sym e))
          by_left (x ∷ xs) are whole e =
              let one = taken x xs are.0 (append_cancel_left word words (item x ++ (all_spelled xs ++ end))
              (e ∙ first_spelled x xs end)) in
              record {
                left = xs;
                are = are.1;
                whole = append_assoc read (y ∷ []) xs ∙ ap (λ z. read ++ (z ∷ xs)) one.0 ∙ whole;
                text = one.1;
              }

      -- where no word stands all are read
      pub all_read : AreLeft all read rest → ((words : List ℕ) → rest ≢ word ++ words) → (read ≡ all) × (rest ≡ end)
      all_read h no_word = by_left h.left h.whole h.text
        where
          by_left : (left : List X) → read ++ left ≡ all → rest ≡ all_spelled left ++ end → (read ≡ all) × (rest ≡ end)
          by_left [] whole e = (sym (append-nil read) ∙ whole, e)
          by_left (x ∷ xs) whole e = absurd (no_word (item x ++ (all_spelled xs ++ end)) (e ∙ first_spelled x xs end))

  -- lists of one text are one
  module _ (IsItem : X → Type 0) (end ended : List ℕ) (apart : (words : List ℕ) → end ≢ word ++ words)
      (parted : (words : List ℕ) → ended ≢ word ++ words)
      (one_item : (x y : X) (xs ys : List X) → IsItem x → IsItem y → item x ++ (all_spelled xs ++ end) ≡ item y
      ++ (all_spelled ys ++ ended) → (x ≡ y) × (all_spelled xs ++ end ≡ all_spelled ys ++ ended)) where
    pub one_list : (xs ys : List X) → AllByRecursion IsItem xs → AllByRecursion IsItem ys
        → all_spelled xs ++ end ≡ all_spelled ys ++ ended → (xs ≡ ys) × (end ≡ ended)
    one_list [] [] are others e = (refl, e)
    one_list [] (y ∷ ys) are others e =
        absurd (apart (item y ++ (all_spelled ys ++ ended)) (e ∙ first_spelled y ys ended))
    one_list (x ∷ xs) [] are others e =
        absurd (parted (item x ++ (all_spelled xs ++ end)) (sym e ∙ first_spelled x xs end))
    one_list (x ∷ xs) (y ∷ ys) are others e =
        let first = one_item x y xs ys are.0 others.0
        (append_cancel_left word (item x ++ (all_spelled xs ++ end)) (item y ++ (all_spelled ys ++ ended))
        (sym (first_spelled x xs end) ∙ e ∙ first_spelled y ys ended)) in
        let rest = one_list xs ys are.1 others.1 first.1 in
        (ap (λ z. z ∷ xs) first.0 ∙ ap (λ zs. y ∷ zs) rest.0, rest.1)
