-- Keys at the front of words.
use Rattle.std.proofs.Common.{◌≡◌, ℕ, suc, ◌+◌, Bool, true, false, cond, List, [], ◌∷◌, ◌++◌, length, take}
use Rattle.std.proofs.Common.{drop, refl, sym, ap, ◌∙◌, subst, arith}
use Rattle.std.proofs.Math.Seq.{drop-append_seam}
use Rattle.std.proofs.lemmas.Bool.{and_parts}
use Rattle.std.proofs.lemmas.List.{take-append-drop}
use Rattle.std.specs.List.{list_all, prefix_len}
use Rattle.teco_parameters.specs.Places.{is_of_names}
use Rattle.teco_parameters.specs.Words.{GivesNone, IsGiven}
use Rattle.teco_parameters.specs.declared.binding.Given.{Given}

taken : (x : ℕ) (xs : List ℕ) (m n : ℕ) → m ≡ suc n → take m (x ∷ xs) ≡ x ∷ take n xs
taken x xs m n e = rw e refl

-- all that passes at the front passes
one_more : (p : ℕ → Bool) (x : ℕ) (xs : List ℕ) (t : Bool) → p x ≡ t
    → list_all p (take (prefix_len p xs) xs) ≡ true
    → list_all p (take (cond t (1 + prefix_len p xs) 0) (x ∷ xs)) ≡ true
one_more p x xs true e h =
    let n = prefix_len p xs in
    subst (λ l. list_all p l ≡ true) (sym (taken x xs (1 + n) n (omega arith))) (rw e h)
one_more p x xs false e h = refl

passing : (p : ℕ → Bool) (xs : List ℕ) → list_all p (take (prefix_len p xs) xs) ≡ true
passing p [] = refl
passing p (x ∷ xs) = one_more p x xs (p x) refl (passing p xs)

-- what passes goes as far as something that does not
front : (p : ℕ → Bool) (x : ℕ) (key text : List ℕ) → p x ≡ false → list_all p key ≡ true
    → prefix_len p (key ++ x ∷ text) ≡ length key
front p x [] text stops h = rw stops refl
front p x (b ∷ key) text stops h =
    let parts = and_parts (p b) (list_all p key) h in
    rw parts.0 (omega (arith, front p x key text stops parts.1))

pub is_given : (word : List ℕ) (given : Given) (rest : List ℕ)
    → given.key.now ≡ take (prefix_len is_of_names word) word → rest ≡ drop (prefix_len is_of_names word) word
    → rest ≡ 61 ∷ given.text.now → IsGiven word given
is_given word given rest key from is =
    let n = prefix_len is_of_names word in
    record {
      written = sym (ap (λ k. k ++ 61 ∷ given.text.now) key ∙ ap (λ r. take n word ++ r) (sym is ∙ from)
          ∙ take-append-drop n word);
      key = subst (λ k. list_all is_of_names k ≡ true) (sym key) (passing is_of_names word);
    }

pub gives_none : (word rest : List ℕ) → rest ≡ drop (prefix_len is_of_names word) word
    → ((text : List ℕ) → rest ≡ 61 ∷ text → ⊥) → GivesNone word
gives_none word rest from never key text written h =
    let long : prefix_len is_of_names word ≡ length key = rw written (front is_of_names 61 key text refl h) in
    never text (from ∙ ap (λ n. drop n word) long ∙ ap (drop (length key)) written ∙ drop-append_seam key (61 ∷ text))
