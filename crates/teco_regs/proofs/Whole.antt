-- Registers stay whole.
use Rattle.std.proofs.Common.{◌≡◌, ℕ, suc, List, [], ◌∷◌, ◌++◌, length, map, reverse, set, refl, ap, ◌∙◌, arith}
use Rattle.std.proofs.Common.{length-set}
use Rattle.std.proofs.lemmas.List.{length-map, length-replicate, reverse-append}
use Rattle.std.proofs.lemmas.List.Elements.{All-nil, All-cons, All-head, All-tail, All-replicate, All-set}
use Rattle.std.proofs.lemmas.Slice.Zip.{length-zip}
use Rattle.std.specs.Prelude.{All, Option, Some, None, option_copied, zip}
use Rattle.std.specs.Borrow.{Bor}
use Rattle.teco_model.specs.Registers.{Pair, AreWhole, IsWithinLimit, empty_pair, empty_pairs, with_own_text}
use Rattle.teco_regs.specs.Texts.{IsTextWithinLimit, handed}

-- new ones are
pub whole_made : (pairs stack : List Pair) → pairs ≡ empty_pairs → stack ≡ []
    → AreWhole (record { pairs = pairs; stack = reverse stack })
unfolding empty_pairs
whole_made pairs stack e none = rw (e, none) (record {
  count = length-replicate 36 empty_pair;
  within = All-replicate IsWithinLimit 36 empty_pair (omega arith);
  stack_within = λ k d below. absurd (omega arith);
})

-- and so are those into which the newest pair of the list, which stands last in the code's, has moved
pub whole_popped : (pairs all rest : List Pair) (r : ℕ) (pair : Pair)
    → AreWhole (record { pairs = pairs; stack = reverse all }) → all ≡ rest ++ pair ∷ []
    → AreWhole (record { pairs = set pairs r pair; stack = reverse rest })
whole_popped pairs all rest r pair whole e =
    let newest_first : reverse all ≡ pair ∷ reverse rest = ap reverse e ∙ reverse-append rest (pair ∷ []) in
    let stack_within : All IsWithinLimit (pair ∷ reverse rest) = rw newest_first at whole.stack_within in
    record {
      count = length-set pairs r pair ∙ whole.count;
      within = All-set IsWithinLimit pairs r pair (stack_within 0 pair (omega arith)) whole.within;
      stack_within = λ k d below. stack_within (suc k) d (omega arith);
    }

-- a text of its own keeps a pair within the limit, and texts of their own do so for pairs
with_own_text-within : (text : Option (Bor (List ℕ))) (pair : Pair) → IsTextWithinLimit text → IsWithinLimit pair
    → IsWithinLimit (with_own_text (option_copied text) pair)
with_own_text-within None pair short within = within
with_own_text-within (Some own) pair short within = short own refl

loaded-within : (texts : List (Option (Bor (List ℕ)))) (pairs : List Pair) → All IsTextWithinLimit texts
    → All IsWithinLimit pairs → All IsWithinLimit (map (λ own. with_own_text own.0 own.1) (zip (handed texts) pairs))
loaded-within [] pairs short within = All-nil IsWithinLimit
loaded-within (text ∷ texts) [] short within = All-nil IsWithinLimit
loaded-within (text ∷ texts) (pair ∷ pairs) short within =
    let first = with_own_text-within text pair (All-head IsTextWithinLimit text texts short)
    (All-head IsWithinLimit pair pairs within) in
    let rest = loaded-within texts pairs (All-tail IsTextWithinLimit text texts short)
    (All-tail IsWithinLimit pair pairs within) in
    All-cons IsWithinLimit _ _ first rest

-- registers that get texts of their own stay whole, too
pub whole_loaded : (texts : List (Option (Bor (List ℕ)))) (pairs loaded stack : List Pair)
    → loaded ≡ map (λ own. with_own_text own.0 own.1) (zip (handed texts) pairs) → length texts ≡ length pairs
    → All IsTextWithinLimit texts → AreWhole (record { pairs = pairs; stack = stack })
    → AreWhole (record { pairs = loaded; stack = stack })
whole_loaded texts pairs loaded stack e same short whole = rw e (record {
  count = length-map (zip (handed texts) pairs) (λ own. with_own_text own.0 own.1)
      ∙ omega (arith, length-zip (handed texts) pairs, length-map texts option_copied, whole.count);
  within = loaded-within texts pairs short whole.within;
  stack_within = whole.stack_within;
})
