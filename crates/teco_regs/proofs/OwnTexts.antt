-- Pairs that get texts of their own from the front on, each in its place.
use Rattle.std.proofs.Common.{◌≡◌, ℕ, ◌+◌, ◌<◌, List, [], ◌∷◌, ◌++◌, length, get_or, set, take, map, refl, sym, ap}
use Rattle.std.proofs.Common.{◌∙◌, arith}
use Rattle.std.proofs.lemmas.List.{length-map, length-take-le, map_more, take_all}
use Rattle.std.proofs.lemmas.List.FromFn.{length-enumerate_from, get_or-enumerate_from}
use Rattle.std.proofs.Math.Nat.{zero-add}
use Rattle.std.specs.List.{enumerate_from}
use Rattle.std.specs.Prelude.{Option, zip}
use Rattle.teco_model.specs.Registers.{Pair, with_own_text}

-- Each text meets the pair of its place; the pairs behind the last text stay.
abbrev pub with_own_texts : List (Option (List ℕ)) → List Pair → List Pair
with_own_texts [] pairs = pairs
with_own_texts (text ∷ texts) [] = []
with_own_texts (text ∷ texts) (pair ∷ pairs) = with_own_text text pair ∷ with_own_texts texts pairs

-- one more text meets the pair behind those that are done
pub with_own_texts-more : (texts : List (Option (List ℕ))) (text : Option (List ℕ)) (pairs : List Pair) (d : Pair)
    → length texts < length pairs → with_own_texts (texts ++ text ∷ []) pairs ≡ set (with_own_texts texts pairs)
    (length texts) (with_own_text text (get_or (with_own_texts texts pairs) (length texts) d))
with_own_texts-more [] text [] d below = absurd (omega arith)
with_own_texts-more [] text (pair ∷ pairs) d below = refl
with_own_texts-more (first ∷ texts) text [] d below = absurd (omega arith)
with_own_texts-more (first ∷ texts) text (pair ∷ pairs) d below =
    ap (λ rest. with_own_text first pair ∷ rest) (with_own_texts-more texts text pairs d (omega arith))

-- where there are as many texts as pairs, no pair is left
pub with_own_texts_all : (texts : List (Option (List ℕ))) (pairs : List Pair) → length texts ≡ length pairs
    → with_own_texts texts pairs ≡ map (λ own. with_own_text own.0 own.1) (zip texts pairs)
with_own_texts_all [] [] same = refl
with_own_texts_all [] (pair ∷ pairs) same = absurd (omega arith)
with_own_texts_all (text ∷ texts) [] same = refl
with_own_texts_all (text ∷ texts) (pair ∷ pairs) same =
    ap (λ rest. with_own_text text pair ∷ rest) (with_own_texts_all texts pairs (omega arith))

-- One turn of a loop over an enumerated list, whose items show the texts: the item x stands at the place i.
pub own_texts_turn : {X : Type 0} (shown : X → Option (List ℕ)) (items : List X) (pairs now : List Pair) (n i : ℕ)
    (x : X) (d : Pair) → (n < length (enumerate_from 0 items)) × ((i, x) ≡ get_or (enumerate_from 0 items) n (i, x))
    → length items ≡ length pairs → now ≡ with_own_texts (map shown (take n items)) pairs
    → set now i (with_own_text (shown x) (get_or now i d)) ≡ with_own_texts (map shown (take (n + 1) items)) pairs
own_texts_turn shown items pairs now n i x d turn same so_far =
    let below : n < length items = omega (arith, turn.0, length-enumerate_from 0 items) in
    let at_place = turn.1 ∙ get_or-enumerate_from 0 items n (i, x) below in
    let place : i ≡ n = ap (λ p. p.0) at_place ∙ zero-add n in
    let front = map shown (take n items) in
    let long : length front ≡ n = length-map (take n items) shown ∙ length-take-le n items (omega arith) in
    let more : map shown (take (n + 1) items) ≡ front ++ shown x ∷ [] =
    map_more shown items n x below ∙ ap (λ y. front ++ shown y ∷ []) (sym (ap (λ p. p.1) at_place)) in
    let step = with_own_texts-more front (shown x) pairs d (omega arith) in
    rw (place, so_far, more) (sym (rw long at step))

-- and its end
pub own_texts_end : {X : Type 0} (shown : X → Option (List ℕ)) (items : List X) (pairs now : List Pair) (n : ℕ)
    → n ≡ length (enumerate_from 0 items) → length items ≡ length pairs
    → now ≡ with_own_texts (map shown (take n items)) pairs
    → now ≡ map (λ own. with_own_text own.0 own.1) (zip (map shown items) pairs)
own_texts_end shown items pairs now n at_end same so_far =
    let whole : take n items ≡ items = take_all n items (omega (arith, length-enumerate_from 0 items)) in
    (rw whole at so_far) ∙ with_own_texts_all (map shown items) pairs (length-map items shown ∙ same)
