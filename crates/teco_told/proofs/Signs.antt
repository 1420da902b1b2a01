-- Search texts without signs.
use Rattle.std.proofs.Common.{◌≡◌, ℕ, List, [], ◌∷◌, length, refl, Bool, true, false, nat_eq, ◌||◌}
use Rattle.std.specs.Prelude.{not, ◌&&◌}
use Rattle.std.specs.List.{list_all, list_any}
use Rattle.teco_changes.specs.Plain.{is_sign, matches_have}

-- none stands for more than itself where each stands for itself
one_more : (here : Bool) (rest all : Bool) → all ≡ not rest → (not here && all) ≡ not (here || rest)
one_more true rest all is = refl
one_more false rest all is = is

none_is_each : (p : ℕ → Bool) (text : List ℕ) → list_all (λ b. not (p b)) text ≡ not (list_any p text)
none_is_each p [] = refl
none_is_each p (b ∷ text) = one_more (p b) (list_any p text) (list_all (λ b. not (p b)) text) (none_is_each p text)

pub have_as_many : (text : List ℕ) (count : ℕ)
    → matches_have count text ≡ (not (list_any is_sign text) && nat_eq (length text) count)
have_as_many text count = rw (none_is_each is_sign text) refl
