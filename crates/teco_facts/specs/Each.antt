-- Lists that are gone through side by side.
use Rattle.std.specs.Prelude.{List, [], ◌∷◌, Bool, if◌then◌else◌}

-- each item with its counterpart
abbrev pub each_met : {X : Type 0} → (X → X → X) → List X → List X → List X
each_met met (x ∷ xs) (y ∷ ys) = met x y ∷ each_met met xs ys
each_met met [] ys = []
each_met met (x ∷ xs) [] = []

-- items that are replaced where others say so
abbrev pub replaced_where : {X : Type 0} → X → List Bool → List X → List X
replaced_where other (replaced ∷ others) (x ∷ xs) =
    (if replaced then other else x) ∷ replaced_where other others xs
replaced_where other [] xs = xs
replaced_where other (replaced ∷ others) [] = []
