-- Lists that grow.
use Rattle.std.proofs.Common.{◌≡◌, List, [], ◌∷◌, ◌++◌, sym, subst}
use Rattle.std.proofs.lemmas.List.Elements.{All-contains, All-contains_itself, All-weaker, Contains-append_left}
use Rattle.std.specs.Prelude.{All, Contains}
use Rattle.teco_changes.specs.declared.change.Change.{Change}
use Rattle.teco_told.specs.Growing.{Grows}

pub stays : (xs : List Change) → Grows xs xs
stays xs = All-contains_itself xs

pub pushed : (xs : List Change) (x : Change) → Grows xs (xs ++ (x ∷ []))
pushed xs x =
    All-weaker (Contains xs) (Contains (xs ++ (x ∷ []))) (λ y h. Contains-append_left xs (x ∷ []) y h) xs
    (All-contains_itself xs)

pub same_stays : (xs ys : List Change) → ys ≡ xs → Grows xs ys
same_stays xs ys same = subst (λ l. Grows xs l) (sym same) (stays xs)

pub pushed_is : (xs ys : List Change) (x : Change) → ys ≡ xs ++ (x ∷ []) → Grows xs ys
pushed_is xs ys x same = subst (λ l. Grows xs l) (sym same) (pushed xs x)

-- what a list has, a later one has
pub all_later : (told a b : List Change) → Grows a b → All (Contains a) told → All (Contains b) told
all_later told a b grows each =
    All-weaker (Contains a) (Contains b) (λ x h. All-contains (Contains b) a x grows h) told each

pub grows_on : (a b c : List Change) → Grows a b → Grows b c → Grows a c
grows_on a b c first next = all_later a b c next first
