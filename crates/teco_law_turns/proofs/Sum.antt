-- What is printed of a list of nodes, as a sum over it.
use Rattle.std.proofs.Common.{◌≡◌, ℕ, zero, suc, ◌+◌, ◌*◌, List, [], ◌∷◌, length, get_or, sym, ap, refl, ◌∙◌, arith}
use Rattle.std.proofs.lemmas.List.Sums.{sum_by-cons}
use Rattle.std.specs.List.{sum_by}
use Rattle.teco_law_turns.specs.Table.{sum_below, product_by}
use Rattle.teco_law_turns.specs.Listed.{no_node, node_at, loops_of, CommandsAreSum}

-- a sum from its front
sum_below-front : (f : ℕ → ℕ) (n : ℕ) → sum_below f (suc n) ≡ f 0 + sum_below (λ i. f (suc i)) n
sum_below-front f zero = omega arith
sum_below-front f (suc n) = omega (arith, sum_below-front f n)

sum_below-listed : {X : Type 0} (g : X → ℕ) (d : X) (xs : List X)
    → sum_below (λ i. g (get_or xs i d)) (length xs) ≡ sum_by g xs
sum_below-listed g d [] = refl
sum_below-listed g d (x ∷ xs) = sum_below-front (λ i. g (get_or (x ∷ xs) i d)) (length xs)
    ∙ ap (λ n. g x + n) (sum_below-listed g d xs) ∙ sym (sum_by-cons g x xs)

pub commands_are_sum : CommandsAreSum
commands_are_sum nodes = sum_below-listed (λ node. node.own * product_by (λ l. (node_at nodes l).turns) (loops_of node))
    no_node nodes
