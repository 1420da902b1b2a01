-- A list that has what is told of each node.
use Rattle.std.proofs.Common.{◌≡◌, ◌≤◌, ◌<◌, ◌+◌, ◌⊎◌, inl, inr, ℕ, zero, suc, List, [], ◌∷◌, length, slice_get, arith}
use Rattle.std.proofs.Common.{Bool, false, Option, Some, None, subst, sym}
use Rattle.std.proofs.lemmas.Bool.{cases_order}
use Rattle.teco_changes.specs.Nearby.{Nearby}
use Rattle.teco_changes.specs.declared.argument.NumericArgument.{NumericArgument}
use Rattle.teco_changes.specs.declared.change.Change.{Change}
use Rattle.teco_law_changes.specs.Runs.{AreKnown, AreNear, IsAmong, NoneGivesFirst, Tells}
use Rattle.teco_law_changes.specs.Steps.{told_with}
use Rattle.teco_told.specs.Growing.{Grows}
use Rattle.teco_told.proofs.Grown.{all_later}
use Rattle.teco_verifier.specs.expansion.Node.{Node, numbered}

pub within : {X : Type 0} (nodes : List X) (k : ℕ) (node : X) → slice_get nodes k ≡ Some node → k < length nodes
within [] k node at = absurd cc
within (first ∷ nodes) zero node at = omega arith
within (first ∷ nodes) (suc k) node at = let less = within nodes k node at in omega (arith, less)

pub numbered_within : (nodes : List Node) (number : ℕ) (node : Node) → numbered nodes number ≡ Some node
    → number ≤ length nodes
numbered_within nodes zero node at = absurd cc
numbered_within nodes (suc k) node at = let less = within nodes k node at in omega (arith, less)

among_later : (told : Option (List Change)) (old new : List Change) → Grows old new → IsAmong told old
    → IsAmong told new
among_later None old new grows is = is
among_later (Some some) old new grows is = all_later some old new grows is

-- so far
abbrev pub UpTo : List Node → Bool → (ℕ → NumericArgument) → (ℕ → Nearby) → ℕ → List Change → Type 0
UpTo nodes ranged before near n changes =
    (number : ℕ) (node : Node) → number ≤ n → numbered nodes number ≡ Some node
    → IsAmong (told_with node.element ranged (before number) (near number)) changes

module _ (nodes : List Node) (ranged : Bool) (before : ℕ → NumericArgument) (near : ℕ → Nearby) where
  pub one_more : (n : ℕ) (old new : List Change) → Grows old new → UpTo nodes ranged before near n old
      → ((node : Node) → numbered nodes (n + 1) ≡ Some node
      → IsAmong (told_with node.element ranged (before (n + 1)) (near (n + 1))) new)
      → UpTo nodes ranged before near (n + 1) new
  one_more n old new grows so_far here number node few at = by (cases_order number (n + 1))
    where
      by : (number ≡ n + 1) ⊎ ((number < n + 1) ⊎ (n + 1 < number))
          → IsAmong (told_with node.element ranged (before number) (near number)) new
      by (inl same) =
          subst (λ k. IsAmong (told_with node.element ranged (before k) (near k)) new) (sym same)
          (here node (subst (λ k. numbered nodes k ≡ Some node) same at))
      by (inr (inl less)) =
          among_later (told_with node.element ranged (before number) (near number)) old new grows
          (so_far number node (omega (arith, less)) at)
      by (inr (inr more)) = absurd (omega (arith, few, more))

  pub tells_all : (n : ℕ) (changes : List Change) → AreKnown nodes before → AreNear nodes before near
      → (ranged ≡ false → NoneGivesFirst nodes) → UpTo nodes ranged before near n changes → length nodes ≤ n
      → Tells nodes changes
  tells_all n changes known nearby none each all = record {
    ranged = ranged;
    none = none;
    before = before;
    known = known;
    near = near;
    nearby = nearby;
    each = λ number node at.
        let few = numbered_within nodes number node at in each number node (omega (arith, few, all)) at;
  }
