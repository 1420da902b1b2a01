-- What holds of each way of each node.
use Rattle.std.proofs.Common.{◌≡◌, ◌<◌, ◌≤◌, ◌+◌, ◌⊎◌, inl, inr, ℕ, zero, suc, List, length, slice_get, arith}
use Rattle.std.proofs.Common.{◌∙◌, Option, Some, sym, subst}
use Rattle.std.proofs.lemmas.Bool.{cases_order}
use Rattle.teco_told.proofs.Telling.{numbered_within, within}
use Rattle.teco_verifier.specs.expansion.Node.{Node, numbered}

module _ (nodes : List Node) (Leads : ℕ → Node → ℕ → ℕ → Type 0) where
  -- of one node
  abbrev pub Agrees : ℕ → Type 0
  Agrees number =
      (node : Node) (way target : ℕ) → numbered nodes number ≡ Some node → slice_get node.ways way ≡ Some target
      → Leads number node way target

  -- of those up to a number
  abbrev pub AgreeTo : ℕ → Type 0
  AgreeTo n = (number : ℕ) → number ≤ n → Agrees number

  pub none_agrees : AgreeTo 0
  none_agrees zero few node way target at taken = absurd cc
  none_agrees (suc k) few node way target at taken = absurd (omega (arith, few))

  pub one_agrees : (n : ℕ) → AgreeTo n → Agrees (n + 1) → AgreeTo (n + 1)
  one_agrees n so_far here number few = by (cases_order number (n + 1))
    where
      by : (number ≡ n + 1) ⊎ ((number < n + 1) ⊎ (n + 1 < number)) → Agrees number
      by (inl same) = subst (λ k. Agrees k) (sym same) here
      by (inr (inl less)) = so_far number (omega (arith, less))
      by (inr (inr more)) = absurd (omega (arith, few, more))

  pub all_agree : (n : ℕ) → AgreeTo n → length nodes ≤ n → (number : ℕ) → Agrees number
  all_agree n each all number node way target at taken =
      let few = numbered_within nodes number node at in
      each number (omega (arith, few, all)) node way target at taken

  -- of so many ways of one
  abbrev pub AgreesTo : ℕ → ℕ → Type 0
  AgreesTo number n =
      (node : Node) (way target : ℕ) → way < n → numbered nodes number ≡ Some node
      → slice_get node.ways way ≡ Some target → Leads number node way target

  pub no_way : (number : ℕ) → AgreesTo number 0
  no_way number node way target less at taken = absurd (omega (arith, less))

  pub one_way : (number n found : ℕ) (got : Option ℕ) → AgreesTo number n
      → ((node : Node) → numbered nodes number ≡ Some node → got ≡ slice_get node.ways n)
      → got ≡ Some found → ((node : Node) → numbered nodes number ≡ Some node → Leads number node n found)
      → AgreesTo number (n + 1)
  one_way number n found got so_far gives some agrees node way target less at taken = by (cases_order way n)
    where
      by : (way ≡ n) ⊎ ((way < n) ⊎ (n < way)) → Leads number node way target
      by (inl same) =
          let there : slice_get node.ways n ≡ Some target =
          subst (λ k. slice_get node.ways k ≡ Some target) same taken in
          let one : ◌≡◌ {A = Option ℕ} (Some found) (Some target) = sym some ∙ (gives node at ∙ there) in
          let target_is : found ≡ target = cc in
          subst (λ k. Leads number node k target) (sym same)
          (subst (λ k. Leads number node n k) target_is (agrees node at))
      by (inr (inl before)) = so_far node way target before at taken
      by (inr (inr more)) = absurd (omega (arith, less, more))

  pub all_ways : (number count : ℕ) → AgreesTo number count
      → ((node : Node) → numbered nodes number ≡ Some node → length node.ways ≤ count) → Agrees number
  all_ways number count each all node way target at taken =
      let inside = within node.ways way target taken in
      let most = all node at in
      each node way target (omega (arith, inside, most)) at taken
