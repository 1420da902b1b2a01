-- The lines of the nodes, one node further.
use Rattle.teco_check.proofs.Prelude.{◌≡◌, refl, sym, ap, ◌∙◌, ℕ, zero, suc, ◌+◌, ◌<◌, ◌≤◌, List, [], ◌∷◌, ◌++◌, length}
use Rattle.teco_check.proofs.Prelude.{drop, slice_get, unwrap_or, append_assoc, true, false, ◌||◌, Option, arith}
use Rattle.teco_check.proofs.Prelude.{drop_all, list_any, Node, no_node, node_at, Chosen, Table, begins, loops_of}
use Rattle.std.proofs.Common.{append-nil}
use Rattle.teco_verifier.specs.table.Loops.{lines_at, lines_in, loops_from}

front : (nodes : List Node) (k : ℕ) → k < length nodes
    → drop k nodes ≡ unwrap_or (slice_get nodes k) no_node ∷ drop (suc k) nodes
front [] k h = absurd (omega arith)
front (node ∷ nodes) zero h = refl
front (node ∷ nodes) (suc k) h = front nodes k (omega arith)

-- what was found, and the lines of those from a number on
module _ (nodes : List Node) (table : Table) (k : ℕ) (found : List Chosen)
    (whole : found ++ loops_from table (1 + k) (drop k nodes) ≡ loops_of nodes table) where
  pub one_more : k < length nodes → (line : Option Chosen)
      → lines_in line ≡ lines_at table (k + 1) (node_at nodes (k + 1))
      → (found ++ lines_in line) ++ loops_from table (1 + (k + 1)) (drop (k + 1) nodes) ≡ loops_of nodes table
  unfolding node_at
  one_more h line e =
      let next : k + 1 ≡ suc k = omega arith in
      let number : 1 + k ≡ suc k = omega arith in
      let behind : 1 + (k + 1) ≡ suc (suc k) = omega arith in
      let here : drop k nodes ≡ unwrap_or (slice_get nodes k) no_node ∷ drop (suc k) nodes = front nodes k h in
      let is : lines_in line ≡ lines_at table (suc k) (unwrap_or (slice_get nodes k) no_node) = rw next at e in
      let all : found ++ (lines_at table (suc k) (unwrap_or (slice_get nodes k) no_node)
      ++ loops_from table (suc (suc k)) (drop (suc k) nodes)) ≡ loops_of nodes table = rw (number, here) at whole in
      rw (behind, next, is) (append_assoc found _ _ ∙ all)

  pub no_more : length nodes ≤ k → found ≡ loops_of nodes table
  no_more h =
      let none : loops_from table (1 + k) [] ≡ [] = refl in
      sym (append-nil found) ∙ ap (λ rest. found ++ loops_from table (1 + k) rest) (sym (drop_all k nodes h)) ∙ whole

-- whether any node from one on begins an iteration
module _ (nodes : List Node) (k : ℕ) (h : k < length nodes) where
  front_any : list_any begins (drop k nodes) ≡ (begins (node_at nodes (k + 1)) || list_any begins (drop (k + 1) nodes))
  unfolding node_at
  front_any =
      let next : k + 1 ≡ suc k = omega arith in
      rw next (ap (list_any begins) (front nodes k h))

  pub any_here : begins (node_at nodes (k + 1)) ≡ true → list_any begins (drop k nodes) ≡ true
  any_here e = front_any ∙ ap (λ b. b || list_any begins (drop (k + 1) nodes)) e

  pub any_behind : begins (node_at nodes (k + 1)) ≡ false
      → list_any begins (drop (k + 1) nodes) ≡ list_any begins (drop k nodes)
  any_behind e = sym (front_any ∙ ap (λ b. b || list_any begins (drop (k + 1) nodes)) e)

pub any_in_none : (nodes : List Node) (k : ℕ) → length nodes ≤ k → list_any begins (drop k nodes) ≡ false
any_in_none nodes k h = rw (drop_all k nodes h) refl
