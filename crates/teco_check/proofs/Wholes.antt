-- The product of the turns round a node, where it is known, and a loop over the nodes.
use Rattle.teco_check.proofs.Prelude.{◌≡◌, sym, ap, ◌∙◌, ℕ, ◌+◌, ◌<◌, List, length, arith, Node, turns_round, Table}
use Rattle.teco_check.proofs.Prelude.{node_at, AreRounds}
use Rattle.teco_check.specs.declared.printed.Rounds.{Rounds}

module _ (nodes : List Node) (table : Table) where
  -- that of no node says nothing
  pub none_known : (rounds : Rounds) → rounds.number ≡ 0 → AreRounds nodes table rounds
  none_known rounds none = record { last = omega arith; are = λ some. absurd (omega arith) }

  pub known_round : (k : ℕ) (rounds : Rounds) → k < length nodes → rounds.number ≡ k + 1
      → rounds.product ≡ turns_round table (node_at nodes (k + 1)).stand.iterations → AreRounds nodes table rounds
  known_round k rounds h is product = record {
    last = omega arith;
    are = λ some. product ∙ ap (λ n. turns_round table (node_at nodes n).stand.iterations) (sym is);
  }
