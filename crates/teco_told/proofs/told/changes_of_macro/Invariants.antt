use Rattle.std.proofs.Common.{◌≡◌, ◌≤◌, ℕ, Some}
use Rattle.teco_law_changes.specs.Runs.{IsAmong}
use Rattle.teco_law_changes.specs.Steps.{told_with}
use Rattle.teco_told.specs.Seen.{near_in}
use Rattle.teco_told.specs.Table.{before_in}
use Rattle.teco_verifier.specs.expansion.Node.{Node, numbered}
use Rattle.teco_told.proofs.told.changes_of_macro.Given as goal

abbrev pub invariant-loop-passed : goal.invariant-loop-passed
invariant-loop-passed l =
    (number : ℕ) (node : Node) → number ≤ l.passed → numbered l.nodes number ≡ Some node
    → IsAmong (told_with node.element l.ranged (before_in l.arguments.items number) (near_in l.near.items number))
    l.changes.items
