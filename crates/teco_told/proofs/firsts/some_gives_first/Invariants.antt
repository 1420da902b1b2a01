use Rattle.std.proofs.Common.{◌≡◌, ◌≤◌, ℕ, false, Some}
use Rattle.teco_law_changes.specs.Steps.{gives_first_in}
use Rattle.teco_verifier.specs.expansion.Node.{Node, numbered}
use Rattle.teco_told.proofs.firsts.some_gives_first.Given as goal

abbrev pub invariant-loop-before : goal.invariant-loop-before
invariant-loop-before l =
    (number : ℕ) (node : Node) → number ≤ l.before → numbered l.nodes number ≡ Some node
    → gives_first_in node.element ≡ false
