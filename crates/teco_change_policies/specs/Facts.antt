-- What is told of changes at once.
use Rattle.std.specs.Prelude.{ℕ, List, IfSome, IsTrue}
use Rattle.teco_changes.specs.Changes.{Changes}
use Rattle.teco_change_policies.specs.Laws.{AlwaysKeep, LeaveOthers, others}
use Rattle.teco_changes.specs.declared.change.Change.{Change}
use Rattle.teco_change_policies.specs.declared.facts.Facts.{Facts}
use Rattle.teco_policy.specs.Lines.{EndAlike}
use Rattle.teco_policy.specs.declared.policy.Policy.TheVariants as policy

-- whatever is told is true of each text that such changes leave
pub record AreTrue (changes : List Change) (facts : Facts) : Type 0 where
  pub adds_nothing : IsTrue facts.adds_nothing → AlwaysKeep changes policy.AddNothing
  pub takes_nothing : IsTrue facts.takes_nothing → AlwaysKeep changes policy.KeepText
  pub keeps_line_ends : IsTrue facts.keeps_line_ends → (old new : List ℕ) → Changes changes old new → EndAlike old new
  pub keeps_lines : IsTrue facts.keeps_lines → AlwaysKeep changes policy.KeepLines
  pub puts_only : IfSome facts.puts_only (λ characters. AlwaysKeep changes (policy.AddOnly characters))
  pub takes_only : IfSome facts.takes_only (λ characters. AlwaysKeep changes (policy.TakeOnly characters))
  pub changes_only_with : IfSome facts.changes_only_with
      (λ wanted. AlwaysKeep changes (others wanted.items))
  pub leaves_lines_without : IfSome facts.leaves_lines_without (λ wanted. LeaveOthers changes wanted.items)
