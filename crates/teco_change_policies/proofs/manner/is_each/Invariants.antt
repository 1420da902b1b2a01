use Rattle.std.proofs.Common.{◌<◌, ℕ, get_or}
use Rattle.teco_change_policies.specs.Manners.{Is}
use Rattle.teco_changes.specs.declared.change.Change.{Change}
use Rattle.teco_change_policies.proofs.manner.is_each.Given as goal

abbrev pub invariant-loop-change : goal.invariant-loop-change
invariant-loop-change l = (k : ℕ) (d : Change) → k < l.change-index → Is l.manner (get_or l.changes k d)
