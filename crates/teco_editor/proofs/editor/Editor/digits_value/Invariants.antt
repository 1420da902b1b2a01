use Rattle.std.proofs.Common.{◌≡◌}
use Rattle.teco_base.specs.Text.{range}
use Rattle.teco_model.specs.Arguments.{run_value}
use Rattle.teco_editor.proofs.editor.Editor.digits_value.Given as goal

-- the value of the digits so far
abbrev pub invariant-loop-place : goal.invariant-loop-place
invariant-loop-place g l = l.value ≡ run_value (range l.self.text l.begin l.place)
