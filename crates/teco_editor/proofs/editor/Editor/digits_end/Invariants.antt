use Rattle.std.proofs.Common.{◌≡◌, ◌+◌, drop}
use Rattle.std.specs.List.{prefix_len}
use Rattle.teco_base.specs.Bytes.{is_digit}
use Rattle.teco_editor.proofs.editor.Editor.digits_end.Given as goal

-- what is left of the run ends where all of it does
abbrev pub invariant-loop-end : goal.invariant-loop-end
invariant-loop-end g l = l.begin + prefix_len is_digit (drop l.begin l.self.text) ≡ l.end + prefix_len is_digit
    (drop l.end l.self.text)
