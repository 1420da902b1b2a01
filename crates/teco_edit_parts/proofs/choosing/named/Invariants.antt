use Rattle.std.proofs.Common.{◌≡◌, ◌++◌, drop}
use Rattle.teco_edit_parts.specs.Choices.{named_by, names_of}
use Rattle.teco_edit_parts.proofs.choosing.named.Given as goal

-- what is named so far, and what the rest names
abbrev pub invariant-loop-name : goal.invariant-loop-name
invariant-loop-name l = names_of l.files.items ++ named_by (drop l.name-index l.names) ≡ named_by l.names
