use Rattle.std.proofs.Common.{◌≡◌, false, ◌++◌, drop}
use Rattle.teco_edit_parts.specs.Typed as lines
use Rattle.teco_edit_parts.proofs.typed.named_lines.Given as goal

-- what is made so far, and what the rest makes
abbrev pub invariant-loop-byte : goal.invariant-loop-byte
invariant-loop-byte l = l.text.items ++ lines.named_lines l.is_begun l.name (drop l.byte-index l.typed)
    ≡ lines.named_lines false l.name l.typed
