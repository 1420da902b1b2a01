use Rattle.std.proofs.Common.{◌≡◌, ◌+◌, drop, length}
use Rattle.teco_model.specs.Element.{blank_len}
use Rattle.teco_lex.proofs.blanks.blank_end.Given as goal

abbrev pub invariant-loop-behind : goal.invariant-loop-behind
invariant-loop-behind l = l.at + blank_len (drop l.at l.text) + length l.rest ≡ blank_len l.rest + length l.text

abbrev pub decreases-loop-behind : goal.decreases-loop-behind
decreases-loop-behind l = length l.rest
