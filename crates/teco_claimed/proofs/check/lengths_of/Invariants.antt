use Rattle.std.proofs.Common.{◌≡◌, length, take, map, option_map}
use Rattle.std.specs.Option.{option_copied}
use Rattle.teco_claimed.proofs.check.lengths_of.Given as goal

-- the lengths of the texts before this one are known
abbrev pub invariant-loop-text : goal.invariant-loop-text
invariant-loop-text l = l.lengths.items ≡ map (option_map length) (map option_copied (take l.text-index l.text-items))
