use Rattle.std.proofs.Common.{◌≡◌, ◌++◌, take}
use Rattle.std.specs.List.{flat_map}
use Rattle.teco_json.specs.Json as json
use Rattle.teco_json.proofs.members.push_numbers.Given as goal

-- what is added so far is of those so far
abbrev pub invariant-loop-number : goal.invariant-loop-number
invariant-loop-number l =
    l.text.items ≡ l.fn.text.items ++ flat_map json.next_number (take l.number-index l.numbers)
