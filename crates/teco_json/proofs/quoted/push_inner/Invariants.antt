use Rattle.std.proofs.Common.{◌≡◌, ◌++◌, take}
use Rattle.std.specs.List.{flat_map}
use Rattle.teco_json.specs.Json as json
use Rattle.teco_json.proofs.quoted.push_inner.Given as goal

-- what is added so far is of those so far
abbrev pub invariant-loop-byte : goal.invariant-loop-byte
invariant-loop-byte l =
    l.text.items ≡ l.fn.text.items ++ flat_map (json.escaped l.is_utf8) (take l.byte-index l.bytes)
