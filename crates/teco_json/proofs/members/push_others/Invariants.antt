use Rattle.std.proofs.Common.{◌≡◌, ◌++◌, map, take}
use Rattle.std.specs.List.{flat_map}
use Rattle.teco_json.specs.Json as json
use Rattle.teco_json.proofs.members.push_others.Given as goal

-- what is added so far is of those so far
abbrev pub invariant-loop-member : goal.invariant-loop-member
invariant-loop-member l =
    l.text.items
    ≡ l.fn.text.items ++ flat_map json.next_member (map json.member_seen (take l.member-index l.members))
