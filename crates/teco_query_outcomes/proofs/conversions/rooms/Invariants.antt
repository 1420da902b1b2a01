use Rattle.teco_query_outcomes.proofs.Prelude.{All}
use Rattle.std.proofs.Common.{take}
use Rattle.teco_query_outcomes.specs.declared.conversions.TheConstants.{SPANS}
use Rattle.teco_query_outcomes.specs.Conversions.{HasRoomWithin}
use Rattle.teco_query_outcomes.proofs.conversions.rooms.Given as goal

-- the bounds before these have their condition
abbrev pub invariant-loop-span : goal.invariant-loop-span
invariant-loop-span l = All (HasRoomWithin l.case l.number l.asked.items) (take l.span-index SPANS)
