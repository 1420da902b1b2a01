use Rattle.teco_query_outcomes.proofs.Prelude.{subst, All}
use Rattle.std.proofs.lemmas.List.{take_all}
use Rattle.teco_query_outcomes.specs.declared.conversions.TheConstants.{SPANS}
use Rattle.teco_query_outcomes.specs.Conversions.{HasRoomWithin}
use Rattle.teco_query_outcomes.proofs.Converting.{more_rooms}
use Rattle.teco_query_outcomes.proofs.conversions.rooms.Goals as goal

pub loop-span-preserved : goal.loop-span-preserved
loop-span-preserved c =
    more_rooms c.args.case.now c.args.number.now SPANS c.loop-span.span-index _ c.loop-span.asked.items
    c.push.new.self.items _ c.loop-span-test.true c.in_ok-push.ensures.items c.loop-span.invariant c.in_ok-room.ensures

pub returns : goal.returns
returns c =
    subst (All (HasRoomWithin c.args.case.now c.args.number.now c.loop-span.asked.items))
    (take_all c.loop-span.span-index SPANS c.loop-span-test.false) c.loop-span.invariant
