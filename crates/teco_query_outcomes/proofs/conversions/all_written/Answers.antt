use Rattle.teco_query_outcomes.proofs.Prelude.{[], slice_index_or, subst, All}
use Rattle.std.proofs.lemmas.List.{take_all}
use Rattle.teco_query_outcomes.specs.declared.conversions.TheConstants.{SPANS}
use Rattle.teco_query_outcomes.specs.Conversions.{IsWrittenAmong}
use Rattle.teco_query_outcomes.proofs.Converting.{more_written}
use Rattle.teco_query_outcomes.proofs.conversions.all_written.Goals as goal

pub loop-span-preserved : goal.loop-span-preserved
loop-span-preserved c =
    more_written c.args.case.now (slice_index_or c.args.number.now 0 []) SPANS c.loop-span.span-index _
    c.loop-span.cases.items c.push.new.self.items _ c.loop-span-test.true c.in_ok-push.ensures.items
    c.loop-span.invariant c.in_ok-written.ensures

pub returns : goal.returns
returns c =
    subst (All (IsWrittenAmong c.args.case.now (slice_index_or c.args.number.now 0 []) c.loop-span.cases.items))
    (take_all c.loop-span.span-index SPANS c.loop-span-test.false) c.loop-span.invariant
