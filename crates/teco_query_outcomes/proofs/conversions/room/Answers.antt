use Rattle.teco_query_outcomes.proofs.Prelude.{Guarded}
use Rattle.teco_query_outcomes.proofs.Converting.{has_room}
use Rattle.teco_query_outcomes.proofs.conversions.room.Goals as goal

pub returns : goal.returns
returns c =
    let guarded : Guarded = record {
      symbols = c.args.case.now.symbols;
      constraints = c.in_ok-constraints.constraints;
      wanted = c.in_ok-wanted.wanted;
    } in
    has_room c.args.case.now c.args.number.now c.args.span guarded c.in_ok-constraints.ensures c.in_ok-wanted.ensures
