use Rattle.teco_check.proofs.Prelude.{◌<◌, sym, ◌∙◌, length, refl, arith, commands}
use Rattle.teco_check.proofs.Further.{count_more, count_fails}
use Rattle.teco_check.proofs.Wholes.{none_known, known_round}
use Rattle.teco_check.proofs.printed.commands.Goals as goal

pub loop-at-init : goal.loop-at-init
unfolding commands
loop-at-init c = record {
  counted = rw (c.number-total.ensures, c.steps_before.ensures) refl;
  rounds = none_known c.args.nodes.now c.args.table.now c.of_none-rounds.result c.of_none-rounds.ensures;
}

pub returns-in-Err-clause-value : goal.returns-in-Err-clause-value
returns-in-Err-clause-value c =
    let within : c.loop-at.at < length c.args.nodes.now = omega (arith, c.len-at-end.ensures) in
    c.loop-at.invariant.counted ∙ count_fails c.args.nodes.now c.args.table.now c.loop-at.at c.loop-at.total
    c.in-Err.field-0 within (sym c.counted_with.ensures ∙ c.in-Err.is)

pub loop-at-preserved : goal.loop-at-preserved
loop-at-preserved c =
    let within : c.loop-at.at < length c.args.nodes.now = omega (arith, c.len-at-end.ensures) in
    record {
      counted = c.loop-at.invariant.counted
          ∙ count_more c.args.nodes.now c.args.table.now c.loop-at.at c.loop-at.total c.in-Ok.more within
          (sym c.counted_with.ensures ∙ c.in-Ok.is);
      rounds = known_round c.args.nodes.now c.args.table.now c.loop-at.at c.of-rounds.result within
          c.of-rounds.ensures.number c.of-rounds.ensures.product;
    }
