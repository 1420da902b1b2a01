use Rattle.teco_query_outcomes.proofs.Prelude.{refl, arith, ints, IfOk-weaker}
use Rattle.teco_query_outcomes.proofs.Converting.{is_written}
use Rattle.teco_query_outcomes.proofs.conversions.written.Goals as goal

pub returns : goal.returns
returns c =
    IfOk-weaker c.command.result _ _
    (λ after is.
    is_written c.args.case.now after c.args.number.now c.args.span c.args.here _ _ _ _ is refl (omega (arith, ints))
    (omega (arith, ints)) (omega (arith, ints)))
    c.command.ensures
