use Rattle.std.proofs.Common.{◌∙◌, sym, arith}
use Rattle.teco_claimed.proofs.Sums.{runs_here, runs_behind}
use Rattle.teco_claimed.proofs.checksum.is_run.Goals as goal

pub returns-then-register-place : goal.returns-then-register-place
returns-then-register-place c =
    sym (runs_here c.args.nodes.now c.loop-before.before c.args.place c.register.result
    (omega (arith, c.len-before-end.ensures)) c.register.ensures c.if-register-place.true) ∙ c.loop-before.invariant

pub loop-before-preserved : goal.loop-before-preserved
loop-before-preserved c =
    runs_behind c.args.nodes.now c.loop-before.before c.args.place c.register.result
    (omega (arith, c.len-before-end.ensures)) c.register.ensures c.if-register-place.false ∙ c.loop-before.invariant
