use Rattle.std.proofs.Common.{sym, ◌∙◌}
use Rattle.std.proofs.lemmas.Result.{IfOk-weaker}
use Rattle.teco_jobs.proofs.Openings.{then_coded, then_on}
use Rattle.teco_jobs.specs.InMemory.{closing}
use Rattle.teco_jobs.specs.Openings.{Runs}
use Rattle.teco_jobs.specs.declared.in_memory.TheConstants.{STEPS}
use Rattle.teco_jobs.proofs.in_memory.run_and_close.Goals as goal

pub returns-then-is_some : goal.returns-then-is_some
returns-then-is_some g c =
    then_coded (Runs STEPS c.args.text.now) (Runs STEPS closing) c.args.machine.now c.run.new.machine
    (g.H.Host.files c.args.host.now) (g.H.Host.files c.run.new.host) c.in_ok-code.code
    (sym c.is_some.ensures ∙ c.if-is_some.true) c.in_ok-code.ensures

pub returns : goal.returns
returns g c = IfOk-weaker c.run-2.result _ _
    (λ code runs. then_on (Runs STEPS c.args.text.now) (Runs STEPS closing) c.args.machine.now c.run.new.machine
    c.run-2.new.machine (g.H.Host.files c.args.host.now) (g.H.Host.files c.run.new.host)
    (g.H.Host.files c.run-2.new.host) c.in_ok-code.code code
    (sym c.is_some.ensures ∙ c.if-is_some.false) c.in_ok-code.ensures runs)
    c.run-2.ensures
