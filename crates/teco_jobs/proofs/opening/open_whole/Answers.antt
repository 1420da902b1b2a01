use Rattle.std.proofs.Common.{ap, sym, ◌∙◌, is_some}
use Rattle.std.proofs.lemmas.Result.{IfOk-weaker}
use Rattle.teco_apply.specs.Sure.{MOST}
use Rattle.teco_jobs.proofs.Openings.{then_coded, then_on}
use Rattle.teco_jobs.specs.Openings.{AddsAll, Runs}
use Rattle.teco_tools.specs.Codes.{code_at}
use Rattle.teco_jobs.proofs.opening.open_whole.Goals as goal

pub returns-then-is_some : goal.returns-then-is_some
returns-then-is_some g c =
    then_coded (Runs MOST c.args.opening.now) AddsAll c.args.machine.now c.run_text.new.machine
    (g.H.Host.files c.args.host.now) (g.H.Host.files c.run_text.new.host) (code_at c.in_ok-stopped.stopped.stop)
    (ap is_some (sym c.code_of.ensures) ∙ sym c.is_some.ensures ∙ c.if-is_some.true) c.in_ok-stopped.ensures

pub returns : goal.returns
returns g c = IfOk-weaker c.add_pages.result _ _
    (λ stopped adds. then_on (Runs MOST c.args.opening.now) AddsAll c.args.machine.now c.run_text.new.machine
    c.add_pages.new.machine (g.H.Host.files c.args.host.now) (g.H.Host.files c.run_text.new.host)
    (g.H.Host.files c.add_pages.new.host) (code_at c.in_ok-stopped.stopped.stop) (code_at stopped.stop)
    (ap is_some (sym c.code_of.ensures) ∙ sym c.is_some.ensures ∙ c.if-is_some.false) c.in_ok-stopped.ensures adds)
    c.add_pages.ensures
