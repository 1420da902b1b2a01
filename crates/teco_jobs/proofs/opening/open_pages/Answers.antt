use Rattle.std.proofs.Common.{◌∙◌}
use Rattle.std.proofs.lemmas.Result.{IfOk-weaker}
use Rattle.teco_jobs.proofs.Openings.{opened_whole}
use Rattle.teco_tools.specs.Codes.{code_at}
use Rattle.teco_jobs.proofs.opening.open_pages.Goals as goal

pub returns-in-Whole : goal.returns-in-Whole
returns-in-Whole g c = IfOk-weaker c.open_whole.result _ _
    (λ stopped opens. opened_whole c.args.names.source.now c.args.names.target.now c.deref.result.now c.args.pages
    (code_at stopped.stop) c.args.machine.now c.open_whole.new.machine (g.H.Host.files c.args.host.now)
    (g.H.Host.files c.open_whole.new.host) c.in-Whole.is (c.deref.ensures.value ∙ c.in_ok-text.ensures) opens)
    c.open_whole.ensures
