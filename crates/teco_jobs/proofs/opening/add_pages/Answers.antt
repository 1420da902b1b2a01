use Rattle.std.proofs.Common.{ap, sym, ◌∙◌, option_map, is_some}
use Rattle.std.proofs.lemmas.Result.{IfOk-weaker}
use Rattle.teco_jobs.proofs.Openings.{all_added, no_page, page_coded, page_more}
use Rattle.teco_tools.specs.Codes.{code_at}
use Rattle.teco_jobs.proofs.opening.add_pages.Goals as goal

pub loop-init : goal.loop-init
loop-init g c = no_page c.args.machine.now (g.H.Host.files c.args.host.now)

pub returns-in-None : goal.returns-in-None
returns-in-None g c = IfOk-weaker c.run_text.result _ _
    (λ stopped runs. all_added c.args.machine.now c.loop.machine c.turn.new.machine c.run_text.new.machine
    (g.H.Host.files c.args.host.now) (g.H.Host.files c.loop.host) (g.H.Host.files c.turn.new.host)
    (g.H.Host.files c.run_text.new.host) (code_at stopped.stop) _
    (ap (λ it. option_map (λ stopped. code_at stopped.stop) it) c.in-None.is)
    c.loop.invariant c.in_ok-turn.ensures runs)
    c.run_text.ensures

pub returns-in-Some : goal.returns-in-Some
returns-in-Some g c =
    page_coded c.args.machine.now c.loop.machine c.turn.new.machine
    (g.H.Host.files c.args.host.now) (g.H.Host.files c.loop.host) (g.H.Host.files c.turn.new.host)
    (code_at c.in-Some.stopped.stop) _ (ap (λ it. option_map (λ stopped. code_at stopped.stop) it) c.in-Some.is)
    (ap is_some (sym c.code_of.ensures) ∙ sym c.is_some.ensures ∙ c.if-is_some.true)
    c.loop.invariant c.in_ok-turn.ensures

pub loop-preserved : goal.loop-preserved
loop-preserved g c =
    page_more c.args.machine.now c.loop.machine c.turn.new.machine
    (g.H.Host.files c.args.host.now) (g.H.Host.files c.loop.host) (g.H.Host.files c.turn.new.host)
    (code_at c.in-Some.stopped.stop) _ (ap (λ it. option_map (λ stopped. code_at stopped.stop) it) c.in-Some.is)
    (ap is_some (sym c.code_of.ensures) ∙ sym c.is_some.ensures ∙ c.if-is_some.false)
    c.loop.invariant c.in_ok-turn.ensures
