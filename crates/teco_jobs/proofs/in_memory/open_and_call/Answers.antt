use Rattle.std.proofs.Common.{sym, ◌∙◌}
use Rattle.std.proofs.lemmas.Result.{IfOk-weaker}
use Rattle.teco_jobs.proofs.Openings.{then_coded, then_on}
use Rattle.teco_jobs.specs.InMemory.{CallsAndCloses, source, target}
use Rattle.teco_jobs.specs.Openings.{Opens}
use Rattle.teco_jobs.proofs.in_memory.open_and_call.Goals as goal

pub returns-then-is_some : goal.returns-then-is_some
returns-then-is_some g c =
    then_coded (Opens c.args.subject.now.pages source target) (CallsAndCloses c.args.subject.now) c.args.machine.now
    c.open.new.machine (g.H.Host.files c.args.host.now) (g.H.Host.files c.open.new.host) c.in_ok-code.code
    (sym c.is_some.ensures ∙ c.if-is_some.true) c.in_ok-code.ensures

pub returns : goal.returns
returns g c = IfOk-weaker c.call_and_close.result _ _
    (λ code calls. then_on (Opens c.args.subject.now.pages source target) (CallsAndCloses c.args.subject.now)
    c.args.machine.now c.open.new.machine c.call_and_close.new.machine (g.H.Host.files c.args.host.now)
    (g.H.Host.files c.open.new.host) (g.H.Host.files c.call_and_close.new.host) c.in_ok-code.code code
    (sym c.is_some.ensures ∙ c.if-is_some.false) c.in_ok-code.ensures calls)
    c.call_and_close.ensures
