use Rattle.std.proofs.Common.{ap, ◌∙◌}
use Rattle.std.proofs.lemmas.Result.{IfOk-weaker}
use Rattle.teco_jobs.proofs.InMemory.{called}
use Rattle.teco_model.specs.Registers.{with_texts}
use Rattle.teco_jobs.proofs.in_memory.call_and_close.Goals as goal

pub returns : goal.returns
returns g c =
    let old = c.args.machine.now in
    IfOk-weaker c.run_and_close.result _ _
    (λ code runs. called c.args.subject.now c.deref.result.now code old c.load.new.self c.run_and_close.new.machine
    (g.H.Host.files c.args.host.now) (g.H.Host.files c.run_and_close.new.host)
    (c.deref.ensures.value ∙ c.in_ok-text.ensures)
    (c.in_ok-load.ensures.loaded
    ∙ ap (λ texts. record old { kept = record old.kept { registers = with_texts texts old.kept.registers } })
    c.texts.ensures.value) runs)
    c.run_and_close.ensures
