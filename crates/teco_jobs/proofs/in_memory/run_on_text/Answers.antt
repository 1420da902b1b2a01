use Rattle.std.proofs.Common.{◌∙◌, ap, subst, sym}
use Rattle.teco_jobs.proofs.InMemory.{bytes_of, made_from}
use Rattle.teco_jobs.specs.InMemory.{Works, beside_text, text_of_output}
use Rattle.teco_jobs.proofs.in_memory.run_on_text.Goals as goal

pub returns-in-None : goal.returns-in-None
returns-in-None c =
    let call = c.args.subject.now in
    let text = c.args.text.now in
    let made = made_from call text c.in_ok-work.field-0 c.in_ok-host.host c.work.new.host
    c.machine_with-machine.result c.work.new.machine c.in_ok-host.ensures c.machine_with-machine.ensures
    (bytes_of text c.type_inv.text) c.in_ok-work.ensures in (
      made.0,
      subst (λ code. Works call code (beside_text text) made.0) c.in-None.is made.1,
      c.in_ok-written-in-None.ensures ∙ ap text_of_output (sym made.2),
    )

pub returns : goal.returns
returns c =
    let call = c.args.subject.now in
    let text = c.args.text.now in
    let made = made_from call text c.in_ok-work.field-0 c.in_ok-host.host c.work.new.host
    c.machine_with-machine.result c.work.new.machine c.in_ok-host.ensures c.machine_with-machine.ensures
    (bytes_of text c.type_inv.text) c.in_ok-work.ensures in
    (made.0, subst (λ code. Works call code (beside_text text) made.0) c.in-Some.is made.1)
