use Rattle.teco_source.proofs.Saying.{written_says}
use Rattle.teco_source.proofs.form.EscapeForm.write.Goals as goal

pub returns-clause-said : goal.returns-clause-said
returns-clause-said c =
    written_says c.args.self c.loop-byte.before c.loop-byte.written.items c.loop-byte.rest.now c.args.text.now
    c.in_default.ensures.cases c.loop-byte.invariant.0 c.loop-byte.invariant.1
