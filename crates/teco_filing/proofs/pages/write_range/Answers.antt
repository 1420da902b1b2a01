use Rattle.teco_filing.proofs.Prelude.{refl, rules, Updates, IsSameOutput, told-same, writing, halt_cause, world}
use Rattle.std.proofs.Common.{w32}
use Rattle.std.proofs.lemmas.Int.{to_z-of_z}
use Rattle.teco_model.specs.Paging as model
use Rattle.teco_filing.proofs.Turned.{is-written}
use Rattle.teco_filing.proofs.pages.write_range.Goals as goal

pub returns-in_err-first-clause-writes : goal.returns-in_err-first-clause-writes
returns-in_err-first-clause-writes g c =
    let kept = c.args.editor.now in
    let held = c.args.pages.now in
    told-same
    (λ files left. IsSameOutput held files
    → Updates halt_cause writing (world kept held files) (world kept held left)
    (model.range_written c.args.m c.args.n (world kept held files)) c.from_residual.result × IsSameOutput held left)
    (λ files. search rules) _

pub returns-clause-writes : goal.returns-clause-writes
returns-clause-writes g c =
    let text = rw (to_z-of_z w32 c.args.m (search rules), to_z-of_z w32 c.args.n (search rules)) at
    c.in_ok-first.ensures in
    let held = c.args.pages.now in
    is-written c.args.editor.now held (model.range_written c.args.m c.args.n) _
    (λ files. rw text refl) c.put_text_out.result _ _ _ _ c.put_text_out.ensures.put_out
