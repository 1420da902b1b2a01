use Rattle.teco_filing.proofs.Prelude.{Err, rules, Updates, IsSameOutput, told-same, halt_cause, world}
use Rattle.teco_base.specs.declared.code.Code.TheVariants as code
use Rattle.teco_model.specs.Paging as model
use Rattle.teco_filing.specs.Failures.{reading}
use Rattle.teco_filing.specs.declared.halt.Halt.TheVariants as halt
use Rattle.teco_filing.proofs.pages.yank.Goals as goal

pub returns-then-size-gt0-clause-reads : goal.returns-then-size-gt0-clause-reads
returns-then-size-gt0-clause-reads g c =
    let kept = c.args.editor.now in
    let held = c.args.pages.now in
    told-same
    (λ files left. IsSameOutput held files
    → Updates {X = Unit {0}} halt_cause reading (world kept held files) (world kept held left)
    (model.yank (world kept held files)) (Err (halt.Code code.Yca)) × IsSameOutput held left)
    (λ files. search rules) _
