use Rattle.teco_filing.proofs.Prelude.{Ok, rules, Updates, IsSameOutput, told-same, halt_cause, world}
use Rattle.teco_model.specs.Filing as model
use Rattle.teco_filing.specs.Failures.{copying}
use Rattle.teco_filing.proofs.files.exit.Goals as goal

pub returns-then-is_none-clause-exits : goal.returns-then-is_none-clause-exits
returns-then-is_none-clause-exits g c =
    let kept = c.args.editor.now in
    let held = c.args.pages.now in
    told-same
    (λ files left. IsSameOutput held files
    → Updates {X = Unit {0}} halt_cause copying (world kept held files) (world kept held left)
    (Ok (model.exit (world kept held files))) (Ok tt)
    × IsSameOutput held left)
    (λ files. search rules) _
