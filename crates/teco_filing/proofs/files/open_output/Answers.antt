use Rattle.teco_filing.proofs.Prelude.{rules, Updates, IsSameOutput, told-same, halt_cause, world}
use Rattle.teco_model.specs.Filing as model
use Rattle.teco_filing.specs.Failures.{opening_output}
use Rattle.teco_filing.proofs.files.open_output.Goals as goal

pub returns-in_err-check_name-clause-opens : goal.returns-in_err-check_name-clause-opens
returns-in_err-check_name-clause-opens g c = λ kept.
    let held = c.args.pages.now in
    told-same
    (λ files left. IsSameOutput held files
    → Updates halt_cause opening_output (world kept held files) (world kept held left)
    (model.open_output c.args.name.now (world kept held files)) c.from_residual.result × IsSameOutput held left)
    (λ files. search rules) _
