use Rattle.teco_filing.proofs.Prelude.{Some, rules, IsSameOutput, told-same, halt_cause, world}
use Rattle.teco_base.specs.Does.{Does}
use Rattle.teco_model.specs.Filing as model
use Rattle.teco_filing.specs.Failures.{opening_input}
use Rattle.teco_filing.proofs.files.open_input.Goals as goal

pub returns-in_err-check_name-clause-opens : goal.returns-in_err-check_name-clause-opens
returns-in_err-check_name-clause-opens g c = λ kept.
    let held = c.args.pages.now in
    told-same
    (λ files left. IsSameOutput held files
    → Does halt_cause opening_input (λ new done. Some new) (world kept held files) (world kept held left)
    (model.open_input c.args.name.now (world kept held files)) c.from_residual.result × IsSameOutput held left)
    (λ files. search rules) _
