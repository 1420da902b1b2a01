use Rattle.teco_console.proofs.Fronts.{none_written}
use Rattle.teco_console.proofs.console.Console.answer.Goals as goal

pub returns-in_err-text : goal.returns-in_err-text
returns-in_err-text g c = none_written _ _ _ c.from_residual.ensures.0
