use Rattle.teco_model.proofs.upkeep.Replies.{codes_of_steps}
use Rattle.teco_model.proofs.codes.codes_of_steps.Goals as goal

pub returns : goal.returns
returns c = codes_of_steps
