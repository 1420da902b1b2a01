use Rattle.teco_source.proofs.Saying.{said_spelled}
use Rattle.teco_source.proofs.form.sources_say.Goals as goal

pub returns : goal.returns
returns c = said_spelled
