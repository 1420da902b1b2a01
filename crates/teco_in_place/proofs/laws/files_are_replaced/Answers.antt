use Rattle.teco_in_place.proofs.Editing.{files_are_replaced}
use Rattle.teco_in_place.proofs.laws.files_are_replaced.Goals as goal

pub returns : goal.returns
returns c = files_are_replaced
