use Rattle.teco_law_edits.proofs.Texts.{copying, gathering, going, turning}
use Rattle.teco_law_edits.proofs.laws.texts_end.Goals as goal

pub returns : goal.returns
returns c = record { copying = copying; turning = turning; going = going; gathering = gathering }
