use Rattle.teco_applied.proofs.InPlace.{subject_edits}
use Rattle.teco_applied.proofs.editing.edit_by_subject.Goals as goal

pub returns-in-Ok : goal.returns-in-Ok
returns-in-Ok g c = subject_edits _ _ _ _ _ _ _ c.in-Ok.ensures c.edit_by_accepted.ensures
