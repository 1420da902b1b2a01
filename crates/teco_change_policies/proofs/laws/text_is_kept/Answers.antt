use Rattle.teco_change_policies.proofs.Subsequent.{text_is_kept}
use Rattle.teco_change_policies.proofs.laws.text_is_kept.Goals as goal

pub returns : goal.returns
returns c = text_is_kept
