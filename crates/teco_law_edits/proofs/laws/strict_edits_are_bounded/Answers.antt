use Rattle.teco_jobs.proofs.Strict.{strict-admits}
use Rattle.teco_jobs.specs.Strict.{on_terms}
use Rattle.teco_law_edits.proofs.Bounds.{strict_is_bounded}
use Rattle.teco_law_edits.proofs.laws.strict_edits_are_bounded.Goals as goal

pub returns : goal.returns
returns c = λ terms call strict.
    strict_is_bounded (on_terms terms call) (strict-admits c.values_grow.ensures terms call strict)
