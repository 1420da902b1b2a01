use Rattle.teco_jobs.proofs.Strict.{strict-admits}
use Rattle.teco_jobs.specs.Strict.{on_terms}
use Rattle.teco_law_edits.proofs.Changed.{strict_makes_changed}
use Rattle.teco_law_edits.proofs.laws.strict_edits_make_changed.Goals as goal

pub returns : goal.returns
returns c = λ terms call strict.
    strict_makes_changed c.runs_end_once.ensures c.texts_end.ensures (on_terms terms call)
    (strict-admits c.values_grow.ensures terms call strict)
