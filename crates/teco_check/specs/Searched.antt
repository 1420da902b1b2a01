-- The definition of searches, on the parts of an element and of the facts that it reads.
use Rattle.std.specs.Prelude.{ℕ, List, length, Result}
use Rattle.teco_model.specs.declared.kind.Search.{Search}
use Rattle.teco_verifier.specs.declared.refusal.RefusalReason.{RefusalReason}
use Rattle.teco_verifier.specs.facts.Attempt.{◌>>=◌}
use Rattle.teco_verifier.specs.facts.Facts.{Facts}
use Rattle.teco_verifier.specs.facts.Searches.{minimum_of, shift_found}
use Rattle.teco_verifier.specs.facts.Shifts.{shifted}

-- where a text is found, for which another is put in
abbrev pub facts_found : Search → List ℕ → List ℕ → Facts → Result Facts RefusalReason
facts_found s text second facts = do
  least ← minimum_of text
  shifted (shift_found s least (length second) facts.position.distances) facts
