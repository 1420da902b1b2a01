-- What is known since the start of a body.
use Rattle.std.specs.Prelude.{ℕ, suc, Bool, false}
use Rattle.std.specs.Option.{option_map_or}
use Rattle.teco_verifier.specs.facts.Covers.{each_covers, is_same_iteration}
use Rattle.teco_verifier.specs.facts.Facts.{Facts}
use Rattle.teco_verifier.specs.table.Table.{Table, facts_at}

-- the iterations that are open at its start are those of some facts
abbrev pub known_since : Table → ℕ → Facts → Bool
known_since table begin facts =
    option_map_or (λ (start : Facts). each_covers is_same_iteration start.iterations facts.iterations)
    (facts_at table (suc begin)) false
