-- The walk, as the definition has it.
use Rattle.std.specs.Prelude.{ℕ, List, ◌++◌, map, not, option_map, Result, Ok}
use Rattle.teco_verifier.specs.expansion.Expansion as model
use Rattle.teco_verifier.specs.expansion.Expansion.{is_within}
use Rattle.teco_verifier.specs.expansion.Refusal.{Reason, TooLarge, unless, ◌>>=◌}
use Rattle.teco_expansion.specs.declared.texts.Texts.{Texts}
use Rattle.teco_expansion.specs.declared.walk.Walk.{Walk}
use Rattle.teco_expansion.specs.Refused.{refusal_seen}
use Rattle.teco_expansion.specs.Seen.{visit_seen}

-- a visit, if it is within what there may be
abbrev pub limited : ℕ → model.Visit → Result model.Visit Reason
limited number next = do
  few ← unless (not (is_within number next)) TooLarge
  Ok next

-- a walk behind visits
abbrev pub behind : List model.Visit → model.Walk → model.Walk
behind visits w = record w { visits = visits ++ w.visits }

abbrev pub walk_seen : Texts → Walk → model.Walk
walk_seen texts w = record {
  visits = map (visit_seen texts) w.visits.items;
  refusal = option_map refusal_seen w.refusal;
}
