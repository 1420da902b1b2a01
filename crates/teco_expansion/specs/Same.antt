-- Texts that wait, compared one by one.
use Rattle.std.specs.Prelude.{Bool, true, false, Option, Some, None}
use Rattle.teco_verifier.specs.expansion.Expansion.{same_spot}
use Rattle.teco_expansion.specs.Seen.{spot_seen}
use Rattle.teco_expansion.specs.declared.spot.Spot.{Spot}
use Rattle.teco_expansion.specs.declared.texts.Texts.{Texts}

abbrev pub same_waiting : Texts → Option Spot → Option Spot → Bool
same_waiting texts None None = true
same_waiting texts (Some a) (Some b) = same_spot (spot_seen texts a) (spot_seen texts b)
same_waiting texts a b = false
