-- Where one more iteration may be open.
use Rattle.std.specs.Prelude.{◌<◌, List, [], ◌∷◌, length, Option, Some, None}
use Rattle.teco_verifier.specs.facts.Facts.{Iteration, Facts}
use Rattle.teco_facts.specs.declared.few.TheConstants.{DEPTH}

pub record HasRoom (facts : Facts) : Type 0 where
  pub falls : length facts.position.falls < DEPTH
  pub iterations : length facts.iterations < DEPTH

-- the iteration that was begun last
abbrev pub innermost : List Iteration → Option Iteration
innermost [] = None
innermost (i ∷ outer) = Some i
