-- How levels settle that were opened before.
use Rattle.std.specs.Prelude.{◌≡◌, List, [], ◌∷◌, map, Bool, Option, Some, None}
use Rattle.teco_verifier.specs.facts.Arguments.{KnownLevel, settled_level}
use Rattle.teco_verifier.specs.declared.values.Distances.{Distances}
use Rattle.teco_facts.specs.declared.settling.Opened.{Opened}
use Rattle.teco_facts.specs.declared.settling.Settling.{Settling}

-- A level as it is by now.
abbrev pub settled_by : Option Settling → KnownLevel → KnownLevel
settled_by None level = level
settled_by (Some settling) level = settled_level settling.margins settling.ends level

-- All levels that were opened before, as they are by now.
abbrev pub settled_since : Option Settling → List KnownLevel → List KnownLevel
settled_since settling levels = map (settled_by settling) levels

-- The levels outside the innermost, each as it was when a parenthesis opened behind it: those outside it had
-- settled by then.
abbrev pub levels_of : List Opened → List KnownLevel
levels_of [] = []
levels_of (opened ∷ outer) = opened.level ∷ settled_since opened.below (levels_of outer)

-- The levels outside the innermost, each as it is by now.
abbrev pub levels_since : Option Settling → List Opened → List KnownLevel
levels_since settling outer = settled_since settling (levels_of outer)

-- What settles them once more does to each what both do.
abbrev pub SettlesAgain : Option Settling → Distances → Bool → Settling → Type 0
SettlesAgain earlier margins ends both =
    (levels : List KnownLevel)
    → map (settled_level margins ends) (settled_since earlier levels) ≡ settled_since (Some both) levels

-- What settles them by one and then by another does to each what both do.
abbrev pub SettlesBoth : Option Settling → Option Settling → Option Settling → Type 0
SettlesBoth earlier later both =
    (levels : List KnownLevel) → settled_since later (settled_since earlier levels)
    ≡ settled_since both levels
