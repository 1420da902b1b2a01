-- What a call answers, beside the definition.
use Rattle.std.specs.Prelude.{◌≡◌, ℕ, List, Bool, true, false, Result, Ok, Err}
use Rattle.teco_verifier.specs.expansion.Node.{Node}
use Rattle.teco_poly.specs.Polynomial.{Polynomial}
use Rattle.teco_check.specs.declared.printed.Overflow.{Overflow}
use Rattle.teco_check.specs.declared.bad.Bad.{Bad}
use Rattle.teco_check.specs.declared.bad.Bad.TheVariants as bad
use Rattle.teco_check.specs.Here.{IsNumberOf}

-- the answer is the definition's, or memory was refused
abbrev pub Says : Result (Unit {0}) ℕ → Result (Unit {0}) Bad → Type 0
Says closed (Ok done) = closed ≡ Ok tt
Says closed (Err (bad.Edge node)) = closed ≡ Err node
Says closed (Err bad.Memory) = Unit {0}

-- what is said of one node fails there alone, or memory was refused
abbrev pub SaysAt : ℕ → Bool → Result (Unit {0}) Bad → Type 0
SaysAt number closed (Ok done) = closed ≡ true
SaysAt number closed (Err (bad.Edge node)) = (closed ≡ false) × (node ≡ number)
SaysAt number closed (Err bad.Memory) = Unit {0}

-- there is a node of the number that is told
abbrev pub IsBadAt : List Node → Result (Unit {0}) Bad → Type 0
IsBadAt nodes (Ok done) = Unit {0}
IsBadAt nodes (Err (bad.Edge node)) = IsNumberOf nodes node
IsBadAt nodes (Err bad.Memory) = Unit {0}

-- the answer is the printed number, or the number of the node where that overflows
abbrev pub Prints : Result Polynomial ℕ → Result Polynomial Overflow → Type 0
Prints printed (Ok number) = printed ≡ Ok number
Prints printed (Err at) = printed ≡ Err at.node

-- there is a node of that number
abbrev pub OverflowsAt : {X : Type 0} → List Node → Result X Overflow → Type 0
OverflowsAt nodes (Ok x) = Unit {0}
OverflowsAt nodes (Err at) = IsNumberOf nodes at.node
