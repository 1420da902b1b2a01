-- At which node no choices are found.
use Rattle.std.specs.Prelude.{◌≡◌, ℕ, List}
use Rattle.teco_check.specs.Here.{IsNumberOf}
use Rattle.teco_verify.specs.declared.unfit.Unfit.{Unfit}
use Rattle.teco_verify.specs.declared.unfit.Unfit.TheVariants as unfit
use Rattle.teco_verifier.specs.expansion.Node.{Node}

-- the rules refuse, or the search ends, at the node of this number, or memory was refused
abbrev pub IsAt : ℕ → Unfit → Type 0
IsAt number (unfit.Refused why at) = at ≡ number
IsAt number (unfit.GivenUp at) = at ≡ number
IsAt number unfit.Memory = Unit {0}

-- there is a node of that number
abbrev pub IsIn : List Node → Unfit → Type 0
IsIn nodes (unfit.Refused why at) = IsNumberOf nodes at
IsIn nodes (unfit.GivenUp at) = IsNumberOf nodes at
IsIn nodes unfit.Memory = Unit {0}
