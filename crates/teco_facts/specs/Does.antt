-- What a call did, beside the definition.
use Rattle.std.specs.Prelude.{◌≡◌, [], ◌∷◌, Option, Some, None, Result, Ok, Err}
use Rattle.std.specs.declared.alloc.AllocError.{AllocError}
use Rattle.teco_verifier.specs.declared.refusal.RefusalReason.{RefusalReason}
use Rattle.teco_verifier.specs.facts.Arguments.{KnownArguments}
use Rattle.teco_verifier.specs.facts.Facts.{Pushed, Facts}
use Rattle.teco_facts.specs.declared.fault.FactFault.{FactFault}
use Rattle.teco_facts.specs.declared.fault.FactFault.TheVariants as fault

-- an answer is what the definition says, or its refusal, or memory was refused
abbrev pub Gives : {X : Type 0} → Result X RefusalReason → Result X FactFault → Type 0
Gives defined (Ok x) = defined ≡ Ok x
Gives defined (Err (fault.Refused why)) = defined ≡ Err why
Gives defined (Err fault.Memory) = Unit {0}

-- a call left what the definition says, or answers its refusal, or memory was refused
abbrev pub Leaves : Result Facts RefusalReason → Facts → Result (Unit {0}) FactFault → Type 0
Leaves defined new (Ok done) = defined ≡ Ok new
Leaves defined new (Err (fault.Refused why)) = defined ≡ Err why
Leaves defined new (Err fault.Memory) = Unit {0}

-- pending arguments are left as the definition says, or its refusal is answered, or memory was refused
abbrev pub Closes : Result KnownArguments RefusalReason → KnownArguments → Result (Unit {0}) FactFault → Type 0
Closes defined new (Ok done) = defined ≡ Ok new
Closes defined new (Err (fault.Refused why)) = defined ≡ Err why
Closes defined new (Err fault.Memory) = Unit {0}

-- the pair that was pushed last is gone, or there was none, or memory was refused
abbrev pub Pops : Facts → Facts → Result (Option Pushed) AllocError → Type 0
Pops old new (Ok None) = old.pushes ≡ []
Pops old new (Ok (Some pair)) = (old.pushes ≡ pair ∷ new.pushes) × (new ≡ record old { pushes = new.pushes })
Pops old new (Err refused) = Unit {0}
