-- The events where the host fails.
use Rattle.teco_filing.proofs.Prelude.{◌≡◌, ℕ, List, [], Option, Err, refl, Fault, halt_of}
use Rattle.std.proofs.Common.{◌∷◌}
use Rattle.teco_model.specs.declared.kind.File.TheVariants as file
use Rattle.teco_hosts.specs.Events.{dropped}
use Rattle.teco_hosts.specs.PageCalls.{OkOrInOut}
use Rattle.teco_hosts.specs.declared.fault.Fault.TheVariants as fault
use Rattle.teco_filing.specs.Touched.{touched_in}

-- an output that all goes to is dropped
pub drops-failing : (e : Fault) (f g : ℕ) (output : Option (List ℕ)) → OkOrInOut {X = Unit {0}} (Err e) f g
    → touched_in {X = Unit {0}} file.Copy [] output (Err (halt_of e)) ≡ dropped ∷ []
drops-failing fault.NoFile f g output h = refl
drops-failing fault.In f g output h = refl
drops-failing fault.Out f g output h = refl
drops-failing fault.Full f g output h = absurd h
drops-failing fault.Memory f g output h = absurd h
