-- The reason that a fault is, and its cause.
use Rattle.std.specs.Prelude.{ℕ, ◌≡◌, ◌<◌, Result, Ok, Err}
use Rattle.teco_base.specs.Does as base
use Rattle.teco_base.specs.declared.code.Code.TheVariants as code
use Rattle.teco_model.specs.declared.stop.HostFault.{HostFault}
use Rattle.teco_model.specs.declared.stop.HostFault.TheVariants as host_fault
use Rattle.teco_hosts.specs.declared.fault.Fault.{Fault}
use Rattle.teco_hosts.specs.declared.fault.Fault.TheVariants as fault
use Rattle.teco_editor.specs.declared.stuck.Stuck.{Stuck}
use Rattle.teco_editor.specs.declared.stuck.Stuck.TheVariants as stuck
use Rattle.teco_filing.specs.declared.halt.Halt.{Halt}
use Rattle.teco_filing.specs.declared.halt.Halt.TheVariants.{Code, Memory, Host}

abbrev pub halt_by_stuck : Stuck → Halt
halt_by_stuck (stuck.Code c) = Code c
halt_by_stuck stuck.Memory = Memory

-- a page that is too long is FUL
abbrev pub halt_of : Fault → Halt
halt_of fault.NoFile = Host host_fault.NoFile
halt_of fault.In = Host host_fault.In
halt_of fault.Out = Host host_fault.Out
halt_of fault.Full = Code code.Ful
halt_of fault.Memory = Memory

-- why a command is not done
abbrev pub halt_cause : Halt → base.Cause HostFault
halt_cause (Code c) = base.Refused c
halt_cause Memory = base.Memory
halt_cause (Host fault) = base.Host fault

-- A fault of the host comes only where its count of failures rose, from f to g; and in no other case does it rise.
abbrev pub Counts : {X : Type 0} → Result X Halt → ℕ → ℕ → Type 0
Counts (Ok x) f g = g ≡ f
Counts (Err (Code c)) f g = g ≡ f
Counts (Err Memory) f g = g ≡ f
Counts (Err (Host fault)) f g = f < g
