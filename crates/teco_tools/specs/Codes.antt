-- The code that is typed for a stop.
use Rattle.std.specs.Prelude.{Option, Some, None}
use Rattle.teco_base.specs.declared.code.Code.{Code}
use Rattle.teco_base.specs.declared.code.Code.TheVariants as code
use Rattle.teco_model.specs.declared.stop.HostFault.TheVariants as host_fault
use Rattle.teco_model.specs.declared.stop.Stop.{Stop}
use Rattle.teco_model.specs.declared.stop.Stop.TheVariants as stop

-- its own where it is a code; none at the end; and that which stands for a limit, for want of memory or for the host
abbrev pub code_at : Stop → Option Code
code_at (stop.Ended n) = None
code_at (stop.Exit n) = None
code_at (stop.Error c) = Some c
code_at stop.Limit = Some code.Lim
code_at stop.Memory = Some code.Mem
code_at (stop.HostFault host_fault.NoFile) = Some code.Fnf
code_at (stop.HostFault host_fault.In) = Some code.Inp
code_at (stop.HostFault host_fault.Out) = Some code.Out
