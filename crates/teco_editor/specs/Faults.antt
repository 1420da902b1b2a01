-- The reason that a fault of the text, of the arguments or of the registers is.
use Rattle.teco_base.specs.declared.code.Code.TheVariants as code
use Rattle.teco_expr.specs.declared.args.ArgFault.{ArgFault}
use Rattle.teco_expr.specs.declared.args.ArgFault.TheVariants as argument_fault
use Rattle.teco_regs.specs.declared.fault.RegFault.{RegFault}
use Rattle.teco_regs.specs.declared.fault.RegFault.TheVariants as register_fault
use Rattle.teco_text.specs.declared.fault.TextFault.{TextFault}
use Rattle.teco_text.specs.declared.fault.TextFault.TheVariants.{Off, Full, Memory}
use Rattle.teco_editor.specs.declared.stuck.Stuck.{Stuck}
use Rattle.teco_editor.specs.declared.stuck.Stuck.TheVariants as stuck

-- a place off the text is POP, and a text that would be too long FUL
abbrev pub stuck_by : TextFault → Stuck
stuck_by Off = stuck.Code code.Pop
stuck_by Full = stuck.Code code.Ful
stuck_by Memory = stuck.Memory

abbrev pub stuck_by_arguments : ArgFault → Stuck
stuck_by_arguments (argument_fault.Code c) = stuck.Code c
stuck_by_arguments argument_fault.Memory = stuck.Memory

-- an empty push-down list is PES
abbrev pub stuck_by_registers : RegFault → Stuck
stuck_by_registers register_fault.Empty = stuck.Code code.Pes
stuck_by_registers register_fault.Full = stuck.Code code.Ful
stuck_by_registers register_fault.Memory = stuck.Memory
