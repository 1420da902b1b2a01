-- The cause of a fault of the arguments.
use Rattle.teco_base.specs.Does.{Cause, Refused, Memory}
use Rattle.teco_expr.specs.declared.args.ArgFault.{ArgFault}
use Rattle.teco_expr.specs.declared.args.ArgFault.TheVariants as fault

abbrev pub argument_cause : ArgFault → Cause ⊥
argument_cause (fault.Code c) = Refused c
argument_cause fault.Memory = Memory
