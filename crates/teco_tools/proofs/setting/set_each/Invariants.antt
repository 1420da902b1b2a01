use Rattle.std.proofs.Common.{◌≡◌, drop}
use Rattle.teco_tools.specs.Starts.{with_settings}
use Rattle.teco_tools.proofs.setting.set_each.Given as goal

-- with the texts that are left it has them all
abbrev pub invariant-loop-given : goal.invariant-loop-given
invariant-loop-given g l =
    record l.machine { kept = with_settings (drop l.given-index l.settings) l.machine.kept }
    ≡ record l.fn.machine { kept = with_settings l.settings l.fn.machine.kept }
