use Rattle.std.proofs.Common.{◌≡◌, ◌++◌, take, flat_map}
use Rattle.teco_witness.specs.Witness.{setting_text}
use Rattle.teco_witness.proofs.commands.push_settings.Given as goal

-- what is added so far is of those so far
abbrev pub invariant-loop-setting : goal.invariant-loop-setting
invariant-loop-setting l =
    l.commands.items ≡ l.fn.commands.items ++ flat_map setting_text (take l.setting-index l.settings)
