use Rattle.std.proofs.Common.{◌≡◌, take, Some}
use Rattle.std.specs.Prelude.{map}
use Rattle.teco_parameters.specs.Binding.{text_of}
use Rattle.teco_parameters.proofs.binding.texts_of_all.Given as goal

-- each parameter so far has its text
abbrev pub invariant-loop-i : goal.invariant-loop-i
invariant-loop-i l = map (λ text. Some text.items) l.texts.items ≡ map (text_of l.given) (take l.i l.parameters)
