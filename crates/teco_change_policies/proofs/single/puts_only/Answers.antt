use Rattle.std.proofs.Common.{subst}
use Rattle.teco_changes.specs.Changes.{IsPut}
use Rattle.teco_change_policies.proofs.Characters.{numeral_among}
use Rattle.teco_change_policies.proofs.single.puts_only.Goals as goal

pub returns-in-PutsNumber : goal.returns-in-PutsNumber
returns-in-PutsNumber c = λ ok put h.
    numeral_among c.args.characters.now put (c.are_one_of.ensures ok) (subst (λ x. IsPut x put) c.in-PutsNumber.is h)
