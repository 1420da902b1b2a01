use Rattle.std.proofs.Common.{refl}
use Rattle.teco_policy.proofs.Keeping.{both}
use Rattle.teco_judging.proofs.judged.first_of_both.Goals as goal

pub returns-in-None : goal.returns-in-None
returns-in-None c = λ none.
    both c.args.asked.now c.args.more.now c.args.texts.now.old.items c.args.texts.now.new.items
    (c.in_default.ensures refl) (c.in-None.ensures refl)
