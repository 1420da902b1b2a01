use Rattle.std.proofs.Common.{List, ◌++◌, refl, subst}
use Rattle.teco_judging.proofs.Asked.{kept_of_noted, none_asked}
use Rattle.teco_judging.proofs.judged.Judged.judge.Goals as goal
use Rattle.teco_pages.specs.Texts.{texts_of}
use Rattle.teco_policy.specs.Policies.{KeepEach}
use Rattle.teco_policy.specs.declared.policy.Policy.{Policy}

pub returns-then-asks_nothing : goal.returns-then-asks_nothing
returns-then-asks_nothing g c =
    none_asked (c.args.self.now.asked.now ++ c.args.self.now.more.items) (texts_of c.args.self.now.history.events)
    (c.if-asks_nothing.ensures refl)

pub returns-in-None : goal.returns-in-None
returns-in-None g c =
    kept_of_noted (c.args.self.now.asked.now ++ c.args.self.now.more.items) c.args.self.now.history.events
    c.args.self.now.texts c.in-Some.texts c.args.self.now.noted c.in-Some.is
    (subst (λ (it : List Policy). KeepEach (c.args.self.now.asked.now ++ it) c.in-Some.texts.old.items
    c.in-Some.texts.new.items) c.deref.ensures.value (c.in-None.ensures refl))
