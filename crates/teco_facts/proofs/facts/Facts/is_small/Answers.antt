use Rattle.teco_facts.proofs.Prelude.{sym, subst, Facts, AreSmall}
use Rattle.teco_facts.specs.declared.facts.FactsSaid.{FactsSaid}
use Rattle.teco_facts.proofs.facts.Facts.is_small.Goals as goal

pub returns-clause-no : goal.returns-clause-no
returns-clause-no c = λ small.
    c.is_small.ensures.no
    (subst (λ (k : FactsSaid). AreSmall k.position.falls) (sym c.deref.ensures)
    (subst (λ (f : Facts). AreSmall f.position.falls) (sym c.self.view_is) small))
