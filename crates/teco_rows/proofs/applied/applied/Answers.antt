use Rattle.teco_rows.proofs.Prelude.{◌≡◌, refl, sym, ap, subst, ◌∙◌, None, slice_index_or, rules, take, All, take_all}
use Rattle.teco_rows.proofs.Prelude.{Draft, Adds, IsAbout, IsWhole, value_if}
use Rattle.teco_linear.specs.Implied.{Holds}
use Rattle.teco_rows.proofs.Applying.{adds_more, carried_at}
use Rattle.teco_rows.proofs.applied.applied.Goals as goal

pub loop-clause-preserved : goal.loop-clause-preserved
loop-clause-preserved c =
    adds_more c.args.case.now c.args.step.now c.args.step.now.clauses.now c.loop-clause.clause-index _ _ _ _
    c.loop-clause-test.true c.loop-clause.invariant c.in_ok-follow.ensures

pub returns-clause-carries : goal.returns-clause-carries
returns-clause-carries c n v old new unknown fits holds =
    let case = c.args.case.now in
    let step = c.args.step.now in
    let start : Draft = record { forms = c.in_ok-forms.forms; constraints = c.in_ok-constraints.constraints } in
    let whole : IsWhole case = search rules in
    let about : All (IsAbout case.symbols) step.given.now = search rules in
    let all : take c.loop-clause.clause-index step.clauses.now ≡ step.clauses.now =
    take_all c.loop-clause.clause-index step.clauses.now c.loop-clause-test.false in
    carried_at case step whole about n v old new unknown fits start c.loop-clause.draft _
    (record {
      forms = λ n v k.
          c.in_ok-forms.ensures n v k ∙ ap (λ fs. value_if (slice_index_or fs k None) n v) c.deref.ensures.value;
      constraints = λ n v h.
          c.in_ok-constraints.ensures n v (subst (All (Holds n v)) (sym c.deref-2.ensures.value) h);
    })
    (subst (λ r. Adds case step r start c.loop-clause.draft) all c.loop-clause.invariant) refl refl holds
