use Rattle.teco_find.proofs.Prelude.{sym, ◌∙◌, arith, joined}
use Rattle.teco_find.proofs.Matches.{first_found, first_missed, first_nowhere}
use Rattle.teco_find.proofs.pattern.Pattern.first_tried.Goals as goal

pub returns-in-Some-here-clause-value : goal.returns-in-Some-here-clause-value
returns-in-Some-here-clause-value c =
    first_found c.args.self.now (joined c.args.text) c.loop-start.from c.in-Some.start c.in-Some-here.span
    c.in-Some.ensures c.in-Some-here.ensures.value ∙ c.loop-start.invariant.same

pub loop-start-preserved : goal.loop-start-preserved
loop-start-preserved c = record {
  within = let found = c.in-Some.ensures in omega (arith, found.high);
  same = first_missed c.args.self.now (joined c.args.text) c.loop-start.from c.in-Some.start c.in-Some.ensures
      c.in_default-here.ensures.value ∙ c.loop-start.invariant.same;
}

pub returns-clause-value : goal.returns-clause-value
returns-clause-value c =
    sym (first_nowhere c.args.self.now (joined c.args.text) c.loop-start.from c.loop-start.invariant.within
    c.in_default.ensures) ∙ c.loop-start.invariant.same
