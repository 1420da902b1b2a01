use Rattle.teco_find.proofs.Prelude.{sym, ◌∙◌, arith, joined}
use Rattle.teco_find.proofs.Matches.{last_found, last_missed, last_nowhere}
use Rattle.teco_find.proofs.pattern.Pattern.last_before.Goals as goal

pub returns-in-Some-here-clause-value : goal.returns-in-Some-here-clause-value
returns-in-Some-here-clause-value c =
    last_found c.args.self.now (joined c.args.text) c.loop-start.before c.in-Some.start c.in-Some-here.span
    c.in-Some.ensures c.in-Some-here.ensures.value ∙ c.loop-start.invariant.same

pub loop-start-preserved : goal.loop-start-preserved
loop-start-preserved c = record {
  within = let found = c.in-Some.ensures in omega (arith, found.high);
  same = last_missed c.args.self.now (joined c.args.text) c.loop-start.before c.in-Some.start c.in-Some.ensures
      c.in_default-here.ensures.value ∙ c.loop-start.invariant.same;
}

pub returns-clause-value : goal.returns-clause-value
returns-clause-value c =
    sym (last_nowhere c.args.self.now (joined c.args.text) c.loop-start.before c.in_default.ensures)
    ∙ c.loop-start.invariant.same
