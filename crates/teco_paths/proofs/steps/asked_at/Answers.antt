use Rattle.teco_paths.proofs.Prelude.{subst, OnTrue, AreMet}
use Rattle.teco_paths.proofs.steps.asked_at.Goals as goal

pub returns-then-is_asked : goal.returns-then-is_asked
returns-then-is_asked c = record {
  law = c.in_ok-outcomes.ensures;
  asked = subst (λ b. OnTrue b (AreMet c.args.case.now c.in_ok-outcomes.outcomes)) c.if-is_asked.true
      c.in_ok-is_asked.ensures;
}

pub returns : goal.returns
returns c = record {
  law = c.in_ok-wrapped.ensures;
  asked = subst (λ b. OnTrue b (AreMet c.args.case.now c.in_ok-wrapped.wrapped)) c.if-not-is_so.false
      c.in_ok-is_so.ensures;
}
