use Rattle.teco_paths.proofs.Prelude.{subst, OnTrue, Implies, IsSharper, IsWith}
use Rattle.teco_paths.proofs.Answered.{if_ok}
use Rattle.teco_paths.proofs.Sharpening.{implied_sharper}
use Rattle.teco_paths.proofs.room.with_shown.Goals as goal

pub returns : goal.returns
returns c =
    if_ok (λ more. IsWith c.args.case c.args.form more) (λ more. IsSharper c.args.case more) c.with_constraint.result
    (implied_sharper c.args.case c.args.form
    (subst (λ b. OnTrue b (Implies c.args.case.constraints.items c.args.form)) c.if-not-is_shown.false
    c.in_ok-is_shown.ensures))
    c.with_constraint.ensures
