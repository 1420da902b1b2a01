use Rattle.teco_paths.proofs.Prelude.{subst, AreSymbols}
use Rattle.teco_paths.proofs.Claiming.{case_holds, shaped}
use Rattle.teco_paths.proofs.cut.case_of.Goals as goal

pub returns : goal.returns
returns c n s whole room claimed =
    case_holds c.args.cut.now _ n s
    (subst (λ p. AreSymbols p c.in_ok-forms.forms.items) c.deref.ensures.value c.in_ok-forms.ensures)
    (c.in_ok-constraints.ensures n s whole room claimed.claims)
    (shaped c.args.cut.now.shape c.in_ok-shape.shape s c.in_ok-shape.ensures.operators c.in_ok-shape.ensures.iterations
    c.in_ok-shape.ensures.pushes claimed.shape)
    claimed
