use Rattle.teco_paths.proofs.Prelude.{subst, sym, All, Holds}
use Rattle.teco_paths.proofs.Claiming.{all_known}
use Rattle.teco_paths.proofs.cut.known.Goals as goal

pub returns : goal.returns
returns c =
    all_known c.args.size.now c.args.cut.now c.in_ok-all.all.items c.in_ok-facts.facts.items _
    (λ n v holds. c.in_ok-all.ensures n v (subst (All (Holds n v)) (sym c.deref.ensures.value) holds))
    c.in_ok-facts.ensures c.in_ok-append.ensures.items
