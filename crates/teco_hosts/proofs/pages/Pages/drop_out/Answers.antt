use Rattle.teco_hosts.proofs.Prelude.{◌≡◌, ap, dropped, Held}
use Rattle.teco_hosts.proofs.Touching.{touches-just}
use Rattle.teco_hosts.proofs.pages.Pages.drop_out.Goals as goal

pub returns-in-Err-clause-noted : goal.returns-in-Err-clause-noted
returns-in-Err-clause-noted g c =
    let same : c.self.inside.end ≡ c.args.self.now.end = ap (λ (k : Held). k.end) c.self.view_is in
    let end = c.args.self.now.end in
    rw same (touches-just dropped end end _ _ c.drop_out.ensures.noted (λ h. h) tt)

pub returns-clause-noted : goal.returns-clause-noted
returns-clause-noted g c =
    let same : c.self.inside.end ≡ c.args.self.now.end = ap (λ (k : Held). k.end) c.self.view_is in
    let end = c.args.self.now.end in
    rw same (touches-just dropped end end _ _ c.drop_out.ensures.noted (λ h. h) tt)
