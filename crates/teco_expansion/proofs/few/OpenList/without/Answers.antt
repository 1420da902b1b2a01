use Rattle.teco_expansion.proofs.Prelude.{◌≡◌, ◌-◌, ◌≤◌, length, arith}
use Rattle.teco_expansion.proofs.Lists.{drop-reverse-take}
use Rattle.teco_expansion.proofs.few.OpenList.without.Goals as goal

pub returns : goal.returns
returns g c =
    let less : c.saturating_sub.result ≡ c.args.self.len - c.args.count = omega (arith, c.saturating_sub.ensures) in
    let within : c.args.self.len ≤ length c.args.self.items = omega (arith, c.args.self.whole, c.args.self.within) in
    rw less (drop-reverse-take c.args.self.items c.args.self.len c.args.count within)
