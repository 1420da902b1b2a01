use Rattle.teco_hosts.proofs.Prelude.{◌≡◌, true, is_some, name_in}
use Rattle.teco_hosts.proofs.Ready.{accepted-some}
use Rattle.teco_hosts.proofs.pages.Pages.accept_page.Goals as goal

pub returns-then-is_some-clause-rest : goal.returns-then-is_some-clause-rest
returns-then-is_some-clause-rest c h f =
    let i = c.self.inside in
    let yes : is_some i.ready ≡ true = cc in
    accepted-some (name_in i.input) i.page.items i.ready i.ahead i.end (name_in i.output) _ c.clear.new.self.items yes
    c.clear.ensures.items c.self.view_is c.self.invariant f
