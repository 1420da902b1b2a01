use Rattle.teco_hosts.proofs.Prelude.{◌≡◌, ap, subst, sym, ◌∙◌, true, is_some, name_in}
use Rattle.std.proofs.Common.{IsSome}
use Rattle.teco_hosts.proofs.Ready.{accepted-some, is-ready}
use Rattle.teco_hosts.proofs.pages.Pages.take_page.Goals as goal

pub returns-clause-rest : goal.returns-clause-rest
returns-clause-rest c h f =
    let i = c.self.inside in
    let yes : is_some i.ready ≡ true =
    is-ready i.page.items i.ready (subst (λ k. IsSome k.ready) (sym c.self.view_is) h) in
    let left = ap (λ v. v.items) c.replace.ensures.after ∙ c.new-spare.ensures.items in
    rw c.take.ensures.after (accepted-some (name_in i.input) i.page.items i.ready i.ahead i.end
    (name_in i.output) _ c.replace.new.dest.items yes left c.self.view_is c.self.invariant f)
