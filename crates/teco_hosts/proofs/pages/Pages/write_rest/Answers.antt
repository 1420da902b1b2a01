use Rattle.teco_hosts.proofs.Prelude.{◌≡◌, ◌++◌, false, true, None, ap, subst, ◌∙◌, err_from_is_err_and, Held}
use Rattle.teco_hosts.proofs.Prelude.{written_if_any, behind_held, name_in}
use Rattle.std.proofs.Common.{Err}
use Rattle.teco_hosts.proofs.Ready.{held}
use Rattle.teco_hosts.proofs.Rest.{held-parts, rest-all, rest-cut, rest-copied, rest-end}
use Rattle.teco_hosts.proofs.Touching.{touches-more}
use Rattle.teco_hosts.proofs.pages.Pages.write_rest.Goals as goal

pub returns-in_err-write_both-clause-copied : goal.returns-in_err-write_both-clause-copied
returns-in_err-write_both-clause-copied g c =
    let i = c.self.inside in
    let p = err_from_is_err_and c.from_residual.result c.from_residual.ensures.1 in
    let front = c.deref.result.now ++ c.ending.result.now in
    let parts = held-parts i.page.items i.ready i.ahead c.deref.result.now c.ending.result.now c.unwrap_or.result
    c.deref.ensures.value c.unwrap_or.ensures c.ending.ensures in
    let seen = subst (λ (k : Held). written_if_any k.ready ++ k.ahead ≡ front ++ i.ahead) c.self.view_is parts in
    rw p.1 (rest-cut c.args.self.now front i.ahead p.0 _ _ seen c.in_err-write_both.ensures.written)

pub returns-in_err-copy_rest-clause-copied : goal.returns-in_err-copy_rest-clause-copied
returns-in_err-copy_rest-clause-copied g c =
    let i = c.self.inside in
    let p = err_from_is_err_and c.from_residual-in_err-copy_rest.result c.from_residual-in_err-copy_rest.ensures.1 in
    let front = c.deref.result.now ++ c.ending.result.now in
    let parts = held-parts i.page.items i.ready i.ahead c.deref.result.now c.ending.result.now c.unwrap_or.result
    c.deref.ensures.value c.unwrap_or.ensures c.ending.ensures in
    let seen = subst (λ (k : Held). written_if_any k.ready ++ k.ahead ≡ front ++ i.ahead) c.self.view_is parts in
    let off : i.end ≡ false = cc in
    let on = subst (λ (k : Held). k.end ≡ false) c.self.view_is off in
    rw p.1 (rest-copied c.args.self.now (held (name_in i.input) c.clear.new.self.items None c.copy_rest.new.ahead i.end
    (name_in i.output)) front i.ahead c.copy_rest.new.ahead (Err p.0) _ _ _ seen on
    (λ l. ap (λ t. (t ++ c.copy_rest.new.ahead) ++ behind_held i.end l.unread) c.clear.ensures.items
    ∙ ap (λ d. c.copy_rest.new.ahead ++ behind_held d l.unread) off)
    c.in_ok-write_both.ensures.written c.in_err-copy_rest.ensures.copied)

pub returns-in_ok-copy_rest-clause-copied : goal.returns-in_ok-copy_rest-clause-copied
returns-in_ok-copy_rest-clause-copied g c =
    let i = c.self.inside in
    let front = c.deref.result.now ++ c.ending.result.now in
    let parts = held-parts i.page.items i.ready i.ahead c.deref.result.now c.ending.result.now c.unwrap_or.result
    c.deref.ensures.value c.unwrap_or.ensures c.ending.ensures in
    let seen = subst (λ (k : Held). written_if_any k.ready ++ k.ahead ≡ front ++ i.ahead) c.self.view_is parts in
    let off : i.end ≡ false = cc in
    let on = subst (λ (k : Held). k.end ≡ false) c.self.view_is off in
    rest-all c.args.self.now c.args.self.now front i.ahead c.copy_rest.new.ahead _ _ _ seen on
    c.in_ok-write_both.ensures.written c.in_ok-copy_rest.ensures.copied

pub returns-else-not-self-clause-copied : goal.returns-else-not-self-clause-copied
returns-else-not-self-clause-copied g c =
    let i = c.self.inside in
    let front = c.deref.result.now ++ c.ending.result.now in
    let parts = held-parts i.page.items i.ready i.ahead c.deref.result.now c.ending.result.now c.unwrap_or.result
    c.deref.ensures.value c.unwrap_or.ensures c.ending.ensures in
    let seen = subst (λ (k : Held). written_if_any k.ready ++ k.ahead ≡ front ++ i.ahead) c.self.view_is parts in
    let ends : i.end ≡ true = cc in
    rest-end c.args.self.now c.args.self.now front i.ahead _ _ seen
    (subst (λ (k : Held). k.end ≡ true) c.self.view_is ends)
    (c.self.invariant.none ends) c.in_ok-write_both.ensures.written

pub returns-in_err-copy_rest-clause-noted : goal.returns-in_err-copy_rest-clause-noted
returns-in_err-copy_rest-clause-noted g c =
    let off : c.self.inside.end ≡ false = cc in
    let on = subst (λ (k : Held). k.end ≡ false) c.self.view_is off in
    rw (on, off) (touches-more false false false _ _ _ (c.in_ok-write_both.ensures.noted false)
    c.in_err-copy_rest.ensures.noted)

pub returns-in_ok-copy_rest-clause-noted : goal.returns-in_ok-copy_rest-clause-noted
returns-in_ok-copy_rest-clause-noted g c =
    let off : c.self.inside.end ≡ false = cc in
    let on = subst (λ (k : Held). k.end ≡ false) c.self.view_is off in
    rw on (touches-more false false true _ _ _ (c.in_ok-write_both.ensures.noted false) c.in_ok-copy_rest.ensures.noted)
