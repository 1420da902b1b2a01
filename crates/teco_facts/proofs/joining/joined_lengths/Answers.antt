use Rattle.teco_facts.proofs.Prelude.{sym, ap, get_or, ◌∙◌, add-one, rules, arith, join_of, joined_lengths}
use Rattle.teco_facts.proofs.Joins.{lengths_go_on, joined_more, joined_refused}
use Rattle.teco_facts.proofs.joining.joined_lengths.Goals as goal

pub returns-in_err-joined : goal.returns-in_err-joined
returns-in_err-joined c =
    let refused = joined_refused join_of joined_lengths lengths_go_on _ _ _ _ _ _ c.in_err-joined.field-0.0
    (omega arith) (omega arith) (ap (get_or c.args.one.now c.loop-register.register) c.index-one-register.is)
    (ap (get_or c.args.two.now c.loop-register.register) c.index-two-register.is)
    (sym c.join_of.ensures ∙ c.in_err-joined.was) c.loop-register.invariant in
    rw refused (search rules)

pub loop-register-preserved : goal.loop-register-preserved
loop-register-preserved c =
    rw add-one
    (joined_more join_of joined_lengths lengths_go_on _ _ _ _ _ _ _ (omega arith) (omega arith)
    (ap (get_or c.args.one.now c.loop-register.register) c.index-one-register.is)
    (ap (get_or c.args.two.now c.loop-register.register) c.index-two-register.is)
    (sym c.join_of.ensures ∙ c.in_ok-joined.was) c.loop-register.invariant)
