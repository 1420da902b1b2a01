use Rattle.teco_check.proofs.Prelude.{sym, ◌∙◌, ◌-◌, rules, arith, node_at}
use Rattle.teco_check.proofs.Further.{round_more, round_refused, round_overflows, refused_inside, none_behind}
use Rattle.teco_check.proofs.printed.turns_round.Goals as goal

pub returns-in_err-turns_at : goal.returns-in_err-turns_at
returns-in_err-turns_at c =
    let iterations = (node_at c.args.nodes.now c.args.number).stand.iterations in
    let refused = round_refused c.args.table.now iterations c.loop-at.at c.in-Some.begin
    (sym c.iteration.ensures ∙ c.in-Some.is) (omega arith) c.loop-at.rounds c.in_err-turns_at.field-0.0
    c.loop-at.invariant (sym c.turns_at.ensures ∙ c.in_err-turns_at.was) in
    rw (refused_inside c.args.table.now iterations (c.loop-at.at - 1) c.in_err-turns_at.field-0.0 refused)
    (search rules)

pub returns-in_err-rounds : goal.returns-in_err-rounds
returns-in_err-rounds c =
    let iterations = (node_at c.args.nodes.now c.args.number).stand.iterations in
    let refused = round_overflows c.args.table.now iterations c.loop-at.at c.in-Some.begin
    (sym c.iteration.ensures ∙ c.in-Some.is) (omega arith) c.loop-at.rounds c.in_ok-turns_at.field-0
    c.in_err-rounds.field-0.0 c.loop-at.invariant (sym c.turns_at.ensures ∙ c.in_ok-turns_at.was)
    (sym c.product_of.ensures ∙ c.in_err-rounds.was) in
    rw (refused_inside c.args.table.now iterations (c.loop-at.at - 1) c.in_err-rounds.field-0.0 refused) (search rules)

pub loop-at-preserved-in-Some : goal.loop-at-preserved-in-Some
loop-at-preserved-in-Some c =
    let iterations = (node_at c.args.nodes.now c.args.number).stand.iterations in
    round_more c.args.table.now iterations c.loop-at.at c.in-Some.begin (sym c.iteration.ensures ∙ c.in-Some.is)
    (omega arith) c.loop-at.rounds c.in_ok-turns_at.field-0 c.in_ok-rounds.rounds c.loop-at.invariant
    (sym c.turns_at.ensures ∙ c.in_ok-turns_at.was) (sym c.product_of.ensures ∙ c.in_ok-rounds.was)

pub loop-at-preserved : goal.loop-at-preserved
loop-at-preserved c =
    let iterations = (node_at c.args.nodes.now c.args.number).stand.iterations in
    absurd (omega (
      arith,
      none_behind iterations (c.loop-at.at - 1) (sym c.iteration.ensures ∙ c.in_default.is),
      c.depth-at.ensures,
    ))
