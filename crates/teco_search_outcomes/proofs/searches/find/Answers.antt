use Rattle.teco_search_outcomes.proofs.Prelude.{rules, ◌==◌, IfOk-weaker}
use Rattle.teco_search_outcomes.proofs.Searching.{finds}
use Rattle.teco_search_outcomes.proofs.searches.find.Goals as goal

pub returns : goal.returns
returns c =
    IfOk-weaker c.changed.result _ _
    (λ made changes.
    finds c.args.case.now made c.args.parts.now c.args.direction c.known_of.result c.last_codes-codes.result
    (c.last_codes-codes.result.least == c.last_codes-codes.result.most) c.in_ok-is_later.is_later c.in_ok-least.least
    c.in_ok-from.from c.in_ok-to.to _ c.in_ok-more.more.items c.known_of.ensures
    (record {
      ends = c.last_codes-codes.ensures;
      alone = search rules;
      begins = c.in_ok-is_later.ensures;
      from_is = c.in_ok-from.ensures;
      to_is = c.in_ok-to.ensures;
    })
    c.in_ok-more.ensures (search rules) c.in_ok-least.ensures changes)
    c.changed.ensures
