use Rattle.teco_search_outcomes.proofs.Prelude.{◌≡◌, ◌≤◌, ◌∙◌, ap, arith, false, pos, refl, rules, subst, sym}
use Rattle.teco_search_outcomes.proofs.Prelude.{nat_tests, IfOk-weaker, KnownMatch}
use Rattle.std.proofs.Common.{nat_eq, nat_lt}
use Rattle.teco_search_outcomes.proofs.Searching.{replaces}
use Rattle.teco_search_outcomes.proofs.searches.replace.Goals as goal

pub returns : goal.returns
returns c =
    let start = c.last_start-start.result in
    let known : KnownMatch = record {
      direction = c.known_of.result.direction;
      is_exact = c.known_of.result.is_exact;
      ends_line = false;
      stays_in_line = nat_eq start 0;
    } in
    IfOk-weaker c.changed.result _ _
    (λ made changes.
    replaces c.args.case.now made c.args.parts.now c.args.direction known (nat_lt 0 start) c.args.text.now
    c.in_ok-least.least c.in_ok-long.long c.in_ok-last.last _ c.in_ok-more.more.items c.known_of.ensures.towards
    c.known_of.ensures.exact
    (record {
      closes = refl;
      stays = λ so. let none : start ≡ 0 = grind (arith, nat_tests) in sym c.last_start-start.ensures ∙ none;
      starts = λ so.
          let one : 1 ≤ start = grind (arith, nat_tests) in subst (λ k. 1 ≤ k) c.last_start-start.ensures one;
    })
    c.in_ok-more.ensures (search rules) c.in_ok-least.ensures c.in_ok-long.ensures
    (λ n v. c.in_ok-last.ensures n v ∙ ap pos c.last_start-start.ensures) changes)
    c.changed.ensures
