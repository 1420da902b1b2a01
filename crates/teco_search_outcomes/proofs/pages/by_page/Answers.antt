use Rattle.teco_search_outcomes.proofs.Prelude.{◌≡◌, ◌∙◌, true, if◌then◌else◌, arith, subst, sym, common_steps}
use Rattle.teco_search_outcomes.proofs.Prelude.{IfOk-weaker, page_turned, page_written, Writes}
use Rattle.teco_search_outcomes.proofs.pages.by_page.Goals as goal

pub returns-in-Some-value : goal.returns-in-Some-value
returns-in-Some-value c =
    IfOk-weaker c.write_range.result _ _
    (λ all told.
    told (if c.args.turns then page_turned else page_written) c.args.taken c.in-Some.is c.in-Some-value.is)
    c.write_range.ensures

pub returns-then-turns : goal.returns-then-turns
returns-then-turns c =
    let is : c.is_number.result ≡ true = grind (arith, common_steps) in
    IfOk-weaker c.turn_one.result _ _
    (λ all told.
    subst (λ b. Writes (if b then page_turned else page_written) c.args.taken c.args.case.now all) (sym c.if-turns.true)
    (told c.args.taken (record {
      first = c.in-None.is;
      count = λ n v. sym (c.in_ok-count-in-None.ensures n v) ∙ c.is_number.ensures is n v;
    })))
    c.turn_one.ensures

pub returns : goal.returns
returns c =
    let is : c.is_number.result ≡ true = grind (arith, common_steps) in
    IfOk-weaker c.write_one.result _ _
    (λ all told.
    subst (λ b. Writes (if b then page_turned else page_written) c.args.taken c.args.case.now all)
    (sym c.if-turns.false)
    (told c.args.taken (record {
      first = c.in-None.is;
      count = λ n v. sym (c.in_ok-count-in-None.ensures n v) ∙ c.is_number.ensures is n v;
    })))
    c.write_one.ensures
