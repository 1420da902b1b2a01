use Rattle.teco_claims.proofs.Prelude.{◌++◌, ◌∙◌, star_text, name_text}
use Rattle.teco_claims.proofs.Terms.{parts_of_unit, ends_power, star_read}
use Rattle.teco_claims.proofs.reading.unit_at.Goals as goal

pub returns-clause-text : goal.returns-clause-text
returns-clause-text c = λ n m rest small is ends e.
    let power =
    c.power_at-power.ensures.text n (star_text n m ++ (name_text m ++ rest)) small (ends_power n m rest ends)
    (e ∙ parts_of_unit n m rest) in
    let star =
    star_read n m rest c.power_at-power.result.1.now c.behind.result.now c.behind.ensures.word.0 c.behind.ensures.word.1
    ends power.1 in
    let measure = c.name_at-measure.ensures.text m rest is ends star in
    (power.0, measure.0, measure.1)
