use Rattle.teco_claims.proofs.Prelude.{◌≡◌, true, false, is_ascii_digit, begins}
use Rattle.teco_claims.proofs.Terms.{factor_none, factor_some}
use Rattle.teco_claims.proofs.reading.factor_at.Goals as goal

pub returns-then-not-has_digit-clause-text : goal.returns-then-not-has_digit-clause-text
returns-then-not-has_digit-clause-text c = λ f has rest is ends e.
    let none : begins is_ascii_digit c.args.text.now ≡ false = cc in
    factor_none f rest c.args.text.now is has none e

pub returns-clause-text : goal.returns-clause-text
returns-clause-text c = λ f has rest is ends e.
    let some : begins is_ascii_digit c.args.text.now ≡ true = cc in
    factor_some f rest c.args.text.now is c.fraction_at.result.0 c.fraction_at.result.1.now c.behind.result.now
    c.behind.ensures.word.0 c.behind.ensures.word.1
    (λ r part g. c.fraction_at.ensures.text f r is.numerator is.divisor part g) has ends some e
