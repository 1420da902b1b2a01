use Rattle.teco_flow_outcomes.proofs.Prelude.{false, pos, refl, From, UpTo}
use Rattle.teco_flow_outcomes.proofs.Ranging.{in_both, in_only, digit_fails, negative_fails, not_zero_fails}
use Rattle.teco_flow_outcomes.proofs.Ranging.{positive_fails, zero_fails}
use Rattle.teco_flow_outcomes.proofs.ranges.where_it_fails.Goals as goal

pub returns-in-Zero : goal.returns-in-Zero
returns-in-Zero c = zero_fails c.args.test c.where_it_holds.result c.in-Zero.is c.where_it_holds.ensures

pub returns-in-NotZero : goal.returns-in-NotZero
returns-in-NotZero c =
    not_zero_fails c.args.test c.where_it_holds-in-NotZero.result c.in-NotZero.is c.where_it_holds-in-NotZero.ensures

pub returns-in-Negative : goal.returns-in-Negative
returns-in-Negative c = in_only c.args.test _ _ false c.only.result c.in-Negative.is c.only.ensures negative_fails

pub returns-in-Positive : goal.returns-in-Positive
returns-in-Positive c =
    in_only c.args.test _ _ false c.only-in-Positive.result c.in-Positive.is c.only-in-Positive.ensures positive_fails

pub returns-in-Digit : goal.returns-in-Digit
returns-in-Digit c = in_both c.args.test _ (UpTo (pos 47)) (From (pos 58)) false _ c.in-Digit.is refl digit_fails
