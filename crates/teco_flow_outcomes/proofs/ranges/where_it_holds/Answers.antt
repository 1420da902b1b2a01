use Rattle.teco_flow_outcomes.proofs.Prelude.{refl, true, pos, negsuc, From, UpTo}
use Rattle.teco_flow_outcomes.proofs.Ranging.{in_only, in_both, holds_zero, holds_not_zero, holds_negative}
use Rattle.teco_flow_outcomes.proofs.Ranging.{holds_positive}
use Rattle.teco_flow_outcomes.proofs.Ranging.{holds_letter, holds_symbol, holds_digit, holds_letter_or_digit}
use Rattle.teco_flow_outcomes.proofs.Ranging.{holds_lower}
use Rattle.teco_flow_outcomes.proofs.Ranging.{holds_upper}
use Rattle.teco_flow_outcomes.proofs.ranges.where_it_holds.Goals as goal

pub returns-in-Zero : goal.returns-in-Zero
returns-in-Zero c = in_only c.args.test _ _ true c.only.result c.in-Zero.is c.only.ensures holds_zero

pub returns-in-NotZero : goal.returns-in-NotZero
returns-in-NotZero c =
    in_both c.args.test _ (From (pos 1)) (UpTo (negsuc 0)) true _ c.in-NotZero.is refl holds_not_zero

pub returns-in-Negative : goal.returns-in-Negative
returns-in-Negative c = in_only c.args.test _ _ true c.only-in-Negative.result c.in-Negative.is
    c.only-in-Negative.ensures holds_negative

pub returns-in-Positive : goal.returns-in-Positive
returns-in-Positive c = in_only c.args.test _ _ true c.only-in-Positive.result c.in-Positive.is
    c.only-in-Positive.ensures holds_positive

pub returns-in-Letter : goal.returns-in-Letter
returns-in-Letter c = in_only c.args.test _ _ true c.only-in-Letter.result c.in-Letter.is c.only-in-Letter.ensures
    holds_letter

pub returns-in-Symbol : goal.returns-in-Symbol
returns-in-Symbol c = in_only c.args.test _ _ true c.only-in-Symbol.result c.in-Symbol.is c.only-in-Symbol.ensures
    holds_symbol

pub returns-in-Digit : goal.returns-in-Digit
returns-in-Digit c = in_only c.args.test _ _ true c.only-in-Digit.result c.in-Digit.is c.only-in-Digit.ensures
    holds_digit

pub returns-in-LetterOrDigit : goal.returns-in-LetterOrDigit
returns-in-LetterOrDigit c = in_only c.args.test _ _ true c.only-in-LetterOrDigit.result c.in-LetterOrDigit.is
    c.only-in-LetterOrDigit.ensures holds_letter_or_digit

pub returns-in-Lower : goal.returns-in-Lower
returns-in-Lower c = in_only c.args.test _ _ true c.only-in-Lower.result c.in-Lower.is c.only-in-Lower.ensures
    holds_lower

pub returns-in-Upper : goal.returns-in-Upper
returns-in-Upper c = in_only c.args.test _ _ true c.only-in-Upper.result c.in-Upper.is c.only-in-Upper.ensures
    holds_upper
