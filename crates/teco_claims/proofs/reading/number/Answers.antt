use Rattle.teco_claims.proofs.Prelude.{sym, ◌∙◌, subst, ap, arith}
use Rattle.std.proofs.lemmas.Fmt.{IsAscii-decimal_wide, parse-decimal_wide}
use Rattle.std.proofs.lemmas.Str.{IsUtf8-from_ascii}
use Rattle.std.specs.Result.{result_unwrap_or}
use Rattle.std.specs.Str.{IsUtf8}
use Rattle.teco_claims.proofs.reading.number.Goals as goal

pub returns-in_default : goal.returns-in_default
returns-in_default c = λ n small e.
    absurd (c.in_default.ensures.cases.0
    (subst IsUtf8 (sym e) (IsUtf8-from_ascii _ (IsAscii-decimal_wide n (omega arith)))))

pub returns : goal.returns
returns c = λ n small e.
    c.unwrap_or.ensures ∙ ap (λ r. result_unwrap_or r 0)
    (parse-decimal_wide 128 n c.in-Ok.digits.now c.parse.result small (omega arith) (c.in-Ok.ensures.cases.0 ∙ e)
    c.parse.ensures.value.0)
