use Rattle.teco_certificate.proofs.Prelude.{sym, ◌∙◌, subst, ap}
use Rattle.std.proofs.lemmas.Fmt.{IsAscii-decimal, parse-decimal}
use Rattle.std.proofs.lemmas.Str.{IsUtf8-from_ascii}
use Rattle.std.specs.Result.{result_unwrap_or}
use Rattle.std.specs.Str.{IsUtf8}
use Rattle.teco_certificate.proofs.lines.number.Goals as goal

pub returns-in_default : goal.returns-in_default
returns-in_default c = λ n small e.
    absurd (c.in_default.ensures.cases.0 (subst IsUtf8 (sym e) (IsUtf8-from_ascii _ (IsAscii-decimal n small))))

pub returns : goal.returns
returns c = λ n small e.
    c.unwrap_or.ensures ∙ ap (λ r. result_unwrap_or r 0)
    (parse-decimal 64 n c.in-Ok.digits.now c.parse.result small small
    (c.in-Ok.ensures.cases.0 ∙ e) c.parse.ensures.value.0)
