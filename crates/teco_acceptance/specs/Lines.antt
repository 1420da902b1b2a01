-- The line that a refusal is printed as.
use Rattle.std.specs.Prelude.{ℕ, List, [], ◌∷◌, ◌++◌, codes, Option, Some, None}
use Rattle.std.specs.Char.{encode_utf8}
use Rattle.std.specs.Fmt.{decimal}
use Rattle.teco_base.specs.Register.{register_name}
use Rattle.teco_base.specs.declared.bytes.TheConstants.{LF}
use Rattle.teco_explain.specs.Numbers.{number_of}
use Rattle.teco_verifier.specs.declared.refusal.RefusalReason.{RefusalReason as Why}
use Rattle.teco_verifier.specs.declared.refusal.RefusalReason.TheVariants.{Certificate}
use Rattle.teco_verify.specs.declared.refusal.Refusal.{Refusal}
use Rattle.teco_verify.specs.declared.refusal.Refusal.TheVariants.{No, Memory}
use Rattle.teco_acceptance.specs.declared.verdict.Verdict.{Verdict}

-- the register of the text, if there is one, and the place in it; of a certificate neither is told
abbrev pub where_text : Why → Option ℕ → ℕ → List ℕ
where_text Certificate register place = []
where_text why None place = codes " at " ++ decimal place
where_text why (Some register) place =
    codes " in " ++ (encode_utf8 (register_name register) ++ (codes " at " ++ decimal place))

-- the number of the reason, and where it is so
abbrev pub verdict_text : Verdict → List ℕ
verdict_text verdict =
    codes "refused X" ++ (decimal (number_of verdict.why)
    ++ where_text verdict.why verdict.register verdict.place)

-- the verdict of a refusal; none for want of memory
abbrev pub verdict_of : Refusal → Option Verdict
verdict_of (No why register place) = Some (record { why = why; register = register; place = place })
verdict_of Memory = None

-- the line of a refusal; none for want of memory
abbrev pub line_of : Option Verdict → List ℕ
line_of None = []
line_of (Some verdict) = verdict_text verdict ++ LF ∷ []

abbrev pub refused_line : Refusal → List ℕ
refused_line refusal = line_of (verdict_of refusal)
