-- The text of a certificate of the linear rules: lines that end with LF.
use Rattle.std.specs.Prelude.{ℕ, List, [], ◌∷◌, ◌++◌, codes, Option, Some, None}
use Rattle.std.specs.Fmt.{decimal}
use Rattle.teco_base.specs.Register.{register_name}
use Rattle.teco_certificate.specs.Text.{line, version_text, argument_line, needs_text}
use Rattle.teco_claimed.specs.declared.certificate.LinearCertificate.{LinearCertificate}
use Rattle.teco_claims.specs.Text.{text_of}

-- the line of the checksum, where there is one
abbrev pub checksum_line : Option ℕ → List ℕ
checksum_line None = []
checksum_line (Some sum) = line (codes "text " ++ decimal sum)

-- The lines that tell the macro, and then those of the claims.
abbrev pub linear_text : LinearCertificate → List ℕ
linear_text certificate =
    line (codes "TECO-CERT " ++ version_text certificate.argument)
    ++ (line (codes "entry " ++ register_name certificate.entry ∷ [])
    ++ (argument_line certificate.argument
    ++ (line (codes "rules 3")
    ++ (line (codes "needs " ++ needs_text certificate.needs)
    ++ (checksum_line certificate.checksum
    ++ text_of certificate.claims)))))
