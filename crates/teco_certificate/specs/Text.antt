-- The text of a certificate: lines that end with LF.
use Rattle.std.specs.Prelude.{ℕ, List, [], ◌∷◌, ◌++◌, codes, Bool, true, false, Option, Some, None}
use Rattle.std.specs.Fmt.{decimal}
use Rattle.std.specs.List.{flat_map}
use Rattle.teco_base.specs.Register.{register_name}
use Rattle.teco_base.specs.declared.bytes.TheConstants.{LF}
use Rattle.teco_verifier.specs.certificate.Fields.{Fields}
use Rattle.teco_poly.specs.Text.{text}
use Rattle.teco_model.specs.Macros.{ArgumentRange, Needs}
use Rattle.teco_verifier.specs.certificate.ArgumentText.{range_text}
use Rattle.teco_verifier.specs.table.Choices.{LongerText, Chosen}

abbrev pub line : List ℕ → List ℕ
line words = words ++ LF ∷ []

-- the files that must be open: I an input, O an output
abbrev pub letters_of : Bool → Bool → List ℕ
letters_of false false = codes "-"
letters_of true false = codes "I"
letters_of false true = codes "O"
letters_of true true = codes "IO"

abbrev pub needs_text : Needs → List ℕ
needs_text needs = letters_of needs.input needs.output

-- a register and the polynomial of its text, as `B=3*N`
abbrev pub longer_text : LongerText → List ℕ
longer_text longer = register_name longer.register ∷ (codes "=" ++ text longer.text)

abbrev pub behind_comma : LongerText → List ℕ
behind_comma longer = codes "," ++ longer_text longer

-- the texts that may be longer, with a comma between each two
abbrev pub longer_texts : List LongerText → List ℕ
longer_texts [] = codes "-"
longer_texts (longer ∷ others) = longer_text longer ++ flat_map behind_comma others

abbrev pub kept_text : Bool → List ℕ
kept_text true = codes "kept"
kept_text false = codes "lost"

-- what is chosen for a <: its number, how much is held, whether it is kept, and the texts
abbrev pub chosen_text : Chosen → List ℕ
chosen_text chosen =
    decimal chosen.begin ++ (codes " held " ++ (text chosen.held ++ (codes " "
    ++ (kept_text chosen.kept ++ (codes " texts " ++ longer_texts chosen.longer)))))

abbrev pub loop_line : Chosen → List ℕ
loop_line chosen = line (codes "loop " ++ chosen_text chosen)

-- a certificate for an argument is of version 2, and has the least and the greatest
abbrev pub version_text : Option ArgumentRange → List ℕ
version_text None = codes "1"
version_text (Some range) = codes "2"

abbrev pub argument_line : Option ArgumentRange → List ℕ
argument_line None = []
argument_line (Some range) = line (codes "argument " ++ range_text range)

abbrev pub certificate_text : Fields → List ℕ
certificate_text fields =
    line (codes "TECO-CERT " ++ version_text fields.argument)
    ++ (line (codes "entry " ++ register_name fields.entry ∷ [])
    ++ (argument_line fields.argument
    ++ (line (codes "needs " ++ needs_text fields.needs)
    ++ (line (codes "commands " ++ text fields.commands)
    ++ (line (codes "size " ++ text fields.size)
    ++ (flat_map loop_line fields.loops
    ++ line (codes "end")))))))
