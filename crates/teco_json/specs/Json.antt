-- Objects of JSON: how texts, numbers and truths stand in them, and members.
use Rattle.std.specs.Prelude.{ℕ, ◌+◌, ◌/◌, ◌%◌, List, [], ◌∷◌, ◌++◌, codes, Bool, true, false, not, ◌&&◌, ◌||◌, ◌==◌}
use Rattle.std.specs.Prelude.{nat_lt, if◌then◌else◌, Option, Some, None}
use Rattle.std.specs.Option.{option_copied}
use Rattle.std.specs.Fmt.{decimal}
use Rattle.std.specs.List.{flat_map}
use Rattle.std.specs.Str.{is_utf8}
use Rattle.teco_json.specs.declared.members.Member.{Member}
use Rattle.teco_json.specs.declared.members.Value.{Value}
use Rattle.teco_json.specs.declared.members.Value.TheVariants.{Text, Number, Truth}
use Rattle.teco_json.specs.declared.members.Value.TheVariants.{MaybeText, MaybeByte, MaybeNumber, MaybeNumbers}

-- ---- texts
abbrev pub hex_digit : ℕ → ℕ
hex_digit digit = if nat_lt digit 10 then 48 + digit else 87 + digit

-- a byte by its number, with a high half before it
abbrev pub numbered : List ℕ → ℕ → List ℕ
numbered high byte = codes "\\u" ++ (high ++ hex_digit (byte / 16) ∷ hex_digit (byte % 16) ∷ [])

-- A quotation mark and a backslash stand behind a backslash, and controls are numbered; in what is no UTF-8 a byte
-- beyond ASCII is, too, from DC80 to DCFF.
abbrev pub escaped : Bool → ℕ → List ℕ
escaped is_utf8 byte =
    if byte == 34 || byte == 92 then 92 ∷ byte ∷ []
    else (if nat_lt byte 32 || byte == 127 then numbered (codes "00") byte
    else (if nat_lt 127 byte && not is_utf8 then numbered (codes "dc") byte
    else byte ∷ []))

-- bytes between quotation marks
abbrev pub quoted_text : List ℕ → List ℕ
quoted_text bytes = 34 ∷ (flat_map (escaped (is_utf8 bytes)) bytes ++ 34 ∷ [])

-- ---- values
abbrev pub truth_text : Bool → List ℕ
truth_text true = codes "true"
truth_text false = codes "false"

-- what is not there is null
abbrev pub text_or_null : Option (List ℕ) → List ℕ
text_or_null None = codes "null"
text_or_null (Some text) = quoted_text text

abbrev pub byte_or_null : Option ℕ → List ℕ
byte_or_null None = codes "null"
byte_or_null (Some byte) = quoted_text (byte ∷ [])

abbrev pub number_or_null : Option ℕ → List ℕ
number_or_null None = codes "null"
number_or_null (Some number) = decimal number

-- a number behind another
abbrev pub next_number : ℕ → List ℕ
next_number number = codes ", " ++ decimal number

-- numbers in brackets, with a comma between each two
abbrev pub array_text : List ℕ → List ℕ
array_text [] = codes "[]"
array_text (number ∷ numbers) = codes "[" ++ (decimal number ++ (flat_map next_number numbers ++ codes "]"))

abbrev pub array_or_null : Option (List ℕ) → List ℕ
array_or_null None = codes "null"
array_or_null (Some numbers) = array_text numbers

abbrev pub value_text : Value → List ℕ
value_text (Text bytes) = quoted_text bytes.now
value_text (Number number) = decimal number
value_text (Truth is_so) = truth_text is_so
value_text (MaybeText text) = text_or_null (option_copied text)
value_text (MaybeByte byte) = byte_or_null byte
value_text (MaybeNumber number) = number_or_null number
value_text (MaybeNumbers numbers) = array_or_null (option_copied numbers)

-- ---- objects
-- a key, and the text of its value
pub record Stated : Type 0 where
  pub key : List ℕ
  pub value : List ℕ

abbrev pub stated : List ℕ → List ℕ → Stated
stated key value = record { key = key; value = value }

abbrev pub member_seen : Member → Stated
member_seen member = record { key = member.key.now; value = value_text member.value }

abbrev pub member_text : Stated → List ℕ
member_text member = quoted_text member.key ++ (codes ": " ++ member.value)

abbrev pub next_member : Stated → List ℕ
next_member member = codes ", " ++ member_text member

-- members in braces, with a comma between each two, in a line
abbrev pub object_text : List Stated → List ℕ
object_text [] = codes "{}\n"
object_text (member ∷ members) = codes "{" ++ (member_text member ++ (flat_map next_member members ++ codes "}\n"))
