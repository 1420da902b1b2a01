-- What a search text says. It is read from the left, and the fault that is met first is the code.
use Rattle.std.specs.Prelude.{ℕ, zero, suc, ◌+◌, List, [], ◌∷◌, length, map, flat_map, fold, Option, Some, None}
use Rattle.std.specs.Prelude.{Result, Ok, Err, ok_or, option_map, Bool, not, ◌==◌, ◌&&◌, if◌then◌else◌}
use Rattle.teco_base.specs.declared.code.Code.{Code}
use Rattle.teco_base.specs.declared.code.Code.TheVariants as code
use Rattle.teco_base.specs.Bytes.{to_upper, is_letter, control}
use Rattle.teco_base.specs.Register.{register_of}
use Rattle.teco_model.specs.Checked.{◌>>=◌}
use Rattle.teco_model.specs.Registers.{Registers, pair_of}
use Rattle.teco_model.specs.declared.pattern.Class.{Class}
use Rattle.teco_model.specs.declared.pattern.Class.TheVariants as class
use Rattle.teco_model.specs.declared.pattern.Item.{Item}
use Rattle.teco_model.specs.declared.pattern.Item.TheVariants as item
use Rattle.teco_model.specs.declared.pattern.Part.{Part}
use Rattle.teco_model.specs.declared.pattern.Part.TheVariants as part

-- what is looked for: elements in succession
abbrev pub Pattern : Type 0
Pattern = List Item

-- Each of what follows reads the front of a text, and gives what it read with the text behind it.

-- a byte as it stands; where the text has ended, it is ICE
abbrev pub byte : List ℕ → Result (ℕ × List ℕ) Code
byte [] = Err code.Ice
byte (b ∷ rest) = Ok (b, rest)

-- behind a caret: a byte that makes a control byte with it; any other is ICE
abbrev pub caret : List ℕ → Result (ℕ × List ℕ) Code
caret text = do
  c ← byte text
  b ← ok_or (control c.0) code.Ice
  Ok (b, c.1)

-- a byte; a caret and a byte are a control byte
abbrev pub sign : List ℕ → Result (ℕ × List ℕ) Code
sign text = do
  b ← byte text
  if b.0 == 94 then caret b.1 else Ok b

-- behind ^Q: a byte, which is a literal as it stands
abbrev pub quoted : List ℕ → Result (Class × List ℕ) Code
quoted text = do
  b ← byte text
  Ok (class.Literal b.0, b.1)

-- the class that a letter names behind ^E: A D L R V W
abbrev pub letter_class : ℕ → Option Class
letter_class b =
    if b == 65 then Some class.Letter
    else if b == 68 then Some class.Digit
    else if b == 76 then Some class.LineEnd
    else if b == 82 then Some class.LetterOrDigit
    else if b == 86 then Some class.Lower
    else if b == 87 then Some class.Upper
    else None

-- behind ^E: such a letter in either case; any other byte is ICE
abbrev pub lettered : List ℕ → Result (Class × List ℕ) Code
lettered text = do
  b ← byte text
  c ← ok_or (letter_class (to_upper b.0)) code.Ice
  Ok (c, b.1)

-- behind a sign: the class that it begins. ^X ^S ^Q ^E begin one, ^N none; any other is a literal
abbrev pub class_from : ℕ → List ℕ → Result (Class × List ℕ) Code
class_from b rest =
    if b == 24 then Ok (class.Any, rest)
    else if b == 19 then Ok (class.Separator, rest)
    else if b == 17 then quoted rest
    else if b == 5 then lettered rest
    else if b == 14 then Err code.Ice
    else Ok (class.Literal b, rest)

-- one character that is of a class
abbrev pub positive : Result (Class × List ℕ) Code → Result (Part × List ℕ) Code
positive read = do
  c ← read
  Ok (part.Item (item.Is c.0), c.1)

-- behind ^N: the class that a character is not of
abbrev pub negated : List ℕ → Result (Part × List ℕ) Code
negated text = do
  b ← sign text
  c ← class_from b.0 b.1
  Ok (part.Item (item.IsNot c.0), c.1)

-- behind ^EQ: the name of a register; any other byte is IQN
abbrev pub register_text : List ℕ → Result (Part × List ℕ) Code
register_text text = do
  b ← byte text
  r ← ok_or (register_of b.0) code.Iqn
  Ok (part.Register r, b.1)

-- behind ^E: Q, S or the letter of a class
abbrev pub extended : List ℕ → Result (Part × List ℕ) Code
extended text = do
  b ← byte text
  if to_upper b.0 == 81 then register_text b.1
      else if to_upper b.0 == 83 then Ok (part.Item item.Blanks, b.1)
      else positive (lettered text)

-- behind a sign: the part that begins with it
abbrev pub part_from : ℕ → List ℕ → Result (Part × List ℕ) Code
part_from b rest =
    if b == 14 then negated rest
    else if b == 5 then extended rest
    else positive (class_from b rest)

-- the part at the front
unfoldable pub part_at : List ℕ → Result (Part × List ℕ) Code
part_at text = do
  b ← sign text
  part_from b.0 b.1

-- the parts of a text, from the left; each takes a byte at least, so there are no more than bytes
unfoldable pub parts_within : ℕ → List ℕ → Result (List Part) Code
parts_within zero text = Ok []
parts_within (suc most) [] = Ok []
parts_within (suc most) (b ∷ text) = do
  first ← part_at (b ∷ text)
  others ← parts_within most first.1
  Ok (first.0 ∷ others)

unfoldable pub parts : List ℕ → Result (List Part) Code
parts text = parts_within (length text) text

-- What is read is the same in each search mode; what it stands for is not.

-- a literal byte: unless the search is exact, a letter stands for both its cases
abbrev pub literal : Bool → ℕ → Class
literal exact b =
    if is_letter b && not exact then class.EitherCase (to_upper b) else class.Literal b

-- a class, and an element, as the mode has them
abbrev pub class_of : Bool → Class → Class
class_of exact (class.Literal b) = literal exact b
class_of exact c = c

abbrev pub item_of : Bool → Item → Item
item_of exact (item.Is c) = item.Is (class_of exact c)
item_of exact (item.IsNot c) = item.IsNot (class_of exact c)
item_of exact item.Blanks = item.Blanks

-- each byte of a register's text is a literal
abbrev pub literals : Bool → List ℕ → List Item
literals exact text = map (λ b. item.Is (literal exact b)) text

-- the elements that a part stands for
abbrev pub items_of : Registers → Bool → Part → List Item
items_of registers exact (part.Item i) = item_of exact i ∷ []
items_of registers exact (part.Register r) = literals exact (pair_of r registers).text

-- the pattern that a text says
abbrev pub pattern : Registers → Bool → List ℕ → Result Pattern Code
pattern registers exact text = do
  ps ← parts text
  Ok (flat_map (items_of registers exact) ps)

-- The least length of a match: 1 for each element. With the text of a register there is none.
abbrev pub with_part : Option ℕ → Part → Option ℕ
with_part least (part.Item i) = option_map (λ n. n + 1) least
with_part least (part.Register r) = None

abbrev pub minimum : List ℕ → Result (Option ℕ) Code
minimum text = do
  ps ← parts text
  Ok (fold with_part (Some 0) ps)
