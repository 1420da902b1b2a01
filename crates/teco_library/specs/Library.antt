-- A library: a text whose elements are comments, ESC and ^U without a colon, which set the text of each register at
-- most once. A comment at its first place may declare the argument of a register.
use Rattle.std.specs.Prelude.{◌≡◌, ℕ, ◌<◌, ◌≤◌, List, [], ◌∷◌, ◌++◌, map, count_by, find, Bool, true, false, ◌==◌}
use Rattle.std.specs.Prelude.{◌&&◌, Option, Some, None, option_map, option_and_then}
use Rattle.std.specs.List.{AllPass, range_with_len}
use Rattle.std.specs.Option.{option_map_or}
use Rattle.teco_base.specs.declared.TheConstants.{REGISTERS}
use Rattle.teco_model.specs.declared.kind.Kind.{Kind}
use Rattle.teco_model.specs.declared.kind.Kind.TheVariants as kind
use Rattle.teco_model.specs.declared.kind.Argument.TheVariants as argument
use Rattle.teco_model.specs.declared.kind.Command.TheVariants as command
use Rattle.teco_model.specs.declared.kind.Flow.TheVariants as flow
use Rattle.teco_model.specs.declared.kind.Storage.TheVariants as storage
use Rattle.teco_model.specs.Ahead.{Reading, Whole, Faulty, place_of, readings}
use Rattle.teco_library.specs.Header.{Declared, Declares, HasNoOtherHeader, first_comment, range_of}
use Rattle.teco_model.specs.Macros.{ArgumentRange}

-- the register whose text an element sets
abbrev pub register_set : Kind → Option ℕ
register_set (kind.Command (command.Storage (storage.SetText r))) = Some r
register_set k = None

-- comments, ESC and ^U
abbrev pub is_of_library : Kind → Bool
is_of_library (kind.Flow flow.Comment) = true
is_of_library (kind.Argument argument.DropAll) = true
is_of_library (kind.Command (command.Storage (storage.SetText r))) = true
is_of_library k = false

-- These stand in a library without a colon; a fault is no element.
abbrev pub is_allowed : Reading → Bool
is_allowed (Whole e) = is_of_library e.kind && (e.colons == 0)
is_allowed (Faulty c place next) = false

-- does it set the text of this register?
abbrev pub sets : ℕ → Reading → Bool
sets q (Whole e) = option_map_or (λ r. r == q) (register_set e.kind) false
sets q (Faulty c place next) = false

-- what is read of a library, or of the front of one
pub record AreOfLibrary (readings : List Reading) : Type 0 where
  pub allowed : AllPass is_allowed readings
  pub once : (q : ℕ) → q < REGISTERS → count_by (sets q) readings ≤ 1
  pub header : HasNoOtherHeader readings

abbrev pub IsLibrary : List ℕ → Type 0
IsLibrary text = AreOfLibrary (readings text 0)

-- The first element that is not allowed stands at a place: what is read before it is of a library, and with it is not.
pub record IsFirstNotAllowed (text : List ℕ) (place : ℕ) : Type 0 where
  pub before : List Reading
  pub reading : Reading
  pub behind : List Reading
  pub read : readings text 0 ≡ before ++ reading ∷ behind
  pub stands : place_of reading ≡ place
  pub allowed : AreOfLibrary before
  pub refused : ¬ AreOfLibrary (before ++ reading ∷ [])

-- its own text
abbrev pub own_text : Reading → List ℕ
own_text (Whole e) = e.text
own_text (Faulty c place next) = []

-- the text that a register gets
abbrev pub text_set : List Reading → ℕ → Option (List ℕ)
text_set readings q = option_map own_text (find (sets q) readings)

-- the texts of all registers, by their places
unfoldable pub texts_set : List Reading → List (Option (List ℕ))
texts_set readings = map (text_set readings) (range_with_len 0 REGISTERS)

abbrev pub texts_of : List ℕ → List (Option (List ℕ))
texts_of text = texts_set (readings text 0)

-- What a library gives: the texts of the registers, by their places, and the argument that it declares, if it does.
pub record LibraryFile : Type 0 where
  pub texts : List (Option (List ℕ))
  pub argument : Option Declared

-- the arguments that a register may be called with, if these are declared
abbrev pub argument_of : LibraryFile → ℕ → Option ArgumentRange
argument_of library q = option_and_then (range_of q) library.argument

-- what a text gives, if it is a library
pub record IsGivenBy (text : List ℕ) (library : LibraryFile) : Type 0 where
  pub texts : library.texts ≡ texts_of text
  pub argument : Declares (first_comment (readings text 0)) library.argument
