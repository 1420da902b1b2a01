-- Straight text: each element is ESC, a comment, or an I, with @ or without.
use Rattle.std.specs.Prelude.{◌≡◌, ℕ, ◌+◌, ◌≤◌, ◌<◌, List, [], ◌∷◌, length, Some, None, Ok, ⊤}
use Rattle.std.specs.List.{AllByRecursion}
use Rattle.teco_base.specs.declared.TheConstants.{REGISTERS}
use Rattle.teco_model.specs.declared.kind.Argument.TheVariants.{DropAll}
use Rattle.teco_model.specs.declared.kind.Command.TheVariants as command
use Rattle.teco_model.specs.declared.kind.Flow.TheVariants as flow
use Rattle.teco_model.specs.declared.kind.Insertion.TheVariants.{Text}
use Rattle.teco_model.specs.declared.kind.Kind.{Kind}
use Rattle.teco_model.specs.declared.kind.Kind.TheVariants as kind
use Rattle.teco_model.specs.Element.{Element, element_at}
use Rattle.teco_model.specs.Macros.{Library, macro}

-- ESC, a comment, and I, but not TAB
abbrev pub IsStraightKind : Kind → Type 0
IsStraightKind (kind.Argument DropAll) = ⊤
IsStraightKind (kind.Flow flow.Comment) = ⊤
IsStraightKind (kind.Command (command.Insertion Text)) = ⊤
IsStraightKind k = ⊥

abbrev pub IsStraightElement : Element → Type 0
IsStraightElement e = IsStraightKind e.kind

-- how much an element inserts
abbrev pub inserted_by_kind : Kind → List ℕ → ℕ
inserted_by_kind (kind.Command (command.Insertion Text)) text = length text
inserted_by_kind k text = 0

abbrev pub inserted_by : Element → ℕ
inserted_by e = inserted_by_kind e.kind e.text

abbrev pub inserted : List Element → ℕ
inserted [] = 0
inserted (e ∷ elements) = inserted_by e + inserted elements

-- A text is read from a place on as these elements, to its end and without a fault.
abbrev pub AreRead : List ℕ → ℕ → List Element → Type 0
AreRead text place [] = element_at text place ≡ Ok None
AreRead text place (e ∷ elements) = (element_at text place ≡ Ok (Some e)) × AreRead text e.next elements

-- how many elements a straight text has at most: with its call and its return there are no more than 4,096
abbrev pub MOST_STRAIGHT : ℕ
MOST_STRAIGHT = 4094

-- The text of an entry is straight.
pub record IsStraight (library : Library) (entry : ℕ) (text : List ℕ) (elements : List Element) : Type 0 where
  pub register : entry < REGISTERS
  pub has_text : macro library entry ≡ Some text
  pub read : AreRead text 0 elements
  pub straight : AllByRecursion IsStraightElement elements
  pub few : length elements ≤ MOST_STRAIGHT
