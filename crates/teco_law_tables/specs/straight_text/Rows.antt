-- A straight text worked by hand.
use Rattle.std.specs.Prelude.{◌≡◌, ℕ, List, [], ◌∷◌, ◌++◌, codes, false}
use Rattle.teco_base.specs.declared.bytes.TheConstants.{ESC}
use Rattle.teco_model.specs.declared.kind.Argument.TheVariants.{DropAll}
use Rattle.teco_model.specs.declared.kind.Command.TheVariants as command
use Rattle.teco_model.specs.declared.kind.Flow.TheVariants as flow
use Rattle.teco_model.specs.declared.kind.Insertion.TheVariants.{Text}
use Rattle.teco_model.specs.declared.kind.Kind.{Kind}
use Rattle.teco_model.specs.declared.kind.Kind.TheVariants as kind
use Rattle.teco_model.specs.Element.{Element}
use Rattle.teco_law_runs.specs.Rows.{only}
use Rattle.teco_poly.specs.Polynomial.{number}
use Rattle.teco_poly.specs.Text.{text}
use Rattle.teco_law_tables.specs.straight_text.Accepted.{IsAccepted}
use Rattle.teco_law_tables.specs.straight_text.Facts.{and_more}
use Rattle.teco_law_tables.specs.straight_text.Straight.{IsStraight}

-- an element without modifiers
abbrev pub plain : Kind → List ℕ → ℕ → ℕ → Element
plain k inside place next = record {
  kind = k;
  colons = 0;
  at = false;
  text = inside;
  second = [];
  place = place;
  next = next;
}

abbrev pub letters_put_in : List ℕ
letters_put_in = codes "!a! Iab" ++ ESC ∷ ESC ∷ codes "Ic" ++ ESC ∷ []

abbrev pub elements_put_in : List Element
elements_put_in =
    plain (kind.Flow flow.Comment) (codes "a") 0 3
    ∷ plain (kind.Command (command.Insertion Text)) (codes "ab") 4 8
    ∷ plain (kind.Argument DropAll) [] 8 9
    ∷ plain (kind.Command (command.Insertion Text)) (codes "c") 9 12
    ∷ []

pub record WorkedStraightText : Type 0 where
  pub straight : IsStraight (only letters_put_in) 0 letters_put_in elements_put_in
  pub accepted : IsAccepted (only letters_put_in) 0 (number 6) (and_more 3)
  pub commands_text : text (number 6) ≡ codes "6"
  pub size_text : text (and_more 3) ≡ codes "3 + N"
