-- What a straight text inserts is no longer than the text.
use Rattle.teco_law_tables.proofs.Prelude.{◌≡◌, ℕ, ◌+◌, ◌≤◌, List, [], ◌∷◌, length, Some, Ok, arith, Text, Kind}
use Rattle.teco_law_tables.proofs.Prelude.{Element, element_at, inserted_by_kind, inserted_by, inserted, AreRead}
use Rattle.teco_model.specs.declared.kind.Command.TheVariants as command
use Rattle.teco_model.specs.declared.kind.Kind.TheVariants as kind
use Rattle.teco_model.specs.Element.{blank_end}
use Rattle.teco_model.proofs.Standing.{found_read, text_within}

-- an element inserts no more than its text
kind_inserts : (k : Kind) (text : List ℕ) → inserted_by_kind k text ≤ length text
kind_inserts (kind.Command (command.Insertion Text)) text = omega arith
kind_inserts k text = omega arith

element_within : (text : List ℕ) (at : ℕ) (e : Element) → element_at text at ≡ Ok (Some e)
    → (at + inserted_by e ≤ e.next) × (e.next ≤ length text)
element_within text at e h =
    let r = found_read text at e h in
    (omega (arith, kind_inserts e.kind e.text, text_within text (blank_end text at) e r), r.within)

elements_within : (text : List ℕ) (place : ℕ) (elements : List Element) → place ≤ length text
    → AreRead text place elements → place + inserted elements ≤ length text
elements_within text place [] l r = omega (arith, l)
elements_within text place (e ∷ elements) l r =
    let one = element_within text place e r.0 in
    omega (arith, one.0, elements_within text e.next elements one.1 r.1)

pub inserted_within : (text : List ℕ) (elements : List Element) → AreRead text 0 elements
    → inserted elements ≤ length text
inserted_within text elements r = omega (arith, elements_within text 0 elements (omega arith) r)
