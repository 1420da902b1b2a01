-- The walk through a straight text.
use Rattle.teco_law_tables.proofs.Prelude.{◌≡◌, ℕ, zero, suc, ◌+◌, ◌<◌, ◌≤◌, nat_le, List, [], ◌∷◌, length, true, false}
use Rattle.teco_law_tables.proofs.Prelude.{Some, None, Ok, refl, ◌∙◌, rules, arith, AllByRecursion, REGISTERS, DropAll}
use Rattle.teco_law_tables.proofs.Prelude.{Text, Kind, Element, blank_len, element_from, element_at, letters}
use Rattle.teco_law_tables.proofs.Prelude.{element_at-again, MOST_ELEMENTS, first_visit, next_visit, Walk, walk}
use Rattle.teco_law_tables.proofs.Prelude.{Library, macro, names_macro, beginning, over, base_of, Position, read_at}
use Rattle.teco_law_tables.proofs.Prelude.{flow_ways, ways_at, IsStraightKind, IsStraightElement, AreRead, call_element}
use Rattle.teco_law_tables.proofs.Prelude.{stand_in_text}
use Rattle.teco_verifier.specs.expansion.Ways.{past}
use Rattle.teco_model.specs.declared.kind.Command.TheVariants as command
use Rattle.teco_model.specs.declared.kind.Flow.TheVariants as flow
use Rattle.teco_model.specs.declared.kind.Kind.TheVariants as kind
use Rattle.teco_verifier.specs.expansion.Expansion.{Visit}
use Rattle.teco_verifier.specs.expansion.Node.{base_of_kind}
use Rattle.teco_law_runs.proofs.Given.{name_read}

-- what is visited in the text, and behind a place of it
abbrev pub visit_in_text : ℕ → List ℕ → ℕ → Visit
visit_in_text entry text place = record { stand = stand_in_text entry text place; registers = entry ∷ [] }

abbrev pub visits_behind : ℕ → List ℕ → List Element → List Visit
visits_behind entry text [] = []
visits_behind entry text (e ∷ elements) = visit_in_text entry text e.next ∷ visits_behind entry text elements

-- what is read
pub call_read : (entry : ℕ) → entry < REGISTERS → read_at (beginning entry).position ≡ Ok (Some (call_element entry))
unfolding read_at element_at element_from blank_len letters
call_read entry l = rw (name_read entry l) refl

read_kind : (k : Kind) (e : Element) (p : Position) → IsStraightKind k
    → element_at p.running.text p.running.place ≡ Ok (Some (record e { kind = k }))
    → read_at p ≡ Ok (Some (record e { kind = k }))
unfolding read_at
read_kind (kind.Argument DropAll) e p s h = rw h refl
read_kind (kind.Flow flow.Comment) e p s h = rw h refl
read_kind (kind.Command (command.Insertion Text)) e p s h = rw h refl
read_kind k e p s h = absurd s

pub element_read : (e : Element) (p : Position) → IsStraightElement e
    → element_at p.running.text p.running.place ≡ Ok (Some e) → read_at p ≡ Ok (Some e)
element_read e p s h = read_kind e.kind e p s h

pub end_read : (p : Position) → element_at p.running.text p.running.place ≡ Ok None → read_at p ≡ Ok None
unfolding read_at
end_read p h = rw h refl

-- the one way of an element
way_of_kind : (library : Library) (k : Kind) (e : Element) (p : Position) → IsStraightKind k
    → ways_at library (Some (record e { kind = k })) p ≡ Ok (past e p ∷ [])
unfolding ways_at flow_ways
way_of_kind library (kind.Argument DropAll) e p s = refl
way_of_kind library (kind.Flow flow.Comment) e p s = refl
way_of_kind library (kind.Command (command.Insertion Text)) e p s = refl
way_of_kind library k e p s = absurd s

pub way_of_element : (library : Library) (e : Element) (p : Position) → IsStraightElement e
    → ways_at library (Some e) p ≡ Ok (past e p ∷ [])
way_of_element library e p s = way_of_kind library e.kind e p s

-- it names no register
names_of_kind : (library : Library) (k : Kind) (e : Element) → IsStraightKind k
    → names_macro library (Some (record e { kind = k })) ≡ false
names_of_kind library (kind.Argument DropAll) e s = refl
names_of_kind library (kind.Flow flow.Comment) e s = refl
names_of_kind library (kind.Command (command.Insertion Text)) e s = refl
names_of_kind library k e s = absurd s

pub names_of_element : (library : Library) (e : Element) → IsStraightElement e → names_macro library (Some e) ≡ false
names_of_element library e s = names_of_kind library e.kind e s

-- the visits that follow the call, an element and the end
call_followed : (library : Library) (entry : ℕ) (text : List ℕ) → entry < REGISTERS → macro library entry ≡ Some text
    → next_visit library 1 (first_visit entry) ≡ Ok (visit_in_text entry text 0)
unfolding next_visit ways_at
call_followed library entry text l h = rw (call_read entry l, h) refl

few : (number : ℕ) → number ≤ MOST_ELEMENTS → nat_le number MOST_ELEMENTS ≡ true
few number h = search rules

kind_followed : (library : Library) (entry number place : ℕ) (text : List ℕ) (k : Kind) (e : Element) → IsStraightKind k
    → element_at text place ≡ Ok (Some (record e { kind = k })) → number ≤ MOST_ELEMENTS
    → next_visit library number (visit_in_text entry text place) ≡ Ok (visit_in_text entry text e.next)
unfolding next_visit ways_at flow_ways
kind_followed library entry number place text (kind.Argument DropAll) e s h l =
    rw (
      read_kind (kind.Argument DropAll) e (stand_in_text entry text place).position s
          (element_at-again text place ∙ h),
      few number l,
    ) refl
kind_followed library entry number place text (kind.Flow flow.Comment) e s h l =
    rw (
      read_kind (kind.Flow flow.Comment) e (stand_in_text entry text place).position s
          (element_at-again text place ∙ h),
      few number l,
    ) refl
kind_followed library entry number place text (kind.Command (command.Insertion Text)) e s h l =
    rw (
      read_kind (kind.Command (command.Insertion Text)) e (stand_in_text entry text place).position s
          (element_at-again text place ∙ h),
      few number l,
    ) refl
kind_followed library entry number place text k e s h l = absurd s

end_followed : (library : Library) (entry number place : ℕ) (text : List ℕ) → element_at text place ≡ Ok None
    → number ≤ MOST_ELEMENTS → next_visit library number (visit_in_text entry text place) ≡ Ok
    (record { stand = over entry; registers = [] })
unfolding next_visit ways_at
end_followed library entry number place text h l =
    rw (end_read (stand_in_text entry text place).position (element_at-again text place ∙ h), few number l) refl

-- the walk
abbrev pub whole_of : List Visit → Walk
whole_of visits = record { visits = visits; refusal = None }

walk_in_text : (more : ℕ) (library : Library) (entry number place : ℕ) (text : List ℕ) (elements : List Element)
    → AreRead text place elements → AllByRecursion IsStraightElement elements → length elements < more
    → number + length elements ≤ MOST_ELEMENTS →
    walk more library entry number (visit_in_text entry text place) ≡ whole_of
    (visit_in_text entry text place ∷ visits_behind entry text elements)
unfolding walk
walk_in_text zero library entry number place text elements r s l m = absurd (omega (arith, l))
walk_in_text (suc more) library entry number place text [] r s l m =
    rw (end_followed library entry number place text r (omega (arith, m))) refl
walk_in_text (suc more) library entry number place text (e ∷ elements) r s l m =
    rw (kind_followed library entry number place text e.kind e s.0 r.0 (omega (arith, m)))
    (rw (walk_in_text more library entry (number + 1) e.next text elements r.1 s.1 (omega (arith, l))
    (omega (arith, m))) refl)

pub walk_whole : (more : ℕ) (library : Library) (entry : ℕ) (text : List ℕ) (elements : List Element)
    → entry < REGISTERS → macro library entry ≡ Some text → AreRead text 0 elements
    → AllByRecursion IsStraightElement elements → suc (length elements) < more → 2 + length elements ≤ MOST_ELEMENTS →
    walk more library entry 1 (first_visit entry) ≡ whole_of
    (first_visit entry ∷ visit_in_text entry text 0 ∷ visits_behind entry text elements)
unfolding walk
walk_whole zero library entry text elements b h r s l m = absurd (omega (arith, l))
walk_whole (suc more) library entry text elements b h r s l m =
    rw (call_followed library entry text b h)
    (rw (walk_in_text more library entry 2 0 text elements r s (omega (arith, l)) m) refl)

-- its first way leads ahead of it
base_of_a_kind : (number : ℕ) (k : Kind) → IsStraightKind k → base_of_kind k number [] ≡ number
base_of_a_kind number (kind.Argument DropAll) s = refl
base_of_a_kind number (kind.Flow flow.Comment) s = refl
base_of_a_kind number (kind.Command (command.Insertion Text)) s = refl
base_of_a_kind number k s = absurd s

pub base_of_element : (number : ℕ) (e : Element) → IsStraightElement e → base_of (Some e) number [] ≡ number
base_of_element number e s = base_of_a_kind number e.kind s
