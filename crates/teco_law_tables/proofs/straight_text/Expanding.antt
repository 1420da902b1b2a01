-- A straight text is expanded to its elements.
use Rattle.teco_law_tables.proofs.Prelude.{◌≡◌, ℕ, suc, ◌+◌, ◌<◌, List, [], ◌∷◌, ◌++◌, map, drop, true, false, Some}
use Rattle.teco_law_tables.proofs.Prelude.{None, Ok, refl, ◌∙◌, arith, AllByRecursion, REGISTERS, Element, element_at}
use Rattle.teco_law_tables.proofs.Prelude.{element_at-again, MOST_ELEMENTS, first_visit, Walk, way_numbers, node_at}
use Rattle.teco_law_tables.proofs.Prelude.{nodes_at, expansion, Library, macro, Stand, over, beginning, ways_at}
use Rattle.teco_law_tables.proofs.Prelude.{IsStraightElement, AreRead, IsStraight, call_element, stand_in_text}
use Rattle.teco_law_tables.proofs.Prelude.{node_going_on, nodes_in_text, straight_nodes}
use Rattle.teco_verifier.specs.expansion.Expansion.{stand_of_visit, all_stands}
use Rattle.teco_law_tables.specs.straight_text.Nodes.{StraightTextsAreExpanded}
use Rattle.teco_law_tables.proofs.straight_text.Alike.{next_number, drop-behind}
use Rattle.teco_law_tables.proofs.straight_text.Walking.{visit_in_text, visits_behind, call_read, element_read}
use Rattle.teco_law_tables.proofs.straight_text.Walking.{end_read, way_of_element, names_of_element, base_of_element}
use Rattle.teco_law_tables.proofs.straight_text.Walking.{whole_of, walk_whole}

-- where the nodes behind some elements stand
abbrev stands_behind : ℕ → List ℕ → List Element → List Stand
stands_behind entry text elements = map stand_of_visit (visits_behind entry text elements) ++ over entry ∷ []

plus_one : (n : ℕ) → n + 1 ≡ suc n
plus_one n = omega arith

call_node : (library : Library) (entry : ℕ) (text : List ℕ) (w : Walk) (rest : List Stand) → entry < REGISTERS
    → macro library entry ≡ Some text → drop 1 (all_stands w entry) ≡ stand_in_text entry text 0 ∷ rest →
    node_at library entry w 1 (first_visit entry) ≡ Ok
    (node_going_on entry 1 (beginning entry) (Some (call_element entry)) true)
unfolding node_at way_numbers ways_at
call_node library entry text w rest l m d =
    rw (call_read entry l, m) (rw (next_number (all_stands w entry) rest 1 (stand_in_text entry text 0) d) refl)

element_node : (library : Library) (entry number place : ℕ) (text : List ℕ) (w : Walk) (e : Element) (rest : List Stand)
    → IsStraightElement e → element_at text place ≡ Ok (Some e)
    → drop number (all_stands w entry) ≡ stand_in_text entry text e.next ∷ rest →
    node_at library entry w number (visit_in_text entry text place) ≡ Ok
    (node_going_on entry number (stand_in_text entry text place) (Some e) false)
unfolding node_at way_numbers
element_node library entry number place text w e rest s r d =
    rw (
      element_read e (stand_in_text entry text place).position s (element_at-again text place ∙ r),
      way_of_element library e (stand_in_text entry text place).position s,
      base_of_element number e s,
    )
    (rw (
      next_number (all_stands w entry) rest number (stand_in_text entry text e.next) d,
      names_of_element library e s,
    ) refl)

end_node : (library : Library) (entry number place : ℕ) (text : List ℕ) (w : Walk) (rest : List Stand)
    → element_at text place ≡ Ok None → drop number (all_stands w entry) ≡ over entry ∷ rest →
    node_at library entry w number (visit_in_text entry text place) ≡ Ok
    (node_going_on entry number (stand_in_text entry text place) None false)
unfolding node_at way_numbers ways_at
end_node library entry number place text w rest r d =
    rw (end_read (stand_in_text entry text place).position (element_at-again text place ∙ r))
    (rw (next_number (all_stands w entry) rest number (over entry) d) refl)

nodes_follow : (library : Library) (entry number place : ℕ) (text : List ℕ) (w : Walk) (elements : List Element)
    → AreRead text place elements → AllByRecursion IsStraightElement elements
    → drop number (all_stands w entry) ≡ stands_behind entry text elements →
    nodes_at library entry w number (visit_in_text entry text place ∷ visits_behind entry text elements) ≡ Ok
    (nodes_in_text entry text number place elements)
unfolding nodes_at
nodes_follow library entry number place text w [] r s d = rw (end_node library entry number place text w [] r d) refl
nodes_follow library entry number place text w (e ∷ elements) r s d =
    let next : drop (number + 1) (all_stands w entry) ≡ stands_behind entry text elements =
    rw (plus_one number) (drop-behind number (all_stands w entry) (stands_behind entry text elements)
    (stand_in_text entry text e.next) d) in
    rw (
      element_node library entry number place text w e (stands_behind entry text elements) s.0 r.0 d,
      nodes_follow library entry (number + 1) e.next text w elements r.1 s.1 next,
      plus_one number,
    ) refl

abbrev walk_of : ℕ → List ℕ → List Element → Walk
walk_of entry text elements = whole_of
    (first_visit entry ∷ visit_in_text entry text 0 ∷ visits_behind entry text elements)

all_nodes : (library : Library) (entry : ℕ) (text : List ℕ) (elements : List Element)
    → IsStraight library entry text elements →
    nodes_at library entry (walk_of entry text elements) 1 (walk_of entry text elements).visits ≡ Ok
    (straight_nodes entry text elements)
unfolding nodes_at
all_nodes library entry text elements is =
    rw (
      call_node library entry text (walk_of entry text elements) (stands_behind entry text elements) is.register
          is.has_text refl,
      nodes_follow library entry 2 0 text (walk_of entry text elements) elements is.read is.straight
          refl,
    ) refl

pub straight_texts_are_expanded : StraightTextsAreExpanded
unfolding expansion
straight_texts_are_expanded library entry text elements is =
    rw (walk_whole (MOST_ELEMENTS + 1) library entry text elements is.register is.has_text is.read is.straight
    (omega (arith, is.few)) (omega (arith, is.few)))
    (rw (all_nodes library entry text elements is) refl)
