-- The expansion of a library from an entry: a call is followed by the elements of its text and by its return, and then
-- each way is looked up among them.
use Rattle.std.specs.Prelude.{ℕ, zero, suc, ◌+◌, List, [], ◌∷◌, ◌++◌, map, length, drop, get_or, nat_le, Bool, true}
use Rattle.std.specs.Prelude.{false, not, ◌&&◌, ◌==◌, bytes_eq, if◌then◌else◌, Option, Some, None, unwrap_or}
use Rattle.std.specs.Prelude.{option_map, Result, Ok, Err, position as first_index}
use Rattle.std.specs.List.{list_any}
use Rattle.std.specs.Option.{ok_or}
use Rattle.teco_model.specs.declared.kind.Kind.{Kind}
use Rattle.teco_model.specs.declared.kind.Kind.TheVariants as kind
use Rattle.teco_model.specs.Element.{Element}
use Rattle.teco_model.specs.Macros.{Library}
use Rattle.teco_verifier.specs.expansion.Names.{names_macro}
use Rattle.teco_verifier.specs.expansion.Node.{Stand, Node, beginning, over, stand_at, base_of}
use Rattle.teco_verifier.specs.expansion.Order.{stand_behind}
use Rattle.teco_verifier.specs.expansion.Overlap.{overlaps}
use Rattle.teco_verifier.specs.expansion.Position.{Spot, Position, place_at}
use Rattle.teco_verifier.specs.expansion.Refusal.{Reason, Unpaired, Recursion, TooLarge, Refusal, unless, ◌>>=◌}
use Rattle.teco_verifier.specs.expansion.Ways.{read_at, ways_at}

-- how many elements there are at most
abbrev pub MOST_ELEMENTS : ℕ
MOST_ELEMENTS = 4096

-- how many calls may be open, and how many iterations
abbrev pub MOST_OPEN : ℕ
MOST_OPEN = 6

-- what is visited: where it stands, and the registers whose texts are open there, the innermost first
pub record Visit : Type 0 where
  pub stand : Stand
  pub registers : List ℕ

-- the visit of the call of the entry
abbrev pub first_visit : ℕ → Visit
first_visit entry = record { stand = beginning entry; registers = [] }

-- the registers whose texts are open behind an element, or behind the end of a text
abbrev pub open_behind_kind : Kind → List ℕ → List ℕ
open_behind_kind (kind.Call c) registers = c.register ∷ registers
open_behind_kind k registers = registers

abbrev pub open_behind : Option Element → List ℕ → List ℕ
open_behind None registers = drop 1 registers
open_behind (Some e) registers = open_behind_kind e.kind registers

abbrev pub visit_behind : Library → ℕ → Option Element → Visit → Visit
visit_behind library number read v = record {
  stand = stand_behind library number read v.stand;
  registers = open_behind read v.registers;
}

-- A call of a register whose text is open is a recursion.
abbrev pub is_open : ℕ → List ℕ → Bool
is_open r registers = list_any (λ other. other == r) registers

abbrev pub is_recursion_of_kind : Kind → List ℕ → Bool
is_recursion_of_kind (kind.Call c) registers = is_open c.register registers
is_recursion_of_kind k registers = false

abbrev pub is_recursion : Option Element → List ℕ → Bool
is_recursion None registers = false
is_recursion (Some e) registers = is_recursion_of_kind e.kind registers

-- An element counts with what it opens.
abbrev pub is_within : ℕ → Visit → Bool
is_within number next =
    nat_le number MOST_ELEMENTS
    && nat_le (length next.registers) MOST_OPEN
    && nat_le (length next.stand.iterations) MOST_OPEN

-- The visit that follows one of a number. What is read there may be refused, then its ways, then pairs that
-- overlap, then what it calls, and then how much there is.
unfoldable pub next_visit : Library → ℕ → Visit → Result Visit Reason
next_visit library number v = do
  read ← read_at v.stand.position
  ways ← ways_at library read v.stand.position
  apart ← unless (overlaps read ways v.stand.position) Unpaired
  once ← unless (is_recursion read v.registers) Recursion
  few ← unless (not (is_within number (visit_behind library number read v))) TooLarge
  Ok (visit_behind library number read v)

-- the register whose text it is; the call of the entry counts to the entry
abbrev pub register_at : ℕ → Visit → ℕ
register_at entry v = get_or v.registers 0 entry

abbrev pub refusal_at : ℕ → Visit → Reason → Refusal
refusal_at entry v reason = record {
  reason = reason;
  register = register_at entry v;
  place = place_at v.stand.position;
}

-- the visits in their order, up to the return of the entry or to a refusal
pub record Walk : Type 0 where
  pub visits : List Visit
  pub refusal : Option Refusal

abbrev pub refused_walk : ℕ → Visit → Reason → Walk
refused_walk entry v reason = record { visits = v ∷ []; refusal = Some (refusal_at entry v reason) }

-- a walk goes on while texts are open
abbrev pub walk_while : List ℕ → Visit → Walk → Walk
walk_while [] v rest = record { visits = v ∷ []; refusal = None }
walk_while (r ∷ registers) v rest = record rest { visits = v ∷ rest.visits }

abbrev pub walk_behind : ℕ → Visit → Result Visit Reason → (Visit → Walk) → Walk
walk_behind entry v (Err reason) on = refused_walk entry v reason
walk_behind entry v (Ok next) on = walk_while next.registers v (on next)

-- a walk of at most so many visits, from that of a number on
unfoldable pub walk : ℕ → Library → ℕ → ℕ → Visit → Walk
walk zero library entry number v = refused_walk entry v TooLarge
walk (suc more) library entry number v =
    walk_behind entry v (next_visit library number v) (walk more library entry (number + 1))

-- where all stand, the end behind them
abbrev pub stand_of_visit : Visit → Stand
stand_of_visit v = v.stand

abbrev pub all_stands : Walk → ℕ → List Stand
all_stands w entry = map stand_of_visit w.visits ++ over entry ∷ []

-- stands are compared part by part
abbrev pub same_spot : Spot → Spot → Bool
same_spot a b = a.place == b.place && (bytes_eq a.text b.text && bytes_eq a.starts b.starts)

abbrev pub same_spots : List Spot → List Spot → Bool
same_spots [] [] = true
same_spots (a ∷ first) (b ∷ second) = same_spot a b && same_spots first second
same_spots first second = false

abbrev pub same_position : Position → Position → Bool
same_position p q = same_spot p.running q.running && same_spots p.callers q.callers

abbrev pub same_stand : Stand → Stand → Bool
same_stand a b = same_position a.position b.position && bytes_eq a.iterations b.iterations

-- two positions are at the same place in the same text, whichever iterations are open there
abbrev pub same_place : Position → Position → Bool
same_place p q =
    p.running.place == q.running.place && bytes_eq p.running.text q.running.text && same_spots
    p.callers q.callers

-- the number of the next behind a number that stands so
abbrev pub number_behind : ℕ → List Stand → Stand → Option ℕ
number_behind number all stand =
    option_map (λ k. suc (number + k)) (first_index (same_stand stand) (drop number all))

-- Where none does, pairs overlap, or the walk was refused before it came there.
abbrev pub refusal_of_way : ℕ → List Stand → Option Refusal → Refusal → Stand → Refusal
refusal_of_way number all stopped overlap stand =
    if list_any (λ (other : Stand). same_place stand.position other.position) (drop number all)
    then overlap else unwrap_or stopped overlap

-- the numbers that ways lead to, the first of them behind a number of its own
unfoldable pub way_numbers : Library → ℕ → Walk → ℕ → ℕ → Visit → List Position → Result (List ℕ) Refusal
way_numbers library entry w first number v [] = Ok []
way_numbers library entry w first number v (target ∷ targets) =
    let all = all_stands w entry in
    let stand = stand_at number v.stand target in do
      way ← ok_or (number_behind first all stand)
          (refusal_of_way first all w.refusal (refusal_at entry v Unpaired) stand)
      ways ← way_numbers library entry w number number v targets
      Ok (way ∷ ways)

-- a refusal has its place
abbrev pub refused_at : {X : Type 0} → ℕ → Visit → Result X Reason → Result X Refusal
refused_at entry v (Ok x) = Ok x
refused_at entry v (Err reason) = Err (refusal_at entry v reason)

unfoldable pub node_at : Library → ℕ → Walk → ℕ → Visit → Result Node Refusal
node_at library entry w number v = do
  read ← refused_at entry v (read_at v.stand.position)
  targets ← refused_at entry v (ways_at library read v.stand.position)
  ways ← way_numbers library entry w (base_of read number v.stand.iterations) number v targets
  Ok (record {
    stand = v.stand;
    register = register_at entry v;
    element = read;
    ways = ways;
    names_macro = names_macro library read;
  })

unfoldable pub nodes_at : Library → ℕ → Walk → ℕ → List Visit → Result (List Node) Refusal
nodes_at library entry w number [] = Ok []
nodes_at library entry w number (v ∷ vs) = do
  node ← node_at library entry w number v
  nodes ← nodes_at library entry w (number + 1) vs
  Ok (node ∷ nodes)

abbrev pub unless_refused : Option Refusal → Result (Unit {0}) Refusal
unless_refused None = Ok tt
unless_refused (Some refusal) = Err refusal

-- one visit more than there may be elements is refused
abbrev pub whole_walk_of : Library → ℕ → Walk
whole_walk_of library entry = walk (MOST_ELEMENTS + 1) library entry 1 (first_visit entry)

unfoldable pub expansion : Library → ℕ → Result (List Node) Refusal
expansion library entry =
    let w = whole_walk_of library entry in do
      nodes ← nodes_at library entry w 1 w.visits
      ended ← unless_refused w.refusal
      Ok nodes
