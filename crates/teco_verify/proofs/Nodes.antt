-- An expansion has a node at least, that of the call of the entry.
use Rattle.teco_verify.proofs.Prelude.{◌≡◌, subst, ℕ, suc, ◌<◌, List, [], ◌∷◌, length, Result, Ok, Err, arith}
use Rattle.teco_verify.proofs.Prelude.{expansion, Library, Node}
use Rattle.std.proofs.Common.{◌+◌}
use Rattle.teco_verifier.specs.expansion.Expansion.{MOST_ELEMENTS, Visit, Walk, first_visit, next_visit}
use Rattle.teco_verifier.specs.expansion.Expansion.{nodes_at, node_at, unless_refused, walk, walk_behind, walk_while}
use Rattle.teco_verifier.specs.expansion.Expansion.{whole_walk_of}
use Rattle.teco_verifier.specs.expansion.Refusal.{Reason, Refusal, ◌>>=◌}

-- a walk visits what it begins with
visits : (library : Library) (entry : ℕ) (v : Visit) (next : Result Visit Reason) (on : Visit → Walk)
    → 0 < length (walk_behind entry v next on).visits
visits library entry v (Err reason) on = omega arith
visits library entry v (Ok next) on = while_open next.registers
  where
    while_open : (registers : List ℕ) → 0 < length (walk_while registers v (on next)).visits
    while_open [] = omega arith
    while_open (r ∷ registers) = omega arith

walked : (library : Library) (entry more number : ℕ) (v : Visit)
    → 0 < length (walk (suc more) library entry number v).visits
unfolding walk
walked library entry more number v =
    visits library entry v (next_visit library number v) (walk more library entry (number + 1))

-- as many nodes as visits
node_behind : (r : Result Node Refusal) (s : Result (List Node) Refusal) (nodes : List Node)
    → (r >>= (λ node. s >>= (λ others. Ok (node ∷ others)))) ≡ Ok nodes → 0 < length nodes
node_behind (Err why) s nodes e = absurd (cc)
node_behind (Ok node) (Err why) nodes e = absurd (cc)
node_behind (Ok node) (Ok others) nodes e = let same : node ∷ others ≡ nodes = cc in
    subst (λ (those : List Node). 0 < length those) same (omega arith)

some_nodes : (library : Library) (entry : ℕ) (w : Walk) (number : ℕ) (visits : List Visit) (nodes : List Node)
    → 0 < length visits → nodes_at library entry w number visits ≡ Ok nodes → 0 < length nodes
unfolding nodes_at
some_nodes library entry w number [] nodes h e = absurd (omega arith)
some_nodes library entry w number (v ∷ visits) nodes h e =
    node_behind (node_at library entry w number v) (nodes_at library entry w (number + 1) visits) nodes e

ended : (r : Result (List Node) Refusal) (s : Result (Unit {0}) Refusal) (nodes : List Node)
    → (r >>= (λ those. s >>= (λ end. Ok those))) ≡ Ok nodes → r ≡ Ok nodes
ended (Err why) s nodes e = absurd (cc)
ended (Ok those) (Err why) nodes e = absurd (cc)
ended (Ok those) (Ok end) nodes e = e

pub begins : (library : Library) (entry : ℕ) (nodes : List Node) → expansion library entry ≡ Ok nodes → 0 < length nodes
unfolding expansion
begins library entry nodes e =
    let w = whole_walk_of library entry in
    some_nodes library entry w 1 w.visits nodes (walked library entry MOST_ELEMENTS 1 (first_visit entry))
    (ended (nodes_at library entry w 1 w.visits) (unless_refused w.refusal) nodes e)
