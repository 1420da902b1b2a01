-- Nodes, one after another.
use Rattle.teco_expansion.proofs.Prelude.{◌≡◌, ℕ, zero, suc, ◌+◌, ◌<◌, ◌≤◌, List, [], ◌∷◌, ◌++◌, map, drop, length}
use Rattle.teco_expansion.proofs.Prelude.{get_or, Result, Ok, Err, refl, sym, ap, ◌∙◌, append_assoc, arith, append-nil}
use Rattle.teco_expansion.proofs.Prelude.{drop_all, length-map, Visit, Walk, node_at, nodes_at, Library, Node, Refusal}
use Rattle.teco_expansion.proofs.Prelude.{◌>>=◌}

-- nodes before those that follow
abbrev pub before : List Node → Result (List Node) Refusal → Result (List Node) Refusal
before nodes rest = rest >>= (λ more. Ok (nodes ++ more))

one_more : (nodes : List Node) (node : Node) (r : Result Node Refusal) (rest : Result (List Node) Refusal) → r ≡ Ok node
    → before nodes (r >>= (λ node. rest >>= (λ more. Ok (node ∷ more)))) ≡ before (nodes ++ node ∷ []) rest
one_more nodes node (Err c) rest h = absurd (cc)
one_more nodes node (Ok n) (Err c) h = refl
one_more nodes node (Ok n) (Ok more) h =
    let e : n ≡ node = cc in
    ap (λ (n : Node). Ok (nodes ++ n ∷ more)) e ∙ ap Ok (sym (append_assoc nodes (node ∷ []) more))

refused : (nodes : List Node) (c : Refusal) (r : Result Node Refusal) (rest : Result (List Node) Refusal) → r ≡ Err c
    → before nodes (r >>= (λ node. rest >>= (λ more. Ok (node ∷ more)))) ≡ Err c
refused nodes c (Ok n) rest h = absurd (cc)
refused nodes c (Err d) rest h = let e : d ≡ c = cc in ap Err e

front_of : {X Y : Type 0} (f : X → Y) (xs : List X) (k : ℕ) (d : X) → k < length xs
    → drop k (map f xs) ≡ f (get_or xs k d) ∷ drop (suc k) (map f xs)
front_of f [] k d l = absurd (omega (arith, l))
front_of f (x ∷ xs) zero d l = refl
front_of f (x ∷ xs) (suc k) d l = front_of f xs k d (omega (arith, l))

-- a node more
pub nodes_more : {X : Type 0} (seen : X → Visit) (library : Library) (entry : ℕ) (w : Walk) (nodes : List Node)
    (node : Node) (xs : List X) (k : ℕ) (d : X) → k < length xs
    → node_at library entry w (k + 1) (seen (get_or xs k d)) ≡ Ok node →
    before nodes (nodes_at library entry w (k + 1) (drop k (map seen xs))) ≡ before (nodes ++ node ∷ [])
    (nodes_at library entry w (k + 1 + 1) (drop (k + 1) (map seen xs)))
unfolding nodes_at
nodes_more seen library entry w nodes node xs k d l h =
    let one : suc k ≡ k + 1 = omega arith in
    ap (λ vs. before nodes (nodes_at library entry w (k + 1) vs)) (front_of seen xs k d l)
    ∙ one_more nodes node (node_at library entry w (k + 1) (seen (get_or xs k d)))
    (nodes_at library entry w (k + 1 + 1) (drop (suc k) (map seen xs))) h
    ∙ ap (λ n. before (nodes ++ node ∷ []) (nodes_at library entry w (k + 1 + 1) (drop n (map seen xs)))) one

-- or a refusal
pub nodes_refused : {X : Type 0} (seen : X → Visit) (library : Library) (entry : ℕ) (w : Walk) (nodes : List Node)
    (c : Refusal) (xs : List X) (k : ℕ) (d : X) → k < length xs
    → node_at library entry w (k + 1) (seen (get_or xs k d)) ≡ Err c →
    before nodes (nodes_at library entry w (k + 1) (drop k (map seen xs))) ≡ Err c
unfolding nodes_at
nodes_refused seen library entry w nodes c xs k d l h =
    ap (λ vs. before nodes (nodes_at library entry w (k + 1) vs)) (front_of seen xs k d l)
    ∙ refused nodes c (node_at library entry w (k + 1) (seen (get_or xs k d)))
    (nodes_at library entry w (k + 1 + 1) (drop (suc k) (map seen xs))) h

-- until there are no more
pub nodes_end : {X : Type 0} (seen : X → Visit) (library : Library) (entry : ℕ) (w : Walk) (nodes : List Node)
    (xs : List X) (k : ℕ) → length xs ≤ k
    → before nodes (nodes_at library entry w (k + 1) (drop k (map seen xs))) ≡ Ok nodes
unfolding nodes_at
nodes_end seen library entry w nodes xs k h =
    ap (λ vs. before nodes (nodes_at library entry w (k + 1) vs))
    (drop_all k (map seen xs) (omega (arith, h, length-map xs seen))) ∙ ap Ok (append-nil nodes)

-- at the beginning there are none
pub nodes_begin : (r : Result (List Node) Refusal) → r ≡ before [] r
nodes_begin (Ok nodes) = refl
nodes_begin (Err c) = refl
