-- Nodes by their numbers.
use Rattle.teco_law_runs.proofs.Prelude.{◌≡◌, ℕ, zero, suc, ◌+◌, ◌≤◌, ◌<◌, refl, sym, ap, ◌∙◌, arith, rules, eqb-true}
use Rattle.teco_law_runs.proofs.Prelude.{List, [], ◌∷◌, ◌++◌, map, drop, length, ◌==◌, Bool, true, false, if◌then◌else◌}
use Rattle.teco_law_runs.proofs.Prelude.{Option, Some, None, slice_get, Kind, Element, Stand, Node, over, stand_of_node}
use Rattle.teco_law_runs.proofs.Prelude.{stands, numbered, is_innermost, ends_by_kind, ends_by, ends, end_of, first_end}
use Rattle.teco_model.specs.declared.kind.Flow.TheVariants as flow
use Rattle.teco_model.specs.declared.kind.Kind.TheVariants as kind

-- ---- places in lists
pub got : {X : Type 0} (xs : List X) (k : ℕ) → k < length xs → (x : X) × (slice_get xs k ≡ Some x)
got [] k l = absurd (omega arith)
got (x ∷ xs) zero l = (x, refl)
got (x ∷ xs) (suc k) l = got xs k (omega arith)

pub got_within : {X : Type 0} (xs : List X) (k : ℕ) (x : X) → slice_get xs k ≡ Some x → k < length xs
got_within [] k x h = absurd (cc)
got_within (y ∷ xs) zero x h = omega arith
got_within (y ∷ xs) (suc k) x h = omega (arith, got_within xs k x h)

pub got_mapped : {X Y : Type 0} (f : X → Y) (xs : List X) (ys : List Y) (k : ℕ) (x : X) → slice_get xs k ≡ Some x
    → slice_get (map f xs ++ ys) k ≡ Some (f x)
got_mapped f [] ys k x h = absurd (cc)
got_mapped f (y ∷ xs) ys zero x h = let e : y ≡ x = cc in ap (λ y. Some (f y)) e
got_mapped f (y ∷ xs) ys (suc k) x h = got_mapped f xs ys k x h

pub got_dropped : {X : Type 0} (n k : ℕ) (xs : List X) → slice_get (drop n xs) k ≡ slice_get xs (n + k)
got_dropped zero k xs = let e : 0 + k ≡ k = omega arith in rw e refl
got_dropped (suc n) k [] = refl
got_dropped (suc n) k (x ∷ xs) = let e : suc n + k ≡ suc (n + k) = omega arith in rw e (got_dropped n k xs)

-- ---- nodes by their numbers
pub node_of : (nodes : List Node) (k : ℕ) → 0 < k → k ≤ length nodes → (node : Node) × (numbered nodes k ≡ Some node)
node_of nodes zero l m = absurd (omega arith)
node_of nodes (suc k) l m = got nodes k (omega arith)

pub number_within : (nodes : List Node) (k : ℕ) (node : Node) → numbered nodes k ≡ Some node
    → (0 < k) × (k ≤ length nodes)
number_within nodes zero node h = absurd (cc)
number_within nodes (suc k) node h = (omega arith, omega (arith, got_within nodes k node h))

pub stand_of : (nodes : List Node) (entry k : ℕ) (node : Node) → numbered nodes k ≡ Some node
    → numbered (stands nodes entry) k ≡ Some node.stand
stand_of nodes entry zero node h = absurd (cc)
stand_of nodes entry (suc k) node h = got_mapped stand_of_node nodes (over entry ∷ []) k node h

pub same_stand : (nodes : List Node) (entry k : ℕ) (node : Node) (stand : Stand) → numbered nodes k ≡ Some node
    → numbered (stands nodes entry) k ≡ Some stand → node.stand ≡ stand
same_stand nodes entry k node stand h g = let e : Some node.stand ≡ Some stand = sym (stand_of nodes entry k node h)
    ∙ g in cc

pub same_node : (nodes : List Node) (k : ℕ) (m n : Node) → numbered nodes k ≡ Some m → numbered nodes k ≡ Some n → m ≡ n
same_node nodes k m n h g = let e : Some m ≡ Some n = sym h ∙ g in cc

-- ---- what ends an iteration
pub same_number : (n : ℕ) → (n == n) ≡ true
same_number n = search rules

record FirstEnd (b n : ℕ) (xs : List Node) : Type 0 where
  i : ℕ
  node : Node
  at : slice_get xs i ≡ Some node
  ending : ends b node ≡ true
  is : first_end b n xs ≡ n + i

first_end_at : (b n : ℕ) (xs : List Node) → b < n → b < first_end b n xs → FirstEnd b n xs
first_end_at b n [] l m = absurd (omega arith)
first_end_at b n (x ∷ xs) l m = here (ends b x) refl (λ k. first_end_at b (suc n) xs (omega arith) k)
  where
    here : (t : Bool) → ends b x ≡ t → (b < first_end b (suc n) xs → FirstEnd b (suc n) xs) → FirstEnd b n (x ∷ xs)
    here true t on = record {
      i = 0;
      node = x;
      at = refl;
      ending = t;
      is = ap (λ t. if t then n else first_end b (suc n) xs) t ∙ (omega arith);
    }
    here false t on =
        let e : first_end b n (x ∷ xs) ≡ first_end b (suc n) xs = ap (λ t. if t then n else first_end b (suc n) xs) t in
        let rest = on (omega (arith, e, m)) in
        record {
          i = suc rest.i;
          node = rest.node;
          at = rest.at;
          ending = rest.ending;
          is = e ∙ (rest.is ∙ omega arith);
        }

pub ends_there : (nodes : List Node) (b : ℕ) → b < end_of nodes b
    → (node : Node) × (numbered nodes (end_of nodes b) ≡ Some node) × (ends b node ≡ true)
ends_there nodes b l =
    let f = first_end_at b (suc b) (drop b nodes) (omega arith) l in
    let e : end_of nodes b ≡ suc (b + f.i) = f.is ∙ (omega arith) in
    (f.node, ap (numbered nodes) e ∙ (sym (got_dropped b f.i nodes) ∙ f.at), f.ending)

pub innermost : (b : ℕ) (numbers : List ℕ) → is_innermost b numbers ≡ true → (outer : List ℕ) × (numbers ≡ b ∷ outer)
innermost b [] h = absurd (cc)
innermost b (n ∷ outer) h = (outer, ap (λ n. n ∷ outer) (eqb-true n b h))

innermost_by_kind : (b : ℕ) (k : Kind) (numbers : List ℕ) → ends_by_kind b k numbers ≡ true
    → (outer : List ℕ) × (numbers ≡ b ∷ outer)
innermost_by_kind b (kind.Flow flow.EndTurn) numbers h = innermost b numbers h
innermost_by_kind b k numbers h = absurd (cc)

pub innermost_by : (b : ℕ) (e : Option Element) (numbers : List ℕ) → ends_by b e numbers ≡ true
    → (outer : List ℕ) × (numbers ≡ b ∷ outer)
innermost_by b None numbers h = absurd (cc)
innermost_by b (Some e) numbers h = innermost_by_kind b e.kind numbers h
