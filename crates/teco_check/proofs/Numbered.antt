-- Nodes and rows by their numbers.
use Rattle.teco_check.proofs.Prelude.{◌≡◌, refl, sym, ℕ, zero, suc, ◌<◌, ◌≤◌, true, false, List, [], ◌∷◌, length}
use Rattle.teco_check.proofs.Prelude.{slice_get, Some, None, unwrap_or, get_or, ◌==◌, arith, Node, option_map_or}
use Rattle.teco_check.proofs.Prelude.{nat_tests, Facts, Table, no_node, node_at}
use Rattle.std.proofs.Common.{nat_lt}
use Rattle.teco_verifier.specs.expansion.Node.{numbered}
use Rattle.teco_verifier.specs.expansion.Ends.{is_innermost}
use Rattle.teco_verifier.specs.facts.Facts.{Iteration}
use Rattle.teco_verifier.specs.table.Behind.{is_inside, open_at}
use Rattle.teco_verifier.specs.table.Closed.{has_none, is_known_in}
use Rattle.teco_check.specs.Known.{known_since}

some_of : {X : Type 0} (xs : List X) (k : ℕ) (x : X) → k < length xs
    → slice_get xs k ≡ Some (unwrap_or (slice_get xs k) x)
some_of [] k x h = absurd (omega arith)
some_of (y ∷ xs) zero x h = refl
some_of (y ∷ xs) (suc k) x h = some_of xs k x (omega arith)

pub numbered_at : (nodes : List Node) (number : ℕ) → 0 < number → number ≤ length nodes
    → numbered nodes number ≡ Some (node_at nodes number)
unfolding node_at
numbered_at nodes zero h l = absurd (omega arith)
numbered_at nodes (suc k) h l = some_of nodes k no_node (omega arith)

pub inside_is : (starts : List ℕ) → nat_lt 0 (length starts) ≡ is_inside starts
inside_is [] = refl
inside_is (start ∷ outer) = some_there
  where
    some_there : nat_lt 0 (length (start ∷ outer)) ≡ true
    some_there = grind (arith, nat_tests)

none_of : {X : Type 0} (xs : List X) (k : ℕ) → length xs ≤ k → slice_get xs k ≡ None
none_of [] zero h = refl
none_of [] (suc k) h = refl
none_of (y ∷ xs) zero h = absurd (omega arith)
none_of (y ∷ xs) (suc k) h = none_of xs k (omega arith)

pub numbered_outside : {X : Type 0} (xs : List X) (number : ℕ) → length xs < number → numbered xs number ≡ None
numbered_outside xs zero h = refl
numbered_outside xs (suc k) h = none_of xs k (omega arith)

-- how many iterations are open at a number
pub open_is : (nodes : List Node) (number : ℕ) → 0 < number → number ≤ length nodes
    → open_at nodes number ≡ length (node_at nodes number).stand.iterations
open_is nodes number h l = rw (numbered_at nodes number h l) refl

pub open_outside : (nodes : List Node) (number : ℕ) → length nodes < number → open_at nodes number ≡ 0
open_outside nodes number h = rw (numbered_outside nodes number h) refl

-- the first of a list
pub first_is : (xs : List ℕ) → unwrap_or (slice_get xs 0) 0 ≡ get_or xs 0 0
first_is [] = refl
first_is (x ∷ xs) = refl

pub innermost_is : (begin : ℕ) (iterations : List ℕ)
    → is_innermost begin iterations ≡ option_map_or (λ (number : ℕ). number == begin) (slice_get iterations 0) false
innermost_is begin [] = refl
innermost_is begin (number ∷ outer) = refl

none_open : (iterations : List Iteration) → has_none iterations ≡ (length iterations == 0)
none_open [] = refl
none_open (i ∷ outer) = sym not_zero
  where
    not_zero : (length (i ∷ outer) == 0) ≡ false
    not_zero = grind (arith, nat_tests)

-- by the innermost iteration that is open
pub known_none : (table : Table) (iterations : List ℕ) (facts : Facts) → slice_get iterations 0 ≡ None
    → is_known_in table iterations facts ≡ (length facts.iterations == 0)
known_none table [] facts e = none_open facts.iterations
known_none table (begin ∷ outer) facts e = absurd (cc)

pub known_some : (table : Table) (iterations : List ℕ) (facts : Facts) (begin : ℕ) → slice_get iterations 0 ≡ Some begin
    → is_known_in table iterations facts ≡ known_since table begin facts
known_some table [] facts begin e = absurd (cc)
known_some table (number ∷ outer) facts begin e = let is : number ≡ begin = cc in rw is refl
