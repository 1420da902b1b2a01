-- The sum that is printed is the sum over the nodes.
use Rattle.teco_law_tables.proofs.Prelude.{◌≡◌, ℕ, suc, ◌+◌, ◌*◌, refl, sym, ap, ◌∙◌, subst, arith, List, [], ◌∷◌}
use Rattle.teco_law_tables.proofs.Prelude.{length, Option, Some, None, Result, Ok, Err, slice_get, option_map_or, Node}
use Rattle.teco_law_tables.proofs.Prelude.{numbered, Polynomial, value, number, RefusalReason}
use Rattle.teco_law_tables.proofs.Prelude.{sum_of, at_node, turns_at, steps_of, weight, counted_with, count_from, Facts}
use Rattle.teco_law_tables.proofs.Prelude.{steps_before, commands, Table, facts_at, value_of, own_of, iterations_of}
use Rattle.teco_law_tables.proofs.Prelude.{turning, bound, some_of}
use Rattle.teco_law_facts.proofs.Shapes.{value-number}
use Rattle.teco_law_turns.specs.Table.{sum_below, product_by, weight_of}
use Rattle.teco_poly.proofs.Lawful.{value_of_sum, value_of_product}
use Rattle.teco_poly.specs.Polynomial.{add, mul}
use Rattle.teco_verifier.specs.declared.refusal.RefusalReason.TheVariants as refusal
use Rattle.teco_law_tables.specs.Laws.{CommandsAreSteps}
use Rattle.teco_verifier.specs.table.Printed.{turns_round, product_of}

product_has : (p q r : Polynomial) (n : ℕ) → product_of p q ≡ Ok r → value r n ≡ value p n * value q n
product_has p q r n h = value_of_product p q r n (some_of (mul p q) refusal.Overflow r h)

sum_has : (p q r : Polynomial) (n : ℕ) → sum_of p q ≡ Ok r → value r n ≡ value p n + value q n
sum_has p q r n h = value_of_sum p q r n (some_of (add p q) refusal.Overflow r h)

value_is : (n : ℕ) (r : Result Polynomial RefusalReason) (p : Polynomial) → r ≡ Ok p → value_of n r ≡ value p n
value_is n r p h = ap (value_of n) h

module _ (table : Table) (n : ℕ) where
  rounds_have : (begins : List ℕ) (p : Polynomial) → turns_round table begins ≡ Ok p
      → value p n ≡ product_by (λ begin. value_of n (turns_at table begin)) begins
  rounds_have [] p h = let e : number 1 ≡ p = cc in ap (λ (p : Polynomial). value p n) (sym e) ∙ value-number 1 n
  rounds_have (begin ∷ outer) p h =
      let rounds = bound (turns_round table outer) _ p h in
      let most = bound (turns_at table begin) _ p rounds.gives in
      let one = product_has most.before rounds.before p n most.gives in
      let two = rounds_have outer rounds.before rounds.was in
      let three = value_is n (turns_at table begin) most.before most.was in
      one ∙ (ap (λ x. x * value rounds.before n) (sym three) ∙ ap (λ x. value_of n (turns_at table begin) * x) two)

  weighs : (node : Node) (o : Option Facts) (p : Polynomial) → weight table node o ≡ Ok p →
      value p n ≡ own_of n (Some node) o * product_by (λ begin. value_of n (turns_at table begin)) node.stand.iterations
  weighs node None p h = let e : number 0 ≡ p = cc in ap (λ (p : Polynomial). value p n) (sym e)
      ∙ (value-number 0 n ∙ omega arith)
  weighs node (Some facts) p h =
      let own = bound (steps_of node.element facts) _ p h in
      let rounds = bound (turns_round table node.stand.iterations) _ p own.gives in
      let one = product_has own.before rounds.before p n rounds.gives in
      let two = rounds_have node.stand.iterations rounds.before rounds.was in
      let three = value_is n (steps_of node.element facts) own.before own.was in
      one ∙ (ap (λ x. x * value rounds.before n) (sym three)
      ∙ ap (λ x. value_of n (steps_of node.element facts) * x) two)

module _ (nodes : List Node) (table : Table) (n : ℕ) where
  weight_is : (k : ℕ) (node : Node) → numbered nodes k ≡ Some node →
      weight_of (turning nodes table n) k ≡ own_of n (Some node) (facts_at table k) * product_by
      (λ begin. value_of n (turns_at table begin)) node.stand.iterations
  weight_is k node h =
      ap (λ (o : Option Node). own_of n o (facts_at table k) * product_by (λ begin. value_of n (turns_at table begin))
      (option_map_or iterations_of o [])) h

  further : (k : ℕ) (node : Node) (rest : List Node) (total p : Polynomial) (r : Result Polynomial RefusalReason)
      → numbered nodes k ≡ Some node → counted_with table k node total ≡ r
      → at_node k r (count_from table (suc k) rest) ≡ Ok p →
      ((next : Polynomial) → count_from table (suc k) rest next ≡ Ok p
      → value p n + sum_below (weight_of (turning nodes table n)) (suc k) ≡ value next n + sum_below
      (weight_of (turning nodes table n)) (suc k + length rest)) →
      value p n + sum_below (weight_of (turning nodes table n)) k ≡ value total n + sum_below
      (weight_of (turning nodes table n)) (suc k + length rest)
  further k node rest total p (Err why) at e h on = absurd (cc)
  further k node rest total p (Ok next) at e h on =
      let more = bound (weight table node (facts_at table k)) _ next e in
      let sum = sum_has total more.before next n more.gives in
      let here = weight_is k node at ∙ sym (weighs table n node (facts_at table k) more.before more.was) in
      let all = on next h in
      omega (arith, sum, here, all)

  counts : (k : ℕ) (rest : List Node) (total p : Polynomial)
      → ((j : ℕ) (node : Node) → slice_get rest j ≡ Some node → numbered nodes (k + j) ≡ Some node)
      → count_from table k rest total ≡ Ok p →
      value p n + sum_below (weight_of (turning nodes table n)) k ≡ value total n + sum_below
      (weight_of (turning nodes table n)) (k + length rest)
  counts k [] total p at h =
      let e : total ≡ p = cc in
      let z : k + 0 ≡ k = omega arith in
      rw z (ap (λ (p : Polynomial). value p n + sum_below (weight_of (turning nodes table n)) k) (sym e))
  counts k (node ∷ rest) total p at h =
      let z : k ≡ k + 0 = omega arith in
      let s : suc k + length rest ≡ k + suc (length rest) = omega arith in
      let zeroth : numbered nodes k ≡ Some node = ap (numbered nodes) z ∙ at 0 node refl in
      let all = further k node rest total p _ zeroth refl h
      (λ next g. counts (suc k) rest next p (later k node rest at) g) in
      subst (λ m. value p n + sum_below (weight_of (turning nodes table n)) k ≡ value total n + sum_below
      (weight_of (turning nodes table n)) m) s all
    where
      later : (k : ℕ) (node : Node) (rest : List Node)
          → ((j : ℕ) (m : Node) → slice_get (node ∷ rest) j ≡ Some m → numbered nodes (k + j) ≡ Some m)
          → (j : ℕ) (m : Node) → slice_get rest j ≡ Some m → numbered nodes (suc k + j) ≡ Some m
      later k node rest at j m e = let s : suc k + j ≡ k + suc j = omega arith in ap (numbered nodes) s ∙ at (suc j) m e

pub commands_are_steps : CommandsAreSteps
unfolding commands
commands_are_steps argument nodes table printed n h =
    let there : (j : ℕ) (node : Node) → slice_get nodes j ≡ Some node → numbered nodes (1 + j) ≡ Some node =
    λ j node e. let s : 1 + j ≡ suc j = omega arith in ap (numbered nodes) s ∙ e in
    let all = counts nodes table n 1 nodes (number (steps_before argument)) printed there h in
    let before = value-number (steps_before argument) n in
    let first : weight_of (turning nodes table n) 0 ≡ 0 = omega arith in
    let next : 1 + length nodes ≡ suc (length nodes) = omega arith in
    let one : sum_below (weight_of (turning nodes table n)) (1 + length nodes) ≡ sum_below
    (weight_of (turning nodes table n)) (suc (length nodes)) =
    ap (sum_below (weight_of (turning nodes table n))) next in
    omega (arith, all, before, first, one)
