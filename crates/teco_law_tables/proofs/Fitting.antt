-- What is known at a node that is reached fits, where the printed size does, and so do the edges behind it.
use Rattle.teco_law_tables.proofs.Prelude.{◌≡◌, ℕ, zero, suc, ◌+◌, ◌≤◌, refl, sym, ap, ◌∙◌, subst, arith, List, [], ◌∷◌}
use Rattle.teco_law_tables.proofs.Prelude.{Option, Some, None, Result, Ok, Err, slice_get, IsTrue, AllByRecursion}
use Rattle.teco_law_tables.proofs.Prelude.{LIMIT, Node, numbered, values_compare, Polynomial, value, and_both, at_node}
use Rattle.teco_law_tables.proofs.Prelude.{ArgumentRange, RefusalReason, each_covers, covers, Facts, join_of, Fits}
use Rattle.teco_law_tables.proofs.Prelude.{steps_of, weight, counted_with, count_from, commands, joined_with}
use Rattle.teco_law_tables.proofs.Prelude.{sized_with, size_from, size, Table, facts_at, bound, some_of}
use Rattle.teco_poly.proofs.Lawful.{value_of_join}
use Rattle.teco_poly.specs.Polynomial.{join}
use Rattle.teco_verifier.specs.declared.refusal.RefusalReason.TheVariants as refusal
use Rattle.teco_verifier.specs.facts.Covers.{covers_length}
use Rattle.teco_law_tables.proofs.Closing.{held_covered}

-- ---- the steps of each node that is reached are printed
module _ (table : Table) where
  weighed : (k j : ℕ) (rest : List Node) (total p : Polynomial) (node : Node) → count_from table k rest total ≡ Ok p
      → slice_get rest j ≡ Some node → (m : Polynomial) × (weight table node (facts_at table (k + j)) ≡ Ok m)
  weighed k j [] total p node h at = absurd (cc)
  weighed k zero (x ∷ rest) total p node h at = here _ refl h
    where
      here : (r : Result Polynomial RefusalReason) → counted_with table k x total ≡ r
          → at_node k r (count_from table (suc k) rest) ≡ Ok p
          → (m : Polynomial) × (weight table node (facts_at table (k + 0)) ≡ Ok m)
      here (Err why) e h = absurd (cc)
      here (Ok next) e h =
          let same : x ≡ node = cc in
          let z : k ≡ k + 0 = omega arith in
          let more = bound (weight table x (facts_at table k)) _ next e in (
            more.before,
            subst (λ i. weight table node (facts_at table i) ≡ Ok more.before) z
                (subst (λ (x : Node). weight table x (facts_at table k) ≡ Ok more.before) same more.was),
          )
  weighed k (suc j) (x ∷ rest) total p node h at = here _ refl h (λ next g. weighed (suc k) j rest next p node g at)
    where
      here : (r : Result Polynomial RefusalReason) → counted_with table k x total ≡ r
          → at_node k r (count_from table (suc k) rest) ≡ Ok p
          → ((next : Polynomial) → count_from table (suc k) rest next ≡ Ok p
          → (m : Polynomial) × (weight table node (facts_at table (suc k + j)) ≡ Ok m))
          → (m : Polynomial) × (weight table node (facts_at table (k + suc j)) ≡ Ok m)
      here (Err why) e h on = absurd (cc)
      here (Ok next) e h on =
          let z : suc k + j ≡ k + suc j = omega arith in
          let w = on next h in
          (w.0, subst (λ i. weight table node (facts_at table i) ≡ Ok w.0) z w.1)

  pub steps_known : (argument : Option ArgumentRange) (nodes : List Node) (k : ℕ) (node : Node) (facts : Facts)
      (p : Polynomial) → commands argument nodes table ≡ Ok p → numbered nodes k ≡ Some node
      → facts_at table k ≡ Some facts → (most : Polynomial) × (steps_of node.element facts ≡ Ok most)
  unfolding commands
  steps_known argument nodes zero node facts p h at known = absurd (cc)
  steps_known argument nodes (suc k) node facts p h at known =
      let w = weighed 1 k nodes _ p node h at in
      let z : 1 + k ≡ suc k = omega arith in
      let there : weight table node (Some facts) ≡ Ok w.0 = ap (weight table node) (sym known)
      ∙ (ap (λ i. weight table node (facts_at table i)) (sym z) ∙ w.1) in
      let own = bound (steps_of node.element facts) _ w.0 there in
      (own.before, own.was)

  -- ---- sizes
  joined_grow : (ps : List Polynomial) (acc p : Polynomial) (n : ℕ) → joined_with ps acc ≡ Ok p
      → (value acc n ≤ value p n) × AllByRecursion (λ q. value q n ≤ value p n) ps
  joined_grow [] acc p n h = let e : acc ≡ p = cc in (subst (λ p. value acc n ≤ value p n) e (omega arith), tt)
  joined_grow (q ∷ ps) acc p n h =
      let more = bound (join_of acc q) _ p h in
      let both = value_of_join acc q more.before n (some_of (join acc q) refusal.Overflow more.before more.was) in
      let rest = joined_grow ps more.before p n more.gives in
      (omega (arith, both.0, rest.0), (omega (arith, both.1, rest.0), rest.1))

  sized_grow : (o : Option Facts) (acc p : Polynomial) (n : ℕ) → sized_with o acc ≡ Ok p → value acc n ≤ value p n
  sized_grow None acc p n h = let e : acc ≡ p = cc in subst (λ p. value acc n ≤ value p n) e (omega arith)
  sized_grow (Some facts) acc p n h = (joined_grow (facts.held ∷ facts.texts) acc p n h).0

  sizes_grow : (k : ℕ) (rest : List Node) (acc p : Polynomial) (n : ℕ) → size_from table k rest acc ≡ Ok p
      → value acc n ≤ value p n
  sizes_grow k [] acc p n h = let e : acc ≡ p = cc in subst (λ p. value acc n ≤ value p n) e (omega arith)
  sizes_grow k (x ∷ rest) acc p n h = here _ refl h (λ next g. sizes_grow (suc k) rest next p n g)
    where
      here : (r : Result Polynomial RefusalReason) → sized_with (facts_at table k) acc ≡ r
          → at_node k r (size_from table (suc k) rest) ≡ Ok p
          → ((next : Polynomial) → size_from table (suc k) rest next ≡ Ok p → value next n ≤ value p n)
          → value acc n ≤ value p n
      here (Err why) e h on = absurd (cc)
      here (Ok next) e h on = omega (arith, on next h, sized_grow (facts_at table k) acc next n e)

  all_lower : (m n : ℕ) (ps : List Polynomial) (most : ℕ) → m ≤ most → AllByRecursion (λ q. value q n ≤ m) ps
      → AllByRecursion (λ q. value q n ≤ most) ps
  all_lower m n [] most l h = tt
  all_lower m n (q ∷ ps) most l h = (omega (arith, h.0, l), all_lower m n ps most l h.1)

  sized : (k j : ℕ) (rest : List Node) (acc p : Polynomial) (n : ℕ) (node : Node) (facts : Facts)
      → size_from table k rest acc ≡ Ok p → slice_get rest j ≡ Some node → facts_at table (k + j) ≡ Some facts
      → AllByRecursion (λ q. value q n ≤ value p n) (facts.held ∷ facts.texts)
  sized k j [] acc p n node facts h at known = absurd (cc)
  sized k zero (x ∷ rest) acc p n node facts h at known = here _ refl h
    where
      here : (r : Result Polynomial RefusalReason) → sized_with (facts_at table k) acc ≡ r
          → at_node k r (size_from table (suc k) rest) ≡ Ok p
          → AllByRecursion (λ q. value q n ≤ value p n) (facts.held ∷ facts.texts)
      here (Err why) e h = absurd (cc)
      here (Ok next) e h =
          let z : k + 0 ≡ k = omega arith in
          let there : sized_with (Some facts) acc ≡ Ok next =
          ap (λ o. sized_with o acc) (sym (ap (facts_at table) (sym z) ∙ known)) ∙ e in
          all_lower (value next n) n (facts.held ∷ facts.texts) (value p n) (sizes_grow (suc k) rest next p n h)
          (joined_grow (facts.held ∷ facts.texts) acc next n there).1
  sized k (suc j) (x ∷ rest) acc p n node facts h at known =
      let z : suc k + j ≡ k + suc j = omega arith in
      here _ refl h (λ next g. sized (suc k) j rest next p n node facts g at (ap (facts_at table) z ∙ known))
    where
      here : (r : Result Polynomial RefusalReason) → sized_with (facts_at table k) acc ≡ r
          → at_node k r (size_from table (suc k) rest) ≡ Ok p
          → ((next : Polynomial) → size_from table (suc k) rest next ≡ Ok p
          → AllByRecursion (λ q. value q n ≤ value p n) (facts.held ∷ facts.texts))
          → AllByRecursion (λ q. value q n ≤ value p n) (facts.held ∷ facts.texts)
      here (Err why) e h on = absurd (cc)
      here (Ok next) e h on = on next h

  pub facts_fit : (nodes : List Node) (k : ℕ) (node : Node) (facts : Facts) (most : Polynomial) (n : ℕ)
      → size nodes table ≡ Ok most → value most n ≤ LIMIT → numbered nodes k ≡ Some node → facts_at table k ≡ Some facts
      → Fits n facts
  unfolding size
  facts_fit nodes zero node facts most n h l at known = absurd (cc)
  facts_fit nodes (suc k) node facts most n h l at known =
      let z : 1 + k ≡ suc k = omega arith in
      let all = all_lower (value most n) n (facts.held ∷ facts.texts) LIMIT l
      (sized 1 k nodes _ most n node facts h at (ap (facts_at table) z ∙ known)) in
      record { buffer = all.0; texts = all.1 }

-- ---- the edges fit
texts_fit : (n : ℕ) (texts others : List Polynomial) → IsTrue (each_covers covers_length texts others)
    → AllByRecursion (λ q. value q n ≤ LIMIT) texts → AllByRecursion (λ q. value q n ≤ LIMIT) others
texts_fit n [] [] c h = tt
texts_fit n (p ∷ texts) (q ∷ others) c h =
    let both = and_both _ _ c in
    let less : value q n ≤ value p n = values_compare q p n both.0 in
    (omega (arith, less, h.0), texts_fit n texts others both.1 h.1)
texts_fit n [] (q ∷ others) c h = absurd (cc)
texts_fit n (p ∷ texts) [] c h = absurd (cc)

pub fits_covered : (n : ℕ) (facts next : Facts) → IsTrue (covers facts next) → Fits n facts → Fits n next
fits_covered n facts next c f =
    let held : value next.held n ≤ value facts.held n =
    values_compare next.held facts.held n (held_covered facts next c) in
    let buffer : value next.held n ≤ LIMIT = omega (arith, held, f.buffer) in
    let p = and_both _ _ c in
    record { buffer = buffer; texts = texts_fit n facts.texts next.texts (and_both _ _ p.0).1 f.texts }
