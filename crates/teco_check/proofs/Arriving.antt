-- What has arrived at each node, and a table that is derived row by row.
use Rattle.teco_check.proofs.Prelude.{◌≡◌, subst, refl, sym, ◌∙◌, ap, ℕ, zero, suc, ◌+◌, ◌-◌, ◌<◌, ◌≤◌, ◌==◌, Bool}
use Rattle.teco_check.proofs.Prelude.{true, false, List, [], ◌∷◌, ◌++◌, append_assoc, length, set, get_or, take, drop}
use Rattle.teco_check.proofs.Prelude.{replicate, Option, Some, None, Result, Ok, Err, if◌then◌else◌, slice_get, add-one}
use Rattle.teco_check.proofs.Prelude.{arith, drop_all, nat_tests, Node, RefusalReason, ◌>>=◌, ArgumentRange}
use Rattle.teco_check.proofs.Prelude.{facts_given}
use Rattle.teco_check.proofs.Prelude.{Facts, Chosen, Arrival, met, met_with, derived_at, Row, Table, facts_at}
use Rattle.teco_check.proofs.Prelude.{NotDerived, AreLarge, Slots, arrived_at, arrived_all, arrivals_of, node_at}
use Rattle.std.proofs.Common.{◌⊎◌, inl, inr}
use Rattle.std.proofs.Common.{length-append}
use Rattle.std.proofs.lemmas.List.{append-nil, length-set, length-replicate, take-append-drop}
use Rattle.std.proofs.lemmas.Bool.{cases_eq}
use Rattle.std.specs.Option.{option_and_then}
use Rattle.teco_verifier.specs.table.Deriving.{derive, derive_from}
use Rattle.teco_verifier.specs.table.Table.{facts_in}
use Rattle.teco_check.specs.declared.derivation.NotDerived.TheVariants as fault
use Rattle.teco_check.specs.Derived.{HasLarge, Derives, DerivesFrom, DerivesUpTo, IsRefusedAt}
use Rattle.teco_check.specs.Derived.{met_more, derived_from, table_up_to}
use Rattle.teco_check.specs.Derived.{DerivesTo}
use Rattle.teco_check.specs.Here.{IsNumberOf}
use Rattle.teco_check.proofs.Further.{nodes_from}

-- steps one after another
ok_of : {A B : Type 0} (r : Result A RefusalReason) (f : A → Result B RefusalReason) (b : B) → (r >>= f) ≡ Ok b
    → (a : A) × (r ≡ Ok a) × (f a ≡ Ok b)
ok_of (Ok a) f b h = (a, refl, h)
ok_of (Err why) f b h = absurd (cc)

done : {A : Type 0} (r : Result A RefusalReason) → (r >>= (λ x. Ok x)) ≡ r
done (Ok a) = refl
done (Err why) = refl

-- one more edge that arrives
last_met : (b : Bool) (known : Option Facts) (facts : Facts)
    → (if b then (met_with known facts >>= (λ more. Ok more)) else Ok known) ≡
    (if b then met_with known facts else Ok known)
last_met true known facts = done (met_with known facts)
last_met false known facts = refl

-- where an edge arrives at this node before, by what is known then
after_met : (r : Result (Option Facts) RefusalReason) (all before : Option Facts → Result (Option Facts) RefusalReason)
    (c : Bool)
    (facts : Facts) → ((more : Option Facts) → all more ≡ (if c then met_more (before more) facts else before more))
    → (r >>= all) ≡ (if c then met_more (r >>= before) facts else (r >>= before))
after_met (Err why) all before true facts h = refl
after_met (Err why) all before false facts h = refl
after_met (Ok more) all before c facts h = h more

by_first : (b : Bool) (r : Result (Option Facts) RefusalReason) (known : Option Facts) (all before : Option Facts
    → Result (Option Facts) RefusalReason) (c : Bool) (facts : Facts)
    → ((more : Option Facts) → all more ≡ (if c then met_more (before more) facts else before more))
    → (if b then (r >>= all) else all known) ≡
    (if c then met_more (if b then (r >>= before) else before known) facts else
    (if b then (r >>= before) else before known))
by_first true r known all before c facts h = after_met r all before c facts h
by_first false r known all before c facts h = h known

met_last : (number : ℕ) (arrivals : List Arrival) (target : ℕ) (facts : Facts) (known : Option Facts)
    → met number (arrivals ++ record { target = target; facts = facts } ∷ []) known ≡
    (if target == number then met_more (met number arrivals known) facts else met number arrivals known)
met_last number [] target facts known = last_met (target == number) known facts
met_last number (a ∷ arrivals) target facts known =
    by_first (a.target == number) (met_with known a.facts) known
    (met number (arrivals ++ record { target = target; facts = facts } ∷ [])) (met number arrivals)
    (target == number) facts (λ more. met_last number arrivals target facts more)

-- what stands at a place, whatever would stand for it
pub got_there : {X : Type 0} (xs : List X) (k : ℕ) (x y : X) → k < length xs → get_or xs k x ≡ get_or xs k y
got_there [] k x y h = absurd (omega arith)
got_there (z ∷ xs) zero x y h = refl
got_there (z ∷ xs) (suc k) x y h = got_there xs k x y (omega arith)

put_twice : {X : Type 0} (xs : List X) (k : ℕ) (x y : X) → set (set xs k x) k y ≡ set xs k y
put_twice [] k x y = refl
put_twice (z ∷ xs) zero x y = refl
put_twice (z ∷ xs) (suc k) x y = ap (λ zs. z ∷ zs) (put_twice xs k x y)

put_outside : {X : Type 0} (xs : List X) (k : ℕ) (x : X) → length xs ≤ k → set xs k x ≡ xs
put_outside [] k x h = refl
put_outside (z ∷ xs) zero x h = absurd (omega arith)
put_outside (z ∷ xs) (suc k) x h = ap (λ zs. z ∷ zs) (put_outside xs k x (omega arith))

pub arrived_inside : (slots : Slots) (target : ℕ) (facts : Facts) (x slot new : Result (Option Facts) RefusalReason)
    → 0 < target → target ≤ length slots → slot ≡ get_or slots (target - 1) slot → new ≡ met_more slot facts
    → set (set slots (target - 1) x) (target - 1) new ≡ arrived_at target facts slots
arrived_inside slots zero facts x slot new h l d e = absurd (omega arith)
arrived_inside slots (suc k) facts x slot new h l d e =
    let same : suc k - 1 ≡ k = omega arith in
    let here : slot ≡ get_or slots k slot = rw same at d in
    let is : slot ≡ get_or slots k (Ok None) = here ∙ got_there slots k slot (Ok None) (omega arith) in
    rw same (put_twice slots k x new ∙ ap (set slots k) (e ∙ ap (λ r. met_more r facts) is))

pub arrived_outside : (slots : Slots) (target : ℕ) (facts : Facts) → length slots < target
    → slots ≡ arrived_at target facts slots
arrived_outside slots zero facts h = refl
arrived_outside slots (suc k) facts h = sym (put_outside slots k _ (omega arith))

-- for each node from one on, what arrived there is kept
pub record AreMet (slots : Slots) (arrivals : List Arrival) (first count : ℕ) : Type 0 where
  pub long : length slots ≡ count
  pub each : (k : ℕ) → first ≤ k → k < count → get_or slots k (Ok None) ≡ met (suc k) arrivals None

get_at : (slots : Slots) (k : ℕ) (x : Result (Option Facts) RefusalReason) → k < length slots
    → get_or (set slots k x) k (Ok None) ≡ x
get_at [] k x h = absurd (omega arith)
get_at (s ∷ slots) zero x h = refl
get_at (s ∷ slots) (suc k) x h = get_at slots k x (omega arith)

get_beside : (slots : Slots) (i k : ℕ) (x : Result (Option Facts) RefusalReason) → ¬ (i ≡ k)
    → get_or (set slots i x) k (Ok None) ≡ get_or slots k (Ok None)
get_beside [] i k x h = refl
get_beside (s ∷ slots) zero zero x h = absurd (h refl)
get_beside (s ∷ slots) zero (suc k) x h = refl
get_beside (s ∷ slots) (suc i) zero x h = refl
get_beside (s ∷ slots) (suc i) (suc k) x h = get_beside slots i k x (λ e. h (ap suc e))

same : (n : ℕ) → (n == n) ≡ true
same n = grind (arith, nat_tests)

differs : (m n : ℕ) → ¬ (m ≡ n) → (m == n) ≡ false
differs m n h = grind (arith, nat_tests)

pub met_one : (slots : Slots) (arrivals : List Arrival) (first count target : ℕ) (facts : Facts)
    → AreMet slots arrivals first count
    → AreMet (arrived_at target facts slots) (arrivals ++ record { target = target; facts = facts } ∷ []) first count
met_one slots arrivals first count zero facts m = record {
  long = m.long;
  each = λ k h l. m.each k h l ∙ sym (met_last (suc k) arrivals zero facts None
      ∙ rw (differs zero (suc k) (λ e. absurd (omega arith))) refl);
}
met_one slots arrivals first count (suc i) facts m = record {
  long = length-set slots i _ ∙ m.long;
  each = λ k h l. by_place k h l (cases_eq i k);
}
  where
    by_place : (k : ℕ) → first ≤ k → k < count → (i ≡ k) ⊎ (¬ (i ≡ k))
        → get_or (set slots i (met_more (get_or slots i (Ok None)) facts)) k (Ok None) ≡ met (suc k)
        (arrivals ++ record { target = suc i; facts = facts } ∷ []) None
    by_place k h l (inl e) =
        let within : i < length slots = rw (m.long, e) l in
        subst (λ (n : ℕ). get_or (set slots i (met_more (get_or slots i (Ok None)) facts)) n (Ok None) ≡ met (suc n)
        (arrivals ++ record { target = suc i; facts = facts } ∷ []) None) e
        (get_at slots i _ within ∙ ap (λ r. met_more r facts) (m.each i (rw e h) (rw e l))
        ∙ sym (met_last (suc i) arrivals (suc i) facts None ∙ rw (same (suc i)) refl))
    by_place k h l (inr e) = get_beside slots i k _ e ∙ m.each k h l
        ∙ sym (met_last (suc k) arrivals (suc i) facts None ∙ rw (differs (suc i) (suc k) (λ s. e (omega arith))) refl)

pub met_all : (slots : Slots) (arrivals more : List Arrival) (first count : ℕ) → AreMet slots arrivals first count
    → AreMet (arrived_all more slots) (arrivals ++ more) first count
met_all slots arrivals [] first count m = rw (append-nil arrivals) m
met_all slots arrivals (a ∷ more) first count m =
    let next = met_all (arrived_at a.target a.facts slots) (arrivals ++ a ∷ []) more first count
    (met_one slots arrivals first count a.target a.facts m) in
    rw (append_assoc arrivals (a ∷ []) more) at next

-- what is taken out is not looked at again
pub met_behind : (slots : Slots) (arrivals : List Arrival) (k count : ℕ) → AreMet slots arrivals k count
    → AreMet (set slots k (Ok None)) arrivals (suc k) count
met_behind slots arrivals k count m = record {
  long = length-set slots k _ ∙ m.long;
  each = λ n h l. get_beside slots k n _ (λ e. absurd (omega arith)) ∙ m.each n (omega arith) l;
}

abbrev nothing : Result (Option Facts) RefusalReason
nothing = Ok None

nothing_at : (count k : ℕ) → k < count → get_or (replicate count nothing) k (Ok None) ≡ Ok None
nothing_at zero k h = absurd (omega arith)
nothing_at (suc count) zero h = refl
nothing_at (suc count) (suc k) h = nothing_at count k (omega arith)

-- the edges that arrived before the node behind a number
unfoldable pub arrivals_before : Option ArgumentRange → List Node → List Chosen → ℕ → List Arrival
arrivals_before argument nodes chosen zero = record { target = 1; facts = facts_given argument } ∷ []
arrivals_before argument nodes chosen (suc k) =
    let before = arrivals_before argument nodes chosen k in
    before ++ arrivals_of (met (suc k) before None >>= derived_at nodes chosen (suc k) (node_at nodes (suc k)))

-- so far a table is derived
pub record AreDerived (argument : Option ArgumentRange) (nodes : List Node) (chosen : List Chosen) (k : ℕ)
    (slots : Slots) (table : Table) : Type 0 where
  pub met : AreMet slots (arrivals_before argument nodes chosen k) k (length nodes)
  pub ahead : (rest : List Node) → derive_from nodes chosen 1 (take k nodes ++ rest)
      (record { target = 1; facts = facts_given argument } ∷ []) ≡
      (derive_from nodes chosen (suc k) rest (arrivals_before argument nodes chosen k) >>= (λ rows. Ok (table ++ rows)))
  pub rows : length table ≡ k

-- the whole of it
derived_so : (argument : Option ArgumentRange) (nodes : List Node) (chosen : List Chosen) (k : ℕ) (slots : Slots)
    (table : Table) → AreDerived argument nodes chosen k slots table
    → derive argument nodes chosen ≡
    (derive_from nodes chosen (suc k) (drop k nodes) (arrivals_before argument nodes chosen k)
    >>= (λ rows. Ok (table ++ rows)))
unfolding derive
derived_so argument nodes chosen k slots table a =
    ap (λ those. derive_from nodes chosen 1 those (record { target = 1; facts = facts_given argument } ∷ []))
    (sym (take-append-drop k nodes)) ∙ a.ahead (drop k nodes)

-- one node more
take_more : (nodes rest : List Node) (k : ℕ) → k < length nodes → take (suc k) nodes ++ rest ≡ take k nodes
    ++ node_at nodes (suc k) ∷ rest
unfolding node_at
take_more [] rest k h = absurd (omega arith)
take_more (node ∷ nodes) rest zero h = refl
take_more (node ∷ nodes) rest (suc k) h = ap (λ those. node ∷ those) (take_more nodes rest k (omega arith))

pub begun : (argument : Option ArgumentRange) (nodes : List Node) (chosen : List Chosen) (slots : Slots)
    → slots ≡ arrived_at 1 (facts_given argument) (replicate (length nodes) (Ok None))
    → AreDerived argument nodes chosen 0 slots []
unfolding arrivals_before
begun argument nodes chosen slots e = record {
  met = rw e (met_one (replicate (length nodes) (Ok None)) [] 0 (length nodes) 1 (facts_given argument)
      (record { long = length-replicate (length nodes) (Ok None); each = λ k h l. nothing_at (length nodes) k l }));
  ahead = λ rest.
      sym (done (derive_from nodes chosen 1 rest (record { target = 1; facts = facts_given argument } ∷ [])));
  rows = refl;
}

-- what is derived at the node behind a number
derived_is : (argument : Option ArgumentRange) (nodes : List Node) (chosen : List Chosen) (k : ℕ) (slots : Slots)
    → k < length nodes → AreMet slots (arrivals_before argument nodes chosen k) k (length nodes)
    → derived_from nodes chosen (k + 1) slots ≡ (met (suc k) (arrivals_before argument nodes chosen k) None
    >>= derived_at nodes chosen (suc k) (node_at nodes (suc k)))
derived_is argument nodes chosen k slots h m =
    let same : k + 1 - 1 ≡ k = omega arith in
    rw (same, add-one) (ap (λ r. r >>= derived_at nodes chosen (suc k) (node_at nodes (suc k)))
    (m.each k (omega arith) h))

rows_more : (rows : Result Table RefusalReason) (row : Row) (table : Table)
    → ((rows >>= (λ rest. Ok (row ∷ rest))) >>= (λ rest. Ok (table ++ rest))) ≡
    (rows >>= (λ rest. Ok ((table ++ row ∷ []) ++ rest)))
rows_more (Err why) row table = refl
rows_more (Ok rest) row table = ap Ok (sym (append_assoc table (row ∷ []) rest))

from_node : (nodes rest : List Node) (chosen : List Chosen) (k : ℕ) (before : List Arrival) (row : Row)
    (arrivals : List Arrival) → (met (suc k) before None >>= derived_at nodes chosen (suc k) (node_at nodes (suc k)))
    ≡ Ok (record { row = row; arrivals = arrivals })
    → derive_from nodes chosen (suc k) (node_at nodes (suc k) ∷ rest) before ≡
    (derive_from nodes chosen (suc (suc k)) rest (before ++ arrivals) >>= (λ rows. Ok (row ∷ rows)))
from_node nodes rest chosen k before row arrivals e =
    let known = ok_of (met (suc k) before None) _ _ e in
    rw (known.1, known.2) refl

refused_node : (nodes rest : List Node) (chosen : List Chosen) (k : ℕ) (before : List Arrival) (why : RefusalReason)
    → (met (suc k) before None >>= derived_at nodes chosen (suc k) (node_at nodes (suc k))) ≡ Err why
    → derive_from nodes chosen (suc k) (node_at nodes (suc k) ∷ rest) before ≡ Err why
refused_node nodes rest chosen k before why e = by_met (met (suc k) before None) e
  where
    by_met : (r : Result (Option Facts) RefusalReason)
        → (r >>= derived_at nodes chosen (suc k) (node_at nodes (suc k))) ≡ Err why
        → (r >>= (λ known. derived_at nodes chosen (suc k) (node_at nodes (suc k)) known
        >>= (λ here. derive_from nodes chosen (suc (suc k)) rest (before ++ here.arrivals)
        >>= (λ rows. Ok (here.row ∷ rows))))) ≡ Err why
    by_met (Err other) e = cc
    by_met (Ok known) e = rw e refl

-- one row more
pub row_more : (argument : Option ArgumentRange) (nodes : List Node) (chosen : List Chosen) (k : ℕ) (slots new : Slots)
    (table : Table) (row : Row) → k < length nodes → AreDerived argument nodes chosen k slots table
    → DerivesTo (derived_from nodes chosen (k + 1) slots) (set slots (k + 1 - 1) (Ok None)) new row
    → AreDerived argument nodes chosen (k + 1) new (table ++ row ∷ [])
unfolding arrivals_before
row_more argument nodes chosen k slots new table row h a d =
    let before = arrivals_before argument nodes chosen k in
    let is = derived_is argument nodes chosen k slots h a.met in
    let derived = rw is at d.derived in
    let same : k + 1 - 1 ≡ k = omega arith in
    rw add-one (record {
      met = rw (d.arrived, is, same) (met_all (set slots k (Ok None)) before _ (suc k) (length nodes)
          (met_behind slots before k (length nodes) a.met));
      ahead = λ rest. ap (λ those. derive_from nodes chosen 1 those
          (record { target = 1; facts = facts_given argument } ∷ [])) (take_more nodes rest k h)
          ∙ (a.ahead (node_at nodes (suc k) ∷ rest) ∙ rw (from_node nodes rest chosen k before row _ derived)
          (rows_more _ row table));
      rows = length-append table (row ∷ []) ∙ ap (λ n. n + 1) a.rows ∙ add-one k;
    })

-- a row that is refused
module _ (argument : Option ArgumentRange) (nodes : List Node) (chosen : List Chosen) (k : ℕ) (slots : Slots)
    (table : Table) (why : RefusalReason) (h : k < length nodes) (a : AreDerived argument nodes chosen k slots table)
    (e : derived_from nodes chosen (k + 1) slots ≡ Err why) where
  refused_with : (rest : List Node)
      → (derive_from nodes chosen (suc k) (node_at nodes (suc k) ∷ rest) (arrivals_before argument nodes chosen k)
      >>= (λ rows. Ok (table ++ rows))) ≡ Err why
  refused_with rest = rw (refused_node nodes rest chosen k (arrivals_before argument nodes chosen k) why
      (sym (derived_is argument nodes chosen k slots h a.met) ∙ e)) refl

  pub row_refused : derive argument nodes chosen ≡ Err why
  row_refused = derived_so argument nodes chosen k slots table a
      ∙ rw (nodes_from nodes k h) (refused_with (drop (suc k) nodes))

  refused_here : table_up_to argument nodes chosen (suc k) ≡ Err why
  refused_here =
      ap (λ those. derive_from nodes chosen 1 those (record { target = 1; facts = facts_given argument } ∷ []))
      (sym (append-nil (take (suc k) nodes)) ∙ take_more nodes [] k h)
      ∙ (a.ahead (node_at nodes (suc k) ∷ []) ∙ refused_with [])

  up_to_here : table_up_to argument nodes chosen k ≡ Ok (table ++ [])
  up_to_here = ap (λ those. derive_from nodes chosen 1 those (record { target = 1; facts = facts_given argument } ∷ []))
      (sym (append-nil (take k nodes))) ∙ a.ahead []

  refused_at : IsRefusedAt argument nodes chosen (k + 1) why
  refused_at =
      let same : k + 1 - 1 ≡ k = omega arith in
      record {
        there = record { one = omega arith; last = omega (arith, h) };
        before = rw (same, up_to_here) refl;
        refused = rw (add-one k) refused_here;
      }

pub all_derived : (argument : Option ArgumentRange) (nodes : List Node) (chosen : List Chosen) (k : ℕ) (slots : Slots)
    (table : Table) → length nodes ≤ k → AreDerived argument nodes chosen k slots table
    → derive argument nodes chosen ≡ Ok table
all_derived argument nodes chosen k slots table h a = derived_so argument nodes chosen k slots table a
    ∙ rw (drop_all k nodes h, append-nil) refl

row_there : (table : Table) (k : ℕ) (row : Row) (rest : Table) → length table ≡ k
    → slice_get (table ++ row ∷ rest) k ≡ Some row
row_there [] zero row rest h = refl
row_there [] (suc k) row rest h = absurd (omega (arith, h))
row_there (first ∷ table) zero row rest h = absurd (omega (arith, h))
row_there (first ∷ table) (suc k) row rest h = row_there table k row rest (omega (arith, h))

table_of : Result Table RefusalReason → Table
table_of (Ok table) = table
table_of (Err why) = []

large_in : (argument : Option ArgumentRange) (nodes : List Node) (chosen : List Chosen) (k : ℕ) (slots : Slots)
    (table : Table) → k < length nodes → AreDerived argument nodes chosen k slots table
    → HasLarge (derived_from nodes chosen (k + 1) slots) (k + 1) (k + 1) → (whole : Table)
    → derive argument nodes chosen ≡ Ok whole → AreLarge (facts_at whole (k + 1))
unfolding ok_of table_of
large_in argument nodes chosen k slots table h a l whole e =
    let before = arrivals_before argument nodes chosen k in
    let rows = ok_of (derive_from nodes chosen (suc k) (drop k nodes) before) _ whole
    (sym (derived_so argument nodes chosen k slots table a) ∙ e) in
    let known = ok_of (met (suc k) before None) _ rows.0
    (ap (λ nodes_here. derive_from nodes chosen (suc k) nodes_here before) (sym (nodes_from nodes k h)) ∙ rows.1) in
    let here = ok_of (derived_at nodes chosen (suc k) (node_at nodes (suc k)) known.0) _ rows.0 known.2 in
    let rest = ok_of (derive_from nodes chosen (suc (suc k)) (drop (suc k) nodes) (before ++ here.0.arrivals)) _ rows.0
    here.2 in
    let is : derived_from nodes chosen (k + 1) slots ≡ Ok here.0 = derived_is argument nodes chosen k slots h a.met
    ∙ (ap (λ r. r >>= derived_at nodes chosen (suc k) (node_at nodes (suc k))) known.1 ∙ here.1) in
    let same : table ++ here.0.row ∷ rest.0 ≡ whole = ap (λ more. table ++ more) (ap table_of rest.2)
    ∙ ap table_of rows.2 in
    let there : facts_at whole (suc k) ≡ here.0.row.facts = ap (λ t. facts_at t (suc k)) (sym same)
    ∙ ap (option_and_then facts_in) (row_there table k here.0.row rest.0 a.rows) in
    subst (λ n. AreLarge (facts_at whole n)) (sym (add-one k)) (subst AreLarge (sym there) (l.large here.0 is))

-- what is said of a row is said of the whole
pub row_said : (argument : Option ArgumentRange) (nodes : List Node) (chosen : List Chosen) (k : ℕ) (slots new : Slots)
    (table : Table) (why : NotDerived) → k < length nodes → AreDerived argument nodes chosen k slots table
    → DerivesFrom nodes chosen (k + 1) slots new (Err why) → Derives (derive argument nodes chosen) (Err why)
row_said argument nodes chosen k slots new table (fault.Refused why node) h a e =
    row_refused argument nodes chosen k slots table why h a e.refused
row_said argument nodes chosen k slots new table (fault.Large node) h a e =
    subst (λ n. (whole : Table) → derive argument nodes chosen ≡ Ok whole → AreLarge (facts_at whole n)) (sym e.here)
    (large_in argument nodes chosen k slots table h a (record { here = refl; large = e.large }))
row_said argument nodes chosen k slots new table fault.Memory h a e = tt

pub row_told : (argument : Option ArgumentRange) (nodes : List Node) (chosen : List Chosen) (k : ℕ) (slots new : Slots)
    (table : Table) (why : NotDerived) → k < length nodes → AreDerived argument nodes chosen k slots table
    → DerivesFrom nodes chosen (k + 1) slots new (Err why) → DerivesUpTo argument nodes chosen (Err why)
row_told argument nodes chosen k slots new table (fault.Refused why node) h a e =
    subst (λ n. IsRefusedAt argument nodes chosen n why) (sym e.here)
    (refused_at argument nodes chosen k slots table why h a e.refused)
row_told argument nodes chosen k slots new table (fault.Large node) h a e =
    subst (IsNumberOf nodes) (sym e.here) (record { one = omega arith; last = omega (arith, h) })
row_told argument nodes chosen k slots new table fault.Memory h a e = tt
