-- What is printed of the table of a straight text.
use Rattle.teco_law_tables.proofs.Prelude.{◌≡◌, ℕ, zero, suc, ◌+◌, ◌≤◌, List, [], ◌∷◌, drop, length, false, Some, None}
use Rattle.teco_law_tables.proofs.Prelude.{Ok, refl, ap, arith, AllByRecursion, Facts, sum_of, join_of, LIMIT}
use Rattle.teco_law_tables.proofs.Prelude.{REGISTERS, DropAll, Text, Kind, Element, number, begins_by_kind, steps}
use Rattle.teco_law_tables.proofs.Prelude.{needs, no_needs, weight, count_from, commands, joined_with, sized_with}
use Rattle.teco_law_tables.proofs.Prelude.{size_from, size, needs_from, needs_in, Table, IsStraightKind}
use Rattle.teco_law_tables.proofs.Prelude.{IsStraightElement, inserted_by, inserted, stand_in_text, node_going_on}
use Rattle.teco_law_tables.proofs.Prelude.{nodes_in_text, straight_nodes, facts_behind_insertions, rows_in_text}
use Rattle.teco_law_tables.proofs.Prelude.{straight_table}
use Rattle.std.proofs.Common.{max}
use Rattle.std.proofs.Common.{replicate}
use Rattle.teco_model.specs.declared.kind.Command.TheVariants as command
use Rattle.teco_model.specs.declared.kind.Flow.TheVariants as flow
use Rattle.teco_model.specs.declared.kind.Kind.TheVariants as kind
use Rattle.teco_poly.specs.declared.coefficients.TheConstants.{COEFFICIENTS}
use Rattle.teco_poly.specs.Polynomial.{variable, first}
use Rattle.teco_poly.specs.Reading.{IsPoly}
use Rattle.teco_law_tables.specs.straight_text.Straight.{MOST_STRAIGHT}
use Rattle.teco_law_tables.specs.straight_text.Facts.{and_more}
use Rattle.teco_law_tables.specs.straight_text.Accepted.{BeginsNoIteration, StraightTablesPrint}
use Rattle.teco_law_tables.proofs.straight_text.Alike.{drop-behind}
use Rattle.teco_law_tables.proofs.straight_text.Edging.{plus_none, fits_64}
use Rattle.teco_law_tables.proofs.straight_text.Lookup.{facts_there}
use Rattle.teco_law_tables.proofs.straight_text.Within.{inserted_within}

-- an element takes a step, and needs no file
step_of_kind : (k : Kind) (facts : Facts) → IsStraightKind k → steps k facts ≡ Ok (number 1)
step_of_kind (kind.Argument DropAll) facts s = refl
step_of_kind (kind.Flow flow.Comment) facts s = refl
step_of_kind (kind.Command (command.Insertion Text)) facts s = refl
step_of_kind k facts s = absurd s

needs_of_kind : (k : Kind) (facts : Facts) → IsStraightKind k → needs k facts ≡ Ok no_needs
needs_of_kind (kind.Argument DropAll) facts s = refl
needs_of_kind (kind.Flow flow.Comment) facts s = refl
needs_of_kind (kind.Command (command.Insertion Text)) facts s = refl
needs_of_kind k facts s = absurd s

-- commands
one_more : (c : ℕ) → suc c ≤ LIMIT → sum_of (number c) (number 1) ≡ Ok (number (suc c))
one_more c l = let e : c + 1 ≡ suc c = omega arith in rw e (rw (fits_64 (suc c) l) refl)

element_weighs : (table : Table) (entry n place : ℕ) (text : List ℕ) (e : Element) (facts : Facts) → IsStraightElement e
    → weight table (node_going_on entry n (stand_in_text entry text place) (Some e) false) (Some facts) ≡ Ok (number 1)
element_weighs table entry n place text e facts s = rw (step_of_kind e.kind facts s) refl

rows_counted : (table : Table) (entry m place : ℕ) (text : List ℕ) (count c : ℕ) (elements : List Element)
    → AllByRecursion IsStraightElement elements → suc (c + length elements) ≤ LIMIT
    → drop m table ≡ rows_in_text count elements →
    count_from table (suc m) (nodes_in_text entry text (suc m) place elements) (number c) ≡ Ok
    (number (suc (c + length elements)))
rows_counted table entry m place text count c [] s l d =
    rw (facts_there table m count [] d) (rw (one_more c (omega (arith, l)), plus_none c) refl)
rows_counted table entry m place text count c (e ∷ elements) s l d =
    let behind : drop (suc m) table ≡ rows_in_text (count + inserted_by e) elements =
    drop-behind m table (rows_in_text (count + inserted_by e) elements) _ d in
    let n : suc c + length elements ≡ c + suc (length elements) = omega arith in
    rw (facts_there table m count (e ∷ elements) d)
    (rw (element_weighs table entry (suc m) place text e (facts_behind_insertions count) s.0)
    (rw (one_more c (omega (arith, l)))
    (rw (rows_counted table entry (suc m) e.next text (count + inserted_by e) (suc c) elements s.1
    (omega (arith, l)) behind) (ap (λ n. Ok (number (suc n))) n))))

commands_printed : (entry : ℕ) (text : List ℕ) (elements : List Element) → AllByRecursion IsStraightElement elements
    → length elements ≤ MOST_STRAIGHT →
    commands None (straight_nodes entry text elements) (straight_table elements) ≡ Ok (number (2 + length elements))
unfolding commands
commands_printed entry text elements s l =
    let n : suc (1 + length elements) ≡ 2 + length elements = omega arith in
    rw (rows_counted (straight_table elements) entry 1 0 text 0 1 elements s (omega (arith, l)) refl)
    (ap (λ n. Ok (number n)) n)

-- size
join_more : (c count : ℕ) → c ≤ count → count ≤ LIMIT → join_of (and_more c) (and_more count) ≡ Ok (and_more count)
join_more c count h l = let e : max c count ≡ count = omega arith in rw e (rw (fits_64 count l) refl)

join_variable : (count : ℕ) → count ≤ LIMIT → join_of (and_more count) variable ≡ Ok (and_more count)
join_variable count l = let e : max count 0 ≡ count = omega arith in rw e (rw (fits_64 count l) refl)

join_variables : (n count : ℕ) → count ≤ LIMIT
    → joined_with (replicate n variable) (and_more count) ≡ Ok (and_more count)
join_variables zero count l = refl
join_variables (suc n) count l = rw (join_variable count l) (join_variables n count l)

sized : (c count : ℕ) → c ≤ count → count ≤ LIMIT → sized_with (Some (facts_behind_insertions count)) (and_more c) ≡ Ok
    (and_more count)
sized c count h l = rw (join_more c count h l) (join_variables REGISTERS count l)

rows_sized : (table : Table) (entry m place : ℕ) (text : List ℕ) (count c : ℕ) (elements : List Element) → c ≤ count
    → count + inserted elements ≤ LIMIT → drop m table ≡ rows_in_text count elements →
    size_from table (suc m) (nodes_in_text entry text (suc m) place elements) (and_more c) ≡ Ok
    (and_more (count + inserted elements))
rows_sized table entry m place text count c [] h l d =
    rw (facts_there table m count [] d) (rw (sized c count h (omega (arith, l)), plus_none count) refl)
rows_sized table entry m place text count c (e ∷ elements) h l d =
    let behind : drop (suc m) table ≡ rows_in_text (count + inserted_by e) elements =
    drop-behind m table (rows_in_text (count + inserted_by e) elements) _ d in
    let n : count + inserted_by e + inserted elements ≡ count + (inserted_by e + inserted elements) = omega arith in
    rw (facts_there table m count (e ∷ elements) d)
    (rw (sized c count h (omega (arith, l)))
    (rw (rows_sized table entry (suc m) e.next text (count + inserted_by e) count elements (omega arith)
    (omega (arith, l)) behind) (ap (λ n. Ok (and_more n)) n)))

first_sized : sized_with (Some (facts_behind_insertions 0)) (number 0) ≡ Ok (and_more 0)
first_sized = refl

size_printed : (entry : ℕ) (text : List ℕ) (elements : List Element) → inserted elements ≤ LIMIT
    → size (straight_nodes entry text elements) (straight_table elements) ≡ Ok (and_more (inserted elements))
unfolding size
size_printed entry text elements l =
    let n : 0 + inserted elements ≡ inserted elements = omega arith in
    rw first_sized (rw (rows_sized (straight_table elements) entry 1 0 text 0 0 elements (omega arith)
    (omega (arith, l)) refl) (ap (λ n. Ok (and_more n)) n))

-- needs
rows_need : (table : Table) (entry m place : ℕ) (text : List ℕ) (count : ℕ) (elements : List Element)
    → AllByRecursion IsStraightElement elements → drop m table ≡ rows_in_text count elements →
    needs_from table (suc m) (nodes_in_text entry text (suc m) place elements) ≡ no_needs
rows_need table entry m place text count [] s d = rw (facts_there table m count [] d) refl
rows_need table entry m place text count (e ∷ elements) s d =
    let behind : drop (suc m) table ≡ rows_in_text (count + inserted_by e) elements =
    drop-behind m table (rows_in_text (count + inserted_by e) elements) _ d in
    rw (facts_there table m count (e ∷ elements) d)
    (rw (needs_of_kind e.kind (facts_behind_insertions count) s.0)
    (rw (rows_need table entry (suc m) e.next text (count + inserted_by e) elements s.1 behind) refl))

needs_printed : (entry : ℕ) (text : List ℕ) (elements : List Element) → AllByRecursion IsStraightElement elements
    → needs_in (straight_nodes entry text elements) (straight_table elements) ≡ no_needs
unfolding needs_in
needs_printed entry text elements s = rw (rows_need (straight_table elements) entry 1 0 text 0 elements s refl) refl

-- lines
line_of_kind : (k : Kind) → IsStraightKind k → begins_by_kind k ≡ false
line_of_kind (kind.Argument DropAll) s = refl
line_of_kind (kind.Flow flow.Comment) s = refl
line_of_kind (kind.Command (command.Insertion Text)) s = refl
line_of_kind k s = absurd s

no_lines : (entry number place : ℕ) (text : List ℕ) (elements : List Element)
    → AllByRecursion IsStraightElement elements
    → AllByRecursion BeginsNoIteration (nodes_in_text entry text number place elements)
no_lines entry number place text [] s = (refl, tt)
no_lines entry number place text (e ∷ elements) s =
    (line_of_kind e.kind s.0, no_lines entry (suc number) e.next text elements s.1)

-- both polynomials are linear
linear_fits : (count more : ℕ) → count ≤ LIMIT → more ≤ 1 → IsPoly (first COEFFICIENTS (count ∷ more ∷ []))
linear_fits count more l m = search arith

pub straight_tables_print : StraightTablesPrint
straight_tables_print library entry text elements is l = record {
  commands_are = commands_printed entry text elements is.straight is.few;
  size_is = size_printed entry text elements (omega (arith, l, inserted_within text elements is.read));
  needs_nothing = needs_printed entry text elements is.straight;
  has_no_lines = (refl, no_lines entry 2 0 text elements is.straight);
  steps_fit = linear_fits (2 + length elements) 0 (omega (arith, is.few)) (omega arith);
  most_fits = linear_fits (inserted elements) 1 (omega (arith, l, inserted_within text elements is.read)) (omega arith);
}
