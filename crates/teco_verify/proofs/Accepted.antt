-- A library that is accepted with nothing chosen.
use Rattle.teco_verify.proofs.Prelude.{◌≡◌, subst, refl, sym, ap, ◌∙◌, ℕ, zero, suc, ◌<◌, List, [], ◌∷◌, length, false}
use Rattle.teco_verify.proofs.Prelude.{Option, Some, None, Result, Ok, Err, arith, AllByRecursion, list_any, REGISTERS}
use Rattle.teco_verify.proofs.Prelude.{AreKept, RowIsKept, IfSome, ArgumentRange, begins, expansion, Library, Node}
use Rattle.teco_verify.proofs.Prelude.{Polynomial, Facts, BeginsNoIteration, IsAccepted, check, derive, Table}
use Rattle.teco_verify.proofs.Prelude.{plain_fields}
use Rattle.std.proofs.Common.{◌≤◌, map}
use Rattle.std.proofs.Common.{slice_index_or, Bor, All}
use Rattle.std.proofs.lemmas.List.Elements.{All-nil}
use Rattle.std.specs.Option.{option_copied, ForSome}
use Rattle.teco_base.specs.declared.TheConstants.{LIMIT}
use Rattle.teco_certificate.specs.WellFormed.{IsWellFormed}
use Rattle.teco_verifier.specs.table.Loops.{loops_from, loops_of}
use Rattle.teco_verifier.specs.expansion.Refusal as expanding
use Rattle.teco_facts.specs.Numbers.{AreSmall, IsSmallFall}
use Rattle.teco_facts.specs.declared.few.TheConstants.{DEPTH}
use Rattle.teco_law_tables.specs.straight_text.Accepted.{Prints, RowIsOutside}

-- the texts of a library
pub within : (texts : List (Option (Bor (List ℕ)))) (r : ℕ) (text : List ℕ)
    → All (λ text. ForSome text (λ shown. length shown.now ≤ LIMIT)) texts
    → slice_index_or (map option_copied texts) r None ≡ Some text → length text ≤ LIMIT
within [] r text a e = absurd cc
within (None ∷ texts) zero text a e = absurd cc
within (Some shown ∷ texts) zero text a e =
    let same : shown.now ≡ text = cc in
    subst (λ (t : List ℕ). length t ≤ LIMIT) same (a 0 None (omega arith) shown refl)
within (shown ∷ texts) (suc r) text a e = within texts r text (λ k d h. a (suc k) d (omega (arith, h))) e

-- where no iteration begins, nothing is chosen and there are no lines
none_from : (table : Table) (number : ℕ) (nodes : List Node) → AllByRecursion BeginsNoIteration nodes
    → loops_from table number nodes ≡ []
none_from table number [] a = refl
none_from table number (node ∷ nodes) a = rw a.0 (none_from table (suc number) nodes a.1)

pub no_lines : (nodes : List Node) (table : Table) → AllByRecursion BeginsNoIteration nodes → loops_of nodes table ≡ []
unfolding loops_of
no_lines nodes table a = none_from table 1 nodes a

none_begins : (nodes : List Node) → AllByRecursion BeginsNoIteration nodes → list_any begins nodes ≡ false
none_begins [] a = refl
none_begins (node ∷ nodes) a = rw a.0 (none_begins nodes a.1)

-- what is known outside of iterations is kept
kept : (facts : Facts) → facts.position.falls ≡ [] → facts.iterations ≡ [] → AreKept facts
kept facts falls iterations = record {
  small = subst AreSmall (sym falls) (All-nil IsSmallFall);
  room = record {
    falls = subst (λ fs. length fs < DEPTH) (sym falls) (omega arith);
    iterations = subst (λ is. length is < DEPTH) (sym iterations) (omega arith);
  };
}

kept_row : (known : Option Facts) → RowIsOutside (record { facts = known; choice = None }) → IfSome known AreKept
kept_row None o = tt
kept_row (Some facts) o = kept facts o.0 o.1

pub all_kept : (table : Table) → AllByRecursion RowIsOutside table → AllByRecursion RowIsKept table
all_kept [] o = tt
all_kept (row ∷ table) o = (kept_row row.facts o.0, all_kept table o.1)

nodes_of : Result (List Node) expanding.Refusal → List Node
nodes_of (Ok nodes) = nodes
nodes_of (Err why) = []

-- the same of these nodes
pub record AcceptsNodes (argument : Option ArgumentRange) (nodes : List Node) (table : Table)
    (steps most : Polynomial) : Type 0 where
  pub derived : derive argument nodes [] ≡ Ok table
  pub closed : check argument nodes table ≡ Ok tt
  pub prints : Prints nodes table steps most
  pub outside : AllByRecursion RowIsOutside table

module _ (library : Library) (entry : ℕ) (steps most : Polynomial)
    (accepted : IsAccepted library entry steps most) where
  pub is_well_formed : entry < REGISTERS → IsWellFormed (plain_fields entry steps most)
  is_well_formed h = record {
    parts = record {
      entry = h;
      argument = tt;
      commands = accepted.prints.steps_fit;
      size = accepted.prints.most_fits;
      loops = tt;
    };
    order = record { numbers = λ k d h. absurd (omega (arith, h)); registers = tt };
  }

  module _ (nodes : List Node) (expanded : expansion library entry ≡ Ok nodes) where
    pub these : AcceptsNodes None nodes accepted.table steps most
    unfolding nodes_of
    these = subst (λ ns. AcceptsNodes None ns accepted.table steps most)
        (ap nodes_of (sym accepted.expanded ∙ expanded)) (record {
          derived = accepted.derived;
          closed = accepted.closed;
          prints = accepted.prints;
          outside = accepted.outside;
        })

    pub begins_none : list_any begins nodes ≡ false
    begins_none = none_begins nodes these.prints.has_no_lines
