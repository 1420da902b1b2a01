-- How a table is derived where what arrives at each node is kept, in place of all that arrived anywhere.
use Rattle.std.specs.Prelude.{◌≡◌, ℕ, zero, suc, ◌-◌, List, [], ◌∷◌, take, slice_set, slice_index_or, Option, Some}
use Rattle.std.specs.Prelude.{None, Result, Ok, Err, IsOk}
use Rattle.teco_model.specs.Macros.{ArgumentRange}
use Rattle.teco_verifier.specs.declared.refusal.RefusalReason.{RefusalReason}
use Rattle.teco_verifier.specs.facts.Argument.{facts_given}
use Rattle.teco_verifier.specs.facts.Attempt.{◌>>=◌}
use Rattle.teco_verifier.specs.facts.Facts.{Facts}
use Rattle.teco_verifier.specs.table.Choices.{Chosen}
use Rattle.teco_verifier.specs.table.Deriving.{Arrival, Derived, met_with, derived_at, derive_from}
use Rattle.teco_verifier.specs.table.Table.{Row, Table, facts_at}
use Rattle.teco_verifier.specs.expansion.Node.{Node}
use Rattle.teco_check.specs.Here.{IsNumberOf, node_at}
use Rattle.teco_check.specs.Kept.{AreKept}
use Rattle.teco_check.specs.declared.derivation.NotDerived.{NotDerived}
use Rattle.teco_check.specs.declared.derivation.NotDerived.TheVariants as fault

-- for each node what arrived there
abbrev pub Slots : Type 0
Slots = List (Result (Option Facts) RefusalReason)

-- one more edge
abbrev pub met_more : Result (Option Facts) RefusalReason → Facts → Result (Option Facts) RefusalReason
met_more slot facts = slot >>= (λ known. met_with known facts)

-- at the node of a number, if there is one
abbrev pub arrived_at : ℕ → Facts → Slots → Slots
arrived_at zero facts slots = slots
arrived_at (suc k) facts slots = slice_set slots k (met_more (slice_index_or slots k (Ok None)) facts)

abbrev pub arrived_all : List Arrival → Slots → Slots
arrived_all [] slots = slots
arrived_all (arrival ∷ arrivals) slots = arrived_all arrivals (arrived_at arrival.target arrival.facts slots)

-- the edges behind a node that is derived
abbrev pub arrivals_of : Result Derived RefusalReason → List Arrival
arrivals_of (Ok derived) = derived.arrivals
arrivals_of (Err why) = []

-- a node's row is derived, and the edges behind it arrived
pub record DerivesTo (defined : Result Derived RefusalReason) (old new : Slots) (row : Row) : Type 0 where
  pub derived : defined ≡ Ok (record { row = row; arrivals = arrivals_of defined })
  pub arrived : new ≡ arrived_all (arrivals_of defined) old

-- facts that no table may have
abbrev pub AreLarge : Option Facts → Type 0
AreLarge None = ⊥
AreLarge (Some facts) = ¬ AreKept facts

-- a node's row is refused
pub record IsRefusedHere (defined : Result Derived RefusalReason) (why : RefusalReason) (number node : ℕ) : Type 0 where
  pub here : node ≡ number
  pub refused : defined ≡ Err why

-- the row of this node, if there is one, has facts that no table may have
pub record HasLarge (defined : Result Derived RefusalReason) (number node : ℕ) : Type 0 where
  pub here : node ≡ number
  pub large : (derived : Derived) → defined ≡ Ok derived → AreLarge derived.row.facts

abbrev pub DerivesRow : ℕ → Result Derived RefusalReason → Slots → Slots → Result Row NotDerived → Type 0
DerivesRow number defined old new (Ok row) = DerivesTo defined old new row
DerivesRow number defined old new (Err (fault.Refused why node)) = IsRefusedHere defined why number node
DerivesRow number defined old new (Err (fault.Large node)) = HasLarge defined number node
DerivesRow number defined old new (Err fault.Memory) = Unit {0}

-- Where a row's facts are too large, they are those that are known there.
abbrev pub IsLargeBy : Option Facts → Result Row NotDerived → Type 0
IsLargeBy known (Err (fault.Large node)) = AreLarge known
IsLargeBy known (Err (fault.Refused why node)) = Unit {0}
IsLargeBy known (Err fault.Memory) = Unit {0}
IsLargeBy known (Ok row) = Unit {0}

-- what is known where edges arrived, if that is not refused
abbrev pub known_of : Result (Option Facts) RefusalReason → Option Facts
known_of (Ok known) = known
known_of (Err why) = None

-- what is derived at the node of a number, from what arrived there
abbrev pub derived_from : List Node → List Chosen → ℕ → Slots → Result Derived RefusalReason
derived_from nodes chosen number slots =
    slice_index_or slots (number - 1) (Ok None) >>= derived_at nodes chosen number (node_at nodes number)

abbrev pub DerivesFrom : List Node → List Chosen → ℕ → Slots → Slots → Result Row NotDerived → Type 0
DerivesFrom nodes chosen number old new result =
    DerivesRow number (derived_from nodes chosen number old) (slice_set old (number - 1) (Ok None)) new result

-- the answer is the definition's table, or its refusal; or the definition's table, if there is one, has facts at a
-- node that no table may have; where memory was refused nothing is said
abbrev pub Derives : Result Table RefusalReason → Result Table NotDerived → Type 0
Derives defined (Ok table) = defined ≡ Ok table
Derives defined (Err (fault.Refused why node)) = defined ≡ Err why
Derives defined (Err (fault.Large node)) = (table : Table) → defined ≡ Ok table
    → AreLarge (facts_at table node)
Derives defined (Err fault.Memory) = Unit {0}

-- the table of so many nodes from the first on
abbrev pub table_up_to : Option ArgumentRange → List Node → List Chosen → ℕ → Result Table RefusalReason
table_up_to argument nodes chosen count =
    derive_from nodes chosen 1 (take count nodes) (record { target = 1; facts = facts_given argument } ∷ [])

-- The rules refuse at the node of this number: those before it have a table, and with it they have none.
pub record IsRefusedAt (argument : Option ArgumentRange) (nodes : List Node) (chosen : List Chosen) (number : ℕ)
    (why : RefusalReason) : Type 0 where
  pub there : IsNumberOf nodes number
  pub before : IsOk (table_up_to argument nodes chosen (number - 1))
  pub refused : table_up_to argument nodes chosen number ≡ Err why

-- the node that is told is the one at which the rules refuse, or one with facts that are too large
abbrev pub DerivesUpTo : Option ArgumentRange → List Node → List Chosen → Result Table NotDerived → Type 0
DerivesUpTo argument nodes chosen (Ok table) = Unit {0}
DerivesUpTo argument nodes chosen (Err (fault.Refused why node)) = IsRefusedAt argument nodes chosen node why
DerivesUpTo argument nodes chosen (Err (fault.Large node)) = IsNumberOf nodes node
DerivesUpTo argument nodes chosen (Err fault.Memory) = Unit {0}

-- no facts are too large
abbrev pub IsNotLarge : Result Table NotDerived → Type 0
IsNotLarge (Ok table) = Unit {0}
IsNotLarge (Err (fault.Refused why node)) = Unit {0}
IsNotLarge (Err (fault.Large node)) = ⊥
IsNotLarge (Err fault.Memory) = Unit {0}
