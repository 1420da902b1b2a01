-- A table of facts at one N, as the table of numbers that the law of turns speaks of.
use Rattle.std.specs.Prelude.{ℕ, zero, suc, ◌-◌, ◌==◌, pos, List, [], length, Bool, true, false, is_some}
use Rattle.std.specs.Prelude.{if◌then◌else◌, Option, Some, None, Result, Ok, Err}
use Rattle.std.specs.Option.{option_map_or}
use Rattle.teco_law_turns.specs.Table.{Table as Numbers}
use Rattle.teco_verifier.specs.expansion.Ends.{end_of}
use Rattle.teco_verifier.specs.expansion.Node.{Node, numbered}
use Rattle.teco_poly.specs.Polynomial.{Polynomial, value}
use Rattle.teco_verifier.specs.declared.refusal.RefusalReason.{RefusalReason}
use Rattle.teco_verifier.specs.facts.Facts.{Facts}
use Rattle.teco_verifier.specs.table.Closed.{begins_iteration}
use Rattle.teco_verifier.specs.table.Printed.{turns_at, steps_of}
use Rattle.teco_verifier.specs.table.Table.{Table, facts_at}

-- The nodes have their numbers. Before the first of them stands node 0, which takes no step.
abbrev pub is_reached : Table → ℕ → Bool
is_reached table zero = true
is_reached table (suc k) = is_some (facts_at table (suc k))

-- the value of a polynomial that does not overflow
abbrev pub value_of : ℕ → Result Polynomial RefusalReason → ℕ
value_of n (Ok p) = value p n
value_of n (Err why) = 0

-- the most steps of a node that is reached
abbrev pub own_of : ℕ → Option Node → Option Facts → ℕ
own_of n (Some node) (Some facts) = value_of n (steps_of node.element facts)
own_of n here facts = 0

-- the iterations that are open at a number
abbrev pub iterations_of : Node → List ℕ
iterations_of node = node.stand.iterations

abbrev pub iterations_at : List Node → ℕ → List ℕ
iterations_at nodes k = option_map_or iterations_of (numbered nodes k) []

-- is the node of a number a <?
abbrev pub begins_of : Node → Bool
begins_of node = begins_iteration node.element

abbrev pub begins_at : List Node → ℕ → Bool
begins_at nodes k = option_map_or begins_of (numbered nodes k) false

-- What is held at most: N before the first node, what is known at a node that is reached, and at the start of a
-- body that is not what is held at its <.
abbrev pub held_in : ℕ → Facts → ℕ
held_in n facts = value facts.held n

abbrev pub held_if : Bool → ℕ → ℕ
held_if true held = held
held_if false held = 0

abbrev pub held_at : List Node → Table → ℕ → ℕ → ℕ
held_at nodes table n zero = n
held_at nodes table n (suc k) =
    option_map_or (held_in n) (facts_at table (suc k)) (held_if (begins_at nodes k) (held_at nodes table n k))

-- Each iteration counts its turns, those without a count by what is ahead; so of what is ahead no more is told than
-- that it is held, and of a fall that it is 0 where a turn begins.
abbrev pub turning : List Node → Table → ℕ → Numbers
turning nodes table n = record {
  size = suc (length nodes);
  reached = λ k. is_reached table k;
  own = λ k. own_of n (numbered nodes k) (facts_at table k);
  loops = λ k. iterations_at nodes k;
  end = λ begin. end_of nodes begin;
  turns = λ begin. value_of n (turns_at table begin);
  growth = λ begin. held_at nodes table n (end_of nodes begin) - held_at nodes table n (suc begin);
  held_most = λ k. held_at nodes table n k;
  ahead_most = λ k. held_at nodes table n k;
  fall = λ k begin. if k == suc begin then Some (pos 0) else None;
}
