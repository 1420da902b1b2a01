-- The numbers that are printed of a table: the most steps that a run takes, the most that is held, and the files that
-- must be open. A number that overflows does so at a node, in the order of their numbers.
use Rattle.std.specs.Prelude.{◌≡◌, ℕ, suc, List, [], ◌∷◌, ◌||◌, Option, Some, None, Result, Ok, Err}
use Rattle.std.specs.Option.{option_map_or, ok_or}
use Rattle.teco_model.specs.Element.{Element}
use Rattle.teco_verifier.specs.expansion.Node.{Node}
use Rattle.teco_poly.specs.Polynomial.{Polynomial, number, mul}
use Rattle.teco_verifier.specs.declared.refusal.RefusalReason.{RefusalReason}
use Rattle.teco_verifier.specs.declared.refusal.RefusalReason.TheVariants as refusal
use Rattle.teco_model.specs.Macros.{ArgumentRange, Needs}
use Rattle.teco_verifier.specs.facts.Attempt.{◌>>=◌}
use Rattle.teco_verifier.specs.facts.Facts.{Facts, sum_of, join_of}
use Rattle.teco_verifier.specs.facts.Flows.{turns}
use Rattle.teco_verifier.specs.facts.Printed.{steps, no_needs, needs}
use Rattle.teco_verifier.specs.table.Closed.{check}
use Rattle.teco_verifier.specs.table.Table.{Table, facts_at}

-- a number that overflows at a node
abbrev pub at_node : {X : Type 0} → ℕ → Result X RefusalReason → (X → Result X ℕ) → Result X ℕ
at_node node (Ok x) next = next x
at_node node (Err why) next = Err node

-- The turns of an iteration are those at its <; a body that is not reached counts once.
abbrev pub turns_where : Option Facts → Option Facts → Result Polynomial RefusalReason
turns_where facts None = Ok (number 1)
turns_where None (Some start) = Ok (number 1)
turns_where (Some facts) (Some start) = turns facts

abbrev pub turns_at : Table → ℕ → Result Polynomial RefusalReason
turns_at table begin = turns_where (facts_at table begin) (facts_at table (suc begin))

abbrev pub product_of : Polynomial → Polynomial → Result Polynomial RefusalReason
product_of p q = ok_or (mul p q) refusal.Overflow

-- the product of the turns of some iterations
abbrev pub turns_round : Table → List ℕ → Result Polynomial RefusalReason
turns_round table [] = Ok (number 1)
turns_round table (begin ∷ outer) = do
  rounds ← turns_round table outer
  most ← turns_at table begin
  product_of most rounds

-- the most steps of an element; a return takes one
abbrev pub steps_of : Option Element → Facts → Result Polynomial RefusalReason
steps_of None facts = Ok (number 1)
steps_of (Some e) facts = steps e.kind facts

-- A node that is reached counts with its steps, once for each turn of each iteration round it.
abbrev pub weight : Table → Node → Option Facts → Result Polynomial RefusalReason
weight table node None = Ok (number 0)
weight table node (Some facts) = do
  own ← steps_of node.element facts
  rounds ← turns_round table node.stand.iterations
  product_of own rounds

-- Commands are the sum over the nodes.
abbrev pub counted_with : Table → ℕ → Node → Polynomial → Result Polynomial RefusalReason
counted_with table k node total = do
  more ← weight table node (facts_at table k)
  sum_of total more

abbrev pub count_from : Table → ℕ → List Node → Polynomial → Result Polynomial ℕ
count_from table k [] total = Ok total
count_from table k (node ∷ rest) total =
    at_node k (counted_with table k node total) (count_from table (suc k) rest)

-- the digits of the argument, where one is declared, are a command before the first node
abbrev pub steps_before : Option ArgumentRange → ℕ
steps_before None = 0
steps_before (Some range) = 1

unfoldable pub commands : Option ArgumentRange → List Node → Table → Result Polynomial ℕ
commands argument nodes table = count_from table 1 nodes (number (steps_before argument))

-- Size is at least what is held, and each text, wherever that is reached.
abbrev pub joined_with : List Polynomial → Polynomial → Result Polynomial RefusalReason
joined_with [] most = Ok most
joined_with (p ∷ ps) most = do
  more ← join_of most p
  joined_with ps more

abbrev pub sized_with : Option Facts → Polynomial → Result Polynomial RefusalReason
sized_with None most = Ok most
sized_with (Some facts) most = joined_with (facts.held ∷ facts.texts) most

abbrev pub size_from : Table → ℕ → List Node → Polynomial → Result Polynomial ℕ
size_from table k [] most = Ok most
size_from table k (node ∷ rest) most =
    at_node k (sized_with (facts_at table k) most) (size_from table (suc k) rest)

unfoldable pub size : List Node → Table → Result Polynomial ℕ
size nodes table = size_from table 1 nodes (number 0)

-- A file must be open where an element that is reached needs it.
abbrev pub both_needs : Needs → Needs → Needs
both_needs a b = record { input = a.input || b.input; output = a.output || b.output }

abbrev pub known_needs : Result Needs RefusalReason → Needs
known_needs (Ok n) = n
known_needs (Err why) = no_needs

abbrev pub needs_of : Option Element → Facts → Needs
needs_of None facts = no_needs
needs_of (Some e) facts = known_needs (needs e.kind facts)

abbrev pub needs_from : Table → ℕ → List Node → Needs
needs_from table k [] = no_needs
needs_from table k (node ∷ rest) =
    both_needs (option_map_or (needs_of node.element) (facts_at table k) no_needs)
    (needs_from table (suc k) rest)

unfoldable pub needs_in : List Node → Table → Needs
needs_in nodes table = needs_from table 1 nodes

-- what is printed of a closed table
pub record IsPrinted
    (argument : Option ArgumentRange) (nodes : List Node) (table : Table) (steps most : Polynomial) : Type 0 where
  pub closed : check argument nodes table ≡ Ok tt
  pub commands_are : commands argument nodes table ≡ Ok steps
  pub size_is : size nodes table ≡ Ok most
