-- When a table is closed: what it says at each node follows from what it says at the others.
use Rattle.std.specs.Prelude.{ℕ, suc, nat_lt, List, [], ◌∷◌, length, Bool, true, false, is_none, not, ◌&&◌, ◌||◌}
use Rattle.std.specs.Prelude.{if◌then◌else◌, Option, Some, None, Result, Ok, Err}
use Rattle.std.specs.Option.{option_map_or}
use Rattle.teco_model.specs.declared.kind.Kind.{Kind}
use Rattle.teco_model.specs.declared.kind.Kind.TheVariants as kind
use Rattle.teco_model.specs.declared.kind.Flow.{Flow}
use Rattle.teco_model.specs.declared.kind.Flow.TheVariants as flow
use Rattle.teco_model.specs.Element.{Element}
use Rattle.teco_verifier.specs.expansion.Ends.{end_of}
use Rattle.teco_verifier.specs.expansion.Node.{Node}
use Rattle.teco_poly.specs.Polynomial.{Polynomial}
use Rattle.teco_verifier.specs.declared.refusal.RefusalReason.{RefusalReason}
use Rattle.teco_model.specs.Macros.{ArgumentRange}
use Rattle.teco_verifier.specs.facts.Argument.{facts_given}
use Rattle.teco_verifier.specs.facts.Bodies.{Choice, Changes, body_start, stands}
use Rattle.teco_verifier.specs.facts.Covers.{covers, each_covers, is_same_iteration}
use Rattle.teco_verifier.specs.facts.Facts.{Iteration, Facts}
use Rattle.teco_verifier.specs.facts.Flows.{Edges, turns}
use Rattle.teco_verifier.specs.table.Behind.{edges_at, along, begins_turn}
use Rattle.teco_verifier.specs.table.Table.{Table, facts_at, choice_at}
use Rattle.teco_verifier.specs.table.Written.{changes_in}

-- two facts say the same
abbrev pub say_same : Facts → Facts → Bool
say_same facts others = covers facts others && covers others facts

-- nothing but what is always known is known at the entry, and of the argument that is declared for it
abbrev pub is_entry : Option ArgumentRange → Option Facts → Bool
is_entry argument None = false
is_entry argument (Some facts) = say_same facts (facts_given argument)

-- An edge that begins no turn is covered where it leads. Behind all nodes nothing is known; the return of the entry
-- alone leads there.
abbrev pub is_return : Option Element → Bool
is_return None = true
is_return (Some e) = false

abbrev pub is_covered : Option Facts → Facts → Bool
is_covered None edge = false
is_covered (Some facts) edge = covers facts edge

abbrev pub arrives : List Node → Table → Option Element → ℕ → Option Facts → Bool
arrives nodes table read target None = true
arrives nodes table read target (Some edge) =
    if nat_lt (length nodes) target then is_return read else is_covered (facts_at table target) edge

-- Each way of a node, but the one into a body, arrives at facts that cover its edge.
abbrev pub arrive : List Node → Table → Option Element → Edges → ℕ → List ℕ → Bool
arrive nodes table read edges way [] = true
arrive nodes table read edges way (target ∷ targets) =
    (begins_turn read way || arrives nodes table read target (along read way edges))
    && arrive nodes table read edges (suc way) targets

-- The start of a body is what the choice makes of what enters it, and the choice stands.
abbrev pub is_counted : List Iteration → Bool
is_counted [] = false
is_counted (i ∷ outer) = i.counted

abbrev pub body_stands : Changes → Option Facts → Facts → Option Facts → Option Choice
    → Result Polynomial RefusalReason → Bool
body_stands changes end entering (Some start) (Some choice) (Ok most) =
    say_same start (body_start choice changes entering)
    && stands choice changes (is_counted entering.iterations) most entering end
body_stands changes end entering start choice most = false

-- where nothing enters a body, nothing is known at its start
abbrev pub is_entered : List Node → Table → ℕ → Facts → Option Facts → Bool
is_entered nodes table begin facts None = is_none (facts_at table (suc begin))
is_entered nodes table begin facts (Some entering) =
    body_stands (changes_in nodes begin) (facts_at table (end_of nodes begin)) entering (facts_at table (suc begin))
    (choice_at table begin) (turns facts)

abbrev pub enters : List Node → Table → ℕ → Facts → Edges → Flow → Bool
enters nodes table number facts edges flow.Iterate = is_entered nodes table number facts edges.on
enters nodes table number facts edges f = true

abbrev pub enters_by : List Node → Table → ℕ → Facts → Edges → Kind → Bool
enters_by nodes table number facts edges (kind.Flow f) = enters nodes table number facts edges f
enters_by nodes table number facts edges k = true

abbrev pub enters_at : List Node → Table → ℕ → Facts → Edges → Option Element → Bool
enters_at nodes table number facts edges None = true
enters_at nodes table number facts edges (Some e) = enters_by nodes table number facts edges e.kind

-- A node that is reached has edges. What enters its body is so, and its ways arrive.
abbrev pub closed_behind : List Node → Table → ℕ → Node → Facts → Result Edges RefusalReason → Bool
closed_behind nodes table number node facts (Err why) = false
closed_behind nodes table number node facts (Ok edges) =
    enters_at nodes table number facts edges node.element && arrive nodes table node.element edges 0 node.ways

-- What is known at a node is known of the iterations that are open there, as at the start of the innermost body.
abbrev pub has_none : List Iteration → Bool
has_none [] = true
has_none (i ∷ outer) = false

abbrev pub is_known_in : Table → List ℕ → Facts → Bool
is_known_in table [] facts = has_none facts.iterations
is_known_in table (begin ∷ outer) facts =
    option_map_or (λ (start : Facts). each_covers is_same_iteration start.iterations facts.iterations)
    (facts_at table (suc begin)) false

-- Behind a < that is not reached nothing is known.
abbrev pub begins_by_kind : Kind → Bool
begins_by_kind (kind.Flow flow.Iterate) = true
begins_by_kind k = false

abbrev pub begins_iteration : Option Element → Bool
begins_iteration None = false
begins_iteration (Some e) = begins_by_kind e.kind

abbrev pub closed_where : List Node → Table → ℕ → Node → Option Facts → Bool
closed_where nodes table number node None =
    not (begins_iteration node.element) || is_none (facts_at table (suc number))
closed_where nodes table number node (Some facts) =
    is_known_in table node.stand.iterations facts
    && closed_behind nodes table number node facts (edges_at nodes node facts)

abbrev pub closed_at : List Node → Table → ℕ → Node → Bool
closed_at nodes table number node = closed_where nodes table number node (facts_at table number)

-- The number of the first node at which this fails is the answer, where it does.
abbrev pub check_from : List Node → Table → ℕ → List Node → Result (Unit {0}) ℕ
check_from nodes table number [] = Ok tt
check_from nodes table number (node ∷ rest) =
    if closed_at nodes table number node then check_from nodes table (suc number) rest else Err number

unfoldable pub check_nodes : List Node → Table → Result (Unit {0}) ℕ
check_nodes nodes table = check_from nodes table 1 nodes

-- what is known of the entry is judged before that
unfoldable pub check : Option ArgumentRange → List Node → Table → Result (Unit {0}) ℕ
check argument nodes table = if is_entry argument (facts_at table 1) then check_nodes nodes table else Err 1
