-- What enters the body of an iteration.
use Rattle.teco_law_tables.proofs.Prelude.{◌≡◌, List, sym, ap, ◌∙◌, Bool, true, false, is_some, if◌then◌else◌, Option}
use Rattle.teco_law_tables.proofs.Prelude.{Some, None, Ok, Kind, Element, Node, Value, KnownTaken, arguments_of, Facts}
use Rattle.teco_law_tables.proofs.Prelude.{Edges, entered, answer_for, without_answer, edges_of, transfer, placed}
use Rattle.teco_law_tables.proofs.Prelude.{edges_behind, edges_at, bound}
use Rattle.teco_model.specs.declared.kind.Flow.TheVariants as flow
use Rattle.teco_model.specs.declared.kind.Kind.TheVariants as kind
use Rattle.teco_verifier.specs.facts.Arguments.{levels_after_taking}
use Rattle.teco_verifier.specs.facts.Facts.{without_arguments}
use Rattle.teco_verifier.specs.facts.Flows.{entering, iteration, iterate, turns_of}
use Rattle.teco_verifier.specs.facts.Joins.{none_pending}

-- the element of a node by its kind
pub kind_edges : (nodes : List Node) (node : Node) (e : Element) (k : Kind) (facts : Facts) (edges : Edges)
    → node.element ≡ Some e → e.kind ≡ k → edges_at nodes node facts ≡ Ok edges →
    edges_of k (placed nodes node e) (answer_for k facts) (without_answer facts) ≡ Ok edges
unfolding transfer
kind_edges nodes node e k facts edges reads is h =
    ap (λ (k : Kind). edges_of k (placed nodes node e) (answer_for k facts) (without_answer facts)) (sym is)
    ∙ (ap (λ (read : Option Element). edges_behind nodes node read facts) (sym reads) ∙ h)

-- what a < took, and what enters its body
pub record Entering (facts : Facts) (entering : Facts) : Type 0 where
  pub taken : KnownTaken
  pub took : arguments_of facts.arguments.level ≡ Ok taken
  pub is : entering ≡ entered (is_some taken.value) facts

on_of : (value : Option Value) (facts next : Facts) → (iteration value facts).on ≡ Some next
    → next ≡ entering (is_some value) facts
on_of None facts next h = cc
on_of (Some n) facts next h = by_test _ h
  where
    by_test : (b : Bool) → (if b then Some (entering true facts) else None) ≡ Some next → next ≡ entering true facts
    by_test true h = cc
    by_test false h = absurd (cc)

iterates : (facts next : Facts) (edges : Edges) → iterate (without_answer facts) ≡ Ok edges → edges.on ≡ Some next
    → Entering facts next
iterates facts next edges h on =
    let taken = bound (arguments_of facts.arguments.level) _ edges h in
    let alone = bound (none_pending (levels_after_taking facts.arguments)) _ edges taken.gives in
    let most = bound (turns_of taken.before.value (without_answer facts)) _ edges alone.gives in
    let same : iteration taken.before.value (without_arguments facts) ≡ edges = cc in
    record {
      taken = taken.before;
      took = taken.was;
      is = on_of taken.before.value (without_arguments facts) next (ap (λ (edges : Edges). edges.on) same ∙ on);
    }

pub enters : (nodes : List Node) (node : Node) (e : Element) (facts next : Facts) (edges : Edges)
    → node.element ≡ Some e → e.kind ≡ kind.Flow flow.Iterate → edges_at nodes node facts ≡ Ok edges
    → edges.on ≡ Some next → Entering facts next
enters nodes node e facts next edges reads is h on =
    iterates facts next edges (kind_edges nodes node e (kind.Flow flow.Iterate) facts edges reads is h) on

pub held_stays : (nodes : List Node) (node : Node) (e : Element) (facts next : Facts) (edges : Edges)
    → node.element ≡ Some e → e.kind ≡ kind.Flow flow.Iterate → edges_at nodes node facts ≡ Ok edges
    → edges.on ≡ Some next → next.held ≡ facts.held
held_stays nodes node e facts next edges reads is h on =
    ap (λ (facts : Facts). facts.held) (enters nodes node e facts next edges reads is h on).is
