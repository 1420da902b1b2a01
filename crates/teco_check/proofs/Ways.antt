-- Ways by whether they are the first.
use Rattle.teco_check.proofs.Prelude.{◌≡◌, refl, ℕ, zero, suc, ◌==◌, false, if◌then◌else◌, Option, Some, None, arith}
use Rattle.teco_check.proofs.Prelude.{nat_tests, Kind, Flow, Element, Edges, along, begins_turn, Choice, Changes}
use Rattle.teco_check.proofs.Prelude.{begins_iteration, begins_by_kind, arriving}
use Rattle.std.proofs.Common.{◌&&◌}
use Rattle.teco_model.specs.declared.kind.Kind.TheVariants as kind
use Rattle.teco_model.specs.declared.kind.Flow.TheVariants as flow
use Rattle.teco_verifier.specs.table.Behind.{along_kind, along_flow, turns_by_kind, turns_by_flow}
use Rattle.teco_verifier.specs.table.Deriving.{arriving_by_flow, start_of_body}
use Rattle.teco_check.specs.Ways.{goes_on, goes_on_by_flow, turns, turns_of_flow, is_first}

zero_is_first : (way : ℕ) → (way == 0) ≡ is_first way
zero_is_first zero = refl
zero_is_first (suc way) = not_zero
  where
    not_zero : (suc way == 0) ≡ false
    not_zero = grind (arith, nat_tests)

along_by_flow : (f : Flow) (way : ℕ) (edges : Edges)
    → along_flow f way edges ≡ (if goes_on_by_flow f (is_first way) then edges.on else edges.away)
along_by_flow flow.EndTurn zero edges = refl
along_by_flow flow.EndTurn (suc way) edges = refl
along_by_flow flow.Otherwise way edges = refl
along_by_flow flow.GoTo way edges = refl
along_by_flow (flow.GoAhead g) way edges = refl
along_by_flow f zero edges = refl
along_by_flow f (suc way) edges = refl

along_by_kind : (k : Kind) (way : ℕ) (edges : Edges)
    → along_kind k way edges ≡ (if goes_on k (is_first way) then edges.on else edges.away)
along_by_kind (kind.Flow f) way edges = along_by_flow f way edges
along_by_kind k zero edges = refl
along_by_kind k (suc way) edges = refl

pub along_is : (e : Element) (way : ℕ) (edges : Edges)
    → along (Some e) way edges ≡ (if goes_on e.kind (way == 0) then edges.on else edges.away)
along_is e way edges = rw (zero_is_first way) (along_by_kind e.kind way edges)

turns_flow : (f : Flow) (way : ℕ) → turns_by_flow f way ≡ (is_first way && turns_of_flow f)
turns_flow flow.Iterate zero = refl
turns_flow flow.Iterate (suc way) = refl
turns_flow flow.EndTurn zero = refl
turns_flow flow.EndTurn (suc way) = refl
turns_flow f zero = refl
turns_flow f (suc way) = refl

turns_kind : (k : Kind) (way : ℕ) → turns_by_kind k way ≡ (is_first way && turns k)
turns_kind (kind.Flow f) way = turns_flow f way
turns_kind k zero = refl
turns_kind k (suc way) = refl

pub begins_is : (e : Element) (way : ℕ) → begins_turn (Some e) way ≡ (way == 0 && turns e.kind)
begins_is e way = rw (zero_is_first way) (turns_kind e.kind way)

-- what arrives on a way
arriving_flow : (changes : Changes) (choice : Option Choice) (f : Flow) (way : ℕ) (edges : Edges)
    → arriving_by_flow changes choice f way edges ≡
    (if turns_by_flow f way then (if begins_by_kind (kind.Flow f) then start_of_body changes choice
    (along_flow f way edges) else None) else along_flow f way edges)
arriving_flow changes choice flow.Iterate zero edges = refl
arriving_flow changes choice flow.Iterate (suc way) edges = refl
arriving_flow changes choice flow.EndTurn zero edges = refl
arriving_flow changes choice flow.EndTurn (suc way) edges = refl
arriving_flow changes choice f zero edges = refl
arriving_flow changes choice f (suc way) edges = refl

arriving_of : (changes : Changes) (choice : Option Choice) (e : Element) (k : Kind) (way : ℕ) (edges : Edges)
    → arriving changes choice (Some (record e { kind = k })) way edges ≡
    (if turns_by_kind k way then (if begins_by_kind k then start_of_body changes choice
    (along_kind k way edges) else None) else along_kind k way edges)
arriving_of changes choice e (kind.Flow f) way edges = arriving_flow changes choice f way edges
arriving_of changes choice e k zero edges = refl
arriving_of changes choice e k (suc way) edges = refl

pub arriving_is : (changes : Changes) (choice : Option Choice) (read : Option Element) (way : ℕ) (edges : Edges)
    → arriving changes choice read way edges ≡
    (if begins_turn read way then (if begins_iteration read then start_of_body changes choice
    (along read way edges) else None) else along read way edges)
arriving_is changes choice None way edges = refl
arriving_is changes choice (Some e) way edges = arriving_of changes choice e e.kind way edges
