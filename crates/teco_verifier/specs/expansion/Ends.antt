-- The node that ends an iteration: the first > behind its < at which it is the innermost.
use Rattle.std.specs.Prelude.{ℕ, suc, List, [], ◌∷◌, drop, ◌==◌, Bool, false, if◌then◌else◌, Option, Some, None}
use Rattle.teco_model.specs.declared.kind.Flow.TheVariants as flow
use Rattle.teco_model.specs.declared.kind.Kind.{Kind}
use Rattle.teco_model.specs.declared.kind.Kind.TheVariants as kind
use Rattle.teco_model.specs.Element.{Element}
use Rattle.teco_verifier.specs.expansion.Node.{Node}

-- is an iteration the innermost?
abbrev pub is_innermost : ℕ → List ℕ → Bool
is_innermost begin [] = false
is_innermost begin (number ∷ outer) = number == begin

-- does a node end it?
abbrev pub ends_by_kind : ℕ → Kind → List ℕ → Bool
ends_by_kind begin (kind.Flow flow.EndTurn) iterations = is_innermost begin iterations
ends_by_kind begin k iterations = false

abbrev pub ends_by : ℕ → Option Element → List ℕ → Bool
ends_by begin None iterations = false
ends_by begin (Some e) iterations = ends_by_kind begin e.kind iterations

abbrev pub ends : ℕ → Node → Bool
ends begin node = ends_by begin node.element node.stand.iterations

-- the number of the first of some nodes that does, and else its own
abbrev pub first_end : ℕ → ℕ → List Node → ℕ
first_end begin number [] = begin
first_end begin number (node ∷ nodes) =
    if ends begin node then number else first_end begin (suc number) nodes

abbrev pub end_of : List Node → ℕ → ℕ
end_of nodes begin = first_end begin (suc begin) (drop begin nodes)
