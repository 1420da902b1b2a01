-- What the body of an iteration changes: which registers' numbers it writes, and whether it ends all that is saved;
-- by the elements in it, called texts included, whether they are reached or not.
use Rattle.std.specs.Prelude.{ℕ, zero, suc, ◌-◌, ◌==◌, List, [], ◌∷◌, take, drop, Bool, true, false, Option, Some, None}
use Rattle.std.specs.List.{list_any}
use Rattle.std.specs.Option.{option_map_or}
use Rattle.teco_base.specs.declared.TheConstants.{REGISTERS}
use Rattle.teco_model.specs.declared.kind.Kind.{Kind}
use Rattle.teco_model.specs.declared.kind.Kind.TheVariants as kind
use Rattle.teco_model.specs.declared.kind.Command.{Command}
use Rattle.teco_model.specs.declared.kind.Command.TheVariants as command
use Rattle.teco_model.specs.declared.kind.Page.TheVariants as page
use Rattle.teco_model.specs.declared.kind.Search.{Search}
use Rattle.teco_model.specs.declared.kind.Search.TheVariants as search
use Rattle.teco_model.specs.declared.kind.Stack.{Stack}
use Rattle.teco_model.specs.declared.kind.Stack.TheVariants as stack
use Rattle.teco_model.specs.declared.kind.Storage.{Storage}
use Rattle.teco_model.specs.declared.kind.Storage.TheVariants as storage
use Rattle.teco_model.specs.Element.{Element}
use Rattle.teco_verifier.specs.expansion.Ends.{end_of}
use Rattle.teco_verifier.specs.expansion.Node.{Node}
use Rattle.teco_verifier.specs.facts.Bodies.{Changes}

-- U, % and ] write the number of a register.
abbrev pub set_by_storage : Storage → Option ℕ
set_by_storage (storage.SetNumber r) = Some r
set_by_storage (storage.Add r) = Some r
set_by_storage s = None

abbrev pub set_by_command : Command → Option ℕ
set_by_command (command.Storage s) = set_by_storage s
set_by_command c = None

abbrev pub set_by_stack : Stack → Option ℕ
set_by_stack (stack.Pop r) = Some r
set_by_stack s = None

abbrev pub set_by : Kind → Option ℕ
set_by (kind.Stack s) = set_by_stack s
set_by (kind.Command c) = set_by_command c
set_by k = None

abbrev pub sets : ℕ → Option Element → Bool
sets r None = false
sets r (Some e) = option_map_or (λ other. other == r) (set_by e.kind) false

-- D, K, FS, N, FN and P end all that is saved, a P that writes a part too.
abbrev pub ends_by_search : Search → Bool
ends_by_search search.Find = false
ends_by_search s = true

abbrev pub ends_by : Kind → Bool
ends_by (kind.Command (command.Deletion unit)) = true
ends_by (kind.Page page.Next) = true
ends_by (kind.Search s) = ends_by_search s
ends_by k = false

abbrev pub ends_saved : Option Element → Bool
ends_saved None = false
ends_saved (Some e) = ends_by e.kind

-- the nodes behind a <, up to its >
abbrev pub body_of : List Node → ℕ → List Node
body_of nodes begin = take (end_of nodes begin - begin) (drop begin nodes)

-- for so many registers from one on, whether some node writes its number
unfoldable pub written_in : List Node → ℕ → ℕ → List Bool
written_in body zero r = []
written_in body (suc count) r =
    list_any (λ (node : Node). sets r node.element) body ∷ written_in body count (suc r)

unfoldable pub written : List Node → ℕ → List Bool
written nodes begin = written_in (body_of nodes begin) REGISTERS 0

unfoldable pub ends_in : List Node → ℕ → Bool
ends_in nodes begin = list_any (λ (node : Node). ends_saved node.element) (body_of nodes begin)

abbrev pub changes_in : List Node → ℕ → Changes
changes_in nodes begin = record { written = written nodes begin; ends = ends_in nodes begin }
