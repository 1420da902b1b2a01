-- What facts describe has the push-down list of the entry below it.
use Rattle.teco_law_tables.proofs.Prelude.{◌≡◌, ℕ, zero, List, [], ◌∷◌, Option, Some, None, refl, ap, Run, LiesBelow}
use Rattle.teco_law_tables.proofs.Prelude.{run_along, run_by_flow, run_by_kind, Element, Pair, World, Flow, Kind}
use Rattle.teco_law_facts.specs.Describes.{ArePushed}
use Rattle.teco_model.specs.declared.kind.Flow.TheVariants as flow
use Rattle.teco_model.specs.declared.kind.Kind.TheVariants as kind
use Rattle.teco_verifier.specs.facts.Facts.{Pushed}

pub lies_below : (n : ℕ) (below : List Pair) (pushes : List Pushed) (stack : List Pair)
    → ArePushed n below pushes stack → LiesBelow below stack
lies_below n below [] stack pushed = record { above = []; is = pushed }
lies_below n below (known ∷ pushes) [] pushed = absurd pushed
lies_below n below (known ∷ pushes) (pair ∷ stack) pushed =
    let rest = lies_below n below pushes stack pushed.1 in
    record { above = pair ∷ rest.above; is = ap (λ stack. pair ∷ stack) rest.is }

-- no way changes what lies below
below_by_flow : (f : Flow) (way between : ℕ) (world : World) (run : Run)
    → (run_by_flow f way between world run).below ≡ run.below
below_by_flow flow.Iterate zero between world run = refl
below_by_flow flow.EndTurn zero between world run = refl
below_by_flow f way between world run = refl

below_by_kind : (k : Kind) (way between : ℕ) (world : World) (run : Run)
    → (run_by_kind k way between world run).below ≡ run.below
below_by_kind (kind.Flow f) way between world run = below_by_flow f way between world run
below_by_kind k way between world run = refl

pub below_along : (read : Option Element) (way between : ℕ) (world : World) (run : Run)
    → (run_along read way between world run).below ≡ run.below
below_along None way between world run = refl
below_along (Some e) way between world run = below_by_kind e.kind way between world run
