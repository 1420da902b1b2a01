-- Where the ways of a node lead, by its element: to which number, and with which iterations open.
use Rattle.std.specs.Prelude.{◌≡◌, ℕ, zero, suc, ◌<◌, List, ◌∷◌, drop, Option, Some, None, slice_get}
use Rattle.teco_model.specs.declared.kind.Flow.{Flow}
use Rattle.teco_model.specs.declared.kind.Flow.TheVariants as flow
use Rattle.teco_model.specs.declared.kind.Kind.{Kind}
use Rattle.teco_model.specs.declared.kind.Kind.TheVariants as kind
use Rattle.teco_model.specs.Element.{Element}
use Rattle.teco_model.specs.Macros.{Library}
use Rattle.teco_law_runs.specs.Linked.{AreLinked}
use Rattle.teco_verifier.specs.expansion.Node.{Stand, Node, stands, numbered}

-- a node by its number and the numbers of its iterations
pub record Place : Type 0 where
  pub number : ℕ
  pub iterations : List ℕ

-- to the next node,
abbrev pub IsBehind : Place → Place → Type 0
IsBehind from to = (to.number ≡ suc from.number) × (to.iterations ≡ from.iterations)

-- or some way ahead, where so many iterations are left
abbrev pub IsAhead : ℕ → Place → Place → Type 0
IsAhead leaves from to = (from.number < to.number) × (to.iterations ≡ drop leaves from.iterations)

abbrev pub IsAheadSomewhere : Place → Place → Type 0
IsAheadSomewhere from to = (leaves : ℕ) × IsAhead leaves from to

-- into a body, back to its start, and out of it
abbrev pub IsInside : Place → Place → Type 0
IsInside from to = (to.number ≡ suc from.number) × (to.iterations ≡ from.number ∷ from.iterations)

pub record IsBack (from to : Place) : Type 0 where
  pub begin : ℕ
  pub outer : List ℕ
  pub innermost : from.iterations ≡ begin ∷ outer
  pub number : to.number ≡ suc begin
  pub same : to.iterations ≡ from.iterations

pub record IsOutside (from to : Place) : Type 0 where
  pub begin : ℕ
  pub innermost : from.iterations ≡ begin ∷ to.iterations
  pub number : to.number ≡ suc from.number

-- by the element, and the number of the way
abbrev pub LeadsByFlow : Flow → ℕ → Place → Place → Type 0
LeadsByFlow flow.Iterate zero from to = IsInside from to
LeadsByFlow flow.Iterate (suc zero) from to = IsAhead 0 from to
LeadsByFlow flow.EndTurn zero from to = IsBack from to
LeadsByFlow flow.EndTurn (suc zero) from to = IsOutside from to
LeadsByFlow flow.Leave zero from to = IsBehind from to
LeadsByFlow flow.Leave (suc zero) from to = IsAhead 1 from to
LeadsByFlow (flow.Test test) zero from to = IsBehind from to
LeadsByFlow (flow.Test test) (suc zero) from to = IsAhead 0 from to
LeadsByFlow flow.Otherwise zero from to = IsAhead 0 from to
LeadsByFlow flow.EndTest zero from to = IsBehind from to
LeadsByFlow flow.GoTo zero from to = IsAheadSomewhere from to
LeadsByFlow flow.Comment zero from to = IsBehind from to
LeadsByFlow (flow.GoAhead g) zero from to = IsAhead 0 from to
LeadsByFlow f way from to = ⊥

abbrev pub LeadsByKind : Kind → ℕ → Place → Place → Type 0
LeadsByKind (kind.Flow f) way from to = LeadsByFlow f way from to
LeadsByKind (kind.Search s) (suc zero) from to = IsAhead 1 from to
LeadsByKind k zero from to = IsBehind from to
LeadsByKind k (suc way) from to = ⊥

abbrev pub LeadsBy : Option Element → ℕ → Place → Place → Type 0
LeadsBy None zero from to = IsBehind from to
LeadsBy None (suc way) from to = ⊥
LeadsBy (Some e) way from to = LeadsByKind e.kind way from to

abbrev pub place_at : ℕ → Stand → Place
place_at number stand = record { number = number; iterations = stand.iterations }

abbrev pub WaysLead : Type 0
WaysLead =
    (library : Library) (entry : ℕ) (nodes : List Node) (number : ℕ) (node : Node) (way target : ℕ)
    (stand : Stand)
    → AreLinked library entry nodes → numbered nodes number ≡ Some node
    → slice_get node.ways way ≡ Some target → numbered (stands nodes entry) target ≡ Some stand
    → LeadsBy node.element way (place_at number node.stand) (place_at target stand)
