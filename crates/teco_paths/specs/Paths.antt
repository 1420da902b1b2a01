-- Paths from cut point to cut point.
use Rattle.std.specs.Prelude.{◌≡◌, ◌≢◌, ℕ, ◌+◌, ◌≤◌, List, Option}
use Rattle.std.specs.List.{Any}
use Rattle.teco_base.specs.declared.TheConstants.{LIMIT}
use Rattle.teco_law_runs.specs.Linked.{AreLinked}
use Rattle.teco_model.specs.Macros.{Needs}
use Rattle.teco_model.specs.Run.{Reaches}
use Rattle.teco_model.specs.State.{State}
use Rattle.teco_rows.specs.declared.case.Case.{Case}
use Rattle.teco_flow_outcomes.specs.Law.{point_of}
use Rattle.teco_rows.specs.States.{Describes}
use Rattle.teco_paths.specs.declared.cut.CutState.{CutState}
use Rattle.teco_paths.specs.declared.spot.NodeCase.{NodeCase}
use Rattle.teco_paths.specs.Claims.{AreClaimed, IsSaid}
use Rattle.teco_paths.specs.Runs.{Ground, IsAt, EndsBy, Limits}
use Rattle.teco_poly.specs.Polynomial.{Polynomial, value}
use Rattle.teco_promise.specs.Promise.{most_with}
use Rattle.teco_verifier.specs.expansion.Node.{Node}

-- The nodes of a macro, how long the texts of its library are, which files are open, the cut points, how many steps a
-- run may take and how much it may hold, and, if that is claimed, how much longer its text may get and how many bytes
-- it may type.
pub record Course : Type 0 where
  pub nodes : List Node
  pub lengths : List (Option ℕ)
  pub needs : Needs
  pub cuts : List CutState
  pub commands : Polynomial
  pub size : Polynomial
  pub grows : Option Polynomial
  pub types : Option Polynomial

-- A run is of the nodes of a course, with its files open, and the size may be held.
pub record IsOf (course : Course) (ground : Ground) : Type 0 where
  pub linked : AreLinked ground.library ground.entry course.nodes
  pub needs : ground.needs ≡ course.needs
  pub room : value course.size ground.n ≤ LIMIT

-- what a run keeps within
abbrev pub limits_of : Course → Ground → Limits
limits_of course ground = record {
  most = value course.commands ground.n;
  size = value course.size ground.n;
  grown = most_with course.grows ground.n ground.origin.held;
  typed = most_with course.types ground.n ground.origin.typed;
}

-- A run ends in time from a state, so many steps after its entry, and on the way all is as is said at the cut points.
abbrev pub Ends : Course → Ground → ℕ → State → Type 0
Ends course ground steps s =
    EndsBy course.nodes ground (limits_of course ground) (IsSaid course.cuts ground.n) steps s

-- A run comes to a cut point behind its first element in time, and all is as it says.
pub record IsAtCut (course : Course) (ground : Ground) (steps : ℕ) (s : State) (cut : CutState) : Type 0 where
  pub later : cut.number ≢ 1
  pub at : IsAt course.nodes ground cut.number s
  pub claimed : AreClaimed ground.n cut (point_of steps ground.origin s)
  pub within : steps ≤ value course.commands ground.n

-- where a run comes to a cut point, after this many steps or more, it ends from there
abbrev pub CutsEnd : Course → Ground → ℕ → ℕ → State → Type 0
CutsEnd course ground least steps s =
    (k : ℕ) (t : State)
    → least ≤ k → Reaches k s t → Any (IsAtCut course ground (steps + k) t) course.cuts
    → Ends course ground (steps + k) t

-- A run ends from each state at a spot, if it does so from the cut points that it comes to, or is at.
abbrev pub LeadsOn : Course → NodeCase → Type 0
LeadsOn course spot =
    (ground : Ground) (steps : ℕ) (s : State)
    → IsOf course ground → IsAt course.nodes ground spot.number s
    → Describes ground.n spot.case (point_of steps ground.origin s) → CutsEnd course ground 0 steps s
    → Ends course ground steps s

-- A run ends from each state at a number that a case describes, and that is as is said there, if it does so from the
-- cut points that it comes to then.
abbrev pub Leads : Course → ℕ → Case → Type 0
Leads course number case =
    (ground : Ground) (steps : ℕ) (s : State)
    → IsOf course ground → IsAt course.nodes ground number s
    → Describes ground.n case (point_of steps ground.origin s)
    → IsSaid course.cuts ground.n number (point_of steps ground.origin s)
    → CutsEnd course ground 1 steps s → Ends course ground steps s

-- A run ends from a cut point, if it does so from those that it comes to then.
abbrev pub IsFollowed : Course → CutState → Type 0
IsFollowed course cut =
    (ground : Ground) (steps : ℕ) (s : State)
    → IsOf course ground → IsAtCut course ground steps s cut
    → IsSaid course.cuts ground.n cut.number (point_of steps ground.origin s)
    → CutsEnd course ground 1 steps s → Ends course ground steps s

-- Each state that a spot describes, as a run comes to it, is at a cut point in time.
abbrev pub Arrives : Course → NodeCase → CutState → Type 0
Arrives course spot cut =
    (ground : Ground) (steps : ℕ) (s : State)
    → IsAt course.nodes ground spot.number s → Describes ground.n spot.case (point_of steps ground.origin s)
    → IsAtCut course ground steps s cut
