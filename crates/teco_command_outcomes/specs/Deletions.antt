-- What is asked of deletions.
use Rattle.std.specs.Prelude.{◌≡◌, ℕ, ◌+◌, ℤ, pos, ◌≤◌, List, length, Option, Some, None, unwrap_or}
use Rattle.teco_base.specs.Lines.{line_place}
use Rattle.teco_linear.specs.declared.term.Term.{Term}
use Rattle.teco_linear.specs.Form.{Valuation, value}
use Rattle.teco_model.specs.Deletion.{character_deletion, deletion_between, part_deletion}
use Rattle.teco_model.specs.Places.{span_between}
use Rattle.teco_model.specs.State.{Kept}
use Rattle.teco_motion_outcomes.specs.Changes.{IsDone}
use Rattle.teco_rows.specs.declared.case.Case.{Case}
use Rattle.teco_rows.specs.declared.outcomes.Outcomes.{Outcomes}
use Rattle.teco_rows.specs.Cases.{value_if}
use Rattle.teco_rows.specs.Commands.{commanded}
use Rattle.teco_rows.specs.Foretold.{Begins, Describe}
use Rattle.teco_rows.specs.States.{Point}

-- what is kept without the characters between two places
abbrev pub kept_without : ℕ → ℕ → Kept → Kept
kept_without a b kept = let part = span_between a b in (deletion_between part.start part.end kept).kept

-- where it begins so, and a form is a place, one of the cases describes the state without what is between that and the
-- pointer
abbrev pub CutsTo : List Term → Case → Outcomes → Type 0
CutsTo place case all =
    (n : ℕ) (v : Valuation) (s : Point) (k : ℕ)
    → Begins n v case all s → value place n v ≡ pos k → k ≤ length s.kept.text
    → Describe n all (commanded s (kept_without s.kept.pointer k s.kept) None)

-- or that is so of the place behind the pointer
abbrev pub CutsNext : List Term → Case → Outcomes → Type 0
CutsNext place case all =
    (n : ℕ) (v : Valuation) (s : Point) (k : ℕ)
    → Begins n v case all s → value place n v ≡ pos k → k ≤ length s.kept.text → k ≡ s.kept.pointer + 1
    → Describe n all (commanded s (kept_without s.kept.pointer k s.kept) None)

-- where it begins so, one of the cases describes the state without the lines up to the line place of a number,
abbrev pub CutsBy : ℤ → Case → Outcomes → Type 0
CutsBy by case all =
    (n : ℕ) (v : Valuation) (s : Point)
    → Begins n v case all s
    → Describe n all (commanded s
    (kept_without s.kept.pointer (line_place s.kept.text s.kept.pointer by) s.kept) None)

-- or of a form
abbrev pub CutsLines : List Term → Case → Outcomes → Type 0
CutsLines form case all =
    (n : ℕ) (v : Valuation) (s : Point)
    → Begins n v case all s
    → Describe n all (commanded s
    (kept_without s.kept.pointer (line_place s.kept.text s.kept.pointer (value form n v)) s.kept) None)

-- as many characters are deleted as a form says, or 1
abbrev pub DeletesCharacters : Option (List Term) → Case → Outcomes → Type 0
DeletesCharacters by case all =
    (n : ℕ) (v : Valuation) (s : Point)
    → Begins n v case all s → IsDone n all s (character_deletion (unwrap_or (value_if by n v) (pos 1)) s.kept)

-- as many lines are, or 1
abbrev pub DeletesLines : Option (List Term) → Case → Outcomes → Type 0
DeletesLines by case all =
    (n : ℕ) (v : Valuation) (s : Point)
    → Begins n v case all s → IsDone n all s (part_deletion None (value_if by n v) s.kept)

-- the part between the places that two forms are is
abbrev pub DeletesPart : List Term → List Term → Case → Outcomes → Type 0
DeletesPart first second case all =
    (n : ℕ) (v : Valuation) (s : Point)
    → Begins n v case all s → IsDone n all s (part_deletion (Some (value first n v)) (Some (value second n v)) s.kept)
