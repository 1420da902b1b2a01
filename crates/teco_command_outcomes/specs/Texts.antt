-- What is asked of commands that store the text of a register.
use Rattle.std.specs.Prelude.{◌≡◌, ℕ, zero, suc, ◌+◌, ℤ, pos, ◌+ℤ◌, ◌-ℤ◌, ◌≤ℤ◌, List, [], length, None, slice_index_or}
use Rattle.teco_base.specs.declared.TheConstants.{LIMIT}
use Rattle.teco_linear.specs.declared.term.Term.{Term}
use Rattle.teco_linear.specs.Form.{Valuation, value}
use Rattle.teco_model.specs.Checked.{◌>>=◌}
use Rattle.teco_model.specs.Places.{characters_of, line_span, range_span, span_between}
use Rattle.teco_model.specs.Registers.{with_text}
use Rattle.teco_model.specs.State.{Kept}
use Rattle.teco_model.specs.Storage.{text_in, text_storage}
use Rattle.teco_model.specs.declared.pattern.Span.{Span}
use Rattle.teco_model.specs.laws.Whole.{IsWhole}
use Rattle.teco_rows.specs.declared.case.Case.{Case}
use Rattle.teco_rows.specs.declared.outcomes.Outcomes.{Outcomes}
use Rattle.teco_rows.specs.Commands.{commanded}
use Rattle.teco_rows.specs.Foretold.{Begins, Describe}
use Rattle.teco_motion_outcomes.specs.Changes.{IsDone}
use Rattle.teco_rows.specs.States.{Point, IsTrueOf}

-- how much of a register's text stays: with a colon all, and else nothing
abbrev pub rest_of : ℕ → ℕ → Kept → List ℕ
rest_of zero register kept = []
rest_of (suc colons) register kept = text_in register kept

-- a form is the length of what stays
abbrev pub IsRest : ℕ → ℕ → Case → List Term → Type 0
IsRest register colons case form =
    (n : ℕ) (v : Valuation) (s : Point)
    → IsTrueOf n v case s → IsWhole s.kept → value form n v ≡ pos (length (rest_of colons register s.kept))

-- a length is not above the limit
abbrev pub Fits : ℤ → Type 0
Fits x = x ≤ℤ pos LIMIT

-- what is kept with this text in a register
abbrev pub kept_with_text : ℕ → List ℕ → Kept → Kept
kept_with_text register text kept = record kept { registers = with_text register text kept.registers }

-- a text is as long as what stays and a part
abbrev pub IsGrownBy : ℕ → Span → List ℕ → Type 0
IsGrownBy rest part text = length text + part.start ≡ rest + part.end

-- one of the cases describes the state with a text that is as long as what stays and the part between two places
pub record Copies (register : ℕ) (given : List (List Term)) (case : Case) (all : Outcomes) : Type 0 where
  pub to : (n : ℕ) (v : Valuation) (s : Point) (rest a b : ℕ) (text : List ℕ)
      → IsTrueOf n v case s → IsWhole s.kept → value (slice_index_or given 0 []) n v ≡ pos rest
      → value (slice_index_or given 1 []) n v ≡ pos a → value (slice_index_or given 2 []) n v ≡ pos b
      → IsGrownBy rest (span_between a b) text
      → Describe n all (commanded s (kept_with_text register text s.kept) None)

-- or and as many lines as a number says
pub record CopiesLines (register : ℕ) (given : List (List Term)) (case : Case) (all : Outcomes) : Type 0 where
  pub to : (n : ℕ) (v : Valuation) (s : Point) (rest : ℕ) (text : List ℕ)
      → IsTrueOf n v case s → IsWhole s.kept → value (slice_index_or given 0 []) n v ≡ pos rest
      → IsGrownBy rest (line_span s.kept.text s.kept.pointer (value (slice_index_or given 1 []) n v)) text
      → Describe n all (commanded s (kept_with_text register text s.kept) None)

-- what stays and a part between two places, in either order, are not above the limit
abbrev pub HasRoomFor : ℤ → ℤ → ℤ → Type 0
HasRoomFor rest a b = Fits (rest +ℤ (b -ℤ a)) × Fits (rest +ℤ (a -ℤ b))

-- where it begins so, the part between the places that two forms are is copied,
abbrev pub CopiesPart : ℕ → ℕ → List Term → List Term → Case → Outcomes → Type 0
CopiesPart register colons first second case all =
    (n : ℕ) (v : Valuation) (s : Point)
    → Begins n v case all s
    → IsDone n all s (range_span s.kept.text (value first n v) (value second n v)
    >>= (λ part. text_storage colons register (characters_of part s.kept) s.kept))

-- so many lines are,
abbrev pub CopiesCount : ℕ → ℕ → ℤ → Case → Outcomes → Type 0
CopiesCount register colons count case all =
    (n : ℕ) (v : Valuation) (s : Point)
    → Begins n v case all s
    → IsDone n all s (text_storage colons register
    (characters_of (line_span s.kept.text s.kept.pointer count) s.kept) s.kept)

-- and as many as a form says
abbrev pub CopiesCounted : ℕ → ℕ → List Term → Case → Outcomes → Type 0
CopiesCounted register colons form case all =
    (n : ℕ) (v : Valuation) (s : Point)
    → Begins n v case all s
    → IsDone n all s (text_storage colons register
    (characters_of (line_span s.kept.text s.kept.pointer (value form n v)) s.kept) s.kept)
