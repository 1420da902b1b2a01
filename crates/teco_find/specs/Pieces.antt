-- Texts that are held in two pieces, as the two sides of a gap.
use Rattle.std.specs.Borrow.{Bor}
use Rattle.std.specs.Prelude.{ℕ, List, ◌++◌, ◌≤◌, length}
use Rattle.teco_model.specs.declared.pattern.Sought.{Sought}
use Rattle.teco_model.specs.declared.pattern.Sought.TheVariants.{Last, Wanted}

-- a text that is held in two pieces
abbrev pub joined : Bor (List ℕ) × Bor (List ℕ) → List ℕ
joined pieces = pieces.0.now ++ pieces.1.now

-- the last of the matches, if it is there, is a part of the text
abbrev pub IsSoughtPart : List ℕ → Sought → Type 0
IsSoughtPart text (Last span) = (span.start ≤ span.end) × (span.end ≤ length text)
IsSoughtPart text (Wanted n) = (1 ≤ n)
