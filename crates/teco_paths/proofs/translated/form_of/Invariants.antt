use Rattle.teco_paths.proofs.Prelude.{◌≡◌, ℕ, Some, take, value, Point, Node, numbered, numbers_of}
use Rattle.teco_paths.specs.Meaning.{Sums}
use Rattle.teco_paths.proofs.translated.form_of.Given as goal

-- the form is the sum of the terms before this one
abbrev pub invariant-loop-term : goal.invariant-loop-term
invariant-loop-term l =
    (node : Node) → numbered l.nodes l.number ≡ Some node → (n : ℕ) (s : Point)
    → Sums node n s l.times (take l.term-index l.claim) (value l.form n (numbers_of s))
