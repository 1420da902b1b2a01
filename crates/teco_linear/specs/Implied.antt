-- When constraints imply a target, and how multipliers show it.
use Rattle.std.specs.Prelude.{◌≡◌, ℕ, ◌-◌, ◌*◌, ◌^◌, ℤ, pos, ◌+ℤ◌, ◌-ℤ◌, ◌*ℤ◌, ◌≤ℤ◌, List, [], ◌∷◌, Bool, IsTrue, ◌↔◌}
use Rattle.std.specs.Prelude.{slice_index_or}
use Rattle.std.specs.List.{All}
use Rattle.teco_linear.specs.declared.term.Term.{Term}
use Rattle.teco_linear.specs.declared.implied.Multiplier.{Multiplier}
use Rattle.teco_linear.specs.Form.{Valuation, value, IsHarmless}

-- a constraint holds where its form is at least 0
abbrev pub Holds : ℕ → Valuation → List Term → Type 0
Holds n v form = pos 0 ≤ℤ value form n v

-- the target holds for each N and each valuation for which all constraints hold
abbrev pub Implies : List (List Term) → List Term → Type 0
Implies constraints target = (n : ℕ) (v : Valuation) → All (Holds n v) constraints → Holds n v target

-- what a multiplier counts: factor times power
abbrev pub multiplier_value : Multiplier → ℕ → ℤ
multiplier_value m n = pos (m.factor * n ^ m.power)

-- the sum of the constraints, each times its multiplier
abbrev pub taken : List (List Term) → List Multiplier → ℕ → Valuation → ℤ
taken constraints [] n v = pos 0
taken constraints (m ∷ multipliers) n v =
    multiplier_value m n *ℤ value (slice_index_or constraints m.constraint []) n v +ℤ taken constraints multipliers n
    v

-- the rest is the divisor less 1, and the divisor times the target, without what is taken
abbrev pub IsRest : List (List Term) → List Multiplier → ℕ → List Term → List Term → Type 0
IsRest constraints multipliers divisor target rest =
    (n : ℕ) (v : Valuation)
    → value rest n v
    ≡ (pos (divisor - 1) +ℤ pos divisor *ℤ value target n v) -ℤ taken constraints multipliers n v

-- the answer is yes where no term of the rest can be below 0
abbrev pub Judges : List (List Term) → List Multiplier → ℕ → List Term → Bool → Type 0
Judges constraints multipliers divisor target answer =
    (rest : List Term)
    × IsRest constraints multipliers divisor target rest
    × (IsTrue answer ↔ All IsHarmless rest)
