-- A linear form is the list of its terms. A term is a whole number times a power of N times a symbol, if it has one.
use Rattle.std.specs.Prelude.{◌≡◌, ℕ, ◌^◌, ℤ, pos, ◌+ℤ◌, ◌*ℤ◌, ◌≤ℤ◌, List, [], ◌∷◌, Option, Some, None, MatchOption}
use Rattle.std.specs.Prelude.{slice_index_or}
use Rattle.teco_linear.specs.declared.term.Term.{Term}
use Rattle.teco_linear.specs.declared.term.Scale.{Scale}

-- a valuation gives each symbol a whole number
abbrev pub Valuation : Type 0
Valuation = ℕ → ℤ

-- what a symbol counts; without one, 1
abbrev pub symbol_value : Valuation → Option ℕ → ℤ
symbol_value v None = pos 1
symbol_value v (Some symbol) = v symbol

-- the value of a term where N is n: coefficient times power times symbol
abbrev pub term_value : Term → ℕ → Valuation → ℤ
term_value t n v = t.coefficient *ℤ (pos (n ^ t.power) *ℤ symbol_value v t.symbol)

-- the value of what forms are multiplied by: factor times power
abbrev pub scale_value : Scale → ℕ → ℤ
scale_value s n = s.factor *ℤ pos (n ^ s.power)

-- the value of a form: the sum of its terms
abbrev pub value : List Term → ℕ → Valuation → ℤ
value [] n v = pos 0
value (t ∷ form) n v = term_value t n v +ℤ value form n v

-- a term that is never below 0: with no symbol a coefficient from 0 on, with a symbol 0
abbrev pub IsHarmless : Term → Type 0
IsHarmless t = MatchOption t.symbol (pos 0 ≤ℤ t.coefficient) (λ _. t.coefficient ≡ pos 0)

-- a symbol is worth what the form of its number is, and 0 where there is none
abbrev pub values : List (List Term) → ℕ → Valuation → Valuation
values forms n v symbol = value (slice_index_or forms symbol []) n v

-- the form that stands for a symbol, or for none
abbrev pub form_in_place : List Term → List (List Term) → Option ℕ → List Term
form_in_place one forms None = one
form_in_place one forms (Some symbol) = slice_index_or forms symbol []
