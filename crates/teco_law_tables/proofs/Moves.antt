-- Moves that lead from one state of a table of numbers to another.
use Rattle.teco_law_tables.proofs.Prelude.{◌≡◌, ℕ, zero, suc, ◌+◌, ◌≤◌, refl, sym, subst, arith, Shown, Move}
use Rattle.teco_law_turns.specs.Moves.{RunTakes}
use Rattle.teco_law_turns.specs.Table.{Table as Numbers}
use Rattle.teco_law_turns.specs.Turns.{Lead}

-- some moves lead from one state to another, in so many steps
abbrev pub Came : Numbers → ℕ → Shown → ℕ → Shown → Type 0
Came t zero s total last = (s ≡ last) × (total ≡ 0)
Came t (suc moves) s total last =
    (new : Shown) × (own : ℕ) × (rest : ℕ) × Move t s new × (own ≤ t.own s.node) × Came t moves new rest last
    × (total ≡ own + rest)

pub came_on : (t : Numbers) (moves : ℕ) (s last new : Shown) (total own : ℕ) → Came t moves s total last
    → Move t last new → own ≤ t.own last.node → Came t (suc moves) s (total + own) new
came_on t zero s last new total own c m l = (
  new,
  own,
  0,
  subst (λ (s : Shown). Move t s new) (sym c.0) m,
  subst (λ (s : Shown). own ≤ t.own s.node) (sym c.0) l,
  (refl, refl),
  omega (arith, c.1),
)
came_on t (suc moves) s last new total own c m l =
    (c.0, c.1, c.2 + own, c.3, c.4, came_on t moves c.0 last new c.2 own c.5 m l, omega (arith, c.6))

pub came_takes : (t : Numbers) (moves : ℕ) (s last : Shown) (total k : ℕ) → Came t moves s total last
    → k ≤ t.own last.node → RunTakes t moves s (total + k)
came_takes t zero s last total k c l = let e = subst (λ (s : Shown). k ≤ t.own s.node) (sym c.0) l in
    omega (arith, c.1, e)
came_takes t (suc moves) s last total k c l =
    (c.0, c.1, c.2 + k, c.3, c.4, came_takes t moves c.0 last c.2 k c.5 l, omega (arith, c.6))

pub came_leads : (t : Numbers) (moves : ℕ) (s last : Shown) (total : ℕ) → Came t moves s total last
    → Lead t moves s last
came_leads t zero s last total c = c.0
came_leads t (suc moves) s last total c = (c.0, c.3, came_leads t moves c.0 last c.2 c.5)
