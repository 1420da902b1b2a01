-- An element that does no more than its edge says goes on.
use Rattle.std.proofs.Common.{ℕ, ◌+◌, ◌≤◌, ◌⊎◌, inl, inr, ℤ, pos, ◌+ℤ◌, ◌≤ℤ◌, Option, Some, None, MatchOption, arith}
use Rattle.std.proofs.lemmas.Int.{ints}
use Rattle.std.specs.Prelude.{⊤}
use Rattle.teco_law_turns.specs.Moves.{FallFollows}
use Rattle.teco_law_turns.specs.Edges.{IsCarried, EdgesGo}
use Rattle.teco_law_turns.proofs.Standing.{each_map}

told : (drop x y : Option ℤ) (ahead new : ℕ) → MatchOption drop ⊤ (λ d. (pos new +ℤ d) ≤ℤ pos ahead)
    → IsCarried drop x y → FallFollows x y ahead new
told drop x None ahead new does is = tt
told (Some d) (Some v) (Some w) ahead new does is = omega (arith, ints)
told drop x y ahead new does is = absurd (grind arith)

bounded : (drop : Option ℤ) (old_most most held_most ahead new held : ℕ) → ahead ≤ old_most → held ≤ held_most
    → new ≤ held → MatchOption drop ⊤ (λ d. (pos new +ℤ d) ≤ℤ pos ahead)
    → MatchOption drop ⊥ (λ d. pos old_most ≤ℤ (pos most +ℤ d)) ⊎ (held_most ≤ most) → new ≤ most
bounded drop old_most most held_most ahead new held few many within does (inr h) = omega arith
bounded None old_most most held_most ahead new held few many within does (inl h) = absurd h
bounded (Some d) old_most most held_most ahead new held few many within does (inl h) = omega (arith, ints)

pub edges_go : EdgesGo
edges_go t s new e held ahead edge does opened =
    let grows : new.held + t.held_most s.node ≤ s.held + t.held_most new.node =
    omega (arith, ints, does.held, edge.held) in
    record {
      later = edge.later;
      inside = edge.inside;
      reached = edge.reached;
      loops = edge.loops;
      opened = opened;
      held = grows;
      ahead = bounded e.drop (t.ahead_most s.node) (t.ahead_most new.node) (t.held_most new.node) s.ahead new.ahead
          new.held ahead (omega arith) does.within does.ahead edge.ahead;
      falls = each_map (λ o. IsCarried e.drop (t.fall s.node o) (t.fall new.node o))
          (λ o. FallFollows (t.fall s.node o) (t.fall new.node o) s.ahead new.ahead) (t.loops new.node)
          (λ o is. told e.drop (t.fall s.node o) (t.fall new.node o) s.ahead new.ahead does.ahead is) edge.falls;
    }
