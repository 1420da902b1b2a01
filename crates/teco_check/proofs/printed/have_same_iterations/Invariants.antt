use Rattle.teco_check.proofs.Prelude.{◌≡◌, ℕ, ◌<◌, slice_get, node_at}
use Rattle.teco_check.proofs.printed.have_same_iterations.Given as goal

-- those before this one are the same
abbrev pub invariant-loop-at : goal.invariant-loop-at
invariant-loop-at l =
    (k : ℕ) → k < l.at → slice_get (node_at l.nodes l.one).stand.iterations k ≡ slice_get
    (node_at l.nodes l.other).stand.iterations k
