use Rattle.std.proofs.Common.{List, ℕ, ◌++◌, ◌↔◌, take}
use Rattle.teco_policy.specs.Subsequences.{IsWithin}
use Rattle.teco_policy.proofs.subsequence.first_outside.Given as goal

abbrev pub invariant-loop-at : goal.invariant-loop-at
invariant-loop-at l =
    (later : List ℕ) → IsWithin l.besides (take l.at l.part ++ later) l.whole ↔ IsWithin l.besides later l.rest
