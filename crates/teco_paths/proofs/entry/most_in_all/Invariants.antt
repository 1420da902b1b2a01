use Rattle.teco_paths.proofs.Prelude.{◌≡◌, ℕ, pos, ◌-ℤ◌, Valuation, value, used_lengths}
use Rattle.teco_paths.proofs.entry.most_in_all.Given as goal

-- the texts of the registers before this one are taken away
abbrev pub invariant-loop-register : goal.invariant-loop-register
invariant-loop-register l =
    (n : ℕ) (v : Valuation) → value l.form n v ≡ (pos n -ℤ v 3) -ℤ used_lengths l.used v l.register
