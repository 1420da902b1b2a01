use Rattle.teco_rows.proofs.Prelude.{◌≡◌, ℕ, ◌+◌, ◌-◌, None, slice_index_or, length}
use Rattle.teco_rows.proofs.applied.reach.Given as goal

-- what stands in each place is as before
abbrev pub invariant-loop-forms : goal.invariant-loop-forms
invariant-loop-forms l =
    (k : ℕ) → slice_index_or l.forms.items k None ≡ slice_index_or l.initial.forms.items k None

abbrev pub decreases-loop-forms : goal.decreases-loop-forms
decreases-loop-forms l = l.place + 1 - length l.forms.items
