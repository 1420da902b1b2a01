-- A deletion is silent behind its shift.
use Rattle.teco_check.proofs.Prelude.{◌≡◌, refl, Option, Some, None, Result, Counted, RefusalReason, Value, ◌>>=◌}
use Rattle.teco_check.proofs.Prelude.{deletion_of, Facts, Foreseen, Shift, ending, silent_behind}
use Rattle.teco_model.specs.declared.kind.Unit.TheVariants.{Characters, Lines}
use Rattle.teco_check.specs.Shifts.{deleting}

-- what is left behind a shift, if it is not refused
abbrev pub left_by : Facts → Result Shift RefusalReason → Result Foreseen RefusalReason
left_by facts shift = shift >>= (λ s. silent_behind (ending s) facts)

pub deletes_by : (unit : Counted) (first value : Option Value) (facts : Facts)
    → deletion_of unit first value facts ≡ left_by facts (deleting unit first value facts.position.distances)
deletes_by Characters None None facts = refl
deletes_by Characters None (Some n) facts = refl
deletes_by Characters (Some m) None facts = refl
deletes_by Characters (Some m) (Some n) facts = refl
deletes_by Lines None None facts = refl
deletes_by Lines None (Some n) facts = refl
deletes_by Lines (Some m) None facts = refl
deletes_by Lines (Some m) (Some n) facts = refl
