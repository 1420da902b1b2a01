use Rattle.teco_rows.proofs.Copies.{AreCopied}
use Rattle.teco_rows.proofs.applied.copied_forms.Given as goal

-- the forms before this one are copied
abbrev pub invariant-loop-form : goal.invariant-loop-form
invariant-loop-form l = AreCopied l.forms l.form-index l.copies.items
