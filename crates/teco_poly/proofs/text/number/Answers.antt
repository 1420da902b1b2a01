use Rattle.teco_poly.proofs.Prelude.{◌≡◌, true, false, refl, sym, ◌∙◌, Decides-eqb}
use Rattle.teco_poly.proofs.Digits.{none_empty, none_padded, none_larger, number_found, some_digits}
use Rattle.teco_poly.proofs.text.number.Goals as goal
use Rattle.teco_poly.proofs.text.number.Goals.{then-is_empty-via-then-is_empty}
use Rattle.teco_poly.proofs.text.number.Goals.{then-is_empty-via-else-is_empty+then-is_padded}

pub returns-then-is_empty-clause-none : goal.returns-then-is_empty-clause-none
returns-then-is_empty-clause-none c =
    elim c.then-is_empty.branch [
      | then-is_empty-via-then-is_empty w ↦ none_empty c.args.digits.now
          ((Decides-eqb _ 0).0 (sym c.is_empty.ensures ∙ w.if-is_empty.true))
      | then-is_empty-via-else-is_empty+then-is_padded w ↦ none_padded c.args.digits.now (w.if-is_padded.ensures.0 refl)
    ]

refuted : false ≡ true → ⊥
refuted e = cc

pub returns-clause-found : goal.returns-clause-found
returns-clause-found c =
    number_found c.args.digits.now c.requires (some_digits c.args.digits.now c.if-is_empty.ensures)
    (λ padded. refuted (c.if-is_padded.ensures.1 padded)) c.digits_value.result c.digits_value.ensures

pub returns-clause-none : goal.returns-clause-none
returns-clause-none c = none_larger c.args.digits.now c.digits_value.result c.digits_value.ensures
