use Rattle.teco_paths.proofs.Prelude.{refl, sym, ap, ◌∙◌, subst, pos, ◌^◌, ◌*ℤ◌, place, numbers_of}
use Rattle.std.proofs.Common.{rules}
use Rattle.std.specs.Int.{w128}
use Rattle.std.proofs.lemmas.Int.{to_z-of_z}
use Rattle.teco_claims.specs.declared.term.ClaimMeasure.{ClaimMeasure}
use Rattle.teco_paths.proofs.Meant.{number_of_measure}
use Rattle.teco_paths.specs.Meaning.{IsNumber}
use Rattle.std.specs.Prelude.{Option}
use Rattle.teco_paths.proofs.translated.term_of.Goals as goal

pub returns-in-None : goal.returns-in-None
returns-in-None c node is n s = record {
  parts = c.in_ok-coefficient.ensures.0;
  whole = c.in_ok-coefficient.ensures.1;
  number = pos 1;
  spoken = subst (λ (o : Option ClaimMeasure). IsNumber node s o (pos 1)) (sym c.in-None.is) refl;
  is = ap (λ x. x *ℤ (pos (n ^ c.args.term.now.power) *ℤ pos 1))
      (to_z-of_z w128 c.in_ok-coefficient.coefficient (search rules) ∙ c.in_ok-coefficient.ensures.2);
}

pub returns-in-Ok : goal.returns-in-Ok
returns-in-Ok c node is n s = record {
  parts = c.in_ok-coefficient.ensures.0;
  whole = c.in_ok-coefficient.ensures.1;
  number = numbers_of s (place c.in_ok-measure-in-Some.measure);
  spoken =
      subst (λ (o : Option ClaimMeasure). IsNumber node s o (numbers_of s (place c.in_ok-measure-in-Some.measure)))
      (sym c.in-Some.is)
      (number_of_measure node s c.in-Some.measure c.in_ok-measure-in-Some.measure
      (c.in_ok-measure-in-Some.ensures node is));
  is =
      ap (λ x. x *ℤ (pos (n ^ c.args.term.now.power) *ℤ numbers_of s c.in-Ok.symbol))
      (to_z-of_z w128 c.in_ok-coefficient.coefficient (search rules) ∙ c.in_ok-coefficient.ensures.2)
      ∙ search rules;
}
