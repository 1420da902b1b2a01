use Rattle.teco_poly.proofs.Prelude.{Some, None, refl, sym, ◌∙◌, Decides-eqb}
use Rattle.std.proofs.lemmas.List.{append_cancel_left}
use Rattle.std.proofs.lemmas.Slice.Eq.{strip_prefix_is}
use Rattle.teco_poly.proofs.reading.word_at.Goals as goal

pub returns-in-Some-clause-word : goal.returns-in-Some-clause-word
returns-in-Some-clause-word c =
    let stands =
    strip_prefix_is Decides-eqb c.args.text.now c.args.word.now (Some c.in-Some.rest) c.in-Some.ensures.cases in
    record {
      there = λ rest e. (refl, append_cancel_left c.args.word.now c.in-Some.rest.now rest (sym stands ∙ e));
      not_there = λ others. absurd (others c.in-Some.rest.now stands);
    }

pub returns-in-None-clause-word : goal.returns-in-None-clause-word
returns-in-None-clause-word c = record {
  there =
      λ rest e.
      absurd (strip_prefix_is Decides-eqb c.args.text.now c.args.word.now None c.in-None.ensures.cases rest e);
  not_there = λ others. (refl, refl);
}
