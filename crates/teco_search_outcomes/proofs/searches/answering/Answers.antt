use Rattle.teco_search_outcomes.proofs.Prelude.{◌≡◌, [], ◌∷◌, negsuc, pos, refl, Some, arith, common_steps}
use Rattle.teco_search_outcomes.proofs.Seeking.{answers_both}
use Rattle.teco_search_outcomes.proofs.searches.answering.Goals as goal

pub returns-clause-answers : goal.returns-clause-answers
returns-clause-answers c =
    let items : c.push-2.new.self.items ≡ c.in_ok-yes.yes ∷ c.in_ok-no.no ∷ [] = grind (arith, common_steps) in
    answers_both c.args.found.now c.args.missed.now c.in_ok-yes.yes c.in_ok-no.no _
    (c.in_ok-yes.ensures (Some (negsuc 0)) refl) (c.in_ok-no.ensures (Some (pos 0)) refl) items
