use Rattle.std.proofs.Common.{◌≡◌, List, ℕ, length, take, ◌≤◌, ap, ◌∙◌}
use Rattle.std.proofs.lemmas.List.{take_all}
use Rattle.std.specs.Prelude.{flat_map}
use Rattle.teco_parameters.specs.Quoting.{quotation}
use Rattle.teco_parameters.proofs.Found.{finds_alone}
use Rattle.teco_parameters.proofs.Quotations.{says}
use Rattle.teco_parameters.proofs.quoting.quoted.Goals as goal

whole : (quoted text : List ℕ) (i : ℕ) → quoted ≡ flat_map quotation (take i text) → length text ≤ i
    → quoted ≡ flat_map quotation text
whole quoted text i e h = e ∙ ap (flat_map quotation) (take_all i text h)

pub returns-clause-says : goal.returns-clause-says
returns-clause-says c =
    let text = c.args.text.now in
    says c.loop-byte.search.items text
    (whole c.loop-byte.search.items text c.loop-byte.byte-index c.loop-byte.invariant c.loop-byte-test.false)

pub returns-clause-found : goal.returns-clause-found
returns-clause-found c =
    let text = c.args.text.now in
    finds_alone c.loop-byte.search.items text
    (whole c.loop-byte.search.items text c.loop-byte.byte-index c.loop-byte.invariant c.loop-byte-test.false)
