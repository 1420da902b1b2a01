use Rattle.std.proofs.Common.{IsTrue}
use Rattle.std.proofs.lemmas.List.Elements.{All-weaker}
use Rattle.teco_change_policies.specs.Plain.{IsOfEach}
use Rattle.teco_changes.proofs.Matches.{Only}
use Rattle.teco_change_policies.proofs.Plainly.{plain_match}
use Rattle.teco_change_policies.proofs.single.matches_are_of.Goals as goal
use Rattle.teco_model.specs.Pattern.{literal}
use Rattle.teco_model.specs.declared.pattern.Item.TheVariants as item
use Rattle.teco_policy.specs.Subsequences.{is_one_of}

pub returns-then-is_plain : goal.returns-then-is_plain
returns-then-is_plain c = λ ok taken h.
    plain_match (λ b. IsTrue (is_one_of c.args.characters.now b)) c.args.wanted.now taken
    (c.is_plain.ensures c.if-is_plain.true)
    (λ exact. All-weaker (IsOfEach c.args.characters.now)
    (λ b. Only (λ n. IsTrue (is_one_of c.args.characters.now n)) (item.Is (literal exact b)))
    (λ b each. each exact) c.args.wanted.now (c.have_each_case.ensures ok))
    h
