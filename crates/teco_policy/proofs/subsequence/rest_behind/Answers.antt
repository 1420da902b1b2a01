use Rattle.std.proofs.Common.{◌∙◌, sym}
use Rattle.teco_policy.proofs.Subsequences.{has_place, none_left}
use Rattle.teco_policy.proofs.subsequence.rest_behind.Goals as goal

pub returns-in_err-place : goal.returns-in_err-place
returns-in_err-place c =
    λ part. none_left c.from_residual.result c.args.byte c.args.besides.now part c.args.whole.now
    c.from_residual.ensures
    (sym c.contains.ensures.value ∙ c.if-contains.false) c.in_err-place.ensures

pub returns : goal.returns
returns c =
    λ part. has_place c.args.byte c.args.besides.now part c.args.whole.now c.in_ok-place.place
    (sym c.contains.ensures.value ∙ c.if-contains.false) c.in_ok-place.ensures
