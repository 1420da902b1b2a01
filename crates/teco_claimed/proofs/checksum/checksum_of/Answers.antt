use Rattle.std.proofs.Common.{◌∙◌, ◌+◌, ◌∷◌, [], ℕ, List, Option, ap, sym, arith, fold, if◌then◌else◌, unwrap_or}
use Rattle.teco_claimed.proofs.Sums.{all_behind, one_behind, none_behind, text_at}
use Rattle.teco_claimed.specs.Checksum.{is_run, with_symbol}
use Rattle.teco_claimed.proofs.checksum.checksum_of.Goals as goal

pub loop-place-init : goal.loop-place-init
loop-place-init c = all_behind c.args.library.now.texts c.args.nodes.now

pub loop-place-preserved : goal.loop-place-preserved
loop-place-preserved c =
    let texts = c.args.library.now.texts in
    let nodes = c.args.nodes.now in
    let place = c.loop-place.place in
    let sum = c.loop-place.sum in
    let text = text_at c.texts-texts.result texts place c.texts-texts.ensures.value in
    let with_text = λ (text : Option (List ℕ)). if is_run nodes place
    then fold with_symbol sum ((256 + place) ∷ unwrap_or text []) else sum in
    rw (c.with_register-sum.ensures ∙ ap with_text text)
    (one_behind texts nodes sum place c.loop-place-test.true ∙ c.loop-place.invariant)

pub returns : goal.returns
returns c =
    sym (none_behind c.args.library.now.texts c.args.nodes.now c.loop-place.sum c.loop-place.place (omega arith))
    ∙ c.loop-place.invariant
