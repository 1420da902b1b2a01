use Rattle.std.proofs.Common.{option_map, refl, rules}
use Rattle.std.proofs.lemmas.Iterator.Adapters.{YieldsList-from_vec}
use Rattle.std.proofs.lemmas.Iterator.Consumers.{YieldsList-turn, YieldsList-end, YieldsList-from_enumerate}
use Rattle.std.proofs.lemmas.List.{length_push, set-get_or}
use Rattle.teco_model.specs.Registers.{empty_pair}
use Rattle.teco_regs.proofs.OwnTexts.{own_texts_turn, own_texts_end}
use Rattle.teco_regs.proofs.regs.put_texts.Goals as goal

pub loop-i-preserved-in-Some-text : goal.loop-i-preserved-in-Some-text
loop-i-preserved-in-Some-text c =
    let each = YieldsList-from_enumerate {s = c.into_iter-i-iterator.result}
    (YieldsList-from_vec c.args.texts.items (search rules) (search rules)) (search rules) in
    let turn = YieldsList-turn each c.loop-i.yielded _ c.loop-i.yielded_by _ c.next.new.self (
      c.in-Some.i,
      c.in-Some.text,
    ) c.in-Some.is c.next.ensures.steps in
    let step = own_texts_turn (option_map (λ text. text.items)) c.args.texts.items c.args.pairs.now c.loop-i.pairs _
    c.in-Some.i c.in-Some.text c.index-pairs-i.result turn (search rules) c.loop-i.invariant in
    let more = length_push c.loop-i.yielded (c.in-Some.i, c.in-Some.text) in
    rw (more, ← step, c.in-Some-text.is, ← c.pair.view_is) refl

pub loop-i-preserved : goal.loop-i-preserved
loop-i-preserved c =
    let each = YieldsList-from_enumerate {s = c.into_iter-i-iterator.result}
    (YieldsList-from_vec c.args.texts.items (search rules) (search rules)) (search rules) in
    let turn = YieldsList-turn each c.loop-i.yielded _ c.loop-i.yielded_by _ c.next.new.self (
      c.in-Some.i,
      c.in-Some.text,
    ) c.in-Some.is c.next.ensures.steps in
    let step = own_texts_turn (option_map (λ text. text.items)) c.args.texts.items c.args.pairs.now c.loop-i.pairs _
    c.in-Some.i c.in-Some.text empty_pair turn (search rules) c.loop-i.invariant in
    let more = length_push c.loop-i.yielded (c.in-Some.i, c.in-Some.text) in
    let stays = set-get_or c.loop-i.pairs c.in-Some.i empty_pair in
    rw (more, ← step, c.in_default.is, stays) refl

pub returns : goal.returns
returns c =
    let each = YieldsList-from_enumerate {s = c.into_iter-i-iterator.result}
    (YieldsList-from_vec c.args.texts.items (search rules) (search rules)) (search rules) in
    let end = YieldsList-end each c.loop-i.yielded _ c.loop-i.yielded_by _ c.next.new.self c.in-None.is
    c.next.ensures.steps in
    own_texts_end (option_map (λ text. text.items)) c.args.texts.items c.args.pairs.now c.loop-i.pairs _ end.1
    (search rules) c.loop-i.invariant
