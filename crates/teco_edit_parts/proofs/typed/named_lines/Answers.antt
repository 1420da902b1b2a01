use Rattle.teco_edit_parts.proofs.Named.{named_more}
use Rattle.teco_edit_parts.proofs.typed.named_lines.Goals as goal

pub loop-byte-preserved : goal.loop-byte-preserved
loop-byte-preserved c =
    let more = named_more c.loop-byte.text.items c.args.name.now c.args.typed.now c.loop-byte.is_begun
    c.loop-byte.byte-index c.loop-byte-test.true in
    let begun = c.in_ok-is_begun.ensures.begun in
    let pushed = c.in_ok-is_begun.ensures.pushed in
    cc (more, begun, pushed, c.loop-byte.invariant)
