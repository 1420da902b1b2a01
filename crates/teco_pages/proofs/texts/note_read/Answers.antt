use Rattle.std.proofs.Common.{refl, subst}
use Rattle.teco_pages.proofs.Following.{follows_reading}
use Rattle.teco_pages.specs.Texts.{AreNoted}
use Rattle.teco_pages.proofs.texts.note_read.Goals as goal

pub returns-else-not-is_kept : goal.returns-else-not-is_kept
returns-else-not-is_kept c = λ events noted.
    follows_reading c.args.n c.args.buf.now c.in-Some.texts
    (record { old = c.is_added-is_kept.new.text; new = c.in-Some.texts.new })
    (c.is_added-is_kept.ensures c.if-not-is_kept.false) refl events
    (subst (AreNoted events) c.in-Some.is noted)
