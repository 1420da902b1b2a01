use Rattle.std.proofs.Common.{refl, subst, take}
use Rattle.teco_hosts.specs.Events.{wrote}
use Rattle.teco_pages.proofs.Following.{follows}
use Rattle.teco_pages.specs.Texts.{AreNoted}
use Rattle.teco_pages.proofs.texts.note_written.Goals as goal

pub returns-else-not-is_kept : goal.returns-else-not-is_kept
returns-else-not-is_kept c = λ events noted.
    follows (wrote (take c.args.n c.args.bytes.now)) c.in-Some.texts
    (record { old = c.in-Some.texts.old; new = c.is_added-is_kept.new.text })
    (refl, c.is_added-is_kept.ensures c.if-not-is_kept.false) events
    (subst (AreNoted events) c.in-Some.is noted)
