use Rattle.std.proofs.Common.{refl, subst}
use Rattle.teco_hosts.specs.Events.{opened_input}
use Rattle.teco_pages.proofs.Following.{follows}
use Rattle.teco_pages.specs.Texts.{AreNoted}
use Rattle.teco_pages.proofs.texts.note_input.Goals as goal

pub returns-in-Some : goal.returns-in-Some
returns-in-Some c = λ events noted.
    follows (opened_input c.args._name.now) c.in-Some.texts
    (record { old = c.clear.new.self; new = c.in-Some.texts.new }) (c.clear.ensures.items, refl) events
    (subst (AreNoted events) c.in-Some.is noted)
