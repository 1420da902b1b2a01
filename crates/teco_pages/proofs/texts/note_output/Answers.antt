use Rattle.std.proofs.Common.{refl, subst}
use Rattle.teco_hosts.specs.Events.{opened_output}
use Rattle.teco_pages.proofs.Following.{follows}
use Rattle.teco_pages.specs.Texts.{AreNoted}
use Rattle.teco_pages.proofs.texts.note_output.Goals as goal

pub returns-in-Some : goal.returns-in-Some
returns-in-Some c = λ events noted.
    follows (opened_output c.args._name.now) c.in-Some.texts
    (record { old = c.in-Some.texts.old; new = c.clear.new.self }) (refl, c.clear.ensures.items) events
    (subst (AreNoted events) c.in-Some.is noted)
