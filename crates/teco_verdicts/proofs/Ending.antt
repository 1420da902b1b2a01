-- The macro of a certificate ends.
use Rattle.std.proofs.Common.{subst}
use Rattle.teco_law_runs.specs.Linked.{ExpansionsAreLinked}
use Rattle.teco_law_runs.specs.Ready.{AreOpen}
use Rattle.teco_law_tables.specs.Verified.{RunsAreVerified}
use Rattle.teco_verdicts.specs.Ending.{CertifiedMacrosEnd}

pub certified_macros_end : ExpansionsAreLinked → RunsAreVerified → CertifiedMacrosEnd
certified_macros_end linked verified library entry text certificate given n world called =
    let it = certificate.certified in
    let expanded = rw certificate.of_entry at it.expanded in
    verified library.texts entry certificate.fields.argument given it.nodes it.table
    certificate.fields.commands certificate.fields.size n world (linked library.texts entry it.nodes expanded)
    it.printed called.asked called.ready (subst (λ needs. AreOpen needs world.files) it.needs_are called.files)
