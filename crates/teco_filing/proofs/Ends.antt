-- Texts that end with nothing.
use Rattle.teco_filing.proofs.Prelude.{append-nil}

pub ruleset ends = (append-nil)
