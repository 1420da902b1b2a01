use Rattle.teco_expansion.proofs.Prelude.{library_of}
use Rattle.teco_expansion.proofs.texts.Texts.gap.Goals as goal

pub returns : goal.returns
returns c = rw c.in_ok-register.was (c.gap_at.ensures (library_of c.args.self.now) c.args.self.now.gaps_right)
