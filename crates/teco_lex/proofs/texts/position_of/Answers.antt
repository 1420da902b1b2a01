use Rattle.std.proofs.Common.{◌==◌}
use Rattle.teco_lex.proofs.FirstByte.{first_byte}
use Rattle.teco_lex.proofs.texts.position_of.Goals as goal

pub returns : goal.returns
returns c = first_byte (λ b. b == c.args.byte) c.args.bytes.now c.memchr.result c.memchr.ensures
