use Rattle.teco_session.proofs.Prelude.{false, refl, code_line, is_code, rest_code, World, Answers}
use Rattle.teco_session.proofs.Said.{said-writes, said-coded, said-exit}
use Rattle.teco_session.proofs.Together.{Joined-stays}
use Rattle.teco_session.proofs.sessions.answer_rest.Goals as goal
use Rattle.teco_session.specs.declared.strings.Piece.TheVariants as piece

pub returns : goal.returns
returns g c =
    let code = rest_code c.args.cut.now.limits c.args.cut.now.bytes.now in
    let writes = rw c.code_of_rest-code.ensures at c.write_code-line.ensures.line in
    let told = rw c.code_of_rest-code.ensures at c.write_code-line.ensures.told in
    Joined-stays (λ (old : World) (new : World). Answers c.args.cut.now.limits piece.Rest c.args.cut.now.bytes.now old
    new (g.H.Host.failures c.args.host.now) (g.H.Host.failures c.args.host.now)
    (g.W.Write.contents c.args.writer.now) (g.W.Write.contents c.write_code-line.new.writer) c.said.result)
    c.args.machine.now (g.H.Host.files c.args.host.now)
    (λ world. record {
      lines = code_line code;
      coded = is_code code;
      exit = false;
      ran = (record { stays = refl; counted = refl; all_lines = refl; a_line = refl }, refl);
      writes = said-writes _ _ _ _ _ _ c.said.ensures writes;
      coded_told = said-coded _ _ _ _ c.said.ensures told;
      exit_told = said-exit _ _ _ c.said.ensures;
    })
