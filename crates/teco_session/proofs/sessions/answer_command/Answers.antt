use Rattle.teco_session.proofs.Prelude.{◌++◌, ap, sym, refl, Stops, code_line, code_of, is_code, is_exit, World, start}
use Rattle.teco_session.proofs.Prelude.{Answers}
use Rattle.teco_model.specs.State.{Kept}
use Rattle.teco_session.proofs.Counting.{stop-rises, said-counts}
use Rattle.teco_session.proofs.Said.{said-writes, said-coded, said-exit}
use Rattle.teco_session.proofs.Together.{Joined-typed}
use Rattle.teco_session.proofs.sessions.answer_command.Goals as goal
use Rattle.teco_session.specs.declared.strings.Piece.TheVariants as piece

pub returns-clause-run : goal.returns-clause-run
returns-clause-run g c =
    let stop = c.run_to_stop-stopped.result.stop in
    Joined-typed (λ (old : World) (after : World). Stops (start c.args.cut.now.bytes.now old)
    c.args.cut.now.limits.steps stop after)
    (λ (old : World) (new : World). Answers c.args.cut.now.limits piece.Command c.args.cut.now.bytes.now old new
    (g.H.Host.failures c.args.host.now) (g.H.Host.failures c.run_to_stop-stopped.new.host)
    (g.W.Write.contents c.args.writer.now) (g.W.Write.contents c.write_stop-line.new.writer) c.said.result)
    c.args.machine.now c.run_to_stop-stopped.new.self c.write_stop-line.new.machine
    (g.H.Host.files c.args.host.now) (g.H.Host.files c.run_to_stop-stopped.new.host) c.write_stop-line.ensures.taken
    (λ (old : World) (after : World) same stops. record {
      lines = c.run_to_stop-stopped.new.self.kept.typed ++ code_line (code_of stop);
      coded = is_code (code_of stop);
      exit = is_exit stop;
      ran = record {
        stop = stop;
        after = after;
        stops = stops;
        counted = c.run_to_stop-stopped.ensures.counted;
        stays = refl;
        all_lines = ap (λ (kept : Kept). kept.typed ++ code_line (code_of stop)) (sym same);
        a_line =
            refl;
        an_exit = refl;
      };
      writes = said-writes _ _ _ _ _ _ c.said.ensures c.write_stop-line.ensures.lines;
      coded_told = said-coded _ _ _ _ c.said.ensures c.write_stop-line.ensures.told;
      exit_told = rw c.is_exit.ensures at (said-exit _ _ _ c.said.ensures);
    })
    c.run_to_stop-stopped.ensures.stops

pub returns-clause-counted : goal.returns-clause-counted
returns-clause-counted g c =
    said-counts _ _ _ _ _ _ (stop-rises c.run_to_stop-stopped.result.stop _ _ c.run_to_stop-stopped.ensures.counted)
    c.write_stop-line.ensures.told c.said.ensures

pub returns-clause-touches : goal.returns-clause-touches
returns-clause-touches g c = record {
  behind = c.run_to_stop-stopped.new.self;
  ran = record {
    stopped = c.run_to_stop-stopped.result;
    stops = c.run_to_stop-stopped.ensures.stops;
    touches = c.run_to_stop-stopped.ensures.noted;
  };
  taken = c.write_stop-line.ensures.taken;
}
