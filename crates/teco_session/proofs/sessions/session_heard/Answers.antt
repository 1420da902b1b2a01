use Rattle.teco_session.proofs.Prelude.{[], length, ap, arith, refl, false, true, Ok, Err, ◌||◌, ◌+◌, Consumes-nil}
use Rattle.teco_session.proofs.Prelude.{err_from_is_err_and, prepend_known, World, Answers, Hears, Serves, setting}
use Rattle.teco_session.proofs.Counting.{behind-rises}
use Rattle.teco_session.proofs.FirstCode.{Hears-write, Hears-break, Hears-full, Hears-exit, Hears-rest, Hears-code}
use Rattle.teco_session.proofs.SessionSteps.{Serves-start, Serves-more}
use Rattle.teco_session.proofs.Together.{Joined-on, Joined-stays, Joined-then}
use Rattle.teco_session.proofs.Touching.{in_session-behind, in_session-piece, so_far-more, so_far-none}
use Rattle.teco_session.proofs.sessions.session_heard.Goals as goal
use Rattle.teco_session.proofs.sessions.session_heard.Goals.{else-conduct-via-then-conduct+else-coded}
use Rattle.teco_session.proofs.sessions.session_heard.Goals.{else-conduct-via-else-conduct}

pub loop-init : goal.loop-init
loop-init g c = record {
  served =
      Joined-stays (λ (old : World) (new : World). Serves c.args.conduct.limits 0
      (setting old (g.H.Host.failures c.args.host.now) (g.R.Read.remaining c.args.reader.now)
      (g.W.Write.contents c.args.writer.now))
      (setting new (g.H.Host.failures c.args.host.now)
      (prepend_known c.new-ahead.result (g.R.Read.remaining c.args.reader.now))
      (g.W.Write.contents c.args.writer.now)) false)
      c.args.machine.now (g.H.Host.files c.args.host.now)
      (λ world. Serves-start _ _ _ c.new-ahead.ensures);
  touched =
      so_far-none c.args.conduct.limits (g.R.Read.remaining c.args.reader.now) c.new-ahead.result c.args.machine.now
      (g.H.Host.files c.args.host.now) c.new-ahead.ensures;
  counted = record { rises = omega arith; plain = λ _. refl };
  one_read = omega (arith, ap length c.new-ahead.ensures);
  plain = λ until. refl;
}

pub loop-preserved : goal.loop-preserved
loop-preserved g c =
    let now = c.loop in
    let before = λ (old : World). setting old (g.H.Host.failures c.args.host.now) (g.R.Read.remaining c.args.reader.now)
    (g.W.Write.contents c.args.writer.now) in
    let served = λ (old : World) (new : World). Serves c.args.conduct.limits now.counter (before old)
    (setting new (g.H.Host.failures now.host) (prepend_known now.ahead (g.R.Read.remaining now.reader))
    (g.W.Write.contents now.writer)) now.coded in
    let piece = c.in_ok-piece.ensures in
    let answers = λ (mid : World) (new : World). Answers c.args.conduct.limits c.in_ok-piece.piece c.as_slice.result.now
    mid new (g.H.Host.failures now.host) (g.H.Host.failures c.answer.new.host) (g.W.Write.contents now.writer)
    (g.W.Write.contents c.answer.new.writer) c.answer.result in
    let after = λ (new : World). setting new (g.H.Host.failures c.answer.new.host)
    (prepend_known c.next_piece.new.ahead (g.R.Read.remaining c.next_piece.new.reader))
    (g.W.Write.contents c.answer.new.writer) in
    let more = λ (old : World) (new : World). Serves c.args.conduct.limits (now.counter + 1) (before old) (after new)
    (now.coded || c.in_ok-done.done.coded) in
    let cut = rw c.in_default.is at piece.piece in
    record {
      served =
          Joined-then served answers more
          c.args.machine.now now.machine c.answer.new.machine
          (g.H.Host.files c.args.host.now) (g.H.Host.files now.host) (g.H.Host.files c.answer.new.host)
          (λ (old : World) (mid : World) (new : World) s (a : answers mid new). Serves-more _ _ _ _ _ _
          c.in_ok-done.done _ c.if-done.false s piece.came cut
          (rw (c.as_slice.ensures.value, c.in_default.is, c.in_ok-done.was) at a))
          now.invariant.served c.answer.ensures.run;
      touched =
          so_far-more c.args.conduct.limits (g.R.Read.remaining c.args.reader.now) _ _ c.as_slice.result.now
          c.in_ok-piece.piece (prepend_known c.next_piece.new.ahead (g.R.Read.remaining c.next_piece.new.reader))
          c.args.machine.now now.machine c.answer.new.machine (g.H.Host.files c.args.host.now) (g.H.Host.files now.host)
          (g.H.Host.files c.answer.new.host)
          c.in_default.is now.invariant.touched (rw c.as_slice.ensures.value piece.came)
          (rw c.as_slice.ensures.value piece.piece) c.answer.ensures.touches;
      counted = behind-rises _ _ _ _ _ now.invariant.counted c.in_ok-done.ensures.counted.0
          c.in_ok-done.ensures.counted.1;
      one_read = piece.one_read now.invariant.one_read;
      plain = λ until. elim c.else-conduct.branch [
        | else-conduct-via-then-conduct+else-coded w ↦ w.if-coded.false
        | else-conduct-via-else-conduct w ↦ absurd (cc (w.if-conduct.false, until))
      ];
    }

pub returns-in_err-piece-clause-session : goal.returns-in_err-piece-clause-session
returns-in_err-piece-clause-session g c =
    let now = c.loop in
    let before = λ (old : World). setting old (g.H.Host.failures c.args.host.now) (g.R.Read.remaining c.args.reader.now)
    (g.W.Write.contents c.args.writer.now) in
    let served = λ (old : World) (new : World). Serves c.args.conduct.limits now.counter (before old)
    (setting new (g.H.Host.failures now.host) (prepend_known now.ahead (g.R.Read.remaining now.reader))
    (g.W.Write.contents now.writer)) now.coded in
    let fault = c.in_err-piece.ensures in
    let left = err_from_is_err_and c.from_residual.result c.from_residual.ensures.1 in
    rw (left.1, left.2) (Joined-on served _ c.args.machine.now now.machine (g.H.Host.files c.args.host.now)
    (g.H.Host.files now.host)
    (λ (old : World) (new : World) s. Hears-break c.args.conduct.until_code _ _ _ _ _ _ _ _ _ now.invariant.plain s
    fault.came fault.fault (fault.one_read now.invariant.one_read) fault.all_used fault.not_writing
    fault.not_calling)
    now.invariant.served)

pub returns-in_err-done-clause-session : goal.returns-in_err-done-clause-session
returns-in_err-done-clause-session g c =
    let now = c.loop in
    let before = λ (old : World). setting old (g.H.Host.failures c.args.host.now) (g.R.Read.remaining c.args.reader.now)
    (g.W.Write.contents c.args.writer.now) in
    let served = λ (old : World) (new : World). Serves c.args.conduct.limits now.counter (before old)
    (setting new (g.H.Host.failures now.host) (prepend_known now.ahead (g.R.Read.remaining now.reader))
    (g.W.Write.contents now.writer)) now.coded in
    let piece = c.in_ok-piece.ensures in
    let answers = λ (mid : World) (new : World). Answers c.args.conduct.limits c.in_ok-piece.piece c.as_slice.result.now
    mid new (g.H.Host.failures now.host) (g.H.Host.failures c.answer.new.host) (g.W.Write.contents now.writer)
    (g.W.Write.contents c.answer.new.writer) c.answer.result in
    let after = λ (new : World). setting new (g.H.Host.failures c.answer.new.host)
    (g.R.Read.remaining c.next_piece.new.reader) (g.W.Write.contents c.answer.new.writer) in
    let left = err_from_is_err_and c.from_residual-in_err-done.result c.from_residual-in_err-done.ensures.1 in
    let cut = λ (old : World) (new : World). Hears c.args.conduct.until_code c.args.conduct.limits (before old)
    (after new) (Err c.in_err-done.field-0.0) in
    rw (left.1, left.2) (
    Joined-then served answers cut
    c.args.machine.now now.machine c.answer.new.machine
    (g.H.Host.files c.args.host.now) (g.H.Host.files now.host) (g.H.Host.files c.answer.new.host)
    (λ (old : World) (mid : World) (new : World) s (a : answers mid new). Hears-write c.args.conduct.until_code _ _ _ _
    _ _ _ _ _ _ now.invariant.plain s piece.came piece.piece (piece.one_read now.invariant.one_read)
    (rw (c.as_slice.ensures.value, c.in_err-done.was) at a))
    now.invariant.served c.answer.ensures.run)

pub returns-clause-session : goal.returns-clause-session
returns-clause-session g c =
    let now = c.loop in
    let before = λ (old : World). setting old (g.H.Host.failures c.args.host.now) (g.R.Read.remaining c.args.reader.now)
    (g.W.Write.contents c.args.writer.now) in
    let served = λ (old : World) (new : World). Serves c.args.conduct.limits now.counter (before old)
    (setting new (g.H.Host.failures now.host) (prepend_known now.ahead (g.R.Read.remaining now.reader))
    (g.W.Write.contents now.writer)) now.coded in
    Joined-on served _ c.args.machine.now now.machine (g.H.Host.files c.args.host.now) (g.H.Host.files now.host)
    (λ (old : World) (new : World) s. Hears-full c.args.conduct.until_code _ _ _ _ _ _ now.invariant.plain s
    now.invariant.one_read (omega arith))
    now.invariant.served

pub returns-in-Rest-clause-session : goal.returns-in-Rest-clause-session
returns-in-Rest-clause-session g c =
    let now = c.loop in
    let before = λ (old : World). setting old (g.H.Host.failures c.args.host.now) (g.R.Read.remaining c.args.reader.now)
    (g.W.Write.contents c.args.writer.now) in
    let served = λ (old : World) (new : World). Serves c.args.conduct.limits now.counter (before old)
    (setting new (g.H.Host.failures now.host) (prepend_known now.ahead (g.R.Read.remaining now.reader))
    (g.W.Write.contents now.writer)) now.coded in
    let piece = c.in_ok-piece.ensures in
    let answers = λ (mid : World) (new : World). Answers c.args.conduct.limits c.in_ok-piece.piece c.as_slice.result.now
    mid new (g.H.Host.failures now.host) (g.H.Host.failures c.answer.new.host) (g.W.Write.contents now.writer)
    (g.W.Write.contents c.answer.new.writer) c.answer.result in
    let after = λ (new : World). setting new (g.H.Host.failures c.answer.new.host)
    (g.R.Read.remaining c.next_piece.new.reader) (g.W.Write.contents c.answer.new.writer) in
    let cut = rw c.in-Rest.is at piece.piece in
    let finishes = λ (old : World) (new : World). Hears c.args.conduct.until_code c.args.conduct.limits (before old)
    (after new) (Ok (record { coded = now.coded || c.in_ok-done.done.coded; exit = false })) in
    Joined-then served answers finishes
    c.args.machine.now now.machine c.answer.new.machine
    (g.H.Host.files c.args.host.now) (g.H.Host.files now.host) (g.H.Host.files c.answer.new.host)
    (λ (old : World) (mid : World) (new : World) s (a : answers mid new). Hears-rest _ _
    (before old) _ _ now.coded c.in_ok-done.done _ _ s piece.came (piece.one_read now.invariant.one_read) cut
    (rw (c.as_slice.ensures.value, c.in-Rest.is, c.in_ok-done.was) at a) c.args.conduct.until_code
    now.invariant.plain)
    now.invariant.served c.answer.ensures.run

pub returns-then-done-clause-session : goal.returns-then-done-clause-session
returns-then-done-clause-session g c =
    let now = c.loop in
    let before = λ (old : World). setting old (g.H.Host.failures c.args.host.now) (g.R.Read.remaining c.args.reader.now)
    (g.W.Write.contents c.args.writer.now) in
    let served = λ (old : World) (new : World). Serves c.args.conduct.limits now.counter (before old)
    (setting new (g.H.Host.failures now.host) (prepend_known now.ahead (g.R.Read.remaining now.reader))
    (g.W.Write.contents now.writer)) now.coded in
    let piece = c.in_ok-piece.ensures in
    let answers = λ (mid : World) (new : World). Answers c.args.conduct.limits c.in_ok-piece.piece c.as_slice.result.now
    mid new (g.H.Host.failures now.host) (g.H.Host.failures c.answer.new.host) (g.W.Write.contents now.writer)
    (g.W.Write.contents c.answer.new.writer) c.answer.result in
    let after = λ (new : World). setting new (g.H.Host.failures c.answer.new.host)
    (g.R.Read.remaining c.next_piece.new.reader) (g.W.Write.contents c.answer.new.writer) in
    let finishes = λ (old : World) (new : World). Hears c.args.conduct.until_code c.args.conduct.limits (before old)
    (after new) (Ok (record { coded = now.coded || c.in_ok-done.done.coded; exit = true })) in
    Joined-then served answers finishes
    c.args.machine.now now.machine c.answer.new.machine
    (g.H.Host.files c.args.host.now) (g.H.Host.files now.host) (g.H.Host.files c.answer.new.host)
    (λ (old : World) (mid : World) (new : World) s (a : answers mid new). Hears-exit _ _
    (before old) _ _ now.coded c.in_ok-done.done _ _ s piece.came (piece.one_read now.invariant.one_read)
    c.if-done.true c.in_ok-piece.piece piece.piece (rw (c.as_slice.ensures.value, c.in_ok-done.was) at a)
    c.args.conduct.until_code now.invariant.plain)
    now.invariant.served c.answer.ensures.run

pub returns-then-coded-clause-session : goal.returns-then-coded-clause-session
returns-then-coded-clause-session g c =
    let now = c.loop in
    let before = λ (old : World). setting old (g.H.Host.failures c.args.host.now) (g.R.Read.remaining c.args.reader.now)
    (g.W.Write.contents c.args.writer.now) in
    let served = λ (old : World) (new : World). Serves c.args.conduct.limits now.counter (before old)
    (setting new (g.H.Host.failures now.host) (prepend_known now.ahead (g.R.Read.remaining now.reader))
    (g.W.Write.contents now.writer)) now.coded in
    let piece = c.in_ok-piece.ensures in
    let answers = λ (mid : World) (new : World). Answers c.args.conduct.limits c.in_ok-piece.piece c.as_slice.result.now
    mid new (g.H.Host.failures now.host) (g.H.Host.failures c.answer.new.host) (g.W.Write.contents now.writer)
    (g.W.Write.contents c.answer.new.writer) c.answer.result in
    let after = λ (new : World). setting new (g.H.Host.failures c.answer.new.host)
    (g.R.Read.remaining c.next_piece.new.reader) (g.W.Write.contents c.answer.new.writer) in
    let cut = rw c.in_default.is at piece.piece in
    let finishes = λ (old : World) (new : World). Hears c.args.conduct.until_code c.args.conduct.limits (before old)
    (after new) (Ok (record { coded = now.coded || c.in_ok-done.done.coded; exit = false })) in
    Joined-then served answers finishes
    c.args.machine.now now.machine c.answer.new.machine
    (g.H.Host.files c.args.host.now) (g.H.Host.files now.host) (g.H.Host.files c.answer.new.host)
    (λ (old : World) (mid : World) (new : World) s (a : answers mid new). Hears-code _ _
    (before old) _ _ now.coded c.in_ok-done.done _ _ s piece.came (piece.one_read now.invariant.one_read) cut
    (rw (c.as_slice.ensures.value, c.in_default.is, c.in_ok-done.was) at a) c.args.conduct.until_code
    c.if-conduct.true now.invariant.plain c.if-coded.true c.if-done.false)
    now.invariant.served c.answer.ensures.run

pub returns-in_err-piece-clause-touches : goal.returns-in_err-piece-clause-touches
returns-in_err-piece-clause-touches g c =
    let now = c.loop in
    in_session-behind c.notes_fit.ensures c.args.conduct.limits (g.R.Read.remaining c.args.reader.now) _
    (g.R.Read.remaining c.next_piece.new.reader) _ c.next_piece.new.ahead
    c.args.machine.now now.machine (g.H.Host.files c.args.host.now) (g.H.Host.files now.host) now.invariant.touched
    c.in_err-piece.ensures.came

pub returns-clause-touches : goal.returns-clause-touches
returns-clause-touches g c =
    let now = c.loop in
    in_session-behind c.notes_fit.ensures c.args.conduct.limits (g.R.Read.remaining c.args.reader.now) _
    (g.R.Read.remaining now.reader) [] now.ahead
    c.args.machine.now now.machine (g.H.Host.files c.args.host.now) (g.H.Host.files now.host) now.invariant.touched
    (Consumes-nil _)

pub returns-in_err-done-clause-touches : goal.returns-in_err-done-clause-touches
returns-in_err-done-clause-touches g c =
    let now = c.loop in
    let piece = c.in_ok-piece.ensures in
    in_session-piece c.notes_fit.ensures c.args.conduct.limits (g.R.Read.remaining c.args.reader.now) _
    (g.R.Read.remaining c.next_piece.new.reader) c.as_slice.result.now c.next_piece.new.ahead c.in_ok-piece.piece
    (prepend_known c.next_piece.new.ahead (g.R.Read.remaining c.next_piece.new.reader))
    c.args.machine.now now.machine c.answer.new.machine (g.H.Host.files c.args.host.now) (g.H.Host.files now.host)
    (g.H.Host.files c.answer.new.host)
    now.invariant.touched (rw c.as_slice.ensures.value piece.came) (rw c.as_slice.ensures.value piece.piece)
    c.answer.ensures.touches

pub returns-in-Rest-clause-touches : goal.returns-in-Rest-clause-touches
returns-in-Rest-clause-touches g c =
    let now = c.loop in
    let piece = c.in_ok-piece.ensures in
    in_session-piece c.notes_fit.ensures c.args.conduct.limits (g.R.Read.remaining c.args.reader.now) _
    (g.R.Read.remaining c.next_piece.new.reader) c.as_slice.result.now c.next_piece.new.ahead c.in_ok-piece.piece
    (prepend_known c.next_piece.new.ahead (g.R.Read.remaining c.next_piece.new.reader))
    c.args.machine.now now.machine c.answer.new.machine (g.H.Host.files c.args.host.now) (g.H.Host.files now.host)
    (g.H.Host.files c.answer.new.host)
    now.invariant.touched (rw c.as_slice.ensures.value piece.came) (rw c.as_slice.ensures.value piece.piece)
    c.answer.ensures.touches

pub returns-then-done-clause-touches : goal.returns-then-done-clause-touches
returns-then-done-clause-touches g c =
    let now = c.loop in
    let piece = c.in_ok-piece.ensures in
    in_session-piece c.notes_fit.ensures c.args.conduct.limits (g.R.Read.remaining c.args.reader.now) _
    (g.R.Read.remaining c.next_piece.new.reader) c.as_slice.result.now c.next_piece.new.ahead c.in_ok-piece.piece
    (prepend_known c.next_piece.new.ahead (g.R.Read.remaining c.next_piece.new.reader))
    c.args.machine.now now.machine c.answer.new.machine (g.H.Host.files c.args.host.now) (g.H.Host.files now.host)
    (g.H.Host.files c.answer.new.host)
    now.invariant.touched (rw c.as_slice.ensures.value piece.came) (rw c.as_slice.ensures.value piece.piece)
    c.answer.ensures.touches

pub returns-then-coded-clause-touches : goal.returns-then-coded-clause-touches
returns-then-coded-clause-touches g c =
    let now = c.loop in
    let piece = c.in_ok-piece.ensures in
    in_session-piece c.notes_fit.ensures c.args.conduct.limits (g.R.Read.remaining c.args.reader.now) _
    (g.R.Read.remaining c.next_piece.new.reader) c.as_slice.result.now c.next_piece.new.ahead c.in_ok-piece.piece
    (prepend_known c.next_piece.new.ahead (g.R.Read.remaining c.next_piece.new.reader))
    c.args.machine.now now.machine c.answer.new.machine (g.H.Host.files c.args.host.now) (g.H.Host.files now.host)
    (g.H.Host.files c.answer.new.host)
    now.invariant.touched (rw c.as_slice.ensures.value piece.came) (rw c.as_slice.ensures.value piece.piece)
    c.answer.ensures.touches
