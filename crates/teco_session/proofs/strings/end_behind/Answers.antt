use Rattle.teco_session.proofs.Prelude.{◌∙◌, sym}
use Rattle.teco_session.proofs.Pairs.{AreApart, apart_by_first, apart_by_last, ended_at_meeting, endless_behind}
use Rattle.teco_session.proofs.Pairs.{ended_within}
use Rattle.teco_session.proofs.strings.end_behind.Goals as goal
use Rattle.teco_session.proofs.strings.end_behind.Goals.{else-has_esc_last-via-then-has_esc_last+else-has_esc_first}
use Rattle.teco_session.proofs.strings.end_behind.Goals.{else-has_esc_last-via-else-has_esc_last}

pub returns-then-has_esc_first-clause-end : goal.returns-then-has_esc_first-clause-end
returns-then-has_esc_first-clause-end c =
    ended_at_meeting c.args.string.now c.args.bytes.now c.requires
    (sym c.has_esc_last.ensures ∙ c.if-has_esc_last.true)
    (sym c.has_esc_first.ensures ∙ c.if-has_esc_first.true)

pub returns-in_err-place-clause-none : goal.returns-in_err-place-clause-none
returns-in_err-place-clause-none c =
    let string = c.args.string.now in
    let bytes = c.args.bytes.now in
    let apart : AreApart string bytes = elim c.else-has_esc_last.branch [
      | else-has_esc_last-via-then-has_esc_last+else-has_esc_first w ↦
          apart_by_first string bytes (sym w.has_esc_first.ensures ∙ w.if-has_esc_first.false)
      | else-has_esc_last-via-else-has_esc_last w ↦
          apart_by_last string bytes (sym c.has_esc_last.ensures ∙ w.if-has_esc_last.false)
    ] in
    rw c.from_residual.ensures (endless_behind string bytes c.requires apart c.in_err-place.ensures)

pub returns-clause-end : goal.returns-clause-end
returns-clause-end c =
    let string = c.args.string.now in
    let bytes = c.args.bytes.now in
    let apart : AreApart string bytes = elim c.else-has_esc_last.branch [
      | else-has_esc_last-via-then-has_esc_last+else-has_esc_first w ↦
          apart_by_first string bytes (sym w.has_esc_first.ensures ∙ w.if-has_esc_first.false)
      | else-has_esc_last-via-else-has_esc_last w ↦
          apart_by_last string bytes (sym c.has_esc_last.ensures ∙ w.if-has_esc_last.false)
    ] in
    ended_within string bytes c.in_ok-place.place c.requires apart c.in_ok-place.ensures
