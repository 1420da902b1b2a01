use Rattle.teco_poly.proofs.Prelude.{◌≡◌, ◌+◌, ◌++◌, length, get_or, drop, arith, sym, ap, ◌∙◌, eqb-false, Decides-eqb}
use Rattle.teco_poly.proofs.Prelude.{drop_more, string_bytes, terms_from, joined, lead_behind}
use Rattle.std.specs.String.{string_len}
use Rattle.teco_poly.proofs.Spelling.{written_more, all_written, printed_zero, printed_terms, small_by}
use Rattle.teco_poly.proofs.text.print.Goals as goal
use Rattle.teco_poly.proofs.text.print.Goals.{then-is_empty+in_ok-push_str, else-is_empty}

pub loop-power-preserved : goal.loop-power-preserved
loop-power-preserved c =
    let written = string_bytes c.loop-power.text in
    let i = c.loop-power.power in
    written_more written i (get_or c.args.coefficients.now i 0) (drop (i + 1) c.args.coefficients.now)
    (string_bytes c.push_next.new.text) (i + 1)
    (omega arith) (c.fits-coefficients i) c.in_ok-push_next.ensures
    ∙ ap (λ p. written ++ joined (lead_behind written) (terms_from i p))
    (sym (drop_more c.args.coefficients.now i 0 (omega arith)))
    ∙ c.loop-power.invariant

pub returns-clause-text : goal.returns-clause-text
returns-clause-text c =
    let p = c.args.coefficients.now in
    let written = string_bytes c.loop-power.text in
    let small = small_by p c.fits-coefficients in
    let all = all_written written c.loop-power.power p _ (omega arith) c.loop-power.invariant in
    let len : string_len c.loop-power.text ≡ length written = c.loop-power.text.bytes.ok.0 in
    elim c.if-is_empty.branch [
      | then-is_empty+in_ok-push_str w ↦ ap string_bytes w.text-is
          ∙ printed_zero p written small all (string_bytes w.push_str.new.self)
          (sym len ∙ (Decides-eqb (string_len c.loop-power.text) 0).0 (sym w.if-is_empty.ensures))
          w.in_ok-push_str.ensures.bytes
      | else-is_empty w ↦ ap string_bytes w.text-is
          ∙ printed_terms p written small all
          (λ none. eqb-false (string_len c.loop-power.text) 0 (sym w.if-is_empty.ensures) (len ∙ none))
    ]
