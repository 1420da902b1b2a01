use Rattle.teco_search_outcomes.proofs.Prelude.{◌≡◌, ◌+◌, ◌-◌, ◌∙◌, [], ◌∷◌, ◌++◌, ap, arith, length, sym, common_steps}
use Rattle.teco_model.specs.Pattern as model
use Rattle.teco_search_outcomes.proofs.Parting.{all_read, none_read, part_read, reading_starts, with_rest}
use Rattle.teco_search_outcomes.proofs.patterns.parts.Goals as goal
use Rattle.teco_search_outcomes.proofs.patterns.parts.Goals.{then-not-is_empty+in-Some+in_ok-push, else-not-is_empty}

pub loop-step-init : goal.loop-step-init
loop-step-init c =
    reading_starts c.args.text.now
    ∙ ap (with_rest (length c.args.text.now - 0) c.args.text.now) (sym c.new-read.ensures.items)

pub loop-step-preserved : goal.loop-step-preserved
loop-step-preserved c =
    let text = c.args.text.now in
    let i = c.loop-step.step in
    let before = c.loop-step.rest.now in
    let read = c.loop-step.read.items in
    elim c.if-not-is_empty.branch [
      | then-not-is_empty+in-Some+in_ok-push w ↦
          let rest_is : c.if-not-is_empty.rest.now ≡ w.in-Some.behind.now = ap (λ r. r.now) w.rest-is in
          let read_is : c.if-not-is_empty.read.items ≡ read ++ w.in-Some.part ∷ [] = grind (arith, common_steps) in
          part_read (length text) i before w.in-Some.behind.now read w.in-Some.part (model.parts text)
          c.loop-step-test.true (grind (arith, common_steps)) w.in-Some.ensures c.loop-step.invariant
          ∙ ap (λ r. with_rest (length text - (i + 1)) r (read ++ w.in-Some.part ∷ [])) (sym rest_is)
          ∙ ap (with_rest (length text - (i + 1)) c.if-not-is_empty.rest.now) (sym read_is)
      | else-not-is_empty w ↦
          none_read (length text) i before read (model.parts text) (grind (arith, common_steps)) c.loop-step.invariant
          ∙ ap (λ r. with_rest (length text - (i + 1)) r.now read) (sym w.rest-is)
          ∙ ap (λ r. with_rest (length text - (i + 1)) c.if-not-is_empty.rest.now r.items) (sym w.read-is)
    ]

pub returns : goal.returns
returns c =
    all_read (length c.args.text.now) c.loop-step.step c.loop-step.rest.now c.loop-step.read.items
    (model.parts c.args.text.now) (grind (arith, common_steps)) c.loop-step.invariant
