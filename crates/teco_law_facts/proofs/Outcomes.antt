-- Where a search answers, what is known behind it describes both outcomes.
use Rattle.teco_law_facts.proofs.Prelude.{ℕ, arith, refl, ℤ, pos, negsuc, ◌≤ℤ◌, Some, inl, inr, ints, Kept, ArePending}
use Rattle.teco_law_facts.proofs.Prelude.{Describes, Holds, Run, back_of, fore_of, Facts, Position, at_position}
use Rattle.teco_law_facts.proofs.Prelude.{value_in}
use Rattle.teco_model.specs.Arguments as model
use Rattle.teco_law_facts.proofs.Meeting.{IsJoin}
use Rattle.teco_verifier.specs.facts.Arguments as known
use Rattle.teco_verifier.specs.facts.Motions.{success}

-- the facts of an answer, at a position that both outcomes have
abbrev pub answered : Facts → Position → Position → Facts
answered found failed position = record found {
  arguments = known.levels_after_answer (Some (value_in success)) found.arguments;
  answer = Some (record { found = found.position; failed = failed });
  position = position;
}

module _ (run : Run) (unread : ℕ) (new : Kept) (found : Facts) (failed position : Position)
    (j : IsJoin run found.position failed position) (pending : model.Arguments)
    (own : ArePending (fore_of new) (back_of new) found.arguments (model.levels_after_taking pending)) where
  answer_is : (v : ℤ) → negsuc 0 ≤ℤ v → v ≤ℤ pos 0
      → ArePending (fore_of new) (back_of new) (answered found failed position).arguments
      (model.levels_after_answer (Some v) (model.levels_after_taking pending))
  answer_is v l u = record {
    level = record {
      first = tt;
      value = record {
        is = record { low = omega (arith, ints); high = omega (arith, ints) };
        fits = omega (arith, ints);
        saved = tt;
      };
      operator = refl;
    };
    outer = own.outer;
  }

  pub found_described : Holds run found unread new
      → Describes run (answered found failed position) unread new
      (model.levels_after_answer (Some (negsuc 0)) (model.levels_after_taking pending))
  found_described h = record {
    state = record {
      position = j.left (fore_of new) (back_of new) unread new.registers.pairs h.position;
      held = h.held;
      registers = record { numbers = h.registers.numbers; texts = h.registers.texts };
      pushed = h.pushed;
    };
    pending = answer_is (negsuc 0) (omega (arith, ints)) (omega (arith, ints));
    answers = (negsuc 0, refl, record { either = inl refl; found = λ e. h.position; failed = λ e. absurd (cc) });
  }

  pub missed_described : Holds run (at_position failed found) unread new
      → Describes run (answered found failed position) unread new
      (model.levels_after_answer (Some (pos 0)) (model.levels_after_taking pending))
  missed_described h = record {
    state = record {
      position = j.right (fore_of new) (back_of new) unread new.registers.pairs h.position;
      held = h.held;
      registers = record { numbers = h.registers.numbers; texts = h.registers.texts };
      pushed = h.pushed;
    };
    pending = answer_is (pos 0) (omega (arith, ints)) (omega (arith, ints));
    answers = (pos 0, refl, record { either = inr refl; found = λ e. absurd (cc); failed = λ e. h.position });
  }
