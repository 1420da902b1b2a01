-- What is so of the world at the end of a call with its argument pending is so with the argument before it.
use Rattle.teco_law_tables.proofs.Prelude.{◌≡◌, ℕ, zero, suc, ◌+◌, ◌<◌, ◌^◌, Option, Some, None}
use Rattle.teco_law_tables.proofs.Prelude.{sym, ap, ◌∙◌, subst, arith, REGISTERS}
use Rattle.teco_law_tables.proofs.Prelude.{BeginsPending, call_given, start_pending}
use Rattle.teco_law_tables.proofs.Prelude.{start_given, ArgumentRange, IsAsked}
use Rattle.teco_law_tables.proofs.Prelude.{Reaches, Outcome, End, State, World, start}
use Rattle.teco_law_tables.proofs.Prelude.{step, CallLaws, other_next, one_step, reaches_later, reaches_none}
use Rattle.teco_law_runs.specs.Alike.{AreOutcomesAlike}
use Rattle.teco_model.specs.Run.{Ends}

-- wherever it ends, the world is so
abbrev pub LeavesWorld : (World → Type 0) → State → Type 0
LeavesWorld Is first = (steps : ℕ) (new : World) → Ends first steps new → Is new

end_alike : (one other : Outcome) (new : World) → AreOutcomesAlike one other → one ≡ End new → other ≡ End new
end_alike (End w) (End v) new a e = ap End (sym a) ∙ e
end_alike one other new a e = absurd (grind arith)

module _ (Is : World → Type 0) (calls : CallLaws) (entry n : ℕ) (world : World) (named : entry < REGISTERS)
    (small : n < 2 ^ 31) (leaves : LeavesWorld Is (start_pending entry n world)) where
  digits : BeginsPending entry n world
  digits = calls.pending entry n world named small

  abbrev first : State
  first = start (call_given entry (Some n)) world

  digits_leave : LeavesWorld Is first
  digits_leave zero new ends =
      let same = reaches_none first ends.last ends.steps in
      absurd (let k = sym digits.goes ∙ ap step same ∙ ends.end in cc)
  digits_leave (suc k) new ends =
      let later : suc k ≡ 1 + k = omega arith in
      let came = reaches_later 1 k first digits.behind ends.last (one_step first digits.behind digits.goes)
      (subst (λ k. Reaches k first ends.last) later ends.steps) in
      let other = other_next _ _ ends.last (calls.runs k digits.behind (start_pending entry n world) digits.alike) came
      in
      leaves k new (record {
        last = other.state;
        steps = other.is;
        end = end_alike _ _ new (calls.steps ends.last other.state other.alike) ends.end;
      })

pub call_leaves : (Is : World → Type 0) (calls : CallLaws) (entry : ℕ) (argument : Option ArgumentRange)
    (given : Option ℕ) (world : World) → entry < REGISTERS → IsAsked argument given
    → LeavesWorld Is (start_given entry given world) → LeavesWorld Is (start (call_given entry given) world)
call_leaves Is calls entry None None world named asked leaves = leaves
call_leaves Is calls entry (Some range) (Some n) world named asked leaves =
    digits_leave Is calls entry n world named asked.small leaves
call_leaves Is calls entry argument given world named asked leaves = absurd (grind arith)
