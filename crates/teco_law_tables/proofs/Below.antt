-- Where a run ends, the push-down list of its entry lies below.
use Rattle.teco_law_tables.proofs.Prelude.{◌≡◌, ℕ, zero, suc, ◌+◌, ◌<◌, ◌^◌, [], Option, Some, None, Result, Ok, Err}
use Rattle.teco_law_tables.proofs.Prelude.{refl, sym, ap, ◌∙◌, subst, arith, REGISTERS, Code, IterationsEnd}
use Rattle.teco_law_tables.proofs.Prelude.{BeginsPending, call_given, start_pending, NodesAreSound, AreOpen}
use Rattle.teco_law_tables.proofs.Prelude.{start_given, LiesBelow, IsLong, Element, element_at, ArgumentRange, IsAsked}
use Rattle.teco_law_tables.proofs.Prelude.{Reaches, Frames, Outcome, End, State, World, start, outcome_at, reply_of}
use Rattle.teco_law_tables.proofs.Prelude.{step, needs_in, CallLaws, other_next, one_step, reaches_later, reaches_none}
use Rattle.teco_law_runs.specs.Alike.{AreOutcomesAlike}
use Rattle.teco_model.specs.Run.{Ends}
use Rattle.teco_law_tables.proofs.Described as described
use Rattle.teco_law_tables.proofs.Described.{at_first, ready_call}
use Rattle.teco_law_tables.proofs.Ending as ending
use Rattle.teco_law_tables.proofs.Ending.{ClosedCall, Course, course}
use Rattle.teco_law_runs.proofs.Keeping.{end_stays}
use Rattle.teco_law_tables.proofs.Stacking.{lies_below}
use Rattle.teco_law_runs.proofs.Sure.{settle_goes}
use Rattle.teco_law_tables.proofs.Underway.{ElementsGo, element_here}
use Rattle.teco_law_tables.proofs.Verifying as verifying
use Rattle.teco_law_tables.proofs.Called.{LeavesWorld, call_leaves}
use Rattle.teco_law_tables.specs.Framing.{RunsLeaveBelow}

-- ---- nothing is read where a run ends
no_more : (s : State) (r : Result (Option Element) Code) (w : World) → outcome_at s r ≡ End w → r ≡ Ok None
no_more s (Err c) w e = absurd (cc)
no_more s (Ok None) w e = refl
no_more s (Ok (Some x)) w e = absurd (settle_goes x s (reply_of x.kind x s) w e)

end_reads : (s : State) (w : World) → step s ≡ End w
    → element_at s.frames.running.text s.frames.running.place ≡ Ok None
unfolding step
end_reads s w e = no_more s (element_at s.frames.running.text s.frames.running.place) w e

not_long : {E : Type 0} (read : Option Element) (r : Result (Option Element) E) → r ≡ Ok read → r ≡ Ok None
    → IsLong read → ⊥
not_long None r is none long = long
not_long (Some x) r is none long = absurd (cc)

-- ---- from the call on
module _ (laws : ending.Laws) (sound : NodesAreSound) (c : Course)
    (go : ElementsGo c.library c.entry c.nodes c.table c.n c.below c.first) where
  open c use {below}

  end_above : (u : State) (w : World) → step u ≡ End w → described.Comes laws c go u
      → LiesBelow below u.world.kept.registers.stack
  end_above u w e (described.Here number turns at) = lies_below _ _ _ _ at.here.described.state.pushed
  end_above u w e (described.Within number turns begun at g k l came) =
      let amid = g.amid (suc k) u (omega arith) l came in
      let reads = element_here sound c.ground
      (record { number = number; turns = turns; s = begun; here = at.here }) in
      let here = ap (λ (f : Frames). element_at f.running.text f.running.place) amid.frames ∙ reads in
      absurd (not_long at.here.node.element _ here (end_reads u w e) amid.long)
  end_above u w e (described.Behind o above) = above

abbrev IsBelow : World → World → Type 0
IsBelow old new = LiesBelow old.kept.registers.stack new.kept.registers.stack

module _ (laws : ending.Laws) (sound : NodesAreSound) (call : ClosedCall)
    (go : ElementsGo call.library call.entry call.nodes call.table call.n call.world.kept.registers.stack
    (start_given call.entry call.given call.world)) (files : AreOpen (needs_in call.nodes call.table) call.world.files)
  where
    given_below : LeavesWorld (IsBelow call.world) (start_given call.entry call.given call.world)
    given_below steps new ends =
        subst (λ (w : World). LiesBelow call.world.kept.registers.stack w.kept.registers.stack)
        (end_stays ends.last new ends.end)
        (end_above laws sound (course call) go ends.last new ends.end
        (described.comes laws (course call) go (suc steps) steps 1 [] (course call).first ends.last
        (at_first laws call go files) (omega arith) ends.steps))

pub runs_leave_below : ending.Laws → verifying.Laws → CallLaws → IterationsEnd → NodesAreSound → RunsLeaveBelow
runs_leave_below laws facts calls ends sound library entry argument given nodes table commands most n world are
    printed asked ready files =
    call_leaves (IsBelow world) calls entry argument given world ready.named asked
    (given_below laws sound (ready_call library entry argument given nodes table commands most n world are printed
    asked ready) (verifying.elements_go facts ends library entry argument given nodes table commands most n world
    are printed asked ready) files)
