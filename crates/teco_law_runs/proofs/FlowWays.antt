-- Each way of a flow element leads where the machine stands after it.
use Rattle.teco_law_runs.proofs.Prelude.{◌≡◌, ℕ, zero, suc, List, [], ◌∷◌, map, drop, Some, Result, Ok, sym, ap, ◌∙◌}
use Rattle.teco_law_runs.proofs.Prelude.{slice_get, ok_or, Flow, Goal, Whole, Arguments, Element, Turn, skip_of, Frame}
use Rattle.teco_law_runs.proofs.Prelude.{Reason, Unpaired, ◌>>=◌, Position, position_of_frames, start_of, moved_to}
use Rattle.teco_law_runs.proofs.Prelude.{past, jumped, jump_way, way_or_jump, leave_ways, flow_ways, Jumps, Went, ok}
use Rattle.teco_law_runs.proofs.Prelude.{bound, ahead_ways}
use Rattle.std.proofs.lemmas.List.{drop-map}
use Rattle.teco_model.specs.declared.kind.Flow.TheVariants as flow
use Rattle.teco_model.specs.declared.kind.Goal.TheVariants as goal

-- the position of a text with those that wait
abbrev pub position_in : Frame → List Frame → Position
position_in frame callers = position_of_frames (record { running = frame; callers = callers })

there : (callers : List Frame) (turn known : Turn) → turn ≡ known
    → Some (position_in known.frame callers) ≡ Some (position_in turn.frame callers)
there callers turn known h = ap (λ (turn : Turn). Some (position_in turn.frame callers)) (sym h)

pub jump_leads : (n : ℕ) (e : Element) (a : Arguments) (frame : Frame) (callers : List Frame) (turn : Turn)
    → Jumps n e a frame turn → jumped e (position_in frame callers) ≡ Ok (position_in turn.frame callers)
jump_leads n e a frame callers turn j =
    let p = position_in frame callers in
    let to : jumped e p ≡ Ok (moved_to j.place (drop (skip_of frame.text (Whole e)).leaves (map start_of frame.loops))
    p) =
    ap (λ to. ok_or to Unpaired >>=
    (λ place. Ok (moved_to place (drop (skip_of frame.text (Whole e)).leaves (map start_of frame.loops)) p)))
    j.leads in
    to
    ∙ (ap (λ n. Ok (moved_to j.place (drop n (map start_of frame.loops)) p)) j.leaving
    ∙ (ap (λ starts. Ok (moved_to j.place starts p)) (drop-map start_of n frame.loops)
    ∙ ap (λ (turn : Turn). Ok (position_in turn.frame callers)) (sym j.gone)))

-- the ways of what may jump
pub first_way : (first : Position) (e : Element) (p : Position) (ways : List Position) → way_or_jump first e p ≡ Ok ways
    → slice_get ways 0 ≡ Some first
first_way first e p ways h = let b = bound (jumped e p) _ ways h in ap (λ l. slice_get l 0) (sym (ok _ ways b.gives))

pub second_way : (first q : Position) (e : Element) (p : Position) (ways : List Position) → jumped e p ≡ Ok q
    → way_or_jump first e p ≡ Ok ways → slice_get ways 1 ≡ Some q
second_way first q e p ways j h = ap (λ l. slice_get l 1) (sym (ok _ ways (rw j at h)))

one_jump : (q : Position) (e : Element) (p : Position) (ways : List Position) → jumped e p ≡ Ok q
    → jump_way e p ≡ Ok ways → slice_get ways 0 ≡ Some q
one_jump q e p ways j h = ap (λ l. slice_get l 0) (sym (ok _ ways (rw j at h)))

pub only : (p : Position) (ways : List Position) → Path (Result (List Position) Reason) (Ok (p ∷ [])) (Ok ways)
    → slice_get ways 0 ≡ Some p
only p ways h = ap (λ l. slice_get l 0) (sym (ok _ ways h))

stays_leads : (starts : List ℕ) (e : Element) (p : Position) (ways : List Position) → leave_ways starts e p ≡ Ok ways
    → slice_get ways 0 ≡ Some (past e p)
stays_leads [] e p ways h = absurd (cc)
stays_leads (start ∷ outer) e p ways h = first_way (past e p) e p ways h

leaves_leads : (q : Position) (starts : List ℕ) (e : Element) (p : Position) (ways : List Position) → jumped e p ≡ Ok q
    → leave_ways starts e p ≡ Ok ways → slice_get ways 1 ≡ Some q
leaves_leads q [] e p ways j h = absurd (cc)
leaves_leads q (start ∷ outer) e p ways j h = second_way (past e p) q e p ways j h

pub ahead_way : (g : Goal) (starts : List ℕ) (e : Element) (p : Position) (ways : List Position)
    → ahead_ways g starts e p ≡ Ok ways → jump_way e p ≡ Ok ways
ahead_way goal.EndTurn [] e p ways h = absurd (cc)
ahead_way goal.EndTurn (start ∷ outer) e p ways h = h
ahead_way goal.EndTest starts e p ways h = h
ahead_way goal.Otherwise starts e p ways h = h

pub way_leads : (f : Flow) (way : ℕ) (e : Element) (a : Arguments) (frame : Frame) (callers : List Frame) (turn : Turn)
    (ways : List Position) → Went f way e a frame turn →
    flow_ways f e (position_in frame callers) ≡ Ok ways → slice_get ways way ≡ Some (position_in turn.frame callers)
unfolding flow_ways
way_leads flow.Iterate zero e a frame callers turn ways g h = first_way _ e (position_in frame callers) ways h
    ∙ there callers turn _ g.gone
way_leads flow.Iterate (suc zero) e a frame callers turn ways g h =
    second_way _ _ e (position_in frame callers) ways (jump_leads 0 e _ frame callers turn g.jumps) h
way_leads flow.EndTurn zero e a frame callers turn ways g h =
    ap (λ l. slice_get l 0) (sym (ok _ ways (rw (ap (map start_of) g.inside) at h))) ∙ there callers turn _ g.gone
way_leads flow.EndTurn (suc zero) e a frame callers turn ways g h =
    ap (λ l. slice_get l 1) (sym (ok _ ways (rw (ap (map start_of) g.inside) at h))) ∙ there callers turn _ g.gone
way_leads flow.Leave zero e a frame callers turn ways g h =
    stays_leads (map start_of frame.loops) e (position_in frame callers) ways h ∙ there callers turn _ g.gone
way_leads flow.Leave (suc zero) e a frame callers turn ways g h =
    leaves_leads _ (map start_of frame.loops) e (position_in frame callers) ways
    (jump_leads 1 e _ frame callers turn g.jumps) h
way_leads (flow.Test test) zero e a frame callers turn ways g h = first_way _ e (position_in frame callers) ways h
    ∙ there callers turn _ g.gone
way_leads (flow.Test test) (suc zero) e a frame callers turn ways g h =
    second_way _ _ e (position_in frame callers) ways (jump_leads 0 e _ frame callers turn g.jumps) h
way_leads flow.Otherwise zero e a frame callers turn ways g h =
    one_jump _ e (position_in frame callers) ways (jump_leads 0 e a frame callers turn g) h
way_leads flow.GoTo zero e a frame callers turn ways g h =
    one_jump _ e (position_in frame callers) ways (jump_leads g.left e _ frame callers turn g.jumps) h
way_leads flow.EndTest zero e a frame callers turn ways g h = only _ ways h ∙ there callers turn _ g
way_leads flow.Comment zero e a frame callers turn ways g h = only _ ways h ∙ there callers turn _ g
way_leads (flow.GoAhead to) zero e a frame callers turn ways g h =
    one_jump _ e (position_in frame callers) ways (jump_leads 0 e a frame callers turn g)
    (ahead_way to (map start_of frame.loops) e (position_in frame callers) ways h)
way_leads f way e a frame callers turn ways g h = absurd g
