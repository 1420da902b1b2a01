-- What the ways of a node say of where its element leads.
use Rattle.teco_law_runs.proofs.Prelude.{◌≡◌, ℕ, zero, suc, refl, subst, List, [], ◌∷◌, Bool, true, false, Option, Some}
use Rattle.teco_law_runs.proofs.Prelude.{None, Result, Ok, slice_get, arith, Flow, Kind, Whole, Element, has_colon}
use Rattle.teco_law_runs.proofs.Prelude.{skip_of, Library, macro, bound, some_of, Stand, Position, past, end_ways}
use Rattle.teco_law_runs.proofs.Prelude.{flow_ways, search_ways, element_ways, ways_at, ⊤, frame_of, Goal, Lead}
use Rattle.teco_law_runs.proofs.Prelude.{moved_to, Reason, Unpaired, jumped, jump_way, way_or_jump, leave_ways}
use Rattle.teco_law_runs.proofs.Prelude.{ahead_ways, call_ways}
use Rattle.std.proofs.Common.{ok_or}
use Rattle.teco_model.specs.declared.kind.Flow.TheVariants as flow
use Rattle.teco_model.specs.declared.kind.Goal.TheVariants as goal
use Rattle.teco_model.specs.declared.kind.Kind.TheVariants as kind

-- ---- where a jump leads
abbrev pub JumpPlace : Element → Position → Type 0
JumpPlace e p = (place : ℕ) × ((skip_of p.running.text (Whole e)).to ≡ Some place)

jump_place : (e : Element) (p q : Position) → jumped e p ≡ Ok q → JumpPlace e p
jump_place e p q h =
    let b = bound (ok_or (skip_of p.running.text (Whole e)).to Unpaired) _ q h in
    (b.before, some_of (skip_of p.running.text (Whole e)).to Unpaired b.before b.was)

either_place : (first : Position) (e : Element) (p : Position) (targets : List Position)
    → way_or_jump first e p ≡ Ok targets → JumpPlace e p
either_place first e p targets h = let b = bound (jumped e p) _ targets h in jump_place e p b.before b.was

only_place : (e : Element) (p : Position) (targets : List Position) → jump_way e p ≡ Ok targets → JumpPlace e p
only_place e p targets h = let b = bound (jumped e p) _ targets h in jump_place e p b.before b.was

-- an iteration of the text is open
abbrev pub HasStart : List ℕ → Type 0
HasStart [] = ⊥
HasStart (start ∷ outer) = ⊤

leave_place : (starts : List ℕ) (e : Element) (p : Position) (targets : List Position)
    → leave_ways starts e p ≡ Ok targets → HasStart starts × JumpPlace e p
leave_place [] e p targets h = absurd (cc)
leave_place (start ∷ outer) e p targets h = (tt, either_place (past e p) e p targets h)

end_start : (starts : List ℕ) (e : Element) (p : Position) (targets : List Position) → end_ways starts e p ≡ Ok targets
    → HasStart starts
end_start [] e p targets h = absurd (cc)
end_start (start ∷ outer) e p targets h = tt

ahead_place : (starts : List ℕ) (e : Element) (p : Position) (targets : List Position)
    → ahead_ways goal.EndTurn starts e p ≡ Ok targets → HasStart starts × JumpPlace e p
ahead_place [] e p targets h = absurd (cc)
ahead_place (start ∷ outer) e p targets h = (tt, only_place e p targets h)

abbrev pub FlowHas : Flow → Element → Position → Type 0
FlowHas flow.Iterate e p = JumpPlace e p
FlowHas flow.EndTurn e p = HasStart p.running.starts
FlowHas flow.Leave e p = HasStart p.running.starts × JumpPlace e p
FlowHas (flow.Test t) e p = JumpPlace e p
FlowHas flow.Otherwise e p = JumpPlace e p
FlowHas flow.GoTo e p = JumpPlace e p
FlowHas (flow.GoAhead goal.EndTurn) e p = HasStart p.running.starts × JumpPlace e p
FlowHas (flow.GoAhead g) e p = JumpPlace e p
FlowHas f e p = ⊤

pub flow_has : (f : Flow) (e : Element) (p : Position) (targets : List Position) → flow_ways f e p ≡ Ok targets
    → FlowHas f e p
unfolding flow_ways
flow_has flow.Iterate e p targets h = either_place _ e p targets h
flow_has flow.EndTurn e p targets h = end_start p.running.starts e p targets h
flow_has flow.Leave e p targets h = leave_place p.running.starts e p targets h
flow_has (flow.Test t) e p targets h = either_place _ e p targets h
flow_has flow.EndTest e p targets h = tt
flow_has flow.Comment e p targets h = tt
flow_has (flow.GoAhead goal.EndTurn) e p targets h = ahead_place p.running.starts e p targets h
flow_has f e p targets h = only_place e p targets h

pub search_has : (starts : List ℕ) (e : Element) (p : Position) (targets : List Position)
    → search_ways false starts e p ≡ Ok targets → HasStart starts → JumpPlace e p
search_has [] e p targets h s = absurd s
search_has (start ∷ outer) e p targets h s = either_place (past e p) e p targets h

-- ---- the way that goes on is there
abbrev pub on_way_of_flow : Flow → ℕ
on_way_of_flow flow.EndTurn = 1
on_way_of_flow f = 0

abbrev pub on_way : Kind → ℕ
on_way (kind.Flow f) = on_way_of_flow f
on_way k = 0

There : List Position → ℕ → Type 0
There targets way = (q : Position) × (slice_get targets way ≡ Some q)

there : (xs targets : List Position) (way : ℕ) (q : Position)
    → Path (Result (List Position) Reason) (Ok xs) (Ok targets) → slice_get xs way ≡ Some q → There targets way
unfolding There
there xs targets way q h g = let e : xs ≡ targets = cc in (q, subst (λ xs. slice_get xs way ≡ Some q) e g)

either_there : (first : Position) (e : Element) (p : Position) (targets : List Position)
    → way_or_jump first e p ≡ Ok targets → There targets 0
either_there first e p targets h = let b = bound (jumped e p) _ targets h in
    there (first ∷ b.before ∷ []) targets 0 first b.gives refl

only_there : (e : Element) (p : Position) (targets : List Position) → jump_way e p ≡ Ok targets → There targets 0
only_there e p targets h = let b = bound (jumped e p) _ targets h in
    there (b.before ∷ []) targets 0 b.before b.gives refl

leave_there : (starts : List ℕ) (e : Element) (p : Position) (targets : List Position)
    → leave_ways starts e p ≡ Ok targets → There targets 0
leave_there [] e p targets h = absurd (cc)
leave_there (start ∷ outer) e p targets h = either_there (past e p) e p targets h

end_there : (starts : List ℕ) (e : Element) (p : Position) (targets : List Position) → end_ways starts e p ≡ Ok targets
    → There targets 1
end_there [] e p targets h = absurd (cc)
end_there (start ∷ outer) e p targets h =
    there (moved_to start (start ∷ outer) p ∷ moved_to e.next outer p ∷ []) targets 1 (moved_to e.next outer p) h refl

ahead_there : (g : Goal) (starts : List ℕ) (e : Element) (p : Position) (targets : List Position)
    → ahead_ways g starts e p ≡ Ok targets → There targets 0
ahead_there goal.EndTurn [] e p targets h = absurd (cc)
ahead_there goal.EndTurn (start ∷ outer) e p targets h = only_there e p targets h
ahead_there goal.EndTest starts e p targets h = only_there e p targets h
ahead_there goal.Otherwise starts e p targets h = only_there e p targets h

flow_there : (f : Flow) (e : Element) (p : Position) (targets : List Position) → flow_ways f e p ≡ Ok targets
    → There targets (on_way_of_flow f)
unfolding flow_ways
flow_there flow.Iterate e p targets h = either_there _ e p targets h
flow_there flow.EndTurn e p targets h = end_there p.running.starts e p targets h
flow_there flow.Leave e p targets h = leave_there p.running.starts e p targets h
flow_there (flow.Test t) e p targets h = either_there _ e p targets h
flow_there flow.Otherwise e p targets h = only_there e p targets h
flow_there flow.EndTest e p targets h = there (past e p ∷ []) targets 0 (past e p) h refl
flow_there flow.GoTo e p targets h = only_there e p targets h
flow_there flow.Comment e p targets h = there (past e p ∷ []) targets 0 (past e p) h refl
flow_there (flow.GoAhead g) e p targets h = ahead_there g p.running.starts e p targets h

search_there : (colon : Bool) (starts : List ℕ) (e : Element) (p : Position) (targets : List Position)
    → search_ways colon starts e p ≡ Ok targets → There targets 0
search_there false (start ∷ outer) e p targets h = either_there (past e p) e p targets h
search_there false [] e p targets h = there (past e p ∷ []) targets 0 (past e p) h refl
search_there true starts e p targets h = there (past e p ∷ []) targets 0 (past e p) h refl

call_there : (o : Option (List ℕ)) (e : Element) (p : Position) (targets : List Position) → call_ways o e p ≡ Ok targets
    → There targets 0
call_there None e p targets h = absurd (cc)
call_there (Some text) e p targets h = there _ targets 0 _ h refl

kind_there : (library : Library) (k : Kind) (e : Element) (p : Position) (targets : List Position)
    → element_ways library k e p ≡ Ok targets → There targets (on_way k)
kind_there library (kind.Call c) e p targets h = call_there (macro library c.register) e p targets h
kind_there library (kind.Flow f) e p targets h = flow_there f e p targets h
kind_there library (kind.Search q) e p targets h =
    search_there (has_colon e (frame_of p.running.text)) p.running.starts e p targets h
kind_there library k e p targets h = there (past e p ∷ []) targets 0 (past e p) h refl

lead_there : (all : List Stand) (base number : ℕ) (from : Stand) (targets : List Position) (ways : List ℕ) (way : ℕ)
    (q : Position) → Lead all base number from targets ways → slice_get targets way ≡ Some q
    → (target : ℕ) × (slice_get ways way ≡ Some target)
lead_there all base number from (t ∷ targets) (x ∷ ways) zero q l h = (x, refl)
lead_there all base number from (t ∷ targets) (x ∷ ways) (suc way) q l h =
    lead_there all number number from targets ways way q l.1 h
lead_there all base number from targets ways way q l h = absurd (grind arith)

pub way_there : (library : Library) (e : Element) (p : Position) (targets : List Position) (all : List Stand)
    (base number : ℕ) (from : Stand) (ways : List ℕ) → ways_at library (Some e) p ≡ Ok targets
    → Lead all base number from targets ways → (target : ℕ) × (slice_get ways (on_way e.kind) ≡ Some target)
unfolding ways_at There
way_there library e p targets all base number from ways h l =
    let t = kind_there library e.kind e p targets h in
    lead_there all base number from targets ways (on_way e.kind) t.0 l t.1
