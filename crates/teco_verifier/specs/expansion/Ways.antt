-- The ways from a position: where the machine may stand behind the element that is read there. Of two ways the first
-- goes on, and the second jumps; of > the first goes back to the start, and the second goes on.
use Rattle.std.specs.Prelude.{ℕ, List, [], ◌∷◌, drop, Bool, false, Option, Some, None, Result, Ok, Err}
use Rattle.std.specs.Option.{ok_or}
use Rattle.teco_base.specs.declared.code.Code.{Code}
use Rattle.teco_model.specs.declared.kind.Kind.{Kind}
use Rattle.teco_model.specs.declared.kind.Kind.TheVariants as kind
use Rattle.teco_model.specs.declared.kind.Flow.{Flow}
use Rattle.teco_model.specs.declared.kind.Flow.TheVariants as flow
use Rattle.teco_model.specs.declared.kind.Goal.{Goal}
use Rattle.teco_model.specs.declared.kind.Goal.TheVariants as goal
use Rattle.teco_model.specs.declared.pattern.Part.{Part}
use Rattle.teco_model.specs.declared.skip.Skip.{Skip}
use Rattle.teco_model.specs.Ahead.{Whole}
use Rattle.teco_model.specs.Element.{Element, element_at}
use Rattle.teco_model.specs.Pattern.{parts}
use Rattle.teco_model.specs.Skip.{skip_of}
use Rattle.teco_model.specs.State.{frame_of}
use Rattle.teco_model.specs.Searching.{has_colon}
use Rattle.teco_model.specs.Macros.{Library, macro}
use Rattle.teco_verifier.specs.expansion.Position.{Spot, Position, spot_in, moved_to}
use Rattle.teco_verifier.specs.expansion.Refusal.{Reason, Fault, Unpaired, NoMacro, ◌>>=◌}

-- A search text that says no pattern is refused, as a fault of its element is.
abbrev pub pattern_parts : Kind → List ℕ → Result (List Part) Code
pattern_parts (kind.Search s) text = parts text
pattern_parts k text = Ok []

abbrev pub as_fault : {X : Type 0} → Result X Code → Result X Reason
as_fault (Ok x) = Ok x
as_fault (Err c) = Err Fault

abbrev pub sound : Option Element → Result (Option Element) Reason
sound None = Ok None
sound (Some e) = do
  parts ← as_fault (pattern_parts e.kind e.text)
  Ok (Some e)

-- what is read at a position: an element, or the end of the text
unfoldable pub read_at : Position → Result (Option Element) Reason
read_at p = do
  read ← as_fault (element_at p.running.text p.running.place)
  sound read

-- behind an element
abbrev pub past : Element → Position → Position
past e p = moved_to e.next p.running.starts p

-- A skip leaves as many open iterations as it says; one that leads nowhere is refused.
abbrev pub skipped : Skip → Position → Result Position Reason
skipped skip p = do
  place ← ok_or skip.to Unpaired
  Ok (moved_to place (drop skip.leaves p.running.starts) p)

-- where an element jumps ahead
abbrev pub jumped : Element → Position → Result Position Reason
jumped e p = skipped (skip_of p.running.text (Whole e)) p

-- one way
abbrev pub one_way : Position → Result (List Position) Reason
one_way p = Ok (p ∷ [])

-- the way of what always jumps
abbrev pub jump_way : Element → Position → Result (List Position) Reason
jump_way e p = do
  jump ← jumped e p
  Ok (jump ∷ [])

-- the ways of what goes on, or jumps
abbrev pub way_or_jump : Position → Element → Position → Result (List Position) Reason
way_or_jump first e p = do
  jump ← jumped e p
  Ok (first ∷ jump ∷ [])

-- > goes back to the start of its iteration, or on; outside an iteration of its own text it is refused.
abbrev pub end_ways : List ℕ → Element → Position → Result (List Position) Reason
end_ways [] e p = Err Unpaired
end_ways (start ∷ outer) e p = Ok (moved_to start (start ∷ outer) p ∷ moved_to e.next outer p ∷ [])

-- ; goes on, or leaves its iteration; outside an iteration of its own text it is refused.
abbrev pub leave_ways : List ℕ → Element → Position → Result (List Position) Reason
leave_ways [] e p = Err Unpaired
leave_ways (start ∷ outer) e p = way_or_jump (past e p) e p

-- F>, F' and F| go ahead; F> is refused outside an iteration of its own text.
abbrev pub ahead_ways : Goal → List ℕ → Element → Position → Result (List Position) Reason
ahead_ways goal.EndTurn [] e p = Err Unpaired
ahead_ways g starts e p = jump_way e p

unfoldable pub flow_ways : Flow → Element → Position → Result (List Position) Reason
flow_ways flow.Iterate e p = way_or_jump (moved_to e.next (e.next ∷ p.running.starts) p) e p
flow_ways flow.EndTurn e p = end_ways p.running.starts e p
flow_ways flow.Leave e p = leave_ways p.running.starts e p
flow_ways (flow.Test t) e p = way_or_jump (past e p) e p
flow_ways flow.Otherwise e p = jump_way e p
flow_ways flow.EndTest e p = one_way (past e p)
flow_ways flow.GoTo e p = jump_way e p
flow_ways flow.Comment e p = one_way (past e p)
flow_ways (flow.GoAhead g) e p = ahead_ways g p.running.starts e p

-- A search without a colon that misses leaves the innermost iteration of its text, if one is open.
abbrev pub search_ways : Bool → List ℕ → Element → Position → Result (List Position) Reason
search_ways false (start ∷ outer) e p = way_or_jump (past e p) e p
search_ways colon starts e p = one_way (past e p)

-- M goes to the beginning of its text, and its own text waits behind it.
abbrev pub called : List ℕ → Element → Position → Position
called text e p = record { running = spot_in text; callers = (past e p).running ∷ p.callers }

abbrev pub call_ways : Option (List ℕ) → Element → Position → Result (List Position) Reason
call_ways None e p = Err NoMacro
call_ways (Some text) e p = one_way (called text e p)

-- The end of a text goes back to the text that waits, if there is one; no iteration may be open.
abbrev pub return_ways : List ℕ → List Spot → Result (List Position) Reason
return_ways (start ∷ outer) callers = Err Unpaired
return_ways [] [] = Ok []
return_ways [] (caller ∷ callers) = one_way (record { running = caller; callers = callers })

abbrev pub element_ways : Library → Kind → Element → Position → Result (List Position) Reason
element_ways library (kind.Call c) e p = call_ways (macro library c.register) e p
element_ways library (kind.Flow f) e p = flow_ways f e p
element_ways library (kind.Search s) e p =
    search_ways (has_colon e (frame_of p.running.text)) p.running.starts e p
element_ways library k e p = one_way (past e p)

unfoldable pub ways_at : Library → Option Element → Position → Result (List Position) Reason
ways_at library None p = return_ways p.running.starts p.callers
ways_at library (Some e) p = element_ways library e.kind e p
