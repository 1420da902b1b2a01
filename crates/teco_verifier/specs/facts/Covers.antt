-- When the facts at the end of an edge are covered by those at its target: what these say is no more than those.
use Rattle.std.specs.Prelude.{ℤ, int_le, nat_le, nat_eq, ◌&&◌, List, [], ◌∷◌, Bool, true, false, not, pos, Option}
use Rattle.std.specs.Prelude.{Some, None, if◌then◌else◌}
use Rattle.teco_model.specs.declared.arguments.Operator.{Operator}
use Rattle.teco_model.specs.declared.arguments.Operator.TheVariants.{Plus, Minus, Times, Over, And, Or}
use Rattle.teco_poly.specs.Polynomial.{Polynomial, is_at_most}
use Rattle.teco_verifier.specs.declared.values.Value.{Value}
use Rattle.teco_verifier.specs.declared.values.Interval.{Interval}
use Rattle.teco_verifier.specs.declared.values.Distances.{Distances}
use Rattle.teco_verifier.specs.facts.Arguments.{KnownLevel, KnownArguments}
use Rattle.teco_verifier.specs.facts.Facts.{Position, Answer, Iteration, Pushed, Facts}
use Rattle.teco_verifier.specs.facts.Values.{interval_of}

-- of each of two lists, which are as long
abbrev pub each_covers : {X : Type 0} → (X → X → Bool) → List X → List X → Bool
each_covers covers [] [] = true
each_covers covers (x ∷ xs) (y ∷ ys) = covers x y && each_covers covers xs ys
each_covers covers [] (y ∷ ys) = false
each_covers covers (x ∷ xs) [] = false

-- both are there, or neither
abbrev pub both_cover : {X : Type 0} → (X → X → Bool) → Option X → Option X → Bool
both_cover covers None None = true
both_cover covers (Some x) (Some y) = covers x y
both_cover covers None (Some y) = false
both_cover covers (Some x) None = false

-- an interval is wider or the same
abbrev pub covers_interval : Interval → Interval → Bool
covers_interval i j = int_le i.lo j.lo && int_le j.hi i.hi

-- what is saved at the target is saved on the edge
abbrev pub covers_saved : Bool → Bool → Bool
covers_saved true edge = edge
covers_saved false edge = true

-- A linear value covers itself alone; an interval covers each value whose numbers it has.
abbrev pub are_equal : ℤ → ℤ → Bool
are_equal v w = int_le v w && int_le w v

abbrev pub is_interval : Value → Bool
is_interval s = are_equal s.ahead (pos 0) && are_equal s.behind (pos 0)

abbrev pub is_same : Value → Value → Bool
is_same s t = are_equal s.ahead t.ahead && are_equal s.behind t.behind && are_equal s.lo t.lo && are_equal s.hi t.hi

abbrev pub covers_number : Distances → Value → Value → Bool
covers_number distances s t =
    if is_interval s then covers_interval (record { lo = s.lo; hi = s.hi })
    (interval_of distances t) else is_same s t

abbrev pub covers_value : Distances → Value → Value → Bool
covers_value distances s t = covers_saved s.saved t.saved && covers_number distances s t

-- levels have the same shape
abbrev pub is_same_operator : Operator → Operator → Bool
is_same_operator Plus Plus = true
is_same_operator Minus Minus = true
is_same_operator Times Times = true
is_same_operator Over Over = true
is_same_operator And And = true
is_same_operator Or Or = true
is_same_operator o p = false

abbrev pub covers_level : Distances → KnownLevel → KnownLevel → Bool
covers_level distances level edge =
    both_cover (covers_value distances) level.first edge.first
    && both_cover (covers_value distances) level.value edge.value
    && both_cover is_same_operator level.operator edge.operator

abbrev pub covers_arguments : Distances → KnownArguments → KnownArguments → Bool
covers_arguments distances arguments edge =
    covers_level distances arguments.level edge.level
    && each_covers (covers_level distances) arguments.outer edge.outer

-- distances and falls are smaller or the same, of which an unknown fall is the smallest; what is ahead may be more
abbrev pub covers_distances : Distances → Distances → Bool
covers_distances distances edge = nat_le distances.back edge.back && nat_le distances.fore edge.fore

abbrev pub covers_fall : Option ℤ → Option ℤ → Bool
covers_fall None edge = true
covers_fall (Some v) (Some w) = int_le v w
covers_fall (Some v) None = false

abbrev pub covers_position : Position → Position → Bool
covers_position position edge =
    covers_distances position.distances edge.distances
    && each_covers covers_fall position.falls edge.falls
    && is_at_most edge.ahead position.ahead
    && each_covers covers_saved position.saved edge.saved

-- an answer is there only where the edge has one, whose outcomes are covered
abbrev pub covers_answer : Option Answer → Option Answer → Bool
covers_answer None edge = true
covers_answer (Some answer) (Some edge) =
    covers_position answer.found edge.found && covers_position answer.failed edge.failed
covers_answer (Some answer) None = false

-- Both have the same iterations open: with a count at the same ones, and as many pushes at each <.
abbrev pub is_same_truth : Bool → Bool → Bool
is_same_truth true b = b
is_same_truth false b = not b

abbrev pub is_same_iteration : Iteration → Iteration → Bool
is_same_iteration i j = is_same_truth i.counted j.counted && nat_eq i.pushes j.pushes

-- a longer text may be
abbrev pub covers_length : Polynomial → Polynomial → Bool
covers_length length edge = is_at_most edge length

abbrev pub covers_pushed : Pushed → Pushed → Bool
covers_pushed pair edge = covers_interval pair.number edge.number && is_at_most edge.text pair.text

abbrev pub covers : Facts → Facts → Bool
covers facts edge =
    covers_arguments edge.position.distances facts.arguments edge.arguments
    && covers_answer facts.answer edge.answer
    && covers_position facts.position edge.position
    && each_covers is_same_iteration facts.iterations edge.iterations
    && is_at_most edge.held facts.held
    && each_covers covers_interval facts.numbers edge.numbers
    && each_covers covers_length facts.texts edge.texts
    && each_covers covers_pushed facts.pushes edge.pushes
