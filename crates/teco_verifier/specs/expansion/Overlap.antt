-- Pairs that overlap: a conditional that leads where other iterations are open than at it.
use Rattle.std.specs.Prelude.{ℕ, zero, suc, ◌+◌, List, [], ◌∷◌, length, nat_le, nat_lt, Bool, true, false, ◌&&◌, ◌||◌}
use Rattle.std.specs.Prelude.{if◌then◌else◌, Option, Some, None}
use Rattle.std.specs.List.{list_any}
use Rattle.teco_model.specs.declared.kind.Flow.TheVariants as flow
use Rattle.teco_model.specs.declared.kind.Goal.TheVariants as goal
use Rattle.teco_model.specs.declared.kind.Kind.{Kind}
use Rattle.teco_model.specs.declared.kind.Kind.TheVariants as kind
use Rattle.teco_model.specs.declared.skip.Bracket.{Bracket}
use Rattle.teco_model.specs.declared.skip.Bracket.TheVariants.{Opens, Closes, Stops, Passes}
use Rattle.teco_model.specs.declared.skip.Pairs.TheVariants.{Iterations}
use Rattle.teco_model.specs.Ahead.{Reading, Whole, Faulty, readings}
use Rattle.teco_model.specs.Element.{Element}
use Rattle.teco_model.specs.Skip.{bracket}
use Rattle.teco_verifier.specs.expansion.Position.{Spot, Position, place_at}

-- on the way between two places: how many iterations begin and do not end, and whether one ends that did not begin
pub record Crossed : Type 0 where
  pub begun : ℕ
  pub ended : Bool

abbrev pub not_crossed : Crossed
not_crossed = record { begun = 0; ended = false }

-- behind an end, by how many have begun
abbrev pub behind_end : ℕ → Crossed → Crossed
behind_end zero c = record { begun = 0; ended = true }
behind_end (suc outer) c = record { begun = outer; ended = c.ended }

abbrev pub behind_bracket : Bracket → Crossed → Crossed
behind_bracket Opens c = record { begun = c.begun + 1; ended = c.ended }
behind_bracket Closes c = behind_end c.begun c
behind_bracket Stops c = c
behind_bracket Passes c = c

-- up to a place, by what is read ahead
abbrev pub crossed_to : ℕ → Crossed → List Reading → Crossed
crossed_to to c [] = c
crossed_to to c (Faulty code place next ∷ rest) = crossed_to to c rest
crossed_to to c (Whole e ∷ rest) =
    if nat_le to e.place then c else crossed_to to (behind_bracket (bracket Iterations e.kind) c) rest

abbrev pub crossed : List ℕ → ℕ → ℕ → Crossed
crossed text from to = crossed_to to not_crossed (readings text from)

-- On the way from a spot an iteration ends that is open there, or one begins that ends behind the way; one that has
-- no end is none.
abbrev pub parts_on : Spot → ℕ → ℕ → Bool
parts_on spot from to =
    let way = crossed spot.text from to in
    (way.ended && nat_lt 0 (length spot.starts))
    || (nat_lt 0 way.begun && (crossed spot.text to (length spot.text)).ended)

-- conditionals, and what goes to their branches and ends
abbrev pub is_branch : Kind → Bool
is_branch (kind.Flow (flow.Test t)) = true
is_branch (kind.Flow flow.Otherwise) = true
is_branch (kind.Flow (flow.GoAhead goal.EndTest)) = true
is_branch (kind.Flow (flow.GoAhead goal.Otherwise)) = true
is_branch k = false

-- does any way lead so?
abbrev pub any_parts : Spot → ℕ → List Position → Bool
any_parts spot from ways = list_any (λ way. parts_on spot from (place_at way)) ways

-- what is read at a position, and the ways from there
abbrev pub overlaps : Option Element → List Position → Position → Bool
overlaps None ways p = false
overlaps (Some e) ways p = is_branch e.kind && any_parts p.running e.next ways
