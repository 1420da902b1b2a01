-- Where ways lead, one by one.
use Rattle.std.specs.Prelude.{◌≡◌, ◌<◌, ℕ, List, drop, map, Bool, Option, Some, None, length, Result}
use Rattle.std.specs.List.{list_any}
use Rattle.std.specs.Option.{ok_or}
use Rattle.teco_verifier.specs.expansion.Expansion.{Visit, Walk, all_stands, same_place, number_behind}
use Rattle.teco_verifier.specs.expansion.Expansion.{refusal_of_way, refusal_at, way_numbers}
use Rattle.teco_verifier.specs.expansion.Node.{Stand, stand_at}
use Rattle.teco_verifier.specs.expansion.Position.{Position}
use Rattle.teco_verifier.specs.expansion.Refusal.{Unpaired, Refusal}
use Rattle.teco_expansion.specs.Few.{listed}
use Rattle.teco_expansion.specs.Seen.{stand_seen, visit_seen}
use Rattle.teco_expansion.specs.Texts.{library_of}
use Rattle.teco_expansion.specs.declared.few.TheConstants.{ROOM}
use Rattle.teco_expansion.specs.declared.link.Link.{Link}
use Rattle.teco_expansion.specs.declared.spot.Spot as spot
use Rattle.teco_expansion.specs.Walks.{walk_seen}
use Rattle.teco_expansion.specs.declared.spot.Stand as code
use Rattle.teco_expansion.specs.declared.texts.Texts.{Texts}
use Rattle.teco_expansion.specs.declared.walk.Walk as walk

-- how many iterations are open in a text that waits, if one does
abbrev pub open_in : Option spot.Spot → ℕ
open_in None = 0
open_in (Some s) = length (listed s.starts)

-- does any behind a number stand at the same place?
abbrev pub has_place : ℕ → List Stand → Position → Bool
has_place number all p = list_any (λ (other : Stand). same_place p other.position) (drop number all)

-- the number that one way leads to
abbrev pub way_number : ℕ → Walk → ℕ → ℕ → Visit → Position → Result ℕ Refusal
way_number entry w first number v target =
    ok_or (number_behind first (all_stands w entry) (stand_at number v.stand target))
    (refusal_of_way first (all_stands w entry) w.refusal (refusal_at entry v Unpaired)
    (stand_at number v.stand target))

-- these are the stands of a walk, the end behind them
abbrev pub AreStandsOf : Texts → walk.Walk → List code.Stand → Type 0
AreStandsOf texts w stands = map (stand_seen texts) stands ≡ all_stands (walk_seen texts w) texts.entry

-- a link is among the stands of its walk, and its visit has room for one more iteration
pub record IsLink (link : Link) : Type 0 where
  pub stands : AreStandsOf link.texts.now link.walk.now link.stands.now
  pub room : length (listed link.visit.now.stand.iterations) < ROOM

-- the refusal of a link whose way leads into another pair
abbrev pub overlap_of : Link → Refusal
overlap_of link = refusal_at link.texts.now.entry (visit_seen link.texts.now link.visit.now) Unpaired

-- the numbers that ways lead to, the first of them behind a number
abbrev pub numbers_of : ℕ → List Position → Link → Result (List ℕ) Refusal
numbers_of first ways link =
    way_numbers (library_of link.texts.now) link.texts.now.entry (walk_seen link.texts.now link.walk.now)
    first link.number (visit_seen link.texts.now link.visit.now) ways
