-- A step from where a run is described is a move, or comes to the end.
use Rattle.teco_law_tables.proofs.Prelude.{◌≡◌, refl, ap, Bool, true, false, Some, AreClosed, IterationsEnd}
use Rattle.teco_law_tables.proofs.Prelude.{LeftHaveEnded, IterationsAreOpen, WaysLead, Stand, Node, numbered, stand_at}
use Rattle.teco_law_tables.proofs.Prelude.{position_of, begins_turn, MovesOn, ComesOn, Over, On, StepsMove}
use Rattle.teco_law_tables.proofs.Ground.{Ground, Passage}
use Rattle.teco_law_tables.proofs.Entered.{Begins, First, Further, begins_by, begins_first}
use Rattle.teco_law_tables.proofs.Going.{Laws, Target, AtNode, AtEnd, target_is, goes_on}
use Rattle.teco_law_tables.proofs.Returned.{begins_further}

module _ (laws : Laws) (ground : Ground) (closed : AreClosed ground.nodes) (passage : Passage ground) where
  open ground use {library, entry, nodes, table, n, below, are, passes}
  open passage use {number, turns, s, last, t, here, again, goes, comes, loaded, whole}

  turns_there : (there : Node) → numbered nodes goes.target ≡ Some there
      → there.stand ≡ stand_at number here.node.stand (position_of t) → Begins here.node.element goes.way
      → MovesOn library nodes table n below number here.node turns s goes.target t
  turns_there there at stand (First e reads is first) =
      begins_first laws ground closed passage there at stand e reads is first
  turns_there there at stand (Further e reads is first) =
      begins_further laws ground closed passage there at stand e reads is first

  moves_there : (there : Node) → numbered nodes goes.target ≡ Some there
      → there.stand ≡ stand_at number here.node.stand (position_of t) → (b : Bool)
      → begins_turn here.node.element goes.way ≡ b
      → MovesOn library nodes table n below number here.node turns s goes.target t
  moves_there there at stand true b = turns_there there at stand (begins_by here.node.element goes.way b)
  moves_there there at stand false b = goes_on laws ground closed passage there at stand b

  comes_there : Target nodes entry goes.target (stand_at number here.node.stand (position_of t))
      → ComesOn library entry nodes table n below number here.node turns s goes.target t
  comes_there (AtNode there at stand) = On (moves_there there at stand _ refl)
  comes_there (AtEnd e) = Over (ap (λ (stand : Stand). stand.position) e)

  pub comes_on : ComesOn library entry nodes table n below number here.node turns s goes.target t
  comes_on =
      comes_there (target_is nodes entry goes.target (stand_at number here.node.stand (position_of t)) goes.there.at)

pub steps_move : IterationsAreOpen → IterationsEnd → LeftHaveEnded → WaysLead → StepsMove
steps_move open_at ends left lead library entry nodes table n below number turns s last t are passes here again goes
    comes loaded whole =
    let ground : Ground = record {
      library = library;
      entry = entry;
      nodes = nodes;
      table = table;
      n = n;
      below = below;
      are = are;
      passes = passes;
    } in
    let passage : Passage ground = record {
      arrival = record { number = number; turns = turns; s = s; here = here };
      last = last;
      t = t;
      again = again;
      goes = goes;
      comes = comes;
      loaded = loaded;
      whole = whole;
    } in
    comes_on (record { open_at = open_at; left = left; lead = lead }) ground (ends library entry nodes are) passage
