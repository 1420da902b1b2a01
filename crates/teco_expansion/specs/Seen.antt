-- What stands in the code, as the definition has it.
use Rattle.std.specs.Prelude.{List, [], ◌∷◌, map, Option, None, Result, Ok, Err}
use Rattle.teco_base.specs.declared.code.Code.{Code}
use Rattle.teco_model.specs.Element as element
use Rattle.teco_verifier.specs.expansion.Expansion as expansion
use Rattle.teco_verifier.specs.expansion.Node as model
use Rattle.teco_verifier.specs.expansion.Position as position
use Rattle.teco_expansion.specs.declared.node.Node.{Node}
use Rattle.teco_expansion.specs.declared.spot.Spot.{Spot}
use Rattle.teco_expansion.specs.declared.spot.TextPosition.{TextPosition}
use Rattle.teco_expansion.specs.declared.spot.Stand.{Stand}
use Rattle.teco_expansion.specs.declared.texts.Texts.{Texts}
use Rattle.teco_expansion.specs.declared.visit.Visit.{Visit}
use Rattle.teco_expansion.specs.declared.ways.Ways.{Ways}
use Rattle.teco_expansion.specs.declared.ways.Ways.TheVariants.{End, One, Two}
use Rattle.teco_expansion.specs.Few.{listed}
use Rattle.teco_expansion.specs.Texts.{text_of}

abbrev pub spot_seen : Texts → Spot → position.Spot
spot_seen texts s =
    record { text = text_of texts s.register; place = s.place; starts = listed s.starts }

abbrev pub position_seen : Texts → TextPosition → position.Position
position_seen texts p = record {
  running = spot_seen texts p.running;
  callers = map (spot_seen texts) (listed p.callers);
}

abbrev pub ways_seen : Texts → Ways → List position.Position
ways_seen texts End = []
ways_seen texts (One way) = position_seen texts way ∷ []
ways_seen texts (Two first second) = position_seen texts first ∷ position_seen texts second ∷ []

abbrev pub stand_seen : Texts → Stand → model.Stand
stand_seen texts s =
    record { position = position_seen texts s.position; iterations = listed s.iterations }

abbrev pub visit_seen : Texts → Visit → expansion.Visit
visit_seen texts v =
    record { stand = stand_seen texts v.stand; registers = listed v.registers }

-- what is read, if that is no fault
abbrev pub read_of : Result (Option element.Element) Code → Option element.Element
read_of (Ok read) = read
read_of (Err c) = None

abbrev pub node_seen : Texts → Node → model.Node
node_seen texts n = record {
  stand = stand_seen texts n.stand;
  register = n.register;
  element =
      read_of (element.element_at (text_of texts n.stand.position.running.register)
      n.stand.position.running.place);
  ways = listed n.ways;
  names_macro = n.names_macro;
}
