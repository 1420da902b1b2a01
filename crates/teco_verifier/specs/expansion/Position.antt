-- Where a run stands, without what it computes: the texts, the places in them, and the starts of the open iterations.
-- What is kept, the pending arguments and the turns left are no part of it.
use Rattle.std.specs.Prelude.{ℕ, List, [], ◌∷◌, ◌++◌, map, length}
use Rattle.teco_model.specs.declared.flow.Loop.{Loop}
use Rattle.teco_model.specs.Element.{blank_end}
use Rattle.teco_model.specs.State.{Frame, Frames, State}

-- the place of an element in a text, and where the bodies of the iterations start that are open in it, the innermost
-- first; a return stands at the length of its text
pub record Spot : Type 0 where
  pub text : List ℕ
  pub place : ℕ
  pub starts : List ℕ

-- where a text goes on, behind the blanks at a place
abbrev pub spot_at : List ℕ → ℕ → List ℕ → Spot
spot_at text place starts = record { text = text; place = blank_end text place; starts = starts }

-- the text that is executed, and those that wait for its end, the newest first
pub record Position : Type 0 where
  pub running : Spot
  pub callers : List Spot

abbrev pub start_of : Loop → ℕ
start_of loop = loop.start

abbrev pub spot_of : Frame → Spot
spot_of frame = spot_at frame.text frame.place (map start_of frame.loops)

abbrev pub position_of_frames : Frames → Position
position_of_frames frames =
    record { running = spot_of frames.running; callers = map spot_of frames.callers }

-- where a state stands
abbrev pub position_of : State → Position
position_of s = position_of_frames s.frames

-- a text at its beginning
abbrev pub spot_in : List ℕ → Spot
spot_in text = spot_at text 0 []

-- the running text at another place, with other iterations open
abbrev pub moved_to : ℕ → List ℕ → Position → Position
moved_to place starts p = record p { running = spot_at p.running.text place starts }

-- the starts of all open iterations, of the texts that wait too, and how many there are
abbrev pub starts_in : List Spot → List ℕ
starts_in [] = []
starts_in (spot ∷ spots) = spot.starts ++ starts_in spots

abbrev pub open_starts : Position → List ℕ
open_starts p = starts_in (p.running ∷ p.callers)

abbrev pub depth : Position → ℕ
depth p = length (open_starts p)

-- the place of the element at a position
abbrev pub place_at : Position → ℕ
place_at p = p.running.place
