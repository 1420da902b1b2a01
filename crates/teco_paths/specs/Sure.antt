-- A macro whose claims hang together runs to its end, without a code, within the printed number of commands.
use Rattle.std.specs.Prelude.{◌≡◌, ℕ, List, map, length, Option, option_map}
use Rattle.teco_law_runs.specs.Given.{call_given, start_given}
use Rattle.teco_law_runs.specs.Linked.{AreLinked}
use Rattle.teco_law_runs.specs.Ready.{AreOpen, IsReady, n_of}
use Rattle.teco_model.specs.Macros.{Library, ArgumentRange, IsAsked, Needs}
use Rattle.teco_model.specs.State.{World, start}
use Rattle.teco_claims.specs.Values.{Claimed}
use Rattle.teco_paths.specs.Claims.{IsSaid}
use Rattle.teco_paths.specs.declared.cut.CutState.{CutState}
use Rattle.teco_paths.specs.Meaning.{SayClaims}
use Rattle.teco_paths.specs.Paths.{Course}
use Rattle.teco_paths.specs.Runs.{EndsBy, Ground, Limits}
use Rattle.teco_poly.specs.Polynomial.{Polynomial, value}
use Rattle.teco_promise.specs.Promise.{EndsInBounds, held_of, most_with}
use Rattle.teco_verifier.specs.expansion.Node.{Node}
use Rattle.teco_verifier.specs.table.Printed.{steps_before}

-- the texts of a library are so long
abbrev pub AreLengths : List (Option ℕ) → Library → Type 0
AreLengths lengths library = map (option_map length) library ≡ lengths

-- What is claimed of a whole run: the most steps, the size, and, if that is claimed, how much longer its text may get
-- and how many bytes it may type.
pub record RunBounds : Type 0 where
  pub commands : Polynomial
  pub size : Polynomial
  pub grows : Option Polynomial
  pub types : Option Polynomial

-- those of a course, and those of claims
abbrev pub bounds_of : Course → RunBounds
bounds_of course = record {
  commands = course.commands;
  size = course.size;
  grows = course.grows;
  types = course.types;
}

abbrev pub bounds_in : Claimed → RunBounds
bounds_in claimed = record {
  commands = claimed.commands;
  size = claimed.size;
  grows = claimed.grows;
  types = claimed.types;
}

-- Every run of a macro ends without a code within the number of commands; its text gets no longer, and it types no more
-- bytes, than is told, where the needed files are open and the size may be held; and it leaves what no node names.
abbrev pub EndsInTime : List Node → List (Option ℕ) → Option ArgumentRange → Needs → RunBounds → Type 0
EndsInTime nodes lengths argument needs bounds =
    (library : Library) (entry : ℕ) (given : Option ℕ) (world : World)
    → AreLengths lengths library → AreLinked library entry nodes → IsAsked argument given
    → IsReady library entry bounds.size (n_of world) world → AreOpen needs world.files
    → EndsInBounds nodes (start (call_given entry given) world) (value bounds.commands (n_of world))
    (most_with bounds.grows (n_of world) (held_of world))
    (most_with bounds.types (n_of world) (length world.kept.typed))

-- what a run is of that begins in a world
abbrev pub ground_of : Library → ℕ → Needs → World → Ground
ground_of library entry needs world = record {
  library = library;
  entry = entry;
  n = n_of world;
  origin = record {
    pushes = length world.kept.registers.stack;
    typed = length world.kept.typed;
    held = held_of world;
  };
  needs = needs;
}

-- what it keeps within
abbrev pub limits_in : RunBounds → World → Limits
limits_in bounds world = record {
  most = value bounds.commands (n_of world);
  size = value bounds.size (n_of world);
  grown = most_with bounds.grows (n_of world) (held_of world);
  typed = most_with bounds.types (n_of world) (length world.kept.typed);
}

-- Every run of the macro, from where its argument is pending, ends within the printed bounds, where the size may be
-- held and the needed files are open; and on the way all is as is said at the cut points.
abbrev pub IsCertain : List Node → List (Option ℕ) → Option ArgumentRange → Needs → RunBounds → List CutState → Type 0
IsCertain nodes lengths argument needs bounds cuts =
    (library : Library) (entry : ℕ) (given : Option ℕ) (world : World)
    → AreLengths lengths library → AreLinked library entry nodes → IsAsked argument given
    → IsReady library entry bounds.size (n_of world) world → AreOpen needs world.files
    → EndsBy nodes (ground_of library entry needs world) (limits_in bounds world) (IsSaid cuts (n_of world))
    (steps_before argument) (start_given entry given world)

-- The claims of a certificate hang together: every run ends within what they say, and wherever one stands at an element
-- with cut points, the claims of one of these are so.
pub record AreCertain (nodes : List Node) (lengths : List (Option ℕ)) (argument : Option ArgumentRange) (needs : Needs)
    (claimed : Claimed) : Type 0 where
  pub cuts : List CutState
  pub certain : IsCertain nodes lengths argument needs (bounds_in claimed) cuts
  pub say : SayClaims nodes claimed.cuts cuts

abbrev pub CertainEnd : Type 0
CertainEnd =
    (nodes : List Node) (lengths : List (Option ℕ)) (argument : Option ArgumentRange) (needs : Needs)
    (bounds : RunBounds) (cuts : List CutState)
    → IsCertain nodes lengths argument needs bounds cuts → EndsInTime nodes lengths argument needs bounds
