-- Each step changes the text of the world by what is told of its element.
use Rattle.std.specs.Prelude.{◌≡◌, ◌≢◌, ℕ, List, [], Bool, true, false, Option, Some, None, is_some, Ok}
use Rattle.std.specs.List.{AllByRecursion}
use Rattle.teco_changes.specs.Arguments.{IsSo, behind}
use Rattle.teco_changes.specs.Elements.{changes_of, changes_with}
use Rattle.teco_changes.specs.Nearby.{IsNear, Nearby, Unreached, near_behind}
use Rattle.teco_changes.specs.Worlds.{IsChangedBy, text_of}
use Rattle.teco_changes.specs.declared.argument.NumericArgument.{NumericArgument}
use Rattle.teco_changes.specs.declared.change.Change.{Change}
use Rattle.teco_law_runs.specs.Steps.{IsLeftAt, is_long}
use Rattle.teco_law_runs.specs.Was.{StepWas}
use Rattle.teco_model.specs.Arguments.{Arguments}
use Rattle.teco_model.specs.Element.{Element, element_at}
use Rattle.teco_model.specs.Search.{search_text_of}
use Rattle.teco_model.specs.Searching.{has_colon}
use Rattle.teco_model.specs.State.{State, Next, frame_of}
use Rattle.teco_model.specs.Step.{step}
use Rattle.teco_model.specs.declared.arguments.Level.{Level}
use Rattle.teco_model.specs.declared.kind.Argument.TheVariants.{Comma}
use Rattle.teco_model.specs.declared.kind.Kind.{Kind}
use Rattle.teco_model.specs.declared.kind.Kind.TheVariants as kind
use Rattle.teco_model.specs.declared.kind.MachineValue.TheVariants.{LastText, Whole}
use Rattle.teco_model.specs.declared.kind.Search.{Search}
use Rattle.teco_model.specs.laws.Whole.{IsWholeState}

-- what is read can do so much at most, behind two arguments or not; the end of a text does nothing
abbrev pub told_of : Option Element → Bool → Option (List Change)
told_of None ranged = Some []
told_of (Some e) ranged = changes_of e ranged

-- is a first argument pending?
abbrev pub is_ranged : State → Bool
is_ranged s = is_some s.arguments.level.first

-- what is read where a state stands
abbrev pub Reads : State → Option Element → Type 0
Reads s read = element_at s.frames.running.text s.frames.running.place ≡ Ok read

-- Where an element goes on, it is one of several steps, and a search still looks for its own text.
pub record GoesOn (s : State) : Type 0 where
  pub element : Element
  pub reads : Reads s (Some element)
  pub long : is_long element.kind ≡ true
  pub looks :
      (x : Search) → element.kind ≡ kind.Search x
      → search_text_of element.text s.world.kept ≡ s.world.kept.search_text

abbrev pub IsUnderway : State → Type 0
IsUnderway s = (n : ℕ) → s.left ≡ Some n → GoesOn s

abbrev pub StepsAreTold : Type 0
StepsAreTold =
    (s t : State) (read : Option Element)
    → IsWholeState s → IsUnderway s → Reads s read → step s ≡ Next t
    → IsChangedBy (told_of read (is_ranged s)) (text_of s.world) (text_of t.world)

-- Each step leaves it so.
abbrev pub StepsGoOn : Type 0
StepsGoOn =
    (s t : State) (read : Option Element) → IsUnderway s → Reads s read → step s ≡ Next t → IsUnderway t

-- A comma, H and ^Y give a first argument.
abbrev pub gives_first : Kind → Bool
gives_first (kind.Argument Comma) = true
gives_first (kind.Value Whole) = true
gives_first (kind.Value LastText) = true
gives_first k = false

abbrev pub gives_first_in : Option Element → Bool
gives_first_in None = false
gives_first_in (Some e) = gives_first e.kind

-- none is pending, at any level
pub record HaveNoFirst (arguments : Arguments) : Type 0 where
  pub level : arguments.level.first ≡ None
  pub outer : AllByRecursion (λ (level : Level). level.first ≡ None) arguments.outer

abbrev pub StepsGiveNoFirst : Type 0
StepsGiveNoFirst =
    (s t : State) (read : Option Element)
    → gives_first_in read ≡ false → HaveNoFirst s.arguments → Reads s read → step s ≡ Next t
    → HaveNoFirst t.arguments

-- What is known of the numeric argument is so where an element begins; where it goes on, what is known behind it.
pub record IsKnown (read : Option Element) (before : NumericArgument) (s : State) : Type 0 where
  pub begins : s.left ≡ None → IsSo before s.arguments.level
  pub goes_on : (n : ℕ) → s.left ≡ Some n → IsSo (behind read before) s.arguments.level

abbrev pub StepsLeaveArguments : Type 0
StepsLeaveArguments =
    (s t : State) (read : Option Element) (before : NumericArgument)
    → IsLeftAt read s.left → IsKnown read before s → Reads s read → step s ≡ Next t
    → IsSo (behind read before) t.arguments.level

-- what counts as a colon at an element that is read in a text
abbrev pub colon_in : Option Element → List ℕ → Bool
colon_in None text = false
colon_in (Some e) text = has_colon e (frame_of text)

-- A run comes there, and where an element begins, what is known near the pointer is so.
pub record IsKnownNear (near : Nearby) (s : State) : Type 0 where
  pub reached : near ≢ Unreached
  pub begins : s.left ≡ None → IsNear near s.arguments.level s.world.kept

-- Behind it that is so, by the way that the step goes.
abbrev pub StepsLeaveNear : Type 0
StepsLeaveNear =
    (s t : State) (read : Option Element) (way : ℕ) (before : NumericArgument) (near : Nearby)
    → IsWholeState s → IsUnderway s → IsLeftAt read s.left → IsKnown read before s → IsKnownNear near s → Reads s read
    → StepWas read way s t
    → IsNear (near_behind read (colon_in read s.frames.running.text) way before near) t.arguments.level t.world.kept

-- what is read can do so much where that is known
abbrev pub told_with : Option Element → Bool → NumericArgument → Nearby → Option (List Change)
told_with None ranged before near = Some []
told_with (Some e) ranged before near = changes_with e ranged before near

abbrev pub StepsAreToldWith : Type 0
StepsAreToldWith =
    (s t : State) (read : Option Element) (ranged : Bool) (before : NumericArgument) (near : Nearby)
    → IsWholeState s → IsUnderway s → (is_ranged s ≡ true → ranged ≡ true)
    → IsLeftAt read s.left → IsKnown read before s → IsKnownNear near s → Reads s read → step s ≡ Next t
    → IsChangedBy (told_with read ranged before near) (text_of s.world) (text_of t.world)
