-- A step goes one of the ways from where it stands, or stays at an element of several steps.
use Rattle.std.specs.Prelude.{◌≡◌, ℕ, List, Bool, true, false, Option, Some, None, ⊤, Ok, slice_get}
use Rattle.teco_model.specs.declared.kind.Kind.{Kind}
use Rattle.teco_model.specs.declared.kind.Kind.TheVariants as kind
use Rattle.teco_model.specs.declared.kind.Page.TheVariants as page
use Rattle.teco_model.specs.declared.kind.Search.TheVariants as search
use Rattle.teco_model.specs.Element.{Element}
use Rattle.teco_model.specs.State.{State, Next}
use Rattle.teco_model.specs.Step.{step}
use Rattle.teco_model.specs.Macros.{Library, IsLoaded}
use Rattle.teco_verifier.specs.expansion.Position.{Position, position_of}
use Rattle.teco_law_runs.specs.Was.{StepWas}
use Rattle.teco_verifier.specs.expansion.Ways.{read_at, ways_at}

-- P, PW, N and FN may take several steps.
abbrev pub is_long : Kind → Bool
is_long (kind.Page page.Next) = true
is_long (kind.Page page.Write) = true
is_long (kind.Search search.FindInPages) = true
is_long (kind.Search search.ReplaceInPages) = true
is_long k = false

-- Work is left at such an element alone.
abbrev pub IsLeftAt : Option Element → Option ℕ → Type 0
IsLeftAt read None = ⊤
IsLeftAt None (Some n) = ⊥
IsLeftAt (Some e) (Some n) = is_long e.kind ≡ true

-- A step went a way, and nothing is left to do.
pub record Goes (read : Option Element) (ways : List Position) (s t : State) : Type 0 where
  pub done : t.left ≡ None
  pub way : ℕ
  pub leads : slice_get ways way ≡ Some (position_of t)
  pub was : StepWas read way s t

-- A step was not the last one at its element.
pub record Stays (read : Option Element) (s t : State) : Type 0 where
  pub n : ℕ
  pub left : t.left ≡ Some n
  pub same : t.frames ≡ s.frames
  pub long : IsLeftAt read t.left

-- what a step from a position does
pub data Moves (read : Option Element) (ways : List Position) (s t : State) : Type 0 where
  Went : Goes read ways s t → Moves read ways s t
  Stayed : Stays read s t → Moves read ways s t

-- Each step from a position does that, where the library's registers hold its texts.
abbrev pub StepsGoWays : Type 0
StepsGoWays =
    (library : Library) (s t : State) (read : Option Element) (ways : List Position)
    → IsLoaded library s.world.kept → IsLeftAt read s.left
    → read_at (position_of s) ≡ Ok read → ways_at library read (position_of s) ≡ Ok ways
    → step s ≡ Next t → Moves read ways s t
