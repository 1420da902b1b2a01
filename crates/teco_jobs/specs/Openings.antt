-- How files are opened and read for the run of a macro: by command strings, one after another.
use Rattle.std.specs.Prelude.{ℕ, ◌≡◌, ◌⊎◌, List, [], ◌∷◌, ◌++◌, Bool, true, false, Option, Some, None, Err}
use Rattle.teco_apply.specs.Sure.{MOST}
use Rattle.teco_base.specs.declared.code.Code.{Code}
use Rattle.teco_filing.specs.Worlds.{is_some_byte}
use Rattle.teco_model.specs.Paging.{unread}
use Rattle.teco_model.specs.Run.{Stops}
use Rattle.teco_model.specs.State.{World, start}
use Rattle.teco_model.specs.declared.stop.Stop.{Stop}
use Rattle.teco_options.specs.declared.editing.PageChoice.{PageChoice}
use Rattle.teco_options.specs.declared.editing.PageChoice.TheVariants.{First, Each, Whole}
use Rattle.teco_run.specs.Unread.{TellsIfUnread}
use Rattle.teco_tools.specs.Codes.{code_at}

-- a command string was run, within so many steps, and this code came of it, or none
abbrev pub Runs : ℕ → List ℕ → Option Code → World → World → Type 0
Runs most text code old new = (answer : Stop) × Stops (start text old) most answer new × (code_at answer ≡ code)

-- R was done, and where no code came of it S
abbrev pub Then : (R S : Option Code → World → World → Type 0) → Option Code → World → World → Type 0
Then R S code old new =
    ((c : Code) × (code ≡ Some c) × R code old new) ⊎ ((mid : World) × R None old mid × S code mid new)

-- ER, the name, ESC, EW, the other name, ESC, Y
abbrev pub opening : List ℕ → List ℕ → List ℕ
opening source target = 69 ∷ 82 ∷ source ++ 27 ∷ 69 ∷ 87 ∷ target ++ 27 ∷ 89 ∷ []

-- ZJ, 12I, ESC, A: the next page is added, behind a form feed
abbrev pub joining : List ℕ
joining = 90 ∷ 74 ∷ 49 ∷ 50 ∷ 73 ∷ 27 ∷ 65 ∷ []

-- J
abbrev pub to_start : List ℕ
to_start = 74 ∷ []

abbrev pub is_unread : World → Bool
is_unread world = is_some_byte (unread world.files)

-- a command string was run where bytes were unread, or it was not told whether they were
abbrev pub Turns : List ℕ → Option Code → World → World → Type 0
Turns text code old new = ((is_unread old ≡ true) × Runs MOST text code old new)
    ⊎ ((answer : Stop) × TellsIfUnread old new (Err answer) × (code_at answer ≡ code))

-- or it was not, since none were
abbrev pub TurnsIfAny : List ℕ → Option (Option Code) → World → World → Type 0
TurnsIfAny text None old new = (is_unread old ≡ false) × (new ≡ old)
TurnsIfAny text (Some code) old new = Turns text code old new

-- pages were added while there were any
pub data AddsPages (old : World) : World → Type 0 where
  just_first : AddsPages old old
  one_more : (mid new : World) → AddsPages old mid → Turns joining None mid new → AddsPages old new

-- All pages were added, and the pointer went to the start; or a code came of the next.
abbrev pub AddsAll : Option Code → World → World → Type 0
AddsAll code old new =
    (last : World) × AddsPages old last
    × (((is_unread last ≡ false) × Runs MOST to_start code last new)
    ⊎ ((c : Code) × (code ≡ Some c) × Turns joining code last new))

-- The files were opened and the first page was read, or all of them as one.
abbrev pub Opens : PageChoice → List ℕ → List ℕ → Option Code → World → World → Type 0
Opens First source target = Runs MOST (opening source target)
Opens Each source target = Runs MOST (opening source target)
Opens Whole source target = Then (Runs MOST (opening source target)) AddsAll
