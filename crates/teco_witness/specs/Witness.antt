-- A small world on which a macro fails.
use Rattle.std.specs.Prelude.{◌≡◌, ◌≢◌, ℕ, ℤ, pos, negsuc, List, [], ◌∷◌, ◌++◌, codes, flat_map, Bool, ◌||◌, Option}
use Rattle.std.specs.Prelude.{Some, None, if◌then◌else◌}
use Rattle.teco_base.specs.NumberText.{decimal}
use Rattle.teco_base.specs.Register.{register_name}
use Rattle.teco_base.specs.declared.bytes.TheConstants.{ESC}
use Rattle.teco_base.specs.declared.code.Code as base
use Rattle.teco_model.specs.Files.{File, no_files, with_file}
use Rattle.teco_model.specs.Macros.{Library, ArgumentRange, IsAsked, Needs, call_of}
use Rattle.teco_model.specs.Registers.{with_texts}
use Rattle.teco_model.specs.Run.{Reaches, Ends}
use Rattle.teco_model.specs.State.{Kept, World, State, End, Fail, start, kept_of_store, held_length}
use Rattle.teco_model.specs.Step.{step}
use Rattle.teco_run.specs.Executions.{next_place}
use Rattle.teco_witness.specs.declared.witness.WitnessEnd.{WitnessEnd}
use Rattle.teco_witness.specs.declared.witness.WitnessEnd.TheVariants.{Code, Long}

-- the macro of a library that is refused, the arguments that it may be given, and the files that it needs
pub record Subject : Type 0 where
  pub library : Library
  pub entry : ℕ
  pub argument : Option ArgumentRange
  pub needs : Needs

-- what a register is set to before the call: its number, and its text unless that is empty
pub record Setting : Type 0 where
  pub register : ℕ
  pub number : ℤ
  pub text : List ℕ

-- The text that a macro is tried on: the buffer's, or that of an input of which the first page is read, with an output
-- open. Then what registers are set to, and the argument of the call.
pub record SmallWorld : Type 0 where
  pub text : List ℕ
  pub is_input : Bool
  pub settings : List Setting
  pub given : Option ℤ

pub record Witness : Type 0 where
  pub world : SmallWorld
  pub end : WitnessEnd

-- ---- the world before the call
-- a new editor on the text, with the texts of the library in their registers
abbrev pub kept_before : Library → SmallWorld → Kept
kept_before library w =
    let kept = kept_of_store (if w.is_input then [] else w.text) 0 in
    record kept { registers = with_texts library kept.registers }

-- the files that have names
abbrev pub named_before : SmallWorld → List File
named_before w = if w.is_input then with_file (codes "in") w.text [] else []

abbrev pub world_before : Library → SmallWorld → World
world_before library w = record { kept = kept_before library w; files = record no_files { named = named_before w } }

-- what opens the input and an output, and reads the first page, by ER, EW and Y
abbrev pub opening : List ℕ
opening = codes "ERin" ++ ESC ∷ codes "EWout" ++ ESC ∷ codes "Y"

-- what sets the text of a register, unless that is empty: ^U, the name, the text and ESC
abbrev pub text_setting : ℕ → List ℕ → List ℕ
text_setting register [] = []
text_setting register text = 21 ∷ register_name register ∷ text ++ ESC ∷ []

-- what sets a register: its number before U and the name, and then its text
abbrev pub setting_text : Setting → List ℕ
setting_text s =
    (decimal s.number ++ 85 ∷ register_name s.register ∷ []) ++ text_setting s.register s.text

-- the command string that makes all ready
abbrev pub preparation : SmallWorld → List ℕ
preparation w = (if w.is_input then opening else []) ++ flat_map setting_text w.settings

-- the argument in decimal, and the call
abbrev pub call_text : ℕ → Option ℤ → List ℕ
call_text entry None = call_of entry
call_text entry (Some n) = decimal n ++ call_of entry

-- ---- what becomes of the call
-- after some steps the next is the code, and its element stands at that place
pub record Fails (c : base.Code) (place : ℕ) (s : State) : Type 0 where
  pub steps : ℕ
  pub last : State
  pub new : World
  pub reached : Reaches steps s last
  pub failed : step last ≡ Fail c new
  pub stands : place ≡ next_place last.frames

-- so many steps are done, and it has not ended; so many characters are held then
pub record GoesOn (steps held : ℕ) (s : State) : Type 0 where
  pub last : State
  pub reached : Reaches steps s last
  pub unfinished : (new : World) → step last ≢ End new
  pub holds : held ≡ held_length last.world.kept

abbrev pub Comes : WitnessEnd → State → Type 0
Comes (Code c site) s = Fails c site.place s
Comes (Long steps held) s = GoesOn steps held s

-- ---- a witness
-- A macro is given an argument where it takes one, and then in the range; no range has a negative number.
abbrev pub IsTaken : Option ArgumentRange → Option ℤ → Type 0
IsTaken argument None = IsAsked argument None
IsTaken argument (Some (pos n)) = IsAsked argument (Some n)
IsTaken argument (Some (negsuc n)) = ⊥

-- all is ready, behind the command string that makes it so
pub record IsReady (library : Library) (w : SmallWorld) (ready : World) : Type 0 where
  pub steps : ℕ
  pub ends : Ends (start (preparation w) (world_before library w)) steps ready

-- Files are open where the macro needs any, and it is given an argument that it takes; from the small world, made
-- ready, its call comes to that end.
pub record ComesTo (subject : Subject) (w : SmallWorld) (end : WitnessEnd) : Type 0 where
  pub opened : w.is_input ≡ (subject.needs.input || subject.needs.output)
  pub taken : IsTaken subject.argument w.given
  pub ready : World
  pub made : IsReady subject.library w ready
  pub comes : Comes end (start (call_text subject.entry w.given) ready)

abbrev pub IsWitness : Subject → Witness → Type 0
IsWitness subject witness = ComesTo subject witness.world witness.end
