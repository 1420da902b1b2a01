-- The ends of command strings, step by step.
use Rattle.std.proofs.Common.{◌≡◌, ◌≤◌, ◌+◌, ℕ, suc, ℤ, pos, List, [], ◌∷◌, ◌++◌, codes, length}
use Rattle.std.proofs.Common.{false, Option, Some, None, Result, Ok, refl, ap, ◌∙◌, subst, arith}
use Rattle.std.proofs.Common.{length-append}
use Rattle.std.proofs.lemmas.Bool.{le-leb}
use Rattle.std.specs.Int.{int_wrap}
use Rattle.std.specs.Option.{ok_or, option_map_or}
use Rattle.teco_base.specs.declared.TheConstants.{LIMIT}
use Rattle.teco_base.specs.declared.bytes.TheConstants.{ESC}
use Rattle.teco_base.specs.declared.code.Code.{Code}
use Rattle.teco_base.specs.declared.code.Code.TheVariants as code
use Rattle.teco_law_edits.specs.Texts.{CopyingEnds, GatheringEnds, GoingEnds, TurningEnds, at_start, gathered}
use Rattle.teco_law_edits.specs.Texts.{more_text, next_page}
use Rattle.teco_model.specs.Arguments.{no_arguments}
use Rattle.teco_model.specs.Checked.{◌>>=◌}
use Rattle.teco_model.specs.Element.{Element, element_at, element_from, blank_len}
use Rattle.teco_model.specs.Files.{Input, Output}
use Rattle.teco_model.specs.Filing.{world_copied}
use Rattle.teco_model.specs.Going.{frames_at, settle}
use Rattle.teco_model.specs.Letters.{letters}
use Rattle.teco_model.specs.Outside.{going_on}
use Rattle.teco_model.specs.Pages.{first_page}
use Rattle.teco_model.specs.Paging.{unread}
use Rattle.teco_model.specs.Run.{Ends, Reaches, go_on, run}
use Rattle.teco_model.specs.State.{Next, End, State, World, frames_of, start}
use Rattle.teco_model.specs.Step.{outcome_at, reply_of, step}
use Rattle.teco_model.specs.declared.kind.Argument.TheVariants as argument
use Rattle.teco_model.specs.declared.kind.Command.TheVariants as command
use Rattle.teco_model.specs.declared.kind.File.TheVariants as file
use Rattle.teco_model.specs.declared.kind.Insertion.TheVariants as insertion
use Rattle.teco_model.specs.declared.kind.Kind.{Kind}
use Rattle.teco_model.specs.declared.kind.Kind.TheVariants as kind
use Rattle.teco_model.specs.declared.kind.Motion.TheVariants as motion
use Rattle.teco_model.specs.declared.kind.Page.TheVariants as page
use Rattle.teco_model.specs.declared.kind.MachineValue.TheVariants as value

-- an element of no text
plain : Kind → ℕ → ℕ → Element
plain k place next = record { kind = k; colons = 0; at = false; text = []; second = []; place = place; next = next }

-- a state in a command string
unfoldable pub within : List ℕ → ℕ → World → State
within text place world = record (start text world) { frames = frames_at place (frames_of text) }

one_step : (s t : State) → step s ≡ Next t → (new : World) → step t ≡ End new → Ends s 1 new
unfolding run
one_step s t steps new ends = record { last = t; steps = steps; end = ends }

-- ---- EC
copy_read : element_at (codes "EC") 0 ≡ Ok (Some (plain (kind.File file.Copy) 0 2))
unfolding element_at element_from letters plain blank_len
copy_read = refl

copy_over : element_at (codes "EC") 2 ≡ Ok None
unfolding element_at element_from letters blank_len
copy_over = refl

copy_steps : (world : World) (output : Output) → world.files.output ≡ Some output
    → step (start (codes "EC") world) ≡ Next (within (codes "EC") 2 (world_copied world))
unfolding step reply_of plain within
copy_steps world output is =
    ap (outcome_at (start (codes "EC") world)) copy_read
    ∙ ap (λ (r : Result Output Code). settle (plain (kind.File file.Copy) 0 2) (start (codes "EC") world)
    (going_on None no_arguments (r >>= (λ o. Ok (world_copied world))))) (ap (λ o. ok_or o code.Nfo) is)

copy_ends : (world : World) → step (within (codes "EC") 2 world) ≡ End world
unfolding step within
copy_ends world = ap (outcome_at (within (codes "EC") 2 world)) copy_over

pub copying : CopyingEnds
copying world output is =
    one_step (start (codes "EC") world) (within (codes "EC") 2 (world_copied world)) (copy_steps world output is)
    (world_copied world) (copy_ends (world_copied world))

-- ---- P
turn_read : element_at (codes "P") 0 ≡ Ok (Some (plain (kind.Page page.Next) 0 1))
unfolding element_at element_from letters plain blank_len
turn_read = refl

turn_over : element_at (codes "P") 1 ≡ Ok None
unfolding element_at element_from letters blank_len
turn_over = refl

turn_steps : (world : World) (output : Output) → world.files.output ≡ Some output
    → length (first_page (unread world.files)).text ≤ LIMIT
    → step (start (codes "P") world) ≡ Next (within (codes "P") 1 (next_page world))
unfolding step reply_of plain within
turn_steps world output is fits =
    ap (outcome_at (start (codes "P") world)) turn_read ∙ rw (is, le-leb _ _ fits) refl

turn_ends : (world : World) → step (within (codes "P") 1 world) ≡ End world
unfolding step within
turn_ends world = ap (outcome_at (within (codes "P") 1 world)) turn_over

pub turning : TurningEnds
turning world output is fits =
    one_step (start (codes "P") world) (within (codes "P") 1 (next_page world)) (turn_steps world output is fits)
    (next_page world) (turn_ends (next_page world))

-- ---- J
jump_read : element_at (codes "J") 0 ≡ Ok (Some (plain (kind.Command (command.Motion motion.To)) 0 1))
unfolding element_at element_from letters plain blank_len
jump_read = refl

jump_over : element_at (codes "J") 1 ≡ Ok None
unfolding element_at element_from letters blank_len
jump_over = refl

jump_steps : (world : World) → step (start (codes "J") world) ≡ Next (within (codes "J") 1 (at_start world))
unfolding step reply_of plain within
jump_steps world =
    ap (outcome_at (start (codes "J") world)) jump_read ∙ rw (le-leb 0 (length world.kept.text) (omega arith)) refl

jump_ends : (world : World) → step (within (codes "J") 1 world) ≡ End world
unfolding step within
jump_ends world = ap (outcome_at (within (codes "J") 1 world)) jump_over

pub going : GoingEnds
going world = one_step (start (codes "J") world) (within (codes "J") 1 (at_start world)) (jump_steps world)
    (at_start world) (jump_ends (at_start world))

-- ---- ZJ12I and A
gather : List ℕ
gather = codes "ZJ12I" ++ ESC ∷ codes "A"

size_read : element_at gather 0 ≡ Ok (Some (plain (kind.Value value.Size) 0 1))
unfolding element_at element_from letters plain blank_len gather
size_read = refl

to_read : element_at gather 1 ≡ Ok (Some (plain (kind.Command (command.Motion motion.To)) 1 2))
unfolding element_at element_from letters plain blank_len gather
to_read = refl

digits_read : element_at gather 2 ≡ Ok (Some (record (plain (kind.Argument argument.Digits) 2 4) { text = codes "12" }))
unfolding element_at element_from letters plain blank_len gather
digits_read = refl

insert_read : element_at gather 4 ≡ Ok (Some (plain (kind.Command (command.Insertion insertion.Text)) 4 6))
unfolding element_at element_from letters plain blank_len gather
insert_read = refl

append_read : element_at gather 6 ≡ Ok (Some (plain (kind.Page page.Append) 6 7))
unfolding element_at element_from letters plain blank_len gather
append_read = refl

gather_over : element_at gather 7 ≡ Ok None
unfolding element_at element_from letters blank_len gather
gather_over = refl

-- a number is pending
pending : ℤ → State → State
pending n s =
    record s { arguments = record { level = record { first = None; value = Some n; operator = None }; outer = [] } }

at_end : World → World
at_end world = record world { kept = record world.kept { pointer = length world.kept.text } }

parted : World → World
parted world = record world {
  kept = record world.kept {
    text = more_text world;
    pointer = length world.kept.text + 1;
    last_length = 1;
  };
}

size_steps : (world : World) → step (start gather world) ≡ Next
    (pending (pos (length world.kept.text)) (within gather 1 world))
unfolding step reply_of plain within pending
size_steps world = ap (outcome_at (start gather world)) size_read

to_steps : (world : World)
    → step (pending (pos (length world.kept.text)) (within gather 1 world)) ≡ Next (within gather 2 (at_end world))
unfolding step reply_of plain within pending at_end
to_steps world =
    ap (outcome_at (pending (pos (length world.kept.text)) (within gather 1 world))) to_read
    ∙ rw (le-leb (length world.kept.text) (length world.kept.text) (omega arith)) refl

digits_steps : (world : World) → step (within gather 2 world) ≡ Next (pending (pos 12) (within gather 4 world))
unfolding step reply_of plain within pending gather int_wrap
digits_steps world = ap (outcome_at (within gather 2 world)) digits_read

insert_steps : (world : World) → length (more_text world) ≤ LIMIT
    → step (pending (pos 12) (within gather 4 (at_end world))) ≡ Next (within gather 6 (parted world))
unfolding step reply_of plain within pending at_end parted
insert_steps world fits =
    ap (outcome_at (pending (pos 12) (within gather 4 (at_end world)))) insert_read ∙ rw (le-leb _ _ fits) refl

append_steps : (world : World) (input : Input) (byte : ℕ) (bytes : List ℕ)
    → world.files.input ≡ Some input → input.unread ≡ byte ∷ bytes
    → length (more_text world ++ (first_page (unread world.files)).text) ≤ LIMIT
    → step (within gather 6 (parted world)) ≡ Next (within gather 7 (gathered world))
unfolding step reply_of plain within parted
append_steps world input byte bytes is some fits =
    let is_unread : unread world.files ≡ byte ∷ bytes =
    ap (λ (input : Option Input). option_map_or (λ (i : Input). i.unread) input []) is ∙ some in
    let short = subst (λ bytes. length (more_text world ++ (first_page bytes).text) ≤ LIMIT) is_unread fits in
    ap (outcome_at (within gather 6 (parted world))) append_read ∙ rw (is, some, le-leb _ _ short) refl

gather_ends : (world : World) → step (within gather 7 world) ≡ End world
unfolding step within
gather_ends world = ap (outcome_at (within gather 7 world)) gather_over

-- steps one after another
pub one_more : (n : ℕ) (s t u : State) → Reaches n s t → step t ≡ Next u → Reaches (suc n) s u
unfolding run
one_more n s t u reached steps = ap go_on reached ∙ steps

pub at_once : (s : State) → Reaches 0 s s
unfolding run
at_once s = refl

pub gathering : GatheringEnds
unfolding gather
gathering world input byte bytes is some fits = record {
  last = within gather 7 (gathered world);
  steps = one_more 4 first _ _ (one_more 3 first _ _
      (one_more 2 first _ _ (one_more 1 first _ _ (one_more 0 first first _ (at_once first)
      (size_steps world)) (to_steps world)) (digits_steps (at_end world))) (insert_steps world short))
      (append_steps world input byte bytes is some fits);
  end = gather_ends (gathered world);
}
  where
    first : State
    first = start gather world

    short : length (more_text world) ≤ LIMIT
    short = omega (arith, fits, length-append (more_text world) (first_page (unread world.files)).text)
