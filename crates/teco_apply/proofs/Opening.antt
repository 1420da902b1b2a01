-- What opens the files leaves both open, where it comes to its end and no name has an ESC.
use Rattle.teco_apply.proofs.Prelude.{◌≡◌, ◌<◌, ◌+◌, ◌-◌, ℕ, zero, suc, List, [], ◌∷◌, ◌++◌, length, take, Bool, true}
use Rattle.teco_apply.proofs.Prelude.{false, not, nat_le, Option, Some, None, IsSome, Result, Ok, Err, refl, ap, sym}
use Rattle.teco_apply.proofs.Prelude.{◌∙◌, subst, arith, option_map, BothOpen, has_esc, opening, MOST, Element}
use Rattle.teco_apply.proofs.Prelude.{element_at, Input, Output, unread, Stops, go_on, run, code_of, is_code, Kept}
use Rattle.teco_apply.proofs.Prelude.{Next, End, State, World, start, step, Kind, Stop}
use Rattle.std.proofs.Common.{drop}
use Rattle.std.proofs.Common.{◌||◌, ◌==◌, position}
use Rattle.std.proofs.Common.{length-append, append_assoc}
use Rattle.std.proofs.Math.Seq.{take-append_seam, drop-append_seam, drop-append-add}
use Rattle.std.proofs.lemmas.Bool.{le-leb, lt-leb, lt-ltb}
use Rattle.std.specs.Bool.{⊤}
use Rattle.std.specs.List.{prefix_len, position_or_len}
use Rattle.std.specs.Option.{ok_or}
use Rattle.teco_base.specs.declared.bytes.TheConstants.{ESC}
use Rattle.teco_base.specs.declared.code.Code.{Code}
use Rattle.teco_base.specs.declared.code.Code.TheVariants as code
use Rattle.teco_model.specs.Arguments.{arguments_of, levels_after_taking}
use Rattle.teco_model.specs.Checked.{◌>>=◌}
use Rattle.teco_model.specs.Element.{blank_len, blank_end, element_from, text_up_to}
use Rattle.teco_model.specs.Files.{file_named, output_of}
use Rattle.teco_model.specs.Filing.{name_apart_from, no_output, open_input, open_output, with_input}
use Rattle.teco_model.specs.Going.{frames_at, settle}
use Rattle.teco_model.specs.Letters.{letters}
use Rattle.teco_model.specs.Outside.{file_reply, going_on, opened, page_reply}
use Rattle.teco_model.specs.Pages.{first_page}
use Rattle.teco_model.specs.Paging.{files_behind_page, nothing_lost, page_taken, world_with_next_page, yank}
use Rattle.teco_model.specs.State.{Frames, Outcome, Exit, Fail, Absent}
use Rattle.teco_model.specs.Step.{end_of_text, end_outcome, outcome_at, reply_of}
use Rattle.teco_model.specs.declared.arguments.Taken.{Taken}
use Rattle.teco_model.specs.declared.kind.File.TheVariants as file
use Rattle.teco_model.specs.declared.kind.Kind.TheVariants as kind
use Rattle.teco_model.specs.declared.kind.Page.TheVariants as page
use Rattle.teco_model.specs.declared.stop.Stop.TheVariants as stop

-- ---- reading
-- a name ends at its first ESC
name_length : (name rest : List ℕ) → has_esc name ≡ false
    → prefix_len (λ b. not (b == ESC)) (name ++ ESC ∷ rest) ≡ length name
name_length [] rest plain = refl
name_length (b ∷ name) rest plain = at (b == ESC) refl plain (name_length name rest)
  where
    at : (e : Bool) → b == ESC ≡ e → (e || has_esc name) ≡ false
        → (has_esc name ≡ false → prefix_len (λ b. not (b == ESC)) (name ++ ESC ∷ rest) ≡ length name)
        → prefix_len (λ b. not (b == ESC)) (b ∷ (name ++ ESC ∷ rest)) ≡ length (b ∷ name)
    at true is plain more = absurd (cc)
    at false is plain more = rw is (omega (arith, more plain))

-- the first that passes, where it is known how many stand before it
first_at : (p : ℕ → Bool) (xs : List ℕ) (n : ℕ) → position_or_len p xs ≡ n → n < length xs → position p xs ≡ Some n
first_at p xs n is inside = rw (position, is, lt-ltb n (length xs) inside) refl

-- the text up to ESC is the name
name_cut : (name rest : List ℕ) → has_esc name ≡ false → text_up_to ESC (name ++ ESC ∷ rest) ≡ Ok (name, rest)
name_cut name rest plain =
    let long : length name < length (name ++ ESC ∷ rest) = omega (arith, length-append name (ESC ∷ rest)) in
    let found : position (λ b. b == ESC) (name ++ ESC ∷ rest) ≡ Some (length name) =
    first_at (λ b. b == ESC) (name ++ ESC ∷ rest) (length name) (name_length name rest plain) long in
    let P : Option ℕ → Type 0 = λ o. Path (Result (List ℕ × List ℕ) Code)
    (elim o [ None ↦ Err code.Utc | Some n ↦ Ok (take n (name ++ ESC ∷ rest), drop (n + 1) (name ++ ESC ∷ rest)) ])
    (Ok (name, rest)) in
    subst P (sym found) (rw (take-append_seam, drop-append-add) refl)

-- the element of a file's name
unfoldable pub named : Kind → List ℕ → ℕ → ℕ → Element
named k name place next = record {
  kind = k;
  colons = 0;
  at = false;
  text = name;
  second = [];
  place = place;
  next = next;
}

-- `ER`, `EW` and `Y` where they are read
input_read : (text : List ℕ) (place : ℕ) (name rest : List ℕ) → has_esc name ≡ false
    → drop place text ≡ 69 ∷ 82 ∷ (name ++ ESC ∷ rest)
    → element_from text place ≡ Ok (named (kind.File file.Read) name place (length text - length rest))
unfolding element_from letters named
input_read text place name rest plain is = rw (is, name_cut name rest plain) refl

output_read : (text : List ℕ) (place : ℕ) (name rest : List ℕ) → has_esc name ≡ false
    → drop place text ≡ 69 ∷ 87 ∷ (name ++ ESC ∷ rest)
    → element_from text place ≡ Ok (named (kind.File file.Write) name place (length text - length rest))
unfolding element_from letters named
output_read text place name rest plain is = rw (is, name_cut name rest plain) refl

yank_read : (text : List ℕ) (place : ℕ) → drop place text ≡ 89 ∷ []
    → element_from text place ≡ Ok (named (kind.Page page.Yank) [] place (length text - 0))
unfolding element_from letters named
yank_read text place is = rw is refl

-- an element that no blank stands before
read_at : (text : List ℕ) (place : ℕ) (e : Element) → blank_len (drop place text) ≡ 0 → place < length text
    → element_from text place ≡ Ok e → element_at text place ≡ Ok (Some e)
unfolding element_at
read_at text place e none inside from =
    let here : blank_end text place ≡ place = omega (arith, none) in
    let more : nat_le (length text) (blank_end text place) ≡ false = lt-leb _ _ (omega (arith, none)) in
    let P : Bool → Type 0 = λ b. Path (Result (Option Element) Code)
    (elim b [
      | true ↦ Ok None
      | false ↦ element_from text (blank_end text place)
          >>= (λ element. Ok (Some element))
    ]) (Ok (Some e)) in
    subst P (sym more) (rw (here, from) refl)

-- no blank stands before them
no_blank : (c : ℕ) (rest : List ℕ) → blank_len (69 ∷ c ∷ rest) ≡ 0
unfolding blank_len
no_blank c rest = refl

no_blank_last : blank_len (89 ∷ []) ≡ 0
unfolding blank_len
no_blank_last = refl

-- the end of a text
pub end_at : (text : List ℕ) → element_at text (length text) ≡ Ok None
unfolding element_at
end_at text =
    let over : nat_le (length text) (blank_end text (length text)) ≡ true = le-leb _ _ (omega arith) in
    let P : Bool → Type 0 = λ b. Path (Result (Option Element) Code)
    (elim b [
      | true ↦ Ok None
      | false ↦ element_from text (blank_end text (length text))
          >>= (λ element. Ok (Some element))
    ]) (Ok None) in
    subst P (sym over) refl

-- ---- the command string
after_source : List ℕ → List ℕ
after_source target = 69 ∷ 87 ∷ (target ++ ESC ∷ 89 ∷ [])

-- the command string from the left
parts : (source target : List ℕ) → opening source target ≡ 69 ∷ 82 ∷ (source ++ ESC ∷ after_source target)
unfolding after_source
parts source target = simp append_assoc

-- the places behind the names
pub second_place : List ℕ → ℕ
second_place source = length source + 3

pub third_place : List ℕ → List ℕ → ℕ
third_place source target = length source + 3 + (length target + 3)

-- lengths
whole_length : (source target : List ℕ) → length (opening source target) ≡ length source + 3 + (length target + 3) + 1
whole_length source target = simp length-append (omega arith)

-- what stands at the places
second_part : (source target : List ℕ) → drop (second_place source) (opening source target) ≡ after_source target
unfolding second_place
second_part source target =
    let e : 69 ∷ 82 ∷ (source ++ ESC ∷ after_source target) ≡ (69 ∷ 82 ∷ (source ++ ESC ∷ [])) ++ after_source target =
    simp append_assoc in
    let n : length (69 ∷ 82 ∷ (source ++ ESC ∷ [])) ≡ length source + 3 = omega (arith, length-append {A = ℕ}) in
    rw (parts source target, e, ← n, drop-append_seam) refl

third_part : (source target : List ℕ) → drop (third_place source target) (opening source target) ≡ 89 ∷ []
unfolding third_place after_source
third_part source target =
    let front = 69 ∷ 82 ∷ (source ++ ESC ∷ 69 ∷ 87 ∷ (target ++ ESC ∷ [])) in
    let e : 69 ∷ 82 ∷ (source ++ ESC ∷ 69 ∷ 87 ∷ (target ++ ESC ∷ 89 ∷ [])) ≡ front ++ (89 ∷ []) = simp append_assoc in
    let n : length front ≡ length source + 3 + (length target + 3) = omega (arith, length-append {A = ℕ}) in
    rw (parts source target, e, ← n, drop-append_seam) refl

tail_length : (target : List ℕ) → length (after_source target) ≡ length target + 4
unfolding after_source
tail_length target = simp length-append (omega arith)

-- what is read at the places
pub first_read : (source target : List ℕ) → has_esc source ≡ false
    → element_at (opening source target) 0 ≡ Ok (Some (named (kind.File file.Read) source 0 (second_place source)))
unfolding second_place
first_read source target plain =
    let text = opening source target in
    let long = whole_length source target in
    let is = parts source target in
    let next : length text - length (after_source target) ≡ length source + 3 =
    omega (arith, long, tail_length target) in
    let P : ℕ → Type 0 = λ n. element_at text 0 ≡ Ok (Some (named (kind.File file.Read) source 0 n)) in
    subst P next (read_at text 0 (named (kind.File file.Read) source 0 (length text - length (after_source target)))
    (ap blank_len is ∙ no_blank 82 (source ++ ESC ∷ after_source target)) (omega (arith, long))
    (input_read text 0 source (after_source target) plain is))

pub second_read : (source target : List ℕ) → has_esc target ≡ false
    → element_at (opening source target) (second_place source) ≡ Ok
    (Some (named (kind.File file.Write) target (second_place source) (third_place source target)))
unfolding second_place third_place after_source
second_read source target plain =
    let text = opening source target in
    let place = length source + 3 in
    let long = whole_length source target in
    let is : drop place text ≡ 69 ∷ 87 ∷ (target ++ ESC ∷ 89 ∷ []) = second_part source target in
    let next : length text - 1 ≡ length source + 3 + (length target + 3) = omega (arith, long) in
    let P : ℕ → Type 0 = λ n. element_at text place ≡ Ok (Some (named (kind.File file.Write) target place n)) in
    subst P next (read_at text place (named (kind.File file.Write) target place (length text - 1))
    (ap blank_len is ∙ no_blank 87 (target ++ ESC ∷ 89 ∷ [])) (omega (arith, long))
    (output_read text place target (89 ∷ []) plain is))

pub third_read : (source target : List ℕ) → element_at (opening source target) (third_place source target) ≡ Ok
    (Some (named (kind.Page page.Yank) [] (third_place source target) (length (opening source target))))
unfolding third_place
third_read source target =
    let text = opening source target in
    let place = length source + 3 + (length target + 3) in
    let long = whole_length source target in
    let is : drop place text ≡ 89 ∷ [] = third_part source target in
    let next : length text - 0 ≡ length text = omega arith in
    let P : ℕ → Type 0 = λ n. element_at text place ≡ Ok (Some (named (kind.Page page.Yank) [] place n)) in
    subst P next (read_at text place (named (kind.Page page.Yank) [] place (length text - 0))
    (ap blank_len is ∙ no_blank_last) (omega (arith, long)) (yank_read text place is))

-- ---- steps
-- at a place of a command string, with no iteration open and no macro called
pub frames_from : List ℕ → ℕ → Frames
frames_from text place = record { running = record { text = text; place = place; loops = [] }; callers = [] }

-- where the run stands, and what is open there
data Stage (source target : List ℕ) (s : State) : Type 0 where
  begins : s.frames ≡ frames_from (opening source target) 0 → Stage source target s
  reads : s.frames ≡ frames_from (opening source target) (second_place source) → IsSome s.world.files.input
      → Stage source target s
  writes : s.frames ≡ frames_from (opening source target) (third_place source target) → BothOpen s.world.files
      → Stage source target s
  ends : s.frames ≡ frames_from (opening source target) (length (opening source target)) → BothOpen s.world.files
      → Stage source target s

-- what a step comes to: a stage, or the end with both open, or what is no end
Goes : List ℕ → List ℕ → Outcome → Type 0
Goes source target (Next s) = Stage source target s
Goes source target (End world) = BothOpen world.files
Goes source target (Exit world) = ⊥
Goes source target (Fail c world) = ⊤
Goes source target (Absent world) = ⊤

-- behind an element
moved : (s : State) (text : List ℕ) (place next : ℕ) → s.frames ≡ frames_from text place
    → frames_at next s.frames ≡ frames_from text next
unfolding frames_from
moved s text place next is = ap (frames_at next) is

-- ER
input_goes : (source target : List ℕ) (s : State) → s.frames ≡ frames_from (opening source target) 0
    → Goes source target (settle (named (kind.File file.Read) source 0 (second_place source)) s
    (file_reply file.Read source s.left s.arguments s.world))
unfolding Goes named
input_goes source target s is = taken (arguments_of s.arguments.level)
  where
    e : Element
    e = named (kind.File file.Read) source 0 (second_place source)

    found : (o : Option (List ℕ)) →
        Goes source target
        (settle e s
        (Ok (opened s.left (levels_after_taking s.arguments) s.world (option_map (with_input source s.world) o))))
    found None = tt
    found (Some bytes) = Stage.reads (moved s (opening source target) 0 (second_place source) is) refl

    apart : (r : Result (Unit {0}) Code)
        → Goes source target (settle e s
        ((r >>= (λ u. Ok (option_map (with_input source s.world) (file_named source s.world.files.named))))
        >>= (λ found. Ok (opened s.left (levels_after_taking s.arguments) s.world found))))
    apart (Err c) = tt
    apart (Ok u) = found (file_named source s.world.files.named)

    taken : (r : Result Taken Code)
        → Goes source target (settle e s
        (r >>= (λ t. open_input source s.world
        >>= (λ found. Ok (opened s.left (levels_after_taking s.arguments) s.world found)))))
    taken (Err c) = tt
    taken (Ok t) = apart (name_apart_from (option_map (λ (output : Output). output.name) s.world.files.output) source)

-- EW
output_goes : (source target : List ℕ) (s : State)
    → s.frames ≡ frames_from (opening source target) (second_place source) → IsSome s.world.files.input
    → Goes source target (settle (named (kind.File file.Write) target (second_place source) (third_place source target))
    s (file_reply file.Write target s.left s.arguments s.world))
unfolding Goes named
output_goes source target s is input = taken (arguments_of s.arguments.level)
  where
    e : Element
    e = named (kind.File file.Write) target (second_place source) (third_place source target)

    with_output : World
    with_output = record s.world { files = record s.world.files { output = Some (output_of target) } }

    apart : (r : Result (Unit {0}) Code)
        → Goes source target (settle e s
        (going_on s.left (levels_after_taking s.arguments) (r >>= (λ u. Ok with_output))))
    apart (Err c) = tt
    apart (Ok u) = Stage.writes (moved s (opening source target) (second_place source) (third_place source target) is)
        (record { input = input; output = refl })

    alone : (r : Result (Unit {0}) Code)
        → Goes source target (settle e s
        (going_on s.left (levels_after_taking s.arguments)
        (r >>= (λ u. name_apart_from (option_map (λ (input : Input). input.name) s.world.files.input) target
        >>= (λ v. Ok with_output)))))
    alone (Err c) = tt
    alone (Ok u) = apart (name_apart_from (option_map (λ (input : Input). input.name) s.world.files.input) target)

    taken : (r : Result Taken Code)
        → Goes source target (settle e s
        (r >>= (λ t. going_on s.left (levels_after_taking s.arguments) (open_output target s.world))))
    taken (Err c) = tt
    taken (Ok t) = alone (no_output s.world.files.output)

-- Y
stays_open : (f : Input → Input) (input : Option Input) → IsSome input → IsSome (option_map f input)
stays_open f None is = absurd (cc)
stays_open f (Some input) is = refl

yank_goes : (source target : List ℕ) (s : State)
    → s.frames ≡ frames_from (opening source target) (third_place source target) → BothOpen s.world.files
    → Goes source target (settle (named (kind.Page page.Yank) [] (third_place source target)
    (length (opening source target))) s (page_reply page.Yank s.left s.arguments s.world))
unfolding Goes named
yank_goes source target s is both = taken (arguments_of s.arguments.level)
  where
    e : Element
    e = named (kind.Page page.Yank) [] (third_place source target) (length (opening source target))

    page : (r : Result Kept Code) →
        Goes source target
        (settle e s (going_on s.left (levels_after_taking s.arguments)
        (r >>= (λ kept. Ok (record { kept = kept; files = files_behind_page s.world.files })))))
    page (Err c) = tt
    page (Ok kept) = Stage.ends (moved s (opening source target) (third_place source target)
        (length (opening source target)) is) (record {
          input = stays_open _ s.world.files.input both.input;
          output = both.output;
        })

    saved : (r : Result (Unit {0}) Code)
        → Goes source target (settle e s
        (going_on s.left (levels_after_taking s.arguments) (r >>= (λ u. world_with_next_page s.world))))
    saved (Err c) = tt
    saved (Ok u) = page (page_taken (first_page (unread s.world.files)) s.world.kept)

    there : (r : Result Input Code)
        → Goes source target (settle e s
        (going_on s.left (levels_after_taking s.arguments)
        (r >>= (λ i. nothing_lost s.world.kept.text s.world.files.output >>= (λ u. world_with_next_page s.world)))))
    there (Err c) = tt
    there (Ok i) = saved (nothing_lost s.world.kept.text s.world.files.output)

    taken : (r : Result Taken Code)
        → Goes source target (settle e s
        (r >>= (λ t. going_on s.left (levels_after_taking s.arguments) (yank s.world))))
    taken (Err c) = tt
    taken (Ok t) = there (ok_or s.world.files.input code.Nfi)

-- what is read where the run stands
reads_at : (s : State) (text : List ℕ) (place : ℕ) (r : Result (Option Element) Code)
    → s.frames ≡ frames_from text place → element_at text place ≡ r
    → element_at s.frames.running.text s.frames.running.place ≡ r
unfolding frames_from
reads_at s text place r is read = ap (λ (f : Frames). element_at f.running.text f.running.place) is ∙ read

-- the end
end_goes : (source target : List ℕ) (s : State) (text : List ℕ) → s.frames ≡ frames_from text (length text)
    → BothOpen s.world.files → Goes source target (end_of_text s.frames.running.loops s)
unfolding Goes frames_from
end_goes source target s text is both =
    subst (λ loops. Goes source target (end_of_text loops s)) (sym (ap (λ (f : Frames). f.running.loops) is))
    (subst (λ callers. Goes source target (end_outcome callers s)) (sym (ap (λ (f : Frames). f.callers) is)) both)

-- each stage
stage_goes : (source target : List ℕ) → has_esc source ≡ false → has_esc target ≡ false → (s : State)
    → Stage source target s → Goes source target (step s)
unfolding step reply_of named
stage_goes source target plain plain' s (Stage.begins is) =
    subst (λ r. Goes source target (outcome_at s r)) (sym (reads_at s _ _ _ is (first_read source target plain)))
    (input_goes source target s is)
stage_goes source target plain plain' s (Stage.reads is input) =
    subst (λ r. Goes source target (outcome_at s r)) (sym (reads_at s _ _ _ is (second_read source target plain')))
    (output_goes source target s is input)
stage_goes source target plain plain' s (Stage.writes is both) =
    subst (λ r. Goes source target (outcome_at s r)) (sym (reads_at s _ _ _ is (third_read source target)))
    (yank_goes source target s is both)
stage_goes source target plain plain' s (Stage.ends is both) =
    subst (λ r. Goes source target (outcome_at s r)) (sym (reads_at s _ _ _ is (end_at (opening source target))))
    (end_goes source target s (opening source target) is both)

-- ---- the run
goes_on : (source target : List ℕ) → ((s : State) → Stage source target s → Goes source target (step s)) → (o : Outcome)
    → Goes source target o → Goes source target (go_on o)
unfolding Goes
goes_on source target steps (Next s) is = steps s is
goes_on source target steps (End world) is = is
goes_on source target steps (Exit world) is = is
goes_on source target steps (Fail c world) is = tt
goes_on source target steps (Absent world) is = tt

run_goes : (source target : List ℕ) → ((s : State) → Stage source target s → Goes source target (step s))
    → (old : World) (n : ℕ) → Goes source target (run n (start (opening source target) old))
unfolding run Goes frames_from
run_goes source target steps old zero = Stage.begins refl
run_goes source target steps old (suc n) = goes_on source target steps (run n (start (opening source target) old))
    (run_goes source target steps old n)

-- where it comes to its end, both are open
pub opens_both : (source target : List ℕ) → has_esc source ≡ false → has_esc target ≡ false
    → (old : World) (answer : Stop) (new : World) → Stops (start (opening source target) old) MOST answer new
    → is_code (code_of answer) ≡ false → BothOpen new.files
unfolding Goes
opens_both source target plain plain' old (stop.Ended n) new stops is =
    let steps = stage_goes source target plain plain' in
    let ends = stops.1 in
    let last = subst (Goes source target) ends.steps (run_goes source target steps old n) in
    subst (Goes source target) ends.end (steps ends.last last)
opens_both source target plain plain' old (stop.Exit n) new stops is =
    let steps = stage_goes source target plain plain' in
    let exits = stops.1 in
    let last = subst (Goes source target) exits.steps (run_goes source target steps old exits.before) in
    absurd (subst (Goes source target) exits.exit (steps exits.last last))
opens_both source target plain plain' old (stop.Error c) new stops is = absurd (cc)
opens_both source target plain plain' old stop.Limit new stops is = absurd (cc)
opens_both source target plain plain' old stop.Memory new stops is = absurd (cc)
opens_both source target plain plain' old (stop.HostFault fault) new stops is = absurd (cc)
