-- Pages.
use Rattle.teco_search_outcomes.proofs.Prelude.{◌≡◌, ℕ, zero, suc, ◌+◌, ◌==◌, ◌<◌, ◌≤◌, inl, inr, ℤ, pos, List, [], ◌∷◌}
use Rattle.teco_search_outcomes.proofs.Prelude.{◌++◌, length, length-append, Bool, true, false, is_some, Option, Some}
use Rattle.teco_search_outcomes.proofs.Prelude.{None, option_map, Result, Ok, Err, refl, sym, ap, if◌then◌else◌, nat_le}
use Rattle.teco_search_outcomes.proofs.Prelude.{unwrap_or, subst, ◌∙◌, arith, nat_tests, ints, get_or_append_left, All}
use Rattle.teco_search_outcomes.proofs.Prelude.{Any, ok_or, option_map_or, is_line_end, line_place, LIMIT, FF, Code}
use Rattle.teco_search_outcomes.proofs.Prelude.{Term, Valuation, value, Arguments, levels_after_taking, ◌>>=◌, Element}
use Rattle.teco_search_outcomes.proofs.Prelude.{Input, Output, before_form_feed, behind_first_page, behind_form_feed}
use Rattle.teco_search_outcomes.proofs.Prelude.{first_page, kept_with_page, needed_output, page_turned, page_written}
use Rattle.teco_search_outcomes.proofs.Prelude.{append, unread, yank, files_behind_page, page_of_buffer}
use Rattle.teco_search_outcomes.proofs.Prelude.{world_after_writing, written_page, going_on, Kept, State, World}
use Rattle.teco_search_outcomes.proofs.Prelude.{outcome_at, reply_of, step, IsWhole, Case, TakenForms, One, Single}
use Rattle.teco_search_outcomes.proofs.Prelude.{Steps, Pointer, Size, Held, LineEnd, LineStart, LastLength, CodeHere}
use Rattle.teco_search_outcomes.proofs.Prelude.{CodeBefore, Typed, EntryHeld, Outcomes, Places, value_if, IsTaken}
use Rattle.teco_search_outcomes.proofs.Prelude.{taken_by}
use Rattle.teco_search_outcomes.proofs.Prelude.{Describe, Succeeds, changed, Origin, Point, IsTrueOf, Describes, single}
use Rattle.teco_search_outcomes.proofs.Prelude.{code_here, code_before, with_codes, IsEnd, above_or, ends}
use Rattle.teco_search_outcomes.proofs.Prelude.{line_begin, line_end, one_begin, IsChangedFrom, IsTold, read_given}
use Rattle.teco_search_outcomes.proofs.Prelude.{with_page, Goes, StepsTo, point_of, unread_in, PageLaw, Writes}
use Rattle.teco_search_outcomes.proofs.Prelude.{changes_plainly, changes_singles}
use Rattle.teco_base.specs.declared.code.Code.TheVariants as code
use Rattle.teco_linear.specs.Implied as linear
use Rattle.teco_model.specs.Arguments.{arguments_of}
use Rattle.teco_model.specs.Files.{Files}
use Rattle.teco_model.specs.Paging.{one_page_of, pages}
use Rattle.teco_model.specs.Paging.{appended, nothing_lost}
use Rattle.teco_model.specs.Paging.{Progress, fitting}
use Rattle.teco_model.specs.Paging as paging
use Rattle.teco_model.specs.Places.{characters_of, place_in, span_between}
use Rattle.teco_model.specs.Going as going
use Rattle.teco_model.specs.Outside.{in_pages, page_reply, pages_reply, while_left}
use Rattle.teco_model.specs.declared.arguments.Taken as model
use Rattle.teco_model.specs.declared.kind.Kind.TheVariants as kind
use Rattle.teco_model.specs.declared.kind.Page.{Page}
use Rattle.teco_rows.specs.Commands.{commanded}
use Rattle.teco_rows.specs.Foretold.{IsOne}
use Rattle.teco_rows.proofs.Giving.{describes_one}
use Rattle.teco_rows.proofs.Lines.{end_least}
use Rattle.teco_search_outcomes.specs.declared.pages.TheConstants.{APPENDED, EMPTIED, STAYS, TURNED}
use Rattle.teco_motion_outcomes.specs.Changes.{IsChanged}
use Rattle.teco_motion_outcomes.specs.Motions.{IsPlace}
use Rattle.teco_search_outcomes.specs.Pages.{AreTold, IsDoneAtOnce, IsOnce, IsOpenFor, IsPaged, Reads, TurnsPage}
use Rattle.teco_search_outcomes.specs.Pages.{with_next_page}
use Rattle.teco_motion_outcomes.proofs.Moving.{place_there}

-- ---- how long a page is, and what is behind it
pub record IsSplit (page rest all : ℕ) : Type 0 where
  pub within : page + rest ≤ all
  pub most : all ≤ page + rest + 1
  pub less : 1 ≤ all → rest + 1 ≤ all

split_if : (x : Bool) (b : ℕ) (bytes : List ℕ)
    → IsSplit (length (before_form_feed bytes)) (length (behind_form_feed bytes)) (length bytes)
    → IsSplit (length (if x then [] else b ∷ before_form_feed bytes))
    (length (if x then bytes else behind_form_feed bytes)) (suc (length bytes))
split_if true b bytes is = record { within = omega arith; most = omega arith; less = λ h. omega arith }
split_if false b bytes is = record {
  within = omega (arith, is.within);
  most = omega (arith, is.most);
  less = λ h. omega (arith, is.within);
}

pub split : (bytes : List ℕ)
    → IsSplit (length (before_form_feed bytes)) (length (behind_form_feed bytes)) (length bytes)
split [] = record { within = omega arith; most = omega arith; less = λ h. absurd (omega arith) }
split (b ∷ bytes) = split_if (b == FF) b bytes (split bytes)

-- ---- what is unread
pub unread_there : (o : Option Input) → unread_in o ≡ length (option_map_or (λ (input : Input). input.unread) o [])
unread_there None = refl
unread_there (Some input) = refl

pub behind_there : (o : Option Input)
    → unread_in (option_map (λ (input : Input). record input { unread = behind_first_page input.unread }) o)
    ≡ length (behind_first_page (option_map_or (λ (input : Input). input.unread) o []))
behind_there None = refl
behind_there (Some input) = refl

-- a text goes on behind another, before which nothing changes
here_joined : (text added : List ℕ) (k : ℕ) → k < length text → code_here (text ++ added) k ≡ code_here text k
here_joined [] added k h = absurd (omega arith)
here_joined (c ∷ text) added zero h = refl
here_joined (c ∷ text) added (suc k) h = here_joined text added k (omega arith)

before_joined : (text added : List ℕ) (p : ℕ) → p ≤ length text
    → code_before (text ++ added) p ≡ code_before text p
before_joined text added zero h = refl
before_joined text added (suc p) h = here_joined text added p (omega arith)

-- ---- the next page in the place of the buffer
abbrev unknowns_of : List ℕ → ℕ → ℤ
unknowns_of bytes zero = pos (length (before_form_feed bytes))
unknowns_of bytes (suc zero) = pos (length (behind_form_feed bytes))
unknowns_of bytes (suc (suc i)) = pos (line_place (before_form_feed bytes) 0 (pos 1))

module _ (s : Point) (bytes : List ℕ) (same : s.unread ≡ length bytes) where
  abbrev kept : Kept
  kept = kept_with_page (first_page bytes) s.kept

  abbrev rest : ℕ
  rest = length (behind_first_page bytes)

  start : line_place (before_form_feed bytes) 0 (pos 0) ≤ 0
  start = (line_begin (before_form_feed bytes) 0).before

  end : line_place (before_form_feed bytes) 0 (pos 1) ≤ length (before_form_feed bytes)
  end = (line_end (before_form_feed bytes) 0 (omega arith)).within

  turned_describes : (n : ℕ) (v : Valuation) (case made : Case) → 1 ≤ length bytes → IsChanged case TURNED [] made
      → IsTrueOf n v case s → Describes n made (with_next_page s bytes)
  turned_describes n v case made some changes true_of =
      changes n v s kept rest (with_codes kept.text kept.pointer (unknowns_of bytes)) true_of (λ here.
      changes_singles TURNED (read_given [] n v s (with_codes kept.text kept.pointer (unknowns_of bytes)) here) s kept
      rest refl refl (
        omega (arith, ints),
        (
          omega (arith, ints),
          (
            omega (arith, ints),
            (
              omega (arith, ints, parts.less some, same),
              (
                omega (arith, ints, parts.within, same),
                (
                  omega (arith, ints, parts.most, same),
                  (
                    omega (arith, ints),
                    (omega (arith, ints, end), tt),
                  ),
                ),
              ),
            ),
          ),
        ),
      ) (singles here)) where
        parts : IsSplit (length (before_form_feed bytes)) (length (behind_form_feed bytes)) (length bytes)
        parts = split bytes

        singles : (here : Places) (which : Single) → Some (single (with_page s kept rest) which)
            ≡ changed TURNED (read_given [] n v s (with_codes kept.text kept.pointer (unknowns_of bytes)) here)
            (One which) (Some (single s which))
        singles here Steps = refl
        singles here Pointer = ap Some (omega (arith, ints))
        singles here Size = ap Some (omega (arith, ints))
        singles here Held = ap Some (omega (arith, ints))
        singles here LineEnd = ap Some (omega (arith, ints))
        singles here LineStart = ap Some (omega (arith, ints, start))
        singles here LastLength = refl
        singles here CodeHere = ap Some (omega (arith, ints))
        singles here CodeBefore = ap Some (omega (arith, ints))
        singles here Typed = refl
        singles here EntryHeld = refl

  emptied_describes : (n : ℕ) (v : Valuation) (case made : Case) → length bytes ≡ 0 → IsChanged case EMPTIED [] made
      → IsTrueOf n v case s → Describes n made (with_next_page s bytes)
  emptied_describes n v case made none changes true_of =
      changes n v s kept rest (with_codes kept.text kept.pointer (λ i. pos 0)) true_of (λ here.
      changes_singles EMPTIED (read_given [] n v s (with_codes kept.text kept.pointer (λ i. pos 0)) here) s kept rest
      refl refl
      (omega (arith, ints, same, none), tt) (singles here)) where
        parts : IsSplit (length (before_form_feed bytes)) (length (behind_form_feed bytes)) (length bytes)
        parts = split bytes

        singles : (here : Places) (which : Single) → Some (single (with_page s kept rest) which)
            ≡ changed EMPTIED (read_given [] n v s (with_codes kept.text kept.pointer (λ i. pos 0)) here) (One which)
            (Some (single s which))
        singles here Steps = refl
        singles here Pointer = ap Some (omega (arith, ints))
        singles here Size = ap Some (omega (arith, ints, parts.within, none))
        singles here Held = ap Some (omega (arith, ints, parts.within, none))
        singles here LineEnd = ap Some (omega (arith, ints, end, parts.within, none))
        singles here LineStart = ap Some (omega (arith, ints, start))
        singles here LastLength = refl
        singles here CodeHere = ap Some (omega (arith, ints))
        singles here CodeBefore = ap Some (omega (arith, ints))
        singles here Typed = refl
        singles here EntryHeld = refl

-- of two cases, what is told of either is among them
pub tells_both : (one other first second : Case) (cases : List Case) → IsTold one None first → IsTold other None second
    → cases ≡ first ∷ second ∷ [] → AreTold one other cases
tells_both one other first second cases tells_one tells_other is = record {
  first = λ n s d.
      subst (Any (λ made. Describes n made (commanded s s.kept None))) (sym is)
      (0, first, omega arith, refl, tells_one n d.0 s d.1);
  second = λ n s d.
      subst (Any (λ made. Describes n made (commanded s s.kept None))) (sym is)
      (1, second, omega arith, refl, tells_other n d.0 s d.1);
}

pub turns_page : (case emptied turned : Case) (cases : List Case) → IsChangedFrom case EMPTIED [] emptied
    → IsChangedFrom case TURNED [] turned → AreTold emptied turned cases → TurnsPage case cases
turns_page case emptied turned cases empties turns told n v s bytes true_of same = by (length bytes) refl where
  by : (k : ℕ) → length bytes ≡ k
      → Any (λ made. Describes n made (commanded (with_next_page s bytes) (with_next_page s bytes).kept None)) cases
  by zero e =
      let d = emptied_describes s bytes same n v case emptied e
      (changes_plainly case emptied EMPTIED [] empties) true_of in
      told.first n (with_next_page s bytes) d
  by (suc k) e =
      let d = turned_describes s bytes same n v case turned (omega arith)
      (changes_plainly case turned TURNED [] turns) true_of in
      told.second n (with_next_page s bytes) d

-- ---- P
pub got : {X : Type 0} (o : Option X) → is_some o ≡ true → (x : X) × (o ≡ Some x)
got None h = absurd cc
got (Some x) h = (x, refl)

-- what is done with one page takes one step, where an output is open
once : (one_page : World → Result World Code) (first value : Option ℤ) (world done : World) → first ≡ None
    → unwrap_or value (pos 1) ≡ pos 1 → is_some world.files.output ≡ true → one_page world ≡ Ok done
    → pages one_page (record { first = first; value = value }) world ≡ Ok (record { world = done; left = 0 })
once one_page first value world done none count open' does =
    let out : needed_output world ≡ Ok (got world.files.output open').0 =
    ap (λ o. ok_or o code.Nfo) (got world.files.output open').1 in
    ap (λ r. r >>= (λ output. paging.pages_of one_page first value world)) out
    ∙ ap (λ o. paging.pages_of one_page o value world) none
    ∙ ap (λ x. paging.page_count x >>= (λ n. one_page_of one_page n world)) count
    ∙ ap (λ r. r >>= (λ output. one_page world >>= (λ done. Ok (record { world = done; left = 0 })))) out
    ∙ ap (λ r. r >>= (λ done. Ok (record { world = done; left = 0 }))) does

pub fits : (text : List ℕ) → length text ≤ LIMIT → fitting text ≡ Ok text
fits text h =
    let few : nat_le (length text) LIMIT ≡ true = grind (arith, nat_tests) in
    ap (λ b. if b then Ok text else Err code.Ful) few

module _ (case : Case) (all : Outcomes) (n : ℕ) (v : Valuation) (s : State) (steps : ℕ) (origin : Origin) where
  abbrev point : Point
  point = point_of steps origin s

  abbrev bytes : List ℕ
  bytes = unread s.world.files

  abbrev next_kept : Kept
  next_kept = kept_with_page (first_page bytes) s.world.kept

  abbrev next_world : World
  next_world = record { kept = next_kept; files = files_behind_page s.world.files }

  short_page : point.unread ≤ LIMIT → length (before_form_feed bytes) ≤ LIMIT
  short_page h = omega (arith, (split bytes).within, unread_there s.world.files.input)

  next_is : point.unread ≤ LIMIT → paging.world_with_next_page s.world ≡ Ok next_world
  next_is h =
      ap (λ r. (r >>= (λ text. Ok next_kept)) >>= (λ kept. Ok (record {
        kept = kept;
        files = files_behind_page s.world.files;
      }))) (fits (before_form_feed bytes) (short_page h))

  next_described : TurnsPage case all.cases.items → IsTrueOf n v case point
      → Describe n all (commanded (with_page point next_kept (unread_in next_world.files.input)) next_kept None)
  next_described turns true_of =
      subst (λ u. Describe n all (commanded (with_page point next_kept u) next_kept None))
      (sym (behind_there s.world.files.input))
      (turns n v point bytes true_of (unread_there s.world.files.input))

-- where conditions hold, the next page has room
abbrev pub HasRoomForPage : Case → Outcomes → Type 0
HasRoomForPage case all =
    (n : ℕ) (v : Valuation) (s : Point)
    → IsTrueOf n v case s → All (linear.Holds n v) all.conditions.items → s.unread ≤ LIMIT

pub writes_page : (case : Case) (all : Outcomes) → TurnsPage case all.cases.items → HasRoomForPage case all
    → (taken : TakenForms) → IsOnce taken → Writes page_turned taken case all
writes_page case all turns room taken is n v s steps origin open' begins =
    subst (Succeeds (IsDoneAtOnce n all (point_of steps origin s)))
    (sym (once page_turned (value_if taken.first n v) (value_if taken.value n v) s.world _
    (ap (λ o. value_if o n v) is.first) (is.count n v) open'
    (ap (λ r. r >>= (λ turned. Ok (world_after_writing (written_page (page_of_buffer s.world.kept)) turned)))
    (next_is case all n v s steps origin (room n v (point_of steps origin s) begins.true_of begins.conditions)))))
    (record { left = refl; described = next_described case all n v s steps origin turns begins.true_of })

pub writes_buffer : (case after : Case) (wanted : List (List Term)) (all : Outcomes) → IsTold case None after
    → IsOne wanted after all → (taken : TakenForms) → IsOnce taken → Writes page_written taken case all
writes_buffer case after wanted all told one taken is n v s steps origin open' begins =
    subst (Succeeds (IsDoneAtOnce n all (point_of steps origin s)))
    (sym (once page_written (value_if taken.first n v) (value_if taken.value n v) s.world _
    (ap (λ o. value_if o n v) is.first) (is.count n v) open' refl))
    (record {
      left = refl;
      described = describes_one n wanted after all _ one (told n v (point_of steps origin s) begins.true_of);
    })

-- a range is written, whatever is done page by page
pub writes_range : (case after : Case) (first second : List Term) (wanted : List (List Term)) (all : Outcomes)
    → IsTold case None after → IsOne wanted after all
    → ((n : ℕ) (v : Valuation) (s : Point) → IsTrueOf n v case s → All (linear.Holds n v) all.conditions.items
    → IsPlace s.kept.text (value first n v) × IsPlace s.kept.text (value second n v))
    → (one_page : World → Result World Code) (taken : TakenForms) → taken.first ≡ Some first → taken.value ≡ Some second
    → Writes one_page taken case all
writes_range case after first second wanted all told one placed one_page taken f g n v s steps origin open' begins =
    let point = point_of steps origin s in
    let k = placed n v point begins.true_of begins.conditions in
    let text = s.world.kept.text in
    let P = Succeeds (IsDoneAtOnce n all point) in
    let out : needed_output s.world ≡ Ok (got s.world.files.output open').0 =
    ap (λ o. ok_or o code.Nfo) (got s.world.files.output open').1 in
    let from : place_in text (value first n v) ≡ Some k.0.0 = ap (place_in text) k.0.1 ∙ place_there text k.0.0 k.0.2 in
    let to : place_in text (value second n v) ≡ Some k.1.0 = ap (place_in text) k.1.1 ∙ place_there text k.1.0 k.1.2 in
    subst P
    (sym (ap (λ r. r >>= (λ output. paging.pages_of one_page (value_if taken.first n v) (value_if taken.value n v)
    s.world)) out
    ∙ ap (λ o. paging.pages_of one_page (value_if o n v) (value_if taken.value n v) s.world) f
    ∙ ap (λ o. paging.pages_of one_page (Some (value first n v)) (value_if o n v) s.world) g
    ∙ ap (λ o. ((((ok_or o code.Pop >>= (λ from. ok_or (place_in text (value second n v)) code.Pop
    >>= (λ to. Ok (span_between from to)))) >>= (λ part. Ok (characters_of part s.world.kept)))
    >>= (λ written. Ok (world_after_writing written s.world))) >>= (λ done. Ok (record { world = done; left = 0 }))))
    from
    ∙ ap (λ o. ((((ok_or o code.Pop >>= (λ to. Ok (span_between k.0.0 to)))
    >>= (λ part. Ok (characters_of part s.world.kept)))
    >>= (λ written. Ok (world_after_writing written s.world))) >>= (λ done. Ok (record { world = done; left = 0 }))))
    to))
    (record {
      left = refl;
      described = describes_one n wanted after all _ one (told n v point begins.true_of);
    })

-- ---- the law
pub pages_law : (p : Page) (one_page : World → Result World Code) (e : Element) (case : Case) (taken : TakenForms)
    (all : Outcomes)
    → ((left : Option ℕ) (arguments : Arguments) (world : World)
    → page_reply p left arguments world ≡ pages_reply one_page left arguments world)
    → ((files : Files) → IsOpenFor p files → is_some files.output ≡ true) → e.kind ≡ kind.Page p
    → IsTaken case taken → Writes one_page taken case all → PageLaw p e case all
unfolding step reply_of
pages_law p one_page e case taken all replies opens is takes writes n v s steps origin ready begins =
    let point = point_of steps origin s in
    subst (StepsTo (Goes n all e steps origin s))
    (sym (ap (outcome_at s) ready.stands.reads ∙ ap (λ k. going.settle e s (reply_of k e s)) is
    ∙ ap (going.settle e s) (replies s.left s.arguments s.world)
    ∙ ap (λ l. going.settle e s (pages_reply one_page l s.arguments s.world)) ready.begins
    ∙ ap (λ a. going.settle e s (a >>= (λ taken. in_pages (levels_after_taking s.arguments)
    (pages one_page taken s.world)))) (takes n v point begins.true_of)))
    (by (pages one_page (taken_by taken n v) s.world)
    (writes n v s steps origin (opens s.world.files ready.file) begins)) where
      by : (r : Result Progress Code) → Succeeds (IsDoneAtOnce n all (point_of steps origin s)) r
          → StepsTo (Goes n all e steps origin s)
          (going.settle e s (in_pages (levels_after_taking s.arguments) r))
      by (Err c) d = absurd d
      by (Ok progress) d =
          subst (λ k. StepsTo (Goes n all e steps origin s)
          (going.settle e s (Ok (while_left k (levels_after_taking s.arguments) progress.world)))) (sym d.left)
          (inl (record { described = d.described; there = refl; left = sym ready.begins }))

-- ---- A
-- a text with more behind it
module _ (text more : List ℕ) (p : ℕ) (inside : p ≤ length text) where
  same_char : (k : ℕ) → k < length text → ends (text ++ more) k ≡ ends text k
  same_char k h = ap is_line_end (get_or_append_left text more 0 k h)

  later : (e f : ℕ) → IsEnd text p e → IsEnd (text ++ more) p f → e ≤ f
  later e zero end there = elim (above_or (length (text ++ more)) 0) as (λ x. e ≤ 0) [
    | inl w ↦ omega (arith, end.within, length-append text more)
    | inr w ↦ absurd (omega (arith, there.more w))
  ]
  later e (suc k) end there = elim (above_or (length text) (suc k)) as (λ x. e ≤ suc k) [
    | inl w ↦ omega (arith, end.within)
    | inr w ↦
        let l : suc k < length (text ++ more) = omega (arith, length-append text more) in
        omega (
          arith,
          end_least text p e k end (omega (arith, there.more l))
              (sym (same_char k (omega arith)) ∙ there.one k (omega arith) l),
        )
  ]

  later_end : line_place text p (pos 1) ≤ line_place (text ++ more) p (pos 1)
  later_end =
      later (line_place text p (pos 1)) (line_place (text ++ more) p (pos 1)) (line_end text p inside)
      (line_end (text ++ more) p (omega (arith, length-append text more)))

  kept_start : line_place (text ++ more) p (pos 0) ≡ line_place text p (pos 0)
  kept_start =
      let start = line_begin text p in
      one_begin (text ++ more) p (line_place (text ++ more) p (pos 0)) (line_place text p (pos 0))
      (line_begin (text ++ more) p)
      (record {
        before = start.before;
        none = λ i a b. same_char i (omega arith) ∙ start.none i a b;
        one = λ k e. same_char k (omega (arith, start.before)) ∙ start.one k e;
      })

module _ (s : Point) (c : ℕ) (rest : List ℕ) (whole : IsWhole s.kept) (same : s.unread ≡ suc (length rest)) where
  abbrev added : List ℕ
  added = before_form_feed (c ∷ rest)

  abbrev kept_longer : Kept
  kept_longer = record s.kept {
    text = s.kept.text ++ added;
    form_feed = (first_page (c ∷ rest)).ff;
  }

  abbrev behind_it : ℕ
  behind_it = length (behind_first_page (c ∷ rest))

  abbrev lines_behind : ℕ → ℤ
  lines_behind zero = pos (length added)
  lines_behind (suc zero) = pos behind_it
  lines_behind (suc (suc i)) = pos (line_place (s.kept.text ++ added) s.kept.pointer (pos 1))

  abbrev unknown : ℕ → ℤ
  unknown = with_codes kept_longer.text kept_longer.pointer lines_behind

  longer_describes : (n : ℕ) (v : Valuation) (case made : Case) → IsChanged case APPENDED [] made → IsTrueOf n v case s
      → Describes n made (with_page s kept_longer behind_it)
  longer_describes n v case made changes true_of =
      changes n v s kept_longer behind_it unknown true_of (λ here.
      changes_singles APPENDED (read_given [] n v s unknown here) s kept_longer behind_it refl refl (
        omega (arith, ints, same),
        (
          omega (arith, ints),
          (
            omega (arith, ints),
            (
              omega (
                arith,
                ints,
                parts.less
                    (omega arith),
                same,
              ),
              (
                omega (arith, ints, parts.within, same),
                (
                  omega (arith, ints, parts.most, same),
                  (
                    omega (arith, ints, later_end s.kept.text added s.kept.pointer whole.inside),
                    (omega (arith, ints, end, long), tt),
                  ),
                ),
              ),
            ),
          ),
        ),
      ) (singles here)) where
        parts : IsSplit (length added) behind_it (suc (length rest))
        parts = split (c ∷ rest)

        long : length (s.kept.text ++ added) ≡ length s.kept.text + length added
        long = length-append s.kept.text added

        end : line_place (s.kept.text ++ added) s.kept.pointer (pos 1) ≤ length (s.kept.text ++ added)
        end = (line_end (s.kept.text ++ added) s.kept.pointer (omega (arith, whole.inside, long))).within

        singles : (here : Places) (which : Single) → Some (single (with_page s kept_longer behind_it) which)
            ≡ changed APPENDED (read_given [] n v s unknown here) (One which) (Some (single s which))
        singles here Steps = refl
        singles here Pointer = refl
        singles here Size = ap Some (omega (arith, ints, long))
        singles here Held = ap Some (omega (arith, ints, long))
        singles here LineEnd = ap Some (omega (arith, ints))
        singles here LineStart = ap (λ x. Some (pos x)) (kept_start s.kept.text added s.kept.pointer whole.inside)
        singles here LastLength = refl
        singles here CodeHere = ap Some (omega (arith, ints))
        singles here CodeBefore = ap (λ x. Some (pos x)) (before_joined s.kept.text added s.kept.pointer whole.inside)
        singles here Typed = refl
        singles here EntryHeld = refl

same_single : (s : Point) (which : Single)
    → Some (single (with_page s s.kept s.unread) which) ≡ Some (single s which)
same_single s Steps = refl
same_single s Pointer = refl
same_single s Size = refl
same_single s Held = refl
same_single s LineEnd = refl
same_single s LineStart = refl
same_single s LastLength = refl
same_single s CodeHere = refl
same_single s CodeBefore = refl
same_single s Typed = refl
same_single s EntryHeld = refl

stays_describes : (s : Point) (n : ℕ) (v : Valuation) (case made : Case) → s.unread ≡ 0 → IsChanged case STAYS [] made
    → IsTrueOf n v case s → Describes n made (with_page s s.kept s.unread)
stays_describes s n v case made none changes true_of =
    changes n v s s.kept s.unread (λ i. pos 0) true_of (λ here.
    changes_singles STAYS (read_given [] n v s (λ i. pos 0) here) s s.kept s.unread refl refl
    (omega (arith, ints, none), tt) (same_single s))

append_is : (o : Option Input) (world : World) → is_some o ≡ true
    → (ok_or o code.Nfi >>= (λ input. appended input.unread world))
    ≡ appended (option_map_or (λ (input : Input). input.unread) o []) world
append_is None world h = absurd cc
append_is (Some input) world h = refl

pub appends_page : (case stays longer : Case) (all : Outcomes) → IsChangedFrom case STAYS [] stays
    → IsChangedFrom case APPENDED [] longer → AreTold stays longer all.cases.items
    → ((n : ℕ) (v : Valuation) (s : Point) → IsTrueOf n v case s → All (linear.Holds n v) all.conditions.items
    → length s.kept.text + s.unread ≤ LIMIT)
    → Reads append case all
appends_page case stays longer all stay add told room n v s steps origin open' begins =
    subst P (sym (append_is s.world.files.input s.world open')) (by (unread s.world.files) refl) where
      point : Point
      point = point_of steps origin s

      P : Result World Code → Type 0
      P r = Succeeds (IsPaged n all (point_of steps origin s)) r

      same : (point_of steps origin s).unread ≡ length (unread s.world.files)
      same = unread_there s.world.files.input

      fit : length s.world.kept.text + (point_of steps origin s).unread ≤ LIMIT
      fit = room n v (point_of steps origin s) begins.true_of begins.conditions

      by : (bytes : List ℕ) → unread s.world.files ≡ bytes → P (appended bytes s.world)
      by [] e =
          let d = stays_describes (point_of steps origin s) n v case stays (same ∙ ap length e)
          (changes_plainly case stays STAYS [] stay) begins.true_of in
          told.first n (point_of steps origin s) d
      by (c ∷ rest) e =
          let p = point_of steps origin s in
          let u : p.unread ≡ suc (length rest) = same ∙ ap length e in
          let added = before_form_feed (c ∷ rest) in
          let kept : Kept = kept_longer p c rest begins.whole u in
          let short : length (s.world.kept.text ++ added) ≤ LIMIT =
          omega (arith, fit, u, (split (c ∷ rest)).within, length-append s.world.kept.text added) in
          let d = longer_describes p c rest begins.whole u n v case longer
          (changes_plainly case longer APPENDED [] add) begins.true_of in
          subst P
          (sym (ap (λ r. (r >>= (λ text. Ok kept)) >>= (λ kept. Ok (record {
            kept = kept;
            files = files_behind_page s.world.files;
          }))) (fits (s.world.kept.text ++ added) short)))
          (subst (λ k. Describe n all (commanded (with_page p kept k) kept None))
          (sym (behind_there s.world.files.input ∙ ap (λ bytes. length (behind_first_page bytes)) e))
          (told.second n (with_page p kept (length (behind_first_page (c ∷ rest)))) d))

-- ---- Y
yank_is : (o : Option Input) (text : List ℕ) (output : Option Output) (world : World) → is_some o ≡ true
    → length text ≤ 0
    → (ok_or o code.Nfi >>= (λ input. nothing_lost text output >>= (λ saved. paging.world_with_next_page world)))
    ≡ paging.world_with_next_page world
yank_is None text output world h k = absurd cc
yank_is (Some input) [] output world h k = refl
yank_is (Some input) (c ∷ text) output world h k = absurd (omega arith)

pub yanks_page : (case : Case) (all : Outcomes) → TurnsPage case all.cases.items → HasRoomForPage case all
    → ((n : ℕ) (v : Valuation) (s : Point) → IsTrueOf n v case s → All (linear.Holds n v) all.conditions.items
    → length s.kept.text ≤ 0)
    → Reads yank case all
yanks_page case all turns room empty n v s steps origin open' begins =
    let point = point_of steps origin s in
    subst (Succeeds (IsPaged n all point))
    (sym (yank_is s.world.files.input s.world.kept.text s.world.files.output s.world open'
    (empty n v point begins.true_of begins.conditions)
    ∙ next_is case all n v s steps origin (room n v point begins.true_of begins.conditions)))
    (next_described case all n v s steps origin turns begins.true_of)

pub reads_law : (p : Page) (done : World → Result World Code)
    (answer : model.Taken → Option ℕ → Arguments → World → Result going.Reply Code) (e : Element) (case : Case)
    (taken : TakenForms) (all : Outcomes)
    → ((left : Option ℕ) (arguments : Arguments) (world : World)
    → page_reply p left arguments world ≡ (arguments_of arguments.level >>= (λ taken. answer taken left
    (levels_after_taking arguments) world)))
    → ((n : ℕ) (v : Valuation) (left : Option ℕ) (arguments : Arguments) (world : World)
    → answer (taken_by taken n v) left arguments world ≡ going_on left arguments (done world))
    → ((files : Files) → IsOpenFor p files → is_some files.input ≡ true) → e.kind ≡ kind.Page p
    → IsTaken case taken → Reads done case all → PageLaw p e case all
unfolding step reply_of
reads_law p done answer e case taken all replies comes opens is takes reads n v s steps origin ready begins =
    let point = point_of steps origin s in
    subst (StepsTo (Goes n all e steps origin s))
    (sym (ap (outcome_at s) ready.stands.reads ∙ ap (λ k. going.settle e s (reply_of k e s)) is
    ∙ ap (going.settle e s) (replies s.left s.arguments s.world)
    ∙ ap (λ a. going.settle e s (a >>= (λ taken. answer taken s.left (levels_after_taking s.arguments) s.world)))
    (takes n v point begins.true_of)
    ∙ ap (going.settle e s) (comes n v s.left (levels_after_taking s.arguments) s.world)))
    (by (done s.world) (reads n v s steps origin (opens s.world.files ready.file) begins)) where
      by : (r : Result World Code) → Succeeds (IsPaged n all (point_of steps origin s)) r
          → StepsTo (Goes n all e steps origin s)
          (going.settle e s (going_on s.left (levels_after_taking s.arguments) r))
      by (Err c) d = absurd d
      by (Ok world) d = inl (record { described = d; there = refl; left = refl })
