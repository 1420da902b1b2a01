-- A strict edit changes the text by what is told of the macro.
use Rattle.std.proofs.Common.{◌≡◌, ◌≢◌, ◌≤◌, inl, inr, ℕ, List, [], length, Bool, true, false, ◌||◌}
use Rattle.std.proofs.Common.{Option, Some, Result, Ok, Err, refl, sym, ap, ◌∙◌, subst, arith}
use Rattle.std.specs.Bool.{⊤}
use Rattle.teco_apply.specs.Apply.{AnswersText, DropsIfCoded, closing, opening}
use Rattle.teco_apply.specs.ByPages.{AdmittedStops, AllPages, AnswersAdmitted, Behind, BehindMacro, BehindPage}
use Rattle.teco_apply.specs.ByPages.{Closing, EachPage, EditCourse, EditsPages, EditsText, EndsInMacro, EndsWith}
use Rattle.teco_apply.specs.ByPages.{FromStart, Gathers, Once, Order, PagesGathered, PagesTurned, TooMany}
use Rattle.teco_apply.specs.ByPages.{gathering, is_dropped, nothing_done, tally_after, to_start, turning}
use Rattle.teco_apply.specs.Sure.{ChangesByElements, loaded}
use Rattle.teco_apply.specs.declared.by_pages.Edited.{Edited}
use Rattle.teco_apply.specs.declared.stages.Ran.{Ran}
use Rattle.teco_apply.specs.declared.stages.Ran.TheVariants as ran
use Rattle.teco_apply.specs.declared.stages.Tally.{Tally}
use Rattle.teco_base.specs.declared.TheConstants.{LIMIT}
use Rattle.teco_changes.proofs.Closure.{changes_follow}
use Rattle.teco_changes.proofs.Elements.{no_change}
use Rattle.teco_changes.specs.Changes.{Changes}
use Rattle.teco_changes.specs.Worlds.{text_of}
use Rattle.teco_law_changes.specs.Runs.{IsGot}
use Rattle.teco_law_edits.proofs.Opening.{opened}
use Rattle.teco_law_edits.proofs.Pages.{behind_page, gathered_open, output_there, page_is_less, turned_open}
use Rattle.teco_law_edits.proofs.Running.{HasEnd, IsOpen, macro_ends, not_run_code, sure_ends, text_ends}
use Rattle.teco_law_edits.proofs.Strict.{Gathered, gathered_at, gathers, opened_first, opening_has}
use Rattle.teco_law_edits.proofs.Strict.{turning_ends, turns, untyped}
use Rattle.teco_law_edits.proofs.Texting.{copied_text, gathered_text, marked_page, opened_text, turned_name}
use Rattle.teco_law_edits.proofs.Texting.{turned_text}
use Rattle.teco_law_edits.specs.Bounds.{bound_at}
use Rattle.teco_law_edits.specs.Changed.{IsMade, MakesChanged}
use Rattle.teco_law_edits.specs.Strict.{CanBegin, IsStrict}
use Rattle.teco_law_edits.specs.Texts.{TextsEnd, at_start, gathered, next_page}
use Rattle.teco_law_runs.specs.Keeping.{LeavesOpen}
use Rattle.teco_law_runs.specs.Staying.{output_name}
use Rattle.teco_law_runs.specs.Sure.{RunsEndOnce}
use Rattle.teco_model.specs.Files.{Files, file_named}
use Rattle.teco_model.specs.Filing.{world_copied}
use Rattle.teco_model.specs.Paging.{unread}
use Rattle.teco_model.specs.Session.{code_of, is_code, without_typed}
use Rattle.teco_model.specs.State.{World}
use Rattle.teco_model.specs.declared.stop.Stop.{Stop}
use Rattle.teco_model.specs.declared.stop.Stop.TheVariants as stop
use Rattle.teco_options.specs.declared.editing.PageChoice.{PageChoice}
use Rattle.teco_options.specs.declared.editing.PageChoice.TheVariants as pages
use Rattle.teco_session.specs.declared.fault.SessionFault.{SessionFault}

-- ---- results
-- what an edit without a code leaves
Leaves : (Files → Type 0) → Result Edited SessionFault → Files → Type 0
Leaves Is (Ok edited) files = edited.coded ≡ false → edited.refused ≡ false → Is files
Leaves Is (Err cannot) files = ⊤

-- where a command string ends it, that was no code
told_leaves : (Is : Files → Type 0) (done : Tally) (line : Result Bool SessionFault)
    (result : Result Edited SessionFault) (files : Files) → EndsWith done line result
    → (line ≡ Ok false → Is files) → Leaves Is result files
unfolding Leaves
told_leaves Is done (Ok true) result files is leaves =
    subst (λ r. Leaves Is r files) (sym is) (λ none. absurd (cc))
told_leaves Is done (Ok false) result files is leaves =
    subst (λ r. Leaves Is r files) (sym is) (λ none not. leaves refl)
told_leaves Is done (Err cannot) result files is leaves = subst (λ r. Leaves Is r files) (sym is) tt

in_macro_leaves : (Is : Files → Type 0) (done : Tally) (answer : Result Ran SessionFault)
    (result : Result Edited SessionFault) (files : Files) → EndsInMacro done answer result → Leaves Is result files
unfolding Leaves
in_macro_leaves Is done (Ok (ran.On steps)) result files is = absurd is
in_macro_leaves Is done (Ok ran.Coded) result files is =
    subst (λ r. Leaves Is r files) (sym is) (λ none. absurd (cc))
in_macro_leaves Is done (Ok ran.Refused) result files is =
    subst (λ r. Leaves Is r files) (sym is) (λ none not. absurd (cc))
in_macro_leaves Is done (Err cannot) result files is = subst (λ r. Leaves Is r files) (sym is) tt

module _ (once : RunsEndOnce) (texts : TextsEnd) (order : Order) (strict : IsStrict order) (bytes target : List ℕ)
    (most : ℕ) (small : most ≤ LIMIT) where
  abbrev IsDone : Files → Type 0
  IsDone files = IsMade order.call.promise bytes target files

  abbrev Got : List ℕ → Type 0
  Got text = IsGot order.call.promise.library order.call.promise.entry bytes text

  -- both files are open, the output is the target, and what it will have is got from the source's text
  record IsAlong (world : World) : Type 0 where
    open_files : IsOpen most world.files
    output : output_name world.files ≡ Some target
    got : Got (text_of world)

  GoesOn : EditCourse → World → Type 0
  GoesOn More old =
      (new : World) (f g : ℕ) (sink sunk : Option (List ℕ)) (result : Result Edited SessionFault)
      → More old new f g sink sunk result → Leaves IsDone result new.files

  -- ---- the macro
  abbrev Changed : World → World → Type 0
  Changed old new = IsGot order.call.promise.library order.call.promise.entry (text_of old) (text_of new)

  ended_changed : (old after : World) (answer : Stop) → AdmittedStops order old answer after
      → false ≡ is_code (code_of answer)
      → Changed old after × (output_name after.files ≡ output_name old.files)
  ended_changed old after answer (inl h) none =
      let ready = strict old h.0 in
      let ends = sure_ends (bound_at order old) answer (h.1.sure ready) none in
      let begun : World = loaded order.call.promise.library old in
      let does : ChangesByElements order.call.promise (stop.Ended ends.0) begun after =
      subst (λ answer. ChangesByElements order.call.promise answer begun after) ends.1 (h.1.changed ready) in (
        does,
        (subst (λ answer. LeavesOpen answer old.files after.files) ends.1 (h.1.keeps ready)).output,
      )
  ended_changed old after answer (inr h) none =
      let coded = ap (λ answer. is_code (code_of answer)) h.stopped ∙ not_run_code h.why in absurd (cc)

  macro_along : (old mid : World) (f g : ℕ) (sink sunk : Option (List ℕ)) → IsAlong old
      → AnswersAdmitted order old mid f g sink sunk (Ok false) → IsAlong mid
  macro_along old mid f g sink sunk along a =
      let does = ended_changed old a.after a.stop a.ran a.told in
      record {
        open_files = macro_ends order strict most old mid along.open_files f g sink sunk a;
        output = ap (λ (w : World). output_name w.files) a.stays ∙ does.1 ∙ along.output;
        got = subst (λ (w : World). Got (text_of w)) (sym a.stays)
            (λ changes tells. changes_follow changes bytes (text_of old) (text_of a.after) (along.got changes tells)
            (does.0 changes tells));
      }

  -- ---- closing
  closes_on : (done : Tally) (old : World) → IsAlong old → GoesOn (Closing done) old
  unfolding GoesOn
  closes_on done old along new f g sink sunk result c =
      told_leaves IsDone done c.line result new.files c.told
      (λ is. let o = output_there old.files.output along.open_files.output in
      let has : HasEnd closing old (world_copied old) =
      record { steps = 1; few = omega arith; ends = texts.copying old o.0 o.1 } in
      let closed = text_ends once closing old (world_copied old) has new f g sink sunk
      (subst (λ line. AnswersText closing old new f g sink sunk line) is c.closes) in
      record {
        made = text_of old;
        there = subst (λ (w : World). file_named target w.files.named ≡ Some (text_of old)) (sym closed)
            (copied_text target old along.output);
        got = along.got;
      })

  macro_on : (done : Tally) (More : Tally → EditCourse) (old : World) → IsAlong old
      → ((tally : Tally) (mid : World) → IsAlong mid → GoesOn (More tally) mid)
      → GoesOn (BehindMacro order done More) old
  unfolding GoesOn
  macro_on done More old along more new f g sink sunk result (BehindMacro.stops answer runs ends) =
      in_macro_leaves IsDone done answer result new.files ends
  macro_on done More old along more new f g sink sunk result (BehindMacro.goes_on steps mid count written runs rest) =
      more (tally_after steps done) mid (macro_along old mid f count sink written along runs.answers) new count g
      written sunk result rest

  once_on : (old : World) → IsAlong old → GoesOn (Once order) old
  once_on old along = macro_on nothing_done Closing old along closes_on

  -- ---- page after page
  page_on : (done : Tally) (old : World) → IsAlong old → GoesOn (BehindPage done) old
  unfolding GoesOn
  page_on done old along new f g sink sunk result (BehindPage.closes none c) =
      closes_on done old along new f g sink sunk result c
  page_on done old along new f g sink sunk result (BehindPage.stops line not turned told) =
      told_leaves IsDone done line result new.files told (λ is. absurd (not is))

  turned_along : (old : World) → IsAlong old → IsAlong (without_typed (next_page old))
  turned_along old along =
      let o = output_there old.files.output along.open_files.output in
      let open_files = turned_open most old along.open_files in
      record {
        open_files = record { input = open_files.input; output = open_files.output; few = open_files.few };
        output = turned_name old ∙ along.output;
        got = subst Got (sym (turned_text old o.0 o.1)) along.got;
      }

  pages_along : (old : World) → IsAlong old → (f : ℕ) (sink : Option (List ℕ)) (done : Tally) (mid : World) (k : ℕ)
      (written : Option (List ℕ)) → PagesTurned order old f sink done mid k written → IsAlong mid
  pages_along old along f sink done mid k written PagesTurned.none = along
  pages_along old along f sink done mid k written
      (PagesTurned.one_more before steps was edited _ m n _ w more _ turned runs turn) =
      let at = pages_along old along f sink before was m w turned in
      let left = macro_along was edited m n w more at runs.answers in
      let few : length (unread edited.files) ≤ LIMIT = omega (arith, small, left.open_files.few) in
      let ends = turning_ends once turning edited (next_page edited)
      (omega (arith, few, page_is_less (unread edited.files)))
      (λ some. turns once texts order strict edited left.open_files.output few) mid n k more written turn in
      subst IsAlong (sym ends.1) (turned_along edited left)

  too_many : (old new : World) (f g : ℕ) (sink sunk : Option (List ℕ)) → TooMany old new f g sink sunk (Ok false) → ⊥
  too_many old new f g sink sunk many =
      let never : false ≡ true = many.told ∙ ap (λ why. is_code (code_of why)) many.ran.0 in absurd (cc)

  each_on : (old : World) → IsAlong old → GoesOn (EachPage order) old
  unfolding GoesOn
  each_on old along new f g sink sunk result (EachPage.ends done mid count written turned rest) =
      macro_on done BehindPage mid (pages_along old along f sink done mid count written turned) page_on new count g
      written sunk result rest
  each_on old along new f g sink sunk result (EachPage.full done mid count written line turned is many told) =
      told_leaves IsDone done line result new.files told
      (λ none. absurd (too_many mid new count g written sunk
      (subst (λ line. TooMany mid new count g written sunk line) none many)))

  -- ---- all pages as one
  -- where bytes are unread, a form feed ended the page
  record IsMarked (world : World) : Type 0 where
    along : IsAlong world
    marked : unread world.files ≢ [] → world.kept.form_feed ≡ true

  gathered_along : (old : World) → IsMarked old → unread old.files ≢ [] → IsMarked (without_typed (gathered old))
  gathered_along old marked some =
      let open_files = gathered_open most old marked.along.open_files in
      record {
        along = record {
          open_files = record { input = open_files.input; output = open_files.output; few = open_files.few };
          output = marked.along.output;
          got = subst Got (sym (gathered_text old (marked.marked some))) marked.along.got;
        };
        marked = λ more. marked_page (unread old.files) (λ none. more (behind_page old.files ∙ none));
      }

  all_along : (old : World) → Gathered once texts order strict most 0 old → IsMarked old
      → (f : ℕ) (sink : Option (List ℕ)) (n : ℕ) (mid : World) (k : ℕ) (written : Option (List ℕ))
      → PagesGathered old f sink n mid k written → IsMarked mid
  all_along old first marked f sink n mid k written PagesGathered.none = marked
  all_along old first marked f sink n mid k written (PagesGathered.one_more before was _ m _ w _ turned turn) =
      let at = gathered_at once texts order strict most old small first f sink before was m w turned in
      let along = all_along old first marked f sink before was m w turned in
      let ends = turning_ends once gathering was (gathered was)
      (omega (arith, small, at.at.few, page_is_less (unread was.files)))
      (λ some. gathers once texts order strict most before was small at some) mid m k w written turn in
      subst IsMarked (sym ends.1) (gathered_along was along ends.0)

  gathers_along : (old new : World) (f g : ℕ) (sink sunk : Option (List ℕ))
      → Gathered once texts order strict most 0 old → IsMarked old → Gathers old new f g sink sunk (Ok false)
      → IsMarked new
  gathers_along old new f g sink sunk first marked (Gathers.through n turned none is) =
      all_along old first marked f sink n new g sunk turned
  gathers_along old new f g sink sunk first marked (Gathers.stops n mid count written turned not turn) =
      absurd (not refl)
  gathers_along old new f g sink sunk first marked (Gathers.full mid count written turned many) =
      absurd (too_many mid new count g written sunk many)

  from_start_on : (old : World) → IsAlong old → GoesOn (FromStart order) old
  unfolding GoesOn
  from_start_on old along new f g sink sunk result (Behind.stops line not first told) =
      told_leaves IsDone nothing_done line result new.files told (λ is. absurd (not is))
  from_start_on old along new f g sink sunk result (Behind.goes_on mid count written first rest) =
      let has : HasEnd to_start old (at_start old) = record { steps = 1; few = omega arith; ends = texts.going old } in
      let is = text_ends once to_start old (at_start old) has mid f count sink written first in
      once_on mid
      (subst IsAlong (sym is)
      (record { open_files = along.open_files; output = along.output; got = along.got })) new count g written sunk
      result rest

  all_on : (old : World) → Gathered once texts order strict most 0 old → IsMarked old → GoesOn (AllPages order) old
  unfolding GoesOn
  all_on old first marked new f g sink sunk result (Behind.stops line not gathers told) =
      told_leaves IsDone nothing_done line result new.files told (λ is. absurd (not is))
  all_on old first marked new f g sink sunk result (Behind.goes_on mid count written gathers rest) =
      from_start_on mid (gathers_along old mid f count sink written first marked gathers).along new count g written
      sunk result rest

  pages_on : (pages : PageChoice) (old : World) → Gathered once texts order strict most 0 old → IsMarked old
      → GoesOn (EditsPages pages order) old
  pages_on pages.First old first marked = once_on old marked.along
  pages_on pages.Each old first marked = each_on old marked.along
  pages_on pages.Whole old first marked = all_on old first marked

-- ---- the whole
module _ (once : RunsEndOnce) (texts : TextsEnd) (order : Order) (strict : IsStrict order) where
  -- where both files are open, and the first page is in the buffer
  opened_marked : (source target bytes : List ℕ) (small : length bytes ≤ LIMIT) (old : World)
      → IsMarked once texts order strict bytes target (length bytes) small
      (without_typed (opened source target bytes old))
  unfolding opened
  opened_marked source target bytes small old =
      let first = opened_first once texts order strict source target bytes old in
      record {
        along = record {
          open_files = first.at.open_files;
          output = refl;
          got = λ changes tells.
              subst (Changes changes bytes) (sym (opened_text source target bytes old))
              (no_change changes bytes bytes refl);
        };
        marked = λ some. marked_page bytes some;
      }

  edit_on : (pages : PageChoice) (source target : List ℕ) (old : World) (can : CanBegin source target old)
      → GoesOn once texts order strict can.bytes target (length can.bytes) can.fits
      (EditsText pages order (opening source target)) old
  unfolding GoesOn
  edit_on pages source target old can new f g sink sunk result (Behind.stops line not first told) =
      told_leaves (IsMade order.call.promise can.bytes target) nothing_done line result new.files told
      (λ is. absurd (not is))
  edit_on pages source target old can new f g sink sunk result (Behind.goes_on mid count written first rest) =
      let is = text_ends once (opening source target) old (opened source target can.bytes old)
      (opening_has once texts order strict source target old can) mid f count sink written first in
      pages_on once texts order strict can.bytes target (length can.bytes) can.fits pages mid
      (subst (Gathered once texts order strict (length can.bytes) 0) (sym is)
      (untyped once texts order strict (length can.bytes) 0 (opened source target can.bytes old)
      (opened_first once texts order strict source target can.bytes old)))
      (subst (IsMarked once texts order strict can.bytes target (length can.bytes) can.fits) (sym is)
      (opened_marked source target can.bytes can.fits old))
      new count g written sunk result rest

not_dropped : (edited : Edited) (old new : World) (f g : ℕ) → edited.coded ≡ false → edited.refused ≡ false
    → DropsIfCoded (is_dropped (Ok edited)) old new f g → new ≡ old
not_dropped edited old new f g none not drops =
    (subst (λ coded. DropsIfCoded (Ok coded) old new f g) (ap (λ b. b || edited.refused) none ∙ not) drops).0

pub strict_makes_changed : RunsEndOnce → TextsEnd → (order : Order) → IsStrict order → MakesChanged order
unfolding GoesOn Leaves
strict_makes_changed once texts order strict pages source target old new f g sink sunk edited can e none not =
    subst (λ (w : World). IsMade order.call.promise can.bytes target w.files)
    (sym (not_dropped edited e.edited new e.count g none not e.drops))
    (edit_on once texts order strict pages source target old can e.edited f e.count sink sunk (Ok edited) e.edits none
    not)
