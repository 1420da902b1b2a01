-- A strict edit writes no code but for want of memory or a fault of the host.
use Rattle.std.proofs.Common.{◌≡◌, ◌≢◌, ◌≤◌, ◌+◌, ◌⊎◌, inl, inr, ℕ, List, [], ◌∷◌, length, Bool, true, false, not, ◌&&◌}
use Rattle.std.proofs.Common.{bytes_eq, Option, IsSome, Result, Ok, Err, refl, sym, ap, ◌∙◌, subst, arith}
use Rattle.std.proofs.Common.{length-append}
use Rattle.std.proofs.lemmas.Slice.Eq.{bytes_eq-Decides}
use Rattle.std.specs.Bool.{⊤}
use Rattle.teco_apply.specs.Apply.{AnswersText, closing, has_esc, opening}
use Rattle.teco_apply.specs.ByPages.{AllPages, Behind, BehindMacro, BehindPage, Closing, EachPage, EditCourse}
use Rattle.teco_apply.specs.ByPages.{EditsPages, EditsText, EndsWith, FromStart, Gathers, Once, Order, PagesGathered}
use Rattle.teco_apply.specs.ByPages.{PagesTurned, Turning, gathering, nothing_done, tally_after, to_start, turning}
use Rattle.teco_apply.specs.declared.by_pages.Edited.{Edited}
use Rattle.teco_options.specs.declared.editing.PageChoice.{PageChoice}
use Rattle.teco_options.specs.declared.editing.PageChoice.TheVariants as pages
use Rattle.teco_apply.specs.declared.by_pages.TheConstants.{PAGES}
use Rattle.teco_apply.specs.declared.stages.Ran.TheVariants as ran
use Rattle.teco_apply.specs.declared.stages.Tally.{Tally}
use Rattle.teco_base.specs.declared.TheConstants.{LIMIT}
use Rattle.teco_law_edits.proofs.Opening.{opened, opening_ends}
use Rattle.teco_law_edits.proofs.Pages.{behind_is_less, behind_page, gathered_open, more_length, output_there}
use Rattle.teco_law_edits.proofs.Pages.{page_is_less, page_parts, page_takes_one, some_unread, turned_open}
use Rattle.teco_law_edits.proofs.Running.{HasEnd, IsOpen, macro_ends, macro_stops, text_ends, text_stops}
use Rattle.teco_law_edits.specs.Strict.{CanBegin, CannotFail, EndsBeyond, IsBeyond, IsStrict}
use Rattle.teco_law_edits.specs.Texts.{TextsEnd, at_start, gathered, more_text, next_page}
use Rattle.teco_law_runs.specs.Sure.{RunsEndOnce}
use Rattle.teco_model.specs.Filing.{world_copied}
use Rattle.teco_model.specs.Pages.{first_page}
use Rattle.teco_model.specs.Paging.{unread}
use Rattle.teco_model.specs.Session.{code_of, is_code, without_typed}
use Rattle.teco_model.specs.State.{World}
use Rattle.teco_model.specs.declared.stop.HostFault.TheVariants as host_fault
use Rattle.teco_model.specs.declared.stop.Stop.{Stop}
use Rattle.teco_model.specs.declared.stop.Stop.TheVariants as stop
use Rattle.teco_run.specs.Unread.{TellsIfUnread}
use Rattle.teco_session.specs.declared.fault.SessionFault.{SessionFault}

-- ---- results
Well : Result Edited SessionFault → Option (List ℕ) → Type 0
Well (Ok edited) sunk = (edited.coded ≡ false) ⊎ EndsBeyond sunk
Well (Err cannot) sunk = ⊤

ended_well : (done : Tally) (line : Result Bool SessionFault) (result : Result Edited SessionFault)
    (sunk : Option (List ℕ)) → EndsWith done line result → (line ≡ Ok true → EndsBeyond sunk) → Well result sunk
unfolding Well
ended_well done (Ok true) result sunk is beyond = subst (λ r. Well r sunk) (sym is) (inr (beyond refl))
ended_well done (Ok false) result sunk is beyond = subst (λ r. Well r sunk) (sym is) (inl refl)
ended_well done (Err cannot) result sunk is beyond = subst (λ r. Well r sunk) (sym is) tt

-- ---- whether bytes are unread can't be told
untold_beyond : (old after : World) (why : Stop) → length (first_page (unread old.files)).text ≤ LIMIT
    → TellsIfUnread old after (Err why) → IsBeyond why
untold_beyond old after (stop.Error c) fits tells = absurd (omega (arith, fits, tells.1))
untold_beyond old after stop.Memory fits tells = tt
untold_beyond old after (stop.HostFault host_fault.In) fits tells = tt
untold_beyond old after (stop.HostFault host_fault.Out) fits tells = absurd tells
untold_beyond old after (stop.HostFault host_fault.NoFile) fits tells = absurd tells
untold_beyond old after (stop.Ended n) fits tells = absurd tells
untold_beyond old after (stop.Exit n) fits tells = absurd tells
untold_beyond old after stop.Limit fits tells = absurd tells

beyond_is_code : (why : Stop) → IsBeyond why → is_code (code_of why) ≡ true
beyond_is_code stop.Memory beyond = refl
beyond_is_code (stop.HostFault fault) beyond = refl
beyond_is_code (stop.Error c) beyond = absurd beyond
beyond_is_code (stop.Ended n) beyond = absurd beyond
beyond_is_code (stop.Exit n) beyond = absurd beyond
beyond_is_code stop.Limit beyond = absurd beyond

-- there are not too many pages
few_pages : (n : ℕ) → n ≡ PAGES → n ≤ LIMIT → ⊥
few_pages n is few = omega (arith, is, few)

module _ (once : RunsEndOnce) (text : List ℕ) (old end : World)
    (fits : length (first_page (unread old.files)).text ≤ LIMIT)
    (has : unread old.files ≢ [] → HasEnd text old end) (new : World) (f g : ℕ) (sink sunk : Option (List ℕ)) where
  turning_stops : Turning text old new f g sink sunk (Ok true) → EndsBeyond sunk
  turning_stops (inl more) = text_stops once text old end (has more.some) new f g sink sunk more.answers
  turning_stops (inr untold) = record {
    stop = untold.stop;
    beyond = untold_beyond old untold.after untold.stop fits untold.ran;
    after = untold.after;
    before = sink;
    written = untold.writes;
  }

  pub turning_ends : Turning text old new f g sink sunk (Ok false) → (unread old.files ≢ []) × (new ≡ without_typed end)
  turning_ends (inl more) = (more.some, text_ends once text old end (has more.some) new f g sink sunk more.answers)
  turning_ends (inr untold) =
      let coded = beyond_is_code untold.stop (untold_beyond old untold.after untold.stop fits untold.ran) in
      let never : false ≡ true = untold.told ∙ coded in absurd (cc)

-- ---- the edit
module _ (once : RunsEndOnce) (texts : TextsEnd) (order : Order) (strict : IsStrict order) where
  -- how the rest of an edit goes from where both files are open
  GoesWell : EditCourse → World → Type 0
  GoesWell More old =
      (new : World) (f g : ℕ) (sink sunk : Option (List ℕ)) (result : Result Edited SessionFault)
      → More old new f g sink sunk result → Well result sunk

  closes_well : (most : ℕ) (done : Tally) (old : World) → IsOpen most old.files → GoesWell (Closing done) old
  unfolding GoesWell
  closes_well most done old open_files new f g sink sunk result c =
      let output = output_there old.files.output open_files.output in
      let has : HasEnd closing old (world_copied old) =
      record { steps = 1; few = omega arith; ends = texts.copying old output.0 output.1 } in
      ended_well done c.line result sunk c.told
      (λ is. text_stops once closing old (world_copied old) has new f g sink sunk
      (subst (λ line. AnswersText closing old new f g sink sunk line) is c.closes))

  macro_well : (most : ℕ) (done : Tally) (More : Tally → EditCourse) (old : World) → IsOpen most old.files
      → ((tally : Tally) (mid : World) → IsOpen most mid.files → GoesWell (More tally) mid)
      → GoesWell (BehindMacro order done More) old
  unfolding GoesWell Well
  macro_well most done More old open_files more new f g sink sunk result
      (BehindMacro.stops (Ok (ran.On steps)) runs ends) = absurd ends
  macro_well most done More old open_files more new f g sink sunk result (BehindMacro.stops (Ok ran.Coded) runs ends) =
      subst (λ r. Well r sunk) (sym ends) (inr (macro_stops order strict most old new open_files f g sink sunk runs))
  macro_well most done More old open_files more new f g sink sunk result
      (BehindMacro.stops (Ok ran.Refused) runs ends) =
      subst (λ r. Well r sunk) (sym ends) (inl refl)
  macro_well most done More old open_files more new f g sink sunk result (BehindMacro.stops (Err cannot) runs ends) =
      subst (λ r. Well r sunk) (sym ends) tt
  macro_well most done More old open_files more new f g sink sunk result
      (BehindMacro.goes_on steps mid count written runs rest) =
      more (tally_after steps done) mid
      (macro_ends order strict most old mid open_files f count sink written runs.answers)
      new count g written sunk result rest

  -- one page
  once_well : (most : ℕ) (old : World) → IsOpen most old.files → GoesWell (Once order) old
  once_well most old open_files = macro_well most nothing_done Closing old open_files (closes_well most)

  -- ---- page after page
  pub turns : (old : World) → IsSome old.files.output → length (unread old.files) ≤ LIMIT
      → HasEnd turning old (next_page old)
  turns old output few =
      let o = output_there old.files.output output in
      record {
        steps = 1;
        few = omega arith;
        ends = texts.turning old o.0 o.1 (omega (arith, few, page_is_less (unread old.files)));
      }

  behind_page_well : (most : ℕ) (done : Tally) (old : World) → most ≤ LIMIT → IsOpen most old.files
      → GoesWell (BehindPage done) old
  unfolding GoesWell
  behind_page_well most done old small open_files new f g sink sunk result (BehindPage.closes none c) =
      closes_well most done old open_files new f g sink sunk result c
  behind_page_well most done old small open_files new f g sink sunk result (BehindPage.stops line not turned told) =
      ended_well done line result sunk told (λ is. turning_stops once turning old (next_page old)
      (omega (arith, small, open_files.few, page_is_less (unread old.files)))
      (λ some. turns old open_files.output (omega (arith, small, open_files.few))) new f g sink sunk
      (subst (λ line. Turning turning old new f g sink sunk line) is turned))

  -- so many pages are turned, and so much is unread
  pub record IsAt (most pages : ℕ) (world : World) : Type 0 where
    pub open_files : IsOpen most world.files
    pub few : pages + length (unread world.files) ≤ most

  turned_at : (most : ℕ) (old : World) → most ≤ LIMIT → IsOpen most old.files
      → (f : ℕ) (sink : Option (List ℕ)) (done : Tally)
      (mid : World) (k : ℕ) (written : Option (List ℕ)) → PagesTurned order old f sink done mid k written
      → IsAt most done.pages mid
  turned_at most old small open_files f sink done mid k written PagesTurned.none =
      record { open_files = open_files; few = omega (arith, open_files.few) }
  turned_at most old small open_files f sink done mid k written
      (PagesTurned.one_more before steps was edited _ m n _ w more _ turned runs turn) =
      let at = turned_at most old small open_files f sink before was m w turned in
      let here : IsOpen (length (unread was.files)) was.files =
      record { input = at.open_files.input; output = at.open_files.output; few = omega arith } in
      let left = macro_ends order strict (length (unread was.files)) was edited here m n w more runs.answers in
      let ends = turning_ends once turning edited (next_page edited)
      (omega (arith, small, at.few, left.few, page_is_less (unread edited.files)))
      (λ some. turns edited left.output (omega (arith, small, at.few, left.few))) mid n k more written turn in
      let next = turned_open most edited
      (record { input = left.input; output = left.output; few = omega (arith, left.few, at.few) }) in
      let same = ap length (behind_page edited.files) in
      subst (IsAt most (before.pages + 1)) (sym ends.1)
      (record {
        open_files = next;
        few = omega (
          arith,
          at.few,
          left.few,
          same,
          page_takes_one (unread edited.files) ends.0,
        );
      })

  each_well : (most : ℕ) (old : World) → most ≤ LIMIT → IsOpen most old.files → GoesWell (EachPage order) old
  unfolding GoesWell
  each_well most old small open_files new f g sink sunk result (EachPage.ends done mid count written turned rest) =
      let at = turned_at most old small open_files f sink done mid count written turned in
      macro_well most done BehindPage mid at.open_files
      (λ tally mid open_mid. behind_page_well most tally mid small open_mid) new count g written sunk result rest
  each_well most old small open_files new f g sink sunk result
      (EachPage.full done mid count written line turned is many told) =
      let at = turned_at most old small open_files f sink done mid count written turned in
      absurd (few_pages done.pages is (omega (arith, at.few, small)))

  -- ---- all pages as one
  -- so many pages are behind the first, and what is unread fits behind them, with a form feed between
  pub record Gathered (most pages : ℕ) (world : World) : Type 0 where
    pub at : IsAt most pages world
    pub room : unread world.files ≢ [] → length world.kept.text + 1 + length (unread world.files) ≤ most

  pub gathers : (most pages : ℕ) (old : World) → most ≤ LIMIT → Gathered most pages old → unread old.files ≢ []
      → HasEnd gathering old (gathered old)
  gathers most pages old small g some =
      let u = some_unread old.files.input some in
      record {
        steps = 5;
        few = omega arith;
        ends = texts.gathering old u.0 u.1 u.2 u.3 u.4
            (omega (
              arith,
              length-append (more_text old) (first_page (unread old.files)).text,
              more_length old,
              page_is_less (unread old.files),
              g.room some,
              small,
            ));
      }

  gathered_more : (most pages : ℕ) (old : World) → Gathered most pages old → unread old.files ≢ []
      → Gathered most (pages + 1) (gathered old)
  gathered_more most pages old g some =
      let same = ap length (behind_page old.files) in
      let room = g.room some in
      record {
        at = record {
          open_files = gathered_open most old g.at.open_files;
          few = omega (arith, g.at.few, same, page_takes_one (unread old.files) some);
        };
        room = λ more.
            let parts = page_parts (unread old.files) (λ none. more (behind_page old.files ∙ none)) in
            omega (
              arith,
              length-append (more_text old) (first_page (unread old.files)).text,
              more_length old,
              room,
              same,
              parts,
            );
      }

  pub untyped : (most pages : ℕ) (world : World) → Gathered most pages world → Gathered most pages (without_typed world)
  untyped most pages world g = record {
    at = record { open_files = g.at.open_files; few = g.at.few };
    room = g.room;
  }

  pub gathered_at : (most : ℕ) (old : World) → most ≤ LIMIT → Gathered most 0 old → (f : ℕ)
      (sink : Option (List ℕ)) (n : ℕ) (mid : World) (k : ℕ) (written : Option (List ℕ))
      → PagesGathered old f sink n mid k written → Gathered most n mid
  gathered_at most old small first f sink n mid k written PagesGathered.none = first
  gathered_at most old small first f sink n mid k written (PagesGathered.one_more before was _ m _ w _ turned turn) =
      let at = gathered_at most old small first f sink before was m w turned in
      let ends = turning_ends once gathering was (gathered was)
      (omega (arith, small, at.at.few, page_is_less (unread was.files)))
      (λ some. gathers most before was small at some) mid m k w written turn in
      subst (Gathered most (before + 1)) (sym ends.1)
      (untyped most (before + 1) (gathered was) (gathered_more most before was at ends.0))

  module _ (most : ℕ) (old : World) (small : most ≤ LIMIT) (first : Gathered most 0 old) (new : World) (f g : ℕ)
      (sink sunk : Option (List ℕ)) where
    gathering_stops : Gathers old new f g sink sunk (Ok true) → EndsBeyond sunk
    gathering_stops (Gathers.through n turned none is) = absurd (cc)
    gathering_stops (Gathers.stops n mid count written turned not turn) =
        let at = gathered_at most old small first f sink n mid count written turned in
        turning_stops once gathering mid (gathered mid)
        (omega (arith, small, at.at.few, page_is_less (unread mid.files)))
        (λ some. gathers most n mid small at some) new count g written sunk turn
    gathering_stops (Gathers.full mid count written turned many) =
        let at = gathered_at most old small first f sink PAGES mid count written turned in
        absurd (few_pages PAGES refl (omega (arith, at.at.few, small)))

    gathering_ends : Gathers old new f g sink sunk (Ok false) → IsOpen most new.files
    gathering_ends (Gathers.through n turned none is) =
        (gathered_at most old small first f sink n new g sunk turned).at.open_files
    gathering_ends (Gathers.stops n mid count written turned not turn) = absurd (not refl)
    gathering_ends (Gathers.full mid count written turned many) =
        let never : false ≡ true = many.told ∙ ap (λ why. is_code (code_of why)) many.ran.0 in absurd (cc)

  from_start_well : (most : ℕ) (old : World) → IsOpen most old.files → GoesWell (FromStart order) old
  unfolding GoesWell
  from_start_well most old open_files new f g sink sunk result (Behind.stops line not first told) =
      let has : HasEnd to_start old (at_start old) = record { steps = 1; few = omega arith; ends = texts.going old } in
      ended_well nothing_done line result sunk told
      (λ is. text_stops once to_start old (at_start old) has new f g sink sunk
      (subst (λ line. AnswersText to_start old new f g sink sunk line) is first))
  from_start_well most old open_files new f g sink sunk result (Behind.goes_on mid count written first rest) =
      let has : HasEnd to_start old (at_start old) = record { steps = 1; few = omega arith; ends = texts.going old } in
      let is = text_ends once to_start old (at_start old) has mid f count sink written first in
      once_well most mid (subst (λ (w : World). IsOpen most w.files) (sym is) open_files) new count g written sunk
      result rest

  all_well : (most : ℕ) (old : World) → most ≤ LIMIT → Gathered most 0 old → GoesWell (AllPages order) old
  unfolding GoesWell
  all_well most old small first new f g sink sunk result (Behind.stops line not gathers told) =
      ended_well nothing_done line result sunk told
      (λ is. gathering_stops most old small first new f g sink sunk
      (subst (λ line. Gathers old new f g sink sunk line) is gathers))
  all_well most old small first new f g sink sunk result (Behind.goes_on mid count written gathers rest) =
      from_start_well most mid (gathering_ends most old small first mid f count sink written gathers) new count g
      written sunk result rest

  pages_well : (pages : PageChoice) (most : ℕ) (old : World) → most ≤ LIMIT → Gathered most 0 old
      → GoesWell (EditsPages pages order) old
  pages_well pages.First most old small first = once_well most old first.at.open_files
  pages_well pages.Each most old small first = each_well most old small first.at.open_files
  pages_well pages.Whole most old small first = all_well most old small first

  -- ---- the whole
  no_escape : (a b : Bool) → (not a && not b) ≡ true → (a ≡ false) × (b ≡ false)
  no_escape false false is = (refl, refl)
  no_escape false true is = absurd (cc)
  no_escape true b is = absurd (cc)

  not_equal : (xs ys : List ℕ) → xs ≢ ys → bytes_eq xs ys ≡ false
  not_equal xs ys apart = by (bytes_eq xs ys) refl
    where
      by : (b : Bool) → bytes_eq xs ys ≡ b → bytes_eq xs ys ≡ false
      by true is = absurd (apart ((bytes_eq-Decides xs ys).0 is))
      by false is = is

  -- where both are open, and the first page is in the buffer
  pub opened_first : (source target bytes : List ℕ) (old : World)
      → Gathered (length bytes) 0 (opened source target bytes old)
  unfolding opened
  opened_first source target bytes old = record {
    at = record {
      open_files = record { input = refl; output = refl; few = omega (arith, behind_is_less bytes) };
      few = omega (arith, behind_is_less bytes);
    };
    room = λ some. let parts = page_parts bytes some in omega (arith, parts);
  }

  pub opening_has : (source target : List ℕ) (old : World) (can : CanBegin source target old)
      → HasEnd (opening source target) old (opened source target can.bytes old)
  opening_has [] target old can = absurd (can.names.given.0 refl)
  opening_has (c ∷ front) [] old can = absurd (can.names.given.1 refl)
  opening_has (c ∷ front) (d ∷ back) old can =
      let plain = no_escape (has_esc (c ∷ front)) (has_esc (d ∷ back)) can.names.plain in
      record {
        steps = 3;
        few = omega arith;
        ends = opening_ends c d front back can.bytes old plain.0 plain.1
            (not_equal (d ∷ back) (c ∷ front) can.names.apart)
            can.there (omega (arith, can.fits, page_is_less can.bytes)) can.empty can.free;
      }

  edit_well : (pages : PageChoice) (source target : List ℕ) (old : World) → CanBegin source target old
      → GoesWell (EditsText pages order (opening source target)) old
  unfolding GoesWell
  edit_well pages source target old can new f g sink sunk result (Behind.stops line not first told) =
      ended_well nothing_done line result sunk told
      (λ is. text_stops once (opening source target) old (opened source target can.bytes old)
      (opening_has source target old can) new f g sink sunk
      (subst (λ line. AnswersText (opening source target) old new f g sink sunk line) is first))
  edit_well pages source target old can new f g sink sunk result (Behind.goes_on mid count written first rest) =
      let is = text_ends once (opening source target) old (opened source target can.bytes old)
      (opening_has source target old can) mid f count sink written first in
      pages_well pages (length can.bytes) mid can.fits
      (subst (Gathered (length can.bytes) 0) (sym is)
      (untyped (length can.bytes) 0 (opened source target can.bytes old)
      (opened_first source target can.bytes old)))
      new count g written sunk result rest

pub strict_cannot_fail : RunsEndOnce → TextsEnd → (order : Order) → IsStrict order → CannotFail order
unfolding GoesWell Well
strict_cannot_fail once texts order strict pages source target old new f g sink sunk edited can e =
    edit_well once texts order strict pages source target old can e.edited f e.count sink sunk (Ok edited) e.edits
