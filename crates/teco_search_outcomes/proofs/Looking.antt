-- N and FN.
use Rattle.teco_search_outcomes.proofs.Prelude.{◌≡◌, ℕ, zero, suc, ◌+◌, ◌==◌, ◌<◌, ◌≤◌, inl, inr, ℤ, pos, negsuc, ◌≤ℤ◌}
use Rattle.teco_search_outcomes.proofs.Prelude.{List, [], ◌∷◌, ◌++◌, length, Bool, true, false, is_some, not, Option}
use Rattle.teco_search_outcomes.proofs.Prelude.{Some, None, option_map, Result, Ok, Err, refl, sym, ap, if◌then◌else◌}
use Rattle.teco_search_outcomes.proofs.Prelude.{nat_le, unwrap_or, subst, ◌∙◌, arith, length-append, ◌-ℤ◌, nat_tests}
use Rattle.teco_search_outcomes.proofs.Prelude.{ints, get_or_append_left, All, Any, ok_or, option_map_or, flat_map}
use Rattle.teco_search_outcomes.proofs.Prelude.{line_place, text_after_replacement, LIMIT, FF, Code, Term, Valuation}
use Rattle.teco_search_outcomes.proofs.Prelude.{Arguments, levels_after_taking, no_arguments, ◌>>=◌, is_zero, Element}
use Rattle.teco_search_outcomes.proofs.Prelude.{element_at, Input, Output, before_form_feed, behind_first_page}
use Rattle.teco_search_outcomes.proofs.Prelude.{behind_form_feed, first_page, written_page, files_behind_page}
use Rattle.teco_search_outcomes.proofs.Prelude.{kept_with_page, needed_output, page_of_buffer, page_turned, unread}
use Rattle.teco_search_outcomes.proofs.Prelude.{world_after_writing, Pattern, items_of, parts, pattern, kept_after}
use Rattle.teco_search_outcomes.proofs.Prelude.{kept_at, pattern_of, search_text_of, Miss, miss_of, miss_where}
use Rattle.teco_search_outcomes.proofs.Prelude.{search_reply, Kept, State, World, outcome_at, reply_of, step, Search}
use Rattle.teco_search_outcomes.proofs.Prelude.{FindInPages, ReplaceInPages, Part, Span, IsFirstFrom, IsMatch, AreBytes}
use Rattle.teco_search_outcomes.proofs.Prelude.{IsWhole, Case, TakenForms, One, Single, Steps, Pointer, Size, Held}
use Rattle.teco_search_outcomes.proofs.Prelude.{LineEnd, LineStart, LastLength, CodeHere, CodeBefore, Typed, EntryHeld}
use Rattle.teco_search_outcomes.proofs.Prelude.{Guarded}
use Rattle.teco_search_outcomes.proofs.Prelude.{Outcomes, Places, Agree, value_if, IsTaken, Describe, IsGuarded}
use Rattle.teco_search_outcomes.proofs.Prelude.{Succeeds, changed, Origin, Point, IsTrueOf, Describes, single}
use Rattle.teco_search_outcomes.proofs.Prelude.{with_codes, among, line_begin, line_end, IsChangedFrom, read_given}
use Rattle.teco_search_outcomes.proofs.Prelude.{with_kept, Goes, StepsTo, loops_in, place_away, point_of, unread_in}
use Rattle.teco_search_outcomes.proofs.Prelude.{Ahead, Ends, IsAsked, IsFoundBy, IsOf, IsReplacedBy, warned}
use Rattle.std.specs.Prelude.{MatchOption, IfSome}
use Rattle.teco_base.specs.declared.code.Code.TheVariants as code
use Rattle.teco_linear.specs.Implied as linear
use Rattle.teco_model.specs.Files.{with_written}
use Rattle.teco_model.specs.Going as going
use Rattle.teco_model.specs.Match.{first_from}
use Rattle.teco_model.specs.Paging.{Looked, Met, MetHere, Through, Turned, here_of}
use Rattle.teco_model.specs.Paging.{look_first, look_for, looked_on, looked_through, page_count}
use Rattle.teco_model.specs.Paging.{page_looked_for}
use Rattle.teco_model.specs.Paging.{world_seeking}
use Rattle.teco_model.specs.Paging as paging
use Rattle.teco_model.specs.Searching.{found_in_pages, looked, looking, missed}
use Rattle.teco_model.specs.Searching as miss
use Rattle.teco_model.specs.State.{Outcome}
use Rattle.teco_model.specs.declared.kind.Kind.TheVariants as kind
use Rattle.teco_model.specs.declared.pattern.Sought.{Sought}
use Rattle.teco_model.specs.declared.pattern.Sought.TheVariants.{Last, Wanted}
use Rattle.teco_model.specs.laws.Matching.{HasNoneFrom}
use Rattle.teco_model.proofs.Searches.{first_finds}
use Rattle.teco_rows.specs.Foretold.{Begins}
use Rattle.teco_motion_outcomes.specs.Changes.{DescribesFrom, with_steps}
use Rattle.teco_motion_outcomes.proofs.Changing.{changes_later}
use Rattle.teco_flow_outcomes.specs.Flow.{turned as turned_point}
use Rattle.teco_search_outcomes.specs.declared.page_searches.TheConstants.{LATER_PAGE, THROUGH}
use Rattle.teco_search_outcomes.specs.PageSearches.{Comes, HasMore, HasPageRoom, IsBegunInPages}
use Rattle.teco_search_outcomes.specs.PageSearches.{IsLaterPage, IsPositive, IsThrough, LongLaw}
use Rattle.teco_search_outcomes.specs.Searches.{HaveRoom}
use Rattle.teco_search_outcomes.specs.declared.page_searches.BegunInPages.{BegunInPages}
use Rattle.teco_search_outcomes.proofs.Matching.{match_lies}
use Rattle.teco_search_outcomes.proofs.Paging.{behind_there, fits, got, split, unread_there}
use Rattle.teco_search_outcomes.proofs.Seeking.{Keeps, left_by, nonempty, own_text}

-- ---- what is unread is of bytes, and so are its pages
bytes_if : (x : Bool) (b : ℕ) (page : List ℕ) → b < 256 → AreBytes page → AreBytes (if x then [] else b ∷ page)
bytes_if true b page h k = tt
bytes_if false b page h k = (h, k)

bytes_before : (bytes : List ℕ) → AreBytes bytes → AreBytes (before_form_feed bytes)
bytes_before [] h = tt
bytes_before (b ∷ bytes) h = bytes_if (b == FF) b _ h.0 (bytes_before bytes h.1)

rest_if : (x : Bool) (bytes rest : List ℕ) → AreBytes bytes → AreBytes rest → AreBytes (if x then bytes else rest)
rest_if true bytes rest h k = h
rest_if false bytes rest h k = k

bytes_behind : (bytes : List ℕ) → AreBytes bytes → AreBytes (behind_form_feed bytes)
bytes_behind [] h = tt
bytes_behind (b ∷ bytes) h = rest_if (b == FF) bytes _ h.1 (bytes_behind bytes h.1)

input_bytes : (o : Option Input) → IfSome o (λ (input : Input). AreBytes input.unread)
    → AreBytes (option_map_or (λ (input : Input). input.unread) o [])
input_bytes None h = tt
input_bytes (Some input) h = h

unread_behind : (o : Option Input)
    → option_map_or (λ (input : Input). input.unread) (option_map (λ (input : Input). record input {
      unread = behind_first_page input.unread;
    }) o) []
    ≡ behind_form_feed (option_map_or (λ (input : Input). input.unread) o [])
unread_behind None = refl
unread_behind (Some input) = refl

still_open : (bytes : List ℕ) (o : Option Output) → is_some o ≡ true → is_some (with_written bytes o) ≡ true
still_open bytes None h = h
still_open bytes (Some output) h = refl

-- ---- what so many matches come to
abbrev Lies : Pattern → List ℕ → ℕ → Sought → Type 0
Lies p text at (Last span) = IsMatch p text span × (at ≤ span.start)
Lies p text at (Wanted m) = 1 ≤ m

lies_later : (p : Pattern) (text : List ℕ) (a b : ℕ) → a ≤ b → (q : Sought) → Lies p text b q → Lies p text a q
lies_later p text a b h (Last span) l = (l.0, omega (arith, l.1))
lies_later p text a b h (Wanted m) l = l

lies_one : (p : Pattern) (text : List ℕ) (at : ℕ) (o : Option Span)
    → MatchOption o (HasNoneFrom p text at) (IsFirstFrom p text at) → Lies p text at (option_map_or Last o (Wanted 1))
lies_one p text at None f = omega arith
lies_one p text at (Some span) f = (f.matches, f.from)

sought_more : (p : Pattern) (text : List ℕ) (n at : ℕ) (o : Option Span)
    → MatchOption o (HasNoneFrom p text at) (IsFirstFrom p text at)
    → ((place : ℕ) → Lies p text place (paging.sought p text place (suc n)))
    → Lies p text at (option_map_or (λ (span : Span). paging.sought p text span.end (suc n)) o
    (Wanted (suc (suc n))))
sought_more p text n at None f later = omega arith
sought_more p text n at (Some span) f later =
    lies_later p text at span.end (omega (arith, f.from, (match_lies p text span f.matches).some)) _ (later span.end)

sought_lies : (p : Pattern) (text : List ℕ) (n at : ℕ) → Lies p text at (paging.sought p text at (suc n))
sought_lies p text zero at = lies_one p text at (first_from p text at) (first_finds p text at)
sought_lies p text (suc n) at =
    sought_more p text n at (first_from p text at) (first_finds p text at) (λ place. sought_lies p text n place)

-- ---- a look at the buffer, and a page turned where nothing is found
abbrev turned_world : World → World
turned_world world = world_after_writing (written_page (page_of_buffer world.kept)) (record {
  kept = kept_with_page (first_page (unread world.files)) world.kept;
  files = files_behind_page world.files;
})

turned_is : (world : World) → length (unread world.files) ≤ LIMIT → page_turned world ≡ Ok (turned_world world)
turned_is world h =
    ap (λ r. ((r >>= (λ text. Ok (kept_with_page (first_page (unread world.files)) world.kept)))
    >>= (λ kept. Ok (record { kept = kept; files = files_behind_page world.files })))
    >>= (λ turned. Ok (world_after_writing (written_page (page_of_buffer world.kept)) turned)))
    (fits (before_form_feed (unread world.files)) (omega (arith, h, (split (unread world.files)).within)))

module _ (x : Search) (e : Element) (world : World) (items : Pattern)
    (pattern_is : pattern_of world.kept.search_text world.kept ≡ Ok items)
    (open' : is_some world.files.output ≡ true) (short : length (unread world.files) ≤ LIMIT) (R : Looked → Type 0)
    (met : (span : Span) → IsMatch items world.kept.text span → world.kept.pointer ≤ span.start
    → (kept : Kept) × (kept_after x e span world.kept ≡ Ok kept) × R (Met (record world { kept = kept })))
    (through : length (unread world.files) ≡ 0 → R (Through world))
    (on : (m : ℕ) → 1 ≤ m → 1 ≤ length (unread world.files) → R (Turned m (turned_world world))) where
  by_bytes : (m : ℕ) → 1 ≤ m → (bytes : List ℕ) → unread world.files ≡ bytes
      → Succeeds R (page_looked_for bytes m world)
  by_bytes m h [] is = through (ap length is)
  by_bytes m h (c ∷ bytes) is =
      subst (λ r. Succeeds R (r >>= (λ turned. Ok (Turned m turned)))) (sym (turned_is world short))
      (on m h (omega (arith, ap length is)))

  by_sought : (q : Sought) → Lies items world.kept.text world.kept.pointer q
      → Succeeds R (here_of x e world.kept q >>= (λ here. looked_on here world))
  by_sought (Last span) l =
      let k = met span l.0 l.1 in
      subst (λ r. Succeeds R ((r >>= (λ met. Ok (MetHere met))) >>= (λ here. looked_on here world))) (sym k.1) k.2
  by_sought (Wanted m) l =
      let out : needed_output world ≡ Ok (got world.files.output open').0 =
      ap (λ o. ok_or o code.Nfo) (got world.files.output open').1 in
      subst (λ r. Succeeds R (r >>= (λ output. page_looked_for (unread world.files) m world))) (sym out)
      (by_bytes m l (unread world.files) refl)

  looks : (w : ℕ) → Succeeds R (look_for x e (suc w) world)
  looks w =
      subst (λ r. Succeeds R ((r >>= (λ p. here_of x e world.kept (paging.sought p world.kept.text world.kept.pointer
      (suc w)))) >>= (λ here. looked_on here world))) (sym pattern_is)
      (by_sought (paging.sought items world.kept.text world.kept.pointer (suc w))
      (sought_lies items world.kept.text w world.kept.pointer))

-- ---- cases of later pages
abbrev page_numbers : ℕ → Kept → ℕ → ℕ → ℤ
page_numbers pages kept rest zero = pos (length kept.text)
page_numbers pages kept rest (suc zero) = pos rest
page_numbers pages kept rest (suc (suc zero)) = pos (line_place kept.text 0 (pos 1))
page_numbers pages kept rest (suc (suc (suc i))) = pos pages

pub is_later_page : (case made : Case) → IsChangedFrom case LATER_PAGE [] made → IsLaterPage case made
is_later_page case made changes n v s pages kept rest true_of h =
    changes n v s (s.steps + pages) kept rest (with_codes kept.text kept.pointer (page_numbers pages kept rest)) true_of
    (λ here.
    changes_later LATER_PAGE (read_given [] n v s (with_codes kept.text kept.pointer (page_numbers pages kept rest))
    here) s (s.steps + pages) kept rest
    h.registers refl (
      omega (arith, ints, h.some),
      (
        omega (arith, ints, h.left),
        (
          omega (arith, ints, h.within),
          (omega (arith, ints), (omega (arith, ints), (omega (arith, ints), (omega (arith, ints, end), tt)))),
        ),
      ),
    ) (singles here)) where
      end : line_place kept.text 0 (pos 1) ≤ length kept.text
      end = (line_end kept.text 0 (omega arith)).within

      start : line_place kept.text 0 (pos 0) ≤ 0
      start = (line_begin kept.text 0).before

      at : (k : ℤ) → line_place kept.text kept.pointer k ≡ line_place kept.text 0 k
      at k = ap (λ p. line_place kept.text p k) h.pointer

      singles : (here : Places) (which : Single) → Some (single (with_steps s (s.steps + pages) kept rest) which)
          ≡ changed LATER_PAGE (read_given [] n v s (with_codes kept.text kept.pointer (page_numbers pages kept rest))
          here) (One which)
          (Some (single s which))
      singles here Steps = ap Some (omega (arith, ints))
      singles here Pointer = ap Some (omega (arith, ints, h.pointer))
      singles here Size = ap Some (omega (arith, ints))
      singles here Held = ap Some (omega (arith, ints))
      singles here LineEnd = ap Some (omega (arith, ints, at (pos 1)))
      singles here LineStart = ap Some (omega (arith, ints, at (pos 0), start))
      singles here LastLength = ap (λ k. Some (pos k)) h.last
      singles here CodeHere = ap Some (omega (arith, ints))
      singles here CodeBefore = ap Some (omega (arith, ints))
      singles here Typed = ap (λ x. Some (pos (length x) -ℤ pos s.origin.typed)) h.typed
      singles here EntryHeld = refl

pub is_through : (case made : Case) → IsChangedFrom case THROUGH [] made → IsThrough case made
is_through case made changes n v s pages kept rest true_of h =
    let d = changes n v s (s.steps + pages) kept rest (with_codes kept.text kept.pointer (λ i. pos pages)) true_of
    (λ here.
    changes_later THROUGH (read_given [] n v s (with_codes kept.text kept.pointer (λ i. pos pages)) here) s
    (s.steps + pages) kept rest h.registers refl
    (omega (arith, ints), (omega (arith, ints, h.left), tt)) (singles here)) in
    (d.0, d.2) where
      empty : length kept.text ≡ 0
      empty = ap length h.text

      end : line_place [] 0 (pos 1) ≤ 0
      end = (line_end [] 0 (omega arith)).within

      start : line_place [] 0 (pos 0) ≤ 0
      start = (line_begin [] 0).before

      at : (k : ℤ) → line_place kept.text kept.pointer k ≡ line_place [] 0 k
      at k = ap (λ t. line_place t kept.pointer k) h.text ∙ ap (λ p. line_place [] p k) h.pointer

      singles : (here : Places) (which : Single) → Some (single (with_steps s (s.steps + pages) kept rest) which)
          ≡ changed THROUGH (read_given [] n v s (with_codes kept.text kept.pointer (λ i. pos pages)) here) (One which)
          (Some (single s which))
      singles here Steps = ap Some (omega (arith, ints))
      singles here Pointer = ap Some (omega (arith, ints, h.pointer))
      singles here Size = ap Some (omega (arith, ints, empty))
      singles here Held = ap Some (omega (arith, ints, empty, h.none))
      singles here LineEnd = ap Some (omega (arith, ints, at (pos 1), end))
      singles here LineStart = ap Some (omega (arith, ints, at (pos 0), start))
      singles here LastLength = ap (λ k. Some (pos k)) h.last
      singles here CodeHere = ap Some (omega (arith, ints))
      singles here CodeBefore = ap Some (omega (arith, ints))
      singles here Typed = ap (λ x. Some (pos (length x) -ℤ pos s.origin.typed)) h.typed
      singles here EntryHeld = refl

-- what is found on a later page is kept, and a case describes the state with it
abbrev pub KeepsLater : Search → Element → List Part → Case → Case → Case → List Guarded → Type 0
KeepsLater x e ps case on later guarded =
    (n : ℕ) (v : Valuation) (t : Point) (span : Span) → DescribesFrom n case v on t → IsWhole t.kept
    → All (IsGuarded n v) guarded → IsOf ps Ahead t.kept span
    → (kept : Kept) × (kept_after x e span t.kept ≡ Ok kept) × Describes n later (with_kept t kept)

pub keeps_found_later : (e : Element) (case on later : Case) (ps : List Part) (guarded : List Guarded)
    → IsFoundBy ps Ahead on later → KeepsLater FindInPages e ps case on later guarded
keeps_found_later e case on later ps guarded by n v t span d whole holds of =
    let kept = kept_at span t.kept in (
      kept,
      refl,
      by n d.0 t span kept d.2 whole of
          (record { text = refl; pointer = refl; registers = refl; last = refl; typed = refl }),
    )

pub keeps_replaced_later : (e : Element) (case on later : Case) (ps : List Part) (guarded : List Guarded)
    → case.symbols ≤ on.symbols → IsReplacedBy ps Ahead e.second on later → HaveRoom case later guarded
    → KeepsLater ReplaceInPages e ps case on later guarded
keeps_replaced_later e case on later ps guarded more by room n v t span d whole holds of =
    let new = text_after_replacement t.kept.text span.start span.end e.second in
    let kept = record t.kept {
      text = new;
      pointer = span.start + length e.second;
      last_length = length e.second;
    } in
    let made = by n d.0 t span kept d.2 whole of
    (record { text = refl; pointer = refl; registers = refl; last = refl; typed = refl })
    in
    let agree : Agree case.symbols v made.0 = λ symbol less. d.1 symbol less ∙ made.1 symbol (omega arith) in
    let short : length new ≤ LIMIT = room n v (with_kept t kept) (made.0, agree, made.2) holds in
    let few : nat_le (length new) LIMIT ≡ true = grind (arith, nat_tests) in (
      kept,
      ap (λ b. if b then Ok kept else Err code.Ful) few,
      (made.0, made.2),
    )

-- ---- outcomes with one case more
kept_case : (n : ℕ) (old new : Outcomes) (later : Case) (t : Point) → new.cases.items ≡ old.cases.items ++ later ∷ []
    → Describe n old t → Describe n new t
kept_case n old new later t is d =
    subst (Any (λ made. Describes n made t)) (sym is) (
      d.0,
      d.1,
      omega (arith, d.2, length-append old.cases.items (later ∷ [])),
      get_or_append_left old.cases.items (later ∷ []) d.1 d.0 d.2 ∙ d.3,
      d.4,
    )

pub more_here : (answering : Bool) (later here gone : Case) (old new : Outcomes) → HasMore answering later old new
    → Ends answering here gone old → Ends answering here gone new
more_here true later here gone old new more ends = record {
  yes = λ n s d. kept_case n old new more.case _ more.cases (ends.yes n s d);
  no = λ n s d. kept_case n old new more.case _ more.cases (ends.no n s d);
}
more_here false later here gone old new more ends = record {
  on = λ n s d. kept_case n old new more.case _ more.cases (ends.on n s d);
  out = λ n s loop outer d h.
      subst (Any (λ made. Describes n made (turned_point (warned s) no_arguments outer))) (sym more.away)
      (ends.out n s loop outer d h);
}

pub more_later : (answering : Bool) (later here gone : Case) (old new : Outcomes) → HasMore answering later old new
    → Ends answering here gone old → Ends answering later gone new
more_later true later here gone old new more ends = record {
  yes = λ n s d. among n new more.case old.cases.items [] _ more.cases (more.told n d.0 s d.1);
  no = λ n s d. kept_case n old new more.case _ more.cases (ends.no n s d);
}
more_later false later here gone old new more ends = record {
  on = λ n s d. among n new more.case old.cases.items [] _ more.cases (more.told n d.0 s d.1);
  out = λ n s loop outer d h.
      subst (Any (λ made. Describes n made (turned_point (warned s) no_arguments outer))) (sym more.away)
      (ends.out n s loop outer d h);
}

-- ---- what a step leaves
abbrev pattern_by : World → List Part → Pattern
pattern_by world ps = flat_map (items_of world.kept.registers (not (is_zero world.kept.mode))) ps

reads_pattern : (e : Element) (ps : List Part) (world : World) → world.kept.search_text ≡ e.text
    → parts e.text ≡ Ok ps → pattern_of world.kept.search_text world.kept ≡ Ok (pattern_by world ps)
reads_pattern e ps world text read =
    let exact = not (is_zero world.kept.mode) in
    ap (λ t. pattern world.kept.registers exact t) text
    ∙ ap (λ r. r >>= (λ qs. Ok (flat_map (items_of world.kept.registers exact) qs))) read

counted : (x : ℤ) → pos 1 ≤ℤ x → (w : ℕ) × (page_count x ≡ Ok (suc w))
counted (pos zero) h = absurd (omega (arith, ints))
counted (pos (suc w)) h = (w, refl)
counted (negsuc w) h = absurd (omega (arith, ints))

none_first : (o : Option (List Term)) (n : ℕ) (v : Valuation) → is_some o ≡ false → value_if o n v ≡ None
none_first None n v h = refl
none_first (Some form) n v h = absurd cc

-- what is so of each state of a search, so many pages behind its begin
record Onward (u pages : ℕ) (s : State) (e : Element) (world : World) : Type 0 where
  left : pages + unread_in world.files.input ≤ u
  registers : world.kept.registers ≡ s.world.kept.registers
  last : world.kept.last_length ≡ s.world.kept.last_length
  typed : world.kept.typed ≡ s.world.kept.typed
  seeks : world.kept.search_text ≡ e.text
  whole : IsWhole world.kept
  bytes : AreBytes (unread world.files)
  writes : is_some world.files.output ≡ true

-- a page more is turned
module _ (u pages : ℕ) (s : State) (e : Element) (world : World) (on : Onward u pages s e world) (short : u ≤ LIMIT)
    (some : 1 ≤ length (unread world.files)) where
  there : unread_in world.files.input ≡ length (unread world.files)
  there = unread_there world.files.input

  behind : unread_in (turned_world world).files.input ≡ length (behind_form_feed (unread world.files))
  behind = behind_there world.files.input

  page_fits : length (before_form_feed (unread world.files)) ≤ LIMIT
  page_fits = omega (arith, there, on.left, (split (unread world.files)).within)

  onward : Onward u (pages + 1) s e (turned_world world)
  onward = record {
    left = omega (arith, there, behind, on.left, (split (unread world.files)).less some);
    registers = on.registers;
    last = on.last;
    typed = on.typed;
    seeks = on.seeks;
    whole = record {
      inside = omega arith;
      within = page_fits;
      bytes = bytes_before (unread world.files) on.bytes;
      count = on.whole.count;
      pairs = on.whole.pairs;
      stack = on.whole.stack;
      last = on.whole.last;
      mode = on.whole.mode;
    };
    bytes = subst AreBytes (sym (unread_behind world.files.input)) (bytes_behind (unread world.files) on.bytes);
    writes = still_open (written_page (page_of_buffer world.kept)) world.files.output on.writes;
  }

  page_within : length (turned_world world).kept.text + unread_in (turned_world world).files.input ≤ u
  page_within = omega (arith, there, behind, on.left, (split (unread world.files)).within)

-- ---- the search
module _ (x : Search) (answering : Bool) (e : Element) (taken : TakenForms) (case on here later gone : Case)
    (all : Outcomes) (ps : List Part)
    (replies : (m : Miss) (left : Option ℕ) (arguments : Arguments) (world : World)
    → search_reply x e m left arguments world ≡ found_in_pages x e m left arguments world)
    (is : e.kind ≡ kind.Search x) (takes : IsTaken case taken) (first : is_some taken.first ≡ false)
    (some : 1 ≤ length e.text) (read : parts e.text ≡ Ok ps)
    (positive : IsPositive taken.value all.conditions.items)
    (room : (n : ℕ) (v : Valuation) (s : Point) → IsTrueOf n v case s → All (linear.Holds n v) all.conditions.items
    → s.unread ≤ LIMIT)
    (later_page : IsLaterPage case on) (passes : IsThrough case gone)
    (meets : Keeps x e ps Ahead case here all.guarded.items)
    (meets_later : KeepsLater x e ps case on later all.guarded.items) (ends : Ends answering here gone all)
    (ends_later : Ends answering later gone all) (n : ℕ) (v : Valuation) (s : State) (steps : ℕ) (origin : Origin)
    (reads : element_at s.frames.running.text s.frames.running.place ≡ Ok (Some e))
    (asked : IsAsked answering e s.frames.running) (starts : s.left ≡ None)
    (begins : Begins n v case all (point_of steps origin s)) where
  abbrev point : Point
  point = point_of steps origin s

  abbrev U : ℕ
  U = unread_in s.world.files.input

  abbrev left_arguments : Arguments
  left_arguments = levels_after_taking s.arguments

  abbrev m : Miss
  m = miss_of e s.frames.running

  short : U ≤ LIMIT
  short = room n v point begins.true_of begins.conditions

  -- the state in which so many more are wanted
  abbrev state_at : World → Option ℕ → State
  state_at world left = record { world = world; arguments = left_arguments; frames = s.frames; left = left }

  -- so many pages later, and so many steps more, a case describes the state behind the last
  abbrev Q : ℕ → Outcome → Type 0
  Q pages outcome =
      (more total : ℕ) × (total ≡ pages + more) × Comes more (Goes n all e (steps + total) origin s) s outcome

  abbrev settled : Looked → Outcome
  settled look = going.settle e s (Ok (looked m left_arguments look))

  by_result : (pages : ℕ) (t : State) (r : Result Looked Code)
      → Succeeds (λ look. Q pages (going.settle e t (Ok (looked m left_arguments look)))) r
      → Q pages (going.settle e t (looking m left_arguments r))
  by_result pages t (Ok look) h = h
  by_result pages t (Err c) h = absurd h

  -- a match is met
  met_goes : (b : Bool) → IsAsked b e s.frames.running → (found : Case) → Ends b found gone all → (k : ℕ)
      (world : World)
      → Describes n found (with_steps point k world.kept (unread_in world.files.input))
      → StepsTo (Goes n all e k origin s)
      (going.settle e s (Ok (miss.met m None left_arguments world)))
  met_goes true a found h k world d =
      subst (λ m. StepsTo (Goes n all e k origin s) (going.settle e s (Ok (miss.met m None left_arguments world))))
      (sym (ap (λ b. miss_where b e s.frames.running) a))
      (inl (record {
        described = h.yes n (with_steps point k world.kept (unread_in world.files.input)) d;
        there = refl;
        left = sym starts;
      }))
  met_goes false a found h k world d =
      let l = nonempty s.frames.running.loops a.1 in
      subst (λ m. StepsTo (Goes n all e k origin s) (going.settle e s (Ok (miss.met m None left_arguments world))))
      (sym (left_by x e s.frames.running l.0 l.1 a.2 is a.0 l.2 a.3))
      (inl (record {
        described = h.on n (with_steps point k world.kept (unread_in world.files.input)) d;
        there = refl;
        left = sym starts;
      }))

  -- no page is left
  emptied : (pages : ℕ) (world : World) (kept : Kept) → Onward U pages s e world → length (unread world.files) ≡ 0
      → kept.text ≡ [] → kept.pointer ≡ 0 → kept.registers ≡ world.kept.registers
      → kept.last_length ≡ world.kept.last_length → kept.typed ≡ world.kept.typed
      → Describes n gone (with_steps point (steps + pages) kept (unread_in world.files.input))
  emptied pages world kept o none text pointer registers last typed =
      passes n v point pages kept (unread_in world.files.input) begins.true_of (record {
        left = omega (arith, o.left);
        none = unread_there world.files.input ∙ none;
        text = text;
        pointer = pointer;
        registers = registers ∙ o.registers;
        last = last ∙ o.last;
        typed = typed ∙ o.typed;
      })

  through_goes : (b : Bool) → IsAsked b e s.frames.running → (found : Case) → Ends b found gone all → (pages : ℕ)
      (world : World) → Onward U pages s e world → length (unread world.files) ≡ 0
      → StepsTo (Goes n all e (steps + pages) origin s) (settled (Through world))
  through_goes true a found h pages world o none =
      let kept = (looked_through world).kept in
      subst (λ m. StepsTo (Goes n all e (steps + pages) origin s)
      (going.settle e s (Ok (missed m None left_arguments world (looked_through world)))))
      (sym (ap (λ b. miss_where b e s.frames.running) a))
      (inl (record {
        described = h.no n (with_steps point (steps + pages) kept (unread_in world.files.input))
            (emptied pages world kept o none refl refl refl refl refl);
        there = refl;
        left = sym starts;
      }))
  through_goes false a found h pages world o none =
      let kept = (looked_through world).kept in
      let l = nonempty s.frames.running.loops a.1 in
      subst (λ m. StepsTo (Goes n all e (steps + pages) origin s)
      (going.settle e s (Ok (missed m None left_arguments world (looked_through world)))))
      (sym (left_by x e s.frames.running l.0 l.1 a.2 is a.0 l.2 a.3))
      (inr (
        a.2,
        ap (λ k. place_away k e s.frames.running) is ∙ a.3,
        record {
          described = h.out n (with_steps point (steps + pages) kept (unread_in world.files.input)) l.0
              (l.1 ++ loops_in s.frames.callers) (emptied pages world kept o none refl refl refl refl refl)
              (ap (λ ls. ls ++ loops_in s.frames.callers) l.2);
          there = refl;
          left = sym starts;
        },
      ))

  -- a step in which so many are wanted still
  stepped : (world : World) (w : ℕ)
      → step (state_at world (Some (suc w)))
      ≡ going.settle e (state_at world (Some (suc w))) (looking m left_arguments (look_for x e (suc w) world))
  unfolding step reply_of
  stepped world w =
      let t = state_at world (Some (suc w)) in
      ap (outcome_at t) reads ∙ ap (λ k. going.settle e t (reply_of k e t)) is
      ∙ ap (going.settle e t) (replies m (Some (suc w)) left_arguments world)

  -- a page is turned
  turned_on : (pages : ℕ) (world : World) (o : Onward U pages s e world) → 1 ≤ length (unread world.files) → (k : ℕ)
      → 1 ≤ k
      → ((w : ℕ) → Q (pages + 1) (step (state_at (turned_world world) (Some (suc w)))))
      → Q pages (settled (Turned k (turned_world world)))
  turned_on pages world o some zero h later = absurd (omega arith)
  turned_on pages world o some (suc w) h later =
      let rest = later w in (
        suc rest.0,
        rest.1,
        omega (arith, rest.2),
        (
          record {
            frames = refl;
            left = refl;
            registers = o.registers;
            held = omega (arith, page_within U pages s e world o short some);
          },
          rest.3,
        ),
      )

  -- what is met on a later page
  found_later : (pages : ℕ) (world : World) (o : Onward U pages s e world) → 1 ≤ pages → world.kept.pointer ≡ 0
      → length world.kept.text + unread_in world.files.input ≤ U
      → (span : Span) → IsMatch (pattern_by world ps) world.kept.text span → world.kept.pointer ≤ span.start
      → (kept : Kept) × (kept_after x e span world.kept ≡ Ok kept)
      × Q pages (settled (Met (record world { kept = kept })))
  found_later pages world o one at within span matches from =
      let t = with_steps point (steps + pages) world.kept (unread_in world.files.input) in
      let d = later_page n v point pages world.kept (unread_in world.files.input) begins.true_of (record {
        some = one;
        left = o.left;
        within = within;
        pointer = at;
        registers = o.registers;
        last = o.last;
        typed = o.typed;
      }) in
      let k = meets_later n v t span d o.whole begins.guarded
      (record { exact = not (is_zero world.kept.mode); matches = matches; lies = from }) in (
        k.0,
        k.1,
        (
          0,
          pages,
          omega arith,
          met_goes answering asked later ends_later (steps + pages) (record world { kept = k.0 }) k.2,
        ),
      )

  -- a step on a later page
  page_step : (pages w : ℕ) (world : World) → Onward U pages s e world → 1 ≤ pages → world.kept.pointer ≡ 0
      → length world.kept.text + unread_in world.files.input ≤ U
      → ((k : ℕ) → 1 ≤ k → 1 ≤ length (unread world.files) → Q pages (settled (Turned k (turned_world world))))
      → Q pages (step (state_at world (Some (suc w))))
  page_step pages w world o one at within turns =
      subst (Q pages) (sym (stepped world w))
      (by_result pages (state_at world (Some (suc w))) (look_for x e (suc w) world)
      (looks x e world (pattern_by world ps) (reads_pattern e ps world o.seeks read) o.writes
      (omega (arith, unread_there world.files.input, o.left, short)) (λ look. Q pages (settled look))
      (found_later pages world o one at within)
      (λ none. (0, pages, omega arith, through_goes answering asked later ends_later pages world o none)) turns w))

  -- from a later page on
  pages_on : (fuel pages w : ℕ) (world : World) → Onward U pages s e world → 1 ≤ pages → world.kept.pointer ≡ 0
      → length world.kept.text + unread_in world.files.input ≤ U → length (unread world.files) ≤ fuel
      → Q pages (step (state_at world (Some (suc w))))
  pages_on zero pages w world o one at within most =
      page_step pages w world o one at within (λ k h more. absurd (omega arith))
  pages_on (suc fuel) pages w world o one at within most =
      page_step pages w world o one at within (λ k h more. turned_on pages world o more k h (λ w.
      pages_on fuel (pages + 1) w (turned_world world) (onward U pages s e world o short more) (omega arith) refl
      (page_within U pages s e world o short more)
      (omega (
        arith,
        unread_there (turned_world world).files.input,
        behind U pages s e world o short more,
        (split (unread world.files)).less more,
      ))))

  -- the first step
  module _ (bytes : AreBytes (unread s.world.files)) (open' : is_some s.world.files.output ≡ true) where
    abbrev seeking : World
    seeking = world_seeking e.text s.world

    begun : Onward U 0 s e seeking
    begun = record {
      left = omega arith;
      registers = refl;
      last = refl;
      typed = refl;
      seeks = own_text e.text s.world.kept.search_text some;
      whole = record {
        inside = begins.whole.inside;
        within = begins.whole.within;
        bytes = begins.whole.bytes;
        count = begins.whole.count;
        pairs = begins.whole.pairs;
        stack = begins.whole.stack;
        last = begins.whole.last;
        mode = begins.whole.mode;
      };
      bytes = bytes;
      writes = open';
    }

    found_here : (span : Span) → IsMatch (pattern_by seeking ps) seeking.kept.text span
        → seeking.kept.pointer ≤ span.start
        → (kept : Kept) × (kept_after x e span seeking.kept ≡ Ok kept)
        × Q 0 (settled (Met (record seeking { kept = kept })))
    found_here span matches from =
        let k = meets n v point span (search_text_of e.text s.world.kept) begins.true_of begins.whole begins.guarded
        (record { exact = not (is_zero s.world.kept.mode); matches = matches; lies = from }) in (
          k.0,
          k.1,
          (
            0,
            0,
            omega arith,
            subst (λ j. StepsTo (Goes n all e j origin s) (settled (Met (record seeking { kept = k.0 }))))
                (omega arith)
                (met_goes answering asked here ends steps (record seeking { kept = k.0 }) k.2),
          ),
        )

    first_step : (w : ℕ) → Q 0 (going.settle e s (looking m left_arguments (look_for x e (suc w) seeking)))
    first_step w =
        by_result 0 s (look_for x e (suc w) seeking)
        (looks x e seeking (pattern_by seeking ps) (reads_pattern e ps seeking begun.seeks read) open'
        (omega (arith, unread_there s.world.files.input, short)) (λ look. Q 0 (settled look)) found_here
        (λ none. (0, 0, omega arith, through_goes answering asked here ends 0 seeking begun none))
        (λ k h more. turned_on 0 seeking begun more k h (λ w.
        let next = onward U 0 s e seeking begun short more in
        pages_on (length (unread (turned_world seeking).files)) (0 + 1) w (turned_world seeking) next (omega arith) refl
        (page_within U 0 s e seeking begun short more) (omega arith))) w)

    begins_is : (w : ℕ) → page_count (unwrap_or (value_if taken.value n v) (pos 1)) ≡ Ok (suc w)
        → step s ≡ going.settle e s (looking m left_arguments (look_for x e (suc w) seeking))
    unfolding step reply_of
    begins_is w count =
        ap (outcome_at s) reads ∙ ap (λ k. going.settle e s (reply_of k e s)) is
        ∙ ap (going.settle e s) (replies m s.left s.arguments s.world)
        ∙ ap (λ l. going.settle e s (found_in_pages x e m l s.arguments s.world)) starts
        ∙ ap (λ a. going.settle e s (a >>= (λ taken. looking m left_arguments (look_first x e taken s.world))))
        (takes n v point begins.true_of)
        ∙ ap (λ o. going.settle e s (looking m left_arguments (look_first x e (record {
          first = o;
          value = value_if taken.value n v;
        }) s.world))) (none_first taken.first n v first)
        ∙ ap (λ r. going.settle e s (looking m left_arguments (r >>= (λ k. look_for x e k seeking)))) count

    pub searched : (more : ℕ) × Comes more (Goes n all e (steps + more) origin s) s (step s)
    searched =
        let count = counted (unwrap_or (value_if taken.value n v) (pos 1)) (positive n v begins.conditions) in
        let q = first_step count.0 in
        let same : q.1 ≡ q.0 = omega (arith, q.2) in (
          q.0,
          subst (λ k. Comes q.0 (Goes n all e (steps + k) origin s) s (step s)) same
              (subst (Comes q.0 (Goes n all e (steps + q.1) origin s) s) (sym (begins_is count.0 count.1)) q.3),
        )

-- the law of a search over pages that begins so and finds these
pub pages_law : (x : Search) (answering : Bool) (e : Element) (case : Case) (begun : BegunInPages) (here later : Case)
    (guarded : List Guarded) (all : Outcomes)
    → ((m : Miss) (left : Option ℕ) (arguments : Arguments) (world : World)
    → search_reply x e m left arguments world ≡ found_in_pages x e m left arguments world)
    → e.kind ≡ kind.Search x → IsBegunInPages e case begun → Keeps x e begun.parts.items Ahead case here guarded
    → KeepsLater x e begun.parts.items case begun.on later guarded
    → all.conditions.items ≡ begun.conditions.items → all.guarded.items ≡ guarded → Ends answering here begun.gone all
    → Ends answering later begun.gone all → LongLaw answering e case all
pages_law x answering e case begun here later guarded all replies is b meets meets_later conditions same ends ends_later
    n v s steps origin reads asked starts open' whole begins =
    searched x answering e (record { first = None; value = b.number }) case begun.on here later begun.gone all
    begun.parts.items replies is b.takes refl b.some b.read (subst (IsPositive b.number) (sym conditions) b.positive)
    (subst (HasPageRoom case) (sym conditions) b.room) b.later b.passes
    (subst (Keeps x e begun.parts.items Ahead case here) (sym same) meets)
    (subst (KeepsLater x e begun.parts.items case begun.on later) (sym same) meets_later) ends ends_later n v s steps
    origin reads asked starts begins (input_bytes s.world.files.input whole.files.input) open'
