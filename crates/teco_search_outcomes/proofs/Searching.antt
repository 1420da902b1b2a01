-- What is found, and what is missed.
use Rattle.teco_search_outcomes.proofs.Prelude.{◌≡◌, ℕ, zero, suc, ◌+◌, ◌-◌, ◌<◌, ◌≤◌, inl, inr, ℤ, pos, List, [], ◌∷◌}
use Rattle.teco_search_outcomes.proofs.Prelude.{◌++◌, length, Bool, true, false, Option, Some, if◌then◌else◌, slice_get}
use Rattle.teco_search_outcomes.proofs.Prelude.{drop, refl, sym, ap, subst, ◌∙◌, arith, ◌-ℤ◌, length-append, ints}
use Rattle.teco_search_outcomes.proofs.Prelude.{append-nil, append_assoc, All, line_place, text_after_replacement}
use Rattle.teco_search_outcomes.proofs.Prelude.{LIMIT, Term, Valuation, value, Kept, Item, Part, Span, Case, Guarded}
use Rattle.teco_search_outcomes.proofs.Prelude.{Agree, One, Single, Steps, Pointer, Size, Held, LineEnd, LineStart}
use Rattle.teco_search_outcomes.proofs.Prelude.{LastLength, CodeHere, CodeBefore, Typed, EntryHeld, Places, changed}
use Rattle.teco_search_outcomes.proofs.Prelude.{Point}
use Rattle.teco_search_outcomes.proofs.Prelude.{IsTrueOf, code_here, code_before, single, Direction, Ahead, KnownMatch}
use Rattle.teco_search_outcomes.proofs.Prelude.{Codes, IsSingle, EndsIn, IsChangedFrom, read_given, with_kept}
use Rattle.teco_search_outcomes.proofs.Prelude.{with_page, IsFoundBy, BeginsLater, IsWarned, IsMissed, IsReplacedBy}
use Rattle.teco_search_outcomes.proofs.Prelude.{LiesTo, HasRoom, with_codes, IsEnd, above_or, clash, ends, line_begin}
use Rattle.teco_search_outcomes.proofs.Prelude.{line_end, one_begin, changes_plainly, changes_singles}
use Rattle.std.proofs.Common.{slice_index_or, take}
use Rattle.teco_linear.specs.Implied as linear
use Rattle.teco_model.specs.Searching.{search_message}
use Rattle.teco_model.specs.Typing.{typing_of}
use Rattle.teco_rows.specs.declared.measure.Family.TheVariants.{Number, Length, Turns, PushedNumber, PushedLength}
use Rattle.teco_rows.specs.declared.measure.Family.TheVariants.{First, Value}
use Rattle.teco_rows.specs.declared.measure.Measure.{Measure}
use Rattle.teco_rows.specs.declared.measure.Measure.TheVariants.{Each}
use Rattle.teco_rows.specs.declared.row.Clause.{Clause}
use Rattle.teco_rows.specs.declared.row.Clause.TheVariants.{Sets, Drops, Wants}
use Rattle.teco_rows.specs.Rows.{AreMet, Before}
use Rattle.teco_rows.specs.States.{from_end, length_of, measures_of}
use Rattle.teco_rows.specs.States.{number_of}
use Rattle.teco_search_outcomes.specs.declared.searches.Direction.TheVariants.{Back, Here}
use Rattle.teco_search_outcomes.specs.declared.searches.TheConstants.{EXACT, FOUND, LIES, NEW_LINE}
use Rattle.teco_search_outcomes.specs.declared.searches.TheConstants.{ENDS_IN, ENDS_WITH, LATER}
use Rattle.teco_search_outcomes.specs.declared.searches.TheConstants.{OTHER_LINE, REPLACED, SAME_LINE, STARTED}
use Rattle.teco_search_outcomes.specs.declared.searches.TheConstants.{WARNS}
use Rattle.teco_search_outcomes.specs.Patterns.{IsLong}
use Rattle.teco_motion_outcomes.specs.Changes.{Changes}
use Rattle.teco_search_outcomes.specs.Searches.{HasFound, HasReplaced, IsKnown}
use Rattle.teco_search_outcomes.specs.Searches.{IsMissedPlace}
use Rattle.teco_search_outcomes.specs.Searches.{direction_clauses, extra_clauses}
use Rattle.teco_rows.proofs.Applying.{changed-append}
use Rattle.teco_rows.proofs.Lines.{IsBegin, begin_before, begin_most, end_before}
use Rattle.teco_rows.proofs.Lines.{one_end}
use Rattle.teco_rows.proofs.Texts.{begin_kept, begin_new, end_behind, length_after}
use Rattle.teco_rows.proofs.Ways.{met_both}
use Rattle.teco_search_outcomes.proofs.Matching.{Lies, items_in, match_closes, match_exact, match_lies, match_stays}

-- ---- rows that change what is kept
-- a row that wants, and does no more
abbrev wants_alone : List Clause → Bool
wants_alone [] = true
wants_alone (Sets mark constant parts ∷ row) = false
wants_alone (Drops mark ∷ row) = false
wants_alone (Wants constant parts ∷ row) = wants_alone row

unchanged : (row : List Clause) → wants_alone row ≡ true → (b : Before) (m : Measure) (x : Option ℤ)
    → changed row b m x ≡ x
unchanged [] e b m x = refl
unchanged (Sets mark constant parts ∷ row) e b m x = absurd cc
unchanged (Drops mark ∷ row) e b m x = absurd cc
unchanged (Wants constant parts ∷ row) e b m x = unchanged row e b m x

wants_both : (a b : List Clause) → wants_alone a ≡ true → wants_alone b ≡ true → wants_alone (a ++ b) ≡ true
wants_both [] b h k = k
wants_both (Sets mark constant parts ∷ a) b h k = absurd cc
wants_both (Drops mark ∷ a) b h k = absurd cc
wants_both (Wants constant parts ∷ a) b h k = wants_both a b h k

changes_more : (base extra : List Clause) (b : Before) (s : Point) (kept : Kept) → wants_alone extra ≡ true
    → AreMet extra b → b.measures ≡ measures_of s → Changes base b s (with_kept s kept)
    → Changes (base ++ extra) b s (with_kept s kept)
changes_more base extra b s kept alone met same c = record {
  met = met_both base extra b c.met met;
  becomes = λ m.
      c.becomes m
      ∙ sym (changed-append base extra b m (measures_of s m) ∙ unchanged extra alone b m _);
  pushes = c.pushes;
}

-- a clause more, where something is so
met_if : (so : Bool) (row : List Clause) (b : Before) → (so ≡ true → AreMet row b)
    → AreMet (if so then row else []) b
met_if true row b f = f refl
met_if false row b f = tt

wants_if : (so : Bool) (row : List Clause) → wants_alone row ≡ true → wants_alone (if so then row else []) ≡ true
wants_if true row e = e
wants_if false row e = refl

wants_directed : (direction : Direction) → wants_alone (direction_clauses direction) ≡ true
wants_directed Ahead = refl
wants_directed Back = refl
wants_directed Here = refl

wants_extras : (known : KnownMatch) → wants_alone (extra_clauses known) ≡ true
wants_extras known =
    wants_both (((LIES ++ direction_clauses known.direction) ++ (if known.is_exact then EXACT else []))
    ++ (if known.ends_line then NEW_LINE else [])) _
    (wants_both ((LIES ++ direction_clauses known.direction) ++ (if known.is_exact then EXACT else [])) _
    (wants_both (LIES ++ direction_clauses known.direction) _
    (wants_both LIES (direction_clauses known.direction) refl (wants_directed known.direction))
    (wants_if known.is_exact EXACT refl))
    (wants_if known.ends_line NEW_LINE refl))
    (wants_if known.stays_in_line SAME_LINE refl)

-- the numbers of a match that are not known: where it starts and ends, and two line places
abbrev numbers : Span → ℕ → ℕ → ℕ → ℤ
numbers span e t zero = pos span.start
numbers span e t (suc zero) = pos span.end
numbers span e t (suc (suc zero)) = pos e
numbers span e t (suc (suc (suc i))) = pos t

-- What is so of a match with so many elements, where the line that holds its end ends at e, and the new one starts
-- at t.
record Facts (s : Point) (span : Span) (known : KnownMatch) (long e t : ℕ) : Type 0 where
  some : span.start < span.end
  reaches : span.start + long ≤ span.end
  after : span.end ≤ e
  within : e ≤ length s.kept.text
  lies : LiesTo known.direction s.kept.pointer span
  later : s.kept.pointer ≤ span.start
      → (line_place s.kept.text s.kept.pointer (pos 1) ≤ e) × (line_place s.kept.text s.kept.pointer (pos 0) ≤ t)
  exact : known.is_exact ≡ true → span.end ≡ span.start + long
  closes : known.ends_line ≡ true → span.end ≤ t
  stays : known.stays_in_line ≡ true → t ≤ span.start

module _ (s : Point) (span : Span) (known : KnownMatch) (long e t : ℕ) (given : ℕ → ℤ) (here : Places)
    (facts : Facts s span known long e t) (long_is : given 0 ≡ pos long) (behind : Kept) where
  abbrev b : Before
  b = record {
    here = here;
    measures = measures_of s;
    given = given;
    unknown = with_codes behind.text behind.pointer (numbers span e t);
  }

  met_lies : AreMet LIES b
  met_lies = (
    omega (arith, ints, facts.some),
    (
      omega (arith, ints, facts.reaches),
      (
        omega (arith, ints, facts.after),
        (omega (arith, ints, facts.within), (omega (arith, ints), (omega (arith, ints), tt))),
      ),
    ),
  )

  met_directed : (direction : Direction) → LiesTo direction s.kept.pointer span
      → AreMet (direction_clauses direction) b
  met_directed Ahead h =
      let l = facts.later h in
      (omega (arith, ints), (omega (arith, ints, l.0), (omega (arith, ints, l.1), tt)))
  met_directed Back h = (omega (arith, ints), tt)
  met_directed Here h =
      let l = facts.later (omega arith) in (
        omega (arith, ints),
        (omega (arith, ints, l.0), (omega (arith, ints, l.1), (omega (arith, ints), tt))),
      )

  met_extras : AreMet (extra_clauses known) b
  met_extras =
      met_both (((LIES ++ direction_clauses known.direction) ++ (if known.is_exact then EXACT else []))
      ++ (if known.ends_line then NEW_LINE else [])) (if known.stays_in_line then SAME_LINE else []) b
      (met_both ((LIES ++ direction_clauses known.direction) ++ (if known.is_exact then EXACT else []))
      (if known.ends_line then NEW_LINE else []) b
      (met_both (LIES ++ direction_clauses known.direction) (if known.is_exact then EXACT else []) b
      (met_both LIES (direction_clauses known.direction) b met_lies (met_directed known.direction facts.lies))
      (met_if known.is_exact EXACT b (λ so. (omega (arith, ints, facts.exact so), tt))))
      (met_if known.ends_line NEW_LINE b (λ so. (omega (arith, ints, facts.closes so), tt))))
      (met_if known.stays_in_line SAME_LINE b (λ so. (omega (arith, ints, facts.stays so), tt)))

  -- S
  found_changes : HasFound span s.kept behind
      → e ≡ line_place s.kept.text span.end (pos 1) → t ≡ line_place s.kept.text span.end (pos 0) → t ≤ span.end
      → Changes FOUND b s (with_kept s behind)
  found_changes found e_is t_is before = record {
    met = (omega (arith, ints), tt);
    becomes = becomes;
    pushes = ap (λ r. length r.stack) found.registers;
  } where
    place : (k : ℤ) → line_place behind.text behind.pointer k ≡ line_place s.kept.text span.end k
    place k = ap (λ x. line_place x behind.pointer k) found.text ∙ ap (λ p. line_place s.kept.text p k) found.pointer

    becomes : (m : Measure) → measures_of (with_kept s behind) m ≡ changed FOUND b m (measures_of s m)
    becomes (One Steps) = refl
    becomes (One Pointer) = ap Some (omega (arith, ints, found.pointer))
    becomes (One Size) = ap (λ x. Some (pos (length x))) found.text
    becomes (One Held) = ap (λ x. Some (pos (length x + s.unread))) found.text
    becomes (One LineEnd) = ap Some (omega (arith, ints, place (pos 1)))
    becomes (One LineStart) = ap Some (omega (arith, ints, place (pos 0)))
    becomes (One LastLength) = ap Some (omega (arith, ints, found.last, facts.some))
    becomes (One CodeHere) = ap Some (omega (arith, ints))
    becomes (One CodeBefore) = ap Some (omega (arith, ints))
    becomes (One Typed) = ap (λ x. Some (pos (length x) -ℤ pos s.origin.typed)) found.typed
    becomes (One EntryHeld) = refl
    becomes (Each Number i) = ap (λ r. number_of (slice_get r.pairs i)) found.registers
    becomes (Each Length i) = ap (λ r. length_of (slice_get r.pairs i)) found.registers
    becomes (Each Turns i) = refl
    becomes (Each PushedNumber i) = ap (λ r. number_of (from_end r.stack (s.origin.pushes + i))) found.registers
    becomes (Each PushedLength i) = ap (λ r. length_of (from_end r.stack (s.origin.pushes + i))) found.registers
    becomes (Each First i) = refl
    becomes (Each Value i) = refl

  -- FS
  replaced_changes : (text : List ℕ) → HasReplaced span text s.kept behind → given 1 ≡ pos (length text)
      → length behind.text + span.end ≡ span.start + length text + length s.kept.text
      → line_place behind.text behind.pointer (pos 1) + span.end ≡ e + span.start + length text
      → t ≡ line_place behind.text behind.pointer (pos 0) → t ≤ span.start + length text
      → Changes REPLACED b s (with_kept s behind)
  replaced_changes text replaced given_is long_now end_now t_is before = record {
    met = (omega (arith, ints), tt);
    becomes = becomes;
    pushes = ap (λ r. length r.stack) replaced.registers;
  } where
    becomes : (m : Measure) → measures_of (with_kept s behind) m ≡ changed REPLACED b m (measures_of s m)
    becomes (One Steps) = refl
    becomes (One Pointer) = ap Some (omega (arith, ints, replaced.pointer))
    becomes (One Size) = ap Some (omega (arith, ints))
    becomes (One Held) = ap Some (omega (arith, ints))
    becomes (One LineEnd) = ap Some (omega (arith, ints))
    becomes (One LineStart) = ap Some (omega (arith, ints))
    becomes (One LastLength) = ap Some (omega (arith, ints, replaced.last))
    becomes (One CodeHere) = ap Some (omega (arith, ints))
    becomes (One CodeBefore) = ap Some (omega (arith, ints))
    becomes (One Typed) = ap (λ x. Some (pos (length x) -ℤ pos s.origin.typed)) replaced.typed
    becomes (One EntryHeld) = refl
    becomes (Each Number i) = ap (λ r. number_of (slice_get r.pairs i)) replaced.registers
    becomes (Each Length i) = ap (λ r. length_of (slice_get r.pairs i)) replaced.registers
    becomes (Each Turns i) = refl
    becomes (Each PushedNumber i) = ap (λ r. number_of (from_end r.stack (s.origin.pushes + i))) replaced.registers
    becomes (Each PushedLength i) = ap (λ r. length_of (from_end r.stack (s.origin.pushes + i))) replaced.registers
    becomes (Each First i) = refl
    becomes (Each Value i) = refl

-- ---- the line places behind a match
-- a place from the pointer on, in the same text
later_lines : (text : List ℕ) (p q : ℕ) → p ≤ q → q ≤ length text
    → (line_place text p (pos 1) ≤ line_place text q (pos 1)) × (line_place text p (pos 0) ≤ line_place text q (pos 0))
later_lines text p q h k =
    let a = line_end text p (omega arith) in
    let z = line_end text q k in
    let b = line_begin text p in (
      end_before text p q _ _ a z (λ l. omega (arith, z.more l)),
      begin_before text p q _ _ b (line_begin text q) (omega (arith, b.before)),
    )

-- behind a line end a line starts, and where there is none the line goes on
starts_behind : (text : List ℕ) (p t k : ℕ) → IsBegin text p t → k + 1 ≡ p → ends text k ≡ true → p ≤ t
starts_behind text p t k begin e h = omega (arith, begin_most text p t k begin (omega arith) h)

goes_on : (text : List ℕ) (a p t : ℕ) → IsBegin text p t
    → ((k : ℕ) → a ≤ k → k < p → ends text k ≡ false) → t ≤ a
goes_on text a p zero begin none = omega arith
goes_on text a p (suc k) begin none = elim (above_or (suc k) a) as (λ x. suc k ≤ a) [
  | inl w ↦ w
  | inr w ↦ absurd (clash (ends text k) (begin.one k (omega arith)) (none k (omega arith) (omega
      (arith, begin.before))))
]

-- ---- a text with another part
module _ (text new : List ℕ) (a b : ℕ) (ordered : a ≤ b) (inside : b ≤ length text) where
  abbrev after : List ℕ
  after = text_after_replacement text a b new

  joined : take a text ++ (new ++ drop b text) ≡ after
  joined = sym (append_assoc (take a text) new (drop b text))

  pub long_after : length after + b ≡ a + length new + length text
  long_after =
      subst (λ t. length t + b ≡ a + length new + length text) joined (length_after text new a b ordered inside)

  end_after : line_place after (a + length new) (pos 1) + b ≡ line_place text b (pos 1) + a + length new
  end_after =
      let e = line_place text b (pos 1) in
      let f = line_end text b inside in
      let there : IsEnd after (a + length new) (e + a + length new - b) =
      subst (λ t. IsEnd t (a + length new) (e + a + length new - b)) joined
      (end_behind text new a b ordered inside b e (a + length new) (e + a + length new - b) f (omega arith)
      (omega arith) (omega (arith, f.after))) in
      omega (
        arith,
        f.after,
        one_end after (a + length new) _ _ (line_end after (a + length new) (omega (arith, long_after))) there,
      )

  begin_same : line_place new (length new) (pos 0) ≡ 0
      → line_place after (a + length new) (pos 0) ≡ line_place text a (pos 0)
  begin_same none =
      let start = line_begin new (length new) in
      one_begin after (a + length new) _ _ (line_begin after (a + length new))
      (subst (λ t. IsBegin t (a + length new) (line_place text a (pos 0))) joined
      (begin_kept text new a b ordered inside (line_place text a (pos 0)) (a + length new) (line_begin text a) refl
      (λ i h. start.none i (omega arith) h)))

  begin_other : 1 ≤ line_place new (length new) (pos 0)
      → line_place after (a + length new) (pos 0) ≡ a + line_place new (length new) (pos 0)
  begin_other one =
      one_begin after (a + length new) _ _ (line_begin after (a + length new))
      (subst (λ x. IsBegin x (a + length new) (a + line_place new (length new) (pos 0))) joined
      (begin_new text new a b ordered inside _ (line_begin new (length new)) one))

-- ---- what is found
abbrev given_by : List (List Term) → ℕ → Valuation → ℕ → ℤ
given_by forms n v i = value (slice_index_or forms i []) n v

-- a row that sets the code before the pointer to what it is
ends_with : (row : List Clause) (b : Before) (s t : Point) → b.given 1 ≡ single t CodeBefore → Changes row b s t
    → Changes (row ++ ENDS_WITH) b s t
ends_with row b s t is c = record {
  met = met_both row ENDS_WITH b c.met tt;
  becomes = λ m.
      set m (changed row b m (measures_of s m)) (c.becomes m)
      ∙ sym (changed-append row ENDS_WITH b m (measures_of s m));
  pushes = c.pushes;
} where
  set : (m : Measure) (x : Option ℤ) → measures_of t m ≡ x → measures_of t m ≡ changed ENDS_WITH b m x
  set (One Steps) x e = e
  set (One Pointer) x e = e
  set (One Size) x e = e
  set (One Held) x e = e
  set (One LineEnd) x e = e
  set (One LineStart) x e = e
  set (One LastLength) x e = e
  set (One CodeHere) x e = e
  set (One CodeBefore) x e = ap Some (omega (arith, ints, is))
  set (One Typed) x e = e
  set (One EntryHeld) x e = e
  set (Each family i) x e = e

ends_if : (so : Bool) (row : List Clause) (b : Before) (s t : Point)
    → (so ≡ true → b.given 1 ≡ single t CodeBefore) → Changes row b s t
    → Changes (row ++ (if so then ENDS_WITH else [])) b s t
ends_if true row b s t is c = ends_with row b s t (is refl) c
ends_if false row b s t is c = subst (λ r. Changes r b s t) (sym (append-nil row)) c

-- what is known of the characters that a match begins and ends with
pub record HasCodes (parts : List Part) (direction : Direction) (case : Case) (codes : Codes) (exactly later : Bool)
    (from to : List Term) : Type 0 where
  pub ends : EndsIn parts codes
  pub alone : exactly ≡ true → codes.least ≡ codes.most
  pub begins : later ≡ true → BeginsLater parts direction case
  pub from_is : (n : ℕ) (v : Valuation) → value from n v ≡ pos codes.least
  pub to_is : (n : ℕ) (v : Valuation) → value to n v ≡ pos codes.most

pub finds : (case made : Case) (parts : List Part) (direction : Direction) (known : KnownMatch) (codes : Codes)
    (exactly later : Bool) (least from to : List Term) (row more : List Clause) → IsKnown parts direction known
    → HasCodes parts direction case codes exactly later from to → more ≡ extra_clauses known
    → row ≡ (((FOUND ++ more) ++ (if exactly then ENDS_WITH else [])) ++ ENDS_IN) ++ (if later then LATER else [])
    → IsLong parts case least → IsChangedFrom case row (least ∷ from ∷ to ∷ []) made
    → IsFoundBy parts direction case made
finds case made parts direction known codes exactly later least from to row more is has extra row_is long changes n v s
    span kept true_of whole of found =
    let items = items_in s.kept.registers of.exact parts in
    let lies = match_lies items s.kept.text span of.matches in
    let end = line_end s.kept.text span.end lies.within in
    let begin = line_begin s.kept.text span.end in
    let e = line_place s.kept.text span.end (pos 1) in
    let t = line_place s.kept.text span.end (pos 0) in
    let facts : Facts s span known (length items) e t = record {
      some = lies.some;
      reaches = lies.long;
      after = end.after;
      within = end.within;
      lies = subst (λ d. LiesTo d s.kept.pointer span) (sym is.towards) of.lies;
      later = λ h. later_lines s.kept.text s.kept.pointer span.end (omega (arith, lies.some)) lies.within;
      exact = λ so. match_exact s.kept.registers of.exact parts s.kept.text span (is.exact so) of.matches;
      closes = λ so.
          let k = match_closes s.kept.registers of.exact parts s.kept.text span (is.ends so) of.matches in
          starts_behind s.kept.text span.end t k.0 begin k.1 k.2;
      stays = λ so.
          goes_on s.kept.text span.start span.end t begin
          (λ k a b. match_stays s.kept.registers of.exact parts s.kept.text span k (is.stays so) of.matches a b);
    } in
    let given = least ∷ from ∷ to ∷ [] in
    let unknown = with_codes kept.text kept.pointer (numbers span e t) in
    let code = has.ends s.kept.registers of.exact s.kept.text span whole.bytes of.matches in
    let same : code_before kept.text kept.pointer ≡ code_before s.kept.text span.end =
    ap (λ x. code_before x kept.pointer) found.text ∙ ap (code_before s.kept.text) found.pointer in
    changes_plainly case made row given changes n v s kept s.unread unknown true_of (λ here.
    let b = read_given given n v s unknown here in
    subst (λ r. Changes r b s (with_kept s kept))
    (sym (row_is ∙ ap (λ r. (((FOUND ++ r) ++ (if exactly then ENDS_WITH else [])) ++ ENDS_IN)
    ++ (if later then LATER else [])) extra))
    (changes_more (((FOUND ++ extra_clauses known) ++ (if exactly then ENDS_WITH else [])) ++ ENDS_IN)
    (if later then LATER else []) b s kept (wants_if later LATER refl)
    (met_if later LATER b (λ so. (omega (arith, ints, has.begins so n v s span true_of whole of), tt))) refl
    (changes_more ((FOUND ++ extra_clauses known) ++ (if exactly then ENDS_WITH else [])) ENDS_IN b s kept refl (
      omega (arith, ints, same, code.least, has.from_is n v),
      (omega (arith, ints, same, code.most, has.to_is n v), tt),
    ) refl
    (ends_if exactly (FOUND ++ extra_clauses known) b s (with_kept s kept)
    (λ so. omega (arith, ints, same, code.least, code.most, has.alone so, has.from_is n v))
    (changes_more FOUND (extra_clauses known) b s kept (wants_extras known)
    (met_extras s span known (length items) e t (given_by given n v) here facts
    (long of.exact n v s true_of whole) kept)
    refl
    (found_changes s span known (length items) e t (given_by given n v) here facts
    (long of.exact n v s true_of whole) kept found refl refl begin.before))))))

-- What is so of a text in the stead of a match: where its last line starts in it, if more is said, or it ends no line.
pub record IsInStead (known : KnownMatch) (more : Bool) (text : List ℕ) : Type 0 where
  pub closes : known.ends_line ≡ false
  pub stays : known.stays_in_line ≡ true → line_place text (length text) (pos 0) ≡ 0
  pub starts : more ≡ true → 1 ≤ line_place text (length text) (pos 0)

not_both : (b : Bool) → b ≡ false → b ≡ true → ⊥
not_both b h k = clash b k h

pub replaces : (case made : Case) (parts : List Part) (direction : Direction) (known : KnownMatch) (other : Bool)
    (text : List ℕ) (least long last : List Term) (row more : List Clause) → known.direction ≡ direction
    → (known.is_exact ≡ true → All IsSingle parts) → IsInStead known other text → more ≡ extra_clauses known
    → row ≡ (REPLACED ++ more) ++ (if other then OTHER_LINE else []) → IsLong parts case least
    → ((n : ℕ) (v : Valuation) → value long n v ≡ pos (length text))
    → ((n : ℕ) (v : Valuation) → value last n v ≡ pos (line_place text (length text) (pos 0)))
    → IsChangedFrom case row (least ∷ long ∷ last ∷ []) made → IsReplacedBy parts direction text case made
replaces case made parts direction known other text least long last row more towards exact stead extra row_is least_is
    long_is last_is changes n v s span kept true_of whole of replaced =
    changes n v s s.steps kept s.unread (with_codes kept.text kept.pointer (numbers span e t)) true_of (λ here.
    subst (λ r. Changes r (read_given (least ∷ long ∷ last ∷ []) n v s
    (with_codes kept.text kept.pointer (numbers span e t)) here) s (with_kept s kept))
    (sym (row_is ∙ ap (λ r. (REPLACED ++ r) ++ (if other then OTHER_LINE else [])) extra))
    (changes_more (REPLACED ++ extra_clauses known) (if other then OTHER_LINE else []) _ s kept
    (wants_if other OTHER_LINE refl) (met_if other OTHER_LINE _ (λ so.
    let there = other_there so in let last_there = last_is n v in
    (omega (arith, ints, there, last_there), (omega (arith, ints, there, last_there), tt)))) refl
    (changes_more REPLACED (extra_clauses known) _ s kept (wants_extras known)
    (met_extras s span known (length items) e t (given_by (least ∷ long ∷ last ∷ []) n v) here facts
    (least_is of.exact n v s true_of whole) kept)
    refl
    (replaced_changes s span known (length items) e t (given_by (least ∷ long ∷ last ∷ []) n v) here facts
    (least_is of.exact n v s true_of whole) kept text replaced (long_is n v) grown ended refl before)))) where
      items : List Item
      items = items_in s.kept.registers of.exact parts

      lies : Lies items s.kept.text span
      lies = match_lies items s.kept.text span of.matches

      ordered : span.start ≤ span.end
      ordered = omega (arith, lies.some)

      e : ℕ
      e = line_place s.kept.text span.end (pos 1)

      t : ℕ
      t = line_place kept.text kept.pointer (pos 0)

      place : (k : ℤ) → line_place kept.text kept.pointer k
          ≡ line_place (text_after_replacement s.kept.text span.start span.end text) (span.start + length text) k
      place k =
          ap (λ x. line_place x kept.pointer k) replaced.text
          ∙ ap (λ p. line_place (text_after_replacement s.kept.text span.start span.end text) p k) replaced.pointer

      grown : length kept.text + span.end ≡ span.start + length text + length s.kept.text
      grown =
          ap (λ x. length x + span.end) replaced.text
          ∙ long_after s.kept.text text span.start span.end ordered lies.within

      ended : line_place kept.text kept.pointer (pos 1) + span.end ≡ e + span.start + length text
      ended =
          ap (λ x. x + span.end) (place (pos 1)) ∙ end_after s.kept.text text span.start span.end ordered lies.within

      before : t ≤ span.start + length text
      before = omega (
        arith,
        place (pos 0),
        (line_begin (text_after_replacement s.kept.text span.start span.end text) (span.start + length text)).before,
      )

      same_there : line_place text (length text) (pos 0) ≡ 0 → t ≡ line_place s.kept.text span.start (pos 0)
      same_there none =
          place (pos 0) ∙ begin_same s.kept.text text span.start span.end ordered lies.within none

      new_there : 1 ≤ line_place text (length text) (pos 0) → t ≡ span.start + line_place text (length text) (pos 0)
      new_there one = place (pos 0) ∙ begin_other s.kept.text text span.start span.end ordered lies.within one

      other_there : other ≡ true → t ≡ span.start + line_place text (length text) (pos 0)
      other_there so = new_there (stead.starts so)

      begins_later : s.kept.pointer ≤ span.start → line_place s.kept.text s.kept.pointer (pos 0) ≤ t
      begins_later h = elim (above_or (line_place text (length text) (pos 0)) 0) [
        | inl none ↦ omega (
          arith,
          same_there (omega arith),
          (later_lines s.kept.text s.kept.pointer span.start h (omega (arith, lies.some, lies.within))).1,
        )
        | inr one ↦ omega (
          arith,
          new_there (omega arith),
          (line_begin s.kept.text s.kept.pointer).before,
        )
      ]

      facts : Facts s span known (length items) e t
      facts = record {
        some = lies.some;
        reaches = lies.long;
        after = (line_end s.kept.text span.end lies.within).after;
        within = (line_end s.kept.text span.end lies.within).within;
        lies = subst (λ d. LiesTo d s.kept.pointer span) (sym towards) of.lies;
        later = λ h. (
          (later_lines s.kept.text s.kept.pointer span.end (omega (arith, h, lies.some)) lies.within).0,
          begins_later h,
        );
        exact = λ so. match_exact s.kept.registers of.exact parts s.kept.text span (exact so) of.matches;
        closes = λ so. absurd (not_both known.ends_line stead.closes so);
        stays = λ so. omega (
          arith,
          same_there (stead.stays so),
          (line_begin s.kept.text span.start).before,
        );
      }

-- ---- what is missed
same_kept : (s : Point) (kept : Kept) → kept.text ≡ s.kept.text → kept.pointer ≡ s.kept.pointer
    → kept.registers ≡ s.kept.registers → kept.last_length ≡ s.kept.last_length → kept.typed ≡ s.kept.typed
    → (m : Measure)
    → measures_of (with_kept s kept) m ≡ measures_of s m
same_kept s kept text pointer registers last typed (One Steps) = refl
same_kept s kept text pointer registers last typed (One Pointer) = ap (λ p. Some (pos p)) pointer
same_kept s kept text pointer registers last typed (One Size) = ap (λ x. Some (pos (length x))) text
same_kept s kept text pointer registers last typed (One Held) = ap (λ x. Some (pos (length x + s.unread))) text
same_kept s kept text pointer registers last typed (One LineEnd) =
    ap (λ x. Some (pos (line_place x kept.pointer (pos 1)))) text
    ∙ ap (λ p. Some (pos (line_place s.kept.text p (pos 1)))) pointer
same_kept s kept text pointer registers last typed (One LineStart) =
    ap (λ x. Some (pos (line_place x kept.pointer (pos 0)))) text
    ∙ ap (λ p. Some (pos (line_place s.kept.text p (pos 0)))) pointer
same_kept s kept text pointer registers last typed (One LastLength) = ap (λ k. Some (pos k)) last
same_kept s kept text pointer registers last typed (One CodeHere) =
    ap (λ x. Some (pos (code_here x kept.pointer))) text ∙ ap (λ p. Some (pos (code_here s.kept.text p))) pointer
same_kept s kept text pointer registers last typed (One CodeBefore) =
    ap (λ x. Some (pos (code_before x kept.pointer))) text ∙ ap (λ p. Some (pos (code_before s.kept.text p))) pointer
same_kept s kept text pointer registers last typed (One Typed) =
    ap (λ x. Some (pos (length x) -ℤ pos s.origin.typed)) typed
same_kept s kept text pointer registers last typed (One EntryHeld) = refl
same_kept s kept text pointer registers last typed (Each Number i) = ap (λ r. number_of (slice_get r.pairs i)) registers
same_kept s kept text pointer registers last typed (Each Length i) = ap (λ r. length_of (slice_get r.pairs i)) registers
same_kept s kept text pointer registers last typed (Each Turns i) = refl
same_kept s kept text pointer registers last typed (Each PushedNumber i) =
    ap (λ r. number_of (from_end r.stack (s.origin.pushes + i))) registers
same_kept s kept text pointer registers last typed (Each PushedLength i) =
    ap (λ r. length_of (from_end r.stack (s.origin.pushes + i))) registers
same_kept s kept text pointer registers last typed (Each First i) = refl
same_kept s kept text pointer registers last typed (Each Value i) = refl

stays_there : (colons old new : ℕ) → 2 ≤ colons → IsMissedPlace colons old new → new ≡ old
stays_there zero old new h k = absurd (omega arith)
stays_there (suc zero) old new h k = absurd (omega arith)
stays_there (suc (suc colons)) old new h k = k

pub misses_here : (case made : Case) (colons : ℕ) → 2 ≤ colons → IsChangedFrom case [] [] made
    → IsMissed colons case made
misses_here case made colons two changes n v s kept true_of whole missed =
    changes_plainly case made [] [] changes n v s kept s.unread (λ i. pos 0) true_of (λ here. record {
      met = tt;
      becomes = same_kept s kept missed.text
          (stays_there colons s.kept.pointer kept.pointer two missed.pointer) missed.registers missed.last missed.typed;
      pushes = ap (λ r. length r.stack) missed.registers;
    })

starts_there : (colons old new : ℕ) → colons < 2 → IsMissedPlace colons old new → new ≡ 0
starts_there zero old new h k = k
starts_there (suc zero) old new h k = k
starts_there (suc (suc colons)) old new h k = absurd (omega arith)

pub misses : (case made : Case) (colons : ℕ) → colons < 2 → IsChangedFrom case STARTED [] made
    → IsMissed colons case made
misses case made colons one changes n v s kept true_of whole missed =
    changes_plainly case made STARTED [] changes n v s kept s.unread (with_codes kept.text kept.pointer (λ i. pos e))
    true_of (λ here. record {
      met = (omega (arith, ints), (omega (arith, ints, end.within), tt));
      becomes = becomes here;
      pushes = ap (λ r. length r.stack) missed.registers;
    }) where
      e : ℕ
      e = line_place s.kept.text 0 (pos 1)

      end : IsEnd s.kept.text 0 e
      end = line_end s.kept.text 0 (omega arith)

      at : kept.pointer ≡ 0
      at = starts_there colons s.kept.pointer kept.pointer one missed.pointer

      place : (k : ℤ) → line_place kept.text kept.pointer k ≡ line_place s.kept.text 0 k
      place k = ap (λ x. line_place x kept.pointer k) missed.text ∙ ap (λ p. line_place s.kept.text p k) at

      start : line_place s.kept.text 0 (pos 0) ≤ 0
      start = (line_begin s.kept.text 0).before

      becomes : (here : Places) (m : Measure) → measures_of (with_kept s kept) m
          ≡ changed STARTED (read_given [] n v s (with_codes kept.text kept.pointer (λ i. pos e)) here) m
          (measures_of s m)
      becomes here (One Steps) = refl
      becomes here (One Pointer) = ap Some (omega (arith, ints, at))
      becomes here (One Size) = ap (λ x. Some (pos (length x))) missed.text
      becomes here (One Held) = ap (λ x. Some (pos (length x + s.unread))) missed.text
      becomes here (One LineEnd) = ap Some (omega (arith, ints, place (pos 1)))
      becomes here (One LineStart) = ap Some (omega (arith, ints, place (pos 0), start))
      becomes here (One LastLength) = ap (λ k. Some (pos k)) missed.last
      becomes here (One CodeHere) = ap Some (omega (arith, ints))
      becomes here (One CodeBefore) = ap Some (omega (arith, ints))
      becomes here (One Typed) = ap (λ x. Some (pos (length x) -ℤ pos s.origin.typed)) missed.typed
      becomes here (One EntryHeld) = refl
      becomes here (Each Number i) = ap (λ r. number_of (slice_get r.pairs i)) missed.registers
      becomes here (Each Length i) = ap (λ r. length_of (slice_get r.pairs i)) missed.registers
      becomes here (Each Turns i) = refl
      becomes here (Each PushedNumber i) = ap (λ r. number_of (from_end r.stack (s.origin.pushes + i))) missed.registers
      becomes here (Each PushedLength i) = ap (λ r. length_of (from_end r.stack (s.origin.pushes + i))) missed.registers
      becomes here (Each First i) = refl
      becomes here (Each Value i) = refl

-- ---- the message
pub warns : (case made : Case) → IsChangedFrom case WARNS [] made → IsWarned case made
warns case made changes n s d =
    changes_plainly case made WARNS [] changes n d.0 s kept s.unread (λ i. pos 0) d.1
    (λ here.
    changes_singles WARNS (read_given [] n d.0 s (λ i. pos 0) here) s kept s.unread refl refl tt (singles here)) where
      kept : Kept
      kept = (typing_of search_message s.kept).kept

      long : length search_message ≡ 6
      long = refl

      singles : (here : Places) (which : Single) → Some (single (with_page s kept s.unread) which)
          ≡ changed WARNS (read_given [] n d.0 s (λ i. pos 0) here) (One which) (Some (single s which))
      singles here Steps = refl
      singles here Pointer = refl
      singles here Size = refl
      singles here Held = refl
      singles here LineEnd = refl
      singles here LineStart = refl
      singles here LastLength = refl
      singles here CodeHere = refl
      singles here CodeBefore = refl
      singles here Typed = ap Some (omega (arith, ints, length-append s.kept.typed search_message, long))
      singles here EntryHeld = refl

-- ---- room for a text in the stead of a match
pub has_room : (case made : Case) (guarded : Guarded) (size most : List Term) → guarded.symbols ≡ case.symbols
    → ((n : ℕ) (w : Valuation) → All (linear.Holds n w) made.constraints.items
    → All (linear.Holds n w) guarded.constraints.items)
    → ((n : ℕ) (w : Valuation) (s : Point) → IsTrueOf n w made s → value size n w ≡ pos (length s.kept.text))
    → ((n : ℕ) (w : Valuation) → value most n w ≡ pos LIMIT)
    → ((n : ℕ) (w : Valuation) → value guarded.wanted n w ≡ value most n w -ℤ value size n w)
    → HasRoom case made guarded
has_room case made guarded size most symbols copies size_is most_is sum_is n v s d holds =
    let w = d.0 in
    let wanted = holds w (subst (λ k. Agree k v w) (sym symbols) d.1) (copies n w d.2.fits.constraints) in
    omega (arith, ints, wanted, sum_is n w, size_is n w s d.2, most_is n w)
