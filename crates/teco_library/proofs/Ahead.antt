-- What was read of a file so far, and the spans of its texts.
use Rattle.std.proofs.Common.{subst, ◌≡◌, ◌≢◌, ℕ, ◌<◌, List, [], ◌∷◌, ◌++◌, length, get_or, set, replicate, Bool}
use Rattle.std.proofs.Common.{true, false, Option, Some, None, option_map, Ok, refl, sym, ap, ◌∙◌, arith, inl, inr}
use Rattle.std.proofs.Common.{append_assoc, append-nil}
use Rattle.std.specs.Prelude.{find, All, if◌then◌else◌, OnSome}
use Rattle.std.proofs.Math.ListN.{get_or-map as get_or-map_at}
use Rattle.std.proofs.lemmas.Bool.{cases_eq, cases_lt, false≢true, eq-eqb, ne_eqb}
use Rattle.std.proofs.lemmas.List.{length-map, length-set, get_or-set_other, get_or_past}
use Rattle.std.proofs.lemmas.Grind.{get_or-set_at}
use Rattle.std.proofs.lemmas.List.Elements.{All-nil, All-set, All-replicate}
use Rattle.teco_base.specs.declared.TheConstants.{REGISTERS}
use Rattle.teco_model.specs.declared.pattern.Span.{Span}
use Rattle.teco_model.specs.Ahead.{Reading, Whole, Faulty, place_of, next_of, reading_at, readings}
use Rattle.teco_model.specs.Element.{Element}
use Rattle.teco_model.proofs.Ahead.{readings-some, readings-none}
use Rattle.teco_library.specs.Header.{Declares, HasNoOtherHeader, first_comment}
use Rattle.teco_library.specs.Library.{AreOfLibrary, IsFirstNotAllowed, is_allowed, register_set, sets, own_text}
use Rattle.teco_library.specs.Library.{text_set, texts_set}
use Rattle.teco_library.specs.Spans.{EndsItsText, Finds, IsWithin, admitted, part_of, span_of, texts_at, with_span}
use Rattle.teco_library.proofs.OwnText.{HasItsText, has_its_text}
use Rattle.teco_library.proofs.Registers.{once_more, last_refused, last_fresh, text_set-other, text_set-first}
use Rattle.teco_library.proofs.Registers.{texts_set-at, texts_set-from, texts_set-nil}

-- a file is read up to a place, as a library is, and these are the spans of its texts so far
pub record IsReadTo (file : List ℕ) (at : ℕ) (spans : List (Option Span)) : Type 0 where
  pub before : List Reading
  pub read : before ++ readings file at ≡ readings file 0
  pub library : AreOfLibrary before
  pub count : length spans ≡ REGISTERS
  pub texts : texts_at file spans ≡ texts_set before
  pub within : All (IsWithin file) spans

-- The first comment of what was read so far and one reading more is that of the file.
first_of : (before behind : List Reading) (r : Reading)
    → first_comment (before ++ r ∷ []) ≡ first_comment (before ++ r ∷ behind)
first_of [] behind (Whole e) = refl
first_of [] behind (Faulty c place next) = refl
first_of (Whole e ∷ before) behind r = refl
first_of (Faulty c place next ∷ before) behind r = refl

headed : (file : List ℕ) (before behind : List Reading) (r : Reading) → before ++ r ∷ behind ≡ readings file 0
    → HasNoOtherHeader (readings file 0) → HasNoOtherHeader (before ++ r ∷ [])
headed file before behind r e header = (
  header.0,
  subst (λ comment. Declares comment header.0) (sym (first_of before behind r ∙ ap first_comment e))
      header.1,
)

pub ends_its_text : (file : List ℕ) (at : ℕ) (r : Reading) → reading_at file at ≡ Some r → EndsItsText r
ends_its_text file at (Faulty c place next) h = tt
ends_its_text file at (Whole e) h = among (register_set e.kind) refl
  where
    among : (o : Option ℕ) → register_set e.kind ≡ o → OnSome o (length e.text < e.next)
    among None was = tt
    among (Some q) was = (has_its_text file at q e h was).ends

-- the text of a register so far, by its span
text_by_span : (file : List ℕ) (at : ℕ) (spans : List (Option Span)) (i : IsReadTo file at spans) (k : ℕ)
    → k < REGISTERS → option_map (part_of file) (get_or spans k None) ≡ text_set i.before k
text_by_span file at spans i k l =
    sym (get_or-map_at (option_map (part_of file)) spans k None) ∙ ap (λ texts. get_or texts k None) i.texts
    ∙ texts_set-at i.before k l

pub nothing_read : (file : List ℕ) → IsReadTo file 0 (replicate REGISTERS None)
nothing_read file = record {
  before = [];
  read = refl;
  library = record {
    allowed = All-nil (λ x. is_allowed x ≡ true);
    once = λ q l. omega arith;
    header = (None, λ text h. absurd (cc));
  };
  count = refl;
  texts = sym texts_set-nil;
  within = All-replicate (IsWithin file) REGISTERS None (λ s h. absurd (cc));
}

sets_none : (e : Element) (q : ℕ) → register_set e.kind ≡ None → sets q (Whole e) ≡ false
sets_none e q h = rw h refl

sets_same : (e : Element) (q k : ℕ) → register_set e.kind ≡ Some q → k ≡ q → sets k (Whole e) ≡ true
sets_same e q k h s = rw h (eq-eqb q k (sym s))

sets_other : (e : Element) (q k : ℕ) → register_set e.kind ≡ Some q → k ≢ q → sets k (Whole e) ≡ false
sets_other e q k h n = rw h (ne_eqb q k (λ s. n (sym s)))

none_from : (o : Option Reading) → option_map own_text o ≡ None → o ≡ None
none_from None h = refl
none_from (Some r) h = absurd (cc)

-- where a register has no span, nothing has set it
free_before : (file : List ℕ) (at : ℕ) (spans : List (Option Span)) (i : IsReadTo file at spans) (k : ℕ) → k < REGISTERS
    → get_or spans k None ≡ None → find (sets k) i.before ≡ None
free_before file at spans i k l free =
    none_from (find (sets k) i.before) (sym (text_by_span file at spans i k l) ∙ ap (option_map (part_of file)) free)

-- one more reading that sets no register
passes : (file : List ℕ) (at : ℕ) (spans : List (Option Span)) (e : Element) → HasNoOtherHeader (readings file 0)
    → IsReadTo file at spans → reading_at file at ≡ Some (Whole e) → is_allowed (Whole e) ≡ true
    → register_set e.kind ≡ None → IsReadTo file e.next spans
passes file at spans e header i h a none = let read = rw (readings-some file at (Whole e) h) at i.read in record {
  before = i.before ++ Whole e ∷ [];
  read = rw append_assoc read;
  library = once_more i.before (Whole e) i.library a (λ q l s. absurd (false≢true (sym (sets_none e q none) ∙ s)))
      (headed file i.before (readings file e.next) (Whole e) read header);
  count = i.count;
  texts = texts_set-from (i.before ++ Whole e ∷ []) (texts_at file spans) (length-map spans (option_map (part_of file))
      ∙ i.count) (λ k l. get_or-map_at (option_map (part_of file)) spans k None ∙ text_by_span file at spans i k l
      ∙ sym (text_set-other i.before (Whole e) k (sets_none e k none)));
  within = i.within;
}

-- one more reading that sets a register, which had no span
keeps : (file : List ℕ) (at q : ℕ) (spans : List (Option Span)) (e : Element) → HasNoOtherHeader (readings file 0)
    → IsReadTo file at spans → reading_at file at ≡ Some (Whole e) → is_allowed (Whole e) ≡ true
    → register_set e.kind ≡ Some q → get_or spans q None ≡ None → IsReadTo file e.next (set spans q (Some (span_of e)))
keeps file at q spans e header i h a is_set free = let read = rw (readings-some file at (Whole e) h) at i.read in
    record {
      before = i.before ++ Whole e ∷ [];
      read = rw append_assoc read;
      library = once_more i.before (Whole e) i.library a fresh
          (headed file i.before (readings file e.next) (Whole e) read header);
      count = length-set spans q (Some (span_of e)) ∙ i.count;
      texts = texts_set-from (i.before ++ Whole e ∷ []) (texts_at file (set spans q (Some (span_of e))))
          (length-map _ (option_map (part_of file)) ∙ length-set spans q (Some (span_of e)) ∙ i.count)
          (λ k l. get_or-map_at (option_map (part_of file)) (set spans q (Some (span_of e))) k None ∙ same k l);
      within = All-set (IsWithin file) spans q (Some (span_of e)) stands_within i.within;
    }
  where
    text : HasItsText file e
    text = has_its_text file at q e h is_set

    stands_within : IsWithin file (Some (span_of e))
    stands_within s h = let same : span_of e ≡ s = cc in
        rw (← same) (omega (arith, text.ends), omega (arith, text.within))

    fresh : (k : ℕ) → k < REGISTERS → sets k (Whole e) ≡ true → find (sets k) i.before ≡ None
    fresh k l s = elim (cases_eq k q) [
      | inl y ↦ free_before file at spans i k l (rw y free)
      | inr n ↦ absurd (false≢true (sym (sets_other e q k is_set n) ∙ s))
    ]

    same : (k : ℕ) → k < REGISTERS →
        option_map (part_of file) (get_or (set spans q (Some (span_of e))) k None) ≡ text_set
        (i.before ++ Whole e ∷ []) k
    same k l = elim (cases_eq k q) [
      | inl y ↦ ap (option_map (part_of file))
          (get_or-set_at spans q k (Some (span_of e)) None y (omega (arith, i.count))) ∙ ap Some text.stands
          ∙ sym (text_set-first i.before (Whole e) k (sets_same e q k is_set y)
          (free_before file at spans i k l (rw y free)))
      | inr n ↦ ap (option_map (part_of file)) (get_or-set_other spans q k (Some (span_of e)) None n)
          ∙ text_by_span file at spans i k l ∙ sym (text_set-other i.before (Whole e) k (sets_other e q k is_set n))
    ]

-- one more reading is admitted
pub read_on : (file : List ℕ) (at : ℕ) (r : Reading) (spans new : List (Option Span))
    → HasNoOtherHeader (readings file 0) → IsReadTo file at spans → reading_at file at ≡ Some r
    → admitted r spans ≡ Some new → IsReadTo file (next_of r) new
read_on file at (Faulty c place next) spans new header i h a = absurd (cc)
read_on file at (Whole e) spans new header i h a = among (is_allowed (Whole e)) refl (register_set e.kind) refl a
  where
    among : (t : Bool) → is_allowed (Whole e) ≡ t → (o : Option ℕ) → register_set e.kind ≡ o →
        Path (Option (List (Option Span))) (if t then with_span o (span_of e) spans else None) (Some new)
        → IsReadTo file e.next new
    among false t o s a = absurd (cc)
    among true t None s a = let same : spans ≡ new = cc in rw (← same) (passes file at spans e header i h t s)
    among true t (Some q) s a = free (get_or spans q None) refl a
      where
        free : (o : Option Span) → get_or spans q None ≡ o →
            Path (Option (List (Option Span)))
            (elim o [ None ↦ Some (set spans q (Some (span_of e))) | Some earlier ↦ None ]) (Some new)
            → IsReadTo file e.next new
        free None f a = let same : set spans q (Some (span_of e)) ≡ new = cc in
            rw (← same) (keeps file at q spans e header i h t s f)
        free (Some earlier) f a = absurd (cc)

-- a register that has a span was set
set_before : (file : List ℕ) (at : ℕ) (spans : List (Option Span)) (i : IsReadTo file at spans) (e : Element) (q : ℕ)
    (earlier : Span) → register_set e.kind ≡ Some q → get_or spans q None ≡ Some earlier
    → ¬ AreOfLibrary (i.before ++ Whole e ∷ [])
set_before file at spans i e q earlier s k =
    among (find (sets q) i.before) refl (sym (text_by_span file at spans i q below) ∙ ap (option_map (part_of file)) k)
  where
    below : q < REGISTERS
    below = elim (cases_lt q (length spans)) [
      | inl l ↦ omega (arith, i.count)
      | inr m ↦ let none : None ≡ Some earlier = sym (get_or_past spans q None m) ∙ k in absurd (cc)
    ]

    among : (o : Option Reading) → find (sets q) i.before ≡ o → option_map own_text o ≡ Some (part_of file earlier)
        → ¬ AreOfLibrary (i.before ++ Whole e ∷ [])
    among None f h = absurd (cc)
    among (Some r) f h = last_fresh i.before (Whole e) r q below (sets_same e q q s refl) f

not_of_library : (file : List ℕ) (at : ℕ) (r : Reading) (spans : List (Option Span)) (i : IsReadTo file at spans)
    → admitted r spans ≡ None → ¬ AreOfLibrary (i.before ++ r ∷ [])
not_of_library file at (Faulty c place next) spans i a = last_refused i.before (Faulty c place next) refl
not_of_library file at (Whole e) spans i a = among (is_allowed (Whole e)) refl (register_set e.kind) refl a
  where
    among : (t : Bool) → is_allowed (Whole e) ≡ t → (o : Option ℕ) → register_set e.kind ≡ o →
        Path (Option (List (Option Span))) (if t then with_span o (span_of e) spans else None) None
        → ¬ AreOfLibrary (i.before ++ Whole e ∷ [])
    among false t o s a = last_refused i.before (Whole e) t
    among true t None s a = absurd (cc)
    among true t (Some q) s a = taken (get_or spans q None) refl a
      where
        taken : (o : Option Span) → get_or spans q None ≡ o →
            Path (Option (List (Option Span)))
            (elim o [ None ↦ Some (set spans q (Some (span_of e))) | Some earlier ↦ None ]) None
            → ¬ AreOfLibrary (i.before ++ Whole e ∷ [])
        taken None f a = absurd (cc)
        taken (Some earlier) f a = set_before file at spans i e q earlier s f

-- one more reading is not admitted
pub stops_at : (file : List ℕ) (at : ℕ) (r : Reading) (spans : List (Option Span)) → IsReadTo file at spans
    → reading_at file at ≡ Some r → admitted r spans ≡ None → IsFirstNotAllowed file (place_of r)
stops_at file at r spans i h a = record {
  before = i.before;
  reading = r;
  behind = readings file (next_of r);
  read = sym (rw (readings-some file at r h) at i.read);
  stands = refl;
  allowed = i.library;
  refused = not_of_library file at r spans i a;
}

-- all is read
pub all_read : (file : List ℕ) (at : ℕ) (spans : List (Option Span)) → IsReadTo file at spans
    → reading_at file at ≡ None → Finds file (Ok spans)
all_read file at spans i none =
    let all : i.before ≡ readings file 0 = sym (append-nil i.before) ∙ rw (readings-none file at none) at i.read in
    (rw (← all) i.library, i.texts ∙ ap texts_set all, i.within)
