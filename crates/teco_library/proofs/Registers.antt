-- Each register once, and the texts of registers, when one more is read.
use Rattle.std.proofs.Common.{◌≡◌, ℕ, ◌+◌, ◌<◌, ◌≤◌, List, [], ◌∷◌, ◌++◌, length, get_or, replicate, Bool, true}
use Rattle.std.proofs.Common.{false, Option, Some, None, option_map, refl, sym, ap, ◌∙◌, arith}
use Rattle.std.specs.Prelude.{count_by, find, if◌then◌else◌}
use Rattle.std.specs.List.{AllPass}
use Rattle.std.specs.Option.{option_or}
use Rattle.std.proofs.lemmas.Bool.{false≢true}
use Rattle.std.proofs.lemmas.List.Elements.{All-push, All-head, All-tail}
use Rattle.std.proofs.lemmas.List.Folds.{find-append}
use Rattle.std.proofs.lemmas.List.FromFn.{fill_by_all, get_or-map-range_with_len}
use Rattle.std.proofs.lemmas.List.Sums.{sum_by-append, sum_by-cons}
use Rattle.teco_base.specs.declared.TheConstants.{REGISTERS}
use Rattle.teco_model.specs.Ahead.{Reading}
use Rattle.teco_library.specs.Header.{HasNoOtherHeader}
use Rattle.teco_library.specs.Library.{AreOfLibrary, is_allowed, sets, own_text, text_set, texts_set}

abbrev pub one_if : Bool → ℕ
one_if b = if b then 1 else 0

count_more : (q : ℕ) (before : List Reading) (r : Reading)
    → count_by (sets q) (before ++ r ∷ []) ≡ count_by (sets q) before + one_if (sets q r)
count_more q before r = sum_by-append (λ x. one_if (sets q x)) before (r ∷ []) ∙ omega arith

count_none : (p : Reading → Bool) (rs : List Reading) → find p rs ≡ None → count_by p rs ≡ 0
count_none p [] h = refl
count_none p (r ∷ rs) h = sum_by-cons (λ x. one_if (p x)) r rs ∙ among (p r) (count_none p rs) h
  where
    among : (b : Bool) → (find p rs ≡ None → count_by p rs ≡ 0)
        → Path (Option Reading) (if b then Some r else find p rs) None → one_if b + count_by p rs ≡ 0
    among true f h = absurd (cc)
    among false f h = omega (arith, f h)

count_some : (p : Reading → Bool) (rs : List Reading) (found : Reading) → find p rs ≡ Some found → 1 ≤ count_by p rs
count_some p [] found h = absurd (cc)
count_some p (r ∷ rs) found h = rw (sum_by-cons (λ x. one_if (p x)) r rs) (among (p r) (count_some p rs found) h)
  where
    among : (b : Bool) → (find p rs ≡ Some found → 1 ≤ count_by p rs)
        → Path (Option Reading) (if b then Some r else find p rs) (Some found) → 1 ≤ one_if b + count_by p rs
    among true f h = omega arith
    among false f h = omega (arith, f h)

-- A library may have one more reading, if that is allowed and sets no register that was set before.
pub once_more : (before : List Reading) (r : Reading) → AreOfLibrary before → is_allowed r ≡ true →
    ((q : ℕ) → q < REGISTERS → sets q r ≡ true → find (sets q) before ≡ None) → HasNoOtherHeader (before ++ r ∷ [])
    → AreOfLibrary (before ++ r ∷ [])
once_more before r a h fresh header = record {
  allowed = All-push (λ x. is_allowed x ≡ true) before r a.allowed h;
  once = λ q l. rw (count_more q before r) (among q l (sets q r) refl);
  header = header;
}
  where
    among : (q : ℕ) → q < REGISTERS → (b : Bool) → sets q r ≡ b → count_by (sets q) before + one_if b ≤ 1
    among q l true was = omega (arith, count_none (sets q) before (fresh q l was))
    among q l false was = omega (arith, a.once q l)

-- and only then
pass_last : (before : List Reading) (r : Reading) → AllPass is_allowed (before ++ r ∷ []) → is_allowed r ≡ true
pass_last [] r a = All-head (λ x. is_allowed x ≡ true) r [] a
pass_last (x ∷ before) r a = pass_last before r (All-tail (λ x. is_allowed x ≡ true) x (before ++ r ∷ []) a)

pub last_refused : (before : List Reading) (r : Reading) → is_allowed r ≡ false → ¬ AreOfLibrary (before ++ r ∷ [])
last_refused before r h a = false≢true (sym h ∙ pass_last before r a.allowed)

pub last_fresh : (before : List Reading) (r found : Reading) (q : ℕ) → q < REGISTERS → sets q r ≡ true
    → find (sets q) before ≡ Some found → ¬ AreOfLibrary (before ++ r ∷ [])
last_fresh before r found q l h k a =
    let one : one_if (sets q r) ≡ 1 = rw h refl in
    omega (arith, a.once q l, count_more q before r, count_some (sets q) before found k, one)

-- the text of a register, when one more is read
pub text_set-push : (before : List Reading) (r : Reading) (q : ℕ)
    → text_set (before ++ r ∷ []) q ≡ option_map own_text
    (option_or (find (sets q) before) (if sets q r then Some r else None))
text_set-push before r q = ap (option_map own_text) (find-append (sets q) before (r ∷ []))

none_else : (x : Option Reading) → option_or x None ≡ x
none_else None = refl
none_else (Some r) = refl

pub text_set-other : (before : List Reading) (r : Reading) (q : ℕ) → sets q r ≡ false
    → text_set (before ++ r ∷ []) q ≡ text_set before q
text_set-other before r q h = text_set-push before r q
    ∙ rw h (ap (option_map own_text) (none_else (find (sets q) before)))

pub text_set-first : (before : List Reading) (r : Reading) (q : ℕ) → sets q r ≡ true → find (sets q) before ≡ None
    → text_set (before ++ r ∷ []) q ≡ Some (own_text r)
text_set-first before r q h k = text_set-push before r q ∙ rw (h, k) refl

pub texts_set-from : (rs : List Reading) (texts : List (Option (List ℕ))) → length texts ≡ REGISTERS
    → ((k : ℕ) → k < REGISTERS → get_or texts k None ≡ text_set rs k) → texts ≡ texts_set rs
unfolding texts_set
texts_set-from rs texts h f = fill_by_all (text_set rs) texts REGISTERS None h f

pub texts_set-at : (rs : List Reading) (k : ℕ) → k < REGISTERS → get_or (texts_set rs) k None ≡ text_set rs k
unfolding texts_set
texts_set-at rs k l = get_or-map-range_with_len (text_set rs) 0 REGISTERS k k None l (omega arith)

pub texts_set-nil : texts_set [] ≡ replicate REGISTERS None
unfolding texts_set
texts_set-nil = refl
