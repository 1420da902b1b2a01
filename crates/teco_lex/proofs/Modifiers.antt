-- A fault in a long run of modifiers comes again at the next of them.
use Rattle.std.proofs.Common.{◌≡◌, ℕ, suc, ◌+◌, ◌-◌, ◌<◌, ◌≤◌, List, [], ◌∷◌, codes, length, take, drop, Bool, true}
use Rattle.std.proofs.Common.{false, cond, ◌==◌, ◌&&◌, ◌||◌, nat_le, Option, Some, None, Result, Ok, Err, refl, ap}
use Rattle.std.proofs.Common.{sym, subst, ◌∙◌, arith, drop-drop, length-drop}
use Rattle.std.specs.List.{prefix_len}
use Rattle.std.proofs.lemmas.Bool.{leb-true, lt-leb, eqb-true}
use Rattle.std.proofs.lemmas.List.Sums.{prefix_len-le-length, sum_by-cons}
use Rattle.teco_base.specs.declared.code.Code.{Code}
use Rattle.teco_base.specs.declared.code.Code.TheVariants as code
use Rattle.teco_base.specs.Bytes.{is_blank, is_among}
use Rattle.teco_lex.specs.Readings.{IsBehindIll, is_ill}
use Rattle.teco_model.specs.Checked.{◌>>=◌}
use Rattle.teco_model.proofs.Ahead.{reading_at-place}
use Rattle.teco_model.specs.Ahead.{Reading, Faulty, next_of, place_behind, reading_of, reading_at}
use Rattle.teco_model.specs.Element.{Element, element_at, element_from, blank_end, blank_len, is_blank_pair}
use Rattle.teco_model.specs.Element.{is_modifier, colons_in, ats_in, modifiers_refused}
use Rattle.teco_model.specs.Form.{colons_allowed, colons_of_command, at_allowed}
use Rattle.teco_model.specs.Letters.{letters}
use Rattle.teco_model.specs.declared.head.Head.{Head}
use Rattle.teco_model.specs.declared.head.Head.TheVariants as head
use Rattle.teco_model.specs.declared.head.OnRegister.TheVariants as on_register
use Rattle.teco_model.specs.declared.kind.Command.{Command}
use Rattle.teco_model.specs.declared.kind.Command.TheVariants as command
use Rattle.teco_model.specs.declared.kind.Flow.TheVariants as flow
use Rattle.teco_model.specs.declared.kind.Kind.TheVariants as kind
use Rattle.teco_model.specs.declared.kind.Motion.TheVariants as motion
use Rattle.teco_model.specs.declared.kind.Search.TheVariants as search_kind
use Rattle.teco_model.specs.declared.kind.Typing.TheVariants as typing

-- no modifier is a blank
not_blank : (b c : ℕ) → is_modifier b ≡ true → (is_blank b ≡ false) × (is_blank_pair b c ≡ false)
not_blank b c h = among (b == 58) (b == 64) refl refl h
  where
    among : (colon at : Bool) → (b == 58) ≡ colon → (b == 64) ≡ at → Path Bool (colon || at) true
        → (is_blank b ≡ false) × (is_blank_pair b c ≡ false)
    among true at u v k = let e = eqb-true b 58 u in rw e (refl, refl)
    among false true u v k = let e = eqb-true b 64 v in rw e (refl, refl)
    among false false u v k = absurd (cc)

blank_len-none : (b : ℕ) (rest : List ℕ) → is_modifier b ≡ true → blank_len (b ∷ rest) ≡ 0
unfolding blank_len
blank_len-none b [] h = let n = not_blank b 0 h in rw (n.0, blank_len) refl
blank_len-none b (c ∷ rest) h = let n = not_blank b c h in rw (n.0, n.1, blank_len) refl

-- a modifier stands where no blanks are
at_modifier : (text : List ℕ) (place b : ℕ) (rest : List ℕ) → drop place text ≡ b ∷ rest → is_modifier b ≡ true
    → blank_end text place ≡ place
at_modifier text place b rest h m = omega (arith, ap blank_len h, blank_len-none b rest m)

inside : (text : List ℕ) (place b : ℕ) (rest : List ℕ) → drop place text ≡ b ∷ rest → place < length text
inside text place b rest h = omega (arith, length-drop place text, ap length h)

behind_first : (text : List ℕ) (place b : ℕ) (rest : List ℕ) → drop place text ≡ b ∷ rest → drop (place + 1) text ≡ rest
behind_first text place b rest h = sym (drop-drop 1 place text) ∙ ap (drop 1) h

-- each modifier of a run is a colon or an @
counted : (bytes : List ℕ) → let run = take (prefix_len is_modifier bytes) bytes in
    colons_in run + ats_in run ≡ prefix_len is_modifier bytes
counted [] = refl
counted (b ∷ bytes) = among (b == 58) (b == 64) refl refl (counted bytes)
  where
    run : List ℕ
    run = take (prefix_len is_modifier bytes) bytes

    among : (colon at : Bool) → (b == 58) ≡ colon → (b == 64) ≡ at
        → colons_in run + ats_in run ≡ prefix_len is_modifier bytes →
        let n = cond (colon || at) (1 + prefix_len is_modifier bytes) 0 in
        colons_in (take n (b ∷ bytes)) + ats_in (take n (b ∷ bytes)) ≡ n
    among true at u v i =
        let more : 1 + prefix_len is_modifier bytes ≡ suc (prefix_len is_modifier bytes) = omega arith in
        let other : (b == 64) ≡ false = rw (eqb-true b 58 u) refl in
        rw more (omega (
          arith,
          i,
          sum_by-cons (λ b. cond (is_among b (codes ":")) 1 0) b run,
          sum_by-cons (λ b. cond (is_among b (codes "@")) 1 0) b run,
          ap (λ t. cond {A = ℕ} t 1 0) u,
          ap (λ t. cond {A = ℕ} t 1 0) other,
        ))
    among false true u v i =
        let more : 1 + prefix_len is_modifier bytes ≡ suc (prefix_len is_modifier bytes) = omega arith in
        rw more (omega (
          arith,
          i,
          sum_by-cons (λ b. cond (is_among b (codes ":")) 1 0) b run,
          sum_by-cons (λ b. cond (is_among b (codes "@")) 1 0) b run,
          ap (λ t. cond {A = ℕ} t 1 0) u,
          ap (λ t. cond {A = ℕ} t 1 0) v,
        ))
    among false false u v i = refl

few_of_command : (c : Command) → colons_of_command c ≤ 2
few_of_command (command.Motion motion.Lines) = omega arith
few_of_command (command.Motion m) = omega arith
few_of_command (command.Typing (typing.Number radix)) = omega arith
few_of_command c = omega arith

-- no letters allow more than two colons and an @
few : (h : Head) → colons_allowed h ≤ 2
few (head.Kind (kind.Command c)) = few_of_command c
few (head.Kind (kind.Search search_kind.Find)) = omega arith
few (head.Kind (kind.Search s)) = omega arith
few (head.Kind (kind.Flow flow.Leave)) = omega arith
few (head.OnRegister on_register.Number) = omega arith
few (head.OnRegister on_register.Copy) = omega arith
few (head.OnRegister on_register.SetText) = omega arith
few (head.OnRegister on_register.Get) = omega arith
few h = omega arith

one_at : (h : Head) → cond (at_allowed h) 1 0 ≤ 1
one_at h = among (at_allowed h)
  where
    among : (t : Bool) → cond t 1 0 ≤ 1
    among true = omega arith
    among false = omega arith

too_many : (h : Head) (run : List ℕ) → 4 ≤ colons_in run + ats_in run → modifiers_refused h run ≡ Err code.Ill
too_many h run l = among (nat_le (colons_in run) (colons_allowed h)) (nat_le (ats_in run) (cond (at_allowed h) 1 0))
    refl refl
  where
    among : (c a : Bool) → nat_le (colons_in run) (colons_allowed h) ≡ c
        → nat_le (ats_in run) (cond (at_allowed h) 1 0) ≡ a →
        Path (Result (Unit {0}) Code) (cond (c && a) (Ok tt) (Err code.Ill)) (Err code.Ill)
    among true true u v = absurd (omega (arith, leb-true _ _ u, leb-true _ _ v, few h, one_at h))
    among true false u v = refl
    among false a u v = refl

-- what stands behind the modifiers at a place
abbrev behind_run : List ℕ → ℕ → List ℕ
behind_run text place = let bytes = drop place text in drop (prefix_len is_modifier bytes) bytes

from_letters : (text : List ℕ) (place : ℕ) (c : Code) → letters (behind_run text place) ≡ Err c
    → element_from text place ≡ Err c
unfolding element_from
from_letters text place c h = rw h refl

from_refused : (text : List ℕ) (place : ℕ) (named : Head × ℕ) → letters (behind_run text place) ≡ Ok named
    → 4 ≤ prefix_len is_modifier (drop place text) → element_from text place ≡ Err code.Ill
unfolding element_from
from_refused text place named h l =
    let refused = too_many named.0 (take (prefix_len is_modifier (drop place text)) (drop place text))
    (omega (arith, counted (drop place text))) in
    rw (h, refused) refl

-- what is read at a place where no blanks are
starts : (text : List ℕ) (place : ℕ) → blank_end text place ≡ place → place < length text →
    reading_at text place ≡ reading_of (element_from text place >>= (λ e. Ok (Some e))) place text
unfolding reading_at element_at
starts text place here l =
    let more : nat_le (length text) (blank_end text place) ≡ false =
    lt-leb (length text) (blank_end text place) (omega (arith, here, l)) in
    rw (more, reading_at, element_at) (rw here refl)

fault_from : (text : List ℕ) (place : ℕ) → reading_at text place ≡ Some (Faulty code.Ill place (place + 1))
    → blank_end text place ≡ place → place < length text → element_from text place ≡ Err code.Ill
fault_from text place read here l = among (element_from text place) (sym (starts text place here l) ∙ read)
  where
    among : (f : Result Element Code)
        → reading_of (f >>= (λ e. Ok (Some e))) place text ≡ Some (Faulty code.Ill place (place + 1)) → f ≡ Err code.Ill
    among (Ok e) h = absurd (cc)
    among (Err c) h = let same : c ≡ code.Ill = cc in ap Err same

fault_back : (text : List ℕ) (place : ℕ) → element_from text place ≡ Err code.Ill → blank_end text place ≡ place
    → place < length text → reading_at text place ≡ Some (Faulty code.Ill place (place + 1))
fault_back text place h here l = starts text place here l ∙ ap (λ f. reading_of (f >>= (λ e. Ok (Some e))) place text) h

-- the same letters stand behind both
pub ill_again : (text : List ℕ) (place : ℕ) → reading_at text place ≡ Some (Faulty code.Ill place (place + 1))
    → 5 ≤ prefix_len is_modifier (drop place text) →
    reading_at text (place + 1) ≡ Some (Faulty code.Ill (place + 1) (place + 1 + 1))
ill_again text place read l = first (drop place text) refl l
  where
    among : (r : Result (Head × ℕ) Code) → letters (behind_run text (place + 1)) ≡ r
        → behind_run text place ≡ behind_run text (place + 1) → element_from text place ≡ Err code.Ill →
        4 ≤ prefix_len is_modifier (drop (place + 1) text) → element_from text (place + 1) ≡ Err code.Ill
    among (Err c) h same fault long =
        let before = from_letters text place c (ap letters same ∙ h) in
        let ill : c ≡ code.Ill = cc (before, fault) in
        from_letters text (place + 1) c h ∙ ap Err ill
    among (Ok named) h same fault long = from_refused text (place + 1) named h long

    first : (bytes : List ℕ) → drop place text ≡ bytes → 5 ≤ prefix_len is_modifier bytes
        → reading_at text (place + 1) ≡ Some (Faulty code.Ill (place + 1) (place + 1 + 1))
    first [] h k = absurd (omega (arith, k))
    first (b ∷ []) h k = absurd (last (is_modifier b) k)
      where
        last : (t : Bool) → 5 ≤ cond t (1 + 0) 0 → ⊥
        last true k = omega (arith, k)
        last false k = omega (arith, k)
    first (b ∷ c ∷ rest) h k = second (is_modifier b) (is_modifier c) refl refl k
      where
        second : (t u : Bool) → is_modifier b ≡ t → is_modifier c ≡ u
            → 5 ≤ cond t (1 + cond u (1 + prefix_len is_modifier rest) 0) 0
            → reading_at text (place + 1) ≡ Some (Faulty code.Ill (place + 1) (place + 1 + 1))
        second false u m n k = absurd (omega (arith, k))
        second true false m n k = absurd (omega (arith, k))
        second true true m n k =
            let next = behind_first text place b (c ∷ rest) h in
            let fault = fault_from text place read (at_modifier text place b (c ∷ rest) h m)
            (inside text place b (c ∷ rest) h) in
            let run : prefix_len is_modifier (b ∷ c ∷ rest) ≡ suc (prefix_len is_modifier (c ∷ rest)) =
            rw (m, n) (omega arith) in
            let same : behind_run text place ≡ behind_run text (place + 1) = rw (h, next, run) refl in
            let long : 4 ≤ prefix_len is_modifier (drop (place + 1) text) = rw (next, n) (omega (arith, k)) in
            fault_back text (place + 1) (among (letters (behind_run text (place + 1))) refl same fault long)
            (at_modifier text (place + 1) c rest next n) (inside text (place + 1) c rest next)

-- the same, told at the next of them
pub again : (text : List ℕ) (place : ℕ) → 0 < place
    → reading_at text (place - 1) ≡ Some (Faulty code.Ill (place - 1) place)
    → 5 ≤ prefix_len is_modifier (drop (place - 1) text) →
    reading_at text place ≡ Some (Faulty code.Ill place (place + 1))
again text place l read run = among (place - 1) (omega arith) read run
  where
    among : (before : ℕ) → place ≡ before + 1 → reading_at text before ≡ Some (Faulty code.Ill before place)
        → 5 ≤ prefix_len is_modifier (drop before text)
        → reading_at text place ≡ Some (Faulty code.Ill place (place + 1))
    among before e r k = subst (λ n. reading_at text n ≡ Some (Faulty code.Ill n (n + 1))) (sym e)
        (ill_again text before (r ∙ ap (λ n. Some (Faulty code.Ill before n)) e) k)

-- a run that long stands in the text
pub run_inside : (text : List ℕ) (place : ℕ) → 0 < place → 5 ≤ prefix_len is_modifier (drop (place - 1) text)
    → place + 1 ≤ length text
run_inside text place l k = omega (
  arith,
  prefix_len-le-length is_modifier (drop (place - 1) text),
  length-drop (place - 1) text,
)

-- behind ILL the last byte is the one that was passed
behind_ill : (text : List ℕ) (at place next : ℕ) → reading_at text at ≡ Some (Faulty code.Ill place next)
    → next ≡ place + 1
unfolding reading_at
behind_ill text at place next h = among (element_at text at) h
  where
    passed : (c : Code) → Path (Option Reading)
        (Some (Faulty c (blank_end text at) (place_behind c (blank_end text at) text)))
        (Some (Faulty code.Ill place next)) → next ≡ place + 1
    passed code.Ill k = cc
    passed c k = absurd (cc)

    among : (r : Result (Option Element) Code)
        → reading_of r (blank_end text at) text ≡ Some (Faulty code.Ill place next) → next ≡ place + 1
    among (Ok None) k = absurd (cc)
    among (Ok (Some x)) k = absurd (cc)
    among (Err c) k = passed c k

pub behind_reading : (text : List ℕ) (at : ℕ) (r : Reading) → reading_at text at ≡ Some r
    → IsBehindIll text (next_of r) (is_ill r)
behind_reading text at (Faulty code.Ill place next) h =
    let more = behind_ill text at place next h in
    let before : next - 1 ≡ place = omega (arith, more) in
    (omega (arith, more), rw before (reading_at-place text at (Faulty code.Ill place next) h))
behind_reading text at r h = tt
