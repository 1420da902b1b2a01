-- A number before a call is taken first, and then it is pending.
use Rattle.teco_law_runs.proofs.Prelude.{◌≡◌, ℕ, zero, suc, ◌+◌, ◌-◌, ◌<◌, ◌≤◌, arith, pos, List, [], ◌∷◌, ◌++◌, take}
use Rattle.teco_law_runs.proofs.Prelude.{drop, map, length, length-append, true, false, Some, None, Ok, refl, sym, ap}
use Rattle.teco_law_runs.proofs.Prelude.{◌∙◌, subst, nat_le, length-map, register_of, register_name, no_arguments}
use Rattle.teco_law_runs.proofs.Prelude.{levels_after_answer, Element, element_at, element_from, blank_len, blank_end}
use Rattle.teco_law_runs.proofs.Prelude.{letters, World, State, Next, start, reply_of, outcome_of, outcome_at, step}
use Rattle.teco_law_runs.proofs.Prelude.{CallsLast, Calling, AreAlike, call_of, ◌^◌, ints, REGISTERS, start_pending}
use Rattle.teco_law_runs.proofs.Prelude.{NumbersArePending}
use Rattle.std.proofs.Common.{lit<}
use Rattle.std.proofs.Math.Seq.{take-append_seam, drop-append_seam}
use Rattle.std.proofs.lemmas.Bool.{le-leb}
use Rattle.std.proofs.lemmas.Bool.Decides.{nat_tests}
use Rattle.std.proofs.lemmas.Fmt.{decimal_digit, decimal-digits_of}
use Rattle.std.proofs.lemmas.Int.{int_wrap_fits}
use Rattle.std.proofs.lemmas.Int.Digits.{all_below_base_digits_of, number_digits_of}
use Rattle.std.specs.Int.Digits.{AllBelowBase, digits_of, number_from_digits}
use Rattle.std.specs.List.{prefix_len}
use Rattle.teco_base.specs.Bytes.{is_digit}
use Rattle.teco_base.specs.NumberText.{decimal}
use Rattle.teco_model.specs.declared.kind.Argument.TheVariants as argument
use Rattle.teco_model.specs.declared.kind.Kind.TheVariants as kind
use Rattle.teco_model.specs.Arguments.{run_value}
use Rattle.teco_model.specs.Checked.{◌>>=◌}

-- ---- digits at the front of a text
abbrev digits_in : List ℕ → ℕ
digits_in text = prefix_len is_digit text

abbrev digits_element : List ℕ → Element
digits_element text = record {
  kind = kind.Argument argument.Digits;
  colons = 0;
  at = false;
  text = take (digits_in text) text;
  second = [];
  place = 0;
  next = length text - length (drop (digits_in text) text);
}

no_blank_before : (d c : ℕ) (rest : List ℕ) → d < 10 → blank_len ((48 + d) ∷ (c ∷ rest)) ≡ 0
unfolding blank_len
no_blank_before zero c rest small = refl
no_blank_before (suc zero) c rest small = refl
no_blank_before (suc (suc zero)) c rest small = refl
no_blank_before (suc (suc (suc zero))) c rest small = refl
no_blank_before (suc (suc (suc (suc zero)))) c rest small = refl
no_blank_before (suc (suc (suc (suc (suc zero))))) c rest small = refl
no_blank_before (suc (suc (suc (suc (suc (suc zero)))))) c rest small = refl
no_blank_before (suc (suc (suc (suc (suc (suc (suc zero))))))) c rest small = refl
no_blank_before (suc (suc (suc (suc (suc (suc (suc (suc zero)))))))) c rest small = refl
no_blank_before (suc (suc (suc (suc (suc (suc (suc (suc (suc zero))))))))) c rest small = refl
no_blank_before (suc (suc (suc (suc (suc (suc (suc (suc (suc (suc k)))))))))) c rest small = absurd (omega arith)

from_digit : (d c : ℕ) (rest : List ℕ) → d < 10
    → element_from ((48 + d) ∷ (c ∷ rest)) 0 ≡ Ok (digits_element ((48 + d) ∷ (c ∷ rest)))
unfolding element_from letters
from_digit zero c rest small = refl
from_digit (suc zero) c rest small = refl
from_digit (suc (suc zero)) c rest small = refl
from_digit (suc (suc (suc zero))) c rest small = refl
from_digit (suc (suc (suc (suc zero)))) c rest small = refl
from_digit (suc (suc (suc (suc (suc zero))))) c rest small = refl
from_digit (suc (suc (suc (suc (suc (suc zero)))))) c rest small = refl
from_digit (suc (suc (suc (suc (suc (suc (suc zero))))))) c rest small = refl
from_digit (suc (suc (suc (suc (suc (suc (suc (suc zero)))))))) c rest small = refl
from_digit (suc (suc (suc (suc (suc (suc (suc (suc (suc zero))))))))) c rest small = refl
from_digit (suc (suc (suc (suc (suc (suc (suc (suc (suc (suc k)))))))))) c rest small = absurd (omega arith)

some_there : (rest : ℕ) → nat_le (suc (suc rest)) 0 ≡ false
some_there rest = grind (arith, nat_tests)

first_digit : (d c : ℕ) (rest : List ℕ) → d < 10
    → element_at ((48 + d) ∷ (c ∷ rest)) 0 ≡ Ok (Some (digits_element ((48 + d) ∷ (c ∷ rest))))
unfolding element_at
first_digit d c rest small = search (no_blank_before, some_there, from_digit, arith)

digit_glyph_is : (d : ℕ) → d < 10 → is_digit (48 + d) ≡ true
digit_glyph_is d small = grind (arith, nat_tests)

abbrev glyphs : List ℕ → List ℕ
glyphs ds = map (λ d. 48 + d) ds

run_of : (ds : List ℕ) (rest : List ℕ) → AllBelowBase 10 ds → digits_in (glyphs ds ++ 77 ∷ rest) ≡ length ds
run_of [] rest h = refl
run_of (d ∷ ds) rest h = rw (digit_glyph_is d h.0) (omega (arith, run_of ds rest h.1))

back : (ds : List ℕ) → map (λ digit. digit - 48) (glyphs ds) ≡ ds
back [] = refl
back (d ∷ ds) = let e : 48 + d - 48 ≡ d = omega arith in rw (e, back ds) refl

-- ---- the digits of a number
record AreDigits (n : ℕ) : Type 0 where
  first : ℕ
  others : List ℕ
  below : AllBelowBase 10 (first ∷ others)
  spelled : decimal (pos n) ≡ glyphs (first ∷ others)
  value_is : number_from_digits 10 (first ∷ others) ≡ n

digits_are : (n : ℕ) → n < 2 ^ 31 → AreDigits n
digits_are zero small = record {
  first = 0;
  others = [];
  below = (lit< tt, tt);
  spelled = decimal_digit 0 (lit< tt);
  value_is = refl;
}
digits_are (suc n) small = among (digits_of 10 (suc n)) refl
  where
    among : (ds : List ℕ) → digits_of 10 (suc n) ≡ ds → AreDigits (suc n)
    among [] e = absurd (omega (arith, sym (number_digits_of 10 (suc n) (omega arith)) ∙ ap (number_from_digits 10) e))
    among (d ∷ ds) e = record {
      first = d;
      others = ds;
      below = subst (AllBelowBase 10) e (all_below_base_digits_of 10 (suc n) (omega arith));
      spelled = decimal-digits_of (suc n) (omega arith) (omega arith) ∙ ap glyphs e;
      value_is = sym (ap (number_from_digits 10) e) ∙ number_digits_of 10 (suc n) (omega arith);
    }

-- ---- the call at the end of a text
pub name_read : (r : ℕ) → r < REGISTERS → register_of (register_name r) ≡ Some r
name_read r small = grind (arith, nat_tests)

abbrev call_element : ℕ → List ℕ → ℕ → Element
call_element entry text place = record {
  kind = kind.Call (record { register = entry });
  colons = 0;
  at = false;
  text = [];
  second = [];
  place = place;
  next = length text - 0;
}

from_call : (text : List ℕ) (place entry : ℕ) → entry < REGISTERS → drop place text ≡ call_of entry
    → element_from text place ≡ Ok (call_element entry text place)
unfolding element_from letters
from_call text place entry small h = rw (h, name_read entry small) refl

no_blank : (place entry : ℕ) → place + blank_len (call_of entry) ≡ place
unfolding blank_len
no_blank place entry = omega arith

below : (k : ℕ) → nat_le (k + 2) k ≡ false
below k = grind (arith, nat_tests)

call_read : (text : List ℕ) (place entry : ℕ) → entry < REGISTERS → length text ≡ place + 2
    → drop place text ≡ call_of entry → element_at text place ≡ Ok (Some (call_element entry text place))
unfolding element_at
call_read text place entry small long h =
    let none : blank_end text place ≡ place = ap (λ bytes. place + blank_len bytes) h ∙ no_blank place entry in
    let shorter : nat_le (length text) place ≡ false = ap (λ k. nat_le k place) long ∙ below place in
    ap (λ at. elim (nat_le (length text) at) [ true ↦ Ok None | false ↦ element_from text at >>= (λ e. Ok (Some e)) ])
    none
    ∙ (ap (λ t. elim t [ true ↦ Ok None | false ↦ element_from text place >>= (λ e. Ok (Some e)) ]) shorter
    ∙ ap (λ r. r >>= (λ e. Ok (Some e))) (from_call text place entry small h))

end_read : (text : List ℕ) (place : ℕ) → length text ≤ place → element_at text place ≡ Ok None
unfolding element_at
end_read text place h =
    ap (λ t. elim t [ true ↦ Ok None | false ↦ element_from text (blank_end text place) >>= (λ e. Ok (Some e)) ])
    (le-leb (length text) (blank_end text place) (omega (arith, h)))

calls_last : (text : List ℕ) (place entry : ℕ) → entry < REGISTERS → length text ≡ place + 2
    → drop place text ≡ call_of entry
    → CallsLast (record { register = entry }) (record { text = text; place = place; loops = [] })
calls_last text place entry small long h = record {
  element = call_element entry text place;
  reads = call_read text place entry small long h;
  calls = refl;
  behind = record { closed = refl; over = end_read text (length text - 0) (omega arith) };
}

-- ---- the first step
module _ (entry n : ℕ) (world : World) (named : entry < REGISTERS) (small : n < 2 ^ 31) where
  abbrev are : AreDigits n
  are = digits_are n small

  abbrev ds : List ℕ
  ds = are.first ∷ are.others

  abbrev text : List ℕ
  text = glyphs ds ++ call_of entry

  count : digits_in text ≡ length ds
  count = run_of ds (register_name entry ∷ []) are.below

  long : length text ≡ length ds + 2
  long = length-append (glyphs ds) (call_of entry) ∙ ap (λ k. k + 2) (length-map ds (λ d. 48 + d))

  rest_is : drop (length ds) text ≡ call_of entry
  rest_is = ap (λ k. drop k text) (sym (length-map ds (λ d. 48 + d))) ∙ drop-append_seam (glyphs ds) (call_of entry)

  front_is : take (digits_in text) text ≡ glyphs ds
  front_is = ap (λ k. take k text) (count ∙ sym (length-map ds (λ d. 48 + d)))
      ∙ take-append_seam (glyphs ds) (call_of entry)

  number_is : run_value (take (digits_in text) text) ≡ pos n
  number_is = search (front_is, back, int_wrap_fits, arith, ints)

  abbrev behind : State
  behind = record {
    world = world;
    arguments = levels_after_answer (Some (run_value (take (digits_in text) text))) no_arguments;
    frames = record {
      running = record {
        text = text;
        place = length text - length (drop (digits_in text) text);
        loops = [];
      };
      callers = [];
    };
    left = None;
  }

  reads : element_at text 0 ≡ Ok (Some (digits_element text))
  reads = starts are.others refl
    where
      starts : (others : List ℕ) → are.others ≡ others → element_at text 0 ≡ Ok (Some (digits_element text))
      starts [] e = let t : text ≡ (48 + are.first) ∷ (77 ∷ register_name entry ∷ []) =
          ap (λ xs. glyphs (are.first ∷ xs) ++ call_of entry) e in
          subst (λ text. element_at text 0 ≡ Ok (Some (digits_element text))) (sym t)
          (first_digit are.first 77 (register_name entry ∷ []) are.below.0)
      starts (d ∷ others) e = let t : text ≡ (48 + are.first) ∷ ((48 + d) ∷ (glyphs others ++ call_of entry)) =
          ap (λ xs. glyphs (are.first ∷ xs) ++ call_of entry) e in
          subst (λ text. element_at text 0 ≡ Ok (Some (digits_element text))) (sym t)
          (first_digit are.first (48 + d) (glyphs others ++ call_of entry) are.below.0)

  digits_step : (e : Element) → e.kind ≡ kind.Argument argument.Digits → outcome_of e.kind e (start text world) ≡
      Next (record {
        world = world;
        arguments = levels_after_answer (Some (run_value e.text)) no_arguments;
        frames = record { running = record { text = text; place = e.next; loops = [] }; callers = [] };
        left = None;
      })
  unfolding reply_of
  digits_step e h = rw h refl

  goes_on : step (start text world) ≡ Next behind
  unfolding step
  goes_on = ap (outcome_at (start text world)) reads ∙ digits_step (digits_element text) refl

  place_is : length text - length (drop (digits_in text) text) ≡ length ds
  place_is = omega (arith, long, ap length (ap (λ k. drop k text) count ∙ rest_is))

  pending : AreAlike behind (start_pending entry n world)
  pending = record {
    world = refl;
    arguments = ap (λ v. levels_after_answer (Some v) no_arguments) number_is;
    left = refl;
    texts = Calling (record { register = entry })
        (calls_last text _ entry named (long ∙ ap (λ k. k + 2) (sym place_is)) (ap (λ k. drop k text) place_is
        ∙ rest_is))
        (calls_last (call_of entry) 0 entry named refl refl);
  }

  abbrev spelled : decimal (pos n) ++ call_of entry ≡ text
  spelled = ap (λ xs. xs ++ call_of entry) are.spelled

pub numbers_are_pending : NumbersArePending
numbers_are_pending entry n world named small = record {
  digits = digits_element (text entry n world named small);
  reads = ap (λ command. element_at command 0) (spelled entry n world named small) ∙ reads entry n world named small;
  are_digits = refl;
  behind = behind entry n world named small;
  goes = ap (λ command. step (start command world)) (spelled entry n world named small)
      ∙ goes_on entry n world named small;
  alike = pending entry n world named small;
}
