-- Whether a search text finds in either case what it finds.
use Rattle.std.proofs.Common.{◌≡◌, ◌≢◌, ℕ, ◌+◌, ◌-◌, List, [], ◌∷◌, ◌++◌, length, map, take}
use Rattle.std.proofs.Common.{Bool, true, false, ◌&&◌, cond, not}
use Rattle.std.proofs.Common.{refl, sym, subst, ap, ◌∙◌, arith, eqb-true, Option, Some, None, inl, inr}
use Rattle.std.proofs.lemmas.List.{append-nil, length-append}
use Rattle.std.proofs.lemmas.List.Elements.{All-head, All-tail}
use Rattle.std.specs.List.{AllZip}
use Rattle.std.specs.Prelude.{All, IsSome, MatchResult, Ok, Result, flat_map, option_and_then}
use Rattle.teco_base.specs.Bytes.{is_letter, to_upper}
use Rattle.teco_base.specs.declared.code.Code.{Code}
use Rattle.teco_change_policies.specs.Plain.{IsInEitherCase}
use Rattle.teco_changes.specs.Plain.{IsPlain}
use Rattle.teco_change_policies.proofs.Found.{differ}
use Rattle.teco_changes.proofs.Plainly.{plain_part, plain_pattern}
use Rattle.teco_changes.proofs.Replaced.{among, found_at}
use Rattle.teco_model.specs.Match.{first_from, is_in, match_rest}
use Rattle.teco_model.specs.Pattern.{Pattern, items_of, literal}
use Rattle.teco_model.specs.Registers.{Registers, empty_registers}
use Rattle.teco_model.specs.declared.pattern.Class.TheVariants as class
use Rattle.teco_model.specs.declared.pattern.Item.TheVariants as item
use Rattle.teco_model.specs.declared.pattern.Span.{Span}
use Rattle.teco_policy.specs.Wordings.{IsFoundIn, IsSameOrFound, Wording}

-- what a plain search text says
abbrev said : Registers → Bool → List ℕ → Pattern
said registers exact wanted = flat_map (items_of registers exact) (map plain_part wanted)

-- an exact literal is itself
is_exactly : (t : Bool) (b c : ℕ)
    → is_in (cond (t && not true) (class.EitherCase (to_upper b)) (class.Literal b)) c ≡ true → c ≡ b
is_exactly true b c h = eqb-true c b h
is_exactly false b c h = eqb-true c b h

one_exactly : (s : Bool) (b c : ℕ) (wanted text rest : List ℕ) → (s ≡ true → c ≡ b)
    → (match_rest (said empty_registers true wanted) text ≡ Some rest → text ≡ wanted ++ rest)
    → option_and_then (match_rest (said empty_registers true wanted)) (cond s (Some text) None) ≡ Some rest
    → c ∷ text ≡ (b ∷ wanted) ++ rest
one_exactly true b c wanted text rest is others h = ap (λ n. n ∷ text) (is refl) ∙ ap (λ l. b ∷ l) (others h)
one_exactly false b c wanted text rest is others h = absurd cc

-- an exact match is the search text
match_is : (wanted text rest : List ℕ) → match_rest (said empty_registers true wanted) text ≡ Some rest
    → text ≡ wanted ++ rest
match_is [] text rest h =
    let same : text ≡ rest = cc in same
match_is (b ∷ wanted) [] rest h = absurd cc
match_is (b ∷ wanted) (c ∷ text) rest h =
    one_exactly (is_in (literal true b) c) b c wanted text rest (is_exactly (is_letter b) b c)
    (match_is wanted text rest) h

nothing : (l : List ℕ) → length l ≡ 0 → l ≡ []
nothing [] e = refl
nothing (b ∷ l) e = absurd (omega arith)

-- in a text of its length it finds itself alone
module _ (wanted other : List ℕ) (long : length other ≡ length wanted) where
  by_answer : (o : Option Span) → first_from (said empty_registers true wanted) other 0 ≡ o → IsSome o
      → other ≡ wanted
  by_answer None e h = absurd (differ false h refl)
  by_answer (Some span) e h =
      let found = among (said empty_registers true wanted) other 0 (length other - 0) span e in
      let at = found_at (said empty_registers true wanted) other found.at span found.here_is in
      let front = take span.start other in
      let whole : other ≡ front ++ (wanted ++ at.rest) =
      at.is ∙ ap (λ l. front ++ l) (match_is wanted (at.piece ++ at.rest) at.rest at.leaves) in
      let length_is : length other ≡ length front + length (wanted ++ at.rest) =
      ap (λ l. length l) whole ∙ length-append front (wanted ++ at.rest) in
      let both = length-append wanted at.rest in
      whole ∙ ap (λ l. l ++ (wanted ++ at.rest)) (nothing front (omega arith))
      ∙ ap (λ l. wanted ++ l) (nothing at.rest (omega arith))
      ∙ append-nil wanted

  finds_itself : IsSome (first_from (said empty_registers true wanted) other 0) → other ≡ wanted
  finds_itself h = by_answer (first_from (said empty_registers true wanted) other 0) refl h

abbrev IsAny : List ℕ → Result Pattern Code → Type 0
IsAny text r = MatchResult r (λ s. IsSome (first_from s text 0)) (λ c. ⊥)

mode_of : (t : Bool) (wanted other : List ℕ) → IsPlain wanted → length other ≡ length wanted → other ≢ wanted
    → IsFoundIn (record { text = wanted; exact = t }) other → t ≡ false
mode_of false wanted other plain long unlike h = refl
mode_of true wanted other plain long unlike h =
    absurd (unlike (finds_itself wanted other long
    (subst (IsAny other) (plain_pattern empty_registers true wanted plain) h)))

at_mode : (t : Bool) (wanted : List ℕ) → t ≡ false → IsInEitherCase (record { text = wanted; exact = t })
at_mode t wanted e text h = subst (λ s. IsFoundIn (record { text = wanted; exact = s }) text) (sym e) h

pub finds_another : (w : Wording) (other : List ℕ) → length other ≡ length w.text → other ≢ w.text
    → IsFoundIn w other → IsPlain w.text → IsInEitherCase w
finds_another w other long unlike h plain =
    at_mode w.exact w.text (mode_of w.exact w.text other plain long unlike h)

-- without a letter, both modes are the same
one_mode : (t s exact : Bool) (b : ℕ) → t ≡ false
    → cond (t && s) (class.EitherCase (to_upper b)) (class.Literal b)
    ≡ cond (t && not exact) (class.EitherCase (to_upper b)) (class.Literal b)
one_mode true s exact b e = absurd (differ true refl e)
one_mode false s exact b e = refl

same_said : (exact : Bool) (wanted : List ℕ) → All (λ b. is_letter b ≡ false) wanted
    → said empty_registers false wanted ≡ said empty_registers exact wanted
same_said exact [] each = refl
same_said exact (b ∷ wanted) each =
    ap (λ c. item.Is c ∷ said empty_registers false wanted)
    (one_mode (is_letter b) true exact b (All-head (λ c. is_letter c ≡ false) b wanted each))
    ∙ ap (λ l. item.Is (literal exact b) ∷ l)
    (same_said exact wanted (All-tail (λ c. is_letter c ≡ false) b wanted each))

pub has_one_mode : (w : Wording) → All (λ b. is_letter b ≡ false) w.text → IsPlain w.text → IsInEitherCase w
has_one_mode w none plain text h =
    subst (IsAny text)
    (plain_pattern empty_registers false w.text plain
    ∙ ap (λ p. Ok p) (same_said w.exact w.text none)
    ∙ sym (plain_pattern empty_registers w.exact w.text plain))
    h

-- lines that are the same or have a match in either case
pub by_either_case : (w : Wording) → IsInEitherCase w → (a b : List (List ℕ))
    → AllZip (IsSameOrFound (record { text = w.text; exact = false })) a b → AllZip (IsSameOrFound w) a b
by_either_case w finds [] [] h = tt
by_either_case w finds [] (y ∷ b) h = absurd h
by_either_case w finds (x ∷ a) [] h = absurd h
by_either_case w finds (x ∷ a) (y ∷ b) h = (
  (h.0.0, elim h.0.1 [ inl same ↦ inl same | inr found ↦ inr (finds _ found) ]),
  by_either_case w finds a b h.1,
)
