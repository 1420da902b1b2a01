-- Which policies a word asks for.
use Rattle.std.proofs.Common.{◌≡◌, ◌≢◌, ◌==◌, ℕ, ◌+◌, ◌*◌, ◌-◌, ◌<◌, ◌≤◌, List, ◌++◌, length, take}
use Rattle.std.proofs.Common.{drop, Bool, true, false}
use Rattle.std.proofs.Common.{refl, sym, subst, ap, ◌∙◌, arith, get_or}
use Rattle.std.proofs.lemmas.Bool.Decides.{Decides-eqb, nat_tests}
use Rattle.std.proofs.lemmas.List.{take_all}
use Rattle.std.proofs.lemmas.List.Elements.{All-more}
use Rattle.std.proofs.lemmas.List.Sums.{fold_more}
use Rattle.std.proofs.lemmas.Slice.Eq.{strip_prefix_is, strip_suffix_is}
use Rattle.std.specs.Borrow.{Bor}
use Rattle.std.specs.Cmp.Lexicographic.{pointwise}
use Rattle.std.specs.Prelude.{All, IsTrue, MatchOption, Option, codes, nat_eq}
use Rattle.teco_base.specs.Bytes.{is_digit}
use Rattle.teco_policy.specs.Words.{AsksFor, IsAskedFor, IsNumber, number_of, option_of}
use Rattle.teco_policy.specs.declared.policy.Policy.{Policy}
use Rattle.teco_policy.specs.declared.policy.Policy.TheVariants as policy
use Rattle.teco_policy.specs.declared.words.PolicyOption.{PolicyOption}
use Rattle.teco_policy.specs.declared.words.PolicyOption.TheVariants as option

pub asked : (behind : PolicyOption) (exact : Bool) (word : List ℕ) (policy : Policy) → option_of policy ≡ behind
    → AsksFor exact word policy → IsAskedFor behind exact word policy
asked behind exact word policy is asks = record { stands = is; says = asks }

pub keeps_nothing : (exact : Bool) (word : List ℕ) → (word ≡ codes "text" → ⊥) → (word ≡ codes "size" → ⊥)
    → (word ≡ codes "lines" → ⊥) → ((rest : List ℕ) → word ≡ codes "others=" ++ rest → ⊥) → (asked : Policy)
    → IsAskedFor option.Keep exact word asked → ⊥
keeps_nothing exact word text size lines others policy.KeepText h = text h.says
keeps_nothing exact word text size lines others policy.KeepSize h = size h.says
keeps_nothing exact word text size lines others policy.KeepLines h = lines h.says
keeps_nothing exact word text size lines others (policy.KeepOthers wording) h = others wording.text h.says.0
keeps_nothing exact word text size lines others policy.AddNothing h = cc h.stands
keeps_nothing exact word text size lines others (policy.AddOnly characters) h = cc h.stands
keeps_nothing exact word text size lines others (policy.TakeOnly characters) h = cc h.stands
keeps_nothing exact word text size lines others (policy.Most n) h = cc h.stands
keeps_nothing exact word text size lines others (policy.MostPercent n) h = cc h.stands

pub adds_nothing : (exact : Bool) (word : List ℕ) → (word ≡ codes "nothing" → ⊥)
    → ((rest : List ℕ) → word ≡ codes "only=" ++ rest → ⊥) → (asked : Policy)
    → IsAskedFor option.Add exact word asked → ⊥
adds_nothing exact word nothing only policy.KeepText h = cc h.stands
adds_nothing exact word nothing only policy.KeepSize h = cc h.stands
adds_nothing exact word nothing only policy.KeepLines h = cc h.stands
adds_nothing exact word nothing only (policy.KeepOthers wording) h = cc h.stands
adds_nothing exact word nothing only policy.AddNothing h = nothing h.says
adds_nothing exact word nothing only (policy.AddOnly characters) h = only characters.items h.says
adds_nothing exact word nothing only (policy.TakeOnly characters) h = cc h.stands
adds_nothing exact word nothing only (policy.Most n) h = cc h.stands
adds_nothing exact word nothing only (policy.MostPercent n) h = cc h.stands

pub takes_nothing : (exact : Bool) (word : List ℕ) → ((rest : List ℕ) → word ≡ codes "only=" ++ rest → ⊥)
    → (asked : Policy) → IsAskedFor option.Take exact word asked → ⊥
takes_nothing exact word only policy.KeepText h = cc h.stands
takes_nothing exact word only policy.KeepSize h = cc h.stands
takes_nothing exact word only policy.KeepLines h = cc h.stands
takes_nothing exact word only (policy.KeepOthers wording) h = cc h.stands
takes_nothing exact word only policy.AddNothing h = cc h.stands
takes_nothing exact word only (policy.AddOnly characters) h = cc h.stands
takes_nothing exact word only (policy.TakeOnly characters) h = only characters.items h.says
takes_nothing exact word only (policy.Most n) h = cc h.stands
takes_nothing exact word only (policy.MostPercent n) h = cc h.stands

-- what stands behind the beginning of a word, and before its end
pub prefix_is : (s p : List ℕ) (r : Option (Bor (List ℕ)))
    → MatchOption r (pointwise nat_eq (take (length p) s) p ≡ false)
    (λ x. (pointwise nat_eq (take (length p) s) p ≡ true) × (x.now ≡ drop (length p) s)
    × (length x.now + length p ≡ length s))
    → MatchOption r ((rest : List ℕ) → s ≢ p ++ rest) (λ x. s ≡ p ++ x.now)
prefix_is s p r h = strip_prefix_is Decides-eqb s p r h

pub suffix_is : (s p : List ℕ) (r : Option (Bor (List ℕ)))
    → MatchOption r (pointwise nat_eq (drop (length s - length p) s) p ≡ false)
    (λ x. (pointwise nat_eq (drop (length s - length p) s) p ≡ true) × (x.now ≡ take (length s - length p) s)
    × (length x.now + length p ≡ length s))
    → MatchOption r ((front : List ℕ) → s ≢ front ++ p) (λ x. s ≡ x.now ++ p)
suffix_is s p r h = strip_suffix_is Decides-eqb s p r h

-- a digit is no less than that of zero
pub digit_least : (b : ℕ) → is_digit b ≡ true → 48 ≤ b
digit_least b e = grind (arith, nat_tests)

-- what the first digits are
pub record IsNumberUpTo (n : ℕ) (digits : List ℕ) (k : ℕ) : Type 0 where
  pub each : All (λ b. IsTrue (is_digit b)) (take k digits)
  pub value : n ≡ number_of (take k digits)

pub number_begun : (digits : List ℕ) → IsNumberUpTo 0 digits 0
number_begun digits = record { each = λ k d within. absurd (omega arith); value = refl }

pub number_more : (digits : List ℕ) (n more k : ℕ) → k < length digits → IsNumberUpTo n digits k
    → IsTrue (is_digit (get_or digits k 0)) → more ≡ n * 10 + (get_or digits k 0 - 48)
    → IsNumberUpTo more digits (k + 1)
number_more digits n more k within so_far digit is = record {
  each = All-more (λ b. IsTrue (is_digit b)) digits k 0 within so_far.each digit;
  value =
      is ∙ ap (λ m. m * 10 + (get_or digits k 0 - 48)) so_far.value
      ∙ sym (fold_more (λ m b. m * 10 + (b - 48)) 0 digits k 0 within);
}

pub number_all : (digits : List ℕ) (n k : ℕ) → (length digits == 0) ≡ false → length digits ≤ k
    → IsNumberUpTo n digits k → IsNumber n digits
number_all digits n k some all so_far =
    let whole = take_all k digits all in
    record {
      some = λ e. let none : (length digits == 0) ≡ true = ap (λ l. length l == 0) e in cc;
      each = subst (λ l. All (λ b. IsTrue (is_digit b)) l) whole so_far.each;
      value = so_far.value ∙ ap (λ l. number_of l) whole;
    }

pub ruleset asking = (asked, keeps_nothing, adds_nothing, takes_nothing)

pub ruleset parts = (prefix_is, suffix_is)

pub ruleset counting = (number_begun, number_more, number_all)
