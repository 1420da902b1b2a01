-- What is answered of the macros of a library, one behind another.
use Rattle.std.proofs.Common.{◌≡◌, ◌∙◌, ◌+◌, ◌<◌, ◌≤◌, sym, subst, ap, ℕ, List, [], ◌∷◌, ◌++◌, length, take, drop}
use Rattle.std.proofs.Common.{get_or, Option, take-append-drop}
use Rattle.std.proofs.lemmas.List.{take_all, take_more, drop_more}
use Rattle.teco_console.specs.Macros.{macro_named}
use Rattle.teco_console.specs.declared.outcome.Outcome.{Outcome}
use Rattle.teco_verdicts.specs.Answers.{Answer}
use Rattle.teco_verdicts.specs.Each.{AnswersEach, AnswersNext, BreaksNext, BreaksOffAt, Texts, one_more}

-- a name more
pub each_more : (On : ℕ → Answer) (texts : Texts) (old mid new : Option (List ℕ)) (names : List ℕ) (i name : ℕ)
    (before after : Outcome) → i < length names → name ≡ get_or names i name
    → AnswersEach On texts old (take i names) mid before
    → AnswersNext On (macro_named texts name) mid new before after
    → AnswersEach On texts old (take (i + 1) names) new after
each_more On texts old mid new names i name before after within is answered next =
    let more : take (i + 1) names ≡ take i names ++ name ∷ [] =
    take_more names i name within ∙ ap (λ it. take i names ++ it ∷ []) (sym is) in
    subst (λ front. AnswersEach On texts old front new after) (sym more)
    (one_more (take i names) mid before name new after answered next)

-- all of them
pub each_all : (On : ℕ → Answer) (texts : Texts) (old new : Option (List ℕ)) (names : List ℕ) (i : ℕ)
    (outcome : Outcome) → length names ≤ i → AnswersEach On texts old (take i names) new outcome
    → AnswersEach On texts old names new outcome
each_all On texts old new names i outcome beyond answered =
    subst (λ front. AnswersEach On texts old front new outcome) (take_all i names beyond) answered

-- a fault behind some
pub each_breaks : (On : ℕ → Answer) (texts : Texts) (old mid new : Option (List ℕ)) (names : List ℕ) (i name : ℕ)
    (before : Outcome) → i < length names → name ≡ get_or names i name
    → AnswersEach On texts old (take i names) mid before → BreaksNext On (macro_named texts name) mid new
    → BreaksOffAt On texts names old new
each_breaks On texts old mid new names i name before within is answered broken = record {
  front = take i names;
  name = name;
  behind = drop (i + 1) names;
  whole = sym (take-append-drop i names) ∙ ap (λ behind. take i names ++ behind)
      (drop_more names i name within ∙ ap (λ it. it ∷ drop (i + 1) names) (sym is));
  mid = mid;
  before = before;
  answered = answered;
  broken = broken;
}
