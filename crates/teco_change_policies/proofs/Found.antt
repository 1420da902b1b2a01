-- Matches of simple search texts: each is one wherever it stands, and in either case.
use Rattle.std.proofs.Common.{◌≡◌, ◌≢◌, ℕ, zero, suc, ◌+◌, ◌-◌, ◌≤◌, List, [], ◌∷◌, ◌++◌}
use Rattle.std.proofs.Common.{length, drop, Bool, true, false}
use Rattle.std.proofs.Common.{◌&&◌, ◌==◌, cond, not, refl, sym, subst, ap, ◌∙◌, arith}
use Rattle.std.proofs.Common.{eqb-true, eq-eqb, Option, Some, None}
use Rattle.std.proofs.lemmas.List.{length-append}
use Rattle.std.proofs.lemmas.List.Elements.{All-cons, All-contains, All-head, All-nil, All-tail, All-weaker}
use Rattle.std.specs.Prelude.{All, Contains, IsSome, MatchResult, Ok, Result, flat_map, option_and_then, option_map, ⊤}
use Rattle.std.specs.Option.{option_or}
use Rattle.teco_base.specs.Bytes.{is_letter, to_upper}
use Rattle.teco_base.specs.declared.code.Code.{Code}
use Rattle.teco_changes.specs.Changes.{IsMatch}
use Rattle.teco_change_policies.specs.Laws.{HasOne, KeepsLineEnds, OthersAreKept, OthersAreLeft, Seeks, SeeksOne, Swaps}
use Rattle.teco_change_policies.specs.Laws.{SwapsKeepOthers}
use Rattle.teco_change_policies.specs.Simple.{IsSimple}
use Rattle.teco_change_policies.proofs.LineEnds.{ends_stay}
use Rattle.teco_changes.proofs.Matches.{match_is_some, piece_of}
use Rattle.teco_change_policies.proofs.Others.{Stay, lines_stay, others_stay, stay_itself, stay_joins}
use Rattle.teco_change_policies.proofs.Simply.{AreSaid, IsSimplePart, said_parts, says}
use Rattle.teco_changes.proofs.Plainly.{plain_part}
use Rattle.teco_changes.proofs.Turns.{by_changes}
use Rattle.teco_model.specs.Match.{first_among, first_from, here, is_in, is_space_or_tab, match_rest, run_rest}
use Rattle.teco_model.specs.Pattern.{Pattern, items_of, literal, parts}
use Rattle.teco_model.specs.Registers.{Registers, empty_registers}
use Rattle.teco_model.specs.declared.pattern.Class.TheVariants as class
use Rattle.teco_model.specs.declared.pattern.Item.{Item}
use Rattle.teco_model.specs.declared.pattern.Item.TheVariants as item
use Rattle.teco_model.specs.declared.pattern.Part.{Part}
use Rattle.teco_model.specs.declared.pattern.Part.TheVariants as part
use Rattle.teco_model.specs.declared.pattern.Span.{Span}
use Rattle.teco_policy.specs.Wordings.{IsFoundIn, Wording}

-- what the parts of a search text stand for
abbrev pub said : Registers → Bool → List Part → Pattern
said registers exact ps = flat_map (items_of registers exact) ps

abbrev Simple : List Part → Type 0
Simple ps = All (IsSimplePart (λ b. ⊤)) ps

pub differ : (t : Bool) → t ≡ true → t ≡ false → ⊥
differ t e f = cc

-- what is one exactly is one in either case
in_either_case : (t exact : Bool) (b c : ℕ)
    → is_in (cond (t && not exact) (class.EitherCase (to_upper b)) (class.Literal b)) c ≡ true
    → is_in (cond (t && true) (class.EitherCase (to_upper b)) (class.Literal b)) c ≡ true
in_either_case true false b c h = h
in_either_case true true b c h =
    subst (λ n. (to_upper n == to_upper b) ≡ true) (sym (eqb-true c b h)) (eq-eqb (to_upper b) (to_upper b) refl)
in_either_case false exact b c h = h

same_in : (exact : Bool) (b c : ℕ) → is_in (literal exact b) c ≡ true → is_in (literal false b) c ≡ true
same_in exact b c h = in_either_case (is_letter b) exact b c h

-- no elements match a text that is no longer than the rest
too_short : (i : Item) (items : List Item) (text rest : List ℕ) → match_rest (i ∷ items) text ≡ Some rest
    → length text ≤ length rest → ⊥
too_short i items text rest h few =
    let made = piece_of (i ∷ items) text rest h in
    let long : length text ≡ length made.piece + length rest =
    ap (λ l. length l) made.is ∙ length-append made.piece rest in
    let many = made.many in
    absurd (omega arith)

abbrev past : List ℕ → List ℕ
past text = run_rest is_space_or_tab text

past_shorter : (t : Bool) (b : ℕ) (text : List ℕ) → length (past text) ≤ length text
    → length (cond t (past text) (b ∷ text)) ≤ length (b ∷ text)
past_shorter true b text h = omega arith
past_shorter false b text h = omega arith

past_short : (text : List ℕ) → length (past text) ≤ length text
past_short [] = omega arith
past_short (b ∷ text) = past_shorter (is_space_or_tab b) b text (past_short text)

-- What matches before some text matches before any other: only a run of blanks at its end may be longer there.
module _ (registers : Registers) (exact : Bool) (behind more : List ℕ) where
  abbrev Again : List Part → Type 0
  Again ps =
      (taken : List ℕ) → match_rest (said registers exact ps) (taken ++ behind) ≡ Some behind
      → IsSome (match_rest (said empty_registers false ps) (taken ++ more))

  one_again : (s t : Bool) (ps : List Part) (taken : List ℕ) → (s ≡ true → t ≡ true) → Again ps
      → option_and_then (match_rest (said registers exact ps)) (cond s (Some (taken ++ behind)) None) ≡ Some behind
      → IsSome (option_and_then (match_rest (said empty_registers false ps)) (cond t (Some (taken ++ more)) None))
  one_again true true ps taken on others h = others taken h
  one_again true false ps taken on others h = absurd (differ false (on refl) refl)
  one_again false t ps taken on others h = absurd cc

  character_again : (b : ℕ) (ps : List Part) → Again ps → Again (plain_part b ∷ ps)
  character_again b ps others [] h =
      absurd (too_short (item.Is (literal exact b)) (said registers exact ps) behind behind h (omega arith))
  character_again b ps others (c ∷ taken) h =
      one_again (is_in (literal exact b) c) (is_in (literal false b) c) ps taken (same_in exact b c) others h

  at_end : (ps : List Part) → Simple ps → match_rest (said registers exact ps) (past behind) ≡ Some behind
      → IsSome (match_rest (said empty_registers false ps) (past more))
  at_end [] each h = refl
  at_end (part.Item (item.Is (class.Literal b)) ∷ ps) each h =
      absurd (too_short (item.Is (literal exact b)) (said registers exact ps) (past behind) behind h
      (past_short behind))
  at_end (part.Item item.Blanks ∷ ps) each h =
      absurd (too_short item.Blanks (said registers exact ps) (past behind) behind h (past_short behind))
  at_end (p ∷ ps) each h = absurd (All-head (IsSimplePart (λ b. ⊤)) p ps each)

  in_run : (t : Bool) (b : ℕ) (ps : List Part) (taken : List ℕ) → Again ps
      → (match_rest (said registers exact ps) (past (taken ++ behind)) ≡ Some behind
      → IsSome (match_rest (said empty_registers false ps) (past (taken ++ more))))
      → match_rest (said registers exact ps) (cond t (past (taken ++ behind)) (b ∷ (taken ++ behind))) ≡ Some behind
      → IsSome (match_rest (said empty_registers false ps) (cond t (past (taken ++ more)) (b ∷ (taken ++ more))))
  in_run true b ps taken others on h = on h
  in_run false b ps taken others on h = others (b ∷ taken) h

  run_again : (ps : List Part) → Simple ps → Again ps → (taken : List ℕ)
      → match_rest (said registers exact ps) (past (taken ++ behind)) ≡ Some behind
      → IsSome (match_rest (said empty_registers false ps) (past (taken ++ more)))
  run_again ps each others [] h = at_end ps each h
  run_again ps each others (b ∷ taken) h =
      in_run (is_space_or_tab b) b ps taken others (run_again ps each others taken) h

  some_blank : (t : Bool) (ps : List Part) (taken : List ℕ) → Simple ps → Again ps
      → option_and_then (match_rest (said registers exact ps))
      (option_map past (cond t (Some (taken ++ behind)) None)) ≡ Some behind
      → IsSome (option_and_then (match_rest (said empty_registers false ps))
      (option_map past (cond t (Some (taken ++ more)) None)))
  some_blank true ps taken each others h = run_again ps each others taken h
  some_blank false ps taken each others h = absurd cc

  blanks_again : (ps : List Part) → Simple ps → Again ps → Again (part.Item item.Blanks ∷ ps)
  blanks_again ps each others [] h =
      absurd (too_short item.Blanks (said registers exact ps) behind behind h (omega arith))
  blanks_again ps each others (c ∷ taken) h = some_blank (is_space_or_tab c) ps taken each others h

  pub again : (ps : List Part) → Simple ps → Again ps
  again [] each taken h = refl
  again (part.Item (item.Is (class.Literal b)) ∷ ps) each taken h =
      character_again b ps (again ps (All-tail (IsSimplePart (λ b. ⊤)) (plain_part b) ps each)) taken h
  again (part.Item item.Blanks ∷ ps) each taken h =
      let later = All-tail (IsSimplePart (λ b. ⊤)) (part.Item item.Blanks) ps each in
      blanks_again ps later (again ps later) taken h
  again (p ∷ ps) each taken h = absurd (All-head (IsSimplePart (λ b. ⊤)) p ps each)

-- What is found in a text is found in a longer one.
some_mapped : {A B : Type 0} (f g : A → B) (o : Option A) → IsSome (option_map f o) → IsSome (option_map g o)
some_mapped f g None h = h
some_mapped f g (Some x) h = refl

some_or : (a b c d : Option Span) → (IsSome a → IsSome c) → (IsSome b → IsSome d) → IsSome (option_or a b)
    → IsSome (option_or c d)
some_or a b (Some s) d first others h = refl
some_or (Some s) b None d first others h = absurd (differ false (first refl) refl)
some_or None b None d first others h = others h

some_first : (a b : Option Span) → IsSome a → IsSome (option_or a b)
some_first None b h = absurd (differ false h refl)
some_first (Some s) b h = refl

here_later : (p : Pattern) (b : ℕ) (text : List ℕ) (at : ℕ) → IsSome (here p text at)
    → IsSome (here p (b ∷ text) (suc at))
unfolding here
here_later [] b text at h = h
here_later (i ∷ items) b text at h =
    some_mapped (λ rest. record { start = at; end = length text - length rest })
    (λ rest. record { start = suc at; end = length (b ∷ text) - length rest })
    (match_rest (i ∷ items) (drop at text)) h

module _ (p : Pattern) (b : ℕ) (text : List ℕ) where
  among_later : (n at : ℕ) → IsSome (first_among p text at n) → IsSome (first_among p (b ∷ text) (suc at) n)
  among_later zero at h = h
  among_later (suc n) at h =
      let next : suc (at + 1) ≡ suc at + 1 = omega arith in
      some_or (here p text at) (first_among p text (at + 1) n) (here p (b ∷ text) (suc at))
      (first_among p (b ∷ text) (suc at + 1) n) (here_later p b text at)
      (λ found. subst (λ k. IsSome (first_among p (b ∷ text) k n)) next (among_later n (at + 1) found)) h

  first_later : IsSome (first_from p text 0) → IsSome (first_from p (b ∷ text) 0)
  first_later h =
      let many : length text - 0 ≡ length text = omega arith in
      let more : suc (length text) ≡ length (b ∷ text) - 0 = omega arith in
      let found : IsSome (first_among p (b ∷ text) 1 (length text)) =
      among_later (length text) 0 (subst (λ n. IsSome (first_among p text 0 n)) many h) in
      subst (λ n. IsSome (first_among p (b ∷ text) 0 n)) more
      (some_or None (first_among p (b ∷ text) 1 (length text)) (here p (b ∷ text) 0)
      (first_among p (b ∷ text) 1 (length text)) (λ none. absurd cc) (λ same. same) found)

mapped : (f : List ℕ → Span) (o : Option (List ℕ)) → IsSome o → IsSome (option_map f o)
mapped f None h = h
mapped f (Some x) h = refl

-- a match at the front is found
first_here : (i : Item) (items : List Item) (text : List ℕ) → IsSome (match_rest (i ∷ items) text)
    → 1 ≤ length text → IsSome (first_from (i ∷ items) text 0)
unfolding here
first_here i items text h many =
    let more : suc (length text - 1) ≡ length text - 0 = omega arith in
    let found : IsSome (here (i ∷ items) text 0) =
    mapped (λ left. record { start = 0; end = length text - length left }) (match_rest (i ∷ items) text) h in
    subst (λ n. IsSome (first_among (i ∷ items) text 0 n)) more
    (some_first (here (i ∷ items) text 0) (first_among (i ∷ items) text (0 + 1) (length text - 1)) found)

some_parts : (ps : List Part) → Simple ps → (registers : Registers) (exact : Bool) → said registers exact ps ≢ []
    → (text : List ℕ) → IsSome (match_rest (said empty_registers false ps) text) → 1 ≤ length text
    → IsSome (first_from (said empty_registers false ps) text 0)
some_parts [] each registers exact some text h many = absurd (some refl)
some_parts (part.Item (item.Is (class.Literal b)) ∷ ps) each registers exact some text h many =
    first_here (item.Is (literal false b)) (said empty_registers false ps) text h many
some_parts (part.Item item.Blanks ∷ ps) each registers exact some text h many =
    first_here item.Blanks (said empty_registers false ps) text h many
some_parts (p ∷ ps) each registers exact some text h many = absurd (All-head (IsSimplePart (λ b. ⊤)) p ps each)

some_text : (text more : List ℕ) → text ≢ [] → 1 ≤ length (text ++ more)
some_text [] more some = absurd (some refl)
some_text (b ∷ text) more some = omega arith

any_characters : (text : List ℕ) → All (λ b. ⊤) text
any_characters [] = All-nil (λ b. ⊤)
any_characters (b ∷ text) = All-cons (λ b. ⊤) b text tt (any_characters text)

abbrev wording : List ℕ → Wording
wording wanted = record { text = wanted; exact = false }

module _ (wanted : List ℕ) (simple : IsSimple wanted) where
  read : AreSaid (λ b. ⊤) (parts wanted)
  read = said_parts (λ b. ⊤) wanted simple (any_characters wanted)

  abbrev IsAny : List ℕ → Result Pattern Code → Type 0
  IsAny text r = MatchResult r (λ s. IsSome (first_from s text 0)) (λ c. ⊥)

  found_is : (text : List ℕ) → IsSome (first_from (said empty_registers false read.parts) text 0)
      → IsFoundIn (wording wanted) text
  found_is text h = subst (IsAny text) (sym (says (λ b. ⊤) empty_registers false wanted read)) h

  is_found : (text : List ℕ) → IsFoundIn (wording wanted) text
      → IsSome (first_from (said empty_registers false read.parts) text 0)
  is_found text h = subst (IsAny text) (says (λ b. ⊤) empty_registers false wanted read) h

  later : (b : ℕ) (text : List ℕ) → IsFoundIn (wording wanted) text → IsFoundIn (wording wanted) (b ∷ text)
  later b text h =
      found_is (b ∷ text) (first_later (said empty_registers false read.parts) b text (is_found text h))

  found_of : (taken : List ℕ) → IsMatch wanted taken → (more : List ℕ)
      → IsFoundIn (wording wanted) (taken ++ more)
  found_of taken h more =
      let read_so : Ok (said h.registers h.exact read.parts) ≡ Ok h.said =
      sym (says (λ b. ⊤) h.registers h.exact wanted read) ∙ h.says in
      let same : said h.registers h.exact read.parts ≡ h.said = cc in
      let leaves : match_rest (said h.registers h.exact read.parts) (taken ++ h.behind) ≡ Some h.behind =
      subst (λ p. match_rest p (taken ++ h.behind) ≡ Some h.behind) (sym same) h.leaves in
      found_is (taken ++ more)
      (some_parts read.parts read.each h.registers h.exact (λ none. h.some (sym same ∙ none)) (taken ++ more)
      (again h.registers h.exact h.behind more read.parts read.each taken leaves)
      (some_text taken more (match_is_some wanted taken h)))

pub others_are_kept : OthersAreKept
others_are_kept wanted simple changes old new each h last =
    lines_stay (IsFoundIn (wording wanted)) (later wanted simple) old new last
    (by_changes (Stay (IsFoundIn (wording wanted)) (later wanted simple))
    (stay_itself (IsFoundIn (wording wanted)) (later wanted simple))
    (stay_joins (IsFoundIn (wording wanted)) (later wanted simple))
    (λ change. KeepsLineEnds change × Seeks wanted change)
    (λ change is a b does. others_stay (IsFoundIn (wording wanted)) (later wanted simple) change a b is.0 does
    (found_of wanted simple does.taken (is.1 does.taken does.takes)))
    changes each old new h)

pub swaps_keep_others : SwapsKeepOthers
swaps_keep_others wanted simple changes each old new h =
    others_are_kept wanted simple changes old new
    (All-weaker (λ change. (KeepsLineEnds change × Swaps change) × Seeks wanted change)
    (λ change. KeepsLineEnds change × Seeks wanted change) (λ change is. (is.0.0, is.1)) changes each)
    h
    (ends_stay changes
    (All-weaker (λ change. (KeepsLineEnds change × Swaps change) × Seeks wanted change)
    (λ change. KeepsLineEnds change × Swaps change) (λ change is. is.0) changes each)
    old new h).1

-- ---- one of several search texts
module _ (wanted : List (List ℕ)) (simple : All IsSimple wanted) where
  one_later : (b : ℕ) (text : List ℕ) → HasOne wanted text → HasOne wanted (b ∷ text)
  one_later b text h = (h.0, h.1, later h.0 (All-contains IsSimple wanted h.0 simple h.1) b text h.2)

  abbrev IsOneOf : List ℕ → Type 0
  IsOneOf taken = (sought : List ℕ) × Contains wanted sought × IsMatch sought taken

  one_of : (taken : List ℕ) → IsOneOf taken → (more : List ℕ) → HasOne wanted (taken ++ more)
  one_of taken h more =
      (h.0, h.1, found_of h.0 (All-contains IsSimple wanted h.0 simple h.1) taken h.2 more)

pub others_are_left : OthersAreLeft
others_are_left wanted simple changes each old new h =
    by_changes (Stay (HasOne wanted) (one_later wanted simple))
    (stay_itself (HasOne wanted) (one_later wanted simple))
    (stay_joins (HasOne wanted) (one_later wanted simple))
    (λ change. KeepsLineEnds change × SeeksOne wanted change)
    (λ change is a b does. others_stay (HasOne wanted) (one_later wanted simple) change a b is.0 does
    (one_of wanted simple does.taken (is.1 does.taken does.takes)))
    changes each old new h
