-- Search texts without classes and registers: a match has their characters, in either case.
use Rattle.std.proofs.Common.{◌≡◌, ℕ, ◌-◌, ◌<◌, List, [], ◌∷◌, map, Bool, true, false}
use Rattle.std.proofs.Common.{◌==◌, cond, refl, sym, subst, ◌∙◌, arith, eqb-true}
use Rattle.std.proofs.lemmas.Bool.{false_from_ne_true, ltb-false}
use Rattle.std.proofs.lemmas.List.Elements.{All-cons, All-head, All-nil, All-tail}
use Rattle.std.specs.Prelude.{All, Ok, flat_map, nat_lt}
use Rattle.teco_base.specs.Bytes.{is_line_end, to_upper}
use Rattle.teco_base.specs.declared.bytes.TheConstants.{FF, LF, VT}
use Rattle.teco_changes.specs.Changes.{IsMatch}
use Rattle.teco_changes.specs.Plain.{IsPlain}
use Rattle.teco_change_policies.proofs.Characters.{end_is}
use Rattle.teco_changes.proofs.Matches.{Only, piece_is}
use Rattle.teco_changes.proofs.Plainly.{plain_part, plain_pattern}
use Rattle.teco_model.specs.Match.{is_in}
use Rattle.teco_model.specs.Pattern.{items_of, literal}
use Rattle.teco_model.specs.Registers.{Registers}
use Rattle.teco_model.specs.declared.pattern.Class.TheVariants as class
use Rattle.teco_model.specs.declared.pattern.Item.{Item}
use Rattle.teco_model.specs.declared.pattern.Item.TheVariants as item

plain_items : (P : ℕ → Type 0) (registers : Registers) (exact : Bool) (text : List ℕ)
    → All (λ b. Only P (item.Is (literal exact b))) text
    → All (Only P) (flat_map (items_of registers exact) (map plain_part text))
plain_items P registers exact [] each = All-nil (Only P)
plain_items P registers exact (b ∷ text) each =
    All-cons (Only P) (item.Is (literal exact b)) (flat_map (items_of registers exact) (map plain_part text))
    (All-head (λ c. Only P (item.Is (literal exact c))) b text each)
    (plain_items P registers exact text (All-tail (λ c. Only P (item.Is (literal exact c))) b text each))

-- what a match is made of, by the characters that are looked for
pub plain_match : (P : ℕ → Type 0) (wanted taken : List ℕ) → IsPlain wanted
    → ((exact : Bool) → All (λ b. Only P (item.Is (literal exact b))) wanted) → IsMatch wanted taken
    → All P taken
plain_match P wanted taken plain each h =
    let items : List Item = flat_map (items_of h.registers h.exact) (map plain_part wanted) in
    let read_so : Ok items ≡ Ok h.said = sym (plain_pattern h.registers h.exact wanted plain) ∙ h.says in
    let same : items ≡ h.said = cc in
    (piece_is P h.said
    (subst (λ l. All (Only P) l) same (plain_items P h.registers h.exact wanted (each h.exact)))
    taken h.behind h.leaves).0

-- a literal in either case is no line end, unless it is one itself

upper_small : (s t : Bool) (b n : ℕ) → nat_lt b 97 ≡ s → nat_lt b 123 ≡ t → n < 65
    → n ≡ cond s b (cond t (b - 32) b) → n ≡ b
upper_small true t b n e f small h = h
upper_small false true b n e f small h = let large = ltb-false b 97 e in absurd (omega arith)
upper_small false false b n e f small h = h

upper_is : (b n : ℕ) → n < 65 → n ≡ to_upper b → n ≡ b
upper_is b n small h = upper_small (nat_lt b 97) (nat_lt b 123) b n refl refl small h

differ : (t : Bool) → t ≡ true → t ≡ false → ⊥
differ t e f = cc

no_such_end : (b : ℕ) → is_line_end b ≡ false → (n : ℕ) → n < 65 → is_line_end n ≡ true → (n == to_upper b) ≡ true → ⊥
no_such_end b inside n small end same =
    differ (is_line_end b)
    (subst (λ c. is_line_end c ≡ true) (upper_is b n small (eqb-true n (to_upper b) same)) end) inside

pub literal_within : (t : Bool) (b : ℕ) → is_line_end b ≡ false
    → (c : ℕ) → is_in (cond t (class.EitherCase (to_upper b)) (class.Literal b)) c ≡ true → is_line_end c ≡ false
literal_within true b inside c h =
    false_from_ne_true (is_line_end c)
    (λ e. end_is (λ n. (to_upper n == to_upper b) ≡ true → ⊥)
    (no_such_end b inside LF (omega arith) refl) (no_such_end b inside VT (omega arith) refl)
    (no_such_end b inside FF (omega arith) refl) c e h)
literal_within false b inside c h = subst (λ n. is_line_end n ≡ false) (sym (eqb-true c b h)) inside
