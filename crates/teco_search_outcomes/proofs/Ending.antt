-- The characters that matches begin and end with.
use Rattle.teco_search_outcomes.proofs.Prelude.{◌≡◌, ℕ, zero, suc, ◌+◌, ◌-◌, ◌<◌, ◌≤◌, inl, inr, List, [], ◌∷◌, ◌++◌}
use Rattle.teco_search_outcomes.proofs.Prelude.{length, slice_get, Bool, true, Some, None, pos, refl, sym, ap, subst}
use Rattle.teco_search_outcomes.proofs.Prelude.{arith, slice_get_within, All, Term, Valuation, value, is_in}
use Rattle.teco_search_outcomes.proofs.Prelude.{is_space_or_tab, class_of, items_of, Registers, Part, Span, HasAt}
use Rattle.teco_search_outcomes.proofs.Prelude.{InTurn, IsMatch, AreBytes, Case, CodeHere, IsTrueOf, Point, code_before}
use Rattle.teco_search_outcomes.proofs.Prelude.{code_here, single, above_or, Codes, EndsIn, Direction, BeginsLater}
use Rattle.teco_search_outcomes.proofs.Prelude.{LiesTo}
use Rattle.std.proofs.Common.{◌≢◌}
use Rattle.teco_linear.specs.Implied.{Holds}
use Rattle.teco_model.specs.declared.pattern.Item.TheVariants as item
use Rattle.teco_model.specs.declared.pattern.Part.TheVariants as part
use Rattle.teco_rows.specs.States.{code_if}
use Rattle.teco_rows.proofs.Characters.{before_next, code_inside}
use Rattle.teco_search_outcomes.specs.Patterns.{AreCodes, BeginsIn, IsIn}
use Rattle.teco_search_outcomes.proofs.Matching.{in_turn, items_in, match_lies, turn_split}

-- a character that passes a test has one of the codes
has_code : (passes : ℕ → Bool) (codes : Codes) → ((b : ℕ) → b < 256 → passes b ≡ true → IsIn codes (b + 1))
    → (text : List ℕ) (at : ℕ) → AreBytes text → HasAt passes text at → IsIn codes (code_here text at)
has_code passes codes all text at bytes h =
    let e : code_here text at ≡ h.0 + 1 = ap code_if h.1 in
    let k = code_inside text at (slice_get_within text at h.0 h.1) bytes in
    subst (IsIn codes) (sym e) (all h.0 (omega (arith, e, k.1, k.2)) h.2)

-- any character has
any_code : (codes : Codes) → ((b : ℕ) → b < 256 → IsIn codes (b + 1)) → (text : List ℕ) (at : ℕ) → AreBytes text
    → at < length text → IsIn codes (code_here text at)
any_code codes all text at bytes h =
    let k = code_inside text at h bytes in subst (IsIn codes) (sym k.1) (all k.0 k.2)

before_end : (codes : Codes) (text : List ℕ) (at end : ℕ) → end ≡ at + 1 → IsIn codes (code_here text at)
    → IsIn codes (code_before text end)
before_end codes text at end e h = subst (IsIn codes) (sym (before_next text at end e)) h

module _ (registers : Registers) (exact : Bool) (text : List ℕ) (bytes : AreBytes text) where
  -- at the start of a match
  begins : (p : Part) (ps : List Part) (codes : Codes) (span : Span) → AreCodes p codes
      → IsMatch (items_in registers exact (p ∷ ps)) text span → IsIn codes (code_here text span.start)
  begins (part.Item (item.Is c)) ps codes span all m =
      has_code (is_in (class_of exact c)) codes (all exact) text span.start bytes m.1.has
  begins (part.Item item.Blanks) ps codes span all m =
      has_code is_space_or_tab codes all text span.start bytes (m.1.each span.start (omega arith) m.1.some)
  begins (part.Item (item.IsNot c)) ps codes span all m =
      let l = match_lies (items_in registers exact (part.Item (item.IsNot c) ∷ ps)) text span m in
      any_code codes all text span.start bytes (omega (arith, l.some, l.within))
  begins (part.Register r) ps codes span all m =
      let l = match_lies (items_in registers exact (part.Register r ∷ ps)) text span m in
      any_code codes all text span.start bytes (omega (arith, l.some, l.within))

  -- at its end
  last_item : (p : Part) (codes : Codes) (at end : ℕ) → AreCodes p codes → 0 < end → end ≤ length text
      → InTurn (items_of registers exact p ++ []) text at end → IsIn codes (code_before text end)
  last_item (part.Item (item.Is c)) codes at end all some within m =
      let there : m.0 ≡ end = m.2 in
      before_end codes text at end (omega (arith, m.1.ends, there))
      (has_code (is_in (class_of exact c)) codes (all exact) text at bytes m.1.has)
  last_item (part.Item item.Blanks) codes at end all some within m =
      let there : m.0 ≡ end = m.2 in
      let more : at < m.0 = m.1.some in
      before_end codes text (end - 1) end (omega (arith, some))
      (has_code is_space_or_tab codes all text (end - 1) bytes
      (m.1.each (end - 1) (omega (arith, some, more, there)) (omega (arith, some, there))))
  last_item (part.Item (item.IsNot c)) codes at end all some within m =
      before_end codes text (end - 1) end (omega (arith, some))
      (any_code codes all text (end - 1) bytes (omega (arith, some, within)))
  last_item (part.Register r) codes at end all some within m =
      before_end codes text (end - 1) end (omega (arith, some))
      (any_code codes all text (end - 1) bytes (omega (arith, some, within)))

  last_part : (front : List Part) (p : Part) (codes : Codes) (at end : ℕ) → AreCodes p codes → 0 < end
      → end ≤ length text → InTurn (items_in registers exact (front ++ p ∷ [])) text at end
      → IsIn codes (code_before text end)
  last_part [] p codes at end all some within m = last_item p codes at end all some within m
  last_part (q ∷ front) p codes at end all some within m =
      let split = turn_split (items_of registers exact q) (items_in registers exact (front ++ p ∷ [])) text at end m in
      last_part front p codes split.0 end all some within split.2

pub begins_in : (ps rest : List Part) (p : Part) (codes : Codes) → ps ≡ p ∷ rest → AreCodes p codes → BeginsIn ps codes
begins_in ps rest p codes e all registers exact text span bytes m =
    begins registers exact text bytes p rest codes span all
    (subst (λ qs. IsMatch (items_in registers exact qs) text span) e m)

pub ends_in : (ps front : List Part) (p : Part) (codes : Codes) → ps ≡ front ++ p ∷ [] → AreCodes p codes
    → EndsIn ps codes
ends_in ps front p codes e all registers exact text span bytes m =
    let there = subst (λ qs. IsMatch (items_in registers exact qs) text span) e m in
    let l = match_lies (items_in registers exact (front ++ p ∷ [])) text span there in
    last_part registers exact text bytes front p codes span.start span.end all (omega (arith, l.some)) l.within
    (in_turn (items_in registers exact (front ++ p ∷ [])) text span there)

-- without parts there is no match
pub begins_nowhere : (ps : List Part) (codes : Codes) → ps ≡ [] → BeginsIn ps codes
begins_nowhere ps codes e registers exact text span bytes m =
    absurd (subst (λ qs. IsMatch (items_in registers exact qs) text span) e m)

pub ends_nowhere : (ps : List Part) (codes : Codes) → ps ≡ [] → EndsIn ps codes
ends_nowhere ps codes e registers exact text span bytes m =
    absurd (subst (λ qs. IsMatch (items_in registers exact qs) text span) e m)

-- ---- the first part, and the last
pub begins_at : (ps : List Part) (p : Part) (codes : Codes) → Some p ≡ slice_get ps 0 → AreCodes p codes
    → BeginsIn ps codes
begins_at [] p codes e all = absurd (cc)
begins_at (q ∷ ps) p codes e all =
    let same : q ≡ p = cc in begins_in (q ∷ ps) ps p codes (ap (λ x. x ∷ ps) same) all

pub begins_at_none : (ps : List Part) (codes : Codes) → None ≡ slice_get ps 0 → BeginsIn ps codes
begins_at_none [] codes e = begins_nowhere [] codes refl
begins_at_none (q ∷ ps) codes e = absurd (cc)

last_split : (ps : List Part) (k : ℕ) (p : Part) → suc k ≡ length ps → Some p ≡ slice_get ps k
    → (front : List Part) × (ps ≡ front ++ p ∷ [])
last_split [] k p e h = absurd (omega (arith, e))
last_split (q ∷ []) zero p e h = let same : q ≡ p = cc in ([], ap (λ x. x ∷ []) same)
last_split (q ∷ []) (suc k) p e h = absurd (omega (arith, e))
last_split (q ∷ r ∷ ps) zero p e h = absurd (omega (arith, e))
last_split (q ∷ r ∷ ps) (suc k) p e h =
    let later = last_split (r ∷ ps) k p (omega (arith, e)) h in (q ∷ later.0, ap (λ xs. q ∷ xs) later.1)

pub ends_at : (ps : List Part) (p : Part) (codes : Codes) → Some p ≡ slice_get ps (length ps - 1) → AreCodes p codes
    → EndsIn ps codes
ends_at [] p codes e all = absurd (cc)
ends_at (q ∷ ps) p codes e all =
    let split = last_split (q ∷ ps) (length (q ∷ ps) - 1) p (omega arith) e in
    ends_in (q ∷ ps) split.0 p codes split.1 all

none_behind : (ps : List Part) (k : ℕ) → k < length ps → None ≡ slice_get ps k → ⊥
none_behind [] k h e = absurd (omega (arith, h))
none_behind (q ∷ ps) zero h e = absurd (cc)
none_behind (q ∷ ps) (suc k) h e = none_behind ps k (omega (arith, h)) e

pub ends_at_none : (ps : List Part) (codes : Codes) → None ≡ slice_get ps (length ps - 1) → EndsIn ps codes
ends_at_none [] codes e = ends_nowhere [] codes refl
ends_at_none (q ∷ ps) codes e = absurd (none_behind (q ∷ ps) (length (q ∷ ps) - 1) (omega arith) e)

-- ---- a match that begins with another character than that at the pointer
pub begins_later : (case : Case) (parts : List Part) (direction : Direction) (codes : Codes) (form : List Term)
    (other : Bool) → BeginsIn parts codes
    → ((n : ℕ) (v : Valuation) (s : Point) → IsTrueOf n v case s → value form n v ≡ single s CodeHere)
    → ((p : ℕ) (span : Span) → LiesTo direction p span → p ≤ span.start)
    → (other ≡ true → (n : ℕ) (v : Valuation) (code : ℕ) → All (Holds n v) case.constraints.items → IsIn codes code
    → value form n v ≢ pos code)
    → other ≡ true → BeginsLater parts direction case
begins_later case parts direction codes form other has is lies outside e n v s span true_of whole of =
    elim (above_or span.start s.kept.pointer) [
      | inl w ↦
          let same : span.start ≡ s.kept.pointer = omega (arith, w, lies s.kept.pointer span of.lies) in
          absurd (outside e n v (code_here s.kept.text s.kept.pointer) true_of.fits.constraints
          (subst (λ p. IsIn codes (code_here s.kept.text p)) same
          (has s.kept.registers of.exact s.kept.text span whole.bytes of.matches)) (is n v s true_of))
      | inr w ↦ w
    ]
