-- A text is that of one certificate: each part of it ends where it has to, and is the text of one value.
use Rattle.teco_certificate.proofs.Prelude.{◌≡◌, ℕ, ◌+◌, ◌-◌, ◌^◌, ◌<◌, Bool, true, false, cond, Option, Some, None}
use Rattle.teco_certificate.proofs.Prelude.{List, [], ◌∷◌, ◌++◌, sym, ap, ◌∙◌, refl, arith, append_assoc, ltb, flat_map}
use Rattle.teco_certificate.proofs.Prelude.{append_cancel_left, append_cancel_right, is_ascii_digit, decimal}
use Rattle.teco_certificate.proofs.Prelude.{AllByRecursion, codes, ◌==◌, ◌≢◌, register_name, REGISTERS, LF, Fields}
use Rattle.teco_certificate.proofs.Prelude.{is_of_polynomial, EndsPolynomial, line, version_text, argument_line}
use Rattle.teco_certificate.proofs.Prelude.{letters_of, needs_text, longer_text, longer_texts, behind_comma, kept_text}
use Rattle.teco_certificate.proofs.Prelude.{chosen_text, loop_line, IsLongerText, IsChosen, Polynomial, IsPoly}
use Rattle.teco_certificate.proofs.Prelude.{EndsNumber, text, ArgumentRange, Needs, LongerText, Chosen}
use Rattle.std.proofs.Common.{◌||◌}
use Rattle.std.proofs.lemmas.Bool.{ltb-false}
use Rattle.std.proofs.lemmas.Fmt.{decimal_injective}
use Rattle.std.specs.Prelude.{IfSome}
use Rattle.teco_certificate.specs.Text.{certificate_text}
use Rattle.teco_certificate.specs.WellFormed.{HasText}
use Rattle.teco_poly.proofs.Fronts.{one_front, decimal_digits, ends_number, ends_polynomial, polynomial_passes}
use Rattle.teco_poly.proofs.Fronts.{passes_append}
use Rattle.teco_poly.proofs.Items.{one_list}
use Rattle.teco_certificate.proofs.Spelling.{other_byte, no_dash, ends_longer, ends_kept, parts_of_line, same_chosen}
use Rattle.teco_certificate.proofs.Spelling.{same_fields}
use Rattle.teco_poly.specs.Laws.{OneText}
use Rattle.teco_verifier.specs.certificate.ArgumentText.{range_text}
use Rattle.teco_model.specs.Macros.{IsArgumentRange}

first_byte : {c d : ℕ} {x y : List ℕ} → c ∷ x ≡ d ∷ y → c ≡ d
first_byte e = cc

other_bytes : {c d : ℕ} {x y : List ℕ} → c ∷ x ≡ d ∷ y → x ≡ y
other_bytes e = cc

-- a register's name is that of one
one_register : (r s : ℕ) → r < REGISTERS → s < REGISTERS → register_name r ≡ register_name s → r ≡ s
one_register r s small other e = by_tests (ltb r 26) (ltb s 26) refl refl e
  where
    by_tests : (a b : Bool) → ltb r 26 ≡ a → ltb s 26 ≡ b
        → cond a (65 + r) (48 + (r - 26)) ≡ cond b (65 + s) (48 + (s - 26)) → r ≡ s
    by_tests true true p q e = omega arith
    by_tests true false p q e = omega (arith, ltb-false s 26 q)
    by_tests false true p q e = omega (arith, ltb-false r 26 p)
    by_tests false false p q e = omega (arith, ltb-false r 26 p, ltb-false s 26 q)

-- the files, by their letters
abbrev has_input : List ℕ → Bool
has_input [] = false
has_input (c ∷ text) = c == 73

abbrev has_output : List ℕ → Bool
has_output [] = false
has_output (c ∷ []) = c == 79
has_output (c ∷ d ∷ text) = c == 79 || d == 79

input_is : (i o : Bool) (rest : List ℕ) → has_input (letters_of i o ++ LF ∷ rest) ≡ i
input_is true true rest = refl
input_is true false rest = refl
input_is false true rest = refl
input_is false false rest = refl

output_is : (i o : Bool) (rest : List ℕ) → has_output (letters_of i o ++ LF ∷ rest) ≡ o
output_is true true rest = refl
output_is true false rest = refl
output_is false true rest = refl
output_is false false rest = refl

same_needs : (needs others : Needs) → needs.input ≡ others.input → needs.output ≡ others.output → needs ≡ others
same_needs needs others i o = ap (λ b. record { input = b; output = needs.output }) i
    ∙ ap (λ b. record { input = others.input; output = b }) o

one_needs : (needs others : Needs) (x y : List ℕ) → needs_text needs ++ LF ∷ x ≡ needs_text others ++ LF ∷ y
    → (needs ≡ others) × (x ≡ y)
one_needs needs others x y e =
    let same = same_needs needs others
    (sym (input_is needs.input needs.output x) ∙ ap has_input e ∙ input_is others.input others.output y)
    (sym (output_is needs.input needs.output x) ∙ ap has_output e ∙ output_is others.input others.output y) in (
      same,
      other_bytes (append_cancel_left (needs_text others) (LF ∷ x) (LF ∷ y)
          (ap (λ n. needs_text n ++ LF ∷ x) (sym same) ∙ e)),
    )

-- whether it is kept, by the word
abbrev has_kept : List ℕ → Bool
has_kept [] = false
has_kept (c ∷ text) = c == 107

kept_is : (kept : Bool) (rest : List ℕ) → has_kept (kept_text kept ++ rest) ≡ kept
kept_is true rest = refl
kept_is false rest = refl

one_kept : (kept other : Bool) (x y : List ℕ) → kept_text kept ++ x ≡ kept_text other ++ y → (kept ≡ other) × (x ≡ y)
one_kept kept other x y e =
    let same = sym (kept_is kept x) ∙ ap has_kept e ∙ kept_is other y in
    (same, append_cancel_left (kept_text other) x y (ap (λ k. kept_text k ++ x) (sym same) ∙ e))

same_range : (range other : ArgumentRange) → range.low ≡ other.low → range.high ≡ other.high → range ≡ other
same_range range other l h = ap (λ k. record { low = k; high = range.high }) l
    ∙ ap (λ k. record { low = other.low; high = k }) h

one_number : (m n : ℕ) (x y : List ℕ) → m < 2 ^ 64 → n < 2 ^ 64 → EndsNumber x → EndsNumber y
    → decimal m ++ x ≡ decimal n ++ y → (m ≡ n) × (x ≡ y)
one_number m n x y small other ends ended e =
    let front = one_front is_ascii_digit (decimal m) (decimal n) x y (decimal_digits m small) (decimal_digits n other)
    (ends_number x ends) (ends_number y ended) e in
    (decimal_injective m n small other front.0, front.1)

-- the version tells what comes behind it
one_version : (a b : Option ArgumentRange) (x y : List ℕ)
    → (version_text a ++ LF ∷ []) ++ x ≡ (version_text b ++ LF ∷ []) ++ y → x ≡ y
one_version None None x y e = other_bytes (other_bytes e)
one_version (Some range) (Some other) x y e = other_bytes (other_bytes e)
one_version None (Some other) x y e = let same : 49 ≡ 50 = first_byte e in absurd (omega (arith, same))
one_version (Some range) None x y e = let same : 50 ≡ 49 = first_byte e in absurd (omega (arith, same))

one_argument : (a b : Option ArgumentRange) (x y : List ℕ) → IfSome a IsArgumentRange → IfSome b IsArgumentRange
    → argument_line a ++ (codes "needs " ++ x) ≡ argument_line b ++ (codes "needs " ++ y) → (a ≡ b) × (x ≡ y)
one_argument None None x y is other e = (refl, append_cancel_left (codes "needs ") x y e)
one_argument None (Some range) x y is other e = let same : 110 ≡ 97 = first_byte e in absurd (omega (arith, same))
one_argument (Some range) None x y is other e = let same : 97 ≡ 110 = first_byte e in absurd (omega (arith, same))
one_argument (Some r) (Some s) x y is other e =
    let behind_low = λ (range : ArgumentRange) (rest : List ℕ). codes " "
    ++ (decimal range.high ++ LF ∷ (codes "needs " ++ rest)) in
    let parts = λ (range : ArgumentRange) (rest : List ℕ). append_assoc (range_text range) (LF ∷ [])
    (codes "needs " ++ rest) ∙ append_assoc (decimal range.low) (codes " " ++ decimal range.high)
    (LF ∷ (codes "needs " ++ rest)) in
    let at = append_cancel_left (codes "argument ") ((range_text r ++ LF ∷ []) ++ (codes "needs " ++ x))
    ((range_text s ++ LF ∷ []) ++ (codes "needs " ++ y)) e in
    let low = one_number r.low s.low (behind_low r x) (behind_low s y) (omega (arith, is.ordered, is.small))
    (omega (arith, other.ordered, other.small)) refl refl (sym (parts r x) ∙ at ∙ parts s y) in
    let high = one_number r.high s.high (LF ∷ (codes "needs " ++ x)) (LF ∷ (codes "needs " ++ y))
    (omega (arith, is.small)) (omega (arith, other.small)) refl refl
    (append_cancel_left (codes " ") (decimal r.high ++ LF ∷ (codes "needs " ++ x))
    (decimal s.high ++ LF ∷ (codes "needs " ++ y)) low.1) in
    (ap Some (same_range r s low.0 high.0), append_cancel_left (codes "needs ") x y (other_bytes high.1))

-- the lines from one on
abbrev loop_lines : Fields → List ℕ
loop_lines fields = flat_map loop_line fields.loops ++ line (codes "end")

abbrev size_lines : Fields → List ℕ
size_lines fields = line (codes "size " ++ text fields.size) ++ loop_lines fields

abbrev command_lines : Fields → List ℕ
command_lines fields = line (codes "commands " ++ text fields.commands) ++ size_lines fields

abbrev need_lines : Fields → List ℕ
need_lines fields = line (codes "needs " ++ needs_text fields.needs) ++ command_lines fields

abbrev argument_lines : Fields → List ℕ
argument_lines fields = argument_line fields.argument ++ need_lines fields

abbrev entry_lines : Fields → List ℕ
entry_lines fields = line (codes "entry " ++ register_name fields.entry ∷ []) ++ argument_lines fields

-- the register stands behind the first line
entry_told : (f g : Fields) → certificate_text f ≡ certificate_text g
    → register_name f.entry ∷ LF ∷ argument_lines f ≡ register_name g.entry ∷ LF ∷ argument_lines g
entry_told f g e =
    append_cancel_left (codes "entry ") (register_name f.entry ∷ LF ∷ argument_lines f)
    (register_name g.entry ∷ LF ∷ argument_lines g)
    (one_version f.argument g.argument (entry_lines f) (entry_lines g)
    (append_cancel_left (codes "TECO-CERT ") ((version_text f.argument ++ LF ∷ []) ++ entry_lines f)
    ((version_text g.argument ++ LF ∷ []) ++ entry_lines g) e))

pub one_entry : (f g : Fields) → f.entry < REGISTERS → g.entry < REGISTERS → certificate_text f ≡ certificate_text g
    → f.entry ≡ g.entry
one_entry f g small other e = one_register f.entry g.entry small other (first_byte (entry_told f g e))

module _ (one_text : OneText) where
  one_polynomial : (p q : Polynomial) (x y : List ℕ) → IsPoly p → IsPoly q → EndsPolynomial x → EndsPolynomial y
      → text p ++ x ≡ text q ++ y → (p ≡ q) × (x ≡ y)
  one_polynomial p q x y is other ends ended e =
      let front = one_front is_of_polynomial (text p) (text q) x y (polynomial_passes p is) (polynomial_passes q other)
      (ends_polynomial x ends) (ends_polynomial y ended) e in
      (one_text p q is other front.0, front.1)

  -- a space behind it is no part of it
  one_held : (p q : Polynomial) (x y : List ℕ) → IsPoly p → IsPoly q → EndsPolynomial x → EndsPolynomial y
      → text p ++ (codes " " ++ x) ≡ text q ++ (codes " " ++ y) → (p ≡ q) × (x ≡ y)
  one_held p q x y is other ends ended e =
      let front = one_front is_of_polynomial (text p ++ codes " ") (text q ++ codes " ") x y
      (passes_append (text p) (codes " ") (polynomial_passes p is) refl)
      (passes_append (text q) (codes " ") (polynomial_passes q other) refl)
      (ends_polynomial x ends) (ends_polynomial y ended) (append_assoc (text p) (codes " ") x ∙ e
      ∙ sym (append_assoc (text q) (codes " ") y)) in
      (one_text p q is other (append_cancel_right (text p) (text q) (codes " ") front.0), front.1)

  one_longer : (l m : LongerText) (x y : List ℕ) → IsLongerText l → IsLongerText m → EndsPolynomial x → EndsPolynomial y
      → longer_text l ++ x ≡ longer_text m ++ y → (l ≡ m) × (x ≡ y)
  one_longer l m x y is other ends ended e =
      let register = one_register l.register m.register is.register other.register (first_byte e) in
      let poly = one_polynomial l.text m.text x y is.text other.text ends ended (other_bytes (other_bytes e)) in
      (same register poly.0, poly.1)
    where
      same : l.register ≡ m.register → l.text ≡ m.text → l ≡ m
      same r t = ap (λ q. record { register = q; text = l.text }) r
          ∙ ap (λ p. record { register = m.register; text = p }) t

  one_others : (ls ms : List LongerText) (x y : List ℕ) → AllByRecursion IsLongerText ls
      → AllByRecursion IsLongerText ms → flat_map behind_comma ls ++ LF ∷ x ≡ flat_map behind_comma ms ++ LF ∷ y
      → (ls ≡ ms) × (LF ∷ x ≡ LF ∷ y)
  one_others ls ms x y are others e =
      one_list (codes ",") longer_text IsLongerText (LF ∷ x) (LF ∷ y) (no_comma x) (no_comma y)
      (λ l m xs ys is other. one_longer l m (flat_map behind_comma xs ++ LF ∷ x) (flat_map behind_comma ys ++ LF ∷ y) is
      other (ends_longer xs x) (ends_longer ys y))
      ls ms are others e
    where
      no_comma : (rest words : List ℕ) → LF ∷ rest ≢ codes "," ++ words
      no_comma rest = other_byte (LF ∷ rest) [] rest 10 44 refl (λ (same : 10 ≡ 44). omega arith)

  one_texts : (ls ms : List LongerText) (x y : List ℕ) → AllByRecursion IsLongerText ls → AllByRecursion IsLongerText ms
      → longer_texts ls ++ LF ∷ x ≡ longer_texts ms ++ LF ∷ y → (ls ≡ ms) × (x ≡ y)
  one_texts [] [] x y are others e = (refl, other_bytes (other_bytes e))
  one_texts [] (m ∷ ms) x y are others e = absurd (no_dash m.register (sym (first_byte e)))
  one_texts (l ∷ ls) [] x y are others e = absurd (no_dash l.register (first_byte e))
  one_texts (l ∷ ls) (m ∷ ms) x y are others e =
      let first = one_longer l m (flat_map behind_comma ls ++ LF ∷ x) (flat_map behind_comma ms ++ LF ∷ y) are.0
      others.0 (ends_longer ls x) (ends_longer ms y)
      (sym (append_assoc (longer_text l) (flat_map behind_comma ls) (LF ∷ x)) ∙ e
      ∙ append_assoc (longer_text m) (flat_map behind_comma ms) (LF ∷ y)) in
      let rest = one_others ls ms x y are.1 others.1 first.1 in
      (ap (λ k. k ∷ ls) first.0 ∙ ap (λ ks. m ∷ ks) rest.0, other_bytes rest.1)

  one_chosen : (c d : Chosen) (x y : List ℕ) → IsChosen c → IsChosen d
      → line (chosen_text c) ++ x ≡ line (chosen_text d) ++ y → (c ≡ d) × (x ≡ y)
  one_chosen c d x y is other e =
      let texts = λ (chosen : Chosen) (rest : List ℕ). codes " texts " ++ (longer_texts chosen.longer ++ LF ∷ rest) in
      let behind_held = λ (chosen : Chosen) (rest : List ℕ). kept_text chosen.kept ++ texts chosen rest in
      let behind_number = λ (chosen : Chosen) (rest : List ℕ). text chosen.held
      ++ (codes " " ++ behind_held chosen rest) in
      let number = one_number c.begin d.begin (codes " held " ++ behind_number c x)
      (codes " held " ++ behind_number d y) is.begin other.begin refl refl
      (sym (parts_of_line c x) ∙ e ∙ parts_of_line d y) in
      let held = one_held c.held d.held (behind_held c x) (behind_held d y) is.held other.held
      (ends_kept c.kept (texts c x)) (ends_kept d.kept (texts d y))
      (append_cancel_left (codes " held ") (behind_number c x) (behind_number d y) number.1) in
      let kept = one_kept c.kept d.kept (texts c x) (texts d y) held.1 in
      let longer = one_texts c.longer d.longer x y is.longer other.longer
      (append_cancel_left (codes " texts ") (longer_texts c.longer ++ LF ∷ x)
      (longer_texts d.longer ++ LF ∷ y) kept.1) in
      (same_chosen d number.0 held.0 kept.0 longer.0, longer.1)

  one_loops : (cs ds : List Chosen) → AllByRecursion IsChosen cs → AllByRecursion IsChosen ds
      → flat_map loop_line cs ++ line (codes "end") ≡ flat_map loop_line ds ++ line (codes "end") → cs ≡ ds
  one_loops cs ds are others e =
      (one_list (codes "loop ") (λ (chosen : Chosen). line (chosen_text chosen)) IsChosen (line (codes "end"))
      (line (codes "end")) no_loop no_loop
      (λ c d xs ys is other. one_chosen c d (flat_map loop_line xs ++ line (codes "end"))
      (flat_map loop_line ys ++ line (codes "end")) is other)
      cs ds are others e).0
    where
      no_loop : (words : List ℕ) → line (codes "end") ≢ codes "loop " ++ words
      no_loop = other_byte (line (codes "end")) (codes "oop ") (codes "nd" ++ LF ∷ []) 101 108 refl
          (λ (same : 101 ≡ 108). omega arith)

  pub one_certificate : (f g : Fields) → HasText f → HasText g → certificate_text f ≡ certificate_text g → f ≡ g
  one_certificate f g is other e =
      let at_entry = entry_told f g e in
      let argument = one_argument f.argument g.argument ((needs_text f.needs ++ LF ∷ []) ++ command_lines f)
      ((needs_text g.needs ++ LF ∷ []) ++ command_lines g) is.argument other.argument
      (other_bytes (other_bytes at_entry)) in
      let need = one_needs f.needs g.needs (command_lines f) (command_lines g)
      (sym (append_assoc (needs_text f.needs) (LF ∷ []) (command_lines f)) ∙ argument.1
      ∙ append_assoc (needs_text g.needs) (LF ∷ []) (command_lines g)) in
      let at_commands = append_cancel_left (codes "commands ") ((text f.commands ++ LF ∷ []) ++ size_lines f)
      ((text g.commands ++ LF ∷ []) ++ size_lines g) need.1 in
      let most = one_polynomial f.commands g.commands (LF ∷ size_lines f) (LF ∷ size_lines g) is.commands other.commands
      refl refl
      (sym (append_assoc (text f.commands) (LF ∷ []) (size_lines f)) ∙ at_commands
      ∙ append_assoc (text g.commands) (LF ∷ []) (size_lines g)) in
      let at_size = append_cancel_left (LF ∷ codes "size ") ((text f.size ++ LF ∷ []) ++ loop_lines f)
      ((text g.size ++ LF ∷ []) ++ loop_lines g) most.1 in
      let size = one_polynomial f.size g.size (LF ∷ loop_lines f) (LF ∷ loop_lines g) is.size other.size refl refl
      (sym (append_assoc (text f.size) (LF ∷ []) (loop_lines f)) ∙ at_size ∙ append_assoc (text g.size) (LF ∷ [])
      (loop_lines g)) in
      same_fields g (one_entry f g is.entry other.entry e) argument.0 need.0 most.0
      size.0 (one_loops f.loops g.loops is.loops other.loops (other_bytes size.1))
