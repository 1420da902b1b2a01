-- How the parts of a search text are read, and how long matches of them are.
use Rattle.teco_search_outcomes.proofs.Prelude.{◌≡◌, ℕ, zero, suc, ◌+◌, ◌-◌, ◌<◌, ◌≤◌, List, [], ◌∷◌, ◌++◌, length}
use Rattle.teco_search_outcomes.proofs.Prelude.{drop, Bool, get_or, Result, Ok, Err, refl, sym, ap, ◌∙◌, arith}
use Rattle.teco_search_outcomes.proofs.Prelude.{length-append, append_assoc, append-nil, flat_map, Code, ◌>>=◌}
use Rattle.teco_search_outcomes.proofs.Prelude.{items_of, parts, Registers, Part}
use Rattle.std.proofs.lemmas.List.{drop_all, drop_more}
use Rattle.teco_model.specs.Pattern.{part_at, parts_within}
use Rattle.teco_model.specs.declared.pattern.Item.TheVariants as item
use Rattle.teco_model.specs.declared.pattern.Part.TheVariants as part

-- ---- what is read so far, and what is read of the rest in so many steps
abbrev pub with_rest : ℕ → List ℕ → List Part → Result (List Part) Code
with_rest steps rest read = parts_within steps rest >>= (λ others. Ok (read ++ others))

joined : (read : List Part) (p : Part) (r : Result (List Part) Code)
    → ((r >>= (λ others. Ok (p ∷ others))) >>= (λ others. Ok (read ++ others)))
    ≡ (r >>= (λ others. Ok ((read ++ p ∷ []) ++ others)))
joined read p (Ok others) = ap Ok (sym (append_assoc read (p ∷ []) others))
joined read p (Err c) = refl

read_more : (k : ℕ) (rest behind : List ℕ) (read : List Part) (p : Part) → 0 < length rest
    → part_at rest ≡ Ok (p, behind) → with_rest (suc k) rest read ≡ with_rest k behind (read ++ p ∷ [])
unfolding parts_within
read_more k [] behind read p some e = absurd (omega arith)
read_more k (b ∷ rest) behind read p some e =
    ap (λ r. (r >>= (λ first. parts_within k first.1 >>= (λ others. Ok (first.0 ∷ others))))
    >>= (λ others. Ok (read ++ others))) e
    ∙ joined read p (parts_within k behind)

pub part_read : (m i : ℕ) (rest behind : List ℕ) (read : List Part) (p : Part) (whole : Result (List Part) Code) → i < m
    → 0 < length rest → part_at rest ≡ Ok (p, behind) → whole ≡ with_rest (m - i) rest read
    → whole ≡ with_rest (m - (i + 1)) behind (read ++ p ∷ [])
part_read m i rest behind read p whole less some e before =
    before ∙ ap (λ k. with_rest k rest read) (omega arith)
    ∙ read_more (m - (i + 1)) rest behind read p some e

none_left : (k : ℕ) → parts_within k [] ≡ Ok []
unfolding parts_within
none_left zero = refl
none_left (suc k) = refl

pub none_read : (m i : ℕ) (rest : List ℕ) (read : List Part) (whole : Result (List Part) Code) → length rest ≡ 0
    → whole ≡ with_rest (m - i) rest read → whole ≡ with_rest (m - (i + 1)) rest read
none_read m i [] read whole none before =
    before ∙ ap (λ r. r >>= (λ others. Ok (read ++ others))) (none_left (m - i) ∙ sym (none_left (m - (i + 1))))
none_read m i (b ∷ rest) read whole none before = absurd (omega arith)

pub all_read : (m i : ℕ) (rest : List ℕ) (read : List Part) (whole : Result (List Part) Code) → m ≤ i
    → whole ≡ with_rest (m - i) rest read → whole ≡ Ok read
unfolding parts_within
all_read m i rest read whole over before =
    let done : m - i ≡ 0 = omega arith in
    before ∙ ap (λ k. with_rest k rest read) done ∙ ap Ok (append-nil read)

pub reading_starts : (text : List ℕ) → parts text ≡ with_rest (length text - 0) text []
unfolding parts
reading_starts text = whole (parts_within (length text) text)
    ∙ ap (λ k. with_rest k text []) (omega arith) where
      whole : (r : Result (List Part) Code) → r ≡ (r >>= (λ others. Ok ([] ++ others)))
      whole (Ok ps) = refl
      whole (Err c) = refl

-- ---- how many elements parts stand for
abbrev pub count : Registers → Bool → List Part → ℕ
count registers exact ps = length (flat_map (items_of registers exact) ps)

abbrev pub no_part : Part
no_part = part.Item item.Blanks

pub count_more : (registers : Registers) (exact : Bool) (ps : List Part) (i : ℕ) → i < length ps
    → count registers exact (drop i ps)
    ≡ count registers exact (get_or ps i no_part ∷ []) + count registers exact (drop (i + 1) ps)
count_more registers exact ps i h =
    let f = items_of registers exact in
    ap (λ qs. length (flat_map f qs)) (drop_more ps i no_part h)
    ∙ length-append (f (get_or ps i no_part)) (flat_map f (drop (i + 1) ps))
    ∙ ap (λ k. k + length (flat_map f (drop (i + 1) ps)))
    (sym (length-append (f (get_or ps i no_part)) [] ∙ omega arith))

pub count_all : (registers : Registers) (exact : Bool) (ps : List Part) (i : ℕ) → length ps ≤ i
    → count registers exact (drop i ps) ≡ 0
count_all registers exact ps i h = ap (λ qs. length (flat_map (items_of registers exact) qs)) (drop_all i ps h)
