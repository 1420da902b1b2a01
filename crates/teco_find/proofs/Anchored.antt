-- The mark of a literal stands as far from the start of each match as there are elements of one character before it.
use Rattle.teco_find.proofs.Prelude.{◌≡◌, ℕ, zero, suc, ◌+◌, ◌<◌, Bool, true, false, cond, List, [], ◌∷◌, length, drop}
use Rattle.teco_find.proofs.Prelude.{get_or, Option, Some, None, sym, subst, arith, get_or-drop, length-drop, IsSome}
use Rattle.teco_find.proofs.Prelude.{option_map, option_and_then, Passes, Item, Span, is_marked, Anchors}
use Rattle.std.proofs.lemmas.Bool.{false≢true}
use Rattle.std.specs.Prelude.{not}
use Rattle.teco_model.specs.Match as model
use Rattle.teco_model.specs.declared.pattern.Item.TheVariants as item
use Rattle.teco_find.specs.Anchors.{IsMarkedBy}
use Rattle.teco_find.specs.declared.mark.SoughtByte.{SoughtByte}

-- an element matches one character
abbrev pub IsSingle : Item → Type 0
IsSingle (item.Is c) = Unit {0}
IsSingle (item.IsNot c) = Unit {0}
IsSingle item.Blanks = ⊥

-- so many elements from the first do
abbrev pub AreSingle : ℕ → List Item → Type 0
AreSingle zero items = Unit {0}
AreSingle (suc n) [] = Unit {0}
AreSingle (suc n) (i ∷ items) = IsSingle i × AreSingle n items

is_single : (i : Item) → (i ≡ item.Blanks → ⊥) → IsSingle i
is_single (item.Is c) some = tt
is_single (item.IsNot c) some = tt
is_single item.Blanks some = absurd (some (cc))

next_single : (items : List Item) (n : ℕ) (d : Item) → n < length items → AreSingle n items
    → IsSingle (get_or items n d) → AreSingle (suc n) items
next_single [] n d within singles single = absurd (omega arith)
next_single (i ∷ items) zero d within singles single = (single, tt)
next_single (i ∷ items) (suc n) d within singles single =
    (singles.0, next_single items n d (omega arith) singles.1 single)

pub one_more : (items : List Item) (n : ℕ) (d : Item) → n < length items → AreSingle n items
    → (get_or items n d ≡ item.Blanks → ⊥) → AreSingle (n + 1) items
one_more items n d within singles some =
    let next : n + 1 ≡ suc n = omega arith in
    subst (λ k. AreSingle k items) (sym next) (next_single items n d within singles (is_single (get_or items n d) some))

-- the character at the front of a match
pub marked_front : (i : Item) (items : List Item) (m : SoughtByte) (text : List ℕ) → IsMarkedBy i m
    → IsSome (model.match_rest (i ∷ items) text) → (0 < length text) × Passes (is_marked m) text 0
marked_front (item.Is c) items m [] marked some = absurd (false≢true some)
marked_front (item.Is c) items m (b ∷ text) marked some = by_test (model.is_in c b) (cc) some
  where
    by_test : (t : Bool) → model.is_in c b ≡ t
        → IsSome (option_and_then (model.match_rest items) (cond t (Some text) None))
        → (0 < length (b ∷ text)) × (is_marked m b ≡ true)
    by_test true e some = (omega arith, marked b e)
    by_test false e some = absurd (false≢true some)
marked_front (item.IsNot c) items m text marked some = absurd marked
marked_front item.Blanks items m text marked some = absurd marked

-- a match goes on behind it
pub record GoesOn (items : List Item) (text : List ℕ) : Type 0 where
  pub first : ℕ
  pub rest : List ℕ
  pub is : text ≡ first ∷ rest
  pub some : IsSome (model.match_rest items rest)

one_front : (passes : ℕ → Bool) (items : List Item) (text : List ℕ)
    → IsSome (option_and_then (model.match_rest items) (model.one_rest passes text)) → GoesOn items text
one_front passes items [] some = absurd (false≢true some)
one_front passes items (b ∷ text) some = by_test (passes b) some
  where
    by_test : (t : Bool) → IsSome (option_and_then (model.match_rest items) (cond t (Some text) None))
        → GoesOn items (b ∷ text)
    by_test true some = record { first = b; rest = text; is = cc; some = some }
    by_test false some = absurd (false≢true some)

pub goes_on : (i : Item) (items : List Item) (text : List ℕ) → IsSingle i → IsSome (model.match_rest (i ∷ items) text)
    → GoesOn items text
goes_on (item.Is c) items text single some = one_front (model.is_in c) items text some
goes_on (item.IsNot c) items text single some = one_front (λ b. not (model.is_in c b)) items text some
goes_on item.Blanks items text single some = absurd single

marked_at : (items : List Item) (n : ℕ) (d : Item) (m : SoughtByte) (text : List ℕ) → n < length items
    → AreSingle n items
    → IsMarkedBy (get_or items n d) m → IsSome (model.match_rest items text)
    → (n < length text) × Passes (is_marked m) text n
marked_at [] n d m text within singles marked some = absurd (omega arith)
marked_at (i ∷ items) zero d m text within singles marked some = marked_front i items m text marked some
marked_at (i ∷ items) (suc n) d m text within singles marked some =
    let front = goes_on i items text singles.0 some in
    let later = marked_at items n d m front.rest (omega arith) singles.1 marked front.some in
    subst (λ t. (suc n < length t) × Passes (is_marked m) t (suc n)) (sym front.is) (omega arith, later.1)

mapped : (o : Option (List ℕ)) (f : List ℕ → Span) → IsSome (option_map f o) → IsSome o
mapped None f some = absurd (false≢true some)
mapped (Some rest) f some = some

pub matched : (items : List Item) (text : List ℕ) (at : ℕ) → IsSome (model.here items text at)
    → IsSome (model.match_rest items (drop at text))
unfolding model.here
matched [] text at some = absurd (false≢true some)
matched (i ∷ items) text at some = mapped (model.match_rest (i ∷ items) (drop at text)) _ some

pub anchored : (items : List Item) (n : ℕ) (d : Item) (m : SoughtByte) → n < length items → AreSingle n items
    → IsMarkedBy (get_or items n d) m → Anchors items (record { distance = n; mark = m })
anchored items n d m within singles marked text at some =
    let found = marked_at items n d m (drop at text) within singles marked (matched items text at some) in
    let long = length-drop at text in
    record {
      within = omega arith;
      marked = subst (λ b. is_marked m b ≡ true) (get_or-drop at text n 0) found.1;
    }
