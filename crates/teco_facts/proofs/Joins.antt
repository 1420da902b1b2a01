-- Lists that are joined one after another.
use Rattle.teco_facts.proofs.Prelude.{◌≡◌, refl, sym, ap, ◌∙◌, ℕ, zero, suc, ◌<◌, List, [], ◌∷◌, length, take, drop}
use Rattle.teco_facts.proofs.Prelude.{set, get_or, Result, Ok, Err, arith, RefusalReason, ◌>>=◌, join_of}
use Rattle.teco_facts.proofs.Prelude.{joined_lengths}
use Rattle.std.proofs.Common.{drop-cons}
use Rattle.std.proofs.lemmas.List.{drop-set-lt, length-set}

-- of two lists the first ones are joined
pub record AreJoined {A : Type 0} (join : List A → List A → Result (List A) RefusalReason) (xs ys zs : List A)
    (count : ℕ) :
    Type 0 where
  pub front : join (take count xs) (take count ys) ≡ Ok (take count zs)
  pub rest : drop count zs ≡ drop count xs
  pub long : length zs ≡ length xs

pub ok_of : {A B : Type 0} (r : Result A RefusalReason) (f : A → Result B RefusalReason) (b : B) → (r >>= f) ≡ Ok b
    → (a : A) × (r ≡ Ok a) × (f a ≡ Ok b)
ok_of (Ok a) f b h = (a, refl, h)
ok_of (Err why) f b h = absurd (cc)

-- a join of lists that goes on by a join of their items
pub record GoesOn {A : Type 0} (one : A → A → Result A RefusalReason) (all : List A → List A
    → Result (List A) RefusalReason) :
    Type 0 where
  pub none : all [] [] ≡ Ok []
  pub more : (x y : A) (xs ys : List A) → all (x ∷ xs) (y ∷ ys) ≡ (one x y >>= (λ z. all xs ys >>= (λ zs. Ok (z ∷ zs))))

pub lengths_go_on : GoesOn join_of joined_lengths
lengths_go_on = record { none = refl; more = λ x y xs ys. refl }

module _ {A : Type 0} (one : A → A → Result A RefusalReason) (all : List A → List A → Result (List A) RefusalReason)
    (law : GoesOn one all) where
  -- one more is joined
  front_more : (xs ys zs : List A) (i : ℕ) (x y z : A) → i < length xs → i < length ys → i < length zs
      → x ≡ get_or xs i x → y ≡ get_or ys i y → one x y ≡ Ok z → all (take i xs) (take i ys) ≡ Ok (take i zs)
      → all (take (suc i) xs) (take (suc i) ys) ≡ Ok (take (suc i) (set zs i z))
  front_more [] ys zs i x y z h k l d e f g = absurd (omega arith)
  front_more (a ∷ xs) [] zs i x y z h k l d e f g = absurd (omega arith)
  front_more (a ∷ xs) (b ∷ ys) [] i x y z h k l d e f g = absurd (omega arith)
  front_more (a ∷ xs) (b ∷ ys) (c ∷ zs) zero x y z h k l d e f g =
      rw (law.more a b [] [], law.none, ← d, ← e, f) refl
  front_more (a ∷ xs) (b ∷ ys) (c ∷ zs) (suc i) x y z h k l d e f g =
      let first = ok_of (one a b) _ _ (sym (law.more a b (take i xs) (take i ys)) ∙ g) in
      let others = ok_of (all (take i xs) (take i ys)) _ _ first.2 in
      let same : first.0 ∷ others.0 ≡ c ∷ take i zs = cc in
      let head : first.0 ≡ c = cc in
      let tail : others.0 ≡ take i zs = cc in
      let more = front_more xs ys zs i x y z (omega arith) (omega arith) (omega arith) d e f (others.1 ∙ ap Ok tail) in
      rw (law.more a b (take (suc i) xs) (take (suc i) ys), first.1, more, head) refl

  rest_more : (xs zs : List A) (i : ℕ) (z : A) → i < length xs → i < length zs → drop i zs ≡ drop i xs
      → drop (suc i) (set zs i z) ≡ drop (suc i) xs
  rest_more xs zs i z h k e =
      let of_zs = drop-cons zs i z k in
      let of_xs = drop-cons xs i z h in
      let within : i < suc i = omega arith in
      let same : drop (suc i) zs ≡ drop (suc i) xs = cc in
      drop-set-lt (suc i) zs i z within ∙ same

  pub joined_more : (xs ys zs : List A) (i : ℕ) (x y z : A) → i < length xs → i < length ys → x ≡ get_or xs i x
      → y ≡ get_or ys i y → one x y ≡ Ok z → AreJoined all xs ys zs i → AreJoined all xs ys (set zs i z) (suc i)
  joined_more xs ys zs i x y z h k d e f j =
      let long = j.long in
      let within : i < length zs = omega arith in
      record {
        front = front_more xs ys zs i x y z h k within d e f j.front;
        rest = rest_more xs zs i z h within j.rest;
        long = length-set zs i z ∙ j.long;
      }

  refused_at : (xs ys ws : List A) (i : ℕ) (x y : A) (why : RefusalReason) → i < length xs → i < length ys
      → x ≡ get_or xs i x
      → y ≡ get_or ys i y → one x y ≡ Err why → all (take i xs) (take i ys) ≡ Ok ws → all xs ys ≡ Err why
  refused_at [] ys ws i x y why h k d e f g = absurd (omega arith)
  refused_at (a ∷ xs) [] ws i x y why h k d e f g = absurd (omega arith)
  refused_at (a ∷ xs) (b ∷ ys) ws zero x y why h k d e f g = rw (law.more a b xs ys, ← d, ← e, f) refl
  refused_at (a ∷ xs) (b ∷ ys) ws (suc i) x y why h k d e f g =
      let first = ok_of (one a b) _ _ (sym (law.more a b (take i xs) (take i ys)) ∙ g) in
      let others = ok_of (all (take i xs) (take i ys)) _ _ first.2 in
      let later = refused_at xs ys others.0 i x y why (omega arith) (omega arith) d e f others.1 in
      rw (law.more a b xs ys, first.1, later) refl

  pub joined_refused : (xs ys zs : List A) (i : ℕ) (x y : A) (why : RefusalReason) → i < length xs → i < length ys
      → x ≡ get_or xs i x → y ≡ get_or ys i y → one x y ≡ Err why → AreJoined all xs ys zs i → all xs ys ≡ Err why
  joined_refused xs ys zs i x y why h k d e f j = refused_at xs ys (take i zs) i x y why h k d e f j.front
