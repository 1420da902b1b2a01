-- Lists by place.
use Rattle.teco_paths.proofs.Prelude.{◌≡◌, ◌⊎◌, inl, inr, ℕ, zero, suc, ◌+◌, ◌<◌, ◌≤◌, refl, sym, ap, ◌∙◌, subst, arith}
use Rattle.teco_paths.proofs.Prelude.{Bool, true, false, List, [], ◌∷◌, ◌++◌, map, length, Some, None, slice_get}
use Rattle.teco_paths.proofs.Prelude.{cases_order, All, Any, Stand, Node, stands, numbered}
use Rattle.std.specs.Prelude.{slice_index_or}
use Rattle.std.proofs.lemmas.List.Elements.{All-nil, All-cons}
use Rattle.std.specs.List.{items_where_true}
use Rattle.teco_verifier.specs.expansion.Node.{over, stand_of_node}

-- nothing stands behind where nothing stands
pub none_behind : {X : Type 0} (xs : List X) (k : ℕ) (x : X) → slice_get xs 1 ≡ None → slice_get xs (suc k) ≡ Some x → ⊥
none_behind [] k x h g = absurd (cc)
none_behind (y ∷ []) k x h g = absurd (cc)
none_behind (y ∷ z ∷ xs) k x h g = absurd (cc)

pub none_third : {X : Type 0} (xs : List X) (k : ℕ) (x : X) → length xs ≤ 2 → slice_get xs (suc (suc k)) ≡ Some x → ⊥
none_third [] k x h g = absurd (cc)
none_third (y ∷ []) k x h g = absurd (cc)
none_third (y ∷ z ∷ []) k x h g = absurd (cc)
none_third (y ∷ z ∷ u ∷ xs) k x h g = absurd (omega (arith, h))

-- the end stands behind the nodes
last_of : {X : Type 0} (xs : List X) (y : X) → slice_get (xs ++ y ∷ []) (length xs) ≡ Some y
last_of [] y = refl
last_of (x ∷ xs) y = last_of xs y

mapped_length : {X Y : Type 0} (f : X → Y) (xs : List X) → length (map f xs) ≡ length xs
mapped_length f [] = refl
mapped_length f (x ∷ xs) = ap suc (mapped_length f xs)

pub over_behind : (nodes : List Node) (entry : ℕ) (stand : Stand)
    → numbered (stands nodes entry) (length nodes + 1) ≡ Some stand
    → stand ≡ over entry
over_behind nodes entry stand h =
    let z : length nodes + 1 ≡ suc (length nodes) = omega arith in
    let e : Some (over entry) ≡ Some stand =
    sym (ap (slice_get (stands nodes entry)) (sym (mapped_length stand_of_node nodes))
    ∙ last_of (map stand_of_node nodes) (over entry))
    ∙ subst (λ k. numbered (stands nodes entry) k ≡ Some stand) z h in
    cc

-- one of some
pub any_front : {X : Type 0} (P : X → Type 0) (xs ys : List X) → Any P xs → Any P (xs ++ ys)
any_front P xs ys a = (a.0, a.1, omega (arith, a.2, long xs), front xs a.0 a.2 ∙ a.3, a.4)
  where
    long : (xs : List _) → length xs ≤ length (xs ++ ys)
    long [] = omega arith
    long (x ∷ xs) = let h = long xs in omega (arith, h)

    front : (xs : List _) (k : ℕ) → k < length xs → slice_index_or (xs ++ ys) k a.1 ≡ slice_index_or xs k a.1
    front [] k l = absurd (omega arith)
    front (x ∷ xs) zero l = refl
    front (x ∷ xs) (suc k) l = front xs k (omega (arith, l))

pub any_back : {X : Type 0} (P : X → Type 0) (xs ys : List X) → Any P ys → Any P (xs ++ ys)
any_back P [] ys a = a
any_back P (x ∷ xs) ys a =
    let b = any_back P xs ys a in
    (suc b.0, b.1, omega (arith, b.2), b.3, b.4)

-- all of both
pub all_both : {X : Type 0} (P : X → Type 0) (xs ys : List X) → All P (xs ++ ys) → All P xs × All P ys
all_both P [] ys h = (λ k d l. absurd (omega (arith, l)), h)
all_both P (x ∷ xs) ys h =
    let rest = all_both P xs ys (λ k d l. h (suc k) d (omega (arith, l))) in
    (first rest.0, rest.1)
  where
    first : All P xs → All P (x ∷ xs)
    first rest zero d l = h 0 d (omega arith)
    first rest (suc k) d l = rest k d (omega (arith, l))

-- places of a list
pub beyond : {X : Type 0} (xs : List X) (k : ℕ) (d : X) → length xs ≤ k → slice_index_or xs k d ≡ d
beyond [] k d l = refl
beyond (x ∷ xs) zero d l = absurd (omega (arith, l))
beyond (x ∷ xs) (suc k) d l = beyond xs k d (omega (arith, l))

pushed_last : {X : Type 0} (xs : List X) (x d : X) → slice_index_or (xs ++ x ∷ []) (length xs) d ≡ x
pushed_last [] x d = refl
pushed_last (y ∷ xs) x d = pushed_last xs x d

pushed_front : {X : Type 0} (xs : List X) (x d : X) (k : ℕ) → k < length xs
    → slice_index_or (xs ++ x ∷ []) k d ≡ slice_index_or xs k d
pushed_front [] x d k l = absurd (omega arith)
pushed_front (y ∷ xs) x d zero l = refl
pushed_front (y ∷ xs) x d (suc k) l = pushed_front xs x d k (omega (arith, l))

-- each of the first has a property, and so has one more
pub one_more : {X : Type 0} (P : ℕ → X → Type 0) (xs : List X) (x d : X) (n : ℕ) → length xs ≡ n
    → ((k : ℕ) → k < n → P k (slice_index_or xs k d)) → P n x → (k : ℕ) → k < n + 1
    → P k (slice_index_or (xs ++ x ∷ []) k d)
one_more P xs x d n long first last k l = by (cases_order k n)
  where
    by : (k ≡ n) ⊎ ((k < n) ⊎ (n < k)) → P k (slice_index_or (xs ++ x ∷ []) k d)
    by (inl e) =
        let at : k ≡ length xs = e ∙ sym long in
        subst (P k) (sym (ap (λ j. slice_index_or (xs ++ x ∷ []) j d) at ∙ pushed_last xs x d))
        (subst (λ j. P j x) (sym e) last)
    by (inr (inl less)) = subst (P k) (sym (pushed_front xs x d k (omega (arith, less, long)))) (first k less)
    by (inr (inr more)) = absurd (omega (arith, l, more))

-- and what is behind them, too
pub each_place : {X : Type 0} (P : ℕ → X → Type 0) (xs : List X) (d : X) (n : ℕ) → length xs ≡ n
    → ((k : ℕ) → k < n → P k (slice_index_or xs k d)) → ((k : ℕ) → n ≤ k → P k d) → (k : ℕ)
    → P k (slice_index_or xs k d)
each_place P xs d n long first behind k = by (cases_order k n)
  where
    by : (k ≡ n) ⊎ ((k < n) ⊎ (n < k)) → P k (slice_index_or xs k d)
    by (inl e) = subst (P k) (sym (beyond xs k d (omega (arith, e, long)))) (behind k (omega (arith, e)))
    by (inr (inl less)) = first k less
    by (inr (inr more)) = subst (P k) (sym (beyond xs k d (omega (arith, more, long)))) (behind k (omega (arith, more)))

pub same_lists : {X : Type 0} (xs ys : List X) → length xs ≡ length ys
    → ((k : ℕ) (d : X) → k < length xs → slice_index_or xs k d ≡ slice_index_or ys k d) → xs ≡ ys
same_lists [] [] e h = refl
same_lists [] (y ∷ ys) e h = absurd (omega (arith, e))
same_lists (x ∷ xs) [] e h = absurd (omega (arith, e))
same_lists (x ∷ xs) (y ∷ ys) e h =
    ap (λ z. z ∷ xs) (h 0 x (omega arith))
    ∙ ap (λ zs. y ∷ zs) (same_lists xs ys (omega (arith, e)) (λ k d l. h (suc k) d (omega (arith, l))))

-- four that were pushed
pub all_last : {X : Type 0} (P : X → Type 0) (xs ys : List X) (x : X) → ys ≡ xs ++ x ∷ [] → All P xs → P x → All P ys
all_last P xs ys x e h p = subst (All P) (sym e) (pushed xs h)
  where
    pushed : (xs : List _) → All P xs → All P (xs ++ x ∷ [])
    pushed [] h zero d l = p
    pushed [] h (suc k) d l = absurd (omega (arith, l))
    pushed (y ∷ xs) h zero d l = h 0 d (omega arith)
    pushed (y ∷ xs) h (suc k) d l = pushed xs (λ j e m. h (suc j) e (omega (arith, m))) k d (omega (arith, l))

pub all_none : {X : Type 0} (P : X → Type 0) (xs : List X) → xs ≡ [] → All P xs
all_none P xs e = subst (All P) (sym e) (λ k d l. absurd (omega (arith, l)))

pub all_joined : {X : Type 0} (P : X → Type 0) (xs ys : List X) → All P xs → All P ys → All P (xs ++ ys)
all_joined P [] ys h g k d l = g k d l
all_joined P (x ∷ xs) ys h g zero d l = h 0 d (omega arith)
all_joined P (x ∷ xs) ys h g (suc k) d l =
    all_joined P xs ys (λ j e m. h (suc j) e (omega (arith, m))) g k d (omega (arith, l))

-- what tests leave of a list has no other elements
pub all_where_true : {X : Type 0} (P : X → Type 0) (tests : List Bool) (xs : List X) → All P xs
    → All P (items_where_true tests xs)
all_where_true P [] xs all = All-nil P
all_where_true P (b ∷ tests) [] all = All-nil P
all_where_true P (true ∷ tests) (x ∷ xs) all =
    All-cons P x (items_where_true tests xs) (all 0 x (omega arith))
    (all_where_true P tests xs (λ k d l. all (suc k) d (omega (arith, l))))
all_where_true P (false ∷ tests) (x ∷ xs) all =
    all_where_true P tests xs (λ k d l. all (suc k) d (omega (arith, l)))
