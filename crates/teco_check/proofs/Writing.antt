-- What a body changes, node after node.
use Rattle.teco_check.proofs.Prelude.{◌≡◌, refl, sym, ◌∙◌, ap, ℕ, zero, suc, ◌+◌, ◌-◌, ◌<◌, ◌≤◌, Bool, true, false}
use Rattle.teco_check.proofs.Prelude.{◌==◌, ◌||◌, List, [], ◌∷◌, ◌++◌, length, take, drop, set, Option, Some, None}
use Rattle.teco_check.proofs.Prelude.{unwrap_or, slice_get, replicate, add-one, arith, list_any, nat_tests, Element}
use Rattle.teco_check.proofs.Prelude.{Node, ends_saved, written_in, no_node, node_at}
use Rattle.std.proofs.Common.{length-drop, add-zero, zero-add}
use Rattle.std.proofs.lemmas.List.Folds.{list_any-append}
use Rattle.teco_verifier.specs.table.Written.{sets}
use Rattle.teco_check.specs.Writes.{set_at}

sets_is : (r s : ℕ) (read : Option Element) → set_at read ≡ Some s → sets r read ≡ (s == r)
sets_is r s None e = absurd (cc)
sets_is r s (Some x) e = rw e refl

sets_none : (r : ℕ) (read : Option Element) → set_at read ≡ None → sets r read ≡ false
sets_none r None e = refl
sets_none r (Some x) e = rw e refl

or_false : (b : Bool) → (b || false) ≡ b
or_false true = refl
or_false false = refl

or_true : (b : Bool) → (b || true) ≡ true
or_true true = refl
or_true false = refl

-- whether one node more writes a register
any_with : (r : ℕ) (body : List Node) (node : Node)
    → list_any (λ (n : Node). sets r n.element) (body ++ node ∷ []) ≡ (list_any (λ (n : Node). sets r n.element) body
    || sets r node.element)
any_with r body node = list_any-append (λ (n : Node). sets r n.element) body (node ∷ [])
    ∙ ap (λ b. list_any (λ (n : Node). sets r n.element) body || b) (or_false (sets r node.element))

any_kept : (r : ℕ) (body : List Node) (node : Node) → sets r node.element ≡ false
    → list_any (λ (n : Node). sets r n.element) (body ++ node ∷ []) ≡ list_any (λ (n : Node). sets r n.element) body
any_kept r body node e = any_with r body node ∙ ap (λ b. list_any (λ (n : Node). sets r n.element) body || b) e
    ∙ or_false (list_any (λ (n : Node). sets r n.element) body)

any_set : (r : ℕ) (body : List Node) (node : Node) → sets r node.element ≡ true
    → list_any (λ (n : Node). sets r n.element) (body ++ node ∷ []) ≡ true
any_set r body node e = any_with r body node ∙ ap (λ b. list_any (λ (n : Node). sets r n.element) body || b) e
    ∙ or_true (list_any (λ (n : Node). sets r n.element) body)

differs : (s r : ℕ) → ¬ (s ≡ r) → (s == r) ≡ false
differs s r h = grind (arith, nat_tests)

same : (s : ℕ) → (s == s) ≡ true
same s = grind (arith, nat_tests)

-- whether one node more ends all that is saved
ends_with : (body : List Node) (node : Node) → list_any (λ (n : Node). ends_saved n.element) (body ++ node ∷ []) ≡
    (list_any (λ (n : Node). ends_saved n.element) body || ends_saved node.element)
ends_with body node = list_any-append (λ (n : Node). ends_saved n.element) body (node ∷ [])
    ∙ ap (λ b. list_any (λ (n : Node). ends_saved n.element) body || b) (or_false (ends_saved node.element))

pub ends_here : (body : List Node) (node : Node) → ends_saved node.element ≡ true
    → list_any (λ (n : Node). ends_saved n.element) (body ++ node ∷ []) ≡ true
ends_here body node e = ends_with body node ∙ ap (λ b. list_any (λ (n : Node). ends_saved n.element) body || b) e
    ∙ or_true (list_any (λ (n : Node). ends_saved n.element) body)

pub ends_later : (body : List Node) (node : Node) → ends_saved node.element ≡ false
    → list_any (λ (n : Node). ends_saved n.element) (body ++ node ∷ []) ≡ list_any (λ (n : Node). ends_saved n.element)
    body
ends_later body node e = ends_with body node ∙ ap (λ b. list_any (λ (n : Node). ends_saved n.element) body || b) e
    ∙ or_false (list_any (λ (n : Node). ends_saved n.element) body)

-- none of these registers is written
kept_in : (body : List Node) (node : Node) (count r : ℕ) → ((k : ℕ) → r ≤ k → sets k node.element ≡ false)
    → written_in (body ++ node ∷ []) count r ≡ written_in body count r
unfolding written_in
kept_in body node zero r h = refl
kept_in body node (suc count) r h =
    rw (any_kept r body node (h r (omega arith)), kept_in body node count (suc r) (λ k l. h k (omega arith))) refl

pub written_none : (body : List Node) (node : Node) (count : ℕ) → set_at node.element ≡ None
    → written_in (body ++ node ∷ []) count 0 ≡ written_in body count 0
written_none body node count e = kept_in body node count 0 (λ k l. sets_none k node.element e)

set_in : (body : List Node) (node : Node) (count r s : ℕ) → set_at node.element ≡ Some (r + s) → s < count
    → written_in (body ++ node ∷ []) count r ≡ set (written_in body count r) s true
unfolding written_in
set_in body node zero r s e h = absurd (omega arith)
set_in body node (suc count) r zero e h =
    let here : sets r node.element ≡ true = sets_is r (r + 0) node.element e ∙ rw add-zero (same r) in
    let later : (k : ℕ) → suc r ≤ k → sets k node.element ≡ false = λ k l. sets_is k (r + 0) node.element e
    ∙ differs (r + 0) k (λ is. absurd (omega arith)) in
    rw (any_set r body node here, kept_in body node count (suc r) later) refl
set_in body node (suc count) r (suc s) e h =
    let here : sets r node.element ≡ false = sets_is r (r + suc s) node.element e
    ∙ differs (r + suc s) r (λ is. absurd (omega arith)) in
    let sum : r + suc s ≡ suc r + s = omega arith in
    rw (any_kept r body node here, set_in body node count (suc r) s (e ∙ ap (λ n. Some n) sum) (omega arith)) refl

pub written_some : (body : List Node) (node : Node) (count s : ℕ) → set_at node.element ≡ Some s → s < count
    → written_in (body ++ node ∷ []) count 0 ≡ set (written_in body count 0) s true
written_some body node count s e h = set_in body node count 0 s (rw zero-add e) h

-- nothing is written in an empty body
pub nothing_written : (count r : ℕ) → written_in [] count r ≡ replicate count false
unfolding written_in
nothing_written zero r = refl
nothing_written (suc count) r = ap (λ ws. false ∷ ws) (nothing_written count (suc r))

-- one more of a list
one_more : {X : Type 0} (xs : List X) (k : ℕ) (x : X) → k < length xs
    → take (suc k) xs ≡ take k xs ++ unwrap_or (slice_get xs k) x ∷ []
one_more [] k x h = absurd (omega arith)
one_more (y ∷ xs) zero x h = refl
one_more (y ∷ xs) (suc k) x h = ap (λ ys. y ∷ ys) (one_more xs k x (omega arith))

none_got : {X : Type 0} (xs : List X) (k : ℕ) → xs ≡ [] → slice_get xs k ≡ None
none_got [] zero e = refl
none_got [] (suc k) e = refl
none_got (x ∷ xs) k e = absurd (cc)

got_behind : {X : Type 0} (xs : List X) (n k : ℕ) → slice_get (drop n xs) k ≡ slice_get xs (n + k)
got_behind xs zero k = rw zero-add refl
got_behind {X = X} [] (suc n) k = none_got (drop (suc n) []) k refl ∙ sym (none_got {X = X} [] (suc n + k) refl)
got_behind (x ∷ xs) (suc n) k = let sum : suc n + k ≡ suc (n + k) = omega arith in rw sum (got_behind xs n k)

-- the body up to the node of a number
pub body_more : (nodes : List Node) (begin k : ℕ) → begin ≤ k → k < length nodes
    → take (k + 1 - begin) (drop begin nodes) ≡ take (k - begin) (drop begin nodes) ++ node_at nodes (k + 1) ∷ []
unfolding node_at
body_more nodes begin k h l =
    let next : k + 1 - begin ≡ suc (k - begin) = omega arith in
    let place : begin + (k - begin) ≡ k = omega arith in
    let within : k - begin < length (drop begin nodes) = rw length-drop (omega arith) in
    rw (next, add-one) (one_more (drop begin nodes) (k - begin) no_node within
    ∙ ap (λ n. take (k - begin) (drop begin nodes) ++ unwrap_or n no_node ∷ []) (got_behind nodes begin (k - begin)
    ∙ ap (slice_get nodes) place))

pub length-written : (body : List Node) (count r : ℕ) → length (written_in body count r) ≡ count
unfolding written_in
length-written body zero r = refl
length-written body (suc count) r = ap suc (length-written body count (suc r))
