-- Policies that are kept, each of them.
use Rattle.std.proofs.Common.{ℕ, ◌+◌, ◌<◌, ◌≡◌, List, [], ◌∷◌, ◌++◌, length, slice_index_or, take, subst, sym}
use Rattle.std.proofs.lemmas.List.Elements.{All-append, All-cons, All-get_or, All-head, All-more, All-nil, All-tail}
use Rattle.teco_policy.specs.Policies.{KeepEach, Keeps}
use Rattle.teco_policy.specs.declared.policy.Policy.{Policy}

pub none_yet : (policies : List Policy) (old new : List ℕ) → KeepEach (take 0 policies) old new
unfolding KeepEach
none_yet policies old new = All-nil (λ policy. Keeps policy old new)

pub one_more : (policies : List Policy) (place : ℕ) (asked : Policy) (old new : List ℕ) → place < length policies
    → asked ≡ slice_index_or policies place asked → KeepEach (take place policies) old new → Keeps asked old new
    → KeepEach (take (place + 1) policies) old new
unfolding KeepEach
one_more policies place asked old new within stands before kept =
    All-more (λ policy. Keeps policy old new) policies place asked within before
    (subst (λ (policy : Policy). Keeps policy old new) stands kept)

pub one_of : (policies : List Policy) (place : ℕ) (asked : Policy) (old new : List ℕ) → place < length policies
    → asked ≡ slice_index_or policies place asked → KeepEach policies old new → Keeps asked old new
unfolding KeepEach
one_of policies place asked old new within stands each =
    subst (λ (policy : Policy). Keeps policy old new) (sym stands)
    (All-get_or (λ policy. Keeps policy old new) policies place asked within each)

-- some policies and others
pub both : (policies others : List Policy) (old new : List ℕ) → KeepEach policies old new → KeepEach others old new
    → KeepEach (policies ++ others) old new
unfolding KeepEach
both policies others old new = All-append (λ policy. Keeps policy old new) policies others

pub in_front : (policies others : List Policy) (old new : List ℕ) → KeepEach (policies ++ others) old new
    → KeepEach policies old new
unfolding KeepEach
in_front [] others old new each = All-nil (λ policy. Keeps policy old new)
in_front (policy ∷ policies) others old new each =
    All-cons (λ it. Keeps it old new) policy policies
    (All-head (λ it. Keeps it old new) policy (policies ++ others) each)
    (in_front policies others old new (All-tail (λ it. Keeps it old new) policy (policies ++ others) each))
