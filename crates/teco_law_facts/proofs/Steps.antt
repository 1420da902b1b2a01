-- Steps that may be refused, beside those that may be a code.
use Rattle.teco_law_facts.proofs.Prelude.{◌≡◌, sym, subst, Result, Ok, Err, ⊤, Code, Kind, RefusalReason, ◌>>=◌, Facts}
use Rattle.teco_law_facts.proofs.Prelude.{Placed, answer_for, without_answer, edges_of, transfer, Edges}

-- Where something is known, the machine comes to something that it is true of, and to no code.
abbrev pub Covers : {X Y : Type 0} → (X → Y → Type 0) → Result X RefusalReason → Result Y Code → Type 0
Covers P (Err why) y = ⊤
Covers P (Ok x) (Ok y) = P x y
Covers P (Ok x) (Err c) = ⊥

pub covers_then : {X Y A B : Type 0} (P : X → Y → Type 0) (Q : A → B → Type 0) (r : Result X RefusalReason)
    (c : Result Y Code) (f : X → Result A RefusalReason) (g : Y → Result B Code) → Covers P r c
    → ((x : X) (y : Y) → P x y → Covers Q (f x) (g y)) → Covers Q (r >>= f) (c >>= g)
covers_then P Q (Ok x) (Ok y) f g h k = k x y h
covers_then P Q (Ok x) (Err e) f g h k = absurd h
covers_then P Q (Err e) c f g h k = tt

-- what an element does to what is known goes by its kind
pub by_kind : (x : Placed) (facts : Facts) (k : Kind) (P : Result Edges RefusalReason → Type 0) → x.element.kind ≡ k
    → P (edges_of k x (answer_for k facts) (without_answer facts)) → P (transfer x facts)
unfolding transfer
by_kind x facts k P e h = subst (λ k. P (edges_of k x (answer_for k facts) (without_answer facts))) (sym e) h
