-- Steps that may be refused, beside those that may be a code.
use Rattle.teco_law_facts.proofs.Prelude.{◌≡◌, Option, Some, None, ok_or, Result, Ok, Err, IfOk, Code, ◌>>=◌}
use Rattle.teco_law_facts.proofs.Prelude.{Succeeds, Leads, RefusalReason}
use Rattle.teco_law_facts.proofs.Steps.{Covers}

-- what is known, and then what fits
pub covers_leads : {X Y A B : Type 0} (P : X → Y → Type 0) (L : A → Type 0) (Q : A → B → Type 0)
    (r : Result X RefusalReason)
    (c : Result Y Code) (f : X → Result A RefusalReason) (g : Y → Result B Code) → Covers P r c
    → ((x : X) (y : Y) → P x y → Leads L Q (f x) (g y)) → Leads L Q (r >>= f) (c >>= g)
covers_leads P L Q (Ok x) (Ok y) f g h k = k x y h
covers_leads P L Q (Ok x) (Err e) f g h k = absurd h
covers_leads P L Q (Err e) c f g h k = tt

pub leads_on : {X Y A B : Type 0} (L : X → Type 0) (P : X → Y → Type 0) (M : A → Type 0) (Q : A → B → Type 0)
    (r : Result X RefusalReason) (c : Result Y Code) (f : X → A) (g : Y → B) → ((x : X) → M (f x) → L x)
    → ((x : X) (y : Y) → P x y → Q (f x) (g y)) → Leads L P r c → Leads M Q (r >>= λ x. Ok (f x)) (c >>= λ y. Ok (g y))
leads_on L P M Q (Ok x) (Ok y) f g m k h = λ l. k x y (h (m x l))
leads_on L P M Q (Ok x) (Err e) f g m k h = λ l. h (m x l)
leads_on L P M Q (Err e) c f g m k h = tt

pub leads_given : {X Y Z : Type 0} (P : X → Type 0) (L : Y → Type 0) (Q : Y → Z → Type 0) (r : Result X RefusalReason)
    (f : X
    → Result Y RefusalReason) (c : Result Z Code) → IfOk r P → ((x : X) → P x → Leads L Q (f x) c)
    → Leads L Q (r >>= f) c
leads_given P L Q (Ok x) f c h k = k x h
leads_given P L Q (Err e) f c h k = tt

-- what is taken, and then what fits behind it
pub taken_lead : {X Y A B : Type 0} (L : B → Type 0) (Q : B → Y → Type 0) (P : X → Y → Type 0)
    (r : Result X RefusalReason)
    (c : Result Y Code) (f : X → Result A RefusalReason) (g : A → Result B RefusalReason) → Covers P r c
    → ((x : X) (y : Y) → P x y → IfOk (f x >>= g) (λ z. L z → Q z y)) → Leads L Q ((r >>= f) >>= g) c
taken_lead {B = B} L Q P (Ok x) (Ok y) f g h k = by (f x >>= g) (k x y h)
  where
    by : (r : Result B RefusalReason) → IfOk r (λ z. L z → Q z y) → Leads L Q r (Ok y)
    by (Ok z) h = h
    by (Err why) h = tt
taken_lead L Q P (Ok x) (Err e) f g h k = absurd h
taken_lead L Q P (Err e) c f g h k = tt

-- what the machine needs and has
pub succeeds_with : {X Y : Type 0} (P : Y → Type 0) (o : Option X) (x : X) (c : Code) (f : X → Result Y Code)
    → o ≡ Some x → ((x : X) → Succeeds P (f x)) → Succeeds P (ok_or o c >>= f)
succeeds_with P None x c f e k = absurd (cc)
succeeds_with P (Some x) y c f e k = k x
