-- The walk, from a visit on.
use Rattle.teco_expansion.proofs.Prelude.{◌≡◌, ℕ, zero, suc, ◌+◌, ◌<◌, List, [], ◌∷◌, ◌++◌, length, Option, Some, None}
use Rattle.teco_expansion.proofs.Prelude.{Result, Ok, Err, refl, sym, ap, ◌∙◌, append_assoc, map, arith, All}
use Rattle.teco_expansion.proofs.Prelude.{map-append, Visit, Walk, next_visit, walk, Library, Reason, TooLarge, Refusal}
use Rattle.teco_expansion.proofs.Prelude.{HasRoom, visit_seen, behind, Texts}
use Rattle.std.proofs.lemmas.List.Elements.{All-append, All-cons}
use Rattle.teco_verifier.specs.expansion.Expansion.{refusal_at, walk_while, walk_behind}
use Rattle.teco_expansion.specs.declared.visit.Visit as declared

-- visits that end with one, and why no others follow
abbrev pub ending : List Visit → Visit → Option Refusal → Walk
ending vs v refusal = record { visits = vs ++ v ∷ []; refusal = refusal }

refused : (entry : ℕ) (vs : List Visit) (v : Visit) (r : Result Visit Reason) (on : Visit → Walk) (c : Reason)
    → r ≡ Err c → behind vs (walk_behind entry v r on) ≡ ending vs v (Some (refusal_at entry v c))
refused entry vs v (Ok next) on c h = absurd (cc)
refused entry vs v (Err d) on c h = let e : d ≡ c = cc in ap (λ c. ending vs v (Some (refusal_at entry v c))) e

went : (entry : ℕ) (vs : List Visit) (v next : Visit) (r : Result Visit Reason) (on : Visit → Walk) → r ≡ Ok next
    → behind vs (walk_behind entry v r on) ≡ behind vs (walk_while next.registers v (on next))
went entry vs v next (Ok other) on h = let e : other ≡ next = cc in
    ap (λ (next : Visit). behind vs (walk_while next.registers v (on next))) e
went entry vs v next (Err d) on h = absurd (cc)

while_over : (registers : List ℕ) (vs : List Visit) (v : Visit) (rest : Walk) → length registers ≡ 0
    → behind vs (walk_while registers v rest) ≡ ending vs v None
while_over [] vs v rest h = refl
while_over (r ∷ registers) vs v rest h = absurd (omega (arith, h))

while_on : (registers : List ℕ) (vs : List Visit) (v : Visit) (rest : Walk) → 0 < length registers
    → behind vs (walk_while registers v rest) ≡ behind (vs ++ v ∷ []) rest
while_on [] vs v rest h = absurd (omega (arith, h))
while_on (r ∷ registers) vs v rest h =
    ap (λ visits. record rest { visits = visits }) (sym (append_assoc vs (v ∷ []) rest.visits))

-- it is refused at a visit,
pub walk_refused : (library : Library) (entry fuel number : ℕ) (vs : List Visit) (v : Visit) (c : Reason) → 0 < fuel
    → next_visit library number v ≡ Err c
    → behind vs (walk fuel library entry number v) ≡ ending vs v (Some (refusal_at entry v c))
unfolding walk
walk_refused library entry zero number vs v c f h = absurd (omega (arith, f))
walk_refused library entry (suc more) number vs v c f h =
    refused entry vs v (next_visit library number v) (walk more library entry (number + 1)) c h

-- or ends behind it,
pub walk_over : (library : Library) (entry fuel number : ℕ) (vs : List Visit) (v next : Visit) → 0 < fuel
    → next_visit library number v ≡ Ok next → length next.registers ≡ 0
    → behind vs (walk fuel library entry number v) ≡ ending vs v None
unfolding walk
walk_over library entry zero number vs v next f h e = absurd (omega (arith, f))
walk_over library entry (suc more) number vs v next f h e =
    went entry vs v next (next_visit library number v) (walk more library entry (number + 1)) h
    ∙ while_over next.registers vs v (walk more library entry (number + 1) next) e

-- or goes on,
pub walk_on : (library : Library) (entry fuel more number : ℕ) (vs : List Visit) (v next : Visit) → fuel ≡ suc more
    → next_visit library number v ≡ Ok next → 0 < length next.registers
    → behind vs (walk fuel library entry number v) ≡ behind (vs ++ v ∷ []) (walk more library entry (number + 1) next)
unfolding walk
walk_on library entry zero more number vs v next f h l = absurd (omega (arith, f))
walk_on library entry (suc fuel) more number vs v next f h l =
    let e : fuel ≡ more = omega (arith, f) in
    went entry vs v next (next_visit library number v) (walk fuel library entry (number + 1)) h
    ∙ while_on next.registers vs v (walk fuel library entry (number + 1) next) l
    ∙ ap (λ more. behind (vs ++ v ∷ []) (walk more library entry (number + 1) next)) e

-- or is too long
pub walk_spent : (library : Library) (entry fuel number : ℕ) (vs : List Visit) (v : Visit) → fuel ≡ 0
    → behind vs (walk fuel library entry number v) ≡ ending vs v (Some (refusal_at entry v TooLarge))
unfolding walk
walk_spent library entry zero number vs v f = refl
walk_spent library entry (suc more) number vs v f = absurd (omega (arith, f))

-- as the code has them
pub seen_more : (texts : Texts) (items more : List declared.Visit) (visit : declared.Visit) → more ≡ items ++ visit ∷ []
    → map (visit_seen texts) more ≡ map (visit_seen texts) items ++ visit_seen texts visit ∷ []
seen_more texts items more visit e = ap (map (visit_seen texts)) e ∙ map-append (visit_seen texts) items (visit ∷ [])

pub seen_ending : (texts : Texts) (items more : List declared.Visit) (visit : declared.Visit)
    (refusal other : Option Refusal) → more ≡ items ++ visit ∷ [] → refusal ≡ other →
    Path Walk (record { visits = map (visit_seen texts) more; refusal = refusal })
    (ending (map (visit_seen texts) items) (visit_seen texts visit) other)
seen_ending texts items more visit refusal other e r =
    ap (λ (vs : List Visit). record { visits = vs; refusal = refusal }) (seen_more texts items more visit e)
    ∙ ap (ending (map (visit_seen texts) items) (visit_seen texts visit)) r

pub room_more : (items more : List declared.Visit) (visit : declared.Visit) → more ≡ items ++ visit ∷ []
    → All HasRoom items → HasRoom visit → All HasRoom more
room_more items more visit e all here =
    rw e (All-append HasRoom items (visit ∷ []) all
    (All-cons HasRoom visit [] here (λ k d l. absurd (omega (arith, l)))))
