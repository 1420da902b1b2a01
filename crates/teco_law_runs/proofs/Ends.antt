-- The ends of iterations.
use Rattle.teco_law_runs.proofs.Prelude.{◌≡◌, ℕ, zero, suc, ◌+◌, ◌-◌, ◌<◌, ◌≤◌, List, [], ◌∷◌, take, drop, length, Bool}
use Rattle.teco_law_runs.proofs.Prelude.{true, false, if◌then◌else◌, inl, inr, Option, Some, None, refl, sym, ap, ◌∙◌}
use Rattle.teco_law_runs.proofs.Prelude.{subst, slice_get, arith, nat_lt, ltb-true, ltb-false, AllByRecursion, Kind}
use Rattle.teco_law_runs.proofs.Prelude.{Element, body_at, AreOpenIn, AreOpen, Library, AreLinked, Stand, Node}
use Rattle.teco_law_runs.proofs.Prelude.{beginning, over, stands, numbered, stand_behind_kind, stand_behind, Spot, ◌⊎◌}
use Rattle.teco_law_runs.proofs.Prelude.{is_innermost, ends_by_kind, ends_by, ends, first_end, end_of}
use Rattle.teco_model.specs.declared.kind.Flow.TheVariants as flow
use Rattle.teco_model.specs.declared.kind.Kind.TheVariants as kind
use Rattle.teco_law_runs.specs.Ends.{Descend, IsBegin, IterationsEnd, LeftHaveEnded}
use Rattle.teco_law_runs.proofs.Iterations.{earlier, first_is, iterations_are_open}
use Rattle.teco_law_runs.proofs.Lookup.{got_dropped, stand_of, same_node, same_number, number_within, innermost}
use Rattle.teco_law_runs.proofs.Lookup.{ends_there}
use Rattle.teco_law_runs.proofs.Runs.{AtNode, is_node, node_or_end}
use Rattle.teco_law_runs.proofs.Runs as runs

abbrev Among : ℕ → List ℕ → Type 0
Among b [] = ⊥
Among b (n ∷ numbers) = (n ≡ b) ⊎ Among b numbers

below : (bound b : ℕ) (numbers : List ℕ) → Descend bound numbers → Among b numbers → b < bound
below bound b [] d a = absurd a
below bound b (n ∷ numbers) d (inl e) = omega (arith, d.0, e)
below bound b (n ∷ numbers) d (inr a) = omega (arith, d.0, below n b numbers d.1 a)

lower : (bound more : ℕ) (numbers : List ℕ) → bound ≤ more → Descend bound numbers → Descend more numbers
lower bound more [] l d = tt
lower bound more (n ∷ numbers) l d = (omega (arith, l, d.0), d.1)

-- what becomes of the iterations from a node to the next
data Change (number : ℕ) (numbers next : List ℕ) (is_end : ℕ → Bool) : Type 0 where
  Same : next ≡ numbers → Change number numbers next is_end
  Opens : next ≡ number ∷ numbers → Change number numbers next is_end
  Closes : (b : ℕ) (outer : List ℕ) → numbers ≡ b ∷ outer → next ≡ outer → is_end b ≡ true
      → Change number numbers next is_end

closes : (number : ℕ) (numbers : List ℕ) → Change number numbers (drop 1 numbers) (λ b. is_innermost b numbers)
closes number [] = Same refl
closes number (b ∷ outer) = Closes b outer refl refl (same_number b)

change_kind : (library : Library) (number : ℕ) (k : Kind) (e : Element) (stand : Stand)
    → Change number stand.iterations (stand_behind_kind library number k e stand).iterations
    (λ b. ends_by_kind b k stand.iterations)
change_kind library number (kind.Call c) e stand = Same refl
change_kind library number (kind.Flow flow.Iterate) e stand = Opens refl
change_kind library number (kind.Flow flow.EndTurn) e stand = closes number stand.iterations
change_kind library number k e stand = Same refl

change : (library : Library) (number : ℕ) (read : Option Element) (stand : Stand)
    → Change number stand.iterations (stand_behind library number read stand).iterations
    (λ b. ends_by b read stand.iterations)
change library number None stand = Same refl
change library number (Some e) stand = change_kind library number e.kind e stand

descends_on : (number : ℕ) (numbers next : List ℕ) (is_end : ℕ → Bool) → Change number numbers next is_end
    → Descend number numbers → Descend (suc number) next
descends_on number numbers next is_end (Same h) d =
    subst (Descend (suc number)) (sym h) (lower number (suc number) numbers (omega arith) d)
descends_on number numbers next is_end (Opens h) d = subst (Descend (suc number)) (sym h) (omega arith, d)
descends_on number numbers next is_end (Closes b outer h g e) d =
    let whole : Descend number (b ∷ outer) = subst (Descend number) h d in
    subst (Descend (suc number)) (sym g) (lower b (suc number) outer (omega (arith, whole.0)) whole.1)

-- one that is open stays open until its end
stays_open : (b number : ℕ) (numbers next : List ℕ) (is_end : ℕ → Bool) → Change number numbers next is_end
    → is_end b ≡ false → Among b numbers → Among b next
stays_open b number numbers next is_end (Same h) f a = subst (Among b) (sym h) a
stays_open b number numbers next is_end (Opens h) f a = subst (Among b) (sym h) (inr a)
stays_open b number numbers next is_end (Closes c outer h g e) f a =
    subst (Among b) (sym g) (among (subst (Among b) h a))
  where
    among : Among b (c ∷ outer) → Among b outer
    among (inl s) = let z : true ≡ false = sym e ∙ (ap is_end s ∙ f) in absurd (cc)
    among (inr a) = a

-- one that is over stays over
stays_over : (b number : ℕ) (numbers next : List ℕ) (is_end : ℕ → Bool) → Change number numbers next is_end → b < number
    → Among b next → Among b numbers
stays_over b number numbers next is_end (Same h) l a = subst (Among b) h a
stays_over b number numbers next is_end (Opens h) l a = among (subst (Among b) h a)
  where
    among : Among b (number ∷ numbers) → Among b numbers
    among (inl s) = absurd (omega (arith, l, s))
    among (inr a) = a
stays_over b number numbers next is_end (Closes c outer h g e) l a = subst (Among b) (sym h) (inr (subst (Among b) g a))

-- what ends an iteration leaves it
left_kind : (library : Library) (number b : ℕ) (k : Kind) (e : Element) (stand : Stand)
    → ends_by_kind b k stand.iterations ≡ true →
    ((stand_behind_kind library number k e stand).iterations ≡ drop 1 stand.iterations)
    × (is_innermost b stand.iterations ≡ true)
left_kind library number b (kind.Flow flow.EndTurn) e stand h = (refl, h)
left_kind library number b k e stand h = absurd (cc)

left : (library : Library) (number b : ℕ) (read : Option Element) (stand : Stand)
    → ends_by b read stand.iterations ≡ true →
    ((stand_behind library number read stand).iterations ≡ drop 1 stand.iterations)
    × (is_innermost b stand.iterations ≡ true)
left library number b None stand h = absurd (cc)
left library number b (Some e) stand h = left_kind library number b e.kind e stand h

not_among_outer : (bound b : ℕ) (numbers outer : List ℕ) → numbers ≡ b ∷ outer → Descend bound numbers
    → Among b (drop 1 numbers) → b < b
not_among_outer bound b numbers outer is d a =
    let whole : Descend bound (b ∷ outer) = subst (Descend bound) is d in
    below b b outer whole.1 (subst (λ numbers. Among b (drop 1 numbers)) is a)

-- the first number that ends an iteration
record FirstEnd (nodes : List Node) (b start : ℕ) : Type 0 where
  number : ℕ
  node : Node
  low : start ≤ number
  at : numbered nodes number ≡ Some node
  ending : ends b node ≡ true
  least : (i : ℕ) (m : Node) → start ≤ i → i < number → numbered nodes i ≡ Some m → ends b m ≡ false

first_end_is : (b n i : ℕ) (xs : List Node) (node : Node) → slice_get xs i ≡ Some node → ends b node ≡ true
    → ((j : ℕ) (m : Node) → j < i → slice_get xs j ≡ Some m → ends b m ≡ false) → first_end b n xs ≡ n + i
first_end_is b n i [] node h e f = absurd (cc)
first_end_is b n zero (x ∷ xs) node h e f =
    let same : x ≡ node = cc in
    let t : ends b x ≡ true = ap (ends b) same ∙ e in
    ap (λ t. if t then n else first_end b (suc n) xs) t ∙ (omega arith)
first_end_is b n (suc i) (x ∷ xs) node h e f =
    let t : ends b x ≡ false = f 0 x (omega arith) refl in
    ap (λ t. if t then n else first_end b (suc n) xs) t
    ∙ (first_end_is b (suc n) i xs node h e (λ j m l g. f (suc j) m (omega (arith, l)) g) ∙ omega arith)

-- what is taken of descending numbers is not dropped of them
among_taken : (b n : ℕ) (numbers : List ℕ) → Among b (take n numbers) → Among b numbers
among_taken b (suc n) (m ∷ numbers) (inl e) = inl e
among_taken b (suc n) (m ∷ numbers) (inr a) = inr (among_taken b n numbers a)
among_taken b n numbers a = absurd (grind arith)

among_dropped : (b n : ℕ) (numbers : List ℕ) → Among b (drop n numbers) → Among b numbers
among_dropped b zero numbers a = a
among_dropped b (suc n) [] a = absurd a
among_dropped b (suc n) (m ∷ numbers) a = inr (among_dropped b n numbers a)

taken_or_dropped : (bound b n : ℕ) (numbers : List ℕ) → Descend bound numbers → Among b (take n numbers)
    → Among b (drop n numbers) → b < b
taken_or_dropped bound b (suc n) (m ∷ numbers) d (inl e) c =
    omega (arith, e, below m b numbers d.1 (among_dropped b n numbers c))
taken_or_dropped bound b (suc n) (m ∷ numbers) d (inr a) c = taken_or_dropped m b n numbers d.1 a c
taken_or_dropped bound b n numbers d a c = absurd (grind arith)

module _ (library : Library) (entry : ℕ) (nodes : List Node) (are : AreLinked library entry nodes) where
  -- the next node, or the end
  data Onward (k : ℕ) (node : Node) : Type 0 where
    Further : (next : Node) → numbered nodes (suc k) ≡ Some next
        → next.stand ≡ stand_behind library k node.element node.stand → Onward k node
    Over : stand_behind library k node.element node.stand ≡ over entry → Onward k node

  onward : (k : ℕ) (node : Node) → numbered nodes k ≡ Some node → Onward k node
  onward k node h = among (node_or_end nodes (over entry) (stand_behind library k node.element node.stand) k
      (are.order k node h))
    where
      among : AtNode nodes (over entry) (stand_behind library k node.element node.stand) k → Onward k node
      among (is_node next g e) = Further next g e
      among (runs.ends e) = Over e

  changes : (k : ℕ) (node next : Node) → next.stand ≡ stand_behind library k node.element node.stand
      → Change k node.stand.iterations next.stand.iterations (λ b. ends b node)
  changes k node next h =
      subst (λ (stand : Stand). Change k node.stand.iterations stand.iterations (λ b. ends b node)) (sym h)
      (change library k node.element node.stand)

  descends : (k : ℕ) (node : Node) → slice_get nodes k ≡ Some node → Descend (suc k) node.stand.iterations
  descends zero node h = subst (λ (stand : Stand). Descend 1 stand.iterations)
      (first_is nodes (over entry) (beginning entry) node are.first h) tt
  descends (suc k) node h =
      let before = earlier nodes k node h in
      let known = are.order (suc k) before.node before.at in
      let same : Some node.stand ≡ Some (stand_behind library (suc k) before.node.element before.node.stand) =
      sym (stand_of nodes entry (suc (suc k)) node h) ∙ known in
      let is : node.stand ≡ stand_behind library (suc k) before.node.element before.node.stand = cc in
      descends_on (suc k) before.node.stand.iterations node.stand.iterations (λ b. ends b before.node)
      (changes (suc k) before.node node is) (descends k before.node before.at)

  all_descend : (k : ℕ) (node : Node) → numbered nodes k ≡ Some node → Descend k node.stand.iterations
  all_descend zero node h = absurd (cc)
  all_descend (suc k) node h = descends k node h

  -- what is open ends
  least_from : (b k : ℕ) (node : Node) → numbered nodes k ≡ Some node → ends b node ≡ false
      → (rest : FirstEnd nodes b (suc k)) → (i : ℕ) (m : Node) → k ≤ i → i < rest.number → numbered nodes i ≡ Some m
      → (c : Bool) → nat_lt k i ≡ c → ends b m ≡ false
  least_from b k node h f rest i m low high there true c = rest.least i m (omega (arith, ltb-true k i c)) high there
  least_from b k node h f rest i m low high there false c =
      let here : k ≡ i = omega (arith, low, ltb-false k i c) in
      ap (ends b) (same_node nodes k m node (ap (numbered nodes) here ∙ there) h) ∙ f

  further : (b k : ℕ) (node : Node) → numbered nodes k ≡ Some node → Among b node.stand.iterations
      → ends b node ≡ false →
      ((next : Node) → numbered nodes (suc k) ≡ Some next → Among b next.stand.iterations → FirstEnd nodes b (suc k))
      → Onward k node → FirstEnd nodes b k
  further b k node h a f on (Over e) =
      let still : Among b (stand_behind library k node.element node.stand).iterations =
      stays_open b k node.stand.iterations _ (λ b. ends b node) (change library k node.element node.stand) f a in
      absurd (subst (λ (stand : Stand). Among b stand.iterations) e still)
  further b k node h a f on (Further next g e) =
      let rest = on next g (stays_open b k node.stand.iterations next.stand.iterations (λ b. ends b node)
      (changes k node next e) f a) in
      record {
        number = rest.number;
        node = rest.node;
        low = omega (arith, rest.low);
        at = rest.at;
        ending = rest.ending;
        least = λ i m low high there. least_from b k node h f rest i m low high there (nat_lt k i) refl;
      }

  found : (b k : ℕ) (node : Node) (t : Bool) → numbered nodes k ≡ Some node → Among b node.stand.iterations
      → ends b node ≡ t →
      ((next : Node) → numbered nodes (suc k) ≡ Some next → Among b next.stand.iterations → FirstEnd nodes b (suc k))
      → FirstEnd nodes b k
  found b k node true h a t on = record {
    number = k;
    node = node;
    low = omega arith;
    at = h;
    ending = t;
    least = λ i m low high there. absurd (omega (arith, low, high));
  }
  found b k node false h a t on = further b k node h a t on (onward k node h)

  find : (b fuel k : ℕ) (node : Node) → numbered nodes k ≡ Some node → length nodes < k + fuel
      → Among b node.stand.iterations → FirstEnd nodes b k
  find b zero k node h l a = absurd (omega (arith, l, (number_within nodes k node h).1))
  find b (suc fuel) k node h l a =
      found b k node (ends b node) h a refl (λ next g o. find b fuel (suc k) next g (omega (arith, l)) o)

  -- the first end of an iteration is its end
  is_end : (b : ℕ) (first : FirstEnd nodes b (suc b)) → end_of nodes b ≡ first.number
  is_end b first =
      let i = first.number - suc b in
      let number : first.number ≡ suc (b + i) = omega (arith, first.low) in
      let there : slice_get (drop b nodes) i ≡ Some first.node =
      got_dropped b i nodes ∙ (ap (numbered nodes) (sym number) ∙ first.at) in
      first_end_is b (suc b) i (drop b nodes) first.node there first.ending
      (λ j m l g. first.least (suc (b + j)) m (omega arith) (omega (arith, l, number)) (sym (got_dropped b j nodes)
      ∙ g))
      ∙ omega (arith, number)

  -- behind its end no iteration is open again
  gone_from : (b d k : ℕ) (node : Node) → (first : FirstEnd nodes b (suc b)) → k ≡ suc (first.number + d)
      → numbered nodes k ≡ Some node → Among b node.stand.iterations → b < b
  gone_from b zero k node first e h a =
      let known = are.order first.number first.node first.at in
      let number : suc first.number ≡ k = omega (arith, e) in
      let here : numbered (stands nodes entry) (suc first.number) ≡ Some node.stand =
      ap (numbered (stands nodes entry)) number ∙ stand_of nodes entry k node h in
      let same : Some node.stand ≡ Some (stand_behind library first.number first.node.element first.node.stand) =
      sym here ∙ known in
      let is : node.stand ≡ stand_behind library first.number first.node.element first.node.stand = cc in
      let l = left library first.number b first.node.element first.node.stand first.ending in
      let inner = innermost b first.node.stand.iterations l.1 in
      not_among_outer first.number b first.node.stand.iterations inner.0 inner.1
      (all_descend first.number first.node first.at)
      (subst (Among b) (ap (λ (stand : Stand). stand.iterations) is ∙ l.0) a)
  gone_from b (suc d) k node first e h a =
      let j = first.number + d in
      let number : k ≡ suc (suc j) = omega (arith, e) in
      let there : slice_get nodes (suc j) ≡ Some node = ap (numbered nodes) (sym number) ∙ h in
      let before = earlier nodes j node there in
      let known = are.order (suc j) before.node before.at in
      let same : Some node.stand ≡ Some (stand_behind library (suc j) before.node.element before.node.stand) =
      sym (stand_of nodes entry (suc (suc j)) node there) ∙ known in
      let is : node.stand ≡ stand_behind library (suc j) before.node.element before.node.stand = cc in
      let open' : Among b before.node.stand.iterations =
      stays_over b (suc j) before.node.stand.iterations node.stand.iterations (λ b. ends b before.node)
      (changes (suc j) before.node node is) (omega (arith, first.low)) a in
      gone_from b d (suc j) before.node first refl before.at open'

  -- an open iteration is that of a <, and open at the start of its body
  record Opened (b : ℕ) : Type 0 where
    begin : IsBegin nodes b
    body : Stand
    behind : numbered (stands nodes entry) (suc b) ≡ Some body
    open' : Among b body.iterations

  opened_in : (below b : ℕ) (text : List ℕ) (callers : List Spot) (Rest : List ℕ → Type 0) (starts numbers : List ℕ)
      → AreOpenIn nodes entry below text callers Rest starts numbers → ((ns : List ℕ) → Rest ns → Among b ns → Opened b)
      → Among b numbers → Opened b
  opened_in below b text callers Rest [] numbers o f a = f numbers o a
  opened_in below b text callers Rest (start ∷ outer) [] o f a = absurd o
  opened_in below b text callers Rest (start ∷ outer) (n ∷ numbers) o f (inl e) =
      subst Opened e (record {
        begin = record {
          node = o.0.node;
          element = o.0.element;
          at = o.0.at;
          reads = o.0.reads;
          kind_is = o.0.is_begin;
        };
        body = body_at text callers start outer (n ∷ numbers);
        behind = o.0.behind;
        open' = inl refl;
      })
  opened_in below b text callers Rest (start ∷ outer) (n ∷ numbers) o f (inr a) =
      opened_in below b text callers Rest outer numbers o.1 f a

  opened : (below b : ℕ) (spots : List Spot) (numbers : List ℕ) → AreOpen nodes entry below spots numbers
      → Among b numbers → Opened b
  opened below b [] numbers o a = absurd (subst (Among b) o a)
  opened below b (spot ∷ callers) numbers o a =
      opened_in below b spot.text callers (AreOpen nodes entry below callers) spot.starts numbers o
      (λ ns r s. opened below b callers ns r s) a

  opened_at : (b k : ℕ) (node : Node) → numbered nodes k ≡ Some node → Among b node.stand.iterations → Opened b
  opened_at b k node h a =
      let p = node.stand.position in opened k b (p.running ∷ p.callers) node.stand.iterations
      (iterations_are_open library entry nodes k node are h) a

  first_of : (b : ℕ) → Opened b → FirstEnd nodes b (suc b)
  first_of b o = among (node_or_end nodes (over entry) o.body b o.behind)
    where
      among : AtNode nodes (over entry) o.body b → FirstEnd nodes b (suc b)
      among (is_node node h e) = find b (length nodes) (suc b) node h (omega arith)
          (subst (λ (stand : Stand). Among b stand.iterations) (sym e) o.open')
      among (runs.ends e) = absurd (subst (λ (stand : Stand). Among b stand.iterations) e o.open')

  -- where an iteration is open, it ends there or ahead
  open_until : (b k : ℕ) (node : Node) → numbered nodes k ≡ Some node → Among b node.stand.iterations
      → k ≤ end_of nodes b
  open_until b k node h a = among (nat_lt first.number k) refl
    where
      first : FirstEnd nodes b (suc b)
      first = first_of b (opened_at b k node h a)

      among : (c : Bool) → nat_lt first.number k ≡ c → k ≤ end_of nodes b
      among true c =
          absurd (omega (
            arith,
            gone_from b (k - suc first.number) k node first
                (omega (arith, ltb-true first.number k c)) h a,
          ))
      among false c = omega (arith, ltb-false first.number k c, is_end b first)

  all_until : (k : ℕ) (node : Node) (numbers : List ℕ) → ((b : ℕ) → Among b numbers → k ≤ end_of nodes b)
      → AllByRecursion (λ b. k ≤ end_of nodes b) numbers
  all_until k node [] f = tt
  all_until k node (n ∷ numbers) f = (f n (inl refl), all_until k node numbers (λ b a. f b (inr a)))

  -- what ends an iteration is its end
  only_end : (k : ℕ) (node : Node) (b : ℕ) → numbered nodes k ≡ Some node → ends b node ≡ true → end_of nodes b ≡ k
  only_end k node b h e = among (nat_lt k (end_of nodes b)) refl
    where
      open' : Among b node.stand.iterations
      open' =
          let inner = innermost b node.stand.iterations (left library k b node.element node.stand e).1 in
          subst (Among b) (sym inner.1) (inl refl)

      first : FirstEnd nodes b (suc b)
      first = first_of b (opened_at b k node h open')

      among : (c : Bool) → nat_lt k (end_of nodes b) ≡ c → end_of nodes b ≡ k
      among true c =
          let ahead : k < first.number = omega (arith, ltb-true k (end_of nodes b) c, is_end b first) in
          let before : b < k = below k b node.stand.iterations (all_descend k node h) open' in
          let z : true ≡ false = sym e ∙ first.least k node (omega (arith, before)) ahead h in absurd (cc)
      among false c = omega (arith, ltb-false k (end_of nodes b) c, open_until b k node h open')

  begins_ahead : (b : ℕ) → b < end_of nodes b → IsBegin nodes b × (end_of nodes b ≤ length nodes)
  begins_ahead b l =
      let end = ends_there nodes b l in
      let number = end_of nodes b in
      let inner = innermost b end.0.stand.iterations (left library number b end.0.element end.0.stand end.2).1 in
      let open' : Among b end.0.stand.iterations = subst (Among b) (sym inner.1) (inl refl) in
      ((opened_at b number end.0 end.1 open').begin, (number_within nodes number end.0 end.1).1)

  not_yet : (b k : ℕ) (node : Node) → (first : FirstEnd nodes b (suc b)) → numbered nodes k ≡ Some node
      → Among b node.stand.iterations → k < first.number → ends b node ≡ false
  not_yet b k node first h a l =
      let before : b < k = below k b node.stand.iterations (all_descend k node h) a in
      first.least k node (omega (arith, before)) l h

  -- one that is open stays open up to its end
  stays_until : (b d k : ℕ) (node : Node) (target : ℕ) (stand : Stand) → (first : FirstEnd nodes b (suc b))
      → numbered nodes k ≡ Some node → Among b node.stand.iterations → target ≡ suc (k + d) →
      numbered (stands nodes entry) target ≡ Some stand → target ≤ first.number → Among b stand.iterations
  stays_until b zero k node target stand first h a e g l =
      let number : target ≡ suc k = omega (arith, e) in
      let f = not_yet b k node first h a (omega (arith, l, e)) in
      let same : Some (stand_behind library k node.element node.stand) ≡ Some stand =
      sym (are.order k node h) ∙ (ap (numbered (stands nodes entry)) (sym number) ∙ g) in
      let is : stand_behind library k node.element node.stand ≡ stand = cc in
      subst (λ (stand : Stand). Among b stand.iterations) is
      (stays_open b k node.stand.iterations _ (λ b. ends b node) (change library k node.element node.stand) f a)
  stays_until b (suc d) k node target stand first h a e g l =
      among (onward k node h) (λ next there open'. stays_until b d (suc k) next target stand first there open'
      (omega (arith, e)) g l)
    where
      f : ends b node ≡ false
      f = not_yet b k node first h a (omega (arith, l, e))

      among : Onward k node → ((next : Node) → numbered nodes (suc k) ≡ Some next → Among b next.stand.iterations
          → Among b stand.iterations) → Among b stand.iterations
      among (Over o) on =
          absurd (subst (λ (stand : Stand). Among b stand.iterations) o
          (stays_open b k node.stand.iterations _ (λ b. ends b node) (change library k node.element node.stand) f
          a))
      among (Further next there o) on =
          on next there (stays_open b k node.stand.iterations next.stand.iterations (λ b. ends b node)
          (changes k node next o) f a)

  -- what is left on the way has ended
  left_ended : (number : ℕ) (node : Node) (target : ℕ) (stand : Stand) (left : ℕ) → numbered nodes number ≡ Some node
      → numbered (stands nodes entry) target ≡ Some stand → number < target
      → stand.iterations ≡ drop left node.stand.iterations →
      (b : ℕ) → Among b (take left node.stand.iterations) → end_of nodes b < target
  left_ended number node target stand left h g l s b a = among (nat_lt (end_of nodes b) target) refl
    where
      open' : Among b node.stand.iterations
      open' = among_taken b left node.stand.iterations a

      first : FirstEnd nodes b (suc b)
      first = first_of b (opened_at b number node h open')

      among : (c : Bool) → nat_lt (end_of nodes b) target ≡ c → end_of nodes b < target
      among true c = ltb-true (end_of nodes b) target c
      among false c =
          let still = stays_until b (target - suc number) number node target stand first h open' (omega (arith, l)) g
          (omega (arith, ltb-false (end_of nodes b) target c, is_end b first)) in
          absurd (omega (
            arith,
            taken_or_dropped number b left node.stand.iterations (all_descend number node h) a
                (subst (Among b) s still),
          ))

  all_ended : (target : ℕ) (numbers : List ℕ) → ((b : ℕ) → Among b numbers → end_of nodes b < target)
      → AllByRecursion (λ b. end_of nodes b < target) numbers
  all_ended target [] f = tt
  all_ended target (n ∷ numbers) f = (f n (inl refl), all_ended target numbers (λ b a. f b (inr a)))

pub left_have_ended : LeftHaveEnded
left_have_ended library entry nodes number target left node stand are h g l s =
    all_ended library entry nodes are target (take left node.stand.iterations)
    (left_ended library entry nodes are number node target stand left h g l s)

pub iterations_end : IterationsEnd
iterations_end library entry nodes are = record {
  descend = all_descend library entry nodes are;
  ahead = λ k node h. all_until library entry nodes are k node node.stand.iterations
      (λ b a. open_until library entry nodes are b k node h a);
  only = λ k node b h e. only_end library entry nodes are k node b h e;
  begins = begins_ahead library entry nodes are;
}
