-- The visits of an expansion: each is sound, and the numbers that are written of it lead to where it goes on.
use Rattle.teco_law_runs.proofs.Prelude.{◌≡◌, ℕ, zero, suc, ◌+◌, ◌-◌, ◌<◌, ◌≤◌, length, List, [], ◌∷◌, ◌++◌, map, drop}
use Rattle.teco_law_runs.proofs.Prelude.{Bool, true, false, Option, Some, None, Result, Ok, Err, refl, sym, ap, ◌∙◌}
use Rattle.teco_law_runs.proofs.Prelude.{subst, slice_get, get_or, arith, ok_or, leb-true, register_of, register_name}
use Rattle.teco_law_runs.proofs.Prelude.{Call, Kind, Element, blank_len, element_from, element_at, letters, Reason}
use Rattle.teco_law_runs.proofs.Prelude.{Unpaired, Library, macro, call_of, Spot, Position, spot_at, starts_in, depth}
use Rattle.teco_law_runs.proofs.Prelude.{past, read_at, end_ways, call_ways, flow_ways, return_ways, element_ways}
use Rattle.teco_law_runs.proofs.Prelude.{ways_at, Stand, Node, beginning, over, stand_of_node, numbered, stand_at}
use Rattle.teco_law_runs.proofs.Prelude.{base_of, position_in_text, position_behind_call, stand_behind_kind}
use Rattle.teco_law_runs.proofs.Prelude.{stand_behind, Visit, next_visit, register_at, Walk, stand_of_visit, all_stands}
use Rattle.teco_law_runs.proofs.Prelude.{way_numbers, node_at, nodes_at, MOST_ELEMENTS, MOST_OPEN, IsNext, Lead}
use Rattle.teco_law_runs.proofs.Prelude.{IsLinked, ok, bound, some_of, option_map, same_stand}
use Rattle.std.proofs.Common.{not, position}
use Rattle.std.proofs.lemmas.List.Quantifiers.{position-Some}
use Rattle.std.proofs.lemmas.Option.{slice_get-get_or}
use Rattle.teco_model.specs.declared.kind.Flow.TheVariants as flow
use Rattle.teco_model.specs.declared.kind.Kind.TheVariants as kind
use Rattle.teco_verifier.specs.expansion.Refusal.{Recursion, TooLarge, unless}
use Rattle.teco_verifier.specs.expansion.Overlap.{overlaps}
use Rattle.teco_verifier.specs.expansion.Expansion.{open_behind_kind, open_behind, visit_behind, is_recursion}
use Rattle.teco_verifier.specs.expansion.Expansion.{is_within, refusal_at, number_behind, refusal_of_way, refused_at}
use Rattle.teco_law_runs.proofs.Comparing.{and_left, and_right, stands_alike, stand_alike}
use Rattle.teco_law_runs.proofs.Lookup.{got_dropped}

numbered-some : {X : Type 0} (all : List X) (n base j : ℕ) → n ≡ suc (base + j)
    → numbered all n ≡ slice_get (drop base all) j
numbered-some all n base j h = ap (numbered all) h ∙ sym (got_dropped base j all)

get_or-some : {X : Type 0} (xs : List X) (j : ℕ) (x d : X) → j < length xs → slice_get xs j ≡ Some x → get_or xs j d ≡ x
get_or-some xs j x d l h = let e : Some (get_or xs j d) ≡ Some x = sym (slice_get-get_or xs j d l) ∙ h in cc

-- a number that is found is the next that stands so
found : (all : List Stand) (base : ℕ) (stand : Stand) (k : Option ℕ) (n : ℕ)
    → position (same_stand stand) (drop base all) ≡ k → option_map (λ k. suc (base + k)) k ≡ Some n
    → IsNext all base stand n
found all base stand None n h g = absurd (cc)
found all base stand (Some k) n h g =
    let same : suc (base + k) ≡ n = cc in
    let at = position-Some (same_stand stand) (drop base all) k stand h in
    let alike : stand ≡ get_or (drop base all) k stand = stands_alike stand (get_or (drop base all) k stand) at.1 in
    subst (IsNext all base stand) same (record {
      at = sym (got_dropped base k all) ∙ (slice_get-get_or (drop base all) k stand at.0 ∙ ap Some (sym alike));
      ahead = omega arith;
      least = λ m l u e.
          let j = m - suc base in
          let small : j < k = omega (arith, l, u) in
          let there : slice_get (drop base all) j ≡ Some stand = sym (numbered-some all m base j (omega (arith, l, u)))
          ∙ e in
          let is : get_or (drop base all) j stand ≡ stand =
          get_or-some (drop base all) j stand stand (omega (arith, small, at.0)) there in
          let z : true ≡ false = sym (stand_alike stand) ∙ (ap (same_stand stand) (sym is) ∙ at.2 j small) in
          absurd (cc);
    })

-- ways that are numbered
numbers_lead : (library : Library) (entry : ℕ) (w : Walk) (base number : ℕ) (v : Visit) (targets : List Position)
    (ways : List ℕ) → way_numbers library entry w base number v targets ≡ Ok ways
    → Lead (all_stands w entry) base number v.stand targets ways
unfolding way_numbers
numbers_lead library entry w base number v [] ways h =
    subst (Lead (all_stands w entry) base number v.stand []) (ok [] ways h) tt
numbers_lead library entry w base number v (target ∷ targets) ways h =
    let all = all_stands w entry in
    let stand = stand_at number v.stand target in
    let way =
    bound (ok_or (number_behind base all stand)
    (refusal_of_way base all w.refusal (refusal_at entry v Unpaired) stand)) _ ways h in
    let rest = bound (way_numbers library entry w number number v targets) _ ways way.gives in
    let head = found all base stand _ way.before refl (some_of (number_behind base all stand) _ way.before way.was) in
    let tail = numbers_lead library entry w number number v targets rest.before rest.was in
    subst (Lead all base number v.stand (target ∷ targets)) (ok _ ways rest.gives) (head, tail)

-- a node that is made of a visit of a number
pub record Stands (library : Library) (entry : ℕ) (all : List Stand) (number : ℕ) (v : Visit) (node : Node) :
    Type 0 where
  pub linked : IsLinked library all number node
  pub stand : node.stand ≡ v.stand
  pub register : node.register ≡ register_at entry v

read_there : {X : Type 0} (entry : ℕ) (v : Visit) (r : Result X Reason) (x : X) → refused_at entry v r ≡ Ok x → r ≡ Ok x
read_there entry v (Ok y) x h = ap Ok (ok y x h)
read_there entry v (Err reason) x h = absurd (cc)

node_stands : (library : Library) (entry : ℕ) (w : Walk) (number : ℕ) (v : Visit) (node : Node)
    → node_at library entry w number v ≡ Ok node → Stands library entry (all_stands w entry) number v node
unfolding node_at
node_stands library entry w number v node h =
    let read = bound (refused_at entry v (read_at v.stand.position)) _ node h in
    let targets = bound (refused_at entry v (ways_at library read.before v.stand.position)) _ node read.gives in
    let ways =
    bound (way_numbers library entry w (base_of read.before number v.stand.iterations) number v targets.before) _
    node targets.gives in
    let lead = numbers_lead library entry w (base_of read.before number v.stand.iterations) number v targets.before
    ways.before ways.was in
    subst (Stands library entry (all_stands w entry) number v) (ok _ node ways.gives) (record {
      stand = refl;
      register = refl;
      linked = record {
        targets = targets.before;
        reads = read_there entry v (read_at v.stand.position) read.before read.was;
        goes = read_there entry v (ways_at library read.before v.stand.position) targets.before targets.was;
        leads = lead;
        names = refl;
      };
    })

abbrev pub register_of_node : Node → ℕ
register_of_node node = node.register

-- nodes that are made of visits, one after another
pub record AllStand (library : Library) (entry : ℕ) (all : List Stand) (number : ℕ) (vs : List Visit)
    (nodes : List Node) :
    Type 0 where
  pub each : (k : ℕ) (node : Node) → slice_get nodes k ≡ Some node → IsLinked library all (number + k) node
  pub same : map stand_of_node nodes ≡ map stand_of_visit vs
  pub registers : map register_of_node nodes ≡ map (register_at entry) vs

one_more : (library : Library) (entry : ℕ) (all : List Stand) (number : ℕ) (v : Visit) (vs : List Visit) (node : Node)
    (nodes : List Node) → Stands library entry all number v node → AllStand library entry all (number + 1) vs nodes
    → AllStand library entry all number (v ∷ vs) (node ∷ nodes)
one_more library entry all number v vs node nodes s a = record {
  each = each;
  same = let head : node.stand ≡ v.stand = s.stand in let tail = a.same in cc;
  registers = let head : node.register ≡ register_at entry v = s.register in let tail = a.registers in cc;
}
  where
    each : (k : ℕ) (other : Node) → slice_get (node ∷ nodes) k ≡ Some other → IsLinked library all (number + k) other
    each zero other h =
        let e : node ≡ other = cc in
        let here : number ≡ number + 0 = omega arith in
        subst (λ n. IsLinked library all n other) here (subst (IsLinked library all number) e s.linked)
    each (suc k) other h =
        let e : number + 1 + k ≡ number + suc k = omega arith in
        subst (λ n. IsLinked library all n other) e (a.each k other h)

pub all_stand : (library : Library) (entry : ℕ) (w : Walk) (number : ℕ) (vs : List Visit) (nodes : List Node)
    → nodes_at library entry w number vs ≡ Ok nodes → AllStand library entry (all_stands w entry) number vs nodes
unfolding nodes_at
all_stand library entry w number [] nodes h =
    subst (AllStand library entry (all_stands w entry) number []) (ok [] nodes h)
    (record { each = λ k node g. absurd (cc); same = refl; registers = refl })
all_stand library entry w number (v ∷ vs) nodes h =
    let node = bound (node_at library entry w number v) _ nodes h in
    let rest = bound (nodes_at library entry w (number + 1) vs) _ nodes node.gives in
    subst (AllStand library entry (all_stands w entry) number (v ∷ vs)) (ok _ nodes rest.gives)
    (one_more library entry (all_stands w entry) number v vs node.before rest.before
    (node_stands library entry w number v node.before node.was)
    (all_stand library entry w (number + 1) vs rest.before rest.was))

-- what a walk visits: the calls that wait are those of the open registers, down to that of the entry
abbrev pub CallersEnd : ℕ → List ℕ → List Spot → Type 0
CallersEnd entry [] callers = callers ≡ (over entry).position.running ∷ []
CallersEnd entry (r ∷ registers) [] = ⊥
CallersEnd entry (r ∷ registers) (caller ∷ callers) = CallersEnd entry registers callers

abbrev pub Waits : ℕ → List ℕ → Stand → Type 0
Waits entry [] stand = stand ≡ beginning entry
Waits entry (r ∷ registers) stand = CallersEnd entry registers stand.position.callers

-- the texts that are open are those of the open registers, and the command string
abbrev pub AreTexts : Library → ℕ → List ℕ → List Spot → Type 0
AreTexts library entry [] [] = ⊥
AreTexts library entry [] (spot ∷ []) = spot.text ≡ call_of entry
AreTexts library entry [] (spot ∷ caller ∷ callers) = ⊥
AreTexts library entry (r ∷ registers) [] = ⊥
AreTexts library entry (r ∷ registers) (spot ∷ callers) = (macro library r ≡ Some spot.text)
    × AreTexts library entry registers callers

pub record IsSound (library : Library) (entry : ℕ) (v : Visit) : Type 0 where
  pub waits : Waits entry v.registers v.stand
  pub deep : length v.stand.iterations ≡ depth v.stand.position
  pub few : length v.stand.iterations ≤ MOST_OPEN
  pub few_calls : length v.registers ≤ MOST_OPEN
  pub texts : AreTexts library entry v.registers (v.stand.position.running ∷ v.stand.position.callers)

-- the first visit is that of a call
record IsCall (read : Option Element) : Type 0 where
  element : Element
  call : Call
  reads : read ≡ Some element
  kind_is : element.kind ≡ kind.Call call
  next : element.next ≡ 2

first_read : (entry : ℕ) (read : Option Element) → read_at (beginning entry).position ≡ Ok read → IsCall read
unfolding read_at element_at element_from blank_len letters
first_read entry read h = among (register_of (register_name entry)) refl
  where
    among : (o : Option ℕ) → register_of (register_name entry) ≡ o → IsCall read
    among None e = let z = rw e at h in absurd (cc)
    among (Some r) e = let is = ok _ read (rw e at h) in
        record { element = _; call = record { register = r }; reads = sym is; kind_is = refl; next = refl }

-- what is known of a visit that is not refused
pub record Next (library : Library) (number : ℕ) (v next : Visit) : Type 0 where
  pub read : Option Element
  pub targets : List Position
  pub reads : read_at v.stand.position ≡ Ok read
  pub goes : ways_at library read v.stand.position ≡ Ok targets
  pub is : next ≡ visit_behind library number read v
  pub fits : is_within number next ≡ true

not_false : (b : Bool) → unless (not b) TooLarge ≡ Ok tt → b ≡ true
not_false true h = refl
not_false false h = absurd (cc)

pub next_is : (library : Library) (number : ℕ) (v next : Visit) → next_visit library number v ≡ Ok next
    → Next library number v next
unfolding next_visit
next_is library number v next h =
    let read = bound (read_at v.stand.position) _ next h in
    let ways = bound (ways_at library read.before v.stand.position) _ next read.gives in
    let apart = bound (unless (overlaps read.before ways.before v.stand.position) Unpaired) _ next ways.gives in
    let once = bound (unless (is_recursion read.before v.registers) Recursion) _ next apart.gives in
    let few = bound (unless (not (is_within number (visit_behind library number read.before v))) TooLarge) _ next
    once.gives in
    let is : visit_behind library number read.before v ≡ next = ok _ next few.gives in
    record {
      read = read.before;
      targets = ways.before;
      reads = read.was;
      goes = ways.was;
      is = sym is;
      fits = ap (is_within number) (sym is) ∙ not_false (is_within number (visit_behind library number read.before v))
          few.was;
    }

-- the iterations of what follows are as many as are open there
deep_outside : (starts numbers rest : List ℕ) (e : Element) (p : Position) (targets : List Position)
    → end_ways starts e p ≡ Ok targets → length numbers ≡ length (starts ++ rest)
    → length (drop 1 numbers) ≡ length (drop 1 starts ++ rest)
deep_outside (start ∷ outer) (n ∷ numbers) rest e p targets w h = omega (arith, h)
deep_outside starts numbers rest e p targets w h = absurd (grind arith)

deep_called : (text : Option (List ℕ)) (e : Element) (p : Position) → depth (position_in_text text e p) ≡ depth p
deep_called None e p = refl
deep_called (Some text) e p = refl

deep_returned : (starts : List ℕ) (callers : List Spot) (p : Position) (targets : List Position)
    → p.running.starts ≡ starts → p.callers ≡ callers → return_ways starts callers ≡ Ok targets
    → depth (position_behind_call callers p) ≡ depth p
deep_returned (start ∷ outer) callers p targets s c w = absurd (cc)
deep_returned [] [] p targets s c w = refl
deep_returned [] (caller ∷ callers) p targets s c w =
    sym (ap (λ starts. length (starts ++ starts_in p.callers)) s ∙ ap (λ callers. length (starts_in callers)) c)

deep_kind : (library : Library) (number : ℕ) (k : Kind) (e : Element) (stand : Stand) (targets : List Position)
    → element_ways library k e stand.position ≡ Ok targets → length stand.iterations ≡ depth stand.position →
    (let next = stand_behind_kind library number k e stand in length next.iterations ≡ depth next.position)
unfolding flow_ways
deep_kind library number (kind.Call c) e stand targets w h =
    h ∙ sym (deep_called (macro library c.register) e stand.position)
deep_kind library number (kind.Flow flow.Iterate) e stand targets w h = omega (arith, h)
deep_kind library number (kind.Flow flow.EndTurn) e stand targets w h =
    deep_outside stand.position.running.starts stand.iterations (starts_in stand.position.callers) e stand.position
    targets w h
deep_kind library number k e stand targets w h = h

deep_behind : (library : Library) (number : ℕ) (read : Option Element) (stand : Stand) (targets : List Position)
    → ways_at library read stand.position ≡ Ok targets → length stand.iterations ≡ depth stand.position →
    (let next = stand_behind library number read stand in length next.iterations ≡ depth next.position)
unfolding ways_at
deep_behind library number None stand targets w h =
    h ∙ sym (deep_returned stand.position.running.starts stand.position.callers stand.position targets refl refl w)
deep_behind library number (Some e) stand targets w h = deep_kind library number e.kind e stand targets w h

-- the visit that waits for nothing is that of a call
is_call : Kind → Bool
is_call (kind.Call c) = true
is_call k = false

must_call : {P : Type 0} (entry : ℕ) (k : Kind) (e : Element) (stand : Stand) → read_at stand.position ≡ Ok (Some e)
    → e.kind ≡ k → is_call k ≡ false → Waits entry [] stand → P
unfolding is_call
must_call entry k e stand r g c w =
    let first = first_read entry (Some e) (ap (λ (stand : Stand). read_at stand.position) (sym w) ∙ r) in
    let same : e ≡ first.element = (let s : Some e ≡ Some first.element = first.reads in cc) in
    let z : false ≡ true =
    sym c ∙ (ap is_call (sym g) ∙ (ap (λ (e : Element). is_call e.kind) same ∙ ap is_call first.kind_is)) in
    absurd (cc)

must_read : {P : Type 0} (entry : ℕ) (stand : Stand) → read_at stand.position ≡ Ok None → Waits entry [] stand → P
must_read entry stand r w =
    let first = first_read entry None (ap (λ (stand : Stand). read_at stand.position) (sym w) ∙ r) in
    let z : None ≡ Some first.element = first.reads in absurd (cc)

kept_waits : (entry : ℕ) (k : Kind) (e : Element) (registers : List ℕ) (stand next : Stand)
    → read_at stand.position ≡ Ok (Some e) → e.kind ≡ k → is_call k ≡ false
    → next.position.callers ≡ stand.position.callers → Waits entry registers stand → Waits entry registers next
kept_waits entry k e [] stand next r g c same w = must_call entry k e stand r g c w
kept_waits entry k e (r' ∷ registers) stand next r g c same w = subst (CallersEnd entry registers) (sym same) w

called_waits : (entry : ℕ) (text : Option (List ℕ)) (e : Element) (registers : List ℕ) (stand : Stand)
    (targets : List Position) → read_at stand.position ≡ Ok (Some e) → call_ways text e stand.position ≡ Ok targets
    → Waits entry registers stand →
    CallersEnd entry registers (position_in_text text e stand.position).callers
called_waits entry None e registers stand targets r c w = absurd (cc)
called_waits entry (Some text) e [] stand targets r c w =
    let first = first_read entry (Some e) (ap (λ (stand : Stand). read_at stand.position) (sym w) ∙ r) in
    let same : e ≡ first.element = (let s : Some e ≡ Some first.element = first.reads in cc) in
    let next : e.next ≡ 2 = ap (λ (e : Element). e.next) same ∙ first.next in
    ap (λ (stand : Stand). (past e stand.position).running ∷ stand.position.callers) w
    ∙ ap (λ place. spot_at (call_of entry) place [] ∷ []) next
called_waits entry (Some text) e (r' ∷ registers) stand targets r c w = w

waits_kind : (library : Library) (entry number : ℕ) (k : Kind) (e : Element) (registers : List ℕ) (stand : Stand)
    (targets : List Position) → read_at stand.position ≡ Ok (Some e) → e.kind ≡ k
    → element_ways library k e stand.position ≡ Ok targets →
    Waits entry registers stand → Waits entry (open_behind_kind k registers)
    (stand_behind_kind library number k e stand)
unfolding is_call
waits_kind library entry number (kind.Call c) e registers stand targets r g w o =
    called_waits entry (macro library c.register) e registers stand targets r w o
waits_kind library entry number (kind.Flow flow.Iterate) e registers stand targets r g w o =
    kept_waits entry (kind.Flow flow.Iterate) e registers stand _ r g refl refl o
waits_kind library entry number (kind.Flow flow.EndTurn) e registers stand targets r g w o =
    kept_waits entry (kind.Flow flow.EndTurn) e registers stand _ r g refl refl o
waits_kind library entry number k e registers stand targets r g w o =
    kept_waits entry k e registers stand _ r g refl refl o

returned_waits : (entry r : ℕ) (registers : List ℕ) (callers : List Spot) (p : Position)
    → CallersEnd entry (r ∷ registers) callers → CallersEnd entry registers (position_behind_call callers p).callers
returned_waits entry r registers [] p w = absurd w
returned_waits entry r registers (caller ∷ callers) p w = w

-- behind a visit another follows while registers are open
waits_behind : (library : Library) (entry number : ℕ) (read : Option Element) (registers : List ℕ) (r : ℕ)
    (others : List ℕ) (stand : Stand) (targets : List Position) → read_at stand.position ≡ Ok read
    → ways_at library read stand.position ≡ Ok targets →
    Waits entry registers stand → open_behind read registers ≡ r ∷ others
    → Waits entry (open_behind read registers) (stand_behind library number read stand)
unfolding ways_at
waits_behind library entry number None (a ∷ b ∷ registers) r others stand targets h w o e =
    returned_waits entry b registers stand.position.callers stand.position o
waits_behind library entry number (Some e') registers r others stand targets h w o e =
    waits_kind library entry number e'.kind e' registers stand targets h refl w o
waits_behind library entry number read registers r others stand targets h w o e = absurd (grind arith)

-- what follows has such texts, too
same_text : (library : Library) (entry : ℕ) (registers : List ℕ) (a b : Spot) (callers : List Spot) → a.text ≡ b.text
    → AreTexts library entry registers (a ∷ callers) → AreTexts library entry registers (b ∷ callers)
same_text library entry [] a b [] e t = sym e ∙ t
same_text library entry [] a b (caller ∷ callers) e t = absurd t
same_text library entry (r ∷ registers) a b callers e t = (t.0 ∙ ap Some e, t.1)

called_texts : (library : Library) (entry r : ℕ) (registers : List ℕ) (text : Option (List ℕ)) (e : Element)
    (p : Position) (targets : List Position) → macro library r ≡ text → call_ways text e p ≡ Ok targets
    → AreTexts library entry registers (p.running ∷ p.callers) →
    (let q = position_in_text text e p in AreTexts library entry (r ∷ registers) (q.running ∷ q.callers))
called_texts library entry r registers None e p targets m w t = absurd (cc)
called_texts library entry r registers (Some text) e p targets m w t =
    (m, same_text library entry registers p.running (past e p).running p.callers refl t)

returned_texts : (library : Library) (entry : ℕ) (registers : List ℕ) (callers : List Spot) (p : Position)
    → p.callers ≡ callers → AreTexts library entry registers (p.running ∷ callers) →
    (let q = position_behind_call callers p in AreTexts library entry (drop 1 registers) (q.running ∷ q.callers))
returned_texts library entry [] [] p c t = subst (λ callers. AreTexts library entry [] (p.running ∷ callers)) (sym c) t
returned_texts library entry [] (caller ∷ callers) p c t = absurd t
returned_texts library entry (r ∷ []) [] p c t = absurd t.1
returned_texts library entry (r ∷ a ∷ registers) [] p c t = absurd t.1
returned_texts library entry (r ∷ registers) (caller ∷ callers) p c t = t.1

kind_texts : (library : Library) (entry number : ℕ) (k : Kind) (e : Element) (registers : List ℕ) (stand : Stand)
    (targets : List Position) → element_ways library k e stand.position ≡ Ok targets
    → AreTexts library entry registers (stand.position.running ∷ stand.position.callers) →
    (let q = (stand_behind_kind library number k e stand).position in
    AreTexts library entry (open_behind_kind k registers) (q.running ∷ q.callers))
kind_texts library entry number (kind.Call c) e registers stand targets w t =
    called_texts library entry c.register registers (macro library c.register) e stand.position targets refl w t
kind_texts library entry number (kind.Flow flow.Iterate) e registers stand targets w t =
    same_text library entry registers stand.position.running _ stand.position.callers refl t
kind_texts library entry number (kind.Flow flow.EndTurn) e registers stand targets w t =
    same_text library entry registers stand.position.running _ stand.position.callers refl t
kind_texts library entry number k e registers stand targets w t =
    same_text library entry registers stand.position.running _ stand.position.callers refl t

texts_behind : (library : Library) (entry number : ℕ) (read : Option Element) (registers : List ℕ) (stand : Stand)
    (targets : List Position) → ways_at library read stand.position ≡ Ok targets
    → AreTexts library entry registers (stand.position.running ∷ stand.position.callers) →
    (let q = (stand_behind library number read stand).position in
    AreTexts library entry (open_behind read registers) (q.running ∷ q.callers))
unfolding ways_at
texts_behind library entry number None registers stand targets w t =
    returned_texts library entry registers stand.position.callers stand.position refl t
texts_behind library entry number (Some e) registers stand targets w t =
    kind_texts library entry number e.kind e registers stand targets w t

-- and else the end
no_numbers : (numbers : List ℕ) → length numbers ≡ 0 → numbers ≡ []
no_numbers [] h = refl
no_numbers (n ∷ numbers) h = absurd (cc)

over_behind : (library : Library) (entry number : ℕ) (stand : Stand) (callers : List Spot)
    → stand.position.callers ≡ callers → callers ≡ (over entry).position.running ∷ [] →
    (let next = stand_behind library number None stand in length next.iterations ≡ depth next.position)
    → stand_behind library number None stand ≡ over entry
over_behind library entry number stand callers c h deep =
    let there : position_behind_call stand.position.callers stand.position ≡ (over entry).position =
    ap (λ callers. position_behind_call callers stand.position) (c ∙ h) in
    let none : stand.iterations ≡ [] = no_numbers stand.iterations (deep ∙ ap depth there) in
    λ i. record { position = there i; iterations = none i }

open_or_call : (entry : ℕ) (k : Kind) (e : Element) (registers : List ℕ) (stand : Stand) → {P : Type 0}
    → read_at stand.position ≡ Ok (Some e) → e.kind ≡ k → Waits entry registers stand
    → open_behind_kind k registers ≡ [] → P
unfolding is_call
open_or_call entry (kind.Call c) e registers stand r g o h = absurd (cc)
open_or_call entry k e [] stand r g o h = must_call entry k e stand r g refl o
open_or_call entry k e (a ∷ registers) stand r g o h = absurd (cc)

pub end_behind : (library : Library) (entry number : ℕ) (read : Option Element) (registers : List ℕ) (stand : Stand)
    (targets : List Position) → read_at stand.position ≡ Ok read → ways_at library read stand.position ≡ Ok targets →
    Waits entry registers stand → length stand.iterations ≡ depth stand.position → open_behind read registers ≡ []
    → stand_behind library number read stand ≡ over entry
end_behind library entry number None [] stand targets h w o d e = must_read entry stand h o
end_behind library entry number None (a ∷ []) stand targets h w o d e =
    over_behind library entry number stand stand.position.callers refl o
    (deep_behind library number None stand targets w d)
end_behind library entry number None (a ∷ b ∷ registers) stand targets h w o d e = absurd (cc)
end_behind library entry number (Some e') registers stand targets h w o d e =
    open_or_call entry e'.kind e' registers stand h refl o e

-- what is known of all visits of a walk that is not refused
pub record Followed (library : Library) (number : ℕ) (all : List Stand) (k : ℕ) (a : Visit) : Type 0 where
  pub read : Option Element
  pub reads : read_at a.stand.position ≡ Ok read
  pub next : slice_get all (suc k) ≡ Some (stand_behind library number read a.stand)

pub record IsDone (library : Library) (entry number : ℕ) (vs : List Visit) : Type 0 where
  pub each : (k : ℕ) (a : Visit) → slice_get vs k ≡ Some a
      → Followed library (number + k) (map stand_of_visit vs ++ over entry ∷ []) k a
  pub sound : (k : ℕ) (a : Visit) → slice_get vs k ≡ Some a → IsSound library entry a
  pub few : number + length vs ≤ MOST_ELEMENTS + 1

-- the tests of what there may be
pub counts_few : (number : ℕ) (next : Visit) → is_within number next ≡ true
    → (number ≤ MOST_ELEMENTS) × (length next.registers ≤ MOST_OPEN) × (length next.stand.iterations ≤ MOST_OPEN)
counts_few number next h = search (and_left, leb-true, and_right)

pub next_sound : (library : Library) (entry number : ℕ) (v next : Visit) (r : ℕ) (others : List ℕ)
    → IsSound library entry v
    → Next library number v next → next.registers ≡ r ∷ others → IsSound library entry next
next_sound library entry number v next r others s n h =
    let fits = counts_few number next n.fits in
    record {
      waits = subst (λ (v : Visit). Waits entry v.registers v.stand) (sym n.is)
          (waits_behind library entry number n.read v.registers r others v.stand n.targets n.reads n.goes s.waits
          (ap (λ (v : Visit). v.registers) (sym n.is) ∙ h));
      deep = subst (λ (v : Visit). length v.stand.iterations ≡ depth v.stand.position) (sym n.is)
          (deep_behind library number n.read v.stand n.targets n.goes s.deep);
      few = fits.2;
      few_calls = fits.1;
      texts = subst (λ (v : Visit). AreTexts library entry v.registers
          (v.stand.position.running ∷ v.stand.position.callers)) (sym n.is)
          (texts_behind library entry number n.read v.registers v.stand n.targets n.goes s.texts);
    }
