-- Places in texts.
use Rattle.teco_law_runs.proofs.Prelude.{◌≡◌, ℕ, zero, suc, ◌+◌, ◌≤◌, List, [], ◌∷◌, length, drop, Bool, true}
use Rattle.teco_law_runs.proofs.Prelude.{false, if◌then◌else◌, nat_le, Option, Some, None, Result, Ok, Err, refl}
use Rattle.teco_law_runs.proofs.Prelude.{sym, ap, ◌∙◌, subst, slice_get, arith, length-drop, AllByRecursion}
use Rattle.teco_law_runs.proofs.Prelude.{leb-true, Code, Whole, reading_at, Kind, Element, blank_len, blank_end}
use Rattle.teco_law_runs.proofs.Prelude.{element_from, element_at, Library, macro, call_of, AreLinked, Stand, Node}
use Rattle.teco_law_runs.proofs.Prelude.{beginning, over, position_in_text, position_behind_call}
use Rattle.teco_law_runs.proofs.Prelude.{stand_behind_kind, stand_behind, Spot, spot_at, Position, pattern_parts}
use Rattle.teco_law_runs.proofs.Prelude.{as_fault, sound, read_at, ok, bound}
use Rattle.teco_base.specs.Bytes.{is_blank}
use Rattle.teco_model.specs.Ahead.{reading_of}
use Rattle.teco_model.specs.Checked.{◌>>=◌}
use Rattle.teco_model.specs.declared.kind.Flow.TheVariants as flow
use Rattle.teco_model.specs.declared.kind.Kind.TheVariants as kind
use Rattle.teco_model.specs.Element.{is_blank_pair}
use Rattle.teco_model.proofs.Ahead.{Advances, reading_at-advances, blank_end-again}
use Rattle.teco_law_runs.specs.Linked.{IsSound, NodesAreSound}
use Rattle.teco_law_runs.specs.Places.{IsPlaceOf, NodesHavePlaces}
use Rattle.teco_verifier.specs.expansion.Position.{place_at}
use Rattle.teco_verifier.specs.expansion.Refusal as refusal
use Rattle.teco_law_runs.proofs.Iterations.{earlier, first_is}
use Rattle.teco_law_runs.proofs.Lookup.{stand_of}
use Rattle.teco_law_runs.proofs.StepWays.{read_is}

faultless : {X : Type 0} (r : Result X Code) (x : X) → as_fault r ≡ Ok x → r ≡ Ok x
faultless (Ok y) x h = ap Ok (ok y x h)
faultless (Err c) x h = absurd (cc)

-- blanks are within their bytes
blanks_within : (bytes : List ℕ) → blank_len bytes ≤ length bytes
unfolding blank_len
blanks_within [] = omega arith
blanks_within (b ∷ []) = among (is_blank b)
  where
    among : (t : Bool) → (if t then 1 else 0) ≤ 1
    among true = omega arith
    among false = omega arith
blanks_within (b ∷ c ∷ rest) = among (is_blank b) (blanks_within (c ∷ rest)) (blanks_within rest)
  where
    pair : (t : Bool) → blank_len rest ≤ length rest
        → elim t [ true ↦ 2 + blank_len rest | false ↦ 0 ] ≤ length (b ∷ c ∷ rest)
    pair true h = omega (arith, h)
    pair false h = omega arith

    among : (t : Bool) → blank_len (c ∷ rest) ≤ length (c ∷ rest) → blank_len rest ≤ length rest
        → elim t [
          | true ↦ 1 + blank_len (c ∷ rest)
          | false ↦ elim
              (is_blank_pair b c) [ true ↦ 2 + blank_len rest | false ↦ 0 ]
        ] ≤ length (b ∷ c ∷ rest)
    among true h g = omega (arith, h)
    among false h g = pair (is_blank_pair b c) g

end_within : (text : List ℕ) (at : ℕ) → at ≤ length text → blank_end text at ≤ length text
end_within text at l = omega (arith, l, blanks_within (drop at text), length-drop at text)

-- where nothing is read the blanks reach to the end
end_read : (text : List ℕ) (at : ℕ) → at ≤ length text → element_at text at ≡ Ok None → blank_end text at ≡ length text
unfolding element_at
end_read text at l h = among (nat_le (length text) (blank_end text at)) refl h
  where
    no_element : {P : Type 0} (r : Result Element Code)
        → Path (Result (Option Element) Code) (r >>= (λ e. Ok (Some e))) (Ok None) → P
    no_element r h = absurd (grind arith)

    among : (t : Bool) → nat_le (length text) (blank_end text at) ≡ t →
        Path (Result (Option Element) Code)
        (elim t [ true ↦ Ok None | false ↦ element_from text (blank_end text at) >>= (λ e. Ok (Some e)) ]) (Ok None)
        → blank_end text at ≡ length text
    among true t h = omega (arith, leb-true (length text) (blank_end text at) t, end_within text at l)
    among false t h = no_element (element_from text (blank_end text at)) h

advances : (text : List ℕ) (at : ℕ) (e : Element) → element_at text at ≡ Ok (Some e) → Advances text at (Whole e)
unfolding reading_at
advances text at e h = reading_at-advances text at (Whole e) (ap (λ r. reading_of r (blank_end text at) text) h)

-- the places of a position are in their texts, behind blanks
abbrev IsIn : Spot → Type 0
IsIn spot = (spot.place ≤ length spot.text) × (blank_end spot.text spot.place ≡ spot.place)

is_in : (text : List ℕ) (at : ℕ) (starts : List ℕ) → at ≤ length text → IsIn (spot_at text at starts)
is_in text at starts l = (end_within text at l, blank_end-again text at)

abbrev AreIn : Position → Type 0
AreIn p = AllByRecursion IsIn (p.running ∷ p.callers)

in_text : (text : Option (List ℕ)) (e : Element) (p : Position) → e.next ≤ length p.running.text → AreIn p
    → AreIn (position_in_text text e p)
in_text None e p l i = (is_in p.running.text e.next p.running.starts l, i.1)
in_text (Some text) e p l i = (is_in text 0 [] (omega arith), (is_in p.running.text e.next p.running.starts l, i.1))

behind_call : (callers : List Spot) (p : Position) → p.callers ≡ callers → AreIn p
    → AreIn (position_behind_call callers p)
behind_call [] p c i = i
behind_call (caller ∷ callers) p c i = let rest = subst (AllByRecursion IsIn) c i.1 in (rest.0, rest.1)

behind_kind : (library : Library) (number : ℕ) (k : Kind) (e : Element) (stand : Stand)
    → e.next ≤ length stand.position.running.text → AreIn stand.position
    → AreIn (stand_behind_kind library number k e stand).position
behind_kind library number (kind.Call c) e stand l i = in_text (macro library c.register) e stand.position l i
behind_kind library number (kind.Flow flow.Iterate) e stand l i = (is_in stand.position.running.text e.next [] l, i.1)
behind_kind library number (kind.Flow flow.EndTurn) e stand l i = (is_in stand.position.running.text e.next [] l, i.1)
behind_kind library number k e stand l i = (is_in stand.position.running.text e.next [] l, i.1)

element_read : (p : Position) (read : Option Element) → read_at p ≡ Ok read
    → element_at p.running.text p.running.place ≡ Ok read
unfolding read_at
element_read p read h = read_is (element_at p.running.text p.running.place) read h

behind : (library : Library) (number : ℕ) (read : Option Element) (stand : Stand) → read_at stand.position ≡ Ok read
    → AreIn stand.position → AreIn (stand_behind library number read stand).position
behind library number None stand r i = behind_call stand.position.callers stand.position refl i
behind library number (Some e) stand r i =
    behind_kind library number e.kind e stand (advances stand.position.running.text stand.position.running.place e
    (element_read stand.position (Some e) r)).within i

all_in : (library : Library) (entry : ℕ) (nodes : List Node) (k : ℕ) (node : Node) → AreLinked library entry nodes
    → slice_get nodes k ≡ Some node → AreIn node.stand.position
all_in library entry nodes zero node are h =
    subst (λ (stand : Stand). AreIn stand.position) (first_is nodes (over entry) (beginning entry) node are.first h)
    (is_in (call_of entry) 0 [] (omega arith), tt)
all_in library entry nodes (suc k) node are h =
    let before = earlier nodes k node h in
    let linked = are.each (suc k) before.node before.at in
    let known = are.order (suc k) before.node before.at in
    let same : Some node.stand ≡ Some (stand_behind library (suc k) before.node.element before.node.stand) =
    sym (stand_of nodes entry (suc (suc k)) node h) ∙ known in
    let is : node.stand ≡ stand_behind library (suc k) before.node.element before.node.stand = cc in
    subst (λ (stand : Stand). AreIn stand.position) (sym is)
    (behind library (suc k) before.node.element before.node.stand linked.reads
    (all_in library entry nodes k before.node are before.at))

placed : (read : Option Element) (p : Position) → AreIn p → read_at p ≡ Ok read
    → IsPlaceOf read p.running.text (place_at p)
placed None p i r = sym i.0.1 ∙ end_read p.running.text p.running.place i.0.0 (element_read p None r)
placed (Some e) p i r = sym ((advances p.running.text p.running.place e (element_read p (Some e) r)).stands ∙ i.0.1)

pub nodes_have_places : NodesHavePlaces
nodes_have_places library entry nodes zero node are h = absurd (cc)
nodes_have_places library entry nodes (suc k) node are h =
    placed node.element node.stand.position (all_in library entry nodes k node are h) (are.each (suc k) node h).reads

-- what is read is sound
pub nodes_are_sound : NodesAreSound
unfolding read_at
nodes_are_sound library all number node linked = (
  element_read node.stand.position node.element linked.reads,
  among (element_at node.stand.position.running.text node.stand.position.running.place) node.element linked.reads,
)
  where
    among : (r : Result (Option Element) Code) (read : Option Element)
        → refusal.◌>>=◌ (as_fault r) (λ read. sound read) ≡ Ok read → IsSound read
    among (Ok None) read h = subst IsSound (ok None read h) tt
    among (Ok (Some e)) read h =
        let p = bound (as_fault (pattern_parts e.kind e.text)) _ read h in
        subst IsSound (ok (Some e) read p.gives) (p.before, faultless (pattern_parts e.kind e.text) p.before p.was)
    among (Err c) read h = absurd (cc)
