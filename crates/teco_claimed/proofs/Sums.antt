-- What a checksum comes to, one node or one register further.
use Rattle.std.proofs.Common.{◌≡◌, ◌≢◌, ◌<◌, ◌≤◌, ◌+◌, ◌-◌, ◌∙◌, ℕ, zero, suc, List, [], ◌∷◌, Bool, true, false, ap}
use Rattle.std.proofs.Common.{sym, refl, arith, drop, length, fold, map, Option, Some, None, get_or}
use Rattle.std.proofs.Math.ListN.{get_or-map}
use Rattle.std.proofs.lemmas.Bool.Decides.{nat_tests}
use Rattle.std.proofs.lemmas.List.Sums.{fold-append}
use Rattle.std.specs.Borrow.{Bor}
use Rattle.std.specs.List.{flat_map, range_with_len}
use Rattle.std.specs.Option.{option_copied}
use Rattle.std.specs.Prelude.{◌||◌, ◌==◌, cond, filter, if◌then◌else◌}
use Rattle.teco_base.specs.declared.TheConstants.{REGISTERS}
use Rattle.teco_claimed.specs.Checksum.{checksum_of, is_run, symbols_of, with_symbol}
use Rattle.teco_model.specs.Macros.{Library, macro}
use Rattle.teco_verifier.specs.expansion.Node.{Node, numbered}

-- the node of the next number stands at the front of those behind
front : (nodes : List Node) (k : ℕ) → k < length nodes
    → (node : Node) × (numbered nodes (suc k) ≡ Some node) × (drop k nodes ≡ node ∷ drop (suc k) nodes)
front [] k h = absurd (omega arith)
front (node ∷ nodes) zero h = (node, refl, refl)
front (node ∷ nodes) (suc k) h = front nodes k (omega arith)

-- whether a node from this one on stands in the text of a register
module _
    (nodes : List Node) (k place register : ℕ) (within : k < length nodes)
    (of_node : (node : Node) → numbered nodes (k + 1) ≡ Some node → register ≡ node.register)
  where
    any_front : is_run (drop k nodes) place ≡ ((register == place) || is_run (drop (k + 1) nodes) place)
    any_front =
        let next : k + 1 ≡ suc k = omega arith in
        let here = front nodes k within in
        let is : register ≡ here.0.register = of_node here.0 (rw next here.1) in
        rw (next, is) (ap (λ behind. is_run behind place) here.2)

    pub runs_here : register ≡ place → is_run (drop k nodes) place ≡ true
    runs_here e =
        let is : (register == place) ≡ true = grind (arith, nat_tests) in
        any_front ∙ ap (λ b. b || is_run (drop (k + 1) nodes) place) is

    pub runs_behind : register ≢ place → is_run (drop (k + 1) nodes) place ≡ is_run (drop k nodes) place
    runs_behind other =
        let is : (register == place) ≡ false = grind (arith, nat_tests) in
        sym (any_front ∙ ap (λ b. b || is_run (drop (k + 1) nodes) place) is)

-- a sum, with the texts of so many registers from one on behind it, where nodes stand in them
unfoldable pub sum_behind : Library → List Node → ℕ → ℕ → ℕ → ℕ
sum_behind library nodes sum register left =
    fold with_symbol sum (flat_map (symbols_of library) (filter (is_run nodes) (range_with_len register left)))

-- the sum with the text of one of them
abbrev pub with_register : Library → List Node → ℕ → ℕ → ℕ
with_register library nodes sum register =
    if is_run nodes register then fold with_symbol sum (symbols_of library register) else sum

chosen : (library : Library) (sum register : ℕ) (others : List ℕ) (runs : Bool)
    → fold with_symbol sum (flat_map (symbols_of library) (cond runs (register ∷ others) others))
    ≡ fold with_symbol (if runs then fold with_symbol sum (symbols_of library register) else sum)
    (flat_map (symbols_of library) others)
chosen library sum register others true =
    fold-append with_symbol sum (symbols_of library register) (flat_map (symbols_of library) others)
chosen library sum register others false = refl

pub all_behind : (library : Library) (nodes : List Node)
    → sum_behind library nodes 0 0 REGISTERS ≡ checksum_of library nodes
unfolding sum_behind checksum_of
all_behind library nodes = refl

pub one_behind : (library : Library) (nodes : List Node) (sum register : ℕ) → register < REGISTERS
    → sum_behind library nodes (with_register library nodes sum register) (register + 1) (REGISTERS - (register + 1))
    ≡ sum_behind library nodes sum register (REGISTERS - register)
unfolding sum_behind
one_behind library nodes sum register within =
    let left : REGISTERS - register ≡ suc (REGISTERS - (register + 1)) = omega (arith, within) in
    rw left (sym (chosen library sum register (filter (is_run nodes)
    (range_with_len (register + 1) (REGISTERS - (register + 1)))) (is_run nodes register)))

pub none_behind : (library : Library) (nodes : List Node) (sum register : ℕ) → REGISTERS ≤ register
    → sum_behind library nodes sum register (REGISTERS - register) ≡ sum
unfolding sum_behind
none_behind library nodes sum register over =
    let left : REGISTERS - register ≡ 0 = omega (arith, over) in
    rw left refl

-- the text of a register among those that are lent
pub text_at : (texts : List (Option (Bor (List ℕ)))) (library : Library) (register : ℕ)
    → map option_copied texts ≡ library → option_copied (get_or texts register None) ≡ macro library register
text_at texts library register same =
    sym (get_or-map option_copied texts register None) ∙ ap (λ (own : Library). get_or own register None) same
