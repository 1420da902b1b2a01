-- Tables of what is near.
use Rattle.std.proofs.Common.{◌≡◌, ◌<◌, ◌≤◌, ◌-◌, ℕ, zero, suc, List, [], length, slice_get, arith, refl, sym, subst}
use Rattle.std.proofs.Common.{◌∙◌, ap, Bool, Option, Some}
use Rattle.std.specs.Option.{option_map_or}
use Rattle.teco_changes.specs.Characters.{AreWithin, IsWithin}
use Rattle.teco_changes.specs.Nearby.{Found, ImpliesNear, IsNear, Known, Nearby, anything, near_behind}
use Rattle.teco_changes.specs.declared.argument.NumericArgument.{NumericArgument}
use Rattle.teco_changes.specs.declared.argument.Pending.{Pending}
use Rattle.teco_changes.specs.declared.change.Characters.{Characters}
use Rattle.teco_changes.specs.declared.change.Range.{Range}
use Rattle.teco_law_changes.specs.Runs.{AreNear, colon_of}
use Rattle.teco_law_changes.proofs.Characters.{bounds, inside}
use Rattle.teco_law_changes.specs.Steps.{colon_in}
use Rattle.teco_model.specs.Element.{Element}
use Rattle.teco_model.specs.Searching.{has_colon}
use Rattle.teco_model.specs.State.{Kept, frame_of}
use Rattle.teco_told.specs.Seen.{ImpliesFound, ImpliesPending, near_in, near_seen}
use Rattle.teco_told.specs.declared.near.Nearby.{Nearby as Table}
use Rattle.teco_told.proofs.Ways.{AgreeTo, all_agree}
use Rattle.teco_verifier.specs.expansion.Node.{Node}

pub entry : (table : List Table) (n : ℕ) → 0 < n
    → near_in table n ≡ option_map_or near_seen (slice_get table (n - 1)) anything
entry table zero some = absurd (omega (arith, some))
entry table (suc k) some = let e : suc k - 1 ≡ k = omega arith in rw e refl

no_entry : (number : ℕ) → near_in [] number ≡ anything
no_entry zero = refl
no_entry (suc k) = refl

-- nothing is known of any
pub nothing_implied : (one : Nearby) → ImpliesNear one anything
nothing_implied one level kept is = (tt, tt, (tt, tt))

pub nothing_near : (nodes : List Node) (before : ℕ → NumericArgument) → AreNear nodes before (near_in [])
nothing_near nodes before = record {
  first = λ level kept is. subst (λ n. IsNear n level kept) (sym (no_entry 1)) (tt, tt, (tt, tt));
  goes = λ number node way target at taken level kept is.
      subst (λ n. IsNear n level kept) (sym (no_entry target)) (tt, tt, (tt, tt));
}

-- all parts
pub all_implied : (found f : Found) (pending p : Pending) (characters c : Characters)
    → ImpliesFound found f → ImpliesPending pending p
    → ((kept : Kept) → AreWithin characters kept → AreWithin c kept)
    → ImpliesNear (Known found pending characters) (Known f p c)
all_implied found f pending p characters c first second third level kept is =
    (first level kept is.0, second level kept is.1, third kept is.2)

-- the characters of a range are of a wider one
pub wider_within : (one other : Range) → other.first ≤ one.first → one.last ≤ other.last
    → (character : Option ℕ) → IsWithin (Some one) character → IsWithin (Some other) character
wider_within one other low high character is b at =
    let both = bounds one.first one.last b (is b at) in
    let first = both.0 in
    let last = both.1 in
    inside other.first other.last b (omega (arith, low, first)) (omega (arith, high, last))

-- a way leads to no more than is known behind its node
abbrev pub LeadsNear : (ℕ → NumericArgument) → List Table → ℕ → Node → ℕ → ℕ → Type 0
LeadsNear before table number node way target =
    ImpliesNear (near_behind node.element (colon_of node) way (before number) (near_in table number))
    (near_in table target)

pub all_near : (nodes : List Node) (before : ℕ → NumericArgument) (table : List Table) (n : ℕ)
    → ImpliesNear anything (near_in table 1) → AgreeTo nodes (LeadsNear before table) n
    → length nodes ≤ n → AreNear nodes before (near_in table)
all_near nodes before table n first each all = record {
  first = first;
  goes = λ number node way target at taken.
      all_agree nodes (LeadsNear before table) n each all number node way target at taken;
}

-- what is known behind an element that is read at a node
pub at_node : (node : Node) (e : Element) (colon : Bool) (way : ℕ) (argument : NumericArgument) (near behind : Nearby)
    → Some e ≡ node.element
    → (node.element ≡ Some e → colon ≡ has_colon e (frame_of node.stand.position.running.text))
    → behind ≡ near_behind (Some e) colon way argument near
    → behind ≡ near_behind node.element (colon_of node) way argument near
at_node node e colon way argument near behind is colon_is known =
    let text = node.stand.position.running.text in
    let same : colon ≡ colon_in (Some e) text = colon_is (sym is) in
    subst (λ read. behind ≡ near_behind read (colon_in read text) way argument near) is
    (known ∙ ap (λ c. near_behind (Some e) c way argument near) same)
