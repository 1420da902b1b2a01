-- Skips, one reading after another.
use Rattle.teco_model.proofs.Prelude.{◌≡◌, ℕ, zero, suc, ◌+◌, List, Some, None, refl, Code, Skip, Whole, Faulty}
use Rattle.teco_model.proofs.Prelude.{reading_at, readings, Element}
use Rattle.std.proofs.Common.{◌≢◌}
use Rattle.teco_model.specs.declared.skip.Bracket.{Bracket}
use Rattle.teco_model.specs.declared.skip.Bracket.TheVariants.{Opens, Closes, Stops, Passes}
use Rattle.teco_model.specs.declared.skip.Pairs.{Pairs}
use Rattle.teco_model.specs.Skip.{bracket, tag_bracket, inner_behind, pair_end, tag_skip}
use Rattle.teco_model.proofs.Ahead.{readings-some, readings-none}

-- what ends a pair, by what is read next
pub pair_end-none : (pairs : Pairs) (inner : ℕ) (text : List ℕ) (at : ℕ) → reading_at text at ≡ None →
    pair_end pairs inner (readings text at) ≡ None
pair_end-none pairs inner text at h = rw (readings-none text at h) refl

pub pair_end-faulty : (pairs : Pairs) (inner : ℕ) (text : List ℕ) (at : ℕ) (c : Code) (place next : ℕ)
    → reading_at text at ≡ Some (Faulty c place next) →
    pair_end pairs inner (readings text at) ≡ pair_end pairs inner (readings text next)
pair_end-faulty pairs inner text at c place next h = rw (readings-some text at _ h) refl

pub pair_end-ends : (pairs : Pairs) (inner : ℕ) (text : List ℕ) (at : ℕ) (e : Element)
    → reading_at text at ≡ Some (Whole e) →
    inner_behind (bracket pairs e.kind) inner ≡ None → pair_end pairs inner (readings text at) ≡ Some e
pair_end-ends pairs inner text at e h b = rw (readings-some text at _ h) (rw (b, pair_end) refl)

pub pair_end-goes_on : (pairs : Pairs) (inner behind : ℕ) (text : List ℕ) (at : ℕ) (e : Element)
    → reading_at text at ≡ Some (Whole e) →
    inner_behind (bracket pairs e.kind) inner ≡ Some behind
    → pair_end pairs inner (readings text at) ≡ pair_end pairs behind (readings text e.next)
pair_end-goes_on pairs inner behind text at e h b = rw (readings-some text at _ h) (rw (b, pair_end) refl)

-- the way to a tag, by what is read next
pub tag_skip-none : (tag : List ℕ) (inner leaves : ℕ) (text : List ℕ) (at : ℕ) → reading_at text at ≡ None →
    tag_skip tag inner leaves (readings text at) ≡ record { to = None; leaves = leaves }
tag_skip-none tag inner leaves text at h = rw (readings-none text at h) refl

pub tag_skip-faulty : (tag : List ℕ) (inner leaves : ℕ) (text : List ℕ) (at : ℕ) (c : Code) (place next : ℕ)
    → reading_at text at ≡ Some (Faulty c place next) →
    tag_skip tag inner leaves (readings text at) ≡ tag_skip tag inner leaves (readings text next)
tag_skip-faulty tag inner leaves text at c place next h = rw (readings-some text at _ h) refl

pub tag_skip-goes_on : (tag : List ℕ) (inner leaves behind : ℕ) (text : List ℕ) (at : ℕ) (e : Element)
    → reading_at text at ≡ Some (Whole e) →
    inner_behind (tag_bracket tag e.kind e.text) inner ≡ Some behind
    → tag_skip tag inner leaves (readings text at) ≡ tag_skip tag behind leaves (readings text e.next)
tag_skip-goes_on tag inner leaves behind text at e h b = rw (readings-some text at _ h) (rw (b, tag_skip) refl)

pub tag_skip-leaves : (tag : List ℕ) (inner leaves : ℕ) (text : List ℕ) (at : ℕ) (e : Element)
    → reading_at text at ≡ Some (Whole e) →
    inner_behind (tag_bracket tag e.kind e.text) inner ≡ None → tag_bracket tag e.kind e.text ≡ Closes →
    tag_skip tag inner leaves (readings text at) ≡ tag_skip tag inner (leaves + 1) (readings text e.next)
tag_skip-leaves tag zero leaves text at e h b k =
    rw (readings-some text at _ h) (rw (b, tag_skip) (rw (k, tag_skip) refl))
tag_skip-leaves tag (suc outer) leaves text at e h b k = let some : inner_behind Closes (suc outer) ≡ None =
    rw k at b in absurd (cc)

pub tag_skip-ends : (tag : List ℕ) (inner leaves : ℕ) (text : List ℕ) (at : ℕ) (e : Element)
    → reading_at text at ≡ Some (Whole e) →
    inner_behind (tag_bracket tag e.kind e.text) inner ≡ None → tag_bracket tag e.kind e.text ≢ Closes →
    tag_skip tag inner leaves (readings text at) ≡ record { to = Some e.next; leaves = leaves }
tag_skip-ends tag inner leaves text at e h b k =
    rw (readings-some text at _ h) (rw (b, tag_skip) (among (tag_bracket tag e.kind e.text) refl))
  where
    among : (t : Bracket) → tag_bracket tag e.kind e.text ≡ t →
        Path Skip (elim t [
          | Closes ↦ tag_skip tag 0 (leaves + 1) (readings text e.next)
          | _ ↦ record {
            to = Some e.next;
            leaves = leaves;
          }
        ]) (record { to = Some e.next; leaves = leaves })
    among Closes f = absurd (k f)
    among Opens f = refl
    among Stops f = refl
    among Passes f = refl
