-- Tables of what is known.
use Rattle.std.proofs.Common.{◌≡◌, ◌<◌, ◌≤◌, ℕ, zero, suc, List, [], length, ◌-◌, slice_get, arith}
use Rattle.std.proofs.Common.{refl, sym, subst}
use Rattle.std.specs.Prelude.{unwrap_or}
use Rattle.teco_changes.specs.Arguments.{Implies, IsSo, behind}
use Rattle.teco_changes.specs.declared.argument.NumericArgument.{NumericArgument}
use Rattle.teco_changes.specs.declared.argument.NumericArgument.TheVariants as known
use Rattle.teco_law_changes.specs.Runs.{AreKnown}
use Rattle.teco_told.specs.Table.{before_in}
use Rattle.teco_told.proofs.Ways.{AgreeTo, all_agree}
use Rattle.teco_verifier.specs.expansion.Node.{Node}

pub entry : (table : List NumericArgument) (n : ℕ) → 0 < n
    → before_in table n ≡ unwrap_or (slice_get table (n - 1)) known.Unknown
entry table zero some = absurd (omega (arith, some))
entry table (suc k) some = let e : suc k - 1 ≡ k = omega arith in rw e refl

no_entry : (number : ℕ) → before_in [] number ≡ known.Unknown
no_entry zero = refl
no_entry (suc k) = refl

pub nothing_known : (nodes : List Node) → AreKnown nodes (before_in [])
nothing_known nodes = record {
  first = λ level is. tt;
  goes = λ number node way target at taken level is.
      subst (λ b. IsSo b level) (sym (no_entry target)) tt;
}

-- a way leads to no more than is known behind its node
abbrev pub LeadsBy : List NumericArgument → ℕ → Node → ℕ → ℕ → Type 0
LeadsBy table number node way target =
    Implies (behind node.element (before_in table number)) (before_in table target)

pub all_known : (nodes : List Node) (table : List NumericArgument) (n : ℕ)
    → Implies known.Complete (before_in table 1) → AgreeTo nodes (LeadsBy table) n → length nodes ≤ n
    → AreKnown nodes (before_in table)
all_known nodes table n first each all = record {
  first = first;
  goes = λ number node way target at taken.
      all_agree nodes (LeadsBy table) n each all number node way target at taken;
}
