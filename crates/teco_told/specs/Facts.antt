-- What is told of a macro at once, and what that says of each text that a run of it leaves.
use Rattle.std.specs.Prelude.{ℕ, List, false, None, IfSome, IsTrue}
use Rattle.teco_change_policies.specs.Laws.{OthersStay, others}
use Rattle.teco_change_policies.specs.declared.facts.Facts.{Facts}
use Rattle.teco_law_changes.specs.Runs.{IsGot}
use Rattle.teco_policy.specs.Lines.{EndAlike}
use Rattle.teco_policy.specs.Policies.{Keeps}
use Rattle.teco_policy.specs.declared.policy.Policy.TheVariants as policy
use Rattle.teco_promise.specs.Promise.{Promise}

-- each fact that is told is so of two texts
pub record AreSo (facts : Facts) (old new : List ℕ) : Type 0 where
  pub adds_nothing : IsTrue facts.adds_nothing → Keeps policy.AddNothing old new
  pub takes_nothing : IsTrue facts.takes_nothing → Keeps policy.KeepText old new
  pub keeps_line_ends : IsTrue facts.keeps_line_ends → EndAlike old new
  pub keeps_lines : IsTrue facts.keeps_lines → Keeps policy.KeepLines old new
  pub puts_only : IfSome facts.puts_only (λ characters. Keeps (policy.AddOnly characters) old new)
  pub takes_only : IfSome facts.takes_only (λ characters. Keeps (policy.TakeOnly characters) old new)
  pub changes_only_with : IfSome facts.changes_only_with (λ wanted. Keeps (others wanted.items) old new)
  pub leaves_lines_without : IfSome facts.leaves_lines_without (λ wanted. OthersStay wanted.items old new)

-- Whatever is told is so of each text that is got from another.
abbrev pub HoldOf : Promise → Facts → Type 0
HoldOf promise facts = (old new : List ℕ) → IsGot promise.library promise.entry old new → AreSo facts old new

-- nothing is told
abbrev pub nothing_told : Facts
nothing_told = record {
  adds_nothing = false;
  takes_nothing = false;
  keeps_line_ends = false;
  keeps_lines = false;
  puts_only = None;
  takes_only = None;
  changes_only_with = None;
  leaves_lines_without = None;
}
