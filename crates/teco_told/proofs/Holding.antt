-- What is true of the changes that are told of a macro is so of each text that a run of it leaves.
use Rattle.std.proofs.Common.{List, Option, Some, None, Result, Ok, Err}
use Rattle.std.specs.Prelude.{IfOk, IfSome}
use Rattle.std.specs.declared.alloc.AllocError.{AllocError}
use Rattle.teco_change_policies.specs.Facts.{AreTrue}
use Rattle.teco_changes.specs.declared.change.Change.{Change}
use Rattle.teco_change_policies.specs.declared.facts.Facts.{Facts}
use Rattle.teco_law_changes.specs.Runs.{TellsOf}
use Rattle.teco_promise.specs.Promise.{Promise}
use Rattle.teco_told.specs.Facts.{HoldOf, nothing_told}

if_some : {X : Type 0} (P Q : X → Type 0) (o : Option X) → ((x : X) → P x → Q x) → IfSome o P → IfSome o Q
if_some P Q None map is = tt
if_some P Q (Some x) map is = map x is

hold : (promise : Promise) (changes : List Change) (facts : Facts)
    → TellsOf promise.library promise.entry changes → AreTrue changes facts → HoldOf promise facts
hold promise changes facts tells true old new got =
    let does = got changes tells in
    record {
      adds_nothing = λ is. true.adds_nothing is old new does;
      takes_nothing = λ is. true.takes_nothing is old new does;
      keeps_line_ends = λ is. true.keeps_line_ends is old new does;
      keeps_lines = λ is. true.keeps_lines is old new does;
      puts_only = if_some _ _ facts.puts_only (λ characters keep. keep old new does) true.puts_only;
      takes_only = if_some _ _ facts.takes_only (λ characters keep. keep old new does) true.takes_only;
      changes_only_with = if_some _ _ facts.changes_only_with (λ wanted keep. keep old new does) true.changes_only_with;
      leaves_lines_without =
          if_some _ _ facts.leaves_lines_without (λ wanted keep. keep old new does) true.leaves_lines_without;
    }

pub known_hold : (promise : Promise) (changes : List Change) (result : Result Facts AllocError)
    → TellsOf promise.library promise.entry changes → IfOk result (AreTrue changes) → IfOk result (HoldOf promise)
known_hold promise changes (Ok facts) tells true = hold promise changes facts tells true
known_hold promise changes (Err refused) tells true = tt

pub nothing_holds : (promise : Promise) → HoldOf promise nothing_told
nothing_holds promise old new got = record {
  adds_nothing = λ is. absurd (cc);
  takes_nothing = λ is. absurd (cc);
  keeps_line_ends = λ is. absurd (cc);
  keeps_lines = λ is. absurd (cc);
  puts_only = tt;
  takes_only = tt;
  changes_only_with = tt;
  leaves_lines_without = tt;
}
