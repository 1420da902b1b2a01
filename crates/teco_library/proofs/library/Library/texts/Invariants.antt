use Rattle.std.proofs.Common.{◌≡◌, ℕ, ◌<◌, ◌≤◌, length, get_or, None}
use Rattle.std.specs.Option.{option_copied, ForSome}
use Rattle.teco_base.specs.declared.TheConstants.{LIMIT, REGISTERS}
use Rattle.teco_library.proofs.library.Library.texts.Given as goal

abbrev pub invariant-loop-place : goal.invariant-loop-place
invariant-loop-place l = record {
  count : 0 < l.place → length l.self.texts ≡ REGISTERS;
  long : length l.texts ≡ REGISTERS;
  shown : (k : ℕ) → k < l.place → option_copied (get_or l.texts k None) ≡ get_or l.self.texts k None;
  within : (k : ℕ) → k < l.place → ForSome (get_or l.texts k None) (λ shown. length shown.now ≤ LIMIT);
}
