use Rattle.std.proofs.Common.{◌≡◌, ◌^◌, ◌<◌, ◌≤◌, true, length, drop}
use Rattle.std.specs.Fmt.{digits}
use Rattle.teco_base.proofs.Digits.{digits_before}
use Rattle.teco_base.proofs.number_text.NumberText.digits.Given as goal

-- what is left fits before the digits that are written, and with these it is the whole number
abbrev pub invariant-loop-rest : goal.invariant-loop-rest
invariant-loop-rest l = record {
  some : 0 < l.start;
  within : l.start ≤ 11;
  buffer : length l.buffer ≡ 11;
  fits : l.rest < 8 ^ l.start;
  whole : digits_before l.start l.base l.rest (drop l.start l.buffer) ≡ digits l.base true l.n;
}

abbrev pub decreases-loop-rest : goal.decreases-loop-rest
decreases-loop-rest l = l.start
