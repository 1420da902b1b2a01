use Rattle.std.proofs.Common.{◌≡◌, ◌+◌, fold, take}
use Rattle.teco_claimed.specs.Checksum.{with_symbol}
use Rattle.teco_claimed.proofs.checksum.with_text.Given as goal

-- the bytes before this one are behind the sum
abbrev pub invariant-loop-byte : goal.invariant-loop-byte
invariant-loop-byte l = l.with_bytes ≡ fold with_symbol (with_symbol l.sum (256 + l.place)) (take l.byte-index l.text)
