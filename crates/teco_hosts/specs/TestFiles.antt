-- What a host for tests shows, and where it fails.
use Rattle.std.specs.Prelude.{ℕ, ◌≡◌, ◌+◌, ◌-◌, ◌<◌, Bool, true, false, ◌&&◌, ◌==◌, if◌then◌else◌, Result, Ok, Err}
use Rattle.teco_hosts.specs.MemFiles.{MemFiles}
use Rattle.teco_hosts.specs.declared.test_host.HostCall.{HostCall}
use Rattle.teco_hosts.specs.declared.test_host.HostCall.TheVariants.{OpenIn, Read, OpenOut, Write, CloseOut, DropOut}

-- The host that has the files; how many bytes a call moves at most; the kind of call that fails, and how many of
-- them there are up to the one that does, or 0 where none will; and how many of its own failures there were.
pub record TestFiles : Type 0 where
  pub mem : MemFiles
  pub piece : ℕ
  pub call : HostCall
  pub left : ℕ
  pub failed : ℕ

-- how many calls have failed, its own and those of the host that has the files
abbrev pub failures_of : TestFiles → ℕ
failures_of files = files.mem.failures + files.failed

-- are two calls of one kind?
abbrev pub same_call : HostCall → HostCall → Bool
same_call OpenIn OpenIn = true
same_call Read Read = true
same_call OpenOut OpenOut = true
same_call Write Write = true
same_call CloseOut CloseOut = true
same_call DropOut DropOut = true
same_call a b = false

-- is the next call of this kind the one that fails?
abbrev pub is_due : HostCall → TestFiles → Bool
is_due call files = files.left == 1 && same_call files.call call

-- a call of this kind is counted
abbrev pub after_call : HostCall → TestFiles → TestFiles
after_call call files =
    record files { left = if same_call files.call call then files.left - 1 else files.left }

-- A call of this kind fails where it is due, and where that of the host that has the files fails; nowhere else. It
-- is counted.
pub record Named (call : HostCall) (old new : TestFiles) : Type 0 where
  pub left : new.left ≡ (after_call call old).left
  pub call_stays : new.call ≡ old.call
  pub piece_stays : new.piece ≡ old.piece

abbrev pub FailsAsNamed : {X E : Type 0} → HostCall → TestFiles → TestFiles → Result X E → Type 0
FailsAsNamed call old new (Ok _) = (is_due call old ≡ false) × Named call old new
FailsAsNamed call old new (Err _) = (is_due call old ≡ false → old.mem.failures < new.mem.failures)
    × Named call old new
