-- What the constants are.
use Rattle.std.specs.Prelude.{◌≡◌, refl}
use Rattle.teco_session.specs.declared.ahead.TheConstants.{CHUNK}
use Rattle.teco_session.specs.declared.sessions.TheConstants.{STRINGS}

-- how many command strings a session takes
pub strings : STRINGS ≡ 4294967296
strings = refl

-- how many bytes are read at a time, at most
pub chunk : CHUNK ≡ 16384
chunk = refl
