use Rattle.std.specs.Prelude.{◌≡◌, ℕ, ◌+◌, ◌<◌, List, length}
use Rattle.teco_model.specs.Element.{blank_len}

-- behind is what stands behind the first blank of bytes
pub record SkipsBlank (bytes behind : List ℕ) : Type 0 where
  pub blank : blank_len bytes + length behind ≡ blank_len behind + length bytes
  pub shorter : length behind < length bytes
