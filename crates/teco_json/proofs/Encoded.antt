-- What is UTF-8, as a test.
use Rattle.std.proofs.Common.{◌≡◌, sym, ℕ, List, true, false}
use Rattle.std.proofs.lemmas.Bool.{false_from_ne_true}
use Rattle.std.proofs.lemmas.Str.{IsUtf8-from_is_utf8, is_utf8-from_IsUtf8}
use Rattle.std.specs.Str.{IsUtf8, is_utf8}

pub of_text : (bytes : List ℕ) → IsUtf8 bytes → true ≡ is_utf8 bytes
of_text bytes text = sym (is_utf8-from_IsUtf8 bytes text)

pub of_none : (bytes : List ℕ) → ¬ IsUtf8 bytes → false ≡ is_utf8 bytes
of_none bytes none = sym (false_from_ne_true (is_utf8 bytes) (λ is. none (IsUtf8-from_is_utf8 bytes is)))
