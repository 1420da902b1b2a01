-- Lines with names before them.
use Rattle.std.proofs.Common.{◌≡◌, ◌+◌, ◌<◌, ◌≤◌, ap, ℕ, List, [], ◌∷◌, ◌++◌, length, drop, get_or, Bool, not, ◌==◌}
use Rattle.std.proofs.Common.{append_assoc}
use Rattle.std.proofs.lemmas.List.{drop_more, drop_all}
use Rattle.teco_base.specs.declared.bytes.TheConstants.{LF}
use Rattle.teco_edit_parts.specs.Typed.{before_byte, end_of, named_lines}

-- one byte more
pub named_more : (text name typed : List ℕ) (begun : Bool) (i : ℕ) → i < length typed
    → (text ++ (before_byte begun name ++ get_or typed i 0 ∷ []))
    ++ named_lines (not (get_or typed i 0 == LF)) name (drop (i + 1) typed)
    ≡ text ++ named_lines begun name (drop i typed)
named_more text name typed begun i within =
    rw (drop_more typed i 0 within, append_assoc, append_assoc)

-- none more
pub named_all : (name typed : List ℕ) (begun : Bool) (i : ℕ) → length typed ≤ i
    → named_lines begun name (drop i typed) ≡ end_of begun
named_all name typed begun i beyond = ap (λ rest. named_lines begun name rest) (drop_all i typed beyond)
