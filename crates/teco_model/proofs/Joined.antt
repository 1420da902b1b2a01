-- Two pieces of bytes are of bytes together.
use Rattle.teco_model.proofs.Prelude.{ℕ, List, [], ◌∷◌, ◌++◌, AreBytes}

pub bytes_joined : (xs ys : List ℕ) → AreBytes xs → AreBytes ys → AreBytes (xs ++ ys)
bytes_joined [] ys h i = i
bytes_joined (x ∷ xs) ys h i = (h.0, bytes_joined xs ys h.1 i)
