-- Texts for the registers in the order of their places, with none for some of them.
use Rattle.std.specs.Prelude.{ℕ, ◌≤◌, List, length, map, Option, option_map, option_copied, Vec}
use Rattle.std.specs.Borrow.{Bor}
use Rattle.std.specs.Option.{ForSome}
use Rattle.std.specs.declared.alloc.Global.{Global}
use Rattle.teco_base.specs.declared.TheConstants.{LIMIT}

-- the texts that references show
abbrev pub handed : List (Option (Bor (List ℕ))) → List (Option (List ℕ))
handed texts = map option_copied texts

-- the texts that vectors hold
abbrev pub owned : List (Option (Vec ℕ Global)) → List (Option (List ℕ))
owned texts = map (option_map (λ text. text.items)) texts

-- there is no text, or one that is not too long
abbrev pub IsTextWithinLimit : Option (Bor (List ℕ)) → Type 0
IsTextWithinLimit text = ForSome text (λ shown. length shown.now ≤ LIMIT)
