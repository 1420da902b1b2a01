-- Where the places of a file are for its reader. Lines and columns count from 1, and a column is a byte.
use Rattle.std.specs.Prelude.{ℕ, suc, ◌==◌, if◌then◌else◌, List, [], ◌∷◌, take}
use Rattle.teco_base.specs.declared.bytes.TheConstants.{LF}

pub record Position : Type 0 where
  pub line : ℕ
  pub column : ℕ

-- the position behind a byte: LF ends a line
abbrev pub behind : ℕ → Position → Position
behind c at =
    if c == LF then record { line = suc at.line; column = 1 }
    else record { line = at.line; column = suc at.column }

-- the position behind some bytes
abbrev pub behind_all : List ℕ → Position → Position
behind_all [] at = at
behind_all (c ∷ file) at = behind_all file (behind c at)

-- the position of a place: that behind the bytes before it, the first of which is in line 1 and column 1
abbrev pub position_of : List ℕ → ℕ → Position
position_of file place = behind_all (take place file) (record { line = 1; column = 1 })
