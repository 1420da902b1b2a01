-- Scripts: files whose first line names the program that runs them.
use Rattle.std.specs.Prelude.{ℕ, suc, Bool, false, ◌&&◌, ◌==◌, if◌then◌else◌, List, [], ◌∷◌}
use Rattle.teco_base.specs.declared.bytes.TheConstants.{LF}
use Rattle.teco_source.specs.declared.script.TheConstants.{NUMBER_SIGN, EXCLAMATION}

-- whether a file begins with #!
abbrev pub is_script : List ℕ → Bool
is_script [] = false
is_script (a ∷ []) = false
is_script (a ∷ b ∷ rest) = a == NUMBER_SIGN && b == EXCLAMATION

-- how long the first line is, with its end
abbrev pub first_line : List ℕ → ℕ
first_line [] = 0
first_line (c ∷ rest) = if c == LF then 1 else suc (first_line rest)

-- where the text of a file begins: behind the first line of a script
abbrev pub text_begin : List ℕ → ℕ
text_begin file = if is_script file then first_line file else 0
