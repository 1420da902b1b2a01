-- The edition of the rules by which a certificate is checked.
use Rattle.std.specs.Prelude.{ℕ, zero, suc, ◌==◌, Bool, List, codes, if◌then◌else◌}
use Rattle.std.specs.List.{before_first, after_first}
use Rattle.std.specs.Str.{bytes_eq}
use Rattle.teco_base.specs.declared.bytes.TheConstants.{LF}
use Rattle.teco_console.specs.declared.method.Edition.{Edition}
use Rattle.teco_console.specs.declared.method.Edition.TheVariants.{First, Second}
use Rattle.teco_console.specs.declared.method.Method.{Method}
use Rattle.teco_console.specs.declared.method.Method.TheVariants.{Only, Best}

abbrev pub is_end : ℕ → Bool
is_end byte = byte == LF

-- is this the line by which a certificate says that it is of the second edition?
abbrev pub names_second : List ℕ → Bool
names_second line = bytes_eq line (codes "rules 3")

-- the edition that the lines at the front name, so many at most
abbrev pub edition_within : ℕ → List ℕ → Edition
edition_within zero text = First
edition_within (suc lines) text =
    if names_second (before_first is_end text) then Second else edition_within lines (after_first is_end text)

-- a certificate is of the second edition if one of its first four lines says so, and else of the first
abbrev pub edition_of : List ℕ → Edition
edition_of text = edition_within 4 text

-- by a method: the edition that is asked for, or where each is tried the one that the certificate names
abbrev pub edition_by : Method → List ℕ → Edition
edition_by (Only asked) text = asked
edition_by Best text = edition_of text
