-- What stands at the front of a text with claims.
use Rattle.std.specs.Prelude.{◌≡◌, ◌≢◌, ℕ, List, [], ◌∷◌, codes, Bool, true, false, ◌||◌, ⊤, ◌==◌}
use Rattle.std.specs.Prelude.{if◌then◌else◌, Option, Some, None}
use Rattle.std.specs.Char.{is_ascii_digit}
use Rattle.teco_base.specs.Bytes.{is_among}
use Rattle.teco_claims.specs.declared.term.ClaimSingle.{ClaimSingle}
use Rattle.teco_claims.specs.declared.term.ClaimSingle.TheVariants.{Steps, Pointer, Size, Held, LineEnd, LineStart}
use Rattle.teco_claims.specs.declared.term.ClaimSingle.TheVariants.{LastLength, Typed, EntryHeld}
use Rattle.teco_poly.specs.Reading.{EndsNumber}

-- the bytes that numbers and powers go on with
abbrev pub goes_on : ℕ → Bool
goes_on c = is_ascii_digit c || is_among c (codes "/N^")

-- none of these stands at the front
abbrev pub EndsPart : List ℕ → Type 0
EndsPart [] = ⊤
EndsPart (c ∷ rest) = goes_on c ≡ false

-- is it a space or an LF?
abbrev pub is_end : ℕ → Bool
is_end c = is_among c (32 ∷ 10 ∷ [])

-- one of these stands at the front
abbrev pub EndsTerm : List ℕ → Type 0
EndsTerm [] = ⊥
EndsTerm (c ∷ rest) = is_end c ≡ true

-- no claim stands at the front
abbrev pub EndsClaims : List ℕ → Type 0
EndsClaims [] = ⊤
EndsClaims (c ∷ rest) = c ≢ 48

-- does a byte that passes stand at the front?
abbrev pub begins : (ℕ → Bool) → List ℕ → Bool
begins test [] = false
begins test (c ∷ rest) = test c

-- Behind a coefficient no digit stands where it may be left out, and else neither a digit nor `/` nor `*`.
abbrev pub EndsFactor : Bool → List ℕ → Type 0
EndsFactor true rest = EndsNumber rest
EndsFactor false rest = EndsTerm rest

-- the measure that has a letter to itself
abbrev pub single_of : ℕ → Option ClaimSingle
single_of letter =
    if letter == 99 then Some Steps
    else if letter == 112 then Some Pointer
    else if letter == 122 then Some Size
    else if letter == 104 then Some Held
    else if letter == 101 then Some LineEnd
    else if letter == 115 then Some LineStart
    else if letter == 109 then Some LastLength
    else if letter == 111 then Some Typed
    else if letter == 105 then Some EntryHeld
    else None
