-- What the symbols of a claim stand for: each for the measure in whose place a case has its form.
use Rattle.std.specs.Prelude.{ℕ, zero, suc, ◌-◌, ◌/◌, ◌%◌, pos, nat_lt, if◌then◌else◌, unwrap_or}
use Rattle.teco_linear.specs.Form.{Valuation}
use Rattle.teco_rows.specs.declared.measure.Single.{Single}
use Rattle.teco_rows.specs.declared.measure.Single.TheVariants.{Steps, Pointer, Size, Held, LineEnd, LineStart}
use Rattle.teco_rows.specs.declared.measure.Single.TheVariants.{LastLength, CodeHere, CodeBefore, Typed, EntryHeld}
use Rattle.teco_rows.specs.declared.measure.Family.{Family}
use Rattle.teco_rows.specs.declared.measure.Family.TheVariants.{Number, Length, Turns, PushedNumber, PushedLength}
use Rattle.teco_rows.specs.declared.measure.Family.TheVariants.{First, Value}
use Rattle.teco_rows.specs.declared.measure.Measure.{Measure}
use Rattle.teco_rows.specs.declared.measure.Measure.TheVariants.{One, Each}
use Rattle.teco_rows.specs.States.{Point, measures_of}

-- the measures that a state has once, by their places
abbrev pub single_of : ℕ → Single
single_of zero = Steps
single_of (suc zero) = Pointer
single_of (suc (suc zero)) = Size
single_of (suc (suc (suc zero))) = Held
single_of (suc (suc (suc (suc zero)))) = LineEnd
single_of (suc (suc (suc (suc (suc zero))))) = LineStart
single_of (suc (suc (suc (suc (suc (suc zero)))))) = LastLength
single_of (suc (suc (suc (suc (suc (suc (suc zero))))))) = CodeHere
single_of (suc (suc (suc (suc (suc (suc (suc (suc zero)))))))) = CodeBefore
single_of (suc (suc (suc (suc (suc (suc (suc (suc (suc zero))))))))) = Typed
single_of k = EntryHeld

-- the families, by theirs
abbrev pub family_of : ℕ → Family
family_of zero = Number
family_of (suc zero) = Length
family_of (suc (suc zero)) = Turns
family_of (suc (suc (suc zero))) = PushedNumber
family_of (suc (suc (suc (suc zero)))) = PushedLength
family_of (suc (suc (suc (suc (suc zero))))) = First
family_of k = Value

-- the measure in a place
abbrev pub measure_of : ℕ → Measure
measure_of k = if nat_lt k 11 then One (single_of k) else Each (family_of ((k - 11) % 7)) ((k - 11) / 7)

-- the number that a symbol is at a state; that of an absent measure is 0
abbrev pub numbers_of : Point → Valuation
numbers_of s k = unwrap_or (measures_of s (measure_of k)) (pos 0)
