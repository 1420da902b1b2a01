-- What the claims of a certificate say of a state.
use Rattle.std.specs.Prelude.{◌≡◌, ℕ, ◌*◌, ◌^◌, ◌<◌, ℤ, pos, ◌+ℤ◌, ◌-ℤ◌, ◌*ℤ◌, ◌≤ℤ◌, List, [], ◌∷◌, Bool, true, false}
use Rattle.std.specs.Prelude.{Option, Some, None, unwrap_or}
use Rattle.std.specs.List.{All, Any}
use Rattle.teco_claims.specs.declared.term.ClaimMeasure.{ClaimMeasure}
use Rattle.teco_claims.specs.declared.term.ClaimMeasure.TheVariants as claim
use Rattle.teco_claims.specs.declared.term.ClaimSingle.{ClaimSingle}
use Rattle.teco_claims.specs.declared.term.ClaimSingle.TheVariants as claim_single
use Rattle.teco_claims.specs.declared.term.ClaimTerm.{ClaimTerm}
use Rattle.teco_claims.specs.Values.{AtCut}
use Rattle.teco_paths.specs.Claims.{ClaimHolds, IsSaid}
use Rattle.teco_paths.specs.declared.cut.CutState.{CutState}
use Rattle.teco_rows.specs.declared.measure.Family.TheVariants as family
use Rattle.teco_rows.specs.declared.measure.Measure.{Measure}
use Rattle.teco_rows.specs.declared.measure.Measure.TheVariants.{One, Each}
use Rattle.teco_rows.specs.declared.measure.Single.{Single}
use Rattle.teco_rows.specs.declared.measure.Single.TheVariants as single
use Rattle.teco_rows.specs.States.{Point, from_end, measures_of}
use Rattle.teco_verifier.specs.expansion.Node.{Node, numbered}

-- a measure that a state has once, as claims name it
abbrev pub single_meant : ClaimSingle → Single
single_meant claim_single.Steps = single.Steps
single_meant claim_single.Pointer = single.Pointer
single_meant claim_single.Size = single.Size
single_meant claim_single.Held = single.Held
single_meant claim_single.LineEnd = single.LineEnd
single_meant claim_single.LineStart = single.LineStart
single_meant claim_single.LastLength = single.LastLength
single_meant claim_single.Typed = single.Typed
single_meant claim_single.EntryHeld = single.EntryHeld

-- A claim at a node speaks of a measure; of an iteration that is open there by the number of its <.
abbrev pub SpeaksOf : Node → ClaimMeasure → Measure → Type 0
SpeaksOf node (claim.One which) m = m ≡ One (single_meant which)
SpeaksOf node (claim.Number register) m = m ≡ Each family.Number register
SpeaksOf node (claim.Length register) m = m ≡ Each family.Length register
SpeaksOf node (claim.Turns begin) m =
    (i : ℕ) × (from_end node.stand.iterations i ≡ Some begin) × (m ≡ Each family.Turns i)
SpeaksOf node (claim.PushedNumber pair) m = m ≡ Each family.PushedNumber pair
SpeaksOf node (claim.PushedLength pair) m = m ≡ Each family.PushedLength pair

-- the number that a term speaks of: 1 where it names no measure, and 0 of one that the state does not have
abbrev pub IsNumber : Node → Point → Option ClaimMeasure → ℤ → Type 0
IsNumber node s None number = number ≡ pos 1
IsNumber node s (Some measure) number =
    (m : Measure) × SpeaksOf node measure m × (number ≡ unwrap_or (measures_of s m) (pos 0))

-- added, or taken away
abbrev pub signed : Bool → ℕ → ℤ
signed false number = pos number
signed true number = pos 0 -ℤ pos number

-- A term, taken so many times: a whole number, since its divisor divides that.
pub record IsTimes (node : Node) (n : ℕ) (s : Point) (times : ℕ) (term : ClaimTerm) (value : ℤ) : Type 0 where
  pub parts : ℕ
  pub whole : parts * term.coefficient.divisor ≡ times
  pub number : ℤ
  pub spoken : IsNumber node s term.measure number
  pub is :
      value ≡ signed term.is_negative (parts * term.coefficient.numerator) *ℤ (pos (n ^ term.power) *ℤ number)

-- the sum of so many times each term
abbrev pub Sums : Node → ℕ → Point → ℕ → List ClaimTerm → ℤ → Type 0
Sums node n s times [] sum = sum ≡ pos 0
Sums node n s times (term ∷ terms) sum =
    (value : ℤ) × (rest : ℤ) × IsTimes node n s times term value × Sums node n s times terms rest
    × (sum ≡ value +ℤ rest)

-- A claim is so: its sum, taken so many times that all terms are whole, is at least 0.
pub record IsSo (node : Node) (n : ℕ) (s : Point) (terms : List ClaimTerm) : Type 0 where
  pub times : ℕ
  pub some : 0 < times
  pub sum : ℤ
  pub sums : Sums node n s times terms sum
  pub least : pos 0 ≤ℤ sum

-- all claims of a cut point are
abbrev pub AreSo : List Node → ℕ → Point → AtCut → Type 0
AreSo nodes n s cut =
    (node : Node) → numbered nodes cut.point ≡ Some node → All (IsSo node n s) cut.claims

-- What claims say of a state at a node: where cut points are there, the claims of one of them are so.
abbrev pub SaysClaims : List Node → List AtCut → ℕ → ℕ → Point → Type 0
SaysClaims nodes cuts n number s =
    Any (λ cut. cut.point ≡ number) cuts → Any (λ cut. (cut.point ≡ number) × AreSo nodes n s cut) cuts

-- a cut point is made of claims: a state that is as it says is as they say
pub record IsMadeOf (nodes : List Node) (cut : AtCut) (made : CutState) : Type 0 where
  pub there : made.number ≡ cut.point
  pub means : (n : ℕ) (s : Point) → All (ClaimHolds n s) made.claims.items → AreSo nodes n s cut

-- what is said at cut points is what claims say
abbrev pub SayClaims : List Node → List AtCut → List CutState → Type 0
SayClaims nodes cuts made =
    (n number : ℕ) (s : Point) → IsSaid made n number s → SaysClaims nodes cuts n number s
