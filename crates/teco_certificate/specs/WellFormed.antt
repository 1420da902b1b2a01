-- Which fields a certificate may have.
use Rattle.std.specs.Prelude.{◌<◌, ◌^◌, List, IfSome, length}
use Rattle.std.specs.List.{AllAdjacentBelow, AllByRecursion}
use Rattle.teco_base.specs.declared.TheConstants.{REGISTERS}
use Rattle.teco_verifier.specs.certificate.Fields.{Fields}
use Rattle.teco_poly.specs.Reading.{IsPoly}
use Rattle.teco_model.specs.Macros.{IsArgumentRange}
use Rattle.teco_verifier.specs.table.Choices.{LongerText, Chosen}

-- Each part is one that has a text: registers, numbers of 64 bits, ranges of arguments, and polynomials that a
-- `Poly` may be.
pub record IsLongerText (longer : LongerText) : Type 0 where
  pub register : longer.register < REGISTERS
  pub text : IsPoly longer.text

pub record IsChosen (chosen : Chosen) : Type 0 where
  pub begin : chosen.begin < 2 ^ 64
  pub held : IsPoly chosen.held
  pub longer : AllByRecursion IsLongerText chosen.longer

pub record HasText (fields : Fields) : Type 0 where
  pub entry : fields.entry < REGISTERS
  pub argument : IfSome fields.argument IsArgumentRange
  pub commands : IsPoly fields.commands
  pub size : IsPoly fields.size
  pub loops : AllByRecursion IsChosen fields.loops

-- the registers of a line, A to Z and then 0 to 9, and the numbers of the lines rise
abbrev pub StandsBefore : LongerText → LongerText → Type 0
StandsBefore longer next = longer.register < next.register

abbrev pub TextsRise : List LongerText → Type 0
TextsRise texts = AllAdjacentBelow StandsBefore texts (length texts)

abbrev pub AreOfRegisters : List LongerText → Type 0
AreOfRegisters texts = AllByRecursion (λ longer. longer.register < REGISTERS) texts

abbrev pub RegistersRise : Chosen → Type 0
RegistersRise chosen = TextsRise chosen.longer

abbrev pub BeginsBefore : Chosen → Chosen → Type 0
BeginsBefore chosen next = chosen.begin < next.begin

abbrev pub NumbersRise : List Chosen → Type 0
NumbersRise loops = AllAdjacentBelow BeginsBefore loops (length loops)

pub record IsInOrder (loops : List Chosen) : Type 0 where
  pub numbers : NumbersRise loops
  pub registers : AllByRecursion RegistersRise loops

pub record IsWellFormed (fields : Fields) : Type 0 where
  pub parts : HasText fields
  pub order : IsInOrder fields.loops
