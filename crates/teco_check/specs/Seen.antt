-- The numbers that take a way, as the rules have them.
use Rattle.teco_verifier.specs.facts.Ways as ways
use Rattle.teco_check.specs.declared.transfer.ways.Numbers.{Numbers}
use Rattle.teco_check.specs.declared.transfer.ways.Numbers.TheVariants.{Zero, NotZero, Negative, NotNegative, Positive}
use Rattle.teco_check.specs.declared.transfer.ways.Numbers.TheVariants.{NotPositive, All}

abbrev pub seen : Numbers → ways.Numbers
seen Zero = ways.Zero
seen NotZero = ways.NotZero
seen Negative = ways.Negative
seen NotNegative = ways.NotNegative
seen Positive = ways.Positive
seen NotPositive = ways.NotPositive
seen All = ways.All
