use Rattle.teco_facts.proofs.Prelude.{arith, ints, to_z-of_z}
use Rattle.teco_facts.proofs.place.least.Goals as goal

pub add-requires : goal.add-requires
add-requires c = omega (arith, ints, c.add-shares.ensures, c.share.ensures, c.share-2.ensures)

pub returns-clause-near : goal.returns-clause-near
returns-clause-near c =
    record {
      low = omega (arith, ints, c.add.ensures, c.add-shares.ensures, c.share.ensures, c.share-2.ensures);
      high = omega (arith, ints, c.add.ensures, c.add-shares.ensures, c.share.ensures, c.share-2.ensures);
    }

pub returns-clause-value : goal.returns-clause-value
returns-clause-value c = grind (arith, to_z-of_z)
