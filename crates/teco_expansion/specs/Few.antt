-- Lists of a few, as lists.
use Rattle.std.specs.Prelude.{List, take, reverse}
use Rattle.teco_expansion.specs.declared.few.OpenList.{OpenList}

abbrev pub listed : {T : Type 0} → OpenList T → List T
listed few = reverse (take few.len few.items)
