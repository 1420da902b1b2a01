-- Terms that forms share: forms that are copies of one another have one list.
use Rattle.std.specs.Prelude.{List, [], Option, Some, None}
use Rattle.std.specs.declared.alloc.Global.{Global}
use Rattle.std.specs.declared.rc.Rc.{Rc}
use Rattle.std.specs.declared.vec.Vec.{Vec}
use Rattle.teco_linear.specs.declared.term.Term.{Term}

-- the terms of a form; one without a list has none
abbrev pub terms_in : Option (Rc (Vec Term Global) Global) → List Term
terms_in None = []
terms_in (Some terms) = terms.value.items
