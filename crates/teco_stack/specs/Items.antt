-- The items of a stack, from the top down.
use Rattle.std.specs.Prelude.{List, [], ◌∷◌, Option, Some, None}
use Rattle.std.specs.declared.alloc.Global.{Global}
use Rattle.std.specs.declared.rc.Rc.{Rc}
use Rattle.teco_stack.specs.declared.stack.StackLink.{StackLink}

abbrev pub items : {T : Type 0} → Option (Rc (StackLink T) Global) → List T
items None = []
items (Some link) = link.value.item ∷ link.value.below
