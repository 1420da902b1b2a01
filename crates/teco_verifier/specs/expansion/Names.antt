-- The registers of a library that elements name or write.
use Rattle.std.specs.Prelude.{Bool, false, Option, Some, None}
use Rattle.std.specs.Option.{option_map_or}
use Rattle.teco_model.specs.Element.{Element}
use Rattle.teco_model.specs.Macros.{Library, is_macro}
pub use Rattle.teco_model.specs.Names.{named_by_query, named_by_stack, named_by_storage, named_by_command, named_by}
pub use Rattle.teco_model.specs.Names.{written_by_storage, written_by_stack, written_by_command, written_by}

-- does an element name a register of the library?
abbrev pub names_macro : Library → Option Element → Bool
names_macro library None = false
names_macro library (Some e) = option_map_or (is_macro library) (named_by e.kind) false

-- does an element write a register of the library?
abbrev pub writes_macro : Library → Option Element → Bool
writes_macro library None = false
writes_macro library (Some e) = option_map_or (is_macro library) (written_by e.kind) false
