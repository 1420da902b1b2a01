-- What the constant is.
use Rattle.std.specs.Prelude.{◌≡◌, refl}
use Rattle.teco_options.specs.declared.editing.TheConstants.{NAME}

-- how many bytes the name of a file may have
pub name : NAME ≡ 4096
name = refl
