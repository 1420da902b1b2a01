-- What the constant is.
use Rattle.std.specs.Prelude.{◌≡◌, refl}
use Rattle.teco_apply.specs.declared.by_pages.TheConstants.{PAGES}

-- how many pages an edit takes
pub pages : PAGES ≡ 4294967296
pages = refl
