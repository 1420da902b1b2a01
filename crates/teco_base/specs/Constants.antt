-- What the constants are.
use Rattle.std.specs.Prelude.{◌≡◌, refl}
use Rattle.teco_base.specs.declared.TheConstants.{LIMIT, REGISTERS}
use Rattle.teco_base.specs.declared.bytes.TheConstants.{TAB, LF, VT, FF, CR, ESC, SPACE, QUOTE}

-- how many characters a text may have
pub limit : LIMIT ≡ 268435456
limit = refl

-- A to Z, and 0 to 9
pub registers : REGISTERS ≡ 36
registers = refl

-- the bytes that have names
pub tab : TAB ≡ 9
tab = refl

pub line_feed : LF ≡ 10
line_feed = refl

pub vertical_tab : VT ≡ 11
vertical_tab = refl

pub form_feed : FF ≡ 12
form_feed = refl

pub carriage_return : CR ≡ 13
carriage_return = refl

pub escape : ESC ≡ 27
escape = refl

pub space : SPACE ≡ 32
space = refl

pub quote : QUOTE ≡ 34
quote = refl
