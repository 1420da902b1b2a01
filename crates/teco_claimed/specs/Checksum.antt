-- The checksum of the texts that a macro runs, by which a certificate says whose it is. It is no secret: it tells an
-- edit, and nothing keeps another text from having the same.
use Rattle.std.specs.Prelude.{ℕ, ◌+◌, ◌*◌, ◌%◌, List, ◌∷◌, [], filter, flat_map, fold, Bool, ◌==◌, unwrap_or}
use Rattle.std.specs.List.{list_any, range_with_len}
use Rattle.teco_base.specs.declared.TheConstants.{REGISTERS}
use Rattle.teco_model.specs.Macros.{Library, macro}
use Rattle.teco_verifier.specs.expansion.Node.{Node}

-- a sum, with a symbol behind it: a polynomial of the symbols, by a prime of 32 bits
unfoldable pub with_symbol : ℕ → ℕ → ℕ
with_symbol sum symbol = (sum * 293 + symbol + 1) % 4294967291

-- the symbols of a text: one of its register, which is no byte, and then its bytes
abbrev pub symbols_of : Library → ℕ → List ℕ
symbols_of library register = (256 + register) ∷ unwrap_or (macro library register) []

-- does a node stand in the text of this register?
abbrev pub is_run : List Node → ℕ → Bool
is_run nodes register = list_any (λ (node : Node). node.register == register) nodes

-- the registers in whose texts nodes stand, in their order
abbrev pub registers_run : List Node → List ℕ
registers_run nodes = filter (is_run nodes) (range_with_len 0 REGISTERS)

-- the checksum of the texts in which nodes stand
unfoldable pub checksum_of : Library → List Node → ℕ
checksum_of library nodes = fold with_symbol 0 (flat_map (symbols_of library) (registers_run nodes))
