-- The text that is edited, and what was typed of it.
use Rattle.std.specs.Prelude.{ℕ, ◌-◌, List, ◌++◌, length, Bool, true, false}

-- A text with its pointer, how many characters fit it without more memory, and typed bytes: those that were copied, for
-- how many there is room, and whether the text itself was typed behind them.
pub record Screened : Type 0 where
  pub text : List ℕ
  pub pointer : ℕ
  pub room : ℕ
  pub copied : List ℕ
  pub capacity : ℕ
  pub shows : Bool

-- copied bytes, and behind them the text where it was typed last
abbrev pub typed_by : Bool → List ℕ → List ℕ → List ℕ
typed_by true copied text = copied ++ text
typed_by false copied text = copied

-- what was typed
abbrev pub typed_in : Screened → List ℕ
typed_in s = typed_by s.shows s.copied s.text

-- how many bytes may be typed without more memory
abbrev pub spare_in : Screened → ℕ
spare_in s = s.capacity - length (typed_in s)
