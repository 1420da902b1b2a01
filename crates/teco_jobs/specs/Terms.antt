-- On which terms the runs of a macro begin.
use Rattle.std.specs.Prelude.{◌≡◌, ◌↔◌, ⊤, ℕ, ◌+◌, Bool, true, Option, Some, None}
use Rattle.teco_jobs.specs.declared.watching.Terms.{Terms}
use Rattle.teco_console.specs.Premise.{IsWithin}

-- at an N that is told the promise holds
abbrev pub IsPromised : Terms → Option ℕ → Type 0
IsPromised terms None = ⊥
IsPromised terms (Some n) = IsWithin terms.bound.premise.last n

-- what is held, and what is unread at most, if that is told
abbrev pub n_at_most : ℕ → Option ℕ → Option ℕ
n_at_most held None = None
n_at_most held (Some most) = Some (held + most)

-- nothing stays unread, as far as that is told
abbrev pub IsReadWhole : Option ℕ → Type 0
IsReadWhole None = ⊤
IsReadWhole (Some unread) = unread ≡ 0

-- Where the terms are strict the promise holds at an N that is told; where all is wanted nothing stays unread.
pub record Admits (terms : Terms) (held : ℕ) (most : Option ℕ) : Type 0 where
  pub promised : terms.is_strict ≡ true → IsPromised terms (n_at_most held most)
  pub whole : terms.wants_all ≡ true → IsReadWhole most

-- yes is said just then
abbrev pub Answers : Terms → ℕ → Option ℕ → Bool → Type 0
Answers terms held most answer = (answer ≡ true) ↔ Admits terms held most
