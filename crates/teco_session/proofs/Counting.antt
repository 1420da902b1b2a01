-- When the host's count of failures rises in a session.
use Rattle.teco_session.proofs.Prelude.{◌≡◌, ℕ, ◌≤◌, Bool, true, false, ◌||◌, Result, Ok, Err, refl, sym, ◌∙◌, arith}
use Rattle.teco_session.proofs.Prelude.{IfOk, StopCounts, code_of, is_code, Stop, Said, SessionFault, Done}
use Rattle.teco_model.specs.declared.stop.Stop.TheVariants as stop_kind
use Rattle.teco_session.specs.Sessions.{SessionCounts}

-- from f to g, and only where a code came
pub record RisesCoded (coded : Bool) (f g : ℕ) : Type 0 where
  pub rises : f ≤ g
  pub plain : coded ≡ false → g ≡ f

pub stop-rises : (stop : Stop) (f g : ℕ) → StopCounts stop f g → RisesCoded (is_code (code_of stop)) f g
stop-rises (stop_kind.Ended n) f g same = record { rises = omega arith; plain = λ _. same }
stop-rises (stop_kind.Exit n) f g same = record { rises = omega arith; plain = λ _. same }
stop-rises (stop_kind.Error c) f g same = record { rises = omega arith; plain = λ _. same }
stop-rises stop_kind.Limit f g same = record { rises = omega arith; plain = λ _. same }
stop-rises stop_kind.Memory f g same = record { rises = omega arith; plain = λ _. same }
stop-rises (stop_kind.HostFault fault) f g more = record { rises = omega arith; plain = λ e. cc }

-- as what was said of it tells
pub said-counts : (coded : Bool) (f g : ℕ) (line : Result Bool SessionFault) (exit : Bool)
    (result : Result Done SessionFault) → RisesCoded coded f g → IfOk line (λ l. l ≡ coded) → Said line exit result
    → SessionCounts result f g
said-counts coded f g (Ok line) exit result rises told said = rw said (rises.rises, λ e. rises.plain (sym told ∙ e))
said-counts coded f g (Err fault) exit result rises told said = rw said rises.rises

-- behind what came before
pub behind-rises : (coded line : Bool) (f k g : ℕ) → RisesCoded coded f k → k ≤ g → (line ≡ false → g ≡ k)
    → RisesCoded (coded || line) f g
behind-rises true line f k g first more plain = record { rises = omega (arith, first.rises); plain = λ e. cc }
behind-rises false line f k g first more plain =
    record { rises = omega (arith, first.rises); plain = λ e. plain e ∙ first.plain refl }
