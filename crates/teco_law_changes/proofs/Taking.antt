-- What arguments are taken.
use Rattle.std.proofs.Common.{◌≡◌, ℤ, refl, sym, ap, ◌∙◌, Option, Some, None, Result, Ok}
use Rattle.teco_base.specs.declared.code.Code.{Code}
use Rattle.teco_model.proofs.Chains.{bound}
use Rattle.teco_model.specs.Arguments.{arguments_from, arguments_of, final_value}
use Rattle.teco_model.specs.declared.arguments.Level.{Level}
use Rattle.teco_model.specs.declared.arguments.Taken.{Taken}

value_taken : (first value : Option ℤ) (taken : Taken) → arguments_from first value ≡ Ok taken → taken.value ≡ value
value_taken (Some m) (Some n) taken is = let same : taken.value ≡ Some n = cc in same
value_taken (Some m) None taken is = absurd cc
value_taken None value taken is = let same : taken.value ≡ value = cc in same

first_taken : (first value : Option ℤ) (taken : Taken) → arguments_from first value ≡ Ok taken → taken.first ≡ first
first_taken (Some m) (Some n) taken is = let same : taken.first ≡ Some m = cc in same
first_taken (Some m) None taken is = absurd cc
first_taken None value taken is = let same : taken.first ≡ None = cc in same

module _ (level : Level) (taken : Taken) (is : arguments_of level ≡ Ok taken) where
  pub taken_is : final_value level ≡ Ok taken.value
  taken_is =
      let b = bound (final_value level) (λ value. arguments_from level.first value) taken is in
      b.was ∙ ap Ok (sym (value_taken level.first b.before taken b.gives))

  pub first_is : taken.first ≡ level.first
  first_is =
      let b = bound (final_value level) (λ value. arguments_from level.first value) taken is in
      first_taken level.first b.before taken b.gives

  pub value_is : (value : Option ℤ) → final_value level ≡ Ok value → taken.value ≡ value
  value_is value ends =
      let same : ◌≡◌ {A = Result (Option ℤ) Code} (Ok taken.value) (Ok value) = sym taken_is ∙ ends in cc

pub ends_so : (level : Level) (value : Option ℤ) → level.operator ≡ None → level.value ≡ value
    → final_value level ≡ Ok value
ends_so level value none is = rw (none, is) refl
