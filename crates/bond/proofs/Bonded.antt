-- A number of bonded slots, or none, and the refusal that stands for none. Assumes nothing.
use Prim.Native.Nat.{ℕ}
use mathlib.Core.Path.{◌≡◌, refl, sym, ap, ◌∙◌}
use mathlib.Core.Bool.{true, false, not}
use Rattle.std.specs.Prelude.{Result, Ok, Err, Option, Some, None, is_some, unwrap_or}
use Rattle.std.specs.Option.{ok_or}
use Rattle.std.specs.Result.{result_ok}
use Rattle.refusals.specs.declared.Refusal.{Refusal}
use Rattle.refusals.specs.Refusals.{number, answer}

module _ (bonded : Option ℕ) (asked : Result ℕ Refusal) (e : asked ≡ ok_or bonded Refusal.UnavailableStream) where
  back : result_ok asked ≡ bonded
  back = ap result_ok e ∙ by_case bonded
    where
      by_case : (o : Option ℕ) → result_ok (ok_or o Refusal.UnavailableStream) ≡ o
      by_case None = refl
      by_case (Some n) = refl

  module _ (why : Refusal) (w : asked ≡ Err why) where
    none : bonded ≡ None
    none = sym back ∙ ap result_ok w

    pub not_bonded : not (is_some bonded) ≡ true
    not_bonded = ap (λ (o : Option ℕ). not (is_some o)) none

    pub by_13 : number why ≡ 13
    by_13 = ap answer (sym w ∙ e ∙ ap (λ (o : Option ℕ). ok_or o Refusal.UnavailableStream) none)

  module _ (n : ℕ) (w : asked ≡ Ok n) where
    some : bonded ≡ Some n
    some = sym back ∙ ap result_ok w

    pub some_bonded : not (is_some bonded) ≡ false
    some_bonded = ap (λ (o : Option ℕ). not (is_some o)) some

    pub bonded_are : unwrap_or bonded 0 ≡ n
    bonded_are = ap (λ (o : Option ℕ). unwrap_or o 0) some
