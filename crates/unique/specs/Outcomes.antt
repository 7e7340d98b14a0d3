-- What it is that a contract allows one outcome only. A contract is taken as what it tells a caller, which the checker makes from the
-- function's own `ensures`.
use Rattle.std.specs.Prelude.{◌≡◌}
use contract.Lifetimes.{Lfts}
use denote.Triple.Entry.{Args, Res}
use denote.Triple.Clauses.{Ended, Lasts, AtExit, at_exit}

-- what is told of a call with these arguments, this answer, and the arguments as they are behind the call
abbrev pub Told : Ended → Type 1
Told T = (κs : Lfts T.signature.lifetimes) → Args T.signature κs → Res T.signature κs → AtExit T κs → Type 0

-- the answer, and the last value of each argument that is lent to write
abbrev pub Outcome : (T : Ended) (κs : Lfts T.signature.lifetimes) → Args T.signature κs → Type 0
Outcome T κs a = Res T.signature κs × Lasts T κs a

-- the outcome of a call with arguments a is as told
abbrev pub Allows : (T : Ended) → Told T → (κs : Lfts T.signature.lifetimes) (a : Args T.signature κs) → Outcome T κs a → Type 0
Allows T told κs a x = told κs a x.0 (at_exit T κs a x.1)

-- two outcomes that are as told are equal
pub record OneOutcome (T : Ended) (told : Told T) : Type 0 where
  pub equal :
      (κs : Lfts T.signature.lifetimes) (a : Args T.signature κs) (x y : Outcome T κs a)
      → Allows T told κs a x
      → Allows T told κs a y
      → x ≡ y
