-- The law: where each outcome that a contract allows is a given one, two of them are equal.
use mathlib.Core.Path.{◌≡◌, sym, ◌∙◌}
use contract.Lifetimes.{Lfts}
use denote.Triple.Entry.{Args}
use denote.Triple.Clauses.{Ended}
use Rattle.unique.specs.Outcomes.{Told, Outcome, Allows, OneOutcome}

pub one : {T : Ended} {told : Told T} {given : (κs : Lfts T.signature.lifetimes) (a : Args T.signature κs) → Outcome T κs a}
    → ((κs : Lfts T.signature.lifetimes) (a : Args T.signature κs) (x : Outcome T κs a) → Allows T told κs a x → x ≡ given κs a)
    → OneOutcome T told
one fixed = record { equal = λ κs a x y p q. fixed κs a x p ∙ sym (fixed κs a y q) }
