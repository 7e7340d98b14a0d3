-- `has_more_streams` meets its contract: a check a return. Assumes nothing.
use Prim.Native.Nat.{ℕ, ◌-◌, ◌*◌, ◌%◌, ◌^◌, ◌≤◌}
use mathlib.Core.Path.{◌≡◌, refl, sym, ap, ◌∙◌}
use mathlib.Core.Bool.{Bool, cond, not}
use mathlib.Core.List.{[], ◌∷◌}
use native.Mathlib.Omega.{arith}
use native.Mathlib.Nat.{one-mul}
use borrow.Author.Tests.{eq-eqb, ne_eqb}
use lib.ListN.{drop}
use lib.Pow.{shl_exact}
use Rattle.counters.specs.Counters.{last_stream}
use Rattle.setting.specs.Refusal.{first_of}
use Rattle.setting.proofs.Refusals.{answers, passed}
use Rattle.setting_bytes.specs.Settings.{announced_of}
use Rattle.setting_checks.proofs.Rows.{behind_of, behind_in, behind_of-in}
use Rattle.setting_checks.proofs.has_more_streams.Goals as goal
use Rattle.setting_checks.proofs.has_more_streams.Goals.{Else-availability-streams-ne0}

-- the bits behind the last stream's: as many as there are streams fewer than fifteen
bits : {streams a w : ℕ} → streams ≤ last_stream → a ≡ w → a % (1 * 2 ^ (last_stream - streams) % 2 ^ 16) ≡ w % 2 ^ (last_stream - streams)
bits {streams} few e =
    let one : 1 * 2 ^ (last_stream - streams) % 2 ^ 16 ≡ 2 ^ (last_stream - streams) =
    shl_exact 1 (last_stream - streams) 16 (omega arith) (omega arith) ∙ one-mul (2 ^ (last_stream - streams)) in
    rw (one, e) refl

past_bits : (c : Else-availability-streams-ne0) → let s = c.args in first_of (behind_of s.streams (announced_of s.bytes.now)) ≡ first_of (drop 1 (behind_in s.streams s.bytes.now))
past_bits c =
    ap first_of (behind_of-in _ _ c.requires.0)
    ∙ passed _ _ (ap not (eq-eqb _ _ (sym (bits c.requires.1 c.word-availability.ensures) ∙ c.if-availability-streams-ne0.false)))

-- the last row
last : {a b : Bool} → a ≡ b → cond a 17 0 ≡ first_of ((17, b) ∷ [])
unfolding first_of
last e = ap (λ (t : Bool). cond t 17 0) e

pub returns-then-availability-streams-ne0 : goal.returns-then-availability-streams-ne0
returns-then-availability-streams-ne0 c =
    sym (ap first_of (behind_of-in _ _ c.requires.0)
    ∙ answers _ _ (ap not (ne_eqb _ _ (λ e. c.if-availability-streams-ne0.true (bits c.requires.1 c.word-availability.ensures ∙ e)))))

pub returns-then-some_behind : goal.returns-then-some_behind
returns-then-some_behind c =
    sym (past_bits (goal.at.returns-then-some_behind c).Else-availability-streams-ne0 ∙ answers _ _ (sym c.if-some_behind.ensures))

pub returns-then-some_behind-2 : goal.returns-then-some_behind-2
returns-then-some_behind-2 c =
    sym (past_bits (goal.at.returns-then-some_behind-2 c).Else-availability-streams-ne0
    ∙ passed _ _ (sym c.if-some_behind.ensures) ∙ answers _ _ (sym c.if-some_behind-2.ensures))

pub returns : goal.returns
returns c =
    last c.some_behind-3.ensures
    ∙ sym (past_bits (goal.at.returns c).Else-availability-streams-ne0 ∙ passed _ _ (sym c.if-some_behind.ensures) ∙ passed _ _ (sym c.if-some_behind-2.ensures))
