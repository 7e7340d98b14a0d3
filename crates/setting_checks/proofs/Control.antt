-- What a header announces: statuses and emergency asked at once, and nothing behind fifteen streams. Assumes nothing.
use Prim.Native.Nat.{ℕ, ◌+◌, ◌*◌, ◌^◌, ◌<◌}
use mathlib.Core.Path.{◌≡◌, refl, sym, ap, ◌∙◌, subst}
use mathlib.Core.Bool.{Bool, true, false, not, true≢false}
use mathlib.Core.List.{List, [], ◌∷◌, ◌++◌}
use native.Mathlib.Omega.{arith}
use native.Mathlib.Nat.{mod-one}
use borrow.Author.Tests.{eq-eqb, leb-false}
use lib.Dec.{leb}
use lib.ListN.{length, get_or, drop, length-drop}
use lib.Seq.{take-suc, take-take, get_or-drop}
use Rattle.bits.specs.Fields.{Fit}
use Rattle.bits.proofs.Laws.{fit_take, fit_append}
use Rattle.slices.specs.Slices.{some_at_least}
use Rattle.counters.specs.Counters.{last_stream}
use Rattle.setting.specs.Refusal.{Check, first_of, NoneHolds}
use Rattle.setting.proofs.Fields.{some_fit, fit_some, none_left}
use Rattle.setting.proofs.Refusals.{first_none}
use Rattle.setting_bytes.specs.Words.{word_at}
use Rattle.setting_bytes.specs.Settings.{part, availability_at, ts_id_at, network_id_at, statuses_at, emergency_at, announced_length, announced_of}
use Rattle.setting_bytes.proofs.Parts.{length_part}
use Rattle.setting_checks.proofs.Rows.{behind_of, behind_in, behind_of-in}

module _ (b : List ℕ) (long : length b ≡ announced_length) where
  -- the statuses, and the emergency bit behind them
  abbrev statuses : List ℕ
  statuses = part statuses_at last_stream b

  abbrev control : List ℕ
  control = part statuses_at (last_stream + 1) b

  control_is : control ≡ statuses ++ (get_or b emergency_at 0 ∷ [])
  control_is =
      take-suc (drop statuses_at b) last_stream 0 (rw length-drop (omega arith))
      ∙ ap (λ (e : ℕ). statuses ++ (e ∷ [])) (get_or-drop statuses_at b last_stream 0)

  -- where no byte of both is too large for a status, no status is
  pub statuses_fit : some_at_least (2 ^ 2) control ≡ false → some_at_least (2 ^ 2) statuses ≡ false
  statuses_fit e = some_fit 2 statuses (subst (Fit 2) (take-take last_stream (last_stream + 1) (drop statuses_at b) (omega arith)) (fit_take last_stream (fit_some 2 control e)))

  -- where one is, a status or the emergency bit is too large
  pub control_answers : (cs : List Check) → some_at_least (2 ^ 2) control ≡ true → first_of ((17, some_at_least (2 ^ 2) statuses) ∷ (17, leb (2 ^ 1) (get_or b emergency_at 0)) ∷ cs) ≡ 17
  unfolding first_of
  control_answers cs e = by (some_at_least (2 ^ 2) statuses) (leb (2 ^ 1) (get_or b emergency_at 0)) refl refl
    where
      by : (p q : Bool) → some_at_least (2 ^ 2) statuses ≡ p → leb (2 ^ 1) (get_or b emergency_at 0) ≡ q → first_of ((17, p) ∷ (17, q) ∷ cs) ≡ 17
      by true q f g = refl
      by false true f g = refl
      by false false f g =
          let low = leb-false (2 ^ 1) (get_or b emergency_at 0) g in
          let fits : get_or b emergency_at 0 < 2 ^ 2 = omega (arith, low) in
          absurd (true≢false (sym e ∙ some_fit 2 control (subst (Fit 2) (sym control_is) (fit_append (fit_some 2 statuses f) (Fit.more fits Fit.none)))))

  -- nothing is asked behind fifteen streams
  none_behind : NoneHolds (behind_in last_stream b)
  none_behind =
      let ts = part ts_id_at (2 * last_stream) b in
      let os = part network_id_at (2 * last_stream) b in
      NoneHolds.more (ap not (eq-eqb _ 0 (mod-one (word_at availability_at b))))
      (NoneHolds.more (none_left 1 (2 * last_stream) ts (length_part ts_id_at (2 * last_stream) b (omega arith)))
      (NoneHolds.more (none_left 1 (2 * last_stream) os (length_part network_id_at (2 * last_stream) b (omega arith)))
      (NoneHolds.more (none_left 1 last_stream statuses (length_part statuses_at last_stream b (omega arith))) NoneHolds.none)))

  pub nothing_behind : first_of (behind_of last_stream (announced_of b)) ≡ 0
  nothing_behind = ap first_of (behind_of-in last_stream b long) ∙ first_none none_behind
