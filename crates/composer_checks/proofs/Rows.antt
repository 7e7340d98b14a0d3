-- What the checks of a state come to, asked of its bytes one after another. Assumes nothing.
use Prim.Native.Nat.{ℕ, ◌≤◌, ◌<◌}
use mathlib.Core.Path.{◌≡◌, ap, ◌∙◌}
use mathlib.Core.Bool.{Bool, true, false, cond, not}
use mathlib.Core.List.{List, ◌∷◌, ◌++◌}
use borrow.Author.Tests.{le-leb, lt-leb}
use lib.Dec.{leb}
use lib.ListN.{get_or}
use Rattle.setting.specs.Refusal.{Check, first_of}
use Rattle.setting.proofs.Refusals.{answers, passed}
use Rattle.setting.specs.Rules.{pid_allowed, width_checks}
use Rattle.setting.specs.Announcing.{announced_checks}
use Rattle.setting_bytes.specs.Words.{word_at}
use Rattle.composer.specs.Composing.{asked, state_checks}
use Rattle.composer.specs.States.{is_coded, no_counter, composer_of, counter_at, version_at}

module _ (b : List ℕ) where
  abbrev rows : ℕ
  rows = first_of (state_checks (composer_of b))

  abbrev shown : List Check
  shown = announced_checks (composer_of b).kind (composer_of b).last

  abbrev widths : List Check
  widths = asked (composer_of b).is_open (width_checks (composer_of b).kind (composer_of b).setting)

  pub at-pid : pid_allowed (word_at 0 b) ≡ false → rows ≡ 2
  unfolding state_checks composer_of
  at-pid p = answers 2 _ (ap not p)

  module _ (p : pid_allowed (word_at 0 b) ≡ true) where
    pub at_coding : is_coded b ≡ false → rows ≡ 17
    unfolding state_checks composer_of
    at_coding c = passed 2 _ (ap not p) ∙ answers 17 _ (ap (λ (t : Bool). leb 16 (cond t (get_or b counter_at 0) no_counter)) c)

    module _ (c : is_coded b ≡ true) where
      pub at_counter : 16 ≤ get_or b counter_at 0 → rows ≡ 17
      unfolding state_checks composer_of
      at_counter h =
          passed 2 _ (ap not p)
          ∙ answers 17 _ (ap (λ (t : Bool). leb 16 (cond t (get_or b counter_at 0) no_counter)) c ∙ le-leb 16 (get_or b counter_at 0) h)

      module _ (l : get_or b counter_at 0 < 16) where
        behind_counter : (cs : List Check) → first_of ((17, leb 16 (cond (is_coded b) (get_or b counter_at 0) no_counter)) ∷ cs) ≡ first_of cs
        behind_counter cs = passed 17 cs (ap (λ (t : Bool). leb 16 (cond t (get_or b counter_at 0) no_counter)) c ∙ lt-leb 16 (get_or b counter_at 0) l)

        pub at_version : 8 ≤ get_or b version_at 0 → rows ≡ 17
        unfolding state_checks composer_of
        at_version h = passed 2 _ (ap not p) ∙ behind_counter _ ∙ answers 17 _ (le-leb 8 (get_or b version_at 0) h)

        pub behind_numbers : get_or b version_at 0 < 8 → rows ≡ first_of (shown ++ widths)
        unfolding state_checks composer_of
        behind_numbers v = passed 2 _ (ap not p) ∙ behind_counter _ ∙ passed 17 _ (lt-leb 8 (get_or b version_at 0) v)
