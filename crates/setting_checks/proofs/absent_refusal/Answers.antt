-- `absent_refusal` meets its contract, by the kind. Assumes nothing.
use Prim.Native.Nat.{ℕ}
use mathlib.Core.Path.{◌≡◌, refl, sym, ap, ◌∙◌}
use mathlib.Core.Bool.{false}
use mathlib.Core.List.{List, []}
use mathlib.Core.Logic.{inl, inr}
use native.Mathlib.Omega.{arith}
use lib.ListN.{get_or, take, drop, length-drop}
use lib.Seq.{take_all, get_or-drop}
use Rattle.setting.specs.declared.Kind.{Kind}
use Rattle.setting.specs.Setting.{private_bytes, auxiliary_bytes}
use Rattle.setting.specs.Size.{size_of}
use Rattle.setting.specs.Refusal.{first_of}
use Rattle.setting.specs.Rules.{by_kind, some_behind, bonding_absent, absent_checks}
use Rattle.setting.proofs.Refusals.{answers, passed}
use Rattle.setting_bytes.specs.Settings.{part}
use Rattle.setting_checks.specs.Absent.{bonding_absent_in, absent_in}
use Rattle.setting_checks.proofs.absent_refusal.Goals as goal

-- past the private data, with the kind known
module _ (b : List ℕ) where
  by : (known : Kind) → let d = drop private_bytes b in first_of (bonding_absent known (take auxiliary_bytes d) (get_or d 28 0) (get_or d 29 0) (get_or d 30 0) (get_or d 31 0) (get_or d 32 0)) ≡ first_of (by_kind known (bonding_absent_in d) [])
  by Kind.Plain = refl
  by Kind.Extended = refl
  by Kind.Short = refl

  past : (kind known : Kind) → kind ≡ known → false ≡ some_behind (size_of kind).private_bytes (take private_bytes b) → first_of (absent_in kind b) ≡ first_of (by_kind known (bonding_absent_in (drop private_bytes b)) [])
  unfolding absent_checks
  past kind known e none =
      passed _ _ (sym none)
      ∙ ap (λ (k : Kind). first_of (bonding_absent k (part private_bytes auxiliary_bytes b) (get_or b 159 0) (get_or b 160 0) (get_or b 161 0) (get_or b 162 0) (get_or b 163 0))) e
      ∙ (λ i. first_of (bonding_absent known (part private_bytes auxiliary_bytes b) (sym (get_or-drop 131 b 28 0) i) (sym (get_or-drop 131 b 29 0) i) (sym (get_or-drop 131 b 30 0) i) (sym (get_or-drop 131 b 31 0) i) (sym (get_or-drop 131 b 32 0) i)))
      ∙ by known

pub returns-then-some_behind : goal.returns-then-some_behind
unfolding absent_checks
returns-then-some_behind c = sym (answers _ _ (rw (sym c.size_of-size.ensures) (sym c.if-some_behind.ensures)))

pub returns-in-Plain : goal.returns-in-Plain
returns-in-Plain c =
    let b = c.args.rest.now in
    let none : false ≡ some_behind (size_of c.args.kind).private_bytes (take private_bytes b) = rw (sym c.size_of-size.ensures) c.if-some_behind.ensures in
    let tail : take 33 (drop private_bytes b) ≡ drop private_bytes b = take_all 33 (drop private_bytes b) (omega (arith, length-drop private_bytes b)) in
    c.bonding_absent_refusal.ensures ∙ ap (λ (l : List ℕ). first_of (bonding_absent_in l)) tail
    ∙ sym (elim c.in-Plain.is [ inl e ↦ past b c.args.kind Kind.Plain e none | inr e ↦ past b c.args.kind Kind.Short e none ])

pub returns-in-Extended : goal.returns-in-Extended
unfolding first_of
returns-in-Extended c =
    let b = c.args.rest.now in
    sym (past b c.args.kind Kind.Extended c.in-Extended.is (rw (sym c.size_of-size.ensures) c.if-some_behind.ensures))
