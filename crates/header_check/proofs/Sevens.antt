-- Only a wrong CRC is refused by 7, and so a remainder that is not 0 stands beside 7 alone. Assumes nothing.
use Prim.Native.Nat.{ℕ}
use mathlib.Core.Path.{◌≡◌, refl, sym, ◌∙◌}
use mathlib.Core.Bool.{true}
use mathlib.Core.List.{List, [], ◌∷◌, ◌++◌, map}
use native.Mathlib.Omega.{arith}
use borrow.Author.Tests.{eq-eqb, ne_eqb}
use lib.ListN.{length}
use Rattle.setting.specs.declared.Kind.{Kind}
use Rattle.setting.specs.declared.Setting.{Setting}
use Rattle.setting.specs.Refusal.{first_of}
use Rattle.setting.specs.Rules.{bonding_checks, bonding_of, rule_checks}
use Rattle.setting.proofs.Refusals.{idle, idle_append, never_first}
use Rattle.header_layout.specs.Layout.{reserved_rows}
use Rattle.header_layout.specs.Header.{reading, call_checks, remainder_of, packet_checks, zero_check, reserved_checks}
use Rattle.header_check.specs.Checking.{read_checks, read_refusal, refusal_by}
use Rattle.header_check.specs.Demands.{OnlyBesideSeven}

-- no reserved bit, and no rule
reserved_idle : (kind : Kind) (p : List ℕ) → idle 7 (reserved_checks kind p) ≡ true
unfolding reserved_checks
reserved_idle kind p = by_rows (reserved_rows kind)
  where
    by_rows : (ks : List ℕ) → idle 7 (map (zero_check kind p) ks) ≡ true
    by_rows [] = refl
    by_rows (k ∷ ks) = by_rows ks

bonding_idle : (kind : Kind) (s : Setting) → idle 7 (bonding_of kind s) ≡ true
unfolding bonding_checks
bonding_idle Kind.Plain s = refl
bonding_idle Kind.Extended s = refl
bonding_idle Kind.Short s = refl

rules_idle : (kind : Kind) (s : Setting) → idle 7 (rule_checks kind s) ≡ true
unfolding rule_checks
rules_idle kind s = bonding_idle kind s

pub not_of_reserved : (kind : Kind) (p : List ℕ) → first_of (reserved_checks kind p) ≡ 7 → ⊥
not_of_reserved kind p = never_first 7 (reserved_checks kind p) (omega arith) (reserved_idle kind p)

pub not_of_rules : (kind : Kind) (s : Setting) → first_of (rule_checks kind s) ≡ 7 → ⊥
not_of_rules kind s = never_first 7 (rule_checks kind s) (omega arith) (rules_idle kind s)

-- nor any other check of a read, where the remainder is 0
pub read_idle : (kind : Kind) (pid : ℕ) (p : List ℕ) → remainder_of p ≡ 0 → idle 7 (read_checks kind pid p) ≡ true
unfolding read_checks packet_checks
read_idle kind pid p e =
    rw e (idle_append 7 (reserved_checks kind p) (rule_checks kind (reading kind p)) (reserved_idle kind p) (rules_idle kind (reading kind p)))

-- so beside 7 the remainder of a packet is not 0
pub seven_shows : (kind : Kind) (pid : ℕ) (p : List ℕ) → read_refusal kind pid p ≡ 7 → remainder_of p ≡ 0 → ⊥
unfolding read_refusal
seven_shows kind pid p e z =
    never_first 7 (call_checks pid (length p) ++ read_checks kind pid p) (omega arith)
    (idle_append 7 (call_checks pid (length p)) (read_checks kind pid p) refl (read_idle kind pid p z)) e

pub beside_seven : (n : ℕ) (p : List ℕ) → (n ≡ 7 → remainder_of p ≡ 0 → ⊥) → OnlyBesideSeven (refusal_by n p)
unfolding refusal_by
beside_seven n p h =
    record { seven = λ e z. h e (sym (rw (eq-eqb n 7 e) refl) ∙ z); other = λ d. rw (ne_eqb n 7 d) refl }
