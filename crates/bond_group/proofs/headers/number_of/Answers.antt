-- `number_of` meets its contract: after k turns the number is that among 1 to k. Assumes nothing.
use Prim.Native.Nat.{ℕ, ◌+◌, ◌-◌}
use mathlib.Core.Path.{◌≡◌, refl, sym, ap, ◌∙◌}
use mathlib.Core.List.{List}
use mathlib.Core.Bool.{Bool, cond, ◌&&◌, and_comm, and_assoc}
use native.Mathlib.Numerals.{add-one}
use native.Mathlib.Omega.{arith}
use borrow.Author.Tests.{eq-eqb, ne_eqb}
use lib.Dec.{eqb}
use lib.ListN.{get_or}
use Rattle.setting.specs.declared.Setting.{Setting}
use Rattle.setting_pairs.specs.Identifiers.{ids_apart}
use Rattle.setting_pairs.proofs.Apart.{apart_at}
use Rattle.counters.specs.Counters.{last_stream, available}
use Rattle.bond_group.specs.declared.Bond.{Bond}
use Rattle.bond_group.specs.Group.{names, number_up_to, number_of}
use Rattle.bond_group.proofs.headers.number_of.Goals as goal
use Rattle.bond_group.proofs.headers.number_of.Goals.{then-ts_id-b+then-network_id-b+then-is_available, then-ts_id-b+then-network_id-b+else-is_available, then-ts_id-b+else-network_id-b, else-ts_id-b}

-- a turn, by its three tests
module _ (b : Bond) (s : Setting) (k : ℕ) where
  up : number_up_to b s (k + 1) ≡ cond (names b s (k + 1)) (k + 1) (number_up_to b s k)
  unfolding number_up_to
  up = rw add-one

  -- asked of what the setting has
  turn : {a : ℕ} {ts os : List ℕ} {x y z : Bool} → s.availability ≡ a → s.ts_id ≡ ts → s.original_network_id ≡ os
      → eqb (get_or ts k 0) b.ts_id ≡ x → eqb (get_or os k 0) b.original_network_id ≡ y → available a (k + 1) ≡ z
      → number_up_to b s (k + 1) ≡ cond (x && (y && z)) (k + 1) (number_up_to b s k)
  unfolding names
  turn {x = x} {y = y} {z = z} streams ts os e f g =
      let back : k + 1 - 1 ≡ k = omega arith in
      let named : names b s (k + 1) ≡ x && (y && z) = rw (back, ts, os, streams, e, f, g) (and_comm z (x && y) ∙ and_assoc x y z) in
      up ∙ ap (λ (t : Bool). cond t (k + 1) (number_up_to b s k)) named

pub loop-k-init : goal.loop-k-init
unfolding number_up_to
loop-k-init c = (λ s e f g. refl, omega arith)

pub loop-k-preserved : goal.loop-k-preserved
loop-k-preserved c =
    let a = c.args in
    let k = c.loop-k.k in
    let held = c.loop-k.invariant.0 in
    let ts : c.word-ts_id.result ≡ get_or (ids_apart 4 last_stream a.ts.now) k 0 = c.word-ts_id.ensures ∙ sym (apart_at 4 last_stream k a.ts.now (omega arith)) in
    let os : c.word-network_id.result ≡ get_or (ids_apart 4 last_stream a.os.now) k 0 = c.word-network_id.ensures ∙ sym (apart_at 4 last_stream k a.os.now (omega arith)) in (
      λ s e f g.
          elim c.if-ts_id-b.branch [
            | then-ts_id-b+then-network_id-b+then-is_available w ↦ w.number-is ∙ sym (turn a.b s k e f g (eq-eqb _ _ (sym ts ∙ w.if-ts_id-b.true)) (eq-eqb _ _ (sym os ∙ w.if-network_id-b.true)) (sym w.is_available.ensures ∙ w.if-is_available.true))
            | then-ts_id-b+then-network_id-b+else-is_available w ↦ w.number-is ∙ held s e f g ∙ sym (turn a.b s k e f g (eq-eqb _ _ (sym ts ∙ w.if-ts_id-b.true)) (eq-eqb _ _ (sym os ∙ w.if-network_id-b.true)) (sym w.is_available.ensures ∙ w.if-is_available.false))
            | then-ts_id-b+else-network_id-b w ↦ w.number-is ∙ held s e f g ∙ sym (turn a.b s k e f g (eq-eqb _ _ (sym ts ∙ w.if-ts_id-b.true)) (ne_eqb (get_or (ids_apart 4 last_stream a.os.now) k 0) a.b.original_network_id (λ z. w.if-network_id-b.false (os ∙ z))) refl)
            | else-ts_id-b w ↦ w.number-is ∙ held s e f g ∙ sym (turn a.b s k e f g (ne_eqb (get_or (ids_apart 4 last_stream a.ts.now) k 0) a.b.ts_id (λ z. w.if-ts_id-b.false (ts ∙ z))) refl refl)
          ],
      elim c.if-ts_id-b.branch [
        | then-ts_id-b+then-network_id-b+then-is_available w ↦ omega (arith, w.number-is)
        | then-ts_id-b+then-network_id-b+else-is_available w ↦ omega (arith, w.number-is)
        | then-ts_id-b+else-network_id-b w ↦ omega (arith, w.number-is)
        | else-ts_id-b w ↦ omega (arith, w.number-is)
      ],
    )

pub returns : goal.returns
unfolding number_of
returns c =
    let all : c.loop-k.k ≡ last_stream = omega arith in record {
      value = λ s e f g. c.loop-k.invariant.0 s e f g ∙ ap (number_up_to c.args.b s) all;
      upper_bound = c.loop-k.invariant.1;
    }
