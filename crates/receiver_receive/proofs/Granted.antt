-- A state with an open frame of 52 slots that has room, and what is lent beside it: nothing of it is refused. Assumes nothing.
use Prim.Native.Nat.{ℕ, zero, suc, ◌+◌, ◌^◌, ◌≤◌, ◌<◌}
use mathlib.Core.Path.{◌≡◌, refl, ap, sym, subst}
use mathlib.Core.Bool.{true, not}
use mathlib.Core.List.{List}
use native.Mathlib.Omega.{arith}
use borrow.Author.Tests.{eq-eqb, lt-ltb, lt-leb, le-ltb}
use lib.ListN.{length, get_or, drop, length-drop}
use lib.Seq.{length-take-le}
use Rattle.counters.specs.Counters.{last_slot}
use Rattle.setting.specs.declared.Kind.{Kind}
use Rattle.setting.specs.Refusal.{NoneHolds, none, more}
use Rattle.setting.specs.Rules.{pid_allowed}
use Rattle.setting.specs.Size.{size_of, slots_of}
use Rattle.setting.proofs.Refusals.{first_none, none_append}
use Rattle.setting_bytes.specs.Kinds.{kind_of}
use Rattle.setting_bytes.specs.Settings.{part}
use Rattle.packet.specs.Packets.{packet_length}
use Rattle.receiver.specs.declared.Stage.{Stage}
use Rattle.receiver.specs.Table.{stage_checks}
use Rattle.receiver.specs.Packed.{packed_length}
use Rattle.receiver.specs.Store.{store_length}
use Rattle.receiver.specs.Receiving.{receiver_checks, receive_refusal}
use Rattle.receiver.specs.Bytes.{kind_at, stage_at, counter_at, stored_at, numbers_at, before_at, receiver_length, stage_of, stage_in, receiver_of}
use Rattle.receiver.proofs.Packing.{Long, plain, extended, none_wrong}

-- the kinds before the last one have 52 slots
long-kind : (n : ℕ) → n < 2 → Long (kind_of n)
unfolding kind_of
long-kind zero h = plain
long-kind (suc zero) h = extended
long-kind (suc (suc n)) h = absurd (omega arith)

long-slots : {kind : Kind} → Long kind → slots_of kind ≡ last_slot
unfolding size_of
long-slots plain = refl
long-slots extended = refl

module _ (b : List ℕ) (l : length b ≡ receiver_length) (k : get_or b kind_at 0 < 2) where
  pub all_slots : slots_of (receiver_of b).kind ≡ last_slot
  unfolding receiver_of
  all_slots = long-slots (long-kind (get_or b kind_at 0) k)

  module _ (open-one : get_or b stage_at 0 ≡ 1) where
    open_stage : stage_in b ≡ Stage.Open (get_or b counter_at 0) (get_or b stored_at 0)
    unfolding stage_of
    open_stage = rw (lt-ltb (get_or b kind_at 0) 3 (omega (arith, k)), open-one) refl

    module _ (allowed : pid_allowed (receiver_of b).pid ≡ true) (f : get_or b counter_at 0 < 2 ^ 4) (s : get_or b stored_at 0 < last_slot) where
      list : (at : ℕ) → at + packed_length ≤ receiver_length → length (part at packed_length b) ≡ packed_length
      list at h = length-take-le packed_length (drop at b) (rw length-drop (omega (arith, l, h)))

      open_stage_checks : NoneHolds (stage_checks last_slot (Stage.Open (get_or b counter_at 0) (get_or b stored_at 0)))
      unfolding stage_checks
      open_stage_checks = more (lt-leb 16 (get_or b counter_at 0) (omega (arith, f))) (more (le-ltb last_slot (get_or b stored_at 0) (omega (arith, s))) none)

      sound : NoneHolds (receiver_checks (receiver_of b))
      unfolding receiver_checks receiver_of
      sound =
          let long = long-kind (get_or b kind_at 0) k in
          let stage = subst (λ (n : ℕ). NoneHolds (stage_checks n (stage_in b))) (sym (long-slots long)) (rw open_stage open_stage_checks) in
          more (ap not allowed)
          (none_append stage
          (none_append (none_wrong long (part numbers_at packed_length b) (list numbers_at (omega arith))) (none_wrong long (part before_at packed_length b) (list before_at (omega arith)))))

      -- nothing is refused
      pub usual_granted : {packet store : ℕ} → packet ≡ packet_length → store ≡ store_length last_slot → receive_refusal (receiver_of b) packet store ≡ 0
      unfolding receive_refusal
      usual_granted {packet} {store} p m =
          let own : store ≡ store_length (slots_of (receiver_of b).kind) = rw all_slots m in
          first_none (more (ap not (eq-eqb packet packet_length p)) (more (ap not (eq-eqb store _ own)) sound))
