-- The remainder beside an event: that of the packet beside 'broken', 0 beside any other. Assumes nothing.
use Prim.Native.Nat.{ℕ, ◌+◌}
use mathlib.Core.Path.{◌≡◌, refl, sym, subst, ◌∙◌}
use mathlib.Core.Bool.{Bool, true, false, cond, ◌&&◌}
use mathlib.Core.List.{List}
use native.Mathlib.Omega.{arith}
use borrow.Author.Tests.{eq-eqb, ne_eqb}
use lib.Dec.{eqb, ltb}
use lib.ListN.{length}
use Rattle.setting.specs.declared.Kind.{Kind}
use Rattle.setting.specs.Size.{slots_of}
use Rattle.header_layout.specs.Header.{reading}
use Rattle.header_check.specs.Checking.{read_refusal, refusal_by}
use Rattle.header_check.proofs.Sevens.{seven_shows}
use Rattle.packet.specs.Packets.{unfit}
use Rattle.receiver.specs.declared.Stage.{Stage}
use Rattle.receiver.specs.declared.Event.{Event}
use Rattle.receiver.specs.Table.{Sort, good, broken, other, counter_step, row, open_row, row_of}
use Rattle.receiver.specs.Arriving.{shown_remainder, sort_of}
use Rattle.receiver.specs.Receiving.{Receiver, Received, receive_refusal, row_for, receive_of}
use Rattle.receiver.specs.Bytes.{receiver_length, receiver_of, told, event_number}
use Rattle.receiver.specs.Calls.{receive_told}
use Rattle.receiver.specs.Demands.{RemainderTold}

-- beside an event other than 'broken' stands 0
quiet : (e : Event) → (event_number e ≡ event_number (Event.Broken 0) → ⊥) → (told e).remainder ≡ 0
unfolding told
quiet Event.Nothing d = refl
quiet Event.Opened d = refl
quiet Event.Stored d = refl
quiet Event.Ready d = refl
quiet Event.Short d = refl
quiet Event.Jump d = refl
quiet Event.Long d = refl
quiet (Event.Broken r) d = absurd (d refl)

-- s stands beside 'broken'
abbrev Bears : ℕ → Event → Type 0
Bears s e = event_number e ≡ event_number (Event.Broken 0) → (told e).remainder ≡ s

-- a good header never breaks, nor does a packet that is stored or too many
of_good : (s : ℕ) (b d : Bool) (x y : Stage) → Bears s (cond b (row Event.Ready x) (row (cond d Event.Short Event.Jump) y)).event
unfolding told
of_good s true d x y e = absurd (omega arith)
of_good s false true x y e = absurd (omega arith)
of_good s false false x y e = absurd (omega arith)

of_other : (s : ℕ) (b : Bool) (x y : Stage) → Bears s (cond b (row Event.Stored x) (row Event.Long y)).event
unfolding told
of_other s true x y e = absurd (omega arith)
of_other s false x y e = absurd (omega arith)

-- a sort of packet with which goes s, if it is a broken one
abbrev With : ℕ → Sort → Type 0
With s good = Unit {0}
With s (broken r) = r ≡ s
With s other = Unit {0}

open_bears : (s slots from k : ℕ) (sort : Sort) (to : ℕ) → With s sort → Bears s (open_row slots from k sort to).event
unfolding open_row told
open_bears s slots from k good to w =
    of_good s (eqb k slots && eqb (counter_step from to) 1) (ltb k slots) (Stage.Ready to) (Stage.Open to 0)
open_bears s slots from k (broken r) to w = λ e. w
open_bears s slots from k other to w = of_other s (ltb k slots) (Stage.Open from (k + 1)) Stage.Waiting

row_bears : (s slots : ℕ) (stage : Stage) (sort : Sort) (to : ℕ) → With s sort → Bears s (row_of slots stage sort to).event
unfolding row_of told
row_bears s slots Stage.Waiting good to w = λ e. absurd (omega arith)
row_bears s slots Stage.Waiting (broken r) to w = λ e. absurd (omega arith)
row_bears s slots Stage.Waiting other to w = λ e. absurd (omega arith)
row_bears s slots (Stage.Open from k) sort to w = open_bears s slots from k sort to w
row_bears s slots (Stage.Ready from) sort to w = open_bears s slots from 0 sort to w

sort_with : (kind : Kind) (pid : ℕ) (p : List ℕ) → With (shown_remainder kind pid p) (sort_of kind pid p)
unfolding sort_of
sort_with kind pid p = by_tests (eqb (read_refusal kind pid p) 0) (unfit pid p)
  where
    by_tests : (b d : Bool) → With (shown_remainder kind pid p) (cond b good (cond d (broken (shown_remainder kind pid p)) other))
    by_tests true d = tt
    by_tests false true = refl
    by_tests false false = tt

-- of an event, or else nothing
or_nothing : (s : ℕ) (b : Bool) (e : Event) → Bears s e → Bears s (cond b e Event.Nothing)
unfolding told
or_nothing s true e h = h
or_nothing s false e h = λ z. absurd (omega arith)

of_received : (b : Bool) (x y : Received) → (cond b x y).event ≡ cond b x.event y.event
of_received true x y = refl
of_received false x y = refl

row_is : (c : Receiver) (p : List ℕ) → Bears (shown_remainder c.kind c.pid p) (row_for c p).event
unfolding row_for
row_is c p = row_bears _ (slots_of c.kind) c.stage (sort_of c.kind c.pid p) (reading c.kind p).continuity_counter (sort_with c.kind c.pid p)

received_bears : (c : Receiver) (p : List ℕ) (store : ℕ) → Bears (shown_remainder c.kind c.pid p) (receive_of c p store).event
unfolding receive_of
received_bears c p store =
    let s = shown_remainder c.kind c.pid p in
    let row-does : Bears s (row_for c p).event = row_is c p in
    subst (Bears s) (sym (of_received (eqb (receive_refusal c (length p) store) 0) _ _)) (or_nothing s (eqb (receive_refusal c (length p) store) 0) (row_for c p).event row-does)

pub remainder_told : RemainderTold
unfolding receive_told refusal_by
remainder_told state p store =
    record {
      by_seven = λ b z. (beside b ∙ rw (eq-eqb _ 7 z) refl, seven_shows c.kind c.pid p z);
      by_other = λ b d. beside b ∙ rw (ne_eqb _ 7 d) refl;
      beside_other = quiet event;
    }
  where
    c : Receiver
    c = receiver_of state

    event : Event
    event = cond (eqb (length state) receiver_length) (receive_of c p (length store)).event Event.Nothing

    beside : Bears (shown_remainder c.kind c.pid p) event
    beside = or_nothing (shown_remainder c.kind c.pid p) (eqb (length state) receiver_length) (receive_of c p (length store)).event (received_bears c p (length store))
