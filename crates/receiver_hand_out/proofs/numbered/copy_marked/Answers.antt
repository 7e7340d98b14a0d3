-- `copy_marked` meets its contract: so many of the sixteen slots were gone through, and the marks are those of the others. Assumes nothing.
use Prim.Native.Nat.{ℕ, ◌+◌, ◌-◌, ◌*◌, ◌/◌, ◌≤◌, ◌<◌}
use mathlib.Core.Path.{◌≡◌, sym, ap, ◌∙◌}
use mathlib.Core.List.{List}
use native.Mathlib.Omega.{arith}
use borrow.Author.Rules.{rules}
use borrow.Rule.Slice.PartMut.{mid_len}
use lib.Count.{count_leading_zeros}
use lib.ListN.{length, take, drop, length-drop}
use lib.Seq.{drop-drop}
use Rattle.slices.proofs.Front.{copied-over}
use Rattle.packet.specs.Packets.{packet_length}
use Rattle.receiver_hand_out.proofs.Handing.{handing_none, handing_one, handed, handing_all, room_for}
use Rattle.receiver_hand_out.proofs.Joined.{length-halves, joined-halves}
use Rattle.receiver_hand_out.proofs.Packets.{has_at}
use Rattle.receiver_hand_out.proofs.Marks.{Next, next, zeros, mark_in, unmarked, no_slot}
use Rattle.receiver_hand_out.proofs.numbered.copy_marked.Goals.{In-loop-rest}
use Rattle.receiver_hand_out.proofs.numbered.copy_marked.Goals as goal

-- the packets of the sixteen slots and of those behind them
abbrev behind : In-loop-rest → List ℕ
behind c = drop (packet_length * c.args.first) c.args.store.now

-- the next slot that is marked
abbrev Found : In-loop-rest → Type 0
Found c =
    Next c.args.marks.word c.args.marks.are_marks (behind c) c.args.out.now c.args.from
    c.loop-rest.out c.loop-rest.at c.loop-rest.rest

found : (c : In-loop-rest) → Found c
found c = next _ _ _ _ _ _ _ 16 (omega arith) c.loop-rest.invariant.2 c.loop-rest.invariant.3 c.loop-rest-test.true

zeros_are : (c : In-loop-rest) → count_leading_zeros 64 c.loop-rest.rest ≡ 4 * (found c).place
zeros_are c = zeros _ _ _ _ _ _ _ (found c)

inside : (c : In-loop-rest) → (found c).place < 16
inside c = (found c).inside

-- whose packet is stored
stored : (c : In-loop-rest) → packet_length * (c.args.first + (found c).place + 1) ≤ length c.args.store.now
stored c =
    let l = length-halves c.args.marks.word in
    let next = inside c in
    let left = length-drop (packet_length * c.args.first) c.args.store.now in
    let held = has_at c.requires.0 (found c).place (omega arith) (found c).here in
    omega arith

-- for which there is room
room : (c : In-loop-rest) → c.loop-rest.at + packet_length ≤ length c.args.out.now
room c =
    let l = length-halves c.args.marks.word in
    let next = inside c in
    room_for _ _ _ _ _ (found c).handed (omega arith) (found c).here c.requires.1

pub loop-rest-init : goal.loop-rest-init
loop-rest-init c =
    let l = length-halves c.args.marks.word in
    (0, omega arith, handing_none _ _ _ _ _ c.requires.0 (omega arith), sym (joined-halves c.args.marks.word (omega arith)))

pub overflow_add-start : goal.overflow_add-start
overflow_add-start c =
    let z = zeros_are (goal.at.overflow_add-start c).In-loop-rest in
    let long = stored (goal.at.overflow_add-start c).In-loop-rest in
    search rules

pub overflow_mul-start : goal.overflow_mul-start
overflow_mul-start c =
    let z = zeros_are (goal.at.overflow_mul-start c).In-loop-rest in
    let long = stored (goal.at.overflow_mul-start c).In-loop-rest in
    search rules

pub slice_bounds-copy-end : goal.slice_bounds-copy-end
slice_bounds-copy-end c =
    let left = room (goal.at.slice_bounds-copy-end c).In-loop-rest in
    search rules

pub overflow_add-start-in-loop-rest : goal.overflow_add-start-in-loop-rest
overflow_add-start-in-loop-rest c =
    let g = (goal.at.overflow_add-start-in-loop-rest c).In-loop-rest in
    let z = zeros_are g in
    let long = stored g in
    search rules

pub slice_bounds-copy-end-in-loop-rest : goal.slice_bounds-copy-end-in-loop-rest
slice_bounds-copy-end-in-loop-rest c =
    let g = (goal.at.slice_bounds-copy-end-in-loop-rest c).In-loop-rest in
    let z = zeros_are g in
    let long = stored g in
    search rules

pub overflow_sub-rest : goal.overflow_sub-rest
overflow_sub-rest c =
    let m = mark_in _ _ _ _ _ _ _ (found (goal.at.overflow_sub-rest c).In-loop-rest) in
    omega arith

pub loop-rest-preserved : goal.loop-rest-preserved
loop-rest-preserved c =
    let g = (goal.at.loop-rest-preserved c).In-loop-rest in
    let l = length-halves c.args.marks.word in
    let next = inside g in
    let left = room g in
    let first = packet_length * c.args.first in
    let place = packet_length * (found g).place in
    let start = packet_length * (c.args.first + count_leading_zeros 64 c.loop-rest.rest / 4) in
    let store = c.args.store.now in
    let held = stored g in
    let z = zeros_are g in
    let long : c.loop-rest.at + packet_length - c.loop-rest.at ≡ packet_length = omega arith in
    let here : start + packet_length - start ≡ packet_length = omega arith in
    let slot : start ≡ first + place = omega arith in
    let copied : c.copy.new.dst ≡ take packet_length (drop place (behind g)) =
    c.copy.ensures
    ∙ copied-over _ _
    (mid_len c.loop-rest.at (c.loop-rest.at + packet_length) c.loop-rest.out (omega arith) ∙ long
    ∙ sym (mid_len start (start + packet_length) store (omega arith) ∙ here))
    ∙ ap (λ (n : ℕ). take n (drop start store)) here
    ∙ ap (λ (n : ℕ). take packet_length (drop n store)) slot
    ∙ ap (take packet_length) (sym (drop-drop place first store)) in
    let more = handing_one _ _ _ _ _ (found g).handed (omega arith) (found g).here (c.loop-rest.at + packet_length - c.loop-rest.at) long c.copy.new.dst copied
    (has_at c.requires.0 (found g).place (omega arith) (found g).here) in
    ((found g).place + 1, omega arith, more, unmarked _ _ _ _ _ _ _ (found g))

pub returns : goal.returns
returns c =
    let none = no_slot c.args.marks.word c.args.marks.are_marks c.loop-rest.invariant.0 (sym c.loop-rest.invariant.3 ∙ c.loop-rest-test.false) in
    record { value = handed _ _ _ _ _ c.loop-rest.invariant.2 none; out_after = handing_all _ _ _ _ _ c.loop-rest.invariant.2 none }
