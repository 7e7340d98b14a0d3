-- `hand_out` meets its contract: the packets of so many slots were copied, word by word. Assumes nothing.
use Prim.Native.Nat.{ℕ, ◌+◌, ◌*◌}
use mathlib.Core.Path.{◌≡◌, refl}
use mathlib.Core.List.{List}
use native.Mathlib.Omega.{arith}
use borrow.Author.Tests.{lt-ltb, le-ltb}
use lib.ListN.{length, take, drop}
use Rattle.slices.specs.Slices.{over}
use Rattle.counters.specs.Counters.{last_slot}
use Rattle.packet.specs.Packets.{packet_length}
use Rattle.receiver.specs.Packed.{unpacked}
use Rattle.receiver.specs.Store.{numbered, slots_for}
use Rattle.receiver.proofs.Packing.{length-unpacked}
use Rattle.receiver_hand_out.specs.Halves.{halves_of}
use Rattle.receiver_hand_out.proofs.Parts.{Says, says, says_last, slots-all, Gone, gone_none, gone_more, gone_held, gone_room, gone_all}
use Rattle.receiver_hand_out.proofs.numbered.hand_out.Goals as goal
use Rattle.receiver_hand_out.proofs.numbered.hand_out.Goals.{After-last_marks-d}

abbrev ns : After-last_marks-d → List ℕ
ns k = unpacked k.args.numbers.now

long : (k : After-last_marks-d) → length (ns k) ≡ last_slot
long k = length-unpacked k.args.numbers.now

-- what the words say
says₁ : (k : After-last_marks-d) → Says k.args.r.0 k.marks_at-a.result.word (take 16 (ns k)) 0
says₁ k = says _ _ k.marks_at-a.ensures

says₂ : (k : After-last_marks-d) → Says k.args.r.0 k.marks_at-b.result.word (take 16 (drop 16 (ns k))) 0
says₂ k = says _ _ k.marks_at-b.ensures

says₃ : (k : After-last_marks-d) → Says k.args.r.0 k.marks_at-c.result.word (take 16 (drop 32 (ns k))) 0
says₃ k = says _ _ k.marks_at-c.ensures

says₄ : (k : After-last_marks-d) → Says k.args.r.0 k.last_marks-d.result.word (take 4 (drop 48 (ns k))) 12
says₄ k = says_last _ _ (take 4 (drop 48 (ns k))) k.last_marks-d.ensures

-- how many slots have the number
module _ (k : After-last_marks-d) {n : ℕ}
    (told : n ≡ slots_for 8 (halves_of k.marks_at-a.result.word) + slots_for 8 (halves_of k.marks_at-b.result.word) + slots_for 8 (halves_of k.marks_at-c.result.word) + slots_for 8 (halves_of k.last_marks-d.result.word)) where
  counted : n ≡ slots_for k.args.r.0 (ns k)
  counted =
      let all = slots-all k.args.r.0 (ns k) k.args.store.now k.args.out.now (long k) k.requires.0 in
      omega (arith, all, told, (says₁ k).count, (says₂ k).count, (says₃ k).count, (says₄ k).count)

-- what is copied after each word
module _ (k : After-last_marks-d) where
  abbrev Copied : List ℕ → ℕ → ℕ → Type 0
  Copied = Gone k.args.r.0 (ns k) k.args.store.now k.args.out.now (long k) k.requires.0

  -- a word's packets, from slot `first` on, copied behind those before
  abbrev Behind : ℕ → ℕ → List ℕ → ℕ → List ℕ → ℕ → Type 0
  Behind word first out at next end =
      (next ≡ over at (numbered 8 (halves_of word) (drop (packet_length * first) k.args.store.now)) out) × (end ≡ at + packet_length * slots_for 8 (halves_of word))

  copied₀ : Copied k.args.out.now 0 0
  copied₀ = gone_none _ _ _ _ _ _

  copied₁ : {o₁ : List ℕ} {a₁ : ℕ} → Behind k.marks_at-a.result.word 0 k.args.out.now 0 o₁ a₁ → Copied o₁ 16 a₁
  copied₁ b = gone_more _ _ _ _ _ _ copied₀ _ 16 0 0 (says₁ k) (omega arith) refl b.0 b.1

  copied₂ : {o₁ o₂ : List ℕ} {a₁ a₂ : ℕ} → Copied o₁ 16 a₁ → Behind k.marks_at-b.result.word 16 o₁ a₁ o₂ a₂ → Copied o₂ 32 a₂
  copied₂ c b = gone_more _ _ _ _ _ _ c _ 16 0 16 (says₂ k) (omega arith) refl b.0 b.1

  copied₃ : {o₂ o₃ : List ℕ} {a₂ a₃ : ℕ} → Copied o₂ 32 a₂ → Behind k.marks_at-c.result.word 32 o₂ a₂ o₃ a₃ → Copied o₃ 48 a₃
  copied₃ c b = gone_more _ _ _ _ _ _ c _ 16 0 32 (says₃ k) (omega arith) refl b.0 b.1

  copied₄ : {o₃ o₄ : List ℕ} {a₃ a₄ : ℕ} → Copied o₃ 48 a₃ → Behind k.last_marks-d.result.word 36 o₃ a₃ o₄ a₄ → Copied o₄ last_slot a₄
  copied₄ c b = gone_more _ _ _ _ _ _ c _ 4 12 36 (says₄ k) (omega arith) refl b.0 b.1

pub returns-then-out-packets : goal.returns-then-out-packets
returns-then-out-packets c =
    let k = (goal.at.returns-then-out-packets c).After-last_marks-d in
    let n = counted k c.count-packets.ensures.value in
    let less = lt-ltb (length c.args.out.now) (packet_length * slots_for c.args.r.0 (ns k)) (omega (arith, c.if-out-packets.true)) in
    record { value = rw less refl; out_after = rw less refl }

pub copy_marked-at-requires : goal.copy_marked-at-requires
copy_marked-at-requires c =
    let k = (goal.at.copy_marked-at-requires c).After-last_marks-d in
    let n = counted k c.count-packets.ensures.value in
    (gone_held _ _ _ _ _ _ (copied₀ k) _ 16 0 0 (says₁ k) (omega arith) refl, gone_room _ _ _ _ _ _ (copied₀ k) _ 16 0 0 (says₁ k) (omega arith) (omega (arith, c.if-out-packets.false)))

pub copy_marked-at-requires-2 : goal.copy_marked-at-requires-2
copy_marked-at-requires-2 c =
    let k = (goal.at.copy_marked-at-requires-2 c).After-last_marks-d in
    let n = counted k c.count-packets.ensures.value in
    let one = copied₁ k (c.copy_marked-at.ensures.out_after, c.copy_marked-at.ensures.value) in
    let room = gone_room _ _ _ _ _ _ one _ 16 0 16 (says₂ k) (omega arith) (omega (arith, c.if-out-packets.false)) in
    (gone_held _ _ _ _ _ _ one _ 16 0 16 (says₂ k) (omega arith) refl, omega (arith, room, c.copy_marked-at.auto.out))

pub copy_marked-at-requires-3 : goal.copy_marked-at-requires-3
copy_marked-at-requires-3 c =
    let k = (goal.at.copy_marked-at-requires-3 c).After-last_marks-d in
    let n = counted k c.count-packets.ensures.value in
    let one = copied₁ k (c.copy_marked-at.ensures.out_after, c.copy_marked-at.ensures.value) in
    let two = copied₂ k one (c.copy_marked-at-2.ensures.out_after, c.copy_marked-at-2.ensures.value) in
    let room = gone_room _ _ _ _ _ _ two _ 16 0 32 (says₃ k) (omega arith) (omega (arith, c.if-out-packets.false)) in
    (gone_held _ _ _ _ _ _ two _ 16 0 32 (says₃ k) (omega arith) refl, omega (arith, room, c.copy_marked-at-2.auto.out, c.copy_marked-at.auto.out))

pub copy_marked-requires : goal.copy_marked-requires
copy_marked-requires c =
    let k = (goal.at.copy_marked-requires c).After-last_marks-d in
    let n = counted k c.count-packets.ensures.value in
    let one = copied₁ k (c.copy_marked-at.ensures.out_after, c.copy_marked-at.ensures.value) in
    let two = copied₂ k one (c.copy_marked-at-2.ensures.out_after, c.copy_marked-at-2.ensures.value) in
    let three = copied₃ k two (c.copy_marked-at-3.ensures.out_after, c.copy_marked-at-3.ensures.value) in
    let room = gone_room _ _ _ _ _ _ three _ 4 12 36 (says₄ k) (omega arith) (omega (arith, c.if-out-packets.false)) in
    (gone_held _ _ _ _ _ _ three _ 4 12 36 (says₄ k) (omega arith) refl, omega (arith, room, c.copy_marked-at-3.auto.out, c.copy_marked-at-2.auto.out, c.copy_marked-at.auto.out))

pub returns : goal.returns
returns c =
    let k = (goal.at.returns c).After-last_marks-d in
    let n = counted k c.count-packets.ensures.value in
    let one = copied₁ k (c.copy_marked-at.ensures.out_after, c.copy_marked-at.ensures.value) in
    let two = copied₂ k one (c.copy_marked-at-2.ensures.out_after, c.copy_marked-at-2.ensures.value) in
    let three = copied₃ k two (c.copy_marked-at-3.ensures.out_after, c.copy_marked-at-3.ensures.value) in
    let four = copied₄ k three (c.copy_marked.ensures.out_after, c.copy_marked.ensures.value) in
    let holds = le-ltb (length c.args.out.now) (packet_length * slots_for c.args.r.0 (ns k)) (omega (arith, c.if-out-packets.false)) in
    record { value = rw (holds, n) refl; out_after = rw holds (gone_all _ _ _ _ _ _ four) }
