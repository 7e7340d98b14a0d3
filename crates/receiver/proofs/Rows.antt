-- Rows of the receiver's table. Assumes nothing.
use Prim.Native.Nat.{ℕ, ◌+◌, ◌≤◌, ◌<◌}
use mathlib.Core.Path.{◌≡◌, refl}
use native.Mathlib.Omega.{arith}
use borrow.Author.Tests.{eq-eqb, ne_eqb, lt-ltb, le-ltb}
use Rattle.receiver.specs.declared.Stage.{Stage}
use Rattle.receiver.specs.declared.Event.{Event}
use Rattle.receiver.specs.Table.{good, broken, other, counter_step, row, open_row, row_of}

-- ---- a good header on an open frame

pub short : (slots from k to : ℕ) → k < slots → open_row slots from k good to ≡ row Event.Short (Stage.Open to 0)
unfolding open_row
short slots from k to h = rw (ne_eqb k slots (omega arith), lt-ltb k slots h) refl

pub vouched : (slots from k to : ℕ) → k ≡ slots → counter_step from to ≡ 1 → open_row slots from k good to ≡ row Event.Ready (Stage.Ready to)
unfolding open_row
vouched slots from k to h e = rw (eq-eqb k slots h, eq-eqb (counter_step from to) 1 e) refl

pub jump : (slots from k to : ℕ) → k ≡ slots → (counter_step from to ≡ 1 → ⊥) → open_row slots from k good to ≡ row Event.Jump (Stage.Open to 0)
unfolding open_row
jump slots from k to h d = rw (eq-eqb k slots h, ne_eqb (counter_step from to) 1 d, le-ltb k slots (omega arith)) refl

-- more packets than there are slots
pub jump_over : (slots from k to : ℕ) → slots < k → open_row slots from k good to ≡ row Event.Jump (Stage.Open to 0)
unfolding open_row
jump_over slots from k to h = rw (ne_eqb k slots (omega arith), le-ltb k slots (omega arith)) refl

-- ---- another packet on an open frame

pub kept : (slots from k to : ℕ) → k < slots → open_row slots from k other to ≡ row Event.Stored (Stage.Open from (k + 1))
unfolding open_row
kept slots from k to h = rw (lt-ltb k slots h) refl

pub long : (slots from k to : ℕ) → slots ≤ k → open_row slots from k other to ≡ row Event.Long Stage.Waiting
unfolding open_row
long slots from k to h = rw (le-ltb k slots h) refl

-- ---- only a good header's counter counts

pub other_counter : (slots : ℕ) (stage : Stage) (to : ℕ) → row_of slots stage other 0 ≡ row_of slots stage other to
unfolding row_of open_row
other_counter slots Stage.Waiting to = refl
other_counter slots (Stage.Open from k) to = refl
other_counter slots (Stage.Ready from) to = refl

pub broken_counter : (slots r : ℕ) (stage : Stage) (to : ℕ) → row_of slots stage (broken r) 0 ≡ row_of slots stage (broken r) to
unfolding row_of open_row
broken_counter slots r Stage.Waiting to = refl
broken_counter slots r (Stage.Open from k) to = refl
broken_counter slots r (Stage.Ready from) to = refl
