-- What a closed frame holds, by the calls since its begin.
use Rattle.std.specs.Prelude.{ℕ, Bool, cond, not, ◌&&◌, List, [], ◌∷◌, ◌++◌, leb, eqb, length, take, drop}
use Rattle.setting.specs.declared.Kind.{Kind}
use Rattle.setting.specs.declared.Setting.{Setting}
use Rattle.setting.specs.Setting.{blank}
use Rattle.setting.specs.Size.{slots_of, resized}
use Rattle.header_layout.specs.Header.{header}
use Rattle.setting.specs.declared.Announced.{Announced}
use Rattle.packet.specs.Packets.{packet_length, null_packet}
use Rattle.setting.specs.Announcing.{announced}
use Rattle.composer.specs.Composing.{counter_behind, version_behind, saying}
use Rattle.runs.specs.Runs.{Call, begin, put, close, Run, refusal_of, after}

-- what was asked of a frame: its setting with the plan, and for each stream number the packets that were lent, one behind the other
pub record Work : Type 0 where
  pub setting : Setting
  pub lent : ℕ → List ℕ

-- with another stream behind what was lent for r
abbrev pub added : ℕ → List ℕ → (ℕ → List ℕ) → ℕ → List ℕ
added r stream lent n = cond (eqb n r) (lent n ++ stream) (lent n)

-- a begin starts anew, a put adds what it lends; refused calls do nothing
unfoldable pub work_after : Run → Work → Call → Work
work_after w k (begin buffer s) = cond (eqb (refusal_of w (begin buffer s)) 0) (record { setting = s; lent = λ n. [] }) k
work_after w k (put stream r) =
    cond (eqb (refusal_of w (put stream r)) 0)
    (record { setting = k.setting; lent = added r stream k.lent })
    k
work_after w k close = k

unfoldable pub done_by : Run → Work → Call → List Work
done_by w k (begin buffer s) = []
done_by w k (put stream r) = []
done_by w k close = cond (eqb (refusal_of w close) 0) (k ∷ []) []

-- what was asked of each frame that the calls closed, in order
unfoldable pub works_of : Run → Work → List Call → List Work
works_of w k [] = []
works_of w k (c ∷ cs) = done_by w k c ++ works_of (after w c) (work_after w k c) cs

-- nothing was asked yet
unfoldable pub no_work : Work
no_work = record { setting = blank; lent = λ n. [] }

-- whether a slot planned for n carries a packet: one of what was lent for n is left
abbrev pub carries : ℕ → (ℕ → List ℕ) → Bool
carries n lent = not (eqb n 0) && leb packet_length (length (lent n))

-- what is left when a slot planned for n took a packet
abbrev pub taken : ℕ → (ℕ → List ℕ) → ℕ → List ℕ
taken n lent m = cond (eqb m n) (drop packet_length (lent m)) (lent m)

-- the slots in rising order, by the plan: each carries the next packet of its stream, or a null packet where there is none
unfoldable pub slots_filled : List ℕ → (ℕ → List ℕ) → List ℕ
slots_filled [] lent = []
slots_filled (n ∷ ns) lent =
    cond (carries n lent) (take packet_length (lent n) ++ slots_filled ns (taken n lent)) (null_packet ++ slots_filled ns lent)

-- their numbers: 0 where there is none
unfoldable pub numbers_filled : List ℕ → (ℕ → List ℕ) → List ℕ
numbers_filled [] lent = []
numbers_filled (n ∷ ns) lent =
    cond (carries n lent) (n ∷ numbers_filled ns (taken n lent)) (0 ∷ numbers_filled ns lent)

-- what the frame's header says: the setting, with the run's counter and version and the filled slots' numbers
unfoldable pub said : ℕ → ℕ → Work → Setting
said counter version k = saying counter version (numbers_filled k.setting.relative_ts_number k.lent) k.setting

-- each frame's work with what its header says, behind a header with this counter and version that announced this
unfoldable pub headed_behind : ℕ → ℕ → Announced → List Work → List (Setting × Work)
headed_behind counter version last [] = []
headed_behind counter version last (k ∷ ks) =
    (said (counter_behind counter) (version_behind version last k.setting) k, k)
    ∷ headed_behind (counter_behind counter) (version_behind version last k.setting) (announced k.setting) ks

-- those of a whole run: the first header has counter 0 and version 0
unfoldable pub headed : List Work → List (Setting × Work)
headed [] = []
headed (k ∷ ks) = (said 0 0 k, k) ∷ headed_behind 0 0 (announced k.setting) ks

-- the frame that carries it
unfoldable pub frame_of : Kind → ℕ → Setting × Work → List ℕ
frame_of kind pid h = header kind pid h.0 ++ slots_filled (resized (slots_of kind) h.1.setting.relative_ts_number) h.1.lent
