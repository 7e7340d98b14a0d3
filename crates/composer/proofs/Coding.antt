-- What was encoded is decoded again, and what was not is refused. Assumes nothing.
use Prim.Native.Nat.{ℕ, zero, suc, ◌+◌, ◌*◌, ◌/◌, ◌%◌, ◌<◌}
use mathlib.Core.Path.{◌≡◌, refl, ap, ap₂, ◌∙◌}
use mathlib.Core.Bool.{Bool, true, false, cond, not}
use mathlib.Core.List.{List, [], ◌∷◌, ◌++◌, map}
use native.Mathlib.Omega.{arith}
use borrow.Author.Tests.{eq-eqb, lt-leb, lt-ltb}
use lib.Dec.{eqb, leb}
use lib.ListN.{length, get_or, length-map}
use lib.Seq.{take_all}
use Rattle.slices.specs.Slices.{some_at_least}
use Rattle.slices.proofs.Any.{any_no}
use Rattle.setting.specs.Refusal.{Check, first_of}
use Rattle.setting.specs.Size.{slots_of}
use Rattle.setting.proofs.Refusals.{answers, passed}
use Rattle.packet.specs.Packets.{packet_length, frame_length}
use Rattle.composer.specs.Composing.{Composer, length_check, state_checks, answer, begin_of, put_of, close_of, begin_refusal, put_refusal, close_refusal}
use Rattle.setting_bytes.specs.Words.{word_bytes, word_at}
use Rattle.setting_bytes.specs.Kinds.{kind_number}
use Rattle.setting_bytes.specs.Settings.{part, announced_bytes, setting_length, setting_bytes, setting_of, announced_length}
use Rattle.setting_bytes.proofs.Parts.{length-announced}
use Rattle.setting_bytes.proofs.Back.{part-behind, part-first, byte_behind, long, announced_back, length_setting, setting_back}
use Rattle.setting_bytes.proofs.KindsBack.{kind_back, kind_is}
use Rattle.composer.specs.States.{composer_length, mark_byte, composer_bytes, is_coded, no_counter, composer_of, counter_at, filled_at, last_at, open_at, setting_at}
use Rattle.composer.specs.Calls.{begin_refused, put_refused, close_refused}
use Rattle.composer.specs.Demands.{StateBack, Uncoded, UncodedRefused}
use Rattle.composer.proofs.Parts.{front_bytes, length_front, Long-state}
use Rattle.counters.specs.Counters.{last_slot}

-- ---- marks

mark_back : (b : Bool) → eqb (mark_byte b) 1 ≡ b
unfolding mark_byte
mark_back true = refl
mark_back false = refl

marks_back : (ms : List Bool) → map (λ (n : ℕ). eqb n 1) (map mark_byte ms) ≡ ms
marks_back [] = refl
marks_back (m ∷ ms) = ap₂ (λ (x : Bool) (l : List Bool). x ∷ l) (mark_back m) (marks_back ms)

mark_low : (b : Bool) → mark_byte b < 2
unfolding mark_byte
mark_low true = omega arith
mark_low false = omega arith

marks_low : (ms : List Bool) (i : ℕ) → get_or (map mark_byte ms) i 0 < 2
marks_low [] i = omega arith
marks_low (m ∷ ms) zero = mark_low m
marks_low (m ∷ ms) (suc i) = marks_low ms i

no_other : (ms : List Bool) → some_at_least 2 (map mark_byte ms) ≡ false
unfolding some_at_least
no_other ms = any_no (λ i. leb 2 (get_or (map mark_byte ms) i 0)) (length (map mark_byte ms)) (λ i l. lt-leb 2 (get_or (map mark_byte ms) i 0) (marks_low ms i))

-- ---- a state's bytes

module _ (c : Composer) (n : Long-state c) where
  abbrev a : List ℕ
  a = announced_bytes c.last

  abbrev o : List ℕ
  o = mark_byte c.is_open ∷ []

  abbrev s : List ℕ
  s = setting_bytes c.setting

  abbrev m : List ℕ
  m = map mark_byte c.filled

  a-long : length a ≡ announced_length
  a-long = length-announced c.last n.streams

  s-long : length s ≡ setting_length
  s-long = length_setting c.setting n.setting

  -- the parts, where they stand
  last-part : part last_at announced_length (composer_bytes c) ≡ a
  unfolding composer_bytes
  last-part = part-behind last_at 0 announced_length (front_bytes c) (a ++ (o ++ (s ++ m))) (length_front c) ∙ part-first announced_length a (o ++ (s ++ m)) a-long

  open_byte : get_or (composer_bytes c) open_at 0 ≡ mark_byte c.is_open
  unfolding composer_bytes
  open_byte = byte_behind last_at announced_length (front_bytes c) (a ++ (o ++ (s ++ m))) (length_front c) ∙ byte_behind announced_length 0 a (o ++ (s ++ m)) a-long

  setting_part : part setting_at setting_length (composer_bytes c) ≡ s
  unfolding composer_bytes
  setting_part =
      part-behind last_at (announced_length + 1) setting_length (front_bytes c) (a ++ (o ++ (s ++ m))) (length_front c) ∙ part-behind announced_length 1 setting_length a (o ++ (s ++ m)) a-long
      ∙ part-behind 1 0 setting_length o (s ++ m) refl ∙ part-first setting_length s m s-long

  marks-part : part filled_at last_slot (composer_bytes c) ≡ m
  unfolding composer_bytes
  marks-part =
      let l = length-map c.filled mark_byte ∙ n.marks in
      part-behind last_at (announced_length + (1 + setting_length)) last_slot (front_bytes c) (a ++ (o ++ (s ++ m))) (length_front c) ∙ part-behind announced_length (1 + setting_length) last_slot a (o ++ (s ++ m)) a-long
      ∙ part-behind 1 setting_length last_slot o (s ++ m) refl ∙ part-behind setting_length 0 last_slot s m s-long ∙ take_all last_slot m (omega arith)

  -- PID, kind, counter and version
  pid_word : word_at 0 (composer_bytes c) ≡ c.pid
  unfolding composer_bytes word_bytes
  pid_word = let same : c.pid / 256 * 256 + c.pid % 256 ≡ c.pid = omega arith in same

  kind_byte : get_or (composer_bytes c) 2 0 ≡ kind_number c.kind
  unfolding composer_bytes word_bytes
  kind_byte = refl

  counter_byte : get_or (composer_bytes c) 3 0 ≡ c.counter
  unfolding composer_bytes word_bytes
  counter_byte = refl

  version_byte : get_or (composer_bytes c) 4 0 ≡ c.version
  unfolding composer_bytes word_bytes
  version_byte = refl

  coded : is_coded (composer_bytes c) ≡ true
  unfolding is_coded
  coded = rw (kind_byte, kind_is c.kind, open_byte, lt-ltb (mark_byte c.is_open) 2 (mark_low c.is_open), marks-part, no_other c.filled) refl

  back : setting_of s ≡ c.setting → composer_of (composer_bytes c) ≡ c
  unfolding composer_of
  back e =
      rw (
        coded,
        pid_word,
        kind_byte,
        kind_back c.kind,
        counter_byte,
        version_byte,
        last-part,
        announced_back c.last n.streams,
        open_byte,
        mark_back c.is_open,
        setting_part,
        e,
        marks-part,
        marks_back c.filled,
      ) refl

pub state_back : StateBack
state_back c t =
    back c
    (record { streams = (t.ts_ids.0, t.network_id.0, t.statuses.0); setting = long c.setting t.setting; marks = t.marks })
    (setting_back c.setting t.setting)

-- ---- bytes that are no state's

-- the counter refuses them
no_state : (state : List ℕ) → Uncoded state → (rest : List Check) → first_of (state_checks (composer_of state) ++ rest) ≡ 17
unfolding state_checks composer_of
no_state state u rest = passed 2 _ (ap not u.pid-allowed) ∙ answers 17 _ (ap (λ (t : Bool). leb 16 (cond t (get_or state counter_at 0) no_counter)) u.no_state)

module _ (state frame : List ℕ) (u : Uncoded state) (f : length frame ≡ frame_length (slots_of (composer_of state).kind)) where
  lent : (cs : List Check) → first_of (length_check (composer_of state) (length frame) ∷ cs) ≡ first_of cs
  lent cs = passed 1 cs (ap not (eq-eqb (length frame) (frame_length (slots_of (composer_of state).kind)) f))

  begun : (setting : List ℕ) → length setting ≡ setting_length → begin_refused state setting frame ≡ 17
  unfolding begin_refused begin_of answer begin_refusal
  begun setting t = rw (eq-eqb (length state) composer_length u.long, eq-eqb (length setting) setting_length t) (lent _ ∙ no_state state u _)

  put : (r : ℕ) (stream : List ℕ) → length stream % packet_length ≡ 0 → put_refused state r stream frame ≡ 17
  unfolding put_refused put_of put_refusal
  put r stream t =
      rw (eq-eqb (length state) composer_length u.long)
      (lent _ ∙ passed 1 _ (ap not (eq-eqb (length stream % packet_length) 0 t)) ∙ no_state state u _)

  closed : close_refused state frame ≡ 17
  unfolding close_refused close_of answer close_refusal
  closed = rw (eq-eqb (length state) composer_length u.long) (lent _ ∙ no_state state u _)

pub uncoded_refused : UncodedRefused
uncoded_refused state frame u f = (begun state frame u f, put state frame u f, closed state frame u f)
