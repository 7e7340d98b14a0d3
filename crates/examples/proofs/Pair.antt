-- The first places of a pair of carriers with 3 and 4 frames, by the walk over its places. Assumes nothing.
use Prim.Native.Nat.{ℕ, zero, suc, ◌+◌, ◌-◌, ◌*◌, ◌/◌, ◌%◌, ◌<◌}
use mathlib.Core.Path.{◌≡◌, refl, sym, ap, ap₂, ◌∙◌}
use mathlib.Core.Logic.{◌⊎◌, inl, inr}
use mathlib.Core.Bool.{Bool, cond}
use mathlib.Core.List.{List, [], ◌∷◌, ◌++◌, map, map-append, append_assoc}
use native.Mathlib.Omega.{arith}
use native.Mathlib.Decide.{dec_lt}
use borrow.Author.Tests.{lt-ltb, le-ltb}
use lib.Dec.{ltb}
use lib.ListN.{length, get_or, take, drop, replicate, length-append, length-replicate}
use lib.Seq.{take-append_seam, drop-append-add}
use Rattle.bits.specs.Fields.{bits_of, number, run, cut}
use Rattle.crc.specs.Crc.{register_from}
use Rattle.setting.specs.declared.Kind.{Kind}
use Rattle.setting.specs.declared.Setting.{Setting}
use Rattle.setting.specs.Size.{size_of, resized}
use Rattle.setting.specs.Setting.{blank}
use Rattle.setting.specs.Refusal.{first_of}
use Rattle.setting.specs.Rules.{width_checks, absent_checks, some_unavailable, pair_twice, bonding_checks, rule_checks}
use Rattle.slices.specs.Slices.{any_below, some_at_least}
use Rattle.counters.specs.Counters.{first_position, last_slot, last_carrier, available}
use Rattle.header_layout.specs.Rows.{pack, row_at, place}
use Rattle.header_layout.specs.Header.{paired, firsts, seconds, line_bits, body, header, header_length, reading}
use Rattle.header_layout.proofs.LaidOut.{laid_out}
use Rattle.header_layout.proofs.Whole.{length-header}
use Rattle.header_write.specs.Writing.{write_refusal, written}
use Rattle.header_write.proofs.Calls.{made}
use Rattle.packet.specs.Packets.{packet_length, frame_length, slot}
use Rattle.bond_places.specs.Order.{frame_packets, place_of, Place, comes_before, picked, sorted}
use Rattle.bond_places.specs.Walk.{twelfths, place_at, frames_before, packet_at, is_stop}
use Rattle.bond_places.proofs.Sorting.{picked_append}
use Rattle.bond_places.proofs.Sweep.{Grouped, NoHeader, swept}
use Rattle.bond_group.specs.Group.{frames_in, said, names, number_up_to, number_of, bonded_slot, bonded, place_in, order}
use Rattle.examples.specs.Examples.{pid, bonded_setting, bonded_settings, group_of, bond_of_two, first_seven, first_places}

-- ---- what the headers of the group say

-- the setting is written, and its header says it
record Says (s : Setting) : Type 0 where
  accepted : write_refusal Kind.Extended pid s header_length ≡ 0
  back : reading Kind.Extended (header Kind.Extended pid s) ≡ s

data Each : List Setting → Type 0 where
  none : Each []
  more : {s : Setting} {ss : List Setting} → Says s → Each ss → Each (s ∷ ss)

module _ (buffer : List ℕ) (lent : length buffer ≡ header_length) where
  written_is : (s : Setting) → Says s → written Kind.Extended pid s buffer ≡ header Kind.Extended pid s
  written_is s f = sym (made Kind.Extended pid s buffer (ap (write_refusal Kind.Extended pid s) lent ∙ f.accepted))

  abbrev slots : List ℕ
  slots = replicate (packet_length * last_slot) 0

  length-written : (s : Setting) → Says s → length (written Kind.Extended pid s buffer) ≡ packet_length
  length-written s f = ap length (written_is s f) ∙ length-header Kind.Extended pid s

  length_frame : (s : Setting) → Says s → length (written Kind.Extended pid s buffer ++ slots) ≡ frame_length last_slot
  length_frame s f =
      length-append (written Kind.Extended pid s buffer) slots
      ∙ ap₂ ◌+◌ (length-written s f) (length-replicate {A = ℕ} (packet_length * last_slot) 0)

  length-group : (ss : List Setting) → Each ss → length (group_of buffer ss) ≡ frame_length last_slot * length ss
  unfolding group_of
  length-group [] none = refl
  length-group (s ∷ ss) (more f fs) =
      length-append (written Kind.Extended pid s buffer ++ slots) (group_of buffer ss)
      ∙ ap₂ ◌+◌ (length_frame s f) (length-group ss fs)
      ∙ (let n = length ss in omega arith)

  said_each : (ss : List Setting) → Each ss → (j : ℕ) → j < length ss → said (group_of buffer ss) j ≡ get_or ss j blank
  unfolding group_of said slot
  said_each [] none j l = absurd (omega arith)
  said_each (s ∷ ss) (more f fs) zero l =
      let w = written Kind.Extended pid s buffer in
      ap (reading Kind.Extended)
      (ap (take packet_length) (append_assoc w slots (group_of buffer ss))
      ∙ ap (λ (n : ℕ). take n (w ++ (slots ++ group_of buffer ss))) (sym (length-written s f))
      ∙ take-append_seam w (slots ++ group_of buffer ss)
      ∙ written_is s f)
      ∙ f.back
  said_each (s ∷ ss) (more f fs) (suc j) l =
      let frame = written Kind.Extended pid s buffer ++ slots in
      let far : packet_length * (frame_packets * suc j) ≡ length frame + packet_length * (frame_packets * j) = rw (length_frame s f) (omega arith) in
      ap (λ (p : List ℕ). reading Kind.Extended (take packet_length p))
      (ap (λ (n : ℕ). drop n (frame ++ group_of buffer ss)) far ∙ drop-append-add frame (group_of buffer ss) (packet_length * (frame_packets * j)))
      ∙ said_each ss fs j (omega arith)

all_say : Each bonded_settings
unfolding size_of resized write_refusal first_of width_checks absent_checks rule_checks bonding_checks some_unavailable pair_twice any_below some_at_least header body line_bits laid_out pack paired firsts seconds run bits_of cut number register_from reading row_at place available
all_say =
    more {s = bonded_setting 1 3 1} (record { accepted = refl; back = refl })
    (more {s = bonded_setting 1 3 2} (record { accepted = refl; back = refl })
    (more {s = bonded_setting 1 3 3} (record { accepted = refl; back = refl })
    (more {s = bonded_setting 2 4 1} (record { accepted = refl; back = refl })
    (more {s = bonded_setting 2 4 2} (record { accepted = refl; back = refl })
    (more {s = bonded_setting 2 4 3} (record { accepted = refl; back = refl })
    (more {s = bonded_setting 2 4 4} (record { accepted = refl; back = refl }) none))))))

-- ---- the order of the group, by what its headers say

-- the frames of each carrier
abbrev counts : List ℕ
counts = 3 ∷ 4 ∷ []

-- the place of packet m, and whether it is bonded, where the headers say this
abbrev place_by : (ℕ → Setting) → ℕ → Place
place_by says m =
    record {
      carrier = (says (m / frame_packets)).carrier_sequence;
      frames = (says (m / frame_packets)).number_of_frames;
      at = place_of (says (m / frame_packets)).frame_position.0 (m % frame_packets);
    }

abbrev bonded_by : (ℕ → Setting) → ℕ → Bool
bonded_by says m = bonded_slot bond_of_two (says (m / frame_packets)) (m % frame_packets)

abbrev order_by : (ℕ → Setting) → ℕ → List ℕ
order_by says n = sorted (λ m m'. comes_before (place_by says m) (place_by says m')) (picked (bonded_by says) 0 (frame_packets * n))

-- the seven headers, and behind them anything
module _ (behind : ℕ → Setting) where
  unfoldable saying : ℕ → Setting
  saying j = cond (ltb j 7) (get_or bonded_settings j blank) (behind j)

  at_frame : (j i c n f : ℕ) → i < frame_packets
      → (saying j).carrier_sequence ≡ c → (saying j).number_of_frames ≡ n → (saying j).frame_position.0 ≡ f
      → place_by saying (frame_packets * j + i) ≡ record { carrier = c; frames = n; at = frame_packets * (f - first_position) + i }
  at_frame j i c n f h is_c is-n is_f =
      let d : (frame_packets * j + i) / frame_packets ≡ j = omega arith in
      let r : (frame_packets * j + i) % frame_packets ≡ i = omega arith in
      rw (d, r, is_c, is-n, is_f) refl

  placed : (k q i : ℕ) → k < 2 → q < get_or counts k 0 → i < frame_packets
      → place_by saying (frame_packets * (frames_before counts k + q) + i) ≡ record { carrier = k + 1; frames = get_or counts k 0; at = frame_packets * q + i }
  unfolding frames_before saying
  placed zero zero i l m h = at_frame 0 i 1 3 1 h refl refl refl
  placed zero (suc zero) i l m h = at_frame 1 i 1 3 2 h refl refl refl
  placed zero (suc (suc zero)) i l m h = at_frame 2 i 1 3 3 h refl refl refl
  placed zero (suc (suc (suc q))) i l m h = absurd (omega arith)
  placed (suc zero) zero i l m h = at_frame 3 i 2 4 1 h refl refl refl
  placed (suc zero) (suc zero) i l m h = at_frame 4 i 2 4 2 h refl refl refl
  placed (suc zero) (suc (suc zero)) i l m h = at_frame 5 i 2 4 3 h refl refl refl
  placed (suc zero) (suc (suc (suc zero))) i l m h = at_frame 6 i 2 4 4 h refl refl refl
  placed (suc zero) (suc (suc (suc (suc q)))) i l m h = absurd (omega arith)
  placed (suc (suc k)) q i l m h = absurd (omega arith)

  framed : (k : ℕ) → k < 2 → (get_or counts k 0 ≡ 3) ⊎ (get_or counts k 0 ≡ 4)
  framed zero l = inl refl
  framed (suc zero) l = inr refl
  framed (suc (suc k)) l = absurd (omega arith)

  grouped : Grouped 2 counts 7 (place_by saying)
  unfolding frames_before
  grouped = record { few = omega arith; framed = framed; all = refl; placed = placed }

  no_header : NoHeader (bonded_by saying)
  unfolding bonded_slot
  no_header q = let r : (frame_packets * q) % frame_packets ≡ 0 = omega arith in rw r refl

  -- the walk's steps at the first thirteen parts
  abbrev steps : ℕ
  steps = last_carrier * 13

  abbrev stopping : ℕ → Bool
  stopping = is_stop 2 counts (bonded_by saying)

  seven : map (packet_at counts) (picked stopping 0 steps) ≡ 160 ∷ 1 ∷ 161 ∷ 2 ∷ 162 ∷ 3 ∷ 163 ∷ []
  unfolding picked is_stop packet_at place_at frames_before saying bonded_slot number_of number_up_to names available
  seven = refl

  abbrev rest : List ℕ
  rest = map (packet_at counts) (picked stopping (0 + steps) (last_carrier * twelfths - steps))

  in_order : order_by saying 7 ≡ (160 ∷ 1 ∷ 161 ∷ 2 ∷ 162 ∷ 3 ∷ 163 ∷ []) ++ rest
  in_order =
      let e : last_carrier * twelfths ≡ steps + (last_carrier * twelfths - steps) = refl in
      sym (swept 2 7 counts (place_by saying) (bonded_by saying) grouped no_header)
      ∙ ap (map (packet_at counts)) (ap (picked stopping 0) e ∙ picked_append stopping 0 steps (last_carrier * twelfths - steps))
      ∙ map-append (packet_at counts) (picked stopping 0 steps) (picked stopping (0 + steps) (last_carrier * twelfths - steps))
      ∙ ap (λ (l : List ℕ). l ++ rest) seven

  by_saying : first_seven (place_by saying) (order_by saying 7) ≡ 2 ∷ 1 ∷ 1 ∷ 1 ∷ 2 ∷ 2 ∷ 1 ∷ 2 ∷ 2 ∷ 3 ∷ 1 ∷ 3 ∷ 2 ∷ 4 ∷ 1 ∷ []
  unfolding saying
  by_saying = ap (first_seven (place_by saying)) in_order

-- ---- the group's headers say so

module _ (buffer : List ℕ) (lent : length buffer ≡ header_length) where
  abbrev group : List ℕ
  group = group_of buffer bonded_settings

  said_is : (j : ℕ) → said group j ≡ saying (said group) j
  unfolding saying
  said_is j = by_count (dec_lt j 7)
    where
      by_count : Dec (j < 7) → said group j ≡ cond (ltb j 7) (get_or bonded_settings j blank) (said group j)
      by_count (yes l) = rw (lt-ltb j 7 l) (said_each buffer lent bonded_settings all_say j l)
      by_count (no l) = rw (le-ltb j 7 (omega arith)) refl

  frames_are : frames_in group ≡ 7
  frames_are = ap (λ (n : ℕ). n / frame_length last_slot) (length-group buffer lent bonded_settings all_say)

  abbrev shown_by : (ℕ → Setting) → ℕ → List ℕ
  shown_by says n = first_seven (place_by says) (order_by says n)

  pub first-places : first_places buffer ≡ 2 ∷ 1 ∷ 1 ∷ 1 ∷ 2 ∷ 2 ∷ 1 ∷ 2 ∷ 2 ∷ 3 ∷ 1 ∷ 3 ∷ 2 ∷ 4 ∷ 1 ∷ []
  unfolding first_places order place_in bonded
  first-places =
      ap (shown_by (said group)) frames_are
      ∙ ap (λ (says : ℕ → Setting). shown_by says 7) (λ t j. said_is j t)
      ∙ by_saying (said group)
