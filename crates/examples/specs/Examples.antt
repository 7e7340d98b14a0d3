-- The small examples of the scope document: one table, which one statement says to be right.
use Rattle.std.specs.Prelude.{ℕ, ◌*◌, ◌≡◌, false, true, cond, List, [], ◌∷◌, ◌++◌, map, eqb, length, get_or, take, drop, replicate}
use Rattle.setting.specs.declared.Kind.{Kind}
use Rattle.setting.specs.declared.Setting.{Setting}
use Rattle.counters.specs.Counters.{last_slot, last_stream}
use Rattle.setting.specs.Setting.{private_bytes, auxiliary_bytes, blank}
use Rattle.header_layout.specs.Header.{header_length}
use Rattle.header_write.specs.Writing.{write_refusal, written}
use Rattle.setting.specs.Announcing.{announced}
use Rattle.packet.specs.Packets.{packet_length}
use Rattle.composer.specs.Composing.{Composer, next_counter, next_version}
use Rattle.receiver.specs.declared.Stage.{Stage}
use Rattle.receiver.specs.declared.Row.{Row}
use Rattle.bond_places.specs.Order.{Place}
use Rattle.bond_group.specs.declared.Bond.{Bond}
use Rattle.bond_group.specs.Group.{place_in, order}
use Rattle.receiver.specs.Table.{good, other, row_of, makes_ready, dropped_by}

-- an example: its number in the document, what the definitions say, and what the document says
pub record Example : Type 0 where
  pub number : ℕ
  pub said : List ℕ
  pub written : List ℕ

-- the header PID
abbrev pub pid : ℕ
pid = 0x1FF0

-- TS_id of streams 1 to 15. All have the same original_network_id
abbrev pub identifiers : List ℕ
identifiers = 1 ∷ 2 ∷ 3 ∷ 4 ∷ 5 ∷ 6 ∷ 7 ∷ 8 ∷ 9 ∷ 10 ∷ 11 ∷ 12 ∷ 13 ∷ 14 ∷ 0xABCD ∷ []

-- ---- 1 to 8: what a write answers and leaves

-- a plain setting with counter 9, version 5, type 0 and frame type 1: its availability, its control fields and its slots
abbrev pub setting_with : ℕ → List ℕ → ℕ → List ℕ → Setting
setting_with availability statuses emergency numbers =
    record {
      continuity_counter = 9;
      version_number = 5;
      slot_allocation_type = 0;
      frame_type = 1;
      availability = availability;
      ts_id = identifiers;
      original_network_id = replicate last_stream 4;
      receive_status = statuses;
      emergency_indicator = emergency;
      relative_ts_number = numbers;
      private_data = replicate private_bytes 0;
      auxiliary = replicate auxiliary_bytes 0;
      group_id = 0;
      number_of_carriers = 0;
      carrier_sequence = 0;
      number_of_frames = 0;
      frame_position = record { 0 = 0 };
    }

-- streams 1, 2 and 15 available, with statuses 2 and 1 of the first two
abbrev pub first : Setting
first = setting_with 0x6001 (2 ∷ 1 ∷ replicate 13 0) 0 (replicate last_slot 0)

-- the same with status 3 of stream 15 alone, and emergency 0 or 1
abbrev pub second : ℕ → Setting
second emergency = setting_with 0x6001 (replicate 14 0 ++ (3 ∷ [])) emergency (replicate last_slot 0)

-- streams 3, 9 and 12 available, in slots 1, 52 and 2
abbrev pub third : Setting
third = setting_with 0x1048 (replicate last_stream 0) 0 (3 ∷ 12 ∷ replicate 49 0 ++ (9 ∷ []))

-- what a write of the setting answers
abbrev pub answered : List ℕ → Setting → ℕ
answered buffer s = write_refusal Kind.Plain pid s (length buffer)

-- n bytes of what it leaves in the lent buffer, from byte `at` on
abbrev pub bytes : List ℕ → Setting → ℕ → ℕ → List ℕ
bytes buffer s at n = take n (drop at (written Kind.Plain pid s buffer))

-- ---- 9: a run's next header

-- its counter and its version, where the last one had these and announced something else
abbrev pub next_after : ℕ → ℕ → List ℕ
next_after counter version =
    let c : Composer =
    record {
      pid = pid;
      kind = Kind.Plain;
      counter = counter;
      version = version;
      last = announced blank;
      is_open = true;
      setting = first;
      filled = replicate last_slot false;
    } in
    next_counter c ∷ next_version c ∷ []

-- ---- 10: two bonded carriers

-- the setting of frame f of one of two carriers, which has so many frames. All slots are stream 1's
abbrev pub bonded_setting : ℕ → ℕ → ℕ → Setting
bonded_setting carrier frames f =
    record {
      continuity_counter = 0;
      version_number = 0;
      slot_allocation_type = 0;
      frame_type = 2;
      availability = 0x4000;
      ts_id = identifiers;
      original_network_id = replicate last_stream 4;
      receive_status = replicate last_stream 0;
      emergency_indicator = 0;
      relative_ts_number = replicate last_slot 1;
      private_data = replicate private_bytes 0;
      auxiliary = replicate auxiliary_bytes 0;
      group_id = 0;
      number_of_carriers = 2;
      carrier_sequence = carrier;
      number_of_frames = frames;
      frame_position = record { 0 = f };
    }

-- carrier 1 has 3 frames, carrier 2 has 4
abbrev pub bonded_settings : List Setting
bonded_settings =
    bonded_setting 1 3 1 ∷ bonded_setting 1 3 2 ∷ bonded_setting 1 3 3
    ∷ bonded_setting 2 4 1 ∷ bonded_setting 2 4 2 ∷ bonded_setting 2 4 3 ∷ bonded_setting 2 4 4 ∷ []

-- a group with these headers, as they are written, and zeros in all slots
unfoldable pub group_of : List ℕ → List Setting → List ℕ
group_of buffer [] = []
group_of buffer (s ∷ ss) = (written Kind.Extended pid s buffer ++ replicate (packet_length * last_slot) 0) ++ group_of buffer ss

-- stream 1, bonded over both
abbrev pub bond_of_two : Bond
bond_of_two = record { carriers = 2; pid = pid; ts_id = 1; original_network_id = 4 }

-- carrier and place of each of these packets
abbrev pub shown : (ℕ → Place) → List ℕ → List ℕ
shown place [] = []
shown place (m ∷ ms) = (place m).carrier ∷ (place m).at ∷ shown place ms

-- 1 where two places tie: neither comes before the other but for the carriers
abbrev pub tied : Place → Place → ℕ
tied a b = cond (eqb (a.at * b.frames) (b.at * a.frames)) 1 0

-- of the first seven of these packets carrier and place, and whether the last two tie
abbrev pub first_seven : (ℕ → Place) → List ℕ → List ℕ
first_seven place ms = shown place (take 7 ms) ++ (tied (place (get_or ms 5 0)) (place (get_or ms 6 0)) ∷ [])

-- the bonded packets of the group, in the order of bonding and with the places of bonding
unfoldable pub first_places : List ℕ → List ℕ
first_places buffer = first_seven (place_in (group_of buffer bonded_settings)) (order bond_of_two (group_of buffer bonded_settings))

-- ---- 11 and 12: the receiver's table

-- whether a packet makes an open frame ready, and why it drops it: 1 short, 2 long, 3 jump, 4 broken
abbrev pub told : Row → List ℕ
told r = cond (makes_ready r.event) 1 0 ∷ dropped_by r.event ∷ []

-- ---- the table

-- In front of a header's bytes stands what the write answers: 0, since it is not refused
unfoldable pub examples : List ℕ → List Example
examples buffer =
    record { number = 1; said = answered buffer first ∷ bytes buffer first 6 1; written = 0 ∷ 0xA1 ∷ [] }
    ∷ record { number = 2; said = answered buffer first ∷ bytes buffer first 7 2; written = 0 ∷ 0xC0 ∷ 0x03 ∷ [] }
    ∷ record { number = 3; said = answered buffer first ∷ bytes buffer first 4 2; written = 0 ∷ 0xFA ∷ 0x86 ∷ [] }
    ∷ record { number = 4; said = answered buffer first ∷ bytes buffer first 1 3; written = 0 ∷ 0x1F ∷ 0xF0 ∷ 0x19 ∷ [] }
    ∷ record { number = 5; said = answered buffer first ∷ bytes buffer first 65 2; written = 0 ∷ 0xAB ∷ 0xCD ∷ [] }
    ∷ record { number = 6; said = answered buffer first ∷ bytes buffer first 69 1; written = 0 ∷ 0x90 ∷ [] }
    ∷ record {
      number = 7;
      said = answered buffer (second 0) ∷ bytes buffer (second 0) 72 1 ++ (answered buffer (second 1) ∷ bytes buffer (second 1) 72 1);
      written = 0 ∷ 0x0E ∷ 0 ∷ 0x0F ∷ [];
    }
    ∷ record { number = 8; said = answered buffer third ∷ bytes buffer third 73 1 ++ bytes buffer third 98 1; written = 0 ∷ 0x3C ∷ 0x09 ∷ [] }
    ∷ record { number = 9; said = next_after 15 7; written = 0 ∷ 0 ∷ [] }
    ∷ record { number = 10; said = first_places buffer; written = 2 ∷ 1 ∷ 1 ∷ 1 ∷ 2 ∷ 2 ∷ 1 ∷ 2 ∷ 2 ∷ 3 ∷ 1 ∷ 3 ∷ 2 ∷ 4 ∷ 1 ∷ [] }
    ∷ record {
      number = 11;
      said = told (row_of last_slot (Stage.Open 4 52) good 5) ++ (told (row_of last_slot (Stage.Open 4 51) good 5) ++ told (row_of last_slot (Stage.Open 4 52) other 0));
      written = 1 ∷ 0 ∷ 0 ∷ 1 ∷ 0 ∷ 2 ∷ [];
    }
    ∷ record { number = 12; said = told (row_of last_slot (Stage.Open 15 52) good 15); written = 0 ∷ 3 ∷ [] } ∷ []

-- whatever stood in the lent buffer: the table has the twelve examples, and what the definitions say of each is what the document says
abbrev pub ExamplesHold : Type 0
ExamplesHold =
    (buffer : List ℕ) → length buffer ≡ header_length
    → (map (λ e. e.number) (examples buffer) ≡ 1 ∷ 2 ∷ 3 ∷ 4 ∷ 5 ∷ 6 ∷ 7 ∷ 8 ∷ 9 ∷ 10 ∷ 11 ∷ 12 ∷ [])
    × (map (λ e. e.said) (examples buffer) ≡ map (λ e. e.written) (examples buffer))
