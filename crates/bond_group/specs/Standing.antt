-- Where the headers of a group stand, and the checks of a group.
use Rattle.std.specs.Prelude.{ℕ, zero, suc, ◌+◌, ◌*◌, ◌%◌, Bool, cond, not, ◌&&◌, ◌||◌, List, [], ◌∷◌, ◌++◌, eqb, length}
use Rattle.slices.specs.Slices.{any_below}
use Rattle.setting.specs.declared.Kind.{Kind}
use Rattle.setting.specs.declared.Setting.{Setting}
use Rattle.counters.specs.Counters.{first_position, within, last_slot, last_carrier}
use Rattle.setting.specs.Setting.{blank}
use Rattle.setting.specs.Refusal.{Check, first_of}
use Rattle.setting.specs.Rules.{pid_allowed}
use Rattle.header_check.specs.OnPaper.{Refusal}
use Rattle.header_check.specs.Checking.{read_checks, refusal_by}
use Rattle.packet.specs.Packets.{frame_length, slot}
use Rattle.bond_group.specs.declared.Bond.{Bond}
use Rattle.bond_group.specs.declared.headers.Shown.{Shown}
use Rattle.bond_places.specs.Order.{frame_packets}
use Rattle.bond_group.specs.Group.{frames_in, said, carries}

-- ---- where a header stands

-- the fields of a header that tell where it stands
unfoldable pub shown_by : Setting → Shown
shown_by s =
    record {
      group_id = s.group_id;
      number_of_carriers = s.number_of_carriers;
      carrier_sequence = s.carrier_sequence;
      number_of_frames = s.number_of_frames;
      frame_position = s.frame_position;
    }

-- what stands before frame j: the header of the frame before; before the first frame a blank one
unfoldable pub before : List ℕ → ℕ → Shown
before group zero = shown_by blank
before group (suc j) = shown_by (said group j)

-- whether a frame is the last of its super frame. The blank header before the first frame counts as last
unfoldable pub is_last : Shown → Bool
is_last h = eqb h.frame_position.0 h.number_of_frames

-- whether it is the last frame of the last carrier
unfoldable pub is_end : ℕ → Shown → Bool
is_end carriers h = is_last h && eqb h.carrier_sequence carriers

-- the carrier and the position that the next header has to show
unfoldable pub next_carrier : Shown → ℕ
next_carrier h = cond (is_last h) (h.carrier_sequence + 1) h.carrier_sequence

unfoldable pub next_position : Shown → ℕ
next_position h = cond (is_last h) first_position (h.frame_position.0 + 1)

-- 14: header h does not fit behind the one before it, or has another group id than the first. In this order: the group was complete before
-- it; it is of another carrier than the one due; its group id, number of carriers or number_of_frames differs; it is out of position
unfoldable pub standing_checks : ℕ → ℕ → Shown → Shown → List Check
standing_checks carriers first_group_id behind h =
    (14, is_end carriers behind)
    ∷ (14, not (eqb h.carrier_sequence (next_carrier behind)))
    ∷ (14, not (eqb h.group_id first_group_id))
    ∷ (14, not (eqb h.number_of_carriers carriers))
    ∷ (14, not (is_last behind) && not (eqb h.number_of_frames behind.number_of_frames))
    ∷ (14, not (eqb h.frame_position.0 (next_position behind)))
    ∷ []

-- ---- the checks

-- 1, 2, 17: the group's length, the PID and the number of carriers
unfoldable pub call_checks : Bond → ℕ → List Check
call_checks b group =
    (1, eqb group 0 || not (eqb (group % frame_length last_slot) 0))
    ∷ (2, not (pid_allowed b.pid))
    ∷ (17, not (within 1 last_carrier b.carriers))
    ∷ []

-- the checks of the header of frame j: those of a read, then 14
unfoldable pub header_checks : Bond → List ℕ → ℕ → List Check
header_checks b group j =
    read_checks Kind.Extended b.pid (slot (frame_packets * j) group)
    ++ standing_checks b.carriers (said group 0).group_id (before group j) (shown_by (said group j))

-- those of n headers from frame j on, one after another
unfoldable pub headers_checks : Bond → List ℕ → ℕ → ℕ → List Check
headers_checks b group j zero = []
headers_checks b group j (suc n) = header_checks b group j ++ headers_checks b group (j + 1) n

-- all headers, then 14 for missing frames
unfoldable pub group_checks : Bond → List ℕ → List Check
group_checks b group =
    headers_checks b group 0 (frames_in group) ++ ((14, not (is_end b.carriers (before group (frames_in group)))) ∷ [])

-- all checks of a group: those of the call itself, then those of the headers
unfoldable pub plan_checks : Bond → List ℕ → List Check
plan_checks b group = call_checks b (length group) ++ group_checks b group

-- the first of n frames from frame j on whose header is refused
unfoldable pub refused_from : Bond → List ℕ → ℕ → ℕ → ℕ
refused_from b group j zero = j
refused_from b group j (suc n) = cond (eqb (first_of (header_checks b group j)) 0) (refused_from b group (j + 1) n) j

-- the first frame of the group whose header is refused, and that header
abbrev pub refused_frame : Bond → List ℕ → ℕ
refused_frame b group = refused_from b group 0 (frames_in group)

unfoldable pub refused_header : Bond → List ℕ → List ℕ
refused_header b group = slot (frame_packets * refused_frame b group) group

-- the refusal of a group by this number: beside 7 stands the remainder of the header which is refused
abbrev pub group_refusal : Bond → List ℕ → ℕ → Refusal
group_refusal b group n = refusal_by n (refused_header b group)

-- whether some header carries the stream
unfoldable pub some_carries : Bond → List ℕ → Bool
some_carries b group = any_below (frames_in group) (λ j. carries b (said group j))
