-- Runs of which no call is refused: frame after frame begun, given one packet for stream 1, and closed. Assumes nothing.
use Prim.Native.Nat.{ℕ, ◌*◌, ◌%◌, ◌^◌}
use mathlib.Core.Path.{◌≡◌, refl, sym, ap, ap₂, subst, ◌∙◌}
use mathlib.Core.Bool.{Bool, true, false, decide}
use mathlib.Core.List.{List, [], ◌∷◌, ◌++◌, map}
use native.Mathlib.Omega.{arith}
use lib.Dec.{lit<}
use lib.ListN.{length, drop, replicate, length-drop, length-replicate}
use Rattle.bits.specs.Fields.{bits_of, number, run, cut}
use Rattle.slices.specs.Slices.{any_below, some_at_least}
use Rattle.setting.specs.declared.Kind.{Kind}
use Rattle.setting.specs.declared.Setting.{Setting}
use Rattle.counters.specs.Counters.{last_stream, available}
use Rattle.setting.specs.Size.{slots_of, resized}
use Rattle.setting.proofs.Sizes.{sized, length-resized}
use Rattle.setting.specs.Setting.{private_bytes, auxiliary_bytes, OfItsTypes}
use Rattle.setting.specs.Refusal.{first_of, none, more}
use Rattle.setting.specs.Rules.{width_checks, rule_checks}
use Rattle.setting.proofs.Refusals.{none_append}
use Rattle.setting.proofs.Checked.{width_none, rule_none}
use Rattle.setting.proofs.Fields.{fit_some}
use Rattle.header_layout.specs.Rows.{place, row_at}
use Rattle.header_layout.specs.Meets.{MeetsRules}
use Rattle.header_layout.specs.Layout.{start_table, row_with}
use Rattle.packet.specs.Packets.{packet_length, frame_length, slot, unfit, some_unfit_in}
use Rattle.composer.specs.Composing.{Composer, opened, marked, begin_refusal, put_refusal, close_refusal}
use Rattle.runs.specs.Runs.{Call, begin, put, close, Each, none, more, OfTypes, Run, started, refusal_of, after, frames_of}
use Rattle.runs.specs.Work.{Work, added, work_after, done_by, works_of, no_work, headed, frame_of}
use Rattle.runs.proofs.Carried.{length-slots}
use Rattle.runs.proofs.Held.{begun_run, put-run, begun_work, put_work, Opened, Sound, sound_after, begin_none, put_none, close_one}
use Rattle.runs.proofs.InOrder.{InOrder, fresh-order, order-after, begin_passes, put_passes, close_passes}
use Rattle.runs.proofs.Composed.{sound_start, Good, hold, each_good}
use Rattle.runs.specs.Composed.{valued}
use Rattle.runs.proofs.Demands.{run_alike}
use Rattle.runs.specs.Firmware.{FirmwareCall, begins, puts, closes, OfBytes}
use Rattle.runs.specs.Demands.{RunOfCalls, frames_closed}
use Rattle.composer.specs.States.{composer_length}
use Rattle.composer.specs.Calls.{start_refused}
use Rattle.setting_bytes.specs.Kinds.{kind_number}
use Rattle.setting_bytes.specs.Settings.{setting_length, setting_bytes}
use Rattle.setting_bytes.proofs.Back.{long, length_setting, setting_back}
use Rattle.setting_bytes.proofs.KindsBack.{kind_back}
use Rattle.bits.specs.Fields.{Fit}
use borrow.Author.Tests.{eq-eqb}

-- ---- the packet and the buffer

abbrev pub the_pid : ℕ
the_pid = 0x1FF0

unfoldable pub the_packet : List ℕ
the_packet = 0x47 ∷ replicate 187 0

abbrev pub the_buffer : Kind → List ℕ
the_buffer kind = replicate (frame_length (slots_of kind)) 0

pub packet_long : length the_packet ≡ packet_length
unfolding the_packet
packet_long = refl

pub fit_packet : unfit the_pid the_packet ≡ false
unfolding the_packet unfit start_table row_with decide row_at place cut run bits_of number
fit_packet = refl

all_fit : some_unfit_in the_pid the_packet ≡ false
unfolding some_unfit_in any_below slot the_packet
all_fit = fit_packet

-- ---- the settings

-- a setting that is not refused, with stream 1 available
pub record Takes (kind : Kind) (s : Setting) : Type 0 where
  pub typed : OfItsTypes s
  pub meets : MeetsRules kind the_pid s
  pub first : available s.availability 1 ≡ true
  pub bytes : Fit 8 (setting_bytes s)

-- stream 1 has slot 1
abbrev pub plan : List ℕ
plan = 1 ∷ replicate 51 0

-- of which this is the frame type, and these are the bonding fields
unfoldable pub one_slot : ℕ → ℕ → ℕ → ℕ → ℕ → Setting
one_slot type carriers sequence frames position =
    record {
      continuity_counter = 0;
      version_number = 0;
      slot_allocation_type = 0;
      frame_type = type;
      availability = 2 ^ 14;
      ts_id = replicate last_stream 0;
      original_network_id = replicate last_stream 0;
      receive_status = replicate last_stream 0;
      emergency_indicator = 0;
      relative_ts_number = plan;
      private_data = replicate private_bytes 0;
      auxiliary = replicate auxiliary_bytes 0;
      group_id = 0;
      number_of_carriers = carriers;
      carrier_sequence = sequence;
      number_of_frames = frames;
      frame_position = record { 0 = position };
    }

module _ (type carriers sequence frames position : ℕ) where
  abbrev one : Setting
  one = one_slot type carriers sequence frames position

  one_types : OfItsTypes one
  unfolding one_slot some_at_least any_below
  one_types =
      record {
        ts_ids = (refl, fit_some 16 (replicate last_stream 0) refl);
        network_id = (refl, fit_some 16 (replicate last_stream 0) refl);
        statuses = (refl, fit_some 8 (replicate last_stream 0) refl);
        numbers = (refl, fit_some 8 plan refl);
        privates = (refl, fit_some 8 (replicate private_bytes 0) refl);
        auxiliaries = (refl, fit_some 8 (replicate auxiliary_bytes 0) refl);
        group = lit< tt;
      }

  one-first : available one.availability 1 ≡ true
  unfolding available one_slot
  one-first = refl

  -- what is left to be asked of the frame type and the bonding fields
  pub one_takes : (kind : Kind) → first_of (width_checks kind one) ≡ 0 → first_of (rule_checks kind one) ≡ 0 → some_at_least (2 ^ 8) (setting_bytes one) ≡ false → Takes kind one
  one_takes kind w r b =
      record {
        typed = one_types;
        meets = record { pid-allowed = refl; fields = none_append (width_none kind one w) (rule_none kind one r) };
        first = one-first;
        bytes = fit_some 8 (setting_bytes one) b;
      }

-- ---- the calls

unfoldable pub cycles : Kind → List Setting → List Call
cycles kind [] = []
cycles kind (s ∷ ss) = begin (the_buffer kind) s ∷ put the_packet 1 ∷ close ∷ cycles kind ss

-- as firmware makes them
unfoldable pub firmware_cycles : Kind → List Setting → List FirmwareCall
firmware_cycles kind [] = []
firmware_cycles kind (s ∷ ss) = begins (setting_bytes s) (the_buffer kind) ∷ puts the_packet 1 ∷ closes ∷ firmware_cycles kind ss

pub cycles_typed : {kind : Kind} {ss : List Setting} → Each (Takes kind) ss → Each OfTypes (cycles kind ss)
unfolding cycles
cycles_typed none = none
cycles_typed (more t ts) = more t.typed (more tt (more tt (cycles_typed ts)))

pub cycles_lent : {kind : Kind} {ss : List Setting} → Each (Takes kind) ss → Each OfBytes (firmware_cycles kind ss)
unfolding firmware_cycles
cycles_lent none = none
cycles_lent (more t ts) = more t.bytes (more tt (more tt (cycles_lent ts)))

begin_valued : (kind : Kind) (s : Setting) → Takes kind s → valued (begins (setting_bytes s) (the_buffer kind)) ≡ begin (the_buffer kind) s
begin_valued kind s t = rw (eq-eqb _ setting_length (length_setting s (long s t.typed)), setting_back s t.typed)

cycles-valued : {kind : Kind} {ss : List Setting} → Each (Takes kind) ss → map valued (firmware_cycles kind ss) ≡ cycles kind ss
unfolding firmware_cycles cycles
cycles-valued none = refl
cycles-valued {kind} (more t ts) = ap₂ (λ (c : Call) (cs : List Call). c ∷ put the_packet 1 ∷ close ∷ cs) (begin_valued kind _ t) (cycles-valued ts)

-- what is asked of each frame
unfoldable pub work_of : Setting → Work
work_of s = record { setting = s; lent = added 1 the_packet (λ n. []) }

-- ---- none is refused

opened_is : (c : Composer) (t : Setting) → ((opened c t).is_open ≡ true) × ((opened c t).setting ≡ t)
unfolding opened
opened_is c t = (refl, refl)

marked_open : (c : Composer) (ms : List Bool) → (marked c ms).is_open ≡ c.is_open
unfolding marked
marked_open c ms = refl

buffer_long : (kind : Kind) → length (the_buffer kind) ≡ frame_length (slots_of kind)
buffer_long kind = length-replicate {A = ℕ} (frame_length (slots_of kind)) 0

-- an open frame's buffer has a frame's length
open_long : (kind : Kind) (pid : ℕ) (w : Run) (k : Work) → Opened kind pid w k → length w.frame ≡ frame_length (slots_of kind)
open_long kind pid w k o =
    let front = resized (slots_of kind) k.setting.relative_ts_number in
    let slots : length (drop packet_length w.frame) ≡ packet_length * length front = ap length o.slots_are ∙ length-slots front k.lent in
    omega (arith, slots, length-drop packet_length w.frame, o.header_room, length-resized (slots_of kind) k.setting.relative_ts_number)

module _ (kind : Kind) (t : Setting) (takes : Takes kind t) (w : Run) (k : Work) (s : Sound kind the_pid w k) (i : InOrder kind w.state) where
  abbrev w₁ : Run
  w₁ = after w (begin (the_buffer kind) t)

  abbrev w₂ : Run
  w₂ = after w₁ (put the_packet 1)

  abbrev k₁ : Work
  k₁ = work_after w k (begin (the_buffer kind) t)

  abbrev k₂ : Work
  k₂ = work_after w₁ k₁ (put the_packet 1)

  begin_goes : refusal_of w (begin (the_buffer kind) t) ≡ 0
  unfolding refusal_of
  begin_goes = ap (begin_refusal w.state t) (buffer_long kind) ∙ begin_passes kind the_pid refl w k s i t takes.meets

  sound₁ : Sound kind the_pid w₁ k₁
  sound₁ = sound_after kind the_pid w k (begin (the_buffer kind) t) takes.typed s

  order₁ : InOrder kind w₁.state
  order₁ = order-after kind the_pid w k (begin (the_buffer kind) t) s i

  open₁ : (w₁.state.is_open ≡ true) × (w₁.state.setting ≡ t)
  open₁ =
      subst (λ (v : Run). (v.state.is_open ≡ true) × (v.state.setting ≡ t)) (sym (begun_run w (the_buffer kind) t begin_goes)) (opened_is w.state t)

  put_goes : refusal_of w₁ (put the_packet 1) ≡ 0
  unfolding refusal_of
  put_goes =
      ap (put_refusal w₁.state 1 the_packet) (open_long kind the_pid w₁ k₁ (sound₁.opened_as open₁.0))
      ∙ put_passes kind the_pid refl w₁ k₁ sound₁ order₁ 1 the_packet open₁.0 (omega arith) (omega (arith, (sized kind).stream_bytes))
      (ap (λ (x : Setting). available x.availability 1) open₁.1 ∙ takes.first) (ap (λ (n : ℕ). n % packet_length) packet_long) all_fit

  sound₂ : Sound kind the_pid w₂ k₂
  sound₂ = sound_after kind the_pid w₁ k₁ (put the_packet 1) tt sound₁

  order₂ : InOrder kind w₂.state
  order₂ = order-after kind the_pid w₁ k₁ (put the_packet 1) sound₁ order₁

  open₂ : w₂.state.is_open ≡ true
  open₂ = ap (λ (v : Run). v.state.is_open) (put-run w₁ the_packet 1 put_goes) ∙ marked_open w₁.state _ ∙ open₁.0

  close_goes : refusal_of w₂ close ≡ 0
  unfolding refusal_of
  close_goes =
      ap (close_refusal w₂.state) (open_long kind the_pid w₂ k₂ (sound₂.opened_as open₂)) ∙ close_passes kind the_pid refl w₂ k₂ sound₂ order₂ open₂

  pub sound₃ : Sound kind the_pid (after w₂ close) (work_after w₂ k₂ close)
  sound₃ = sound_after kind the_pid w₂ k₂ close tt sound₂

  pub order₃ : InOrder kind (after w₂ close).state
  order₃ = order-after kind the_pid w₂ k₂ close sound₂ order₂

  work_is : k₂ ≡ work_of t
  unfolding work_of
  work_is =
      put_work w₁ k₁ the_packet 1 put_goes
      ∙ ap (λ (x : Work). record { setting = x.setting; lent = added 1 the_packet x.lent }) (begun_work w k (the_buffer kind) t begin_goes)

  pub one_more : (ss : List Setting) → works_of w k (cycles kind (t ∷ ss)) ≡ work_of t ∷ works_of (after w₂ close) (work_after w₂ k₂ close) (cycles kind ss)
  unfolding works_of cycles
  one_more ss =
      ap₂ (λ (a b : List Work). a ++ (b ++ (done_by w₂ k₂ close ++ works_of (after w₂ close) (work_after w₂ k₂ close) (cycles kind ss))))
      (begin_none w k (the_buffer kind) t).1 (put_none w₁ k₁ the_packet 1).1
      ∙ ap (λ (l : List Work). l ++ works_of (after w₂ close) (work_after w₂ k₂ close) (cycles kind ss)) (close_one w₂ k₂ close_goes).1
      ∙ ap (λ (x : Work). x ∷ works_of (after w₂ close) (work_after w₂ k₂ close) (cycles kind ss)) work_is

works_of-cycles : (kind : Kind) (ss : List Setting) → Each (Takes kind) ss → (w : Run) (k : Work) → Sound kind the_pid w k → InOrder kind w.state → works_of w k (cycles kind ss) ≡ map work_of ss
unfolding works_of cycles
works_of-cycles kind [] none w k s i = refl
works_of-cycles kind (t ∷ ss) (more p ps) w k s i =
    one_more kind t p w k s i ss
    ∙ ap (λ (l : List Work). work_of t ∷ l)
    (works_of-cycles kind ss ps (after (w₂ kind t p w k s i) close) (work_after (w₂ kind t p w k s i) (k₂ kind t p w k s i) close) (sound₃ kind t p w k s i) (order₃ kind t p w k s i))

pub works_are : (kind : Kind) (ss : List Setting) → Each (Takes kind) ss → works_of (started kind the_pid) no_work (cycles kind ss) ≡ map work_of ss
unfolding started
works_are kind ss ts = works_of-cycles kind ss ts (started kind the_pid) no_work (sound_start kind the_pid) (fresh-order kind the_pid)

-- ---- the run, by firmware's calls

pub start_accepted : (kind : Kind) → start_refused (replicate composer_length 0) the_pid (kind_number kind) ≡ 0
unfolding start_refused first_of kind_number
start_accepted Kind.Plain = refl
start_accepted Kind.Extended = refl
start_accepted Kind.Short = refl

abbrev pub run_of : (kind : Kind) (ss : List Setting) → Each (Takes kind) ss → RunOfCalls the_pid (kind_number kind)
run_of kind ss ts = record { state = replicate composer_length 0; accepted = start_accepted kind; calls = firmware_cycles kind ss; lent = cycles_lent ts }

pub run-frames : (kind : Kind) (ss : List Setting) (ts : Each (Takes kind) ss)
    → map (λ f. f.frame) (frames_closed (run_of kind ss ts)) ≡ map (frame_of kind the_pid) (headed (map work_of ss))
run-frames kind ss ts =
    (run_alike the_pid (kind_number kind) (run_of kind ss ts)).0
    ∙ ap₂ (λ (x : Kind) (cs : List Call). frames_of (started x the_pid) cs) (kind_back kind) (cycles-valued ts)
    ∙ hold kind the_pid (cycles kind ss) refl (cycles_typed ts) ∙ ap (λ (ks : List Work). map (frame_of kind the_pid) (headed ks)) (works_are kind ss ts)

-- each of its frames is good
pub run_good : (kind : Kind) (ss : List Setting) (ts : Each (Takes kind) ss) → Each (Good kind the_pid) (headed (map work_of ss))
run_good kind ss ts = subst (λ (ks : List Work). Each (Good kind the_pid) (headed ks)) (works_are kind ss ts) (each_good kind the_pid (cycles kind ss) refl (cycles_typed ts))
