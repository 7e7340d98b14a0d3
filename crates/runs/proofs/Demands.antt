-- Demands 2 and 3 over the calls. Assumes nothing.
use Prim.Native.Nat.{ℕ, zero, suc, ◌≤◌}
use mathlib.Core.Path.{◌≡◌, refl, sym, ap, ap₂, subst, ◌∙◌}
use mathlib.Core.Bool.{true, false, not, false≢true}
use mathlib.Core.List.{List, [], ◌∷◌, ◌++◌, map, append-nil}
use native.Mathlib.Omega.{arith}
use borrow.Author.Tests.{not-false}
use lib.Dec.{eqb}
use lib.ListN.{length, drop, replicate, length-replicate}
use Rattle.setting.specs.declared.Kind.{Kind}
use Rattle.setting.specs.Refusal.{leaves}
use Rattle.setting.specs.Size.{slots_of}
use Rattle.setting.specs.Rules.{pid_allowed}
use Rattle.setting.specs.Announcing.{announced}
use Rattle.setting.proofs.Refusals.{none_first, none_at}
use Rattle.setting_bytes.specs.Kinds.{is_kind, kind_of}
use Rattle.packet.specs.Packets.{packet_length}
use Rattle.composer.specs.Composing.{fresh}
use Rattle.composer.specs.States.{composer_length, OfItsTypes as StateOfItsTypes}
use Rattle.composer.specs.Calls.{start_refused, start_state}
use Rattle.receiver.specs.Store.{store_length, numbered}
use Rattle.receiver.specs.Bytes.{receiver_length}
use Rattle.receiver.specs.Calls.{start_refused as receiver_refused, start_state as receiver_start}
use Rattle.runs.specs.Runs.{Each, none, more, OfTypes, started, frames_of}
use Rattle.runs.specs.Work.{no_work}
use Rattle.runs.specs.Losses.{Sent, MayHappen, arriving, numbers_in, entire, wanted}
use Rattle.runs.proofs.Reception.{fresh_with}
use Rattle.runs.specs.Firmware.{FirmwareCall, OfBytes, started_as, Closed, tuned_to}
use Rattle.runs.specs.Demands.{RunOfCalls, frames_closed, FreshAndAsked, hands_out, AlwaysRoom, DemandThree, whole, header_alone, PacketForPacket, placed_in, RunForRun}
use Rattle.setting_bytes.proofs.Typed.{blank_types}
use Rattle.runs.proofs.Table.{Asked}
use Rattle.runs.proofs.Lost.{InRow, end, here}
use Rattle.runs.proofs.Composed.{sound_start}
use Rattle.runs.proofs.Values.{From, stretch, in_row, waiting-set, stretch_comes_out, first_of_each, each_rest, map_append}
use Rattle.runs.proofs.Tuned.{Tuned, given_out-tuned, room_always}
use Rattle.runs.specs.Composed.{valued, FramesAlike}
use Rattle.runs.proofs.Made.{valued_typed, Alike, TrueTo, frames_alike}

-- ---- the starts

-- an accepted start had an allowed PID
pub started-allowed : (state : List ℕ) (pid kind : ℕ) → start_refused state pid kind ≡ 0 → pid_allowed pid ≡ true
unfolding start_refused
started-allowed state pid kind e =
    not-false _ (none_at (none_first ((1, not (eqb (length state) composer_length)) ∷ (2, not (pid_allowed pid)) ∷ (17, not (is_kind kind)) ∷ []) refl e) 1)

pub tuned_allowed : (state : List ℕ) (pid kind : ℕ) → receiver_refused state pid kind ≡ 0 → pid_allowed pid ≡ true
unfolding receiver_refused
tuned_allowed state pid kind e =
    not-false _ (none_at (none_first ((1, not (eqb (length state) receiver_length)) ∷ (2, not (pid_allowed pid)) ∷ (17, not (is_kind kind)) ∷ []) refl e) 1)

fresh_types : (kind : Kind) (pid : ℕ) → StateOfItsTypes (fresh kind pid)
unfolding fresh announced
fresh_types kind pid = record { ts_ids = blank_types.ts_ids; network_id = blank_types.network_id; statuses = blank_types.statuses; setting = blank_types; marks = refl }

pub started_alike : (state : List ℕ) (pid kind : ℕ) → start_refused state pid kind ≡ 0 → Alike (kind_of kind) pid (started_as state pid kind) (started (kind_of kind) pid) no_work
unfolding started_as start_state leaves started fresh
started_alike state pid kind e =
    record {
      state_is = rw e;
      typed = fresh_types (kind_of kind) pid;
      frame_is = refl;
      sound = sound_start (kind_of kind) pid;
      placed_are = λ o. absurd (false≢true o);
      counts = λ r. refl;
    }

pub tuned_fresh : (state : List ℕ) (pid kind : ℕ) (store : List ℕ) → receiver_refused state pid kind ≡ 0 → length store ≡ store_length (slots_of (kind_of kind))
    → Tuned (kind_of kind) pid (tuned_to state pid kind store) (fresh_with (kind_of kind) pid store)
unfolding tuned_to receiver_start leaves
tuned_fresh state pid kind store e l = record { state_is = rw e; store_is = refl; set = waiting-set (kind_of kind) pid store (tuned_allowed state pid kind e) l }

pub always_room : AlwaysRoom
always_room pid kind r state store buffers packets e l from large =
    room_always (kind_of kind) pid r from (tuned_to state pid kind store) (fresh_with (kind_of kind) pid store) (tuned_fresh state pid kind store e l) buffers large packets

each_valued : (cs : List FirmwareCall) → Each OfBytes cs → Each OfTypes (map valued cs)
each_valued [] none = none
each_valued (c ∷ cs) (more f fs) = more (valued_typed c f) (each_valued cs fs)

-- ---- a run

module _ (pid kind : ℕ) (run : RunOfCalls pid kind) where
  pub run-allowed : pid_allowed pid ≡ true
  run-allowed = started-allowed run.state pid kind run.accepted

  pub run_alike : (map (λ f. f.frame) (frames_closed run) ≡ frames_of (started (kind_of kind) pid) (map valued run.calls)) × Each (TrueTo (kind_of kind) pid) (frames_closed run)
  run_alike =
      frames_alike (kind_of kind) pid run-allowed (started_as run.state pid kind) (started (kind_of kind) pid) no_work run.calls
      (started_alike run.state pid kind run.accepted) run.lent

  pub frames_true : Each (TrueTo (kind_of kind) pid) (frames_closed run)
  frames_true = run_alike.1

  -- some of its frames in a row
  pub run_stretch : (before fs after : List (List ℕ)) → map (λ f. f.frame) (frames_closed run) ≡ before ++ (fs ++ after) → From (kind_of kind) pid fs
  run_stretch before fs after q =
      stretch (kind_of kind) pid (map valued run.calls) run-allowed (each_valued run.calls run.lent) before fs after (sym run_alike.0 ∙ q)

  -- whatever happens to some of its frames on the way
  pub stretch_given : (r : ℕ) (before after : List (List ℕ)) (sent : List Sent)
      → map (λ f. f.frame) (frames_closed run) ≡ before ++ (map (λ s. s.frame) sent ++ after)
      → Each (MayHappen (kind_of kind) pid) sent → InRow 0 sent
      → (a : FreshAndAsked pid kind r (arriving sent)) → hands_out a ≡ wanted (kind_of kind) pid r sent
  stretch_given r before after sent q h row a =
      let asked : Asked (kind_of kind) r a.store a.store = record { from = a.from; to = a.to; store_long = a.store_long; room = omega (arith, a.store_long) } in
      given_out-tuned (kind_of kind) pid r a.store a.store asked (tuned_to a.state pid kind a.store) (fresh_with (kind_of kind) pid a.store)
      (tuned_fresh a.state pid kind a.store a.accepted a.store_long) a.buffers (arriving sent) a.room
      ∙ stretch_comes_out (kind_of kind) pid (map valued run.calls) run-allowed (each_valued run.calls run.lent) before after sent (sym run_alike.0 ∙ q) h row
      r a.store a.store asked

pub frames_same : FramesAlike
frames_same pid kind run = (run_alike pid kind run).0

-- ---- demand 3

pub nothing_mixed : DemandThree
nothing_mixed pid kind r sent one lost a =
    stretch_given pid kind one.run r one.earlier one.later sent one.consecutive lost.may_happen (in_row sent lost.in_a_row [] [] sent refl none) a

-- ---- demand 2

-- of a whole frame all packets arrive
pub all_arrive : (n : ℕ) → entire (replicate n true) ≡ true
all_arrive zero = refl
all_arrive (suc n) = all_arrive n

pub packet_for_packet : PacketForPacket
unfolding wanted
packet_for_packet pid kind r run earlier later f next q a =
    let frame : Closed → List ℕ = λ x. x.frame in
    let sent = whole kind f.frame ∷ header_alone kind next.frame ∷ [] in
    let frames = ap (map frame) q ∙ map_append frame earlier (f ∷ next ∷ later) in
    let true-to = first_of_each (each_rest earlier (f ∷ next ∷ later) (subst (Each (TrueTo (kind_of kind) pid)) q (frames_true pid kind run))) in
    let given : hands_out a ≡ f.placed r =
    stretch_given pid kind run r (map frame earlier) (map frame later) sent frames (more (length-replicate (slots_of (kind_of kind)) true, tt) (more (length-replicate (slots_of (kind_of kind)) false, tt) none)) (here refl (here refl end)) a
    ∙ rw (all_arrive (slots_of (kind_of kind))) (append-nil (numbered r (numbers_in (kind_of kind) pid f.frame) (drop packet_length f.frame))) ∙ true-to.own r a.from in
    (given, ap length given ∙ true-to.counts r)

abbrev sent_whole : ℕ → List Closed → List Sent
sent_whole kind fs = map (λ f. whole kind f.frame) fs

each_kept : (kind : ℕ) (fs : List Closed) → InRow 0 (sent_whole kind fs)
each_kept kind [] = end
each_kept kind (f ∷ fs) = here refl (each_kept kind fs)

each_happens : (kind pid : ℕ) (fs : List Closed) → Each (MayHappen (kind_of kind) pid) (sent_whole kind fs)
each_happens kind pid [] = none
each_happens kind pid (f ∷ fs) = more (length-replicate (slots_of (kind_of kind)) true, tt) (each_happens kind pid fs)

frames-whole : (kind : ℕ) (fs : List Closed) → map (λ f. f.frame) fs ≡ map (λ s. s.frame) (sent_whole kind fs)
frames-whole kind [] = refl
frames-whole kind (f ∷ fs) = ap (λ (l : List (List ℕ)). f.frame ∷ l) (frames-whole kind fs)

-- without loss all frames but the last are wanted
wanted-whole : (kind pid r : ℕ) (fs : List Closed) → Each (TrueTo (kind_of kind) pid) fs → 1 ≤ r → wanted (kind_of kind) pid r (sent_whole kind fs) ≡ placed_in r fs
unfolding wanted placed_in
wanted-whole kind pid r [] none l = refl
wanted-whole kind pid r (f ∷ []) t l = refl
wanted-whole kind pid r (f ∷ next ∷ fs) (more t ts) l =
    rw (all_arrive (slots_of (kind_of kind))) (ap₂ (λ (x y : List ℕ). x ++ y) (t.own r l) (wanted-whole kind pid r (next ∷ fs) ts l))

pub run_for_run : RunForRun
run_for_run pid kind r run a =
    let fs = frames_closed run in
    stretch_given pid kind run r [] [] (sent_whole kind fs) (frames-whole kind fs ∙ sym (append-nil (map (λ s. s.frame) (sent_whole kind fs)))) (each_happens kind pid fs) (each_kept kind fs) a
    ∙ wanted-whole kind pid r fs (frames_true pid kind run) a.from
