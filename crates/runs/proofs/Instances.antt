-- The demands at both sizes, and a run of each. Assumes nothing.
use Prim.Native.Nat.{ℕ, ◌*◌}
use mathlib.Core.Path.{◌≡◌, refl, sym, ap, subst, ◌∙◌}
use mathlib.Core.List.{List, [], ◌∷◌, map}
use lib.ListN.{length, length-map}
use Rattle.slices.specs.Slices.{any_below, some_at_least}
use Rattle.counters.specs.Counters.{available}
use Rattle.setting.specs.declared.Kind.{Kind}
use Rattle.setting.specs.declared.Setting.{Setting}
use Rattle.setting.specs.Size.{size_of, slots_of}
use Rattle.setting.specs.Announcing.{announced}
use Rattle.setting.specs.Refusal.{first_of}
use Rattle.setting.specs.Rules.{absent_checks, width_checks, rule_checks, bonding_checks, some_unavailable, pair_twice}
use Rattle.setting_bytes.specs.Kinds.{kind_number}
use Rattle.setting_bytes.specs.Settings.{announced_bytes, setting_bytes}
use Rattle.setting_bytes.specs.Words.{word_bytes}
use Rattle.packet.specs.Packets.{packet_length, frame_length}
use Rattle.runs.specs.Runs.{Each, none, more}
use Rattle.runs.specs.Work.{headed_behind, headed, frame_of}
use Rattle.runs.specs.Firmware.{Closed}
use Rattle.runs.specs.Demands.{frames_closed}
use Rattle.runs.specs.Instances.{long, short, LongDemandThree, ShortDemandThree, LongPacketForPacket, ShortPacketForPacket, LongRunForRun, ShortRunForRun, TwoFrames, LongRun, ShortRun}
use Rattle.runs.proofs.Composed.{each, each_map, length_frame_of}
use Rattle.runs.proofs.Cycles.{the_pid, one_slot, Takes, one_takes, work_of, run_of, run-frames, run_good}
use Rattle.runs.proofs.Demands.{nothing_mixed, packet_for_packet, run_for_run}

-- ---- the demands

pub long_demand_three : LongDemandThree
long_demand_three pid = nothing_mixed pid long

pub short_demand_three : ShortDemandThree
short_demand_three pid = nothing_mixed pid short

pub long_packet_for_packet : LongPacketForPacket
long_packet_for_packet pid = packet_for_packet pid long

pub short_packet_for_packet : ShortPacketForPacket
short_packet_for_packet pid = packet_for_packet pid short

pub long_run_for_run : LongRunForRun
long_run_for_run pid = run_for_run pid long

pub short_run_for_run : ShortRunForRun
short_run_for_run pid = run_for_run pid short

-- ---- a run of each

each_unmapped : {A B : Type 0} {P : B → Type 0} (g : A → B) (xs : List A) → Each P (map g xs) → Each (λ x. P (g x)) xs
each_unmapped g [] none = none
each_unmapped g (x ∷ xs) (more p ps) = more p (each_unmapped g xs ps)

-- a setting that is not refused, begun twice
two_frames : (kind : Kind) (s : Setting) → Takes kind s → (packets : ℕ) → frame_length (slots_of kind) ≡ packet_length * packets → TwoFrames (kind_number kind) packets
unfolding headed headed_behind
two_frames kind s t packets e =
    let ss = s ∷ s ∷ [] in
    let ts = more t (more t none) in
    let run = run_of kind ss ts in
    let hs = headed (map work_of ss) in
    let frame : Closed → List ℕ = λ f. f.frame in
    let frames : map frame (frames_closed run) ≡ map (frame_of kind the_pid) hs = run-frames kind ss ts in
    let as_long : Each (λ f. length f ≡ packet_length * packets) (map (frame_of kind the_pid) hs) =
    each_map (frame_of kind the_pid) (each (λ h g. length_frame_of kind the_pid h g ∙ e) (run_good kind ss ts)) in
    record {
      pid = the_pid;
      run = run;
      two = sym (length-map (frames_closed run) frame) ∙ ap length frames ∙ length-map hs (frame_of kind the_pid);
      frames-long = each_unmapped frame (frames_closed run) (subst (Each (λ f. length f ≡ packet_length * packets)) (sym frames) as_long);
    }

long-taken : Takes Kind.Plain (one_slot 1 0 0 0 0)
unfolding one_slot first_of width_checks absent_checks size_of rule_checks bonding_checks some_unavailable pair_twice available some_at_least any_below setting_bytes announced_bytes announced word_bytes
long-taken = one_takes 1 0 0 0 0 Kind.Plain refl refl refl

short-taken : Takes Kind.Short (one_slot 3 0 0 0 0)
unfolding one_slot first_of width_checks absent_checks size_of rule_checks bonding_checks some_unavailable pair_twice available some_at_least any_below setting_bytes announced_bytes announced word_bytes
short-taken = one_takes 3 0 0 0 0 Kind.Short refl refl refl

pub long-run : LongRun
unfolding size_of
long-run = two_frames Kind.Plain (one_slot 1 0 0 0 0) long-taken _ refl

pub short-run : ShortRun
unfolding size_of
short-run = two_frames Kind.Short (one_slot 3 0 0 0 0) short-taken _ refl
