-- What is not refused, over the calls. Assumes nothing.
use Prim.Native.Nat.{ℕ, ◌*◌, ◌≤◌}
use mathlib.Core.Path.{◌≡◌, sym, ap, ap₂, subst, ◌∙◌}
use mathlib.Core.Bool.{true}
use mathlib.Core.List.{List, [], ◌∷◌}
use lib.ListN.{length}
use Rattle.setting.specs.declared.Kind.{Kind}
use Rattle.counters.specs.Counters.{available}
use Rattle.packet.specs.Packets.{packet_length}
use Rattle.setting_bytes.specs.Kinds.{kind_of}
use Rattle.setting_bytes.specs.Settings.{setting_of}
use Rattle.setting_bytes.proofs.Typed.{setting_typed}
use Rattle.setting_bytes.proofs.Same.{setting_same}
use Rattle.composer.specs.Composing.{Composer, answer, begin_refusal, begin_of, put_refusal, put_of, close_refusal, close_of}
use Rattle.composer.specs.States.{composer_bytes, composer_of}
use Rattle.composer.specs.Calls.{begin_refused, put_refused, close_refused}
use Rattle.composer.proofs.Coding.{state_back}
use Rattle.composer.proofs.OnBytes.{calls_on_bytes}
use Rattle.receiver.specs.Store.{slots_for}
use Rattle.receiver.specs.Table.{is_ready}
use Rattle.receiver.specs.Receiving.{Receiver, receive_of, hand_out_of}
use Rattle.receiver.specs.Bytes.{receiver_of}
use Rattle.receiver.specs.Calls.{receive_refused, hand_out_refused}
use Rattle.receiver.proofs.Coding.{receiver_back}
use Rattle.receiver.proofs.OnBytes.{calls_on_bytes as receiver-on-bytes}
use Rattle.runs.specs.Runs.{Each, none, more, Run, started, after}
use Rattle.runs.specs.Work.{Work, no_work, work_after}
use Rattle.runs.proofs.Reception.{Reception, fresh_with, after_packet}
use Rattle.runs.specs.Firmware.{FirmwareCall, OfBytes, Multiplexer, started_as, after_call, after_calls, Demultiplexer, tuned_to, heard, heard_all}
use Rattle.runs.specs.Demands.{RunOfCalls}
use Rattle.runs.specs.Accepted.{reached, BeginsAccepted, PutsAccepted, ClosesAccepted, Reached, reached_by, ReceivesAccepted, HandOutsAccepted}
use Rattle.runs.proofs.Table.{Set, accepted}
use Rattle.runs.proofs.Vouched.{not_refused}
use Rattle.runs.specs.Composed.{valued}
use Rattle.runs.proofs.Made.{Alike, alike_after}
use Rattle.runs.proofs.Tuned.{Tuned, codable, tuned_heard, before_is}
use Rattle.runs.proofs.InOrder.{InOrder, fresh-order, order-after, begin_passes, put_passes, close_passes}
use Rattle.runs.proofs.Demands.{started_alike, run-allowed, tuned_fresh}

-- ---- at the multiplexer

-- what calls reached, as a value
record Reach (kind : Kind) (pid : ℕ) (m : Multiplexer) : Type 0 where
  run : Run
  work : Work
  alike : Alike kind pid m run work
  order : InOrder kind run.state

reach : (kind : Kind) (pid : ℕ) (m : Multiplexer) (cs : List FirmwareCall) → Each OfBytes cs → Reach kind pid m → Reach kind pid (after_calls m cs)
unfolding after_calls
reach kind pid m [] none h = h
reach kind pid m (c ∷ cs) (more f fs) h =
    reach kind pid (after_call m c) cs fs
    (record {
      run = after h.run (valued c);
      work = work_after h.run h.work (valued c);
      alike = alike_after kind pid m h.run h.work c f h.alike;
      order = order-after kind pid h.run h.work (valued c) h.alike.sound h.order;
    })

started-order : (kind : Kind) (pid : ℕ) → InOrder kind (started kind pid).state
unfolding started
started-order kind pid = fresh-order kind pid

module _ (pid kind : ℕ) (run : RunOfCalls pid kind) where
  here : Reach (kind_of kind) pid (after_calls (started_as run.state pid kind) run.calls)
  here =
      reach (kind_of kind) pid (started_as run.state pid kind) run.calls run.lent
      (record {
        run = started (kind_of kind) pid;
        work = no_work;
        alike = started_alike run.state pid kind run.accepted;
        order = started-order (kind_of kind) pid;
      })

  abbrev c : Composer
  c = here.run.state

  says : reached run ≡ composer_bytes c
  says = here.alike.state_is

  back : composer_of (reached run) ≡ c
  back = ap composer_of says ∙ state_back c here.alike.typed

  is_open : (composer_of (reached run)).is_open ≡ true → c.is_open ≡ true
  is_open o = sym (ap (λ (x : Composer). x.is_open) back) ∙ o

pub begins_accepted : BeginsAccepted
unfolding begin_of answer
begins_accepted pid kind run setting frame f l m h =
    let s = setting_of setting in
    let w = here pid kind run in
    ap₂ (λ (x y : List ℕ). begin_refused x y frame) (says pid kind run) (sym (setting_same setting l f))
    ∙ ((calls_on_bytes (c pid kind run) w.alike.typed).0.begins s (setting_typed setting f) frame).0
    ∙ ap (begin_refusal (c pid kind run) s) h ∙ begin_passes (kind_of kind) pid (run-allowed pid kind run) w.run w.work w.alike.sound w.order s m

pub puts_accepted : PutsAccepted
unfolding put_of
puts_accepted pid kind run r stream frame o from to v whole u h =
    let w = here pid kind run in
    ap (λ (x : List ℕ). put_refused x r stream frame) (says pid kind run) ∙ ((calls_on_bytes (c pid kind run) w.alike.typed).0.puts r stream frame).0
    ∙ ap (put_refusal (c pid kind run) r stream) h
    ∙ put_passes (kind_of kind) pid (run-allowed pid kind run) w.run w.work w.alike.sound w.order r stream (is_open pid kind run o) from to
    (sym (ap (λ (x : Composer). available x.setting.availability r) (back pid kind run)) ∙ v) whole u

pub closes_accepted : ClosesAccepted
unfolding close_of answer
closes_accepted pid kind run frame o h =
    let w = here pid kind run in
    ap (λ (x : List ℕ). close_refused x frame) (says pid kind run) ∙ ((calls_on_bytes (c pid kind run) w.alike.typed).0.closes frame).0
    ∙ ap (close_refusal (c pid kind run)) h
    ∙ close_passes (kind_of kind) pid (run-allowed pid kind run) w.run w.work w.alike.sound w.order (is_open pid kind run o)

-- ---- at the receiver

-- what packets reached, as a value
record Hears (kind : Kind) (pid : ℕ) (b : Demultiplexer) : Type 0 where
  reception : Reception
  tuned : Tuned kind pid b reception

hears : (kind : Kind) (pid : ℕ) (b : Demultiplexer) (ps : List (List ℕ)) → Hears kind pid b → Hears kind pid (heard_all b ps)
unfolding heard_all
hears kind pid b [] h = h
hears kind pid b (p ∷ ps) h =
    hears kind pid (heard b p) ps (record { reception = after_packet h.reception p; tuned = tuned_heard kind pid b h.reception h.tuned p })

module _ (pid kind : ℕ) (d : Reached pid kind) where
  now_at : Hears (kind_of kind) pid (reached_by d)
  now_at =
      hears (kind_of kind) pid (tuned_to d.state pid kind d.store) d.packets
      (record { reception = fresh_with (kind_of kind) pid d.store; tuned = tuned_fresh d.state pid kind d.store d.accepted d.store_long })

  abbrev w : Reception
  w = now_at.reception

  set : Set (kind_of kind) pid w
  set = now_at.tuned.set

pub receives_accepted : ReceivesAccepted
unfolding receive_of
receives_accepted pid kind d p l =
    let t = (now_at pid kind d).tuned in
    let v = w pid kind d in
    ap₂ (λ (x y : List ℕ). receive_refused x p y) t.state_is t.store_is
    ∙ ((receiver-on-bytes v.state (codable (kind_of kind) pid v (set pid kind d))).0.receives p v.store).0
    ∙ rw (accepted (kind_of kind) pid v (set pid kind d) p l)

pub hand_outs_accepted : HandOutsAccepted
unfolding hand_out_of
hand_outs_accepted pid kind d r out from to e room =
    let t = (now_at pid kind d).tuned in
    let v = w pid kind d in
    let coded = codable (kind_of kind) pid v (set pid kind d) in
    let back = ap receiver_of t.state_is ∙ receiver_back v.state coded in
    ap₂ (λ (x y : List ℕ). hand_out_refused x r y out) t.state_is t.store_is
    ∙ ((receiver-on-bytes v.state coded).0.handing_out r v.store out).0
    ∙ not_refused (kind_of kind) pid r out v (set pid kind d)
    (record { from = from; to = to; room = subst (λ (l : List ℕ). packet_length * slots_for r l ≤ length out) (before_is (kind_of kind) pid (reached_by d) v t) room })
    (sym (ap (λ (x : Receiver). is_ready x.stage) back) ∙ e)
