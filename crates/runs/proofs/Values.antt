-- What comes out of a receiver of what a run closed, over states as values. Assumes nothing.
use Prim.Native.Nat.{ℕ, zero, suc, ◌+◌, ◌*◌, ◌%◌, ◌^◌, ◌≤◌, ◌<◌}
use mathlib.Core.Path.{◌≡◌, refl, sym, ap, ap₂, subst, ◌∙◌}
use mathlib.Core.Bool.{Bool, true, false}
use mathlib.Core.List.{List, [], ◌∷◌, ◌++◌, map, append_assoc}
use native.Mathlib.Omega.{arith}
use lib.Dec.{lit<}
use lib.ListN.{length, take, drop, replicate, length-append}
use lib.Seq.{drop_at, length-take-le}
use lib.Pow.{pow_pos}
use Rattle.bits.specs.Fields.{Fit, none as fit_none, more as fit_more}
use Rattle.bits.proofs.Laws.{fit_drop}
use Rattle.setting.specs.declared.Kind.{Kind}
use Rattle.setting.specs.declared.Setting.{Setting}
use Rattle.counters.specs.Counters.{last_slot}
use Rattle.setting.specs.Rules.{pid_allowed, number_checks, width_checks, rule_checks}
use Rattle.setting.proofs.Refusals.{none_before}
use Rattle.setting.specs.Refusal.{NoneHolds, none as no-check, more as one-check}
use Rattle.setting.specs.Size.{size_of, slots_of, resized}
use Rattle.setting.proofs.Fields.{some_fit, narrow}
use Rattle.setting.proofs.Sizes.{fit_four}
use Rattle.header_read.specs.Reader.{Reading}
use Rattle.header_layout.specs.Header.{header}
use Rattle.header_layout.proofs.Whole.{length-header}
use Rattle.setting.specs.declared.Announced.{Announced}
use Rattle.packet.specs.Packets.{packet_length, frame_length, slot, unfit}
use Rattle.setting.specs.Announcing.{announced}
use Rattle.composer.specs.Composing.{saying, version_behind}
use Rattle.receiver.specs.declared.Stage.{Stage}
use Rattle.receiver.specs.Store.{store_length, numbered, slots_for}
use Rattle.receiver.specs.Receiving.{waiting}
use Rattle.runs.specs.Runs.{Call, Each, none, more, OfTypes, started, frames_of}
use Rattle.runs.specs.Work.{Work, no_work, works_of, slots_filled, said, headed_behind, headed, frame_of}
use Rattle.runs.specs.Losses.{is_kept, Sent, MayHappen, InARowAtMost, arriving, numbers_in, wanted}
use Rattle.runs.proofs.Reception.{Reception, fresh_with, handed_out}
use Rattle.runs.proofs.Held.{Done}
use Rattle.runs.proofs.Composed.{Good, said_good, version_behind_bound, header_read, front-placed, length_frame_of, packet_fit, works_done, hold}
use Rattle.runs.proofs.Table.{Asked, Set, waits}
use Rattle.runs.proofs.Vouched.{GoodFrame, nothing}
use Rattle.runs.proofs.Lost.{slot-behind, Counted, no_more, and_then, InRow, end, here, gone, comes_out, first_none}

-- ---- the frames of a run

length-first : (f : List ℕ) (slots : ℕ) → length f ≡ frame_length slots → length (slot 0 f) ≡ packet_length
unfolding slot
length-first f slots h = length-take-le packet_length f (omega arith)

-- a closed frame, with its header's counter
good_frame : (kind : Kind) (pid n : ℕ) (h : Setting × Work) → pid_allowed pid ≡ true → h.0.continuity_counter ≡ n → n < 2 ^ 4 → Good kind pid h
    → GoodFrame kind pid n (frame_of kind pid h)
good_frame kind pid n h e c l g =
    record {
      header = record {
        setting = h.0;
        read = header_read kind pid h g;
        counter = c;
        small = l;
        numbers_fit = fit_four kind (narrow kind (none_before (width_checks kind h.0) (rule_checks kind h.0) g.meets.fields)).numbers;
        numbers_long = g.typed.numbers.0;
        long = length-first (frame_of kind pid h) (slots_of kind) (length_frame_of kind pid h g);
      };
      long = length_frame_of kind pid h g;
      fit = λ i q. ap (unfit pid) (slot-behind i (frame_of kind pid h)) ∙ packet_fit kind pid h g e (suc i) (omega arith) (omega arith);
    }

said_counter : (counter version : ℕ) (k : Work) → (said counter version k).continuity_counter ≡ counter
unfolding said saying
said_counter counter version k = refl

module _ (kind : Kind) (pid : ℕ) (e : pid_allowed pid ≡ true) where
  said_frame : (counter version : ℕ) (k : Work) → counter < 2 ^ 4 → version < 2 ^ 3 → Done kind pid k → GoodFrame kind pid counter (frame_of kind pid (said counter version k, k))
  said_frame counter version k c v d =
      good_frame kind pid counter (said counter version k, k) e (said_counter counter version k) c (said_good kind pid e counter version k c v d)

  counted_behind : (counter version : ℕ) (last : Announced) (ks : List Work) → version < 2 ^ 3 → Each (Done kind pid) ks
      → Counted kind pid ((counter + 1) % 16) (map (frame_of kind pid) (headed_behind counter version last ks))
  unfolding headed_behind
  counted_behind counter version last [] v none = no_more
  counted_behind counter version last (k ∷ ks) v (more d ds) =
      let u = version_behind_bound kind pid e version last k.setting v in
      and_then (said_frame ((counter + 1) % 16) (version_behind version last k.setting) k (omega arith) u d)
      (counted_behind ((counter + 1) % 16) (version_behind version last k.setting) (announced k.setting) ks u ds)

  counted : (ks : List Work) → Each (Done kind pid) ks → Counted kind pid 0 (map (frame_of kind pid) (headed ks))
  unfolding headed
  counted [] none = no_more
  counted (k ∷ ks) (more d ds) = and_then (said_frame 0 0 k (lit< tt) (lit< tt) d) (counted_behind 0 0 (announced k.setting) ks (lit< tt) ds)

pub counted_run : (kind : Kind) (pid : ℕ) (calls : List Call) → pid_allowed pid ≡ true → Each OfTypes calls → Counted kind pid 0 (frames_of (started kind pid) calls)
counted_run kind pid calls e t =
    subst (Counted kind pid 0) (sym (hold kind pid calls e t)) (counted kind pid e (works_of (started kind pid) no_work calls) (works_done kind pid calls e t))

-- a stretch of them
pub record From (kind : Kind) (pid : ℕ) (fs : List (List ℕ)) : Type 0 where
  pub n : ℕ
  pub counts : Counted kind pid n fs

pub counted_front : {kind : Kind} {pid n : ℕ} (xs ys : List (List ℕ)) → Counted kind pid n (xs ++ ys) → Counted kind pid n xs
counted_front [] ys c = no_more
counted_front {n = n} (x ∷ xs) ys (and_then g c) = and_then g (counted_front {n = (n + 1) % 16} xs ys c)

pub counted_rest : {kind : Kind} {pid n : ℕ} (xs : List (List ℕ)) {ys : List (List ℕ)} → Counted kind pid n (xs ++ ys) → From kind pid ys
counted_rest {n = n} [] c = record { n = n; counts = c }
counted_rest {n = n} (x ∷ xs) (and_then g c) = counted_rest {n = (n + 1) % 16} xs c

pub stretch : (kind : Kind) (pid : ℕ) (calls : List Call) → pid_allowed pid ≡ true → Each OfTypes calls → (before fs after : List (List ℕ))
    → frames_of (started kind pid) calls ≡ before ++ (fs ++ after) → From kind pid fs
stretch kind pid calls e t before fs after q =
    let c = counted_rest before (subst (Counted kind pid 0) q (counted_run kind pid calls e t)) in
    record { n = c.n; counts = counted_front fs after c.counts }

-- ---- the limit of fifteen

abbrev Missing : Sent → Type 0
Missing s = is_kept s.fate ≡ false

each_snoc : {xs : List Sent} (x : Sent) → Each Missing xs → Missing x → Each Missing (xs ++ (x ∷ []))
each_snoc x none m = more m none
each_snoc x (more p ps) m = more p (each_snoc x ps m)

-- of any frames, behind some whose headers are missing in a row
pub in_row : (sent : List Sent) → InARowAtMost 15 sent → (before row rest : List Sent) → sent ≡ before ++ (row ++ rest) → Each Missing row → InRow (length row) rest
in_row sent most before row [] e m = end
in_row sent most before row (s ∷ ss) e m =
    by_fate (is_kept s.fate) refl
    (λ d q. in_row sent most d [] ss q none)
    (λ q n. in_row sent most before (row ++ (s ∷ [])) ss q n)
  where
    longer : sent ≡ before ++ ((row ++ (s ∷ [])) ++ ss)
    longer = e ∙ ap (λ (l : List Sent). before ++ l) (sym (append_assoc row (s ∷ []) ss))

    count : length (row ++ (s ∷ [])) ≡ length row + 1
    count = length-append row (s ∷ [])

    by_fate : (b : Bool) → is_kept s.fate ≡ b → ((d : List Sent) → sent ≡ d ++ ss → InRow 0 ss)
        → (sent ≡ before ++ ((row ++ (s ∷ [])) ++ ss) → Each Missing (row ++ (s ∷ [])) → InRow (length (row ++ (s ∷ []))) ss) → InRow (length row) (s ∷ ss)
    by_fate true k next more_gone = here k (next (before ++ (row ++ (s ∷ []))) (longer ∙ sym (append_assoc before (row ++ (s ∷ [])) ss)))
    by_fate false k next more_gone =
        let all = each_snoc s m k in
        let few : length (row ++ (s ∷ [])) ≤ 15 = most before (row ++ (s ∷ [])) ss longer all in
        let one_more : length row + 1 ≤ 15 = omega (arith, few, count) in
        gone k one_more (subst (λ (j : ℕ). InRow j ss) count (more_gone longer all))

-- ---- a fresh receiver

zeros_fit : (w n : ℕ) → Fit w (replicate n 0)
zeros_fit w zero = fit_none
zeros_fit w (suc n) = fit_more (pow_pos w) (zeros_fit w n)

zeros_pass : (kind : Kind) → NoneHolds (number_checks (size_of kind) (replicate last_slot 0))
zeros_pass kind =
    let bits = (size_of kind).number_bits in
    one-check (some_fit bits (replicate last_slot 0) (zeros_fit bits last_slot))
    (one-check (some_fit 0 (drop (slots_of kind) (replicate last_slot 0)) (fit_drop (slots_of kind) (zeros_fit 0 last_slot))) no-check)

pub waiting-set : (kind : Kind) (pid : ℕ) (store : List ℕ) → pid_allowed pid ≡ true → length store ≡ store_length (slots_of kind) → Set kind pid (record { state = waiting kind pid; store = store })
unfolding waiting
waiting-set kind pid store e l =
    record {
      kind_is = refl;
      pid_is = refl;
      allowed = e;
      stage_is = waits;
      numbers_fit = zeros_fit 4 last_slot;
      numbers_long = refl;
      numbers_pass = zeros_pass kind;
      before_fit = zeros_fit 4 last_slot;
      before-long = refl;
      before_pass = zeros_pass kind;
      store_long = l;
    }

pub waiting-stage : (kind : Kind) (pid : ℕ) → (waiting kind pid).stage ≡ Stage.Waiting
unfolding waiting
waiting-stage kind pid = refl

module _ (kind : Kind) (pid r : ℕ) (store out : List ℕ) (e : pid_allowed pid ≡ true) (a : Asked kind r store out) where
  abbrev fresh : Reception
  fresh = record { state = waiting kind pid; store = store }

  -- whatever happens on the way
  out_of_fresh : (n : ℕ) (sent : List Sent) → Counted kind pid n (map (λ s. s.frame) sent) → Each (MayHappen kind pid) sent → InRow 0 sent
      → handed_out r out (fresh_with kind pid store) (arriving sent) ≡ wanted kind pid r sent
  out_of_fresh n sent c h q =
      comes_out kind pid r store out a sent n 0 [] fresh (waiting-set kind pid store e a.store_long) (nothing (waiting-stage kind pid) refl) (omega arith) c h q
      ∙ ap (λ (x : List ℕ). x ++ wanted kind pid r sent) (first_none kind pid r store out a sent)

-- a stretch of a run's frames, whatever happens to it on the way
pub stretch_comes_out : (kind : Kind) (pid : ℕ) (calls : List Call) → pid_allowed pid ≡ true → Each OfTypes calls → (before after : List (List ℕ)) (sent : List Sent)
    → frames_of (started kind pid) calls ≡ before ++ (map (λ s. s.frame) sent ++ after) → Each (MayHappen kind pid) sent → InRow 0 sent
    → (r : ℕ) (store out : List ℕ) → Asked kind r store out → handed_out r out (fresh_with kind pid store) (arriving sent) ≡ wanted kind pid r sent
stretch_comes_out kind pid calls e t before after sent q h row r store out a =
    let c = stretch kind pid calls e t before (map (λ s. s.frame) sent) after q in
    out_of_fresh kind pid r store out e a c.n sent c.counts h row

-- ---- what was placed in a frame

behind-header : (kind : Kind) (pid : ℕ) (h : Setting × Work)
    → drop packet_length (frame_of kind pid h) ≡ slots_filled (resized (slots_of kind) h.1.setting.relative_ts_number) h.1.lent
unfolding frame_of
behind-header kind pid h =
    drop_at (header kind pid h.0) (slots_filled (resized (slots_of kind) h.1.setting.relative_ts_number) h.1.lent) packet_length (length-header kind pid h.0)

-- the packets numbered r of a frame that was composed
pub placed_in_frame : (kind : Kind) (pid r : ℕ) (h : Setting × Work) → Good kind pid h → 1 ≤ r
    → numbered r (numbers_in kind pid (frame_of kind pid h)) (drop packet_length (frame_of kind pid h))
    ≡ take (packet_length * slots_for r h.1.setting.relative_ts_number) (h.1.lent r)
placed_in_frame kind pid r h g l =
    ap₂ (numbered r) (ap (λ (x : Reading). x.setting.relative_ts_number) (header_read kind pid h g)) (behind-header kind pid h)
    ∙ front-placed kind pid h g r l

pub first_of_each : {A : Type 0} {P : A → Type 0} {x : A} {xs : List A} → Each P (x ∷ xs) → P x
first_of_each (more p ps) = p

pub each_rest : {A : Type 0} {P : A → Type 0} (xs ys : List A) → Each P (xs ++ ys) → Each P ys
each_rest [] ys p = p
each_rest (x ∷ xs) ys (more q p) = each_rest xs ys p

pub map_append : {A B : Type 0} (g : A → B) (xs ys : List A) → map g (xs ++ ys) ≡ map g xs ++ map g ys
map_append g [] ys = refl
map_append g (x ∷ xs) ys = ap (λ (l : List _). g x ∷ l) (map_append g xs ys)
