-- Demand 2 over bonded carriers, from the composers to the gathered stream, proved. Assumes nothing.
use Prim.Native.Nat.{ℕ, zero, suc, ◌+◌, ◌*◌, ◌≤◌, ◌<◌}
use mathlib.Core.Path.{◌≡◌, refl, sym, ap, ap₂, subst, ◌∙◌}
use mathlib.Core.Bool.{Bool, true, false}
use mathlib.Core.List.{List, [], ◌∷◌, ◌++◌, map, flatten, append-nil, append_assoc}
use native.Mathlib.Omega.{arith}
use lib.ListN.{length, get_or, take, drop, take-append-drop}
use lib.Seq.{drop-drop, drop_at, take_at}
use Rattle.counters.specs.Counters.{last_slot}
use Rattle.setting.specs.declared.Kind.{Kind}
use Rattle.setting.specs.Size.{size_of, slots_of}
use Rattle.counters.specs.Counters.{last_slot}
use Rattle.slices.specs.Slices.{Among, here, there}
use Rattle.packet.specs.Packets.{packet_length, frame_length, slot, unfit}
use Rattle.runs.specs.Runs.{Each, none, more}
use Rattle.runs.specs.Losses.{arriving}
use Rattle.runs.specs.Firmware.{tuned_to}
use Rattle.runs.specs.Demands.{whole, header_alone}
use Rattle.runs.proofs.Lost.{Counted}
use Rattle.runs.proofs.Values.{From, counted_front, counted_rest}
use Rattle.runs.proofs.Demands.{run_stretch, tuned_fresh}
use Rattle.setting_bytes.specs.Kinds.{kind_of}
use Rattle.setting_bytes.proofs.KindsBack.{kind_back}
use Rattle.receiver.specs.Store.{store_length}
use Rattle.bond_group.specs.declared.Bond.{Bond}
use Rattle.bond_group.specs.Group.{packets_in, bonded, order}
use Rattle.bond.specs.Bonding.{spread_group, gather_of, gather_buffer}
use Rattle.bond.specs.Demands.{WellFormed, Fitting}
use Rattle.bond_group.proofs.Passing.{Called, called}
use Rattle.bond.proofs.Demands.{comes_back, in_this_order, nothing_else, order_holds}
use Rattle.bonded.specs.Carriers.{extended, Carrier, super_at, group_at, frames_from, frames_over, sent_by, frames_kept, received, cut_at, group_again}
use Rattle.bonded.specs.Demands.{spread_at, brought_at, BackFromItsCarriers}
use Rattle.bonded.proofs.Kept.{fresh_kept}
use Rattle.bonded.proofs.Alike.{Alike, cut-frames}

-- ---- a spread leaves good packets in the group

-- one of a list stands somewhere in it
record Found (m : ℕ) (ms : List ℕ) : Type 0 where
  at : ℕ
  inside : at < length ms
  is : get_or ms at 0 ≡ m

found : (m : ℕ) (ms : List ℕ) → Among m ms → Found m ms
found m [] x' = elim x' [ ]
found m (k ∷ ms) here = record { at = 0; inside = omega arith; is = refl }
found m (k ∷ ms) (there a) = let f = found m ms a in record { at = suc f.at; inside = omega (arith, f.inside); is = f.is }

module _ (b : Bond) (group stream : List ℕ) (w : WellFormed b group) (s : Fitting b group stream) where
  abbrev call : Called b (length group)
  call = called b (length group) w.called

  bonded_fit : (m : ℕ) → Among m (order b group) → unfit b.pid (slot m (spread_group b group stream)) ≡ false
  bonded_fit m a =
      let f = found m (order b group) a in
      ap (λ (k : ℕ). unfit b.pid (slot k (spread_group b group stream))) (sym f.is)
      ∙ ap (unfit b.pid) (in_this_order b group stream w s f.at f.inside) ∙ s.good f.at f.inside

  spread_alike : Alike b.pid group (spread_group b group stream)
  spread_alike =
      record {
        long = (nothing_else b group stream).0;
        header = (nothing_else b group stream).2;
        fit = λ m l u. by_bond m l u (bonded b group m) refl;
      }
    where
      by_bond : (m : ℕ) → packet_length * m + packet_length ≤ length group → unfit b.pid (slot m group) ≡ false
          → (t : Bool) → bonded b group m ≡ t → unfit b.pid (slot m (spread_group b group stream)) ≡ false
      by_bond m l u true e =
          let inside : m < packets_in group = omega (arith, l, call.frames) in
          bonded_fit m ((order_holds b group w).2 m inside e)
      by_bond m l u false e = ap (unfit b.pid) ((nothing_else b group stream).1 m e) ∙ u

-- ---- carrier by carrier

-- the frames of a buffer, with what stands behind them, are the buffer
frames_flat : (n : ℕ) (bytes : List ℕ) → flatten (frames_from n bytes) ++ drop (frame_length last_slot * n) bytes ≡ bytes
unfolding frames_from flatten
frames_flat zero bytes = refl
frames_flat (suc n) bytes =
    let e : frame_length last_slot * suc n ≡ frame_length last_slot + frame_length last_slot * n = omega arith in
    append_assoc (take (frame_length last_slot) bytes) (flatten (frames_from n (drop (frame_length last_slot) bytes))) (drop (frame_length last_slot * suc n) bytes)
    ∙ ap (λ (x : List ℕ). take (frame_length last_slot) bytes ++ (flatten (frames_from n (drop (frame_length last_slot) bytes)) ++ x))
    (ap (λ (k : ℕ). drop k bytes) e ∙ sym (drop-drop (frame_length last_slot * n) (frame_length last_slot) bytes))
    ∙ ap (λ (x : List ℕ). take (frame_length last_slot) bytes ++ x) (frames_flat n (drop (frame_length last_slot) bytes)) ∙ take-append-drop (frame_length last_slot) bytes

-- as many as were asked for
length-frames : (n : ℕ) (bytes : List ℕ) → length (frames_from n bytes) ≡ n
unfolding frames_from
length-frames zero bytes = refl
length-frames (suc n) bytes = ap suc (length-frames n (drop (frame_length last_slot) bytes))

-- super frame k of the frames that were sent is what was sent of group k
cut-over : (supers : List (List (List ℕ))) (bytes : ℕ → List ℕ) (k : ℕ) → k < length supers
    → cut_at supers k (frames_over supers bytes) ≡ frames_from (length (get_or supers k [])) (bytes k)
unfolding cut_at frames_over
cut-over [] bytes k h = absurd (omega arith)
cut-over (s ∷ ss) bytes zero h = take_at (frames_from (length s) (bytes 0)) (frames_over ss (λ k. bytes (suc k))) (length s) (length-frames (length s) (bytes 0))
cut-over (s ∷ ss) bytes (suc k) h =
    ap (cut_at ss k) (drop_at (frames_from (length s) (bytes 0)) (frames_over ss (λ k. bytes (suc k))) (length s) (length-frames (length s) (bytes 0)))
    ∙ cut-over ss (λ k. bytes (suc k)) k (omega arith)

module _ (kind : Kind) (pid : ℕ) (slots : slots_of kind ≡ last_slot) where
  -- super frame k is a stretch of a run's frames
  counted_at : (n : ℕ) (supers : List (List (List ℕ))) (tail : List (List ℕ)) (k : ℕ) → k < length supers → Counted kind pid n (flatten supers ++ tail)
      → From kind pid (get_or supers k [])
  unfolding flatten
  counted_at n [] tail k h c = absurd (omega arith)
  counted_at n (s ∷ ss) tail zero h c =
      record { n = n; counts = counted_front s (flatten ss ++ tail) (subst (Counted kind pid n) (append_assoc s (flatten ss) tail) c) }
  counted_at n (s ∷ ss) tail (suc k) h c =
      let r = counted_rest s (subst (Counted kind pid n) (append_assoc s (flatten ss) tail) c) in
      counted_at r.n ss tail k (omega arith) r.counts

  -- with good packets written over slots they count on
  counted_over : (n : ℕ) (supers : List (List (List ℕ))) (tail : List (List ℕ)) (bytes rest : ℕ → List ℕ) → Counted kind pid n (flatten supers ++ tail)
      → ((k : ℕ) → k < length supers → Alike pid (flatten (get_or supers k []) ++ rest k) (bytes k)) → Counted kind pid n (frames_over supers bytes ++ tail)
  unfolding flatten frames_over
  counted_over n [] tail bytes rest c a = c
  counted_over n (s ∷ ss) tail bytes rest c a =
      let later : (m : ℕ) → Counted kind pid m (flatten ss ++ tail) → Counted kind pid m (frames_over ss (λ k. bytes (suc k)) ++ tail) = λ m d.
      counted_over m ss tail (λ k. bytes (suc k)) (λ k. rest (suc k)) d (λ k h. a (suc k) (omega arith)) in
      subst (Counted kind pid n) (sym (append_assoc (frames_from (length s) (bytes 0)) (frames_over ss (λ k. bytes (suc k))) tail))
      (cut-frames kind pid slots n s (flatten ss ++ tail) (frames_over ss (λ k. bytes (suc k)) ++ tail) (rest 0) (flatten s ++ rest 0) (bytes 0)
      (subst (Counted kind pid n) (append_assoc s (flatten ss) tail) c) later refl (a 0 (omega arith))).counts

module _ (pid rounds : ℕ) where
  abbrev kind : Kind
  kind = kind_of extended

  is_extended : kind ≡ Kind.Extended
  is_extended = kind_back Kind.Extended

  -- it has all slots
  slots : slots_of kind ≡ last_slot
  unfolding size_of
  slots = ap slots_of is_extended

  -- the super frames of a carrier and the frame behind them are a stretch of its run
  run_of : (c : Carrier pid) → From kind pid (flatten c.supers ++ (c.next ∷ []))
  run_of c =
      run_stretch pid extended c.run c.earlier (flatten c.supers ++ (c.next ∷ [])) c.later
      (c.closed ∙ ap (λ (x : List (List ℕ)). c.earlier ++ x) (sym (append_assoc (flatten c.supers) (c.next ∷ []) c.later)))

  module _ (c : Carrier pid) (cs : List (Carrier pid)) (bytes : ℕ → List ℕ) (long : length c.supers ≡ rounds)
      (a : (k : ℕ) → k < rounds → Alike pid (flatten (super_at c k) ++ group_at k cs) (bytes k)) where
    -- its receiver brings what it sent
    brought : frames_kept [] (tuned_to c.state pid extended c.store) (arriving (map (whole extended) (frames_over c.supers bytes) ++ (header_alone extended c.next ∷ [])))
        ≡ frames_over c.supers bytes
    brought =
        let r = run_of c in
        fresh_kept extended pid r.n (tuned_to c.state pid extended c.store) c.store (tuned_fresh c.state pid extended c.store c.accepted (c.store_long ∙ ap (λ (k : Kind). store_length (slots_of k)) (sym is_extended)))
        (frames_over c.supers bytes) c.next
        (counted_over kind pid slots r.n c.supers (c.next ∷ []) bytes (λ k. group_at k cs) r.counts (λ k h. a k (omega (arith, h, long))))

    -- and behind its part of a group stand the others'
    behind : (k : ℕ) → k < rounds → Alike pid (group_at k cs) (drop (frame_length last_slot * length (super_at c k)) (bytes k))
    behind k h =
        let r = run_of c in
        let f = counted_at kind pid slots r.n c.supers (c.next ∷ []) k (omega (arith, h, long)) r.counts in
        (cut-frames kind pid slots f.n (super_at c k) [] [] (group_at k cs) (flatten (super_at c k) ++ group_at k cs) (bytes k)
        (subst (Counted kind pid f.n) (sym (append-nil (super_at c k))) f.counts) (λ m d. d) refl (a k h)).behind

  all_back : (carriers : List (Carrier pid)) (bytes : ℕ → List ℕ) → Each (λ c. length c.supers ≡ rounds) carriers
      → ((k : ℕ) → k < rounds → Alike pid (group_at k carriers) (bytes k))
      → (k : ℕ) → k < rounds → group_again k carriers (received carriers (sent_by carriers bytes)) ≡ bytes k
  unfolding group_at sent_by received group_again
  all_back [] bytes none a k h = sym (empty (bytes k) (a k h).long)
    where
      empty : (l : List ℕ) → length l ≡ 0 → l ≡ []
      empty [] e = refl
      empty (x ∷ l) e = absurd (omega arith)
  all_back (c ∷ cs) bytes (more l ls) a k h =
      ap₂ (λ (x y : List ℕ). x ++ y)
      (ap flatten (ap (cut_at c.supers k) (brought c cs bytes l a) ∙ cut-over c.supers bytes k (omega (arith, h, l))))
      (all_back cs (λ j. drop (frame_length last_slot * length (super_at c j)) (bytes j)) ls (behind c cs bytes l a) k h)
      ∙ frames_flat (length (super_at c k)) (bytes k)

pub back_from_its_carriers : BackFromItsCarriers
back_from_its_carriers b carriers rounds streams m k h out room =
    let group = group_at k carriers in
    let back : brought_at b carriers streams k ≡ spread_at b carriers streams k =
    all_back b.pid rounds carriers (spread_at b carriers streams) m.each_carrier
    (λ j q. spread_alike b (group_at j carriers) (streams j) (m.well_formed j q) (m.fitting j q)) k h in
    let come = comes_back b group (streams k) out (m.well_formed k h) (m.fitting k h) room in
    (ap (λ (g : List ℕ). gather_of b g (length out)) back ∙ come.1, ap (λ (g : List ℕ). gather_buffer b g out) back ∙ come.2)
