-- A run with packets lost and headers spoiled, frame by frame: nothing comes out but whole frames. Assumes nothing.
use Prim.Native.Nat.{ℕ, suc, ◌+◌, ◌*◌, ◌%◌, ◌≤◌, ◌<◌}
use mathlib.Core.Path.{◌≡◌, refl, sym, ap, ap₂, subst, ◌∙◌}
use mathlib.Core.Bool.{Bool, true, false, cond, ◌&&◌, and-false, true≢false}
use mathlib.Core.List.{List, [], ◌∷◌, ◌++◌, map, append-nil, append_assoc}
use native.Mathlib.Omega.{arith}
use borrow.Author.Tests.{eq-eqb, ne_eqb}
use lib.Dec.{eqb}
use lib.ListN.{length, take, drop, length-drop, drop_of_length-le, take-append-drop}
use lib.Seq.{length-take-le, drop-drop}
use Rattle.setting.specs.declared.Kind.{Kind}
use Rattle.setting.specs.Size.{slots_of}
use Rattle.header_read.specs.Reader.{Reading}
use Rattle.packet.specs.Packets.{packet_length, slot, unfit}
use Rattle.receiver.specs.declared.Stage.{Stage}
use Rattle.receiver.specs.Store.{store_length, numbered}
use Rattle.receiver.proofs.Sorts.{not_good}
use Rattle.runs.specs.Runs.{Each, none, more}
use Rattle.runs.specs.Losses.{Fate, kept, lost, spoiled, is_kept, Sent, MayHappen, Refused, header_arrives, packets_arrive, arriving, numbers_in, entire, wanted}
use Rattle.runs.proofs.Reception.{Reception, after_packet, handed_out}
use Rattle.runs.proofs.Table.{Asked, Opens, open_at, ready_at, Set, Follows, dropped, goes_on, Plain, joined, after_all, StoredAll, stored_all, Bad, bad_all, same_opens}
use Rattle.runs.proofs.Vouched.{GoodFrame, good_set, good_opens, good_numbers, Owes, nothing, something, vouches}

pub each_append : {A : Type 0} {P : A → Type 0} {xs ys : List A} → Each P xs → Each P ys → Each P (xs ++ ys)
each_append none q = q
each_append (more x p) q = more x (each_append p q)

-- ---- the packets behind a header

pub slot-behind : (i : ℕ) (bytes : List ℕ) → slot i (drop packet_length bytes) ≡ slot (suc i) bytes
unfolding slot
slot-behind i bytes =
    let e : packet_length + packet_length * i ≡ packet_length * suc i = omega arith in
    ap (take packet_length) (drop-drop (packet_length * i) packet_length bytes) ∙ ap (λ (n : ℕ). take packet_length (drop n bytes)) e

-- each is of 188 bytes and neither broken nor a header
pub arrive_plain : (pid : ℕ) (marks : List Bool) (bytes : List ℕ) → length bytes ≡ packet_length * length marks
    → ((i : ℕ) → i < length marks → unfit pid (slot i bytes) ≡ false) → Each (Plain pid) (packets_arrive marks bytes)
unfolding packets_arrive slot
arrive_plain pid [] bytes l f = none
arrive_plain pid (a ∷ later) bytes l f =
    by_mark a
    (arrive_plain pid later (drop packet_length bytes) (length-drop packet_length bytes ∙ omega arith) (λ i h. ap (unfit pid) (slot-behind i bytes) ∙ f (suc i) (omega arith)))
  where
    by_mark : (b : Bool) → Each (Plain pid) (packets_arrive later (drop packet_length bytes))
        → Each (Plain pid) (cond b (take packet_length bytes ∷ packets_arrive later (drop packet_length bytes)) (packets_arrive later (drop packet_length bytes)))
    by_mark true ps = more (length-take-le packet_length bytes (omega arith), f 0 (omega arith)) ps
    by_mark false ps = ps

arrive_length : (marks : List Bool) (bytes : List ℕ) → length (packets_arrive marks bytes) ≤ length marks
unfolding packets_arrive
arrive_length [] bytes = omega arith
arrive_length (a ∷ later) bytes = by_mark a (arrive_length later (drop packet_length bytes))
  where
    by_mark : (b : Bool) → length (packets_arrive later (drop packet_length bytes)) ≤ length later
        → length (cond b (take packet_length bytes ∷ packets_arrive later (drop packet_length bytes)) (packets_arrive later (drop packet_length bytes))) ≤ suc (length later)
    by_mark true h = omega arith
    by_mark false h = omega arith

-- all of them, or not all
pub arrive_entire : (marks : List Bool) (bytes : List ℕ) → entire marks ≡ true → length bytes ≡ packet_length * length marks
    → (length (packets_arrive marks bytes) ≡ length marks) × (joined (packets_arrive marks bytes) ≡ bytes)
unfolding packets_arrive joined
arrive_entire [] [] e l = (refl, refl)
arrive_entire [] (b ∷ bytes) e l = absurd (omega arith)
arrive_entire (true ∷ later) bytes e l =
    let ih = arrive_entire later (drop packet_length bytes) e (length-drop packet_length bytes ∙ omega arith) in
    (ap suc ih.0, ap (λ (x : List ℕ). take packet_length bytes ++ x) ih.1 ∙ take-append-drop packet_length bytes)
arrive_entire (false ∷ later) bytes e l = absurd (true≢false (sym e))

arrive_missing : (marks : List Bool) (bytes : List ℕ) → entire marks ≡ false → length (packets_arrive marks bytes) < length marks
unfolding packets_arrive
arrive_missing [] bytes e = absurd (true≢false e)
arrive_missing (true ∷ later) bytes e = let ih = arrive_missing later (drop packet_length bytes) e in omega arith
arrive_missing (false ∷ later) bytes e = let h = arrive_length later (drop packet_length bytes) in omega arith

-- ---- what follows where the receiver stood

is_waiting : Stage → Bool
is_waiting Stage.Waiting = true
is_waiting (Stage.Open from k) = false
is_waiting (Stage.Ready from) = false

not-waiting : {stage : Stage} {from k : ℕ} → Opens stage from k → is_waiting stage ≡ false
unfolding is_waiting
not-waiting (open_at _ _) = refl
not-waiting (ready_at _) = refl

is_waiting_from : {stage : Stage} → stage ≡ Stage.Waiting → is_waiting stage ≡ true
unfolding is_waiting
is_waiting_from e = ap is_waiting e

waits_on : {slots : ℕ} {a b : Stage} → a ≡ Stage.Waiting → Follows slots a b → b ≡ Stage.Waiting
waits_on e dropped = refl
waits_on e (goes_on from k j o p h l) = absurd (true≢false (sym (is_waiting_from e) ∙ not-waiting o))

data Goes (slots : ℕ) (next : Stage) (from : ℕ) : Type 0 where
  stops : next ≡ Stage.Waiting → Goes slots next from
  on : (j : ℕ) → Opens next from j → j ≤ slots → Goes slots next from

opens_on : {slots : ℕ} {a b : Stage} (from k : ℕ) → Opens a from k → Follows slots a b → Goes slots b from
opens_on from k o dropped = stops refl
opens_on {slots} {a} {b} from k o (goes_on from' k' j o' p h l) = on j (subst (λ (n : ℕ). Opens b n j) (sym (same_opens o o').0) p) l

-- ---- a run of frames

-- frames with counters that step by 1, from n on
pub data Counted (kind : Kind) (pid : ℕ) : ℕ → List (List ℕ) → Type 0 where
  no_more : {n : ℕ} → Counted kind pid n []
  and_then : {n : ℕ} {f : List ℕ} {fs : List (List ℕ)} → GoodFrame kind pid n f → Counted kind pid ((n + 1) % 16) fs → Counted kind pid n (f ∷ fs)

-- m headers were missing in a row before the first, and never are there more than fifteen
pub data InRow : ℕ → List Sent → Type 0 where
  end : {m : ℕ} → InRow m []
  here : {m : ℕ} {s : Sent} {ss : List Sent} → is_kept s.fate ≡ true → InRow 0 ss → InRow m (s ∷ ss)
  gone : {m : ℕ} {s : Sent} {ss : List Sent} → is_kept s.fate ≡ false → m + 1 ≤ 15 → InRow (m + 1) ss → InRow m (s ∷ ss)

module _ (kind : Kind) (pid r : ℕ) (store out : List ℕ) (a : Asked kind r store out) where
  abbrev slots : ℕ
  slots = slots_of kind

  -- ---- a frame whose header arrives

  module _ (n : ℕ) (f : List ℕ) (marks : List Bool) (w : Reception) (s : Set kind pid w) (g : GoodFrame kind pid n f) (l : length marks ≡ slots) where
    abbrev bytes : List ℕ
    bytes = drop packet_length f

    abbrev packets : List (List ℕ)
    packets = packets_arrive marks bytes

    abbrev opened : Reception
    opened = after_packet w (slot 0 f)

    bytes-long : length bytes ≡ packet_length * length marks
    bytes-long = length-drop packet_length f ∙ omega (arith, g.long, l)

    all_stored : StoredAll kind pid r out n 0 opened packets [] opened.store
    all_stored =
        stored_all kind pid r out n 0 opened packets [] opened.store (good_set kind pid n (slot 0 f) w s g.header) (good_opens kind pid n (slot 0 f) w s g.header)
        (omega (arith, arrive_length marks bytes, l))
        (arrive_plain pid marks bytes bytes-long (λ i h. g.fit i (omega (arith, l)))) refl refl

    -- the next header brings it out where it arrived entire
    owed_then : Owes slots r ((n + 1) % 16) 0 (cond (entire marks) (numbered r g.header.setting.relative_ts_number bytes) []) (after_all opened packets)
    owed_then =
        something n (0 + length packets) all_stored.stage_then g.header.small (omega (arith, arrive_length marks bytes, l)) (omega arith) (by_marks (entire marks) refl)
      where
        then : Reception
        then = after_all opened packets

        by_marks : (b : Bool) → entire marks ≡ b
            → cond b (numbered r g.header.setting.relative_ts_number bytes) []
            ≡ cond (eqb (0 + length packets) slots && eqb 0 0) (numbered r (after_all opened packets).state.numbers (after_all opened packets).store) []
        by_marks true e =
            let whole = arrive_entire marks bytes e bytes-long in
            let count : 0 + length packets ≡ slots = omega (arith, whole.0, l) in
            let long : length opened.store ≡ store_length slots = (good_set kind pid n (slot 0 f) w s g.header).store_long in
            let stored : (after_all opened packets).store ≡ bytes =
            all_stored.store_then
            ∙ ap₂ (λ (x y : List ℕ). x ++ y) whole.1 (drop_of_length-le opened.store {i = packet_length * (0 + length packets)} (omega arith)) ∙ append-nil bytes in
            ap₂ (numbered r) (sym (all_stored.numbers_then ∙ good_numbers kind pid n (slot 0 f) w s g.header)) (sym stored)
            ∙ ap (λ (b : Bool). cond (b && true) (numbered r (after_all opened packets).state.numbers (after_all opened packets).store) []) (sym (eq-eqb (0 + length packets) slots count))
        by_marks false e =
            let few = arrive_missing marks bytes e in
            ap (λ (b : Bool). cond (b && true) (numbered r (after_all opened packets).state.numbers (after_all opened packets).store) [])
            (sym (ne_eqb (0 + length packets) slots (λ q. omega (arith, few, l))))

  -- ---- a frame whose header does not

  plain_bad : {ps : List (List ℕ)} → Each (Plain pid) ps → Each (Bad kind pid) ps
  plain_bad none = none
  plain_bad (more (l, u) ps) = more (l, not_good kind pid _ u) (plain_bad ps)

  -- one more header is missing, and nothing is owed
  owed_on : (n m : ℕ) (x : List ℕ) (w v : Reception) → Owes slots r n m x w → Follows slots w.state.stage v.state.stage → Owes slots r ((n + 1) % 16) (m + 1) [] v
  owed_on n m x w v (nothing e z) f = nothing (waits_on e f) refl
  owed_on n m x w v (something from k o h l e z) f = by_stage (opens_on from k o f)
    where
      by_stage : Goes slots v.state.stage from → Owes slots r ((n + 1) % 16) (m + 1) [] v
      by_stage (stops q) = nothing q refl
      by_stage (on j p q) =
          something from j p h q (omega arith)
          (ap (λ (b : Bool). cond b (numbered r v.state.numbers v.store) [])
          (sym (ap (λ (b : Bool). eqb j slots && b) (ne_eqb (m + 1) 0 (λ z. omega arith)) ∙ and-false (eqb j slots))))

  -- what arrives in a header's place is no good header
  header_bad : (fate : Fate) (p : List ℕ) → is_kept fate ≡ false → Refused kind pid fate → Each (Bad kind pid) (header_arrives fate p)
  unfolding header_arrives
  header_bad kept p e q = absurd (true≢false e)
  header_bad lost p e q = none
  header_bad (spoiled b) p e q = more q none

  header_kept : (fate : Fate) (p : List ℕ) → is_kept fate ≡ true → header_arrives fate p ≡ p ∷ []
  unfolding header_arrives
  header_kept kept p e = refl
  header_kept lost p e = absurd (true≢false (sym e))
  header_kept (spoiled b) p e = absurd (true≢false (sym e))

  -- ---- all frames

  -- what the first frame's header brings out of what stood before it
  abbrev first : List ℕ → List Sent → List ℕ
  first x [] = []
  first x (s ∷ ss) = cond (is_kept s.fate) x []

  pub first_none : (ss : List Sent) → first [] ss ≡ []
  first_none [] = refl
  first_none (s ∷ ss) = by_fate (is_kept s.fate)
    where
      by_fate : (b : Bool) → cond {A = List ℕ} b [] [] ≡ []
      by_fate true = refl
      by_fate false = refl

  -- a frame is wanted where the next header comes
  wanted_kept : (s : Sent) (ss : List Sent) (y : List ℕ) → is_kept s.fate ≡ true
      → y ≡ cond (entire s.arrived) (numbered r (numbers_in kind pid s.frame) (drop packet_length s.frame)) []
      → first y ss ++ wanted kind pid r ss ≡ wanted kind pid r (s ∷ ss)
  unfolding wanted
  wanted_kept s [] y k e = refl
  wanted_kept s (t ∷ ss) y k e =
      ap (λ (x : List ℕ). x ++ wanted kind pid r (t ∷ ss))
      (ap (λ (x : List ℕ). cond (is_kept t.fate) x []) e ∙ by_marks (entire s.arrived) (is_kept t.fate)
      ∙ ap (λ (b : Bool). cond (b && (entire s.arrived && is_kept t.fate)) (numbered r (numbers_in kind pid s.frame) (drop packet_length s.frame)) []) (sym k))
    where
      by_marks : (a b : Bool) → cond b (cond a (numbered r (numbers_in kind pid s.frame) (drop packet_length s.frame)) []) []
          ≡ cond (a && b) (numbered r (numbers_in kind pid s.frame) (drop packet_length s.frame)) []
      by_marks true true = refl
      by_marks true false = refl
      by_marks false true = refl
      by_marks false false = refl

  pub wanted_missing : (s : Sent) (ss : List Sent) → is_kept s.fate ≡ false → wanted kind pid r ss ≡ wanted kind pid r (s ∷ ss)
  unfolding wanted
  wanted_missing s [] k = refl
  wanted_missing s (t ∷ ss) k =
      ap (λ (b : Bool). cond (b && (entire s.arrived && is_kept t.fate)) (numbered r (numbers_in kind pid s.frame) (drop packet_length s.frame)) [] ++ wanted kind pid r (t ∷ ss)) (sym k)

  pub comes_out : (sent : List Sent) (n m : ℕ) (x : List ℕ) (w : Reception) → Set kind pid w → Owes slots r n m x w → m ≤ 15
      → Counted kind pid n (map (λ s. s.frame) sent) → Each (MayHappen kind pid) sent → InRow m sent
      → handed_out r out w (arriving sent) ≡ first x sent ++ wanted kind pid r sent
  unfolding arriving handed_out wanted
  comes_out [] n m x w s o l c h q = refl
  comes_out (t ∷ ss) n m x w s o l (and_then g c) (more h hs) (here k q) =
      let ps = packets_arrive t.arrived (drop packet_length t.frame) in
      let st = all_stored n t.frame t.arrived w s g h.0 in
      let y = cond (entire t.arrived) (numbered r g.header.setting.relative_ts_number (drop packet_length t.frame)) [] in
      let ih = comes_out ss ((n + 1) % 16) 0 y (after_all (after_packet w (slot 0 t.frame)) ps) st.set_then
      (owed_then n t.frame t.arrived w s g h.0) (omega arith) c hs q in
      let numbers : g.header.setting.relative_ts_number ≡ numbers_in kind pid t.frame = sym (ap (λ (z : Reading). z.setting.relative_ts_number) g.header.read) in
      ap (λ (hd : List (List ℕ)). handed_out r out w (hd ++ (ps ++ arriving ss))) (header_kept t.fate (slot 0 t.frame) k)
      ∙ vouches kind pid r n m x store out (slot 0 t.frame) w s g.header a l o (ps ++ arriving ss)
      ∙ ap (λ (z : List ℕ). x ++ z)
      (st.quiet_then (arriving ss) ∙ ih
      ∙ wanted_kept t ss y k (ap (λ (ns : List ℕ). cond (entire t.arrived) (numbered r ns (drop packet_length t.frame)) []) numbers))
      ∙ ap (λ (b : Bool). cond b x [] ++ wanted kind pid r (t ∷ ss)) (sym k)
  comes_out (t ∷ ss) n m x w s o l (and_then g c) (more h hs) (gone k b q) =
      let ps = packets_arrive t.arrived (drop packet_length t.frame) in
      let hd = header_arrives t.fate (slot 0 t.frame) in
      let plain = arrive_plain pid t.arrived (drop packet_length t.frame) (bytes-long n t.frame t.arrived w s g h.0) (λ i e. g.fit i (omega (arith, h.0))) in
      let ba = bad_all kind pid r out w (hd ++ ps) s (each_append (header_bad t.fate (slot 0 t.frame) k h.1) (plain_bad plain)) in
      let ih = comes_out ss ((n + 1) % 16) (m + 1) [] (after_all w (hd ++ ps)) ba.set_then
      (owed_on n m x w (after_all w (hd ++ ps)) o ba.follows_then) b c hs q in
      ap (handed_out r out w) (sym (append_assoc hd ps (arriving ss)))
      ∙ ba.quiet_then (arriving ss) ∙ ih
      ∙ ap (λ (z : List ℕ). z ++ wanted kind pid r ss) (first_none ss) ∙ wanted_missing t ss k
      ∙ ap (λ (b : Bool). cond b x [] ++ wanted kind pid r (t ∷ ss)) (sym k)
