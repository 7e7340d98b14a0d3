-- With sixteen headers lost in a row the promise fails: of eighteen frames 51 packets of the first and one of the seventeenth arrive between the
-- first header and the last, whose counter is one more, and come out as one frame. Assumes nothing.
use Prim.Native.Nat.{ℕ, zero, suc, ◌+◌, ◌*◌, ◌%◌, ◌^◌, ◌<◌}
use mathlib.Core.Path.{◌≡◌, refl, sym, ap, ap₂, subst, ◌∙◌}
use mathlib.Core.Bool.{Bool, true, false, cond, ◌&&◌, and-false}
use mathlib.Core.List.{List, [], ◌∷◌, ◌++◌, map, append-nil, append_assoc}
use native.Mathlib.Omega.{arith}
use borrow.Author.Tests.{eq-eqb}
use lib.Dec.{lit<}
use lib.ListN.{length, take, drop, replicate, length-append, length-drop, length-map, length-replicate}
use lib.Seq.{length-take-le}
use Rattle.setting.specs.declared.Kind.{Kind}
use Rattle.setting.specs.declared.Setting.{Setting}
use Rattle.counters.specs.Counters.{last_slot}
use Rattle.header_read.specs.Reader.{Reading}
use Rattle.setting.specs.declared.Announced.{Announced}
use Rattle.packet.specs.Packets.{packet_length, slot, unfit}
use Rattle.setting.specs.Announcing.{announced}
use Rattle.composer.specs.Composing.{counter_behind, version_behind, saying}
use Rattle.setting_bytes.specs.Words.{word_bytes}
use Rattle.setting_bytes.specs.Kinds.{kind_of, kind_number}
use Rattle.setting_bytes.proofs.KindsBack.{kind_back}
use Rattle.counters.specs.Counters.{available}
use Rattle.setting.specs.Rules.{some_unavailable, pair_twice, absent_checks, width_checks, bonding_checks, rule_checks}
use Rattle.setting_bytes.specs.Settings.{announced_bytes, setting_bytes}
use Rattle.setting.specs.Refusal.{first_of}
use Rattle.setting.specs.Size.{size_of, slots_of}
use Rattle.setting.proofs.Refusals.{none_at}
use Rattle.slices.specs.Slices.{any_below, some_at_least}
use Rattle.receiver.specs.Store.{store_length, numbered, slots_for}
use Rattle.receiver.specs.Receiving.{waiting}
use Rattle.receiver.specs.Bytes.{receiver_length}
use Rattle.receiver.specs.Calls.{start_refused as receiver_refused}
use Rattle.receiver.proofs.Store.{length-numbered, has_packets}
use Rattle.runs.specs.Runs.{Call, Each, none, more, started, frames_of}
use Rattle.runs.specs.Work.{Work, numbers_filled, said, headed_behind, headed, frame_of, added, taken as Wtaken}
use Rattle.runs.specs.Composed.{headed_by}
use Rattle.runs.specs.Losses.{kept, lost, is_kept, Sent, MayHappen, InARowAtMost, header_arrives, packets_arrive, arriving, entire, wanted}
use Rattle.runs.proofs.Reception.{Reception, after_packet, fresh_with, handed_out}
use Rattle.runs.specs.Firmware.{tuned_to}
use Rattle.runs.specs.Demands.{RunOfCalls, frames_closed, OneRun, LostOrSpoiled, FreshAndAsked, hands_out, SixteenFail, header_alone}
use Rattle.runs.proofs.Composed.{Good, header_read, hold, each_good}
use Rattle.runs.proofs.Table.{Asked, Set, Plain, after_all, StoredAll, stored_all}
use Rattle.runs.proofs.Vouched.{GoodFrame, good_set, good_opens, good_numbers, Owes, nothing, something, vouches}
use Rattle.runs.proofs.Lost.{slot-behind, arrive_plain, arrive_entire, Counted, and_then, each_append, wanted_missing}
use Rattle.runs.proofs.Values.{counted_run, first_of_each, waiting-set, waiting-stage, map_append}
use Rattle.runs.proofs.Tuned.{given_out-tuned}
use Rattle.runs.proofs.Demands.{tuned_fresh, always_room}
use Rattle.runs.proofs.Cycles.{the_pid, the_packet, plan, one_slot, Takes, one_takes, cycles, cycles_typed, work_of, works_are, run_of, run-frames}

-- ---- lists

-- a list of n elements and two more
record LastTwo {A : Type 0} (n : ℕ) (xs : List A) : Type 0 where
  front : List A
  y : A
  z : A
  is : xs ≡ front ++ (y ∷ z ∷ [])
  long : length front ≡ n

last_two : {A : Type 0} (n : ℕ) (xs : List A) → length xs ≡ n + 2 → LastTwo n xs
last_two zero [] e = absurd (omega arith)
last_two zero (y ∷ []) e = absurd (omega arith)
last_two zero (y ∷ z ∷ []) e = record { front = []; y = y; z = z; is = refl; long = refl }
last_two zero (x ∷ y ∷ z ∷ xs) e = absurd (omega arith)
last_two (suc n) [] e = absurd (omega arith)
last_two (suc n) (x ∷ xs) e =
    let r = last_two n xs (omega arith) in
    record { front = x ∷ r.front; y = r.y; z = r.z; is = ap (λ (l : List _). x ∷ l) r.is; long = ap suc r.long }

-- ---- eighteen frames

abbrev the_setting : Setting
the_setting = one_slot 1 0 0 0 0

taken : Takes Kind.Plain the_setting
unfolding one_slot first_of width_checks absent_checks size_of rule_checks bonding_checks some_unavailable pair_twice available some_at_least any_below setting_bytes announced_bytes announced word_bytes
taken = one_takes 1 0 0 0 0 Kind.Plain refl refl refl

each_taken : (n : ℕ) → Each (Takes Kind.Plain) (replicate n the_setting)
each_taken zero = none
each_taken (suc n) = more taken (each_taken n)

abbrev the_work : Work
the_work = work_of the_setting

works_alike : (n : ℕ) → map work_of (replicate n the_setting) ≡ replicate n the_work
works_alike zero = refl
works_alike (suc n) = ap (λ (l : List Work). the_work ∷ l) (works_alike n)

abbrev eighteen : List Call
eighteen = cycles Kind.Plain (replicate 18 the_setting)

length-behind : (counter version : ℕ) (last : Announced) (ks : List Work) → length (headed_behind counter version last ks) ≡ length ks
unfolding headed_behind
length-behind counter version last [] = refl
length-behind counter version last (k ∷ ks) = ap suc (length-behind (counter_behind counter) (version_behind version last k.setting) (announced k.setting) ks)

abbrev h₀ : Setting × Work
h₀ = (said 0 0 the_work, the_work)

abbrev others : List (Setting × Work)
others = headed_behind 0 0 (announced the_work.setting) (replicate 17 the_work)

headed-more : (k : Work) (ks : List Work) → headed (k ∷ ks) ≡ (said 0 0 k, k) ∷ headed_behind 0 0 (announced k.setting) ks
unfolding headed
headed-more k ks = refl

headed_is : headed_by Kind.Plain the_pid eighteen ≡ h₀ ∷ others
headed_is = ap headed (works_are Kind.Plain (replicate 18 the_setting) (each_taken 18) ∙ works_alike 18) ∙ headed-more the_work (replicate 17 the_work)

split : LastTwo 15 others
split = last_two 15 others (length-behind 0 0 (announced the_work.setting) (replicate 17 the_work) ∙ length-replicate 17 the_work)

abbrev framed : Setting × Work → List ℕ
framed = frame_of Kind.Plain the_pid

abbrev f₀ : List ℕ
f₀ = framed h₀

abbrev middle : List (List ℕ)
middle = map framed split.front

abbrev f₁₆ : List ℕ
f₁₆ = framed split.y

abbrev f₁₇ : List ℕ
f₁₇ = framed split.z

frames_are : frames_of (started Kind.Plain the_pid) eighteen ≡ f₀ ∷ (middle ++ (f₁₆ ∷ f₁₇ ∷ []))
frames_are =
    hold Kind.Plain the_pid eighteen refl (cycles_typed (each_taken 18)) ∙ ap (map framed) headed_is
    ∙ ap (λ (l : List (List ℕ)). f₀ ∷ l) (ap (map framed) split.is ∙ map_append framed split.front (split.y ∷ split.z ∷ []))

counted_at : {kind : Kind} {pid : ℕ} (n : ℕ) → n < 2 ^ 4 → (xs ys : List (List ℕ)) → Counted kind pid n (xs ++ ys) → Counted kind pid ((n + length xs) % 16) ys
counted_at {kind} {pid} n h [] ys c =
    let e : n ≡ (n + 0) % 16 = omega arith in
    subst (λ (k : ℕ). Counted kind pid k ys) e c
counted_at {kind} {pid} n h (x ∷ xs) ys (and_then g c) =
    let e : ((n + 1) % 16 + length xs) % 16 ≡ (n + suc (length xs)) % 16 = omega arith in
    subst (λ (k : ℕ). Counted kind pid k ys) e (counted_at ((n + 1) % 16) (omega arith) xs ys c)

first_of_counted : {kind : Kind} {pid n : ℕ} {f : List ℕ} {fs : List (List ℕ)} → Counted kind pid n (f ∷ fs) → GoodFrame kind pid n f
first_of_counted (and_then g c) = g

rest_of_counted : {kind : Kind} {pid n : ℕ} {f : List ℕ} {fs : List (List ℕ)} → Counted kind pid n (f ∷ fs) → Counted kind pid ((n + 1) % 16) fs
rest_of_counted (and_then g c) = c

counted_all : Counted Kind.Plain the_pid 0 (f₀ ∷ (middle ++ (f₁₆ ∷ f₁₇ ∷ [])))
counted_all = subst (Counted Kind.Plain the_pid 0) frames_are (counted_run Kind.Plain the_pid eighteen refl (cycles_typed (each_taken 18)))

-- the first has counter 0, and so has the seventeenth
counted_last : Counted Kind.Plain the_pid 0 (f₁₆ ∷ f₁₇ ∷ [])
counted_last =
    let e : (1 + length middle) % 16 ≡ 0 = omega (arith, length-map split.front framed, split.long) in
    subst (λ (k : ℕ). Counted Kind.Plain the_pid k (f₁₆ ∷ f₁₇ ∷ [])) e (counted_at 1 (lit< tt) middle (f₁₆ ∷ f₁₇ ∷ []) (rest_of_counted counted_all))

g₀ : GoodFrame Kind.Plain the_pid 0 f₀
g₀ = first_of_counted counted_all

g₁₆ : GoodFrame Kind.Plain the_pid 0 f₁₆
g₁₆ = first_of_counted counted_last

g₁₇ : GoodFrame Kind.Plain the_pid 1 f₁₇
g₁₇ = first_of_counted (rest_of_counted counted_last)

-- ---- on the way

-- plain headers
abbrev plain_kind : ℕ
plain_kind = kind_number Kind.Plain

plain : kind_of plain_kind ≡ Kind.Plain
plain = kind_back Kind.Plain

slots : slots_of Kind.Plain ≡ last_slot
unfolding size_of
slots = refl

-- of the first frame slot 1 is lost; of the next fifteen everything; of the seventeenth all but slot 1; the eighteenth's header arrives
abbrev all_gone : List ℕ → Sent
all_gone f = record { frame = f; fate = lost; arrived = replicate last_slot false }

abbrev sent : List Sent
sent =
    record { frame = f₀; fate = kept; arrived = false ∷ replicate 51 true }
    ∷ (map all_gone middle ++ (record { frame = f₁₆; fate = lost; arrived = true ∷ replicate 51 false } ∷ header_alone plain_kind f₁₇ ∷ []))

frames_gone : (fs : List (List ℕ)) → map (λ s. s.frame) (map all_gone fs) ≡ fs
frames_gone [] = refl
frames_gone (f ∷ fs) = ap (λ (l : List (List ℕ)). f ∷ l) (frames_gone fs)

sent-frames : map (λ s. s.frame) sent ≡ f₀ ∷ (middle ++ (f₁₆ ∷ f₁₇ ∷ []))
sent-frames =
    ap (λ (l : List (List ℕ)). f₀ ∷ l)
    (map_append (λ s. s.frame) (map all_gone middle) (record { frame = f₁₆; fate = lost; arrived = true ∷ replicate 51 false } ∷ header_alone plain_kind f₁₇ ∷ [])
    ∙ ap (λ (l : List (List ℕ)). l ++ (f₁₆ ∷ f₁₇ ∷ [])) (frames_gone middle))

gone_happens : (fs : List (List ℕ)) → Each (MayHappen Kind.Plain the_pid) (map all_gone fs)
gone_happens [] = none
gone_happens (f ∷ fs) = more (sym slots, tt) (gone_happens fs)

may_happen : Each (MayHappen Kind.Plain the_pid) sent
may_happen =
    more (sym slots, tt)
    (each_append (gone_happens middle) (more (sym slots, tt) (more (length-replicate (slots_of (kind_of plain_kind)) false ∙ ap slots_of plain, tt) none)))

-- sixteen headers are missing, so no more than sixteen are in a row
missing : List Sent → ℕ
missing [] = 0
missing (s ∷ ss) = cond (is_kept s.fate) 0 1 + missing ss

missing_append : (xs ys : List Sent) → missing (xs ++ ys) ≡ missing xs + missing ys
unfolding missing
missing_append [] ys = omega arith
missing_append (x ∷ xs) ys = let ih = missing_append xs ys in omega arith

missing_row : {row : List Sent} → Each (λ s. is_kept s.fate ≡ false) row → missing row ≡ length row
unfolding missing
missing_row none = refl
missing_row (more e es) = rw e (omega (arith, missing_row es))

missing_gone : (fs : List (List ℕ)) → missing (map all_gone fs) ≡ length fs
unfolding missing
missing_gone [] = refl
missing_gone (f ∷ fs) = omega (arith, missing_gone fs)

missing_sent : missing sent ≡ 16
unfolding missing
missing_sent =
    omega (
      arith,
      missing_append (map all_gone middle) (record { frame = f₁₆; fate = lost; arrived = true ∷ replicate 51 false } ∷ header_alone plain_kind f₁₇ ∷ []),
      missing_gone middle,
      length-map split.front framed,
      split.long,
    )

in_a_row : InARowAtMost 16 sent
in_a_row before row after e m =
    let all : missing sent ≡ missing before + missing (row ++ after) = ap missing e ∙ missing_append before (row ++ after) in
    omega (arith, all, missing_append row after, missing_row m, missing_sent)

-- ---- what arrives

none_arrive : (n : ℕ) (bytes : List ℕ) → packets_arrive (replicate n false) bytes ≡ []
unfolding packets_arrive
none_arrive zero bytes = refl
none_arrive (suc n) bytes = none_arrive n (drop packet_length bytes)

one_arrives : (a : Bool) (marks : List Bool) (bytes : List ℕ)
    → packets_arrive (a ∷ marks) bytes ≡ cond a (take packet_length bytes ∷ packets_arrive marks (drop packet_length bytes)) (packets_arrive marks (drop packet_length bytes))
unfolding packets_arrive
one_arrives a marks bytes = refl

-- a frame of which the header is lost, and one of which it arrives
lost_arrives : (f : List ℕ) (marks : List Bool) (ss : List Sent)
    → arriving (record { frame = f; fate = lost; arrived = marks } ∷ ss) ≡ packets_arrive marks (drop packet_length f) ++ arriving ss
unfolding arriving header_arrives
lost_arrives f marks ss = refl

kept_arrives : (f : List ℕ) (marks : List Bool) (ss : List Sent)
    → arriving (record { frame = f; fate = kept; arrived = marks } ∷ ss) ≡ slot 0 f ∷ (packets_arrive marks (drop packet_length f) ++ arriving ss)
unfolding arriving header_arrives
kept_arrives f marks ss = refl

nothing_arrives : arriving [] ≡ []
unfolding arriving
nothing_arrives = refl

arriving_gone : (fs : List (List ℕ)) (rest : List Sent) → arriving (map all_gone fs ++ rest) ≡ arriving rest
arriving_gone [] rest = refl
arriving_gone (f ∷ fs) rest =
    lost_arrives f (replicate last_slot false) (map all_gone fs ++ rest)
    ∙ ap (λ (l : List (List ℕ)). l ++ arriving (map all_gone fs ++ rest)) (none_arrive last_slot (drop packet_length f)) ∙ arriving_gone fs rest

abbrev some : List (List ℕ)
some = packets_arrive (replicate 51 true) (drop packet_length (drop packet_length f₀))

abbrev stray : List ℕ
stray = take packet_length (drop packet_length f₁₆)

last_arrive : arriving (record { frame = f₁₆; fate = lost; arrived = true ∷ replicate 51 false } ∷ header_alone plain_kind f₁₇ ∷ []) ≡ stray ∷ slot 0 f₁₇ ∷ []
last_arrive =
    lost_arrives f₁₆ (true ∷ replicate 51 false) (header_alone plain_kind f₁₇ ∷ [])
    ∙ ap₂ (λ (a b : List (List ℕ)). a ++ b)
    (one_arrives true (replicate 51 false) (drop packet_length f₁₆) ∙ ap (λ (l : List (List ℕ)). stray ∷ l) (none_arrive 51 (drop packet_length (drop packet_length f₁₆))))
    (kept_arrives f₁₇ (replicate (slots_of (kind_of plain_kind)) false) []
    ∙ ap₂ (λ (a b : List (List ℕ)). slot 0 f₁₇ ∷ (a ++ b)) (none_arrive (slots_of (kind_of plain_kind)) (drop packet_length f₁₇)) nothing_arrives)

arrives : arriving sent ≡ slot 0 f₀ ∷ ((some ++ (stray ∷ [])) ++ (slot 0 f₁₇ ∷ []))
arrives =
    kept_arrives f₀ (false ∷ replicate 51 true) (map all_gone middle ++ (record { frame = f₁₆; fate = lost; arrived = true ∷ replicate 51 false } ∷ header_alone plain_kind f₁₇ ∷ []))
    ∙ ap₂ (λ (a b : List (List ℕ)). slot 0 f₀ ∷ (a ++ b)) (one_arrives false (replicate 51 true) (drop packet_length f₀))
    (arriving_gone middle (record { frame = f₁₆; fate = lost; arrived = true ∷ replicate 51 false } ∷ header_alone plain_kind f₁₇ ∷ []) ∙ last_arrive)
    ∙ ap (λ (l : List (List ℕ)). slot 0 f₀ ∷ l) (sym (append_assoc some (stray ∷ []) (slot 0 f₁₇ ∷ [])))

-- ---- what comes out

abbrev zeros : List ℕ
zeros = replicate (store_length last_slot) 0

asked : Asked Kind.Plain 1 zeros zeros
unfolding size_of
asked =
    let l = length-replicate {A = ℕ} (store_length last_slot) 0 in
    record { from = omega arith; to = omega arith; store_long = l; room = omega (arith, l) }

abbrev start : Reception
start = record { state = waiting Kind.Plain the_pid; store = zeros }

start-set : Set Kind.Plain the_pid start
start-set = waiting-set Kind.Plain the_pid zeros refl asked.store_long

abbrev opened : Reception
opened = after_packet start (slot 0 f₀)

abbrev packets : List (List ℕ)
packets = some ++ (stray ∷ [])

-- 51 packets and a stray one, none of them broken or a header
some-long : length (drop packet_length (drop packet_length f₀)) ≡ packet_length * length (replicate 51 true)
some-long = length-drop packet_length (drop packet_length f₀) ∙ omega (arith, length-drop packet_length f₀, g₀.long, slots, length-replicate 51 true)

some-count : length some ≡ 51
some-count = (arrive_entire (replicate 51 true) (drop packet_length (drop packet_length f₀)) refl some-long).0 ∙ length-replicate 51 true

packets-count : length packets ≡ 52
packets-count = length-append some (stray ∷ []) ∙ omega (arith, some-count)

some_plain : Each (Plain the_pid) some
some_plain =
    arrive_plain the_pid (replicate 51 true) (drop packet_length (drop packet_length f₀)) some-long
    (λ i h. ap (unfit the_pid) (slot-behind i (drop packet_length f₀)) ∙ g₀.fit (suc i) (omega (arith, slots, length-replicate 51 true)))

stray_plain : Plain the_pid stray
unfolding slot
stray_plain =
    (length-take-le packet_length (drop packet_length f₁₆) (omega (arith, length-drop packet_length f₁₆, g₁₆.long, slots)), g₁₆.fit 0 (omega (arith, slots)))

stored : StoredAll Kind.Plain the_pid 1 zeros 0 0 opened packets [] opened.store
stored =
    stored_all Kind.Plain the_pid 1 zeros 0 0 opened packets [] opened.store (good_set Kind.Plain the_pid 0 (slot 0 f₀) start start-set g₀.header)
    (good_opens Kind.Plain the_pid 0 (slot 0 f₀) start start-set g₀.header) (omega (arith, packets-count, slots)) (each_append some_plain (more stray_plain none)) refl refl

abbrev full : Reception
full = after_all opened packets

abbrev mixed : List ℕ
mixed = numbered 1 full.state.numbers full.store

-- they are owed to a header whose counter is 1
owes : Owes (slots_of Kind.Plain) 1 1 0 mixed full
owes =
    something 0 (0 + length packets) stored.stage_then (lit< tt) (omega (arith, packets-count, slots)) refl
    (ap (λ (b : Bool). cond (b && true) mixed []) (sym (eq-eqb (0 + length packets) (slots_of Kind.Plain) (omega (arith, packets-count, slots)))))

comes : handed_out 1 zeros (fresh_with Kind.Plain the_pid zeros) (arriving sent) ≡ mixed ++ []
unfolding handed_out
comes =
    ap (handed_out 1 zeros (fresh_with Kind.Plain the_pid zeros)) arrives
    ∙ vouches Kind.Plain the_pid 1 0 0 [] zeros zeros (slot 0 f₀) start start-set g₀.header asked (omega arith) (nothing (waiting-stage Kind.Plain the_pid) refl) (packets ++ (slot 0 f₁₇ ∷ []))
    ∙ stored.quiet_then (slot 0 f₁₇ ∷ [])
    ∙ vouches Kind.Plain the_pid 1 1 0 mixed zeros zeros (slot 0 f₁₇) full stored.set_then g₁₇.header asked (omega arith) owes []

-- a packet of it has number 1
first_numbers : g₀.header.setting.relative_ts_number ≡ numbers_filled plan the_work.lent
unfolding said saying work_of one_slot
first_numbers =
    ap (λ (x : Reading). x.setting.relative_ts_number)
    (sym g₀.header.read ∙ header_read Kind.Plain the_pid h₀ (first_of_each (subst (Each (Good Kind.Plain the_pid)) headed_is (each_good Kind.Plain the_pid eighteen refl (cycles_typed (each_taken 18))))))

none_for : (n : ℕ) → slots_for 1 (replicate n 0) ≡ 0
unfolding slots_for
none_for zero = refl
none_for (suc n) = omega (arith, none_for n)

zero_numbers : (n : ℕ) (lent : ℕ → List ℕ) → numbers_filled (replicate n 0) lent ≡ replicate n 0
unfolding numbers_filled
zero_numbers zero lent = refl
zero_numbers (suc n) lent = ap (λ (ns : List ℕ). 0 ∷ ns) (zero_numbers n lent)

one_filled : numbers_filled plan the_work.lent ≡ 1 ∷ replicate 51 0
unfolding numbers_filled work_of the_packet
one_filled = ap (λ (ns : List ℕ). 1 ∷ ns) (zero_numbers 51 (Wtaken 1 (added 1 the_packet (λ n. []))))

one-slot : slots_for 1 (1 ∷ replicate 51 0) ≡ 1
unfolding slots_for
one-slot = omega (arith, none_for 51)

mixed-long : length mixed ≡ packet_length
mixed-long =
    length-numbered 1 full.state.numbers full.store
    (has_packets 1 (slots_of Kind.Plain) full.state.numbers full.store (omega arith) (none_at stored.set_then.numbers_pass 1) (omega (arith, stored.set_then.store_long)))
    ∙ ap (λ (ns : List ℕ). packet_length * slots_for 1 ns) (stored.numbers_then ∙ good_numbers Kind.Plain the_pid 0 (slot 0 f₀) start start-set g₀.header ∙ first_numbers ∙ one_filled)
    ∙ omega (arith, one-slot)

-- ---- nothing is wanted

wanted_gone : (s : Sent) (ss : List Sent) → is_kept s.fate ≡ false → wanted Kind.Plain the_pid 1 (s ∷ ss) ≡ wanted Kind.Plain the_pid 1 ss
wanted_gone s ss k = sym (wanted_missing Kind.Plain the_pid 1 zeros zeros asked s ss k)

when_all_gone : (fs : List (List ℕ)) (rest : List Sent) → wanted Kind.Plain the_pid 1 (map all_gone fs ++ rest) ≡ wanted Kind.Plain the_pid 1 rest
when_all_gone [] rest = refl
when_all_gone (f ∷ fs) rest = wanted_gone (all_gone f) (map all_gone fs ++ rest) refl ∙ when_all_gone fs rest

wanted_alone : (s : Sent) → wanted Kind.Plain the_pid 1 (s ∷ []) ≡ []
unfolding wanted
wanted_alone s = refl

wanted_torn : (s : Sent) (ss : List Sent) → entire s.arrived ≡ false → wanted Kind.Plain the_pid 1 (s ∷ ss) ≡ wanted Kind.Plain the_pid 1 ss
unfolding wanted
wanted_torn s [] k = refl
wanted_torn s (t ∷ ss) k = rw (k, and-false (is_kept s.fate))

nothing_wanted : wanted Kind.Plain the_pid 1 sent ≡ []
nothing_wanted =
    wanted_torn (record { frame = f₀; fate = kept; arrived = false ∷ replicate 51 true }) (map all_gone middle ++ (record { frame = f₁₆; fate = lost; arrived = true ∷ replicate 51 false } ∷ header_alone plain_kind f₁₇ ∷ [])) refl
    ∙ when_all_gone middle (record { frame = f₁₆; fate = lost; arrived = true ∷ replicate 51 false } ∷ header_alone plain_kind f₁₇ ∷ [])
    ∙ wanted_gone (record { frame = f₁₆; fate = lost; arrived = true ∷ replicate 51 false }) (header_alone plain_kind f₁₇ ∷ []) refl
    ∙ wanted_alone (header_alone plain_kind f₁₇)

-- ---- the same eighteen frames by firmware's calls

tuned_accepted : receiver_refused (replicate receiver_length 0) the_pid plain_kind ≡ 0
unfolding receiver_refused first_of kind_number
tuned_accepted = refl

abbrev the_run : RunOfCalls the_pid plain_kind
the_run = run_of Kind.Plain (replicate 18 the_setting) (each_taken 18)

the_frames : map (λ f. f.frame) (frames_closed the_run) ≡ [] ++ (map (λ s. s.frame) sent ++ [])
the_frames =
    run-frames Kind.Plain (replicate 18 the_setting) (each_taken 18) ∙ sym (ap (λ (ks : List Work). map framed (headed ks)) (works_are Kind.Plain (replicate 18 the_setting) (each_taken 18)))
    ∙ sym (hold Kind.Plain the_pid eighteen refl (cycles_typed (each_taken 18))) ∙ frames_are ∙ sym (append-nil (map (λ s. s.frame) sent) ∙ sent-frames)

abbrev receiver_zeros : List ℕ
receiver_zeros = replicate receiver_length 0

asked_too : Asked (kind_of plain_kind) 1 zeros zeros
asked_too = subst (λ (k : Kind). Asked k 1 zeros zeros) (sym plain) asked

abbrev the_ask : FreshAndAsked the_pid plain_kind 1 (arriving sent)
the_ask =
    record {
      state = receiver_zeros;
      accepted = tuned_accepted;
      store = zeros;
      store_long = asked_too.store_long;
      from = asked_too.from;
      to = asked_too.to;
      buffers = λ n. zeros;
      room = always_room the_pid plain_kind 1 receiver_zeros zeros (λ n. zeros) (arriving sent) tuned_accepted asked_too.store_long asked_too.from (λ n. asked_too.room);
    }

-- what comes out of it is mixed
given-mixed : hands_out the_ask ≡ mixed ++ []
given-mixed =
    given_out-tuned (kind_of plain_kind) the_pid 1 zeros zeros asked_too (tuned_to receiver_zeros the_pid plain_kind zeros) (fresh_with (kind_of plain_kind) the_pid zeros)
    (tuned_fresh receiver_zeros the_pid plain_kind zeros tuned_accepted asked_too.store_long) (λ n. zeros) (arriving sent) the_ask.room
    ∙ ap (λ (k : Kind). handed_out 1 zeros (fresh_with k the_pid zeros) (arriving sent)) plain ∙ comes

pub sixteen_fail : SixteenFail
sixteen_fail promise =
    let one : OneRun the_pid plain_kind (map (λ s. s.frame) sent) = record { run = the_run; earlier = []; later = []; consecutive = the_frames } in
    let lost : LostOrSpoiled 16 the_pid plain_kind sent = record { may_happen = subst (λ (k : Kind). Each (MayHappen k the_pid) sent) (sym plain) may_happen; in_a_row = in_a_row } in
    let e = promise the_pid plain_kind 1 sent one lost the_ask ∙ ap (λ (k : Kind). wanted k the_pid 1 sent) plain ∙ nothing_wanted in
    let l : length mixed ≡ 0 = ap length (sym (append-nil mixed) ∙ sym given-mixed ∙ e) in
    omega (arith, l, mixed-long)
