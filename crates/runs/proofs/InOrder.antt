-- A state that calls reached passes every call's checks. Assumes nothing.
use Prim.Native.Nat.{ℕ, zero, suc, ◌-◌, ◌*◌, ◌/◌, ◌%◌, ◌^◌, ◌≤◌, ◌<◌}
use mathlib.Core.Path.{◌≡◌, refl, sym, ap, ap₂, subst, ◌∙◌}
use mathlib.Core.Bool.{Bool, true, false, not, ◌&&◌, false≢true}
use mathlib.Core.List.{List, [], ◌∷◌, ◌++◌}
use native.Mathlib.Nat.{zero-add, zero-mod}
use native.Mathlib.Omega.{arith}
use native.Mathlib.Decide.{ℕ_discrete}
use borrow.Author.Tests.{eq-eqb, ne_eqb, lt-leb, le-leb}
use lib.Dec.{leb, eqb, lit<}
use lib.ListN.{length, get_or, take, drop, replicate}
use lib.Seq.{length-take-le}
use Rattle.bits.specs.Fields.{Fit}
use Rattle.bits.proofs.Laws.{fit_drop}
use Rattle.slices.specs.Slices.{any_below, some_at_least}
use Rattle.slices.proofs.Any.{both, any_no, any_each}
use Rattle.setting.specs.declared.Kind.{Kind}
use Rattle.setting.specs.declared.Setting.{Setting}
use Rattle.setting.specs.Setting.{blank}
use Rattle.setting.specs.Refusal.{Check, NoneHolds, none, more}
use Rattle.setting.specs.Size.{slots_of, streams_of}
use Rattle.setting.specs.Rules.{pid_allowed, some_behind, width_checks, rule_checks}
use Rattle.setting.proofs.Fields.{some_fit, fit_some}
use Rattle.setting.specs.Announcing.{announced, differ, announced_checks}
use Rattle.setting.proofs.Refusals.{first_none, none_first, numbered, numbered_append, none_append, none_before, none_behind}
use Rattle.counters.specs.Counters.{first_stream, last_stream, available}
use Rattle.header_layout.specs.Meets.{MeetsRules}
use Rattle.packet.specs.Packets.{packet_length, frame_length, slot, unfit, some_unfit_in}
use Rattle.setting_bytes.proofs.Same.{part_inside}
use Rattle.composer.specs.Slots.{placed_by, some_unfit, some_unplanned}
use Rattle.composer.proofs.Slots.{placed-within}
use Rattle.composer.specs.Composing.{Composer, fresh, opened, marked, next_counter, next_version, closed_with, closed, asked, in_turn, state_checks, open_rule_checks, mark_checks, open_checks, stream_checks, length_check, begin_refusal, put_refusal, close_refusal}
use Rattle.composer.proofs.Passed.{none_drop}
use Rattle.composer.proofs.Refusals.{ask_all, ask_none, widths-numbered, rules_numbered, state_numbered, open_rules_numbered}
use Rattle.runs.specs.Runs.{Call, begin, put, close, Run, refusal_of, after}
use Rattle.runs.specs.Work.{Work, taken}
use Rattle.runs.proofs.Said.{version_narrow}
use Rattle.runs.proofs.Filled.{marks_filled, carried, idle}
use Rattle.runs.proofs.Carried.{by_slot}
use Rattle.runs.proofs.Held.{refused_same, begun_run, put-run, closed_run, close_facts, Sound}

-- ---- lists of checks

-- checks that are asked only where a condition holds
asked_none : (b : Bool) {cs : List Check} → (b ≡ true → NoneHolds cs) → NoneHolds (asked b cs)
asked_none true {cs} h = rw (ask_all cs) (h refl)
asked_none false {cs} h = ask_none cs

in_turn_none : {cs ds : List Check} → NoneHolds cs → NoneHolds ds → NoneHolds (in_turn cs ds)
unfolding in_turn
in_turn_none none q = q
in_turn_none (more e h) none = more e h
in_turn_none (more e h) (more f q) = more e (more f (in_turn_none h q))

in_turn-second : (cs ds : List Check) → NoneHolds (in_turn cs ds) → NoneHolds ds
unfolding in_turn
in_turn-second [] ds h = h
in_turn-second (c ∷ cs) [] h = none
in_turn-second (c ∷ cs) (d ∷ ds) (more e (more f h)) = more f (in_turn-second cs ds h)

in_turn-numbered : (cs ds : List Check) → numbered cs ≡ true → numbered ds ≡ true → numbered (in_turn cs ds) ≡ true
unfolding in_turn
in_turn-numbered [] ds p q = q
in_turn-numbered (c ∷ cs) [] p q = p
in_turn-numbered (c ∷ cs) (d ∷ ds) p q =
    let c' = both (leb 1 c.0) (numbered cs) p in
    let d' = both (leb 1 d.0) (numbered ds) q in
    ap₂ ◌&&◌ c'.0 (ap₂ ◌&&◌ d'.0 (in_turn-numbered cs ds c'.1 d'.1))

mark_numbered : (c : Composer) → numbered (mark_checks c) ≡ true
unfolding mark_checks
mark_numbered c = refl

-- what an accepted begin had: its setting obeys
begun_obeys : (c : Composer) (s : Setting) (lent : ℕ) → begin_refusal c s lent ≡ 0 → NoneHolds (width_checks c.kind s) × NoneHolds (rule_checks c.kind s)
unfolding begin_refusal
begun_obeys c s lent e =
    let rules = in_turn (open_rule_checks c) (rule_checks c.kind s) in
    let behind = width_checks c.kind s ++ (rules ++ mark_checks c) in
    let all-numbered =
    numbered_append (state_checks c) behind (state_numbered c)
    (numbered_append (width_checks c.kind s) (rules ++ mark_checks c) (widths-numbered c.kind s)
    (numbered_append rules (mark_checks c) (in_turn-numbered (open_rule_checks c) (rule_checks c.kind s) (open_rules_numbered c) (rules_numbered c.kind s)) (mark_numbered c))) in
    let h = none_behind (state_checks c) (none_drop (none_first (length_check c lent ∷ (state_checks c ++ behind)) all-numbered e) 1) in (
      none_before (width_checks c.kind s) (rules ++ mark_checks c) h,
      in_turn-second (open_rule_checks c) (rule_checks c.kind s) (none_before rules (mark_checks c) (none_behind (width_checks c.kind s) h)),
    )

begin_facts : (w : Run) (buffer : List ℕ) (s : Setting) → refusal_of w (begin buffer s) ≡ 0
    → NoneHolds (width_checks w.state.kind s) × NoneHolds (rule_checks w.state.kind s)
unfolding refusal_of
begin_facts w buffer s e = begun_obeys w.state s (length buffer) e

-- ---- the marks

none_marked : (lent : ℕ → List ℕ) (i : ℕ) → get_or (marks_filled [] lent) i false && eqb (get_or [] i 0) 0 ≡ false
unfolding marks_filled
none_marked lent i = refl

-- no slot that is planned for none carries a packet
marks_planned : (plan : List ℕ) (lent : ℕ → List ℕ) (i : ℕ) → get_or (marks_filled plan lent) i false && eqb (get_or plan i 0) 0 ≡ false
marks_planned =
    by_slot (λ plan lent. (i : ℕ) → get_or (marks_filled plan lent) i false && eqb (get_or plan i 0) 0 ≡ false)
    none_marked
    (λ n ns lent d q ih i. full n ns lent (carried 0 n ns lent d q).marks d ih i)
    (λ n ns lent e ih i. empty n ns lent (idle 0 n ns lent e).marks ih i)
  where
    full : (n : ℕ) (ns : List ℕ) (lent : ℕ → List ℕ) → marks_filled (n ∷ ns) lent ≡ true ∷ marks_filled ns (taken n lent) → (n ≡ 0 → ⊥)
        → ((i : ℕ) → get_or (marks_filled ns (taken n lent)) i false && eqb (get_or ns i 0) 0 ≡ false) → (i : ℕ)
        → get_or (marks_filled (n ∷ ns) lent) i false && eqb (get_or (n ∷ ns) i 0) 0 ≡ false
    full n ns lent m d ih zero = ap (λ (ms : List Bool). get_or ms 0 false && eqb n 0) m ∙ ne_eqb n 0 d
    full n ns lent m d ih (suc i) = ap (λ (ms : List Bool). get_or ms (suc i) false && eqb (get_or (n ∷ ns) (suc i) 0) 0) m ∙ ih i

    empty : (n : ℕ) (ns : List ℕ) (lent : ℕ → List ℕ) → marks_filled (n ∷ ns) lent ≡ false ∷ marks_filled ns lent
        → ((i : ℕ) → get_or (marks_filled ns lent) i false && eqb (get_or ns i 0) 0 ≡ false) → (i : ℕ)
        → get_or (marks_filled (n ∷ ns) lent) i false && eqb (get_or (n ∷ ns) i 0) 0 ≡ false
    empty n ns lent m ih zero = ap (λ (ms : List Bool). get_or ms 0 false && eqb n 0) m
    empty n ns lent m ih (suc i) = ap (λ (ms : List Bool). get_or ms (suc i) false && eqb (get_or (n ∷ ns) (suc i) 0) 0) m ∙ ih i

no_unplanned : (plan : List ℕ) (lent : ℕ → List ℕ) → some_unplanned plan (marks_filled plan lent) ≡ false
unfolding some_unplanned
no_unplanned plan lent = any_no (λ i. get_or (marks_filled plan lent) i false && eqb (get_or plan i 0) 0) (length plan) (λ i h. marks_planned plan lent i)

-- ---- what holds of a state between the calls

pub record InOrder (kind : Kind) (c : Composer) : Type 0 where
  pub counter : c.counter < 2 ^ 4
  pub version : c.version < 2 ^ 3
  pub last : NoneHolds (announced_checks kind c.last)
  pub obeys : c.is_open ≡ true → NoneHolds (width_checks kind c.setting) × NoneHolds (rule_checks kind c.setting)

no_streams : Fit 0 (replicate last_stream 0)
unfolding some_at_least any_below
no_streams = fit_some 0 (replicate last_stream 0) refl

pub fresh-order : (kind : Kind) (pid : ℕ) → InOrder kind (fresh kind pid)
unfolding fresh announced blank announced_checks some_at_least any_below
fresh-order kind pid =
    let zeros : some_behind (streams_of kind) (replicate last_stream 0) ≡ false = some_fit 0 (drop (streams_of kind) (replicate last_stream 0)) (fit_drop (streams_of kind) no_streams) in
    record {
      counter = lit< tt;
      version = lit< tt;
      last =
          more refl (more refl (more refl (more refl (more refl
          (more (ap not (eq-eqb (0 % 2 ^ (last_stream - streams_of kind)) 0 (zero-mod (2 ^ (last_stream - streams_of kind))))) (more zeros (more zeros (more zeros none))))))));
      obeys = λ o. absurd (false≢true o);
    }

begun_order : (kind : Kind) (c : Composer) (s : Setting) → c.kind ≡ kind → InOrder kind c → NoneHolds (width_checks c.kind s) × NoneHolds (rule_checks c.kind s)
    → InOrder kind (opened c s)
unfolding opened
begun_order kind c s e o h =
    record {
      counter = o.counter;
      version = o.version;
      last = o.last;
      obeys = λ _. (subst (λ (k : Kind). NoneHolds (width_checks k s)) e h.0, subst (λ (k : Kind). NoneHolds (rule_checks k s)) e h.1);
    }

put_order : (kind : Kind) (c : Composer) (marks : List Bool) → InOrder kind c → InOrder kind (marked c marks)
unfolding marked
put_order kind c marks o = record { counter = o.counter; version = o.version; last = o.last; obeys = o.obeys }

-- what a setting announces fits where the setting does
announced_fits : (kind : Kind) (s : Setting) → NoneHolds (width_checks kind s) → NoneHolds (announced_checks kind (announced s))
unfolding width_checks announced_checks announced
announced_fits kind s h = none_before (announced_checks kind (announced s)) _ (none_drop h 2)

closed-order : (kind : Kind) (c : Composer) → InOrder kind c → c.is_open ≡ true → InOrder kind (closed c)
unfolding closed closed_with next_counter next_version
closed-order kind c o e =
    record {
      counter = omega arith;
      version = version_narrow (differ (announced c.setting) c.last) c.version o.version;
      last = announced_fits kind c.setting (o.obeys e).0;
      obeys = λ f. absurd (false≢true f);
    }

pub order-after : (kind : Kind) (pid : ℕ) (w : Run) (k : Work) (c : Call) → Sound kind pid w k → InOrder kind w.state → InOrder kind (after w c).state
order-after kind pid w k c s o = by_refusal c (ℕ_discrete (refusal_of w c) 0)
  where
    by_refusal : (c : Call) → Dec (refusal_of w c ≡ 0) → InOrder kind (after w c).state
    by_refusal c (no d) = subst (λ (v : Run). InOrder kind v.state) (sym (refused_same w c d)) o
    by_refusal (begin buffer t) (yes e) =
        subst (λ (v : Run). InOrder kind v.state) (sym (begun_run w buffer t e)) (begun_order kind w.state t s.kind_is o (begin_facts w buffer t e))
    by_refusal (put stream r) (yes e) = subst (λ (v : Run). InOrder kind v.state) (sym (put-run w stream r e)) (put_order kind w.state _ o)
    by_refusal close (yes e) = subst (λ (v : Run). InOrder kind v.state) (sym (closed_run w e)) (closed-order kind w.state o (close_facts w e).open_state.is_open)

-- ---- so nothing is refused

module _ (kind : Kind) (pid : ℕ) (allowed : pid_allowed pid ≡ true) (w : Run) (k : Work) (s : Sound kind pid w k) (o : InOrder kind w.state) where
  abbrev c : Composer
  c = w.state

  own_widths : c.is_open ≡ true → NoneHolds (width_checks c.kind c.setting)
  own_widths e = subst (λ (x : Kind). NoneHolds (width_checks x c.setting)) (sym s.kind_is) (o.obeys e).0

  own_rules : NoneHolds (open_rule_checks c)
  unfolding open_rule_checks
  own_rules = asked_none c.is_open (λ e. subst (λ (x : Kind). NoneHolds (rule_checks x c.setting)) (sym s.kind_is) (o.obeys e).1)

  state_passes : NoneHolds (state_checks c)
  unfolding state_checks
  state_passes =
      more (ap (λ (n : ℕ). not (pid_allowed n)) s.pid_is ∙ ap not allowed)
      (more (lt-leb (2 ^ 4) c.counter o.counter) (more (lt-leb (2 ^ 3) c.version o.version) (none_append (subst (λ (x : Kind). NoneHolds (announced_checks x c.last)) (sym s.kind_is) o.last) (asked_none c.is_open own_widths))))

  marks_pass : NoneHolds (mark_checks c)
  unfolding mark_checks
  marks_pass = more (by_open c.is_open refl) none
    where
      by_open : (b : Bool) → c.is_open ≡ b → c.is_open && some_unplanned c.setting.relative_ts_number c.filled ≡ false
      by_open false e = ap (λ (x : Bool). x && some_unplanned c.setting.relative_ts_number c.filled) e
      by_open true e =
          let q = s.opened_as e in
          ap₂ ◌&&◌ e
          (ap₂ some_unplanned (ap (λ (x : Setting). x.relative_ts_number) q.setting_is) q.marks_are ∙ no_unplanned k.setting.relative_ts_number k.lent)

  open_passes : c.is_open ≡ true → NoneHolds (open_checks c)
  unfolding open_checks
  open_passes e = more (ap not e) (none_append own_rules marks_pass)

  -- a frame of the kind has the length that is asked for
  lent_passes : not (eqb (frame_length (slots_of kind)) (frame_length (slots_of c.kind))) ≡ false
  lent_passes = ap not (eq-eqb (frame_length (slots_of kind)) (frame_length (slots_of c.kind)) (ap (λ (x : Kind). frame_length (slots_of x)) (sym s.kind_is)))

  pub begin_passes : (t : Setting) → MeetsRules kind pid t → begin_refusal c t (frame_length (slots_of kind)) ≡ 0
  unfolding begin_refusal
  begin_passes t m =
      let widths = none_before (width_checks kind t) (rule_checks kind t) m.fields in
      let rules = none_behind (width_checks kind t) m.fields in
      first_none
      (more lent_passes
      (none_append state_passes
      (none_append (subst (λ (x : Kind). NoneHolds (width_checks x t)) (sym s.kind_is) widths)
      (none_append (in_turn_none own_rules (subst (λ (x : Kind). NoneHolds (rule_checks x t)) (sym s.kind_is) rules)) marks_pass))))

  -- the front of fit packets is fit
  front_fit : (n : ℕ) (stream : List ℕ) → packet_length * n ≤ length stream → some_unfit_in pid stream ≡ false → some_unfit_in pid (take (packet_length * n) stream) ≡ false
  unfolding some_unfit_in slot
  front_fit n stream l e =
      any_no (λ i. unfit pid (slot i (take (packet_length * n) stream))) (length (take (packet_length * n) stream) / packet_length)
      (λ i h.
      let long = length-take-le (packet_length * n) stream l in
      ap (unfit pid) (part_inside (packet_length * i) packet_length 0 (packet_length * n) stream (omega (arith, h, long)) ∙ ap (λ (j : ℕ). take packet_length (drop j stream)) (zero-add (packet_length * i)))
      ∙ any_each (λ j. unfit pid (slot j stream)) (length stream / packet_length) e i (omega (arith, h, long, l)))

  pub put_passes : (r : ℕ) (stream : List ℕ) → c.is_open ≡ true → first_stream ≤ r → r ≤ streams_of kind → available c.setting.availability r ≡ true
      → length stream % packet_length ≡ 0 → some_unfit_in pid stream ≡ false → put_refusal c r stream (frame_length (slots_of kind)) ≡ 0
  unfolding put_refusal stream_checks some_unfit
  put_passes r stream e from to v l u =
      first_none
      (more lent_passes (more (ap not (eq-eqb (length stream % packet_length) 0 l))
      (none_append state_passes
      (more (rw (s.kind_is, le-leb first_stream r from, le-leb r (streams_of kind) to))
      (none_append (open_passes e)
      (more (ap not v)
      (more (ap (λ (n : ℕ). some_unfit_in n (take (packet_length * placed_by r c.setting.relative_ts_number c.filled stream) stream)) s.pid_is
      ∙ front_fit (placed_by r c.setting.relative_ts_number c.filled stream) stream (placed-within r c.setting.relative_ts_number c.filled stream) u) none)))))))

  pub close_passes : c.is_open ≡ true → close_refusal c (frame_length (slots_of kind)) ≡ 0
  unfolding close_refusal
  close_passes e = first_none (more lent_passes (none_append state_passes (open_passes e)))
