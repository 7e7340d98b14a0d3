-- What a spread and a gather answer and leave, by the check that they stopped at. Assumes nothing.
use Prim.Native.Nat.{ℕ, ◌*◌, ◌%◌, ◌≤◌, ◌<◌}
use mathlib.Core.Path.{◌≡◌, refl, sym, ap, ap₂, subst, ◌∙◌}
use mathlib.Core.Bool.{false, cond, not}
use mathlib.Core.Logic.{◌⊎◌, inl, inr}
use mathlib.Core.List.{List, [], ◌∷◌}
use native.Mathlib.Omega.{arith}
use borrow.Author.Tests.{ltb-false, eq-eqb, ne_eqb}
use lib.Dec.{ltb, eqb}
use lib.ListN.{length, get_or, replicate}
use Rattle.std.specs.Prelude.{Ok, Option, Some, None, is_some, unwrap_or}
use Rattle.slices.specs.Slices.{copied}
use Rattle.slices.proofs.Front.{copied-over}
use Rattle.counters.specs.Counters.{last_carrier}
use Rattle.setting.specs.Refusal.{Check, NoneHolds, first_of}
use Rattle.setting.proofs.Refusals.{answers, passed, onward, at_once, none_first, none_at, none_before, none_behind, never_first}
use Rattle.header_check.specs.OnPaper.{Refusal}
use Rattle.header_check.specs.Checking.{bare, refusal_by}
use Rattle.packet.specs.Packets.{packet_length, some_unfit_in}
use Rattle.bond_group.specs.declared.Bond.{Bond}
use Rattle.bond_group.specs.Plan.{Headers}
use Rattle.bond_group.specs.Group.{frames_in, order}
use Rattle.bond_group.specs.Standing.{call_checks, group_checks, plan_checks, group_refusal, some_carries}
use Rattle.bond.specs.Bonding.{spread_checks, gather_checks, spread_over, gathered, spread_refusal, spread_of, spread_group, gather_refusal, gather_of, gather_buffer}
use Rattle.bond_places.specs.Order.{frame_packets}
use Rattle.bond_places.specs.Walk.{most_frames, frames_before, is_marked, Walkable}
use Rattle.bond.specs.Listing.{Within, places_from, Listable}
use Rattle.bond_group.specs.Plan.{Plan, headers_in, headers_of, plan_after, planned_of}
use Rattle.bond_group.proofs.Passing.{Called, called, numbered-plan}
use Rattle.bond.proofs.Passing.{spread_none, gather_none}
use Rattle.bond_group.proofs.Standing.{Whole, whole}
use Rattle.bond_group.proofs.Grouping.{walkable, grouped}
use Rattle.bond_group.proofs.Planned.{carried, packets, frames-long, slots-long, marked-bonded, walked, no_header}
use Rattle.bond.proofs.Demands.{exact, order-within}
use Rattle.bond_places.proofs.Frames.{frames-within}

-- ---- what the headers leave to know

-- the checks behind the headers, by the plan and by the definitions
abbrev pub spread_rest : Bond → Option ℕ → List ℕ → List Check
spread_rest b bonded stream =
    (13, not (is_some bonded)) ∷ (15, not (eqb (length stream) (packet_length * unwrap_or bonded 0))) ∷ (12, some_unfit_in b.pid stream) ∷ []

abbrev pub gather_rest : Option ℕ → ℕ → List Check
gather_rest bonded out = (13, not (is_some bonded)) ∷ (15, ltb out (packet_length * unwrap_or bonded 0)) ∷ []

-- none of them has the number 7
pub not_of_spread : (b : Bond) (bonded : Option ℕ) (stream : List ℕ) → first_of (spread_rest b bonded stream) ≡ 7 → ⊥
not_of_spread b bonded stream e = never_first 7 (spread_rest b bonded stream) (omega arith) refl e

pub not_of_gather : (bonded : Option ℕ) (out : ℕ) → first_of (gather_rest bonded out) ≡ 7 → ⊥
not_of_gather bonded out e = never_first 7 (gather_rest bonded out) (omega arith) refl e

-- a group that was not refused: how many bonded slots its headers answered, and the plan that they left
pub record Known (b : Bond) (group : List ℕ) (bonded : Option ℕ) (frames slots : List ℕ) : Type 0 where
  pub none_holds : NoneHolds (plan_checks b group)
  pub call : Called b (length group)
  pub stand : Whole b group
  pub frames_are : frames ≡ (plan_after b group (frames_in group)).frames
  pub slots_are : slots ≡ (plan_after b group (frames_in group)).slots
  pub carried_is : is_some bonded ≡ some_carries b group
  pub packets_are : unwrap_or bonded 0 ≡ length (order b group)

-- what such headers answer
through : (bonded : Option ℕ) → (headers_in (Ok bonded)).refusal ≡ bare 0
through None = refl
through (Some n) = refl

carried_in : (bonded : Option ℕ) → (headers_in (Ok bonded)).is_carried ≡ is_some bonded
carried_in None = refl
carried_in (Some n) = refl

packets_in : (bonded : Option ℕ) → (headers_in (Ok bonded)).packets ≡ unwrap_or bonded 0
packets_in None = refl
packets_in (Some n) = refl

module _ (b : Bond) (group : List ℕ) {h : Headers} (e : h ≡ headers_of (planned_of b group)) where
  pub refusal-shown : h.refusal ≡ group_refusal b group (first_of (plan_checks b group))
  unfolding planned_of
  refusal-shown = ap (λ (x : Headers). x.refusal) e

  pub refusal_is : h.refusal.number ≡ first_of (plan_checks b group)
  unfolding refusal_by
  refusal_is = ap (λ (x : Refusal). x.number) refusal-shown

module _ (b : Bond) (group : List ℕ) (bonded : Option ℕ) (e : headers_in (Ok bonded) ≡ headers_of (planned_of b group)) where
  zero : first_of (plan_checks b group) ≡ 0
  zero = sym (refusal_is b group e) ∙ ap (λ (x : Refusal). x.number) (through bonded)

  pub no_refusal : bare 0 ≡ group_refusal b group 0
  no_refusal = sym (through bonded) ∙ refusal-shown b group e ∙ ap (group_refusal b group) zero

  plan_known : (planned_of b group).plan ≡ plan_after b group (frames_in group)
  unfolding planned_of
  plan_known = rw zero refl

  pub known : {frames slots : List ℕ} → frames ≡ copied (replicate last_carrier 0) (planned_of b group).plan.frames
      → slots ≡ copied (replicate most_frames 0) (planned_of b group).plan.slots → Known b group bonded frames slots
  unfolding some_carries plan_checks
  known f s =
      let m = frames_in group in
      let n = none_first (plan_checks b group) (numbered-plan b group) zero in
      let c = called b (length group) (none_before (call_checks b (length group)) (group_checks b group) n) in
      let w = whole b group (none_behind (call_checks b (length group)) n) in
      record {
        none_holds = n;
        call = c;
        stand = w;
        frames_are =
            f ∙ ap (λ (p : Plan). copied (replicate last_carrier 0) p.frames) plan_known
            ∙ copied-over (replicate last_carrier 0) (plan_after b group m).frames (sym (frames-long b group m));
        slots_are =
            s ∙ ap (λ (p : Plan). copied (replicate most_frames 0) p.slots) plan_known
            ∙ copied-over (replicate most_frames 0) (plan_after b group m).slots (sym (slots-long b group m));
        carried_is = sym (carried_in bonded) ∙ ap (λ (x : Headers). x.is_carried) e ∙ ap (λ (p : Plan). p.is_carried) plan_known ∙ carried b group m;
        packets_are = sym (packets_in bonded) ∙ ap (λ (x : Headers). x.packets) e ∙ ap (λ (p : Plan). p.packets) plan_known ∙ packets b group c.few c.one w;
      }

-- a carrier has some frames
framed-some : (f : ℕ) → (f ≡ 3) ⊎ (f ≡ 4) → 0 < f
framed-some f (inl e) = omega arith
framed-some f (inr e) = omega arith

-- ---- what the lists by a known plan need, and are

module _ (b : Bond) (group : List ℕ) {bonded : Option ℕ} {frames slots : List ℕ} (k : Known b group bonded frames slots) where
  abbrev n : ℕ
  n = frames_in group

  abbrev made : Plan
  made = plan_after b group n

  walks : Walkable b.carriers made.frames
  walks = walkable b group k.call.few k.call.one k.stand

  pub listed_by : places_from b.carriers frames slots 0 ≡ order b group
  listed_by =
      ap₂ (λ (fs ss : List ℕ). places_from b.carriers fs ss 0) k.frames_are k.slots_are ∙ walked b group k.call.few k.call.one k.stand

  -- no header is marked
  headers_bare : (i : ℕ) → i < b.carriers → is_marked made.slots (frame_packets * frames_before made.frames i) ≡ false
  headers_bare i l =
      let all = grouped b group k.call.few k.call.one k.stand in
      let a = all.all in
      let w = frames-within made.frames i b.carriers l in
      let some = framed-some (get_or made.frames i 0) (all.framed i l) in
      marked-bonded b group k.call.few k.call.one k.stand (frame_packets * frames_before made.frames i) (omega arith)
      ∙ no_header b group (frames_before made.frames i)

  pub listable : Listable b.carriers frames slots
  listable = rw (k.frames_are, k.slots_are) (record { walk = walks; long = slots-long b group n; headers = headers_bare })

  pub listed-within : Within (places_from b.carriers frames slots 0) group
  listed-within = subst (λ (ms : List ℕ). Within ms group) (sym listed_by) (order-within b group k.call.frames)

-- ---- spread

module _ (b : Bond) (group stream : List ℕ) where
  pub spread_refused : (x : ℕ) → spread_refusal b group stream ≡ x → (x ≡ 0 → ⊥) → {f : Refusal} → f ≡ group_refusal b group x → record { refusal = f; packets = 0 } ≡ spread_of b group stream
  unfolding spread_of
  spread_refused x e d r =
      let f : cond (eqb (spread_refusal b group stream) 0) (length (order b group)) 0 ≡ 0 = rw (e, ne_eqb x 0 d) refl in
      λ i. record { refusal = (r ∙ ap (group_refusal b group) (sym e)) i; packets = sym f i }

  pub spread_left : (x : ℕ) → spread_refusal b group stream ≡ x → (x ≡ 0 → ⊥) → group ≡ spread_group b group stream
  unfolding spread_group
  spread_left x e d = sym (rw (e, ne_eqb x 0 d) refl)

  pub spread_uncut : (length stream % packet_length ≡ 0 → ⊥) → spread_refusal b group stream ≡ 1
  unfolding spread_refusal spread_checks
  spread_uncut d = answers 1 _ (ap not (ne_eqb (length stream % packet_length) 0 d))

  module _ (c : length stream % packet_length ≡ 0) where
    cut : not (eqb (length stream % packet_length) 0) ≡ false
    cut = ap not (eq-eqb (length stream % packet_length) 0 c)

    pub spread-headed : (first_of (plan_checks b group) ≡ 0 → ⊥) → spread_refusal b group stream ≡ first_of (plan_checks b group)
    unfolding spread_refusal spread_checks
    spread-headed d = passed 1 _ cut ∙ at_once (plan_checks b group) _ d

    module _ {bonded : Option ℕ} {frames slots : List ℕ} (k : Known b group bonded frames slots) where
      pub spread-rest : spread_refusal b group stream ≡ first_of (spread_rest b bonded stream)
      unfolding spread_refusal spread_checks
      spread-rest =
          passed 1 _ cut ∙ onward _ k.none_holds
          ∙ sym (λ i. first_of ((13, not (k.carried_is i)) ∷ (15, not (eqb (length stream) (packet_length * k.packets_are i))) ∷ (12, some_unfit_in b.pid stream) ∷ []))

  pub spread_granted : (n : ℕ) → spread_refusal b group stream ≡ 0 → n ≡ length (order b group) → {f : Refusal} → f ≡ group_refusal b group 0 → record { refusal = f; packets = n } ≡ spread_of b group stream
  unfolding spread_of
  spread_granted n e h r = (λ i. record { refusal = r i; packets = h i }) ∙ sym (rw e refl)

  pub spread-made : spread_refusal b group stream ≡ 0 → spread_over (order b group) stream group ≡ spread_group b group stream
  unfolding spread_group
  spread-made e = sym (rw e refl)

  -- what the code that writes asks
  module _ {bonded : Option ℕ} {frames slots : List ℕ} (k : Known b group bonded frames slots) (z : spread_refusal b group stream ≡ 0) where
    pub to_spread : Listable b.carriers frames slots
        × ((length stream ≡ packet_length * length (places_from b.carriers frames slots 0))
        × Within (places_from b.carriers frames slots 0) group)
    unfolding spread_refusal
    to_spread = (
      listable b group k,
      (
        exact b group stream (spread_none b group stream z) ∙ ap (λ (ms : List ℕ). packet_length * length ms) (sym (listed_by b group k)),
        listed-within b group k,
      ),
    )

-- ---- gather

module _ (b : Bond) (group out : List ℕ) where
  pub gather_refused : (x : ℕ) → gather_refusal b group (length out) ≡ x → (x ≡ 0 → ⊥) → {f : Refusal} → f ≡ group_refusal b group x → record { refusal = f; packets = 0 } ≡ gather_of b group (length out)
  unfolding gather_of
  gather_refused x e d r =
      let f : cond (eqb (gather_refusal b group (length out)) 0) (length (order b group)) 0 ≡ 0 = rw (e, ne_eqb x 0 d) refl in
      λ i. record { refusal = (r ∙ ap (group_refusal b group) (sym e)) i; packets = sym f i }

  pub gather_left : (x : ℕ) → gather_refusal b group (length out) ≡ x → (x ≡ 0 → ⊥) → out ≡ gather_buffer b group out
  unfolding gather_buffer
  gather_left x e d = sym (rw (e, ne_eqb x 0 d) refl)

  pub gather_headed : (first_of (plan_checks b group) ≡ 0 → ⊥) → gather_refusal b group (length out) ≡ first_of (plan_checks b group)
  unfolding gather_refusal gather_checks
  gather_headed d = at_once (plan_checks b group) _ d

  module _ {bonded : Option ℕ} {frames slots : List ℕ} (k : Known b group bonded frames slots) where
    pub gather_refusal-rest : gather_refusal b group (length out) ≡ first_of (gather_rest bonded (length out))
    unfolding gather_refusal gather_checks
    gather_refusal-rest =
        onward _ k.none_holds ∙ sym (λ i. first_of ((13, not (k.carried_is i)) ∷ (15, ltb (length out) (packet_length * k.packets_are i)) ∷ []))

  pub gather_granted : (n : ℕ) → gather_refusal b group (length out) ≡ 0 → n ≡ length (order b group) → {f : Refusal} → f ≡ group_refusal b group 0 → record { refusal = f; packets = n } ≡ gather_of b group (length out)
  unfolding gather_of
  gather_granted n e h r = (λ i. record { refusal = r i; packets = h i }) ∙ sym (rw e refl)

  pub gather_made : gather_refusal b group (length out) ≡ 0 → copied out (gathered (order b group) group) ≡ gather_buffer b group out
  unfolding gather_buffer
  gather_made e = sym (rw e refl)

  -- what the code that copies asks
  module _ {bonded : Option ℕ} {frames slots : List ℕ} (k : Known b group bonded frames slots) (z : gather_refusal b group (length out) ≡ 0) where
    room : packet_length * length (order b group) ≤ length out
    unfolding gather_refusal gather_checks
    room =
        ltb-false (length out) (packet_length * length (order b group))
        (none_at (none_behind (plan_checks b group) (gather_none b group (length out) z)) 1)

    pub to_gather : Listable b.carriers frames slots
        × ((packet_length * length (places_from b.carriers frames slots 0) ≤ length out)
        × Within (places_from b.carriers frames slots 0) group)
    to_gather = (listable b group k, (rw (listed_by b group k) room, listed-within b group k))
