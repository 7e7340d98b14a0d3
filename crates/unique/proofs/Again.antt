-- What a call answers as a Result, made again from the paper's numbers and values: so those allow one answer. Assumes nothing.
use Prim.Native.Nat.{ℕ}
use mathlib.Core.Path.{◌≡◌, refl, ap, ◌∙◌}
use mathlib.Core.Bool.{cond}
use lib.Dec.{eqb}
use borrow.Author.Tests.{eq-eqb, ne_eqb}
use Rattle.std.specs.Prelude.{Result, Ok, Err, Option, Some, None}
use Rattle.refusals.specs.declared.Refusal.{Refusal}
use Rattle.refusals.specs.Refusals.{number, answer}
use Rattle.refusals.proofs.Refusals.{is_some_number, numbered, by_number}
use Rattle.counters.specs.Counters.{answered}
use Rattle.setting.specs.declared.Setting.{Setting}
use Rattle.header_check.specs.declared.Refused.{Refused}
use Rattle.header_check.specs.declared.Said.{Said}
use Rattle.header_check.specs.OnPaper as paper
use Rattle.header_read.specs.Reader.{Reading, reading_in}
use Rattle.receiver.specs.declared.Event.{Event}
use Rattle.receiver.specs.Bytes.{Told, told}
use Rattle.receiver_receive.specs.Receive.{told_in}
use Rattle.receiver_hand_out.specs.Handing.{handed}
use Rattle.bond_group.specs.Plan.{Headers, headers_in}
use Rattle.bond.specs.Bonding.{Moved, moved_in}
use Rattle.listing.specs.Listing.{Listed, listed_in}

-- how the paper writes a result, and the result made again from that
pub record Shape (T E P : Type 0) : Type 0 where
  pub at : Result T E → P
  pub made : P → Result T E
  pub back : (r : Result T E) → r ≡ made (at r)

pub fixed : {T E P : Type 0} (shape : Shape T E P) (r : Result T E) {p : P} → shape.at r ≡ p → r ≡ shape.made p
fixed shape r e = shape.back r ∙ ap shape.made e

-- a refusal's number and values beside it
module _ {T E P : Type 0} (at : Result T E → P) (refusal : P → ℕ) (value : P → T) (why : P → E)
    (ok : (v : T) → (refusal (at (Ok v)) ≡ 0) × (v ≡ value (at (Ok v))))
    (err : (e : E) → (refusal (at (Err e)) ≡ 0 → ⊥) × (e ≡ why (at (Err e)))) where
  abbrev made_of : P → Result T E
  made_of p = cond (eqb (refusal p) 0) (Ok (value p)) (Err (why p))

  pub back_of : (r : Result T E) → r ≡ made_of (at r)
  back_of (Ok v) = rw (eq-eqb _ _ (ok v).0) (ap Ok (ok v).1)
  back_of (Err e) = rw (ne_eqb _ _ (err e).0) (ap Err (err e).1)

  abbrev shape : Shape T E P
  shape = record { at = at; made = made_of; back = back_of }

-- the reasons
abbrev by_refusal : (refusal : Refusal) → (number refusal ≡ 0 → ⊥) × (refusal ≡ numbered (number refusal))
by_refusal refusal = (is_some_number refusal, by_number refusal)

abbrev refused : paper.Refusal → Refused
refused r = record { refusal = numbered r.number; remainder = r.remainder }

pub by_refused : (why : Refused) → (number why.refusal ≡ 0 → ⊥) × (why ≡ refused (record { number = number why.refusal; remainder = why.remainder }))
by_refused why = (is_some_number why.refusal, λ i. record { refusal = by_number why.refusal i; remainder = why.remainder })

-- checks and calls that answer nothing beside
abbrev pub checks : Shape Unit Refusal ℕ
checks = shape answer (λ m. m) (λ m. tt) numbered (λ v. (refl, refl)) by_refusal

abbrev pub reads_into : Shape Unit Refused paper.Refusal
reads_into = shape paper.refusal_in (λ q. q.number) (λ q. tt) refused (λ v. (refl, refl)) by_refused

-- a number, made a value again
module _ {T : Type 0} (of : T → ℕ) (made : ℕ → T) (back : (v : T) → v ≡ made (of v)) where
  abbrev pub counts : Shape T Refusal (ℕ × ℕ)
  counts = shape (answered of) (λ q. q.0) (λ q. made q.1) (λ q. numbered q.0) (λ v. (refl, back v)) by_refusal

-- a header
abbrev pub header_checks : Shape Said Refused paper.Checked
header_checks =
    shape paper.on_paper (λ c. c.refusal.number)
    (λ c. record {
      continuity_counter = c.continuity_counter;
      availability = c.availability;
      group_id = c.group_id;
      number_of_carriers = c.number_of_carriers;
      carrier_sequence = c.carrier_sequence;
      number_of_frames = c.number_of_frames;
      frame_position = c.frame_position;
    })
    (λ c. refused c.refusal) (λ v. (refl, refl)) by_refused

abbrev pub header_reads : Shape Setting Refused Reading
header_reads = shape reading_in (λ q. q.refusal.number) (λ q. q.setting) (λ q. refused q.refusal) (λ v. (refl, refl)) by_refused

-- what a packet did
pub event : Told → Event
event t =
    cond (eqb t.event 0) Event.Nothing (cond (eqb t.event 1) Event.Opened (cond (eqb t.event 2) Event.Stored (cond (eqb t.event 3) Event.Ready
    (cond (eqb t.event 4) Event.Short (cond (eqb t.event 5) Event.Jump (cond (eqb t.event 6) Event.Long (Event.Broken t.remainder)))))))

pub by_event : (e : Event) → e ≡ event (told e)
unfolding told event
by_event Event.Nothing = refl
by_event Event.Opened = refl
by_event Event.Stored = refl
by_event Event.Ready = refl
by_event Event.Short = refl
by_event Event.Jump = refl
by_event Event.Long = refl
by_event (Event.Broken r) = refl

abbrev pub receives : Shape Event Refusal (ℕ × Told)
receives = shape (λ x. (answer x, told_in x)) (λ q. q.0) (λ q. event q.1) (λ q. numbered q.0) (λ v. (refl, by_event v)) by_refusal

abbrev pub hands_out : Shape ℕ Refusal (ℕ × ℕ)
hands_out = shape (λ x. (answer x, (handed x).packets)) (λ q. q.0) (λ q. q.1) (λ q. numbered q.0) (λ v. (refl, refl)) by_refusal

-- bonded carriers
abbrev bonded : Headers → Option ℕ
bonded h = cond h.is_carried (Some h.packets) None

pub headers_pass : (o : Option ℕ) → ((headers_in (Ok o)).refusal.number ≡ 0) × (o ≡ bonded (headers_in (Ok o)))
headers_pass None = (refl, refl)
headers_pass (Some n) = (refl, refl)

abbrev pub headers_reads : Shape (Option ℕ) Refused Headers
headers_reads = shape headers_in (λ q. q.refusal.number) bonded (λ q. refused q.refusal) headers_pass by_refused

abbrev pub moves : Shape ℕ Refused Moved
moves = shape moved_in (λ q. q.refusal.number) (λ q. q.packets) (λ q. refused q.refusal) (λ v. (refl, refl)) by_refused

-- the lister
abbrev pub lists : Shape ℕ Refusal Listed
lists = shape listed_in (λ q. q.refusal) (λ q. q.length) (λ q. numbered q.refusal) (λ v. (refl, refl)) by_refusal
