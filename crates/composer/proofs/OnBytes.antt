-- On the bytes of a state each call is the composer's own. Assumes nothing.
use Prim.Native.Nat.{ℕ}
use mathlib.Core.Path.{◌≡◌, refl, sym, ◌∙◌}
use mathlib.Core.Bool.{Bool, true, false, cond}
use mathlib.Core.List.{List, [], ◌∷◌, ◌++◌, map}
use native.Mathlib.Omega.{arith}
use borrow.Author.Tests.{eq-eqb}
use lib.Dec.{eqb}
use lib.ListN.{length, length-append, length-map}
use Rattle.counters.specs.Counters.{last_slot}
use Rattle.setting.specs.Refusal.{leaves}
use Rattle.setting_bytes.specs.Settings.{setting_length, announced_bytes, setting_bytes, announced_length}
use Rattle.setting_bytes.proofs.Parts.{length-announced}
use Rattle.setting_bytes.proofs.Typed.{blank_types}
use Rattle.setting_bytes.proofs.Back.{long, length_setting, setting_back}
use Rattle.setting.specs.Announcing.{announced}
use Rattle.composer.specs.Slots.{marks_after}
use Rattle.composer.specs.Composing.{Composer, opened, marked, closed_with, closed, answer, begin_refusal, begin_of, put_refusal, put_of, close_refusal, close_of}
use Rattle.composer.specs.States.{composer_length, mark_byte, composer_bytes, composer_of, OfItsTypes}
use Rattle.composer.proofs.Parts.{front_bytes, length_front}
use Rattle.composer.proofs.Slots.{length-after}
use Rattle.composer.specs.Calls.{begin_refused, begin_state, begin_memory, put_refused, put_placed, put_state, put_memory, close_refused, close_state, close_memory}
use Rattle.composer.specs.Demands.{OnBytes, TypesKept, CallsOnBytes}
use Rattle.composer.proofs.Coding.{state_back}

-- what a call leaves that makes a new state, refused or not
left : (n : ℕ) (f : Composer → List ℕ) (new old : Composer) → leaves n (f (cond (eqb n 0) new old)) (f old) ≡ f (cond (eqb n 0) new old)
unfolding leaves
left n f new old = either (eqb n 0)
  where
    either : (b : Bool) → cond b (f (cond b new old)) (f old) ≡ f (cond b new old)
    either true = refl
    either false = refl

-- a state takes composerLength bytes
length_composer : (c : Composer) → OfItsTypes c → length (composer_bytes c) ≡ composer_length
unfolding composer_bytes
length_composer c t =
    let a = announced_bytes c.last in
    let s = setting_bytes c.setting in
    let m = map mark_byte c.filled in
    let la : length a ≡ announced_length = length-announced c.last (t.ts_ids.0, t.network_id.0, t.statuses.0) in
    let ls : length s ≡ setting_length = length_setting c.setting (long c.setting t.setting) in
    let lm : length m ≡ last_slot = length-map c.filled mark_byte ∙ t.marks in
    rw (
      length-append (front_bytes c) (a ++ (mark_byte c.is_open ∷ [] ++ (s ++ m))),
      length-append a (mark_byte c.is_open ∷ [] ++ (s ++ m)),
      length-append s m,
      length_front c,
    ) (omega arith)

-- of two states
one_of : (b : Bool) (new old : Composer) → OfItsTypes new → OfItsTypes old → OfItsTypes (cond b new old)
one_of true new old p q = p
one_of false new old p q = q

module _ (c : Composer) (t : OfItsTypes c) where
  abbrev b : List ℕ
  b = composer_bytes c

  there : eqb (length b) composer_length ≡ true
  there = eq-eqb (length b) composer_length (length_composer c t)

  same : composer_of b ≡ c
  same = state_back c t

  on-bytes : OnBytes c
  unfolding begin_refused begin_state begin_memory put_refused put_placed put_state put_memory close_refused close_state close_memory begin_of put_of close_of answer
  on-bytes =
      record {
        begins = λ s u frame.
            let lent : eqb (length (setting_bytes s)) setting_length ≡ true = eq-eqb _ setting_length (length_setting s (long s u)) in
            rw (there, lent, same, setting_back s u) (refl, (left (begin_refusal c s (length frame)) composer_bytes (opened c s) c, refl));
        puts = λ r stream frame. rw (there, same) (refl, (refl, (left (put_refusal c r stream (length frame)) composer_bytes _ c, refl)));
        closes = λ frame. rw (there, same) (refl, (left (close_refusal c (length frame)) composer_bytes (closed c) c, refl));
      }

  types_kept : TypesKept c
  unfolding begin_of put_of close_of answer opened marked closed closed_with announced
  types_kept =
      record {
        begun = λ s u lent.
            one_of (eqb (begin_refusal c s lent) 0) (opened c s) c (record { ts_ids = t.ts_ids; network_id = t.network_id; statuses = t.statuses; setting = u; marks = refl }) t;
        filled = λ r stream lent.
            one_of (eqb (put_refusal c r stream lent) 0) (marked c (marks_after r c.setting.relative_ts_number c.filled stream)) c
            (record {
              ts_ids = t.ts_ids;
              network_id = t.network_id;
              statuses = t.statuses;
              setting = t.setting;
              marks = length-after r c.setting.relative_ts_number c.filled stream (t.setting.numbers.0 ∙ sym t.marks) ∙ t.marks;
            })
            t;
        closed = λ lent.
            one_of (eqb (close_refusal c lent) 0) (closed c) c
            (record {
              ts_ids = t.setting.ts_ids;
              network_id = t.setting.network_id;
              statuses = t.setting.statuses;
              setting = blank_types;
              marks = refl;
            })
            t;
      }

pub calls_on_bytes : CallsOnBytes
calls_on_bytes c t = (on-bytes c t, types_kept c t)
