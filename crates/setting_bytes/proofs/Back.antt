-- What was encoded is decoded again. Assumes nothing.
use Prim.Native.Nat.{ℕ, ◌+◌, ◌-◌, ◌*◌, ◌/◌, ◌%◌}
use mathlib.Core.Path.{◌≡◌, refl, sym, ap, ◌∙◌}
use mathlib.Core.List.{List, [], ◌∷◌, ◌++◌}
use native.Mathlib.Omega.{arith}
use borrow.Author.Tests.{eq-eqb}
use lib.ListN.{length, get_or, take, drop, length-append}
use lib.Seq.{take_at, drop_at, drop-drop, get_or-drop}
use Rattle.counters.specs.Counters.{last_stream, last_slot}
use Rattle.setting.specs.declared.Setting.{Setting}
use Rattle.setting.specs.Setting.{private_bytes, auxiliary_bytes, OfItsTypes}
use Rattle.setting.specs.declared.Announced.{Announced}
use Rattle.setting.specs.Announcing.{announced}
use Rattle.setting_bytes.specs.Words.{word_bytes}
use Rattle.setting_bytes.specs.Settings.{part, ts_id_at, network_id_at, statuses_at, emergency_at, announced_length, announced_bytes, announced_of}
use Rattle.setting_bytes.specs.Settings.{announced_at, numbers_at, private_at, auxiliary_at, group_at, setting_length, setting_bytes, setting_of}
use Rattle.setting_bytes.specs.Demands.{SettingBack}
use Rattle.setting_bytes.proofs.Numbers.{length-bytes, words_back}
use Rattle.setting_bytes.proofs.Parts.{Streams, Long, length-announced, streams}

-- a part behind another, and one at the front
pub part-behind : (j k n : ℕ) (a r : List ℕ) → length a ≡ j → part (j + k) n (a ++ r) ≡ part k n r
part-behind j k n a r h = ap (take n) (sym (drop-drop k j (a ++ r)) ∙ ap (drop k) (drop_at a r j h))

pub part-first : (n : ℕ) (p r : List ℕ) → length p ≡ n → part 0 n (p ++ r) ≡ p
part-first n p r h = take_at p r n h

-- a byte behind a part
pub byte_behind : (j k : ℕ) (a r : List ℕ) → length a ≡ j → get_or (a ++ r) (j + k) 0 ≡ get_or r k 0
byte_behind j k a r h = sym (get_or-drop j (a ++ r) k 0) ∙ ap (λ (l : List ℕ). get_or l k 0) (drop_at a r j h)

pub byte_from : (j i k : ℕ) (a r : List ℕ) → length a ≡ j → i ≡ j + k → get_or (a ++ r) i 0 ≡ get_or r k 0
byte_from j i k a r h e = ap (λ (n : ℕ). get_or (a ++ r) n 0) e ∙ byte_behind j k a r h

-- how long a setting's lists are, as its types say
pub long : (s : Setting) → OfItsTypes s → Long s
long s t =
    record {
      ts_ids = t.ts_ids.0;
      network_id = t.network_id.0;
      statuses = t.statuses.0;
      numbers = t.numbers.0;
      privates = t.privates.0;
      auxiliaries = t.auxiliaries.0;
    }

-- the bytes of a row of identifiers
abbrev ids : ℕ
ids = 2 * last_stream

-- what is announced
pub announced_back : (a : Announced) → Streams a → announced_of (announced_bytes a) ≡ a
unfolding announced_of announced_bytes word_bytes
announced_back a n =
    let n₁ = n.0 in
    let n₂ = n.1 in
    let t : List ℕ = word_bytes a.ts_id in
    let o : List ℕ = word_bytes a.original_network_id in
    let t-long : length t ≡ 2 * last_stream = length-bytes a.ts_id ∙ omega arith in
    let o-long : length o ≡ 2 * last_stream = length-bytes a.original_network_id ∙ omega arith in
    let e : List ℕ = a.emergency_indicator ∷ [] in
    let r : List ℕ = a.receive_status in
    let i : List ℕ = a.slot_allocation_type ∷ a.frame_type ∷ word_bytes (a.availability ∷ []) in
    let same : a.availability / 256 * 256 + a.availability % 256 ≡ a.availability = omega arith in
    rw (
      eq-eqb (length (announced_bytes a)) announced_length (length-announced a n),
      part-behind ts_id_at 0 ids i (t ++ (o ++ (r ++ e))) refl ∙ part-first ids t (o ++ (r ++ e)) t-long,
      part-behind ts_id_at (network_id_at - ts_id_at) ids i (t ++ (o ++ (r ++ e))) refl ∙ part-behind ids 0 ids t (o ++ (r ++ e)) t-long ∙ part-first ids o (r ++ e) o-long,
      part-behind ts_id_at (statuses_at - ts_id_at) last_stream i (t ++ (o ++ (r ++ e))) refl ∙ part-behind ids (statuses_at - network_id_at) last_stream t (o ++ (r ++ e)) t-long
          ∙ part-behind ids 0 last_stream o (r ++ e) o-long ∙ part-first last_stream r e n.2,
      byte_behind ts_id_at (emergency_at - ts_id_at) i (t ++ (o ++ (r ++ e))) refl ∙ byte_behind ids (emergency_at - network_id_at) t (o ++ (r ++ e)) t-long
          ∙ byte_behind ids (emergency_at - statuses_at) o (r ++ e) o-long ∙ byte_behind last_stream 0 r e n.2,
      words_back a.ts_id,
      words_back a.original_network_id,
      same,
    ) refl

module _ (s : Setting) (l : Long s) where
  abbrev a : Announced
  a = announced s

  -- how many bytes a setting takes
  pub length_setting : length (setting_bytes s) ≡ setting_length
  unfolding setting_bytes
  length_setting =
      let la = length-announced a (streams s l) in
      let ln = l.numbers in
      let lp = l.privates in
      let lx = l.auxiliaries in
      let g : List ℕ = s.group_id ∷ s.number_of_carriers ∷ s.carrier_sequence ∷ s.number_of_frames ∷ s.frame_position.0 ∷ [] in
      rw (
        length-append (announced_bytes a) (s.relative_ts_number ++ (s.private_data ++ (s.auxiliary ++ g))),
        length-append s.relative_ts_number (s.private_data ++ (s.auxiliary ++ g)),
        length-append s.private_data (s.auxiliary ++ g),
        length-append s.auxiliary g,
      ) (omega arith)

  -- all of it
  pub back : setting_of (setting_bytes s) ≡ s
  unfolding setting_of setting_bytes announced
  back =
      let la = length-announced a (streams s l) in
      let ln = l.numbers in
      let lp = l.privates in
      let lx = l.auxiliaries in
      let c : List ℕ = s.continuity_counter ∷ s.version_number ∷ [] in
      let g : List ℕ = s.group_id ∷ s.number_of_carriers ∷ s.carrier_sequence ∷ s.number_of_frames ∷ s.frame_position.0 ∷ [] in
      let x : List ℕ = s.auxiliary ++ g in
      let p : List ℕ = s.private_data ++ x in
      let n : List ℕ = s.relative_ts_number ++ p in
      let m : List ℕ = announced_bytes a ++ n in
      let bonding : (k : ℕ) → get_or (c ++ m) (group_at + k) 0 ≡ get_or g k 0 =
      λ k. byte_from announced_at (group_at + k) (group_at - announced_at + k) c m refl (omega arith)
      ∙ byte_from announced_length (group_at - announced_at + k) (group_at - numbers_at + k) (announced_bytes a) n la (omega arith)
      ∙ byte_from last_slot (group_at - numbers_at + k) (group_at - private_at + k) s.relative_ts_number p ln (omega arith)
      ∙ byte_from private_bytes (group_at - private_at + k) (group_at - auxiliary_at + k) s.private_data x lp (omega arith)
      ∙ byte_behind auxiliary_bytes k s.auxiliary g lx in
      rw (
        eq-eqb (length (setting_bytes s)) setting_length length_setting,
        part-behind announced_at 0 announced_length c m refl ∙ part-first announced_length (announced_bytes a) n la,
        announced_back a (streams s l),
        part-behind announced_at (numbers_at - announced_at) last_slot c m refl ∙ part-behind announced_length 0 last_slot (announced_bytes a) n la
            ∙ part-first last_slot s.relative_ts_number p ln,
        part-behind announced_at (private_at - announced_at) private_bytes c m refl ∙ part-behind announced_length (private_at - numbers_at) private_bytes (announced_bytes a) n la
            ∙ part-behind last_slot 0 private_bytes s.relative_ts_number p ln ∙ part-first private_bytes s.private_data x lp,
        part-behind announced_at (auxiliary_at - announced_at) auxiliary_bytes c m refl ∙ part-behind announced_length (auxiliary_at - numbers_at) auxiliary_bytes (announced_bytes a) n la
            ∙ part-behind last_slot (auxiliary_at - private_at) auxiliary_bytes s.relative_ts_number p ln ∙ part-behind private_bytes 0 auxiliary_bytes s.private_data x lp
            ∙ part-first auxiliary_bytes s.auxiliary g lx,
        bonding 0,
        bonding 1,
        bonding 2,
        bonding 3,
        bonding 4,
      ) refl

pub setting_back : SettingBack
setting_back s t = back s (long s t)
