-- What a setting that meets the rules puts into the rows fills them. Assumes nothing.
use Prim.Native.Nat.{ℕ, zero, suc, ◌+◌, ◌-◌, ◌*◌, ◌/◌, ◌^◌, ◌<◌}
use mathlib.Core.Path.{◌≡◌, refl, subst, ◌∙◌}
use mathlib.Core.List.{List, [], ◌∷◌}
use native.Mathlib.Omega.{arith}
use lib.Dec.{lit<}
use lib.ListN.{length, get_or, replicate, length-replicate}
use lib.Pow.{shr_lt}
use Rattle.bits.specs.Fields.{Fit, none, more}
use Rattle.setting.specs.declared.Kind.{Kind}
use Rattle.setting.specs.declared.Setting.{Setting}
use Rattle.counters.specs.Counters.{last_stream}
use Rattle.setting.specs.Setting.{Array, OfItsTypes}
use Rattle.setting.specs.Size.{size_of, streams_of, resized}
use Rattle.setting.proofs.Sizes.{sized, length-resized, fit_resized}
use Rattle.setting.specs.Rules.{width_checks, rule_checks}
use Rattle.setting.proofs.Fields.{at_most, bonded, bonding_none, narrow}
use Rattle.setting.proofs.Refusals.{none_before, none_behind}
use Rattle.header_layout.specs.Layout.{reserved_bytes, layout}
use Rattle.header_layout.specs.Header.{one, paired, streams_beyond, content}
use Rattle.header_layout.specs.Meets.{MeetsRules}
use Rattle.header_layout.proofs.LaidOut.{laid_out, length-content}
use Rattle.header_layout.proofs.Rows.{Fills, row_of, Suits, Each, next, done, each_at}

fills_one : {w v : ℕ} → v < 2 ^ w → Array 1 w (one v)
fills_one h = (refl, more h none)

fit_replicate : (w n v : ℕ) → v < 2 ^ w → Fit w (replicate n v)
fit_replicate w zero v h = none
fit_replicate w (suc n) v h = more h (fit_replicate w n v h)

pub fills_replicate : (w n v : ℕ) → v < 2 ^ w → Array n w (replicate n v)
fills_replicate w n v h = (length-replicate n v, fit_replicate w n v h)

length-paired : (ts os : List ℕ) (n : ℕ) → length ts ≡ n → length os ≡ n → length (paired ts os) ≡ n + n
unfolding paired
length-paired [] os n p q = omega arith
length-paired (t ∷ ts) [] n p q = omega arith
length-paired (t ∷ ts) (o ∷ os) n p q = let e = length-paired ts os (length ts) refl (omega arith) in omega arith

fit_paired : {w : ℕ} {ts os : List ℕ} → Fit w ts → Fit w os → Fit w (paired ts os)
unfolding paired
fit_paired none q = none
fit_paired (more h p) none = none
fit_paired (more h p) (more l q) = more h (more l (fit_paired p q))

-- the values of row k fill it
abbrev Filled : Kind → ℕ → Setting → ℕ → Type 0
Filled kind pid s k = Fills (row_of (layout kind) k) (get_or (content kind pid s) k [])

module _ (kind : Kind) (pid : ℕ) (s : Setting) (t : OfItsTypes s) (m : MeetsRules kind pid s) where
  common : Each (Filled kind pid s) (length (layout kind)) 17 → Each (Filled kind pid s) (length (layout kind)) 0
  unfolding laid_out
  common behind =
      let narrow = narrow kind (none_before (width_checks kind s) (rule_checks kind s) m.fields) in
      next (fills_one (lit< tt)) (next (fills_one (lit< tt)) (next (fills_one pid_fits) (next (fills_one (lit< tt)) (next (fills_one narrow.counter)
      (next (fills_one (lit< tt)) (next (fills_one (lit< tt))
      (next (fills_one narrow.version) (next (fills_one narrow.slot_type) (next (fills_one narrow.frame_type_fits)
      (next (fills_one (streams_fit narrow.streams)) (next (fills_one (lit< tt))
      (next (pairs, fit_paired (fit_resized n t.ts_ids.1) (fit_resized n t.network_id.1))
      (next (length-resized n s.receive_status, fit_resized n narrow.statuses) (next (fills_one (lit< tt)) (next (fills_one narrow.emergency)
      (next (length-resized (size_of kind).slots s.relative_ts_number, fit_resized (size_of kind).slots narrow.numbers) behind))))))))))))))))
    where
      n : ℕ
      n = streams_of kind

      -- the availability, without the streams beyond the size
      streams_fit : s.availability < 2 ^ last_stream → s.availability / 2 ^ streams_beyond (size_of kind) < 2 ^ n
      streams_fit h =
          let all : last_stream ≡ n + streams_beyond (size_of kind) = let l = (sized kind).streams in omega arith in
          shr_lt n (streams_beyond (size_of kind)) (subst (λ (w : ℕ). s.availability < 2 ^ w) all h)

      pairs : length (paired (resized n s.ts_id) (resized n s.original_network_id)) ≡ 2 * n
      pairs =
          length-paired (resized n s.ts_id) (resized n s.original_network_id) n (length-resized n s.ts_id) (length-resized n s.original_network_id)
          ∙ omega arith

      pid_fits : pid < 2 ^ 13
      pid_fits = let l = at_most 16 8190 pid m.pid-allowed in omega arith

private_rows : (kind : Kind) (pid : ℕ) (s : Setting) → OfItsTypes s → MeetsRules kind pid s → Each (Filled kind pid s) (length (layout kind)) 17
unfolding laid_out
private_rows Kind.Plain pid s t m =
    let n = (size_of Kind.Plain).private_bytes in next (length-resized n s.private_data, fit_resized n t.privates.1) done
private_rows Kind.Short pid s t m =
    let n = (size_of Kind.Short).private_bytes in next (length-resized n s.private_data, fit_resized n t.privates.1) done
private_rows Kind.Extended pid s t m =
    let b = bonded s (bonding_none Kind.Extended s (none_behind (width_checks Kind.Extended s) m.fields)) in
    next t.auxiliaries (next (fills_one t.group)
    (next (fills_one b.carriers) (next (fills_one b.sequence) (next (fills_one b.frames) (next (fills_one b.position)
    (next (fills_replicate 8 reserved_bytes (2 ^ 8 - 1) (lit< tt)) done))))))

pub suits : (kind : Kind) (pid : ℕ) (s : Setting) → OfItsTypes s → MeetsRules kind pid s → Suits (layout kind) (content kind pid s)
suits kind pid s t m =
    record {
      count = length-content kind pid s;
      each = λ k h. each_at (common kind pid s t m (private_rows kind pid s t m)) k (omega arith) h;
    }
