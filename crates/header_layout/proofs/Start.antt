-- The bytes before the identifiers, as byte-wise code writes them. Assumes nothing.
use Prim.Native.Nat.{ℕ, ◌+◌, ◌-◌, ◌*◌, ◌/◌, ◌%◌, ◌^◌}
use mathlib.Core.Path.{◌≡◌, refl, sym, ap, ◌∙◌}
use mathlib.Core.List.{List, [], ◌∷◌, ◌++◌, append-nil}
use native.Mathlib.Omega.{arith}
use Rattle.bits.specs.Fields.{bits_of, run}
use Rattle.counters.specs.Counters.{last_stream, last_short_stream}
use Rattle.setting.specs.declared.Size.{Size}
use Rattle.setting.specs.declared.Setting.{Setting}
use Rattle.header_layout.specs.Rows.{pack}
use Rattle.header_layout.specs.Layout.{start_table, stream_table}
use Rattle.header_layout.specs.Header.{held, line_bits}
use Rattle.header_layout.proofs.Bytes.{byte, two_bytes, beside, joined, split}

-- the seven bytes that every size has
abbrev pub start_bytes : ℕ → Setting → List ℕ
start_bytes pid s =
    0x47 ∷ pid / 256 % 32 ∷ pid % 256 ∷ (16 + s.continuity_counter % 16) ∷ 0xFA ∷ 0x86
    ∷ (s.version_number % 8 * 32 + s.slot_allocation_type % 2 * 16 + s.frame_type % 16) ∷ []

pub start_bits : (z : Size) (pid : ℕ) (s : Setting) → run 8 (start_bytes pid s) ≡ line_bits z pid s start_table
unfolding line_bits pack start_table held run
start_bits z pid s =
    let v = s.version_number in
    let t = s.slot_allocation_type in
    let f = s.frame_type in
    let k = s.continuity_counter in
    let types : bits_of 3 v ++ (bits_of 1 t ++ bits_of 4 f) ≡ bits_of 8 (v % 8 * 32 + t % 2 * 16 + f % 16) =
    joined 3 1 v t refl ∙ beside 4 4 (v * 2 ^ 1 + t % 2 ^ 1) f
    ∙ byte ((v * 2 ^ 1 + t % 2 ^ 1) * 2 ^ 4 + f % 2 ^ 4) (v % 8 * 32 + t % 2 * 16 + f % 16) (omega arith) in
    let rest = bits_of 8 (v % 8 * 32 + t % 2 * 16 + f % 16) in
    let sync : bits_of 3 7 ++ (bits_of 13 0x1A86 ++ (bits_of 3 v ++ (bits_of 1 t ++ bits_of 4 f))) ≡ bits_of 8 0xFA ++ (bits_of 8 0x86 ++ rest) =
    joined 3 13 7 0x1A86 types ∙ split 0xFA86 0xFA 0x86 refl refl rest in
    let counter = joined 4 4 1 k sync in
    let pids = joined 3 13 0 pid counter ∙ split (0 * 2 ^ 13 + pid % 2 ^ 13) (pid / 256 % 32) (pid % 256) (omega arith) (omega arith) _ in
    simp append-nil (ap (λ (l : List ℕ). bits_of 8 0x47 ++ l) (sym pids))

-- the availability of fifteen streams and the bit behind it are two bytes
abbrev pub fifteen_bytes : Setting → List ℕ
fifteen_bytes s = s.availability / 128 % 256 ∷ (s.availability % 128 * 2 + 1) ∷ []

pub fifteen_bits : (z : Size) (pid : ℕ) (s : Setting) → z.streams ≡ last_stream → run 8 (fifteen_bytes s) ≡ line_bits z pid s (stream_table z)
unfolding line_bits pack stream_table held run
fifteen_bits z pid s e =
    let a = s.availability in
    let whole : a / 2 ^ (last_stream - last_stream) ≡ a = omega arith in
    let two : bits_of 15 a ++ bits_of 1 1 ≡ bits_of 8 (a / 128 % 256) ++ bits_of 8 (a % 128 * 2 + 1) =
    beside 15 1 a 1 ∙ two_bytes (a * 2 + 1) (a / 128 % 256) (a % 128 * 2 + 1) (omega arith) (omega arith) in
    simp append-nil (sym (ap (λ (n : ℕ). bits_of n (a / 2 ^ (last_stream - n)) ++ bits_of 1 1) e ∙ ap (λ (n : ℕ). bits_of 15 n ++ bits_of 1 1) whole ∙ two))

-- that of seven streams, which are the highest of fifteen, is one byte
abbrev pub seven_bytes : Setting → List ℕ
seven_bytes s = (s.availability / 256 % 128 * 2 + 1) ∷ []

pub seven_bits : (z : Size) (pid : ℕ) (s : Setting) → z.streams ≡ last_short_stream → run 8 (seven_bytes s) ≡ line_bits z pid s (stream_table z)
unfolding line_bits pack stream_table held run
seven_bits z pid s e =
    let a = s.availability in
    let one : bits_of 7 (a / 256) ++ bits_of 1 1 ≡ bits_of 8 (a / 256 % 128 * 2 + 1) =
    beside 7 1 (a / 256) 1 ∙ byte (a / 256 * 2 + 1) (a / 256 % 128 * 2 + 1) (omega arith) in
    simp append-nil (sym (ap (λ (n : ℕ). bits_of n (a / 2 ^ (last_stream - n)) ++ bits_of 1 1) e ∙ one))
