-- The bits of a header whose rows are filled: its body and its CRC. Assumes nothing.
use Prim.Native.Nat.{ℕ, ◌+◌, ◌-◌, ◌*◌, ◌^◌, ◌<◌}
use mathlib.Core.Path.{◌≡◌, sym, ap, ap₂, ◌∙◌}
use mathlib.Core.List.{List, [], ◌++◌, append-nil}
use native.Mathlib.Omega.{arith}
use native.Mathlib.Nat.{le_of_eq}
use lib.Dec.{lit<}
use lib.ListN.{length, get_or, take, drop, length-append, length-drop}
use lib.Seq.{take_all, take_at, drop-append-le}
use Rattle.bits.specs.Fields.{Fit, bits_of, run, cut}
use Rattle.bits.proofs.Laws.{run_append, run_drop, length-bits_of, bits_bits_of, length_cut, fit_append, fit_drop, cut-run, run-cut}
use Rattle.crc.specs.Crc.{register_from, register_of}
use Rattle.crc.proofs.Laws.{register_from_append, register_from_lt, own_bits}
use Rattle.slices.proofs.Front.{put, front_none, front-part, front-all}
use Rattle.setting.specs.declared.Kind.{Kind}
use Rattle.setting.specs.declared.Setting.{Setting}
use Rattle.header_layout.specs.Rows.{row_at}
use Rattle.header_layout.specs.Layout.{layout}
use Rattle.header_layout.specs.Header.{header_length, content, line_bits, body, header, row}
use Rattle.header_layout.proofs.LaidOut.{body_bits, size-layout}
use Rattle.header_layout.proofs.Rows.{Suits, fit_pack, length-pack, row-pack}

-- the CRC behind a body
pub crc_of : Kind → ℕ → Setting → ℕ
crc_of kind pid s = register_from (2 ^ 32 - 1) (drop 32 (body kind pid s))

module _ (kind : Kind) (pid : ℕ) (s : Setting) where
  pub length-header : length (header kind pid s) ≡ header_length
  unfolding header crc_of
  length-header = length_cut 8 header_length (body kind pid s ++ bits_of 32 (crc_of kind pid s))

  -- no other bytes have its bits
  pub header_only : (p : List ℕ) → Fit 8 p → length p ≡ header_length → run 8 p ≡ body kind pid s ++ bits_of 32 (crc_of kind pid s) → header kind pid s ≡ p
  unfolding header crc_of
  header_only p bytes whole e =
      ap₂ (cut 8) (sym whole) (sym e ∙ sym (append-nil (run 8 p))) ∙ cut-run bytes []

  fit_body : Fit 1 (body kind pid s)
  unfolding body line_bits
  fit_body = fit_pack (layout kind) (content kind pid s)

  pub crc_lt : crc_of kind pid s < 2 ^ 32
  unfolding crc_of
  crc_lt = register_from_lt (2 ^ 32 - 1) (drop 32 (body kind pid s)) (lit< tt) (fit_drop 32 fit_body)

module _ (kind : Kind) (pid : ℕ) (s : Setting) (suits : Suits (layout kind) (content kind pid s)) where
  length-body : length (body kind pid s) ≡ body_bits
  unfolding body line_bits
  length-body = length-pack (layout kind) (content kind pid s) suits ∙ size-layout kind

  run-header : run 8 (header kind pid s) ≡ body kind pid s ++ bits_of 32 (crc_of kind pid s)
  unfolding header crc_of
  run-header = run-cut 8 header_length bits (fit_append (fit_body kind pid s) (bits_bits_of 32 (crc_of kind pid s))) (le_of_eq (sym long)) ∙ take_all (header_length * 8) bits (le_of_eq long)
    where
      bits : List ℕ
      bits = body kind pid s ++ bits_of 32 (crc_of kind pid s)

      long : length bits ≡ header_length * 8
      long = length-append (body kind pid s) (bits_of 32 (crc_of kind pid s)) ∙ ap₂ ◌+◌ length-body (length-bits_of 32 (crc_of kind pid s))

  pub row-header : (k : ℕ) → k < length (layout kind) → row kind (header kind pid s) k ≡ get_or (content kind pid s) k []
  unfolding body line_bits
  row-header k h =
      ap (row_at (layout kind) k) run-header
      ∙ row-pack (layout kind) (content kind pid s) suits (bits_of 32 (crc_of kind pid s)) k h

  -- bytes with this body and any 32 bits behind it leave, from byte 4 on, what the CRC becomes by those bits
  pub register_behind : (p : List ℕ) (n : ℕ) → run 8 p ≡ body kind pid s ++ bits_of 32 n
      → register_of (drop 4 p) ≡ register_from (crc_of kind pid s) (bits_of 32 n)
  unfolding register_of crc_of
  register_behind p n e =
      ap (register_from (2 ^ 32 - 1)) (run_drop 8 4 p ∙ ap (drop 32) e ∙ drop-append-le 32 (body kind pid s) (bits_of 32 n) (omega (arith, length-body)))
      ∙ register_from_append (2 ^ 32 - 1) (drop 32 (body kind pid s)) (bits_of 32 n)

  pub register_header : register_of (drop 4 (header kind pid s)) ≡ 0
  register_header = register_behind (header kind pid s) (crc_of kind pid s) run-header ∙ own_bits (crc_of kind pid s) (crc_lt kind pid s)

-- a body and the register of what stands in it from byte 4 on, written one behind the other, are the header
pub header_parts : (kind : Kind) (pid : ℕ) (s : Setting) (buffer front word : List ℕ) (crc : ℕ)
    → length buffer ≡ header_length → length front ≡ 184 → length word ≡ 4 → run 8 front ≡ body kind pid s
    → crc ≡ register_of (take 180 (drop 4 (put 0 184 buffer front))) → run 8 word ≡ bits_of 32 crc
    → Fit 8 (put 184 4 (put 0 184 buffer front) word)
    → put 184 4 (put 0 184 buffer front) word ≡ header kind pid s
unfolding crc_of register_of
header_parts kind pid s buffer front word crc l f w b r c bytes =
    let one = front-part buffer [] buffer front 0 184 (front_none buffer) f in
    let both = front-all buffer (front ++ word) _ 188 (front-part buffer front _ word 184 4 one w) (omega arith) in
    let rest : length (drop 4 front) ≡ 180 = length-drop 4 front ∙ omega arith in
    let message : take 180 (drop 4 (front ++ drop 184 buffer)) ≡ drop 4 front =
    ap (take 180) (drop-append-le 4 front (drop 184 buffer) (omega arith)) ∙ take_at (drop 4 front) (drop 184 buffer) 180 rest in
    let same : crc ≡ crc_of kind pid s = r ∙ ap register_of message ∙ ap (register_from (2 ^ 32 - 1)) (run_drop 8 4 front ∙ ap (drop 32) b) in
    let whole : length (put 184 4 (put 0 184 buffer front) word) ≡ header_length = ap length both ∙ length-append front word ∙ ap₂ ◌+◌ f w in
    sym (header_only kind pid s _ bytes whole (ap (run 8) both ∙ run_append 8 front word ∙ ap₂ (λ (x y : List ℕ). x ++ y) b (c ∙ ap (bits_of 32) same)))
