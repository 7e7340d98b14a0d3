-- What the loops that pack a run of values, and cut one, keep true. Assumes nothing.
use Prim.Native.Nat.{ℕ, suc, ◌+◌, ◌-◌, ◌*◌, ◌/◌, ◌%◌, ◌^◌, ◌≤◌, ◌<◌}
use mathlib.Core.Path.{◌≡◌, refl, sym, ap, ap₂, ◌∙◌}
use mathlib.Core.List.{List, [], ◌∷◌, ◌++◌, append_assoc}
use native.Mathlib.Omega.{arith}
use native.Mathlib.Nat.{suc-mul, zero-mul, mod-lt, mul-le-mul_right, one-mul}
use native.Mathlib.Numerals.{add-one}
use lib.Dec.{lit<}
use lib.Pow.{shl_exact}
use lib.ListN.{length, take, drop, get_or, set}
use lib.Seq.{take-suc, take-suc-set, drop-cons, take_at, drop_at, drop-drop}
use Rattle.bits.specs.Fields.{bits_of, number, run, cut}
use Rattle.bits.proofs.Laws.{run_append, run-one, run_cons, cut-more, bits_of_split, bits_of_join, bits_of_mod, number-bits_of, length-bits_of}
use Rattle.header_layout.proofs.Bytes.{beside}

-- fewer than eight bits are those of a number's lowest byte
low_byte : (k x : ℕ) → k < 8 → bits_of k (x % 256) ≡ bits_of k x
low_byte k x l =
    let e : 8 ≡ 8 - k + k = omega arith in
    ap (λ (n : ℕ). bits_of k (x % 2 ^ n)) e ∙ bits_of_mod k (8 - k) x

-- of k bits the first w, and those behind them
parted : (w k x : ℕ) → w ≤ k → bits_of k x ≡ bits_of w (x / 2 ^ (k - w)) ++ bits_of (k - w) x
parted w k x h =
    let e : k ≡ w + (k - w) = omega arith in
    ap (λ (n : ℕ). bits_of n x) e ∙ bits_of_split w (k - w) x

-- the first i values are packed: `at` whole bytes in `part`, and the `bits` low bits of `held` behind them
pub record Packed (part values : List ℕ) (w held bits at i : ℕ) : Type 0 where
  pub count : at * 8 + bits ≡ i * w
  pub same : run 8 (take at part) ++ bits_of bits held ≡ run w (take i values)

pub packed_none : (part values : List ℕ) (w : ℕ) → Packed part values w 0 0 0 0
unfolding run bits_of
packed_none part values w = record { count = sym (zero-mul w); same = refl }

module _ (part values : List ℕ) (w held bits at i : ℕ) (p : Packed part values w held bits at i) where
  -- one value more, behind the bits that are held
  pub packed_in : bits < 8 → i < length values → Packed part values w (held % 256 * 2 ^ w + get_or values i 0 % 2 ^ w) (bits + w) at (i + 1)
  packed_in few h =
      let v = get_or values i 0 in
      record {
        count = let e : suc i * w ≡ i * w + w = suc-mul i w in rw add-one (let k : at * 8 + bits ≡ i * w = p.count in omega arith);
        same =
            ap (λ (l : List ℕ). run 8 (take at part) ++ l)
            (sym (beside bits w (held % 256) v) ∙ ap (λ (l : List ℕ). l ++ bits_of w v) (low_byte bits held few))
            ∙ sym (append_assoc (run 8 (take at part)) (bits_of bits held) (bits_of w v))
            ∙ ap₂ (λ (x y : List ℕ). x ++ y) p.same (sym (run-one w v))
            ∙ sym (run_append w (take i values) (v ∷ []))
            ∙ ap (run w) (sym (take-suc values i 0 h) ∙ ap (λ (k : ℕ). take k values) (sym (add-one i)));
      }

  -- a whole byte goes out
  pub packed_out : 8 ≤ bits → at < length part → Packed (set part at (held / 2 ^ (bits - 8) % 256)) values w held (bits - 8) (at + 1) i
  packed_out full room =
      let b = held / 2 ^ (bits - 8) % 256 in
      record {
        count = let k : at * 8 + bits ≡ i * w = p.count in omega arith;
        same =
            ap (λ (l : List ℕ). run 8 l ++ bits_of (bits - 8) held)
            (ap (λ (k : ℕ). take k (set part at b)) (add-one at) ∙ take-suc-set part at b room)
            ∙ ap (λ (l : List ℕ). l ++ bits_of (bits - 8) held)
            (run_append 8 (take at part) (b ∷ []) ∙ ap (λ (l : List ℕ). run 8 (take at part) ++ l) (run-one 8 b ∙ bits_of_mod 8 0 (held / 2 ^ (bits - 8))))
            ∙ append_assoc (run 8 (take at part)) (bits_of 8 (held / 2 ^ (bits - 8))) (bits_of (bits - 8) held)
            ∙ ap (λ (l : List ℕ). run 8 (take at part) ++ l) (sym (parted 8 bits held full))
            ∙ p.same;
      }

-- the first i values are cut: `at` bytes of `part` are taken in, of which the `bits` low bits of `held` are left
pub record Taken (values part : List ℕ) (w held bits at i : ℕ) : Type 0 where
  pub count : at * 8 ≡ i * w + bits
  pub rest : bits_of bits held ++ run 8 (drop at part) ≡ drop (i * w) (run 8 part)
  pub same : take i values ≡ cut w i (run 8 part)

pub taken_none : (values part : List ℕ) (w : ℕ) → Taken values part w 0 0 0 0
unfolding bits_of cut
taken_none values part w =
    record {
      count = let e : 0 * w ≡ 0 = zero-mul w in omega arith;
      rest = sym (ap (λ (k : ℕ). drop k (run 8 part)) (zero-mul w));
      same = refl;
    }

module _ (values part : List ℕ) (w held bits at i : ℕ) (t : Taken values part w held bits at i) where
  -- one byte more, behind the bits that are held
  pub taken_in : bits < 8 → at < length part → get_or part at 0 < 256
      → Taken values part w (held % 256 * 256 + get_or part at 0) (bits + 8) (at + 1) i
  taken_in few more byte =
      let b = get_or part at 0 in
      record {
        count = let k : at * 8 ≡ i * w + bits = t.count in omega arith;
        rest =
            ap₂ (λ (x y : List ℕ). x ++ y)
            (sym (bits_of_join bits 8 (held % 256) byte) ∙ ap (λ (l : List ℕ). l ++ bits_of 8 b) (low_byte bits held few))
            (ap (λ (k : ℕ). run 8 (drop k part)) (add-one at))
            ∙ append_assoc (bits_of bits held) (bits_of 8 b) (run 8 (drop (suc at) part))
            ∙ ap (λ (l : List ℕ). bits_of bits held ++ l) (sym (ap (run 8) (drop-cons part at 0 more) ∙ run_cons 8 b (drop (suc at) part)))
            ∙ t.rest;
        same = t.same;
      }

  -- a value goes out
  pub taken_out : w ≤ bits → i < length values
      → Taken (set values i (held / 2 ^ (bits - w) % 2 ^ w)) part w held (bits - w) at (i + 1)
  taken_out full room =
      let v = held / 2 ^ (bits - w) % 2 ^ w in
      let behind = bits_of (bits - w) held ++ run 8 (drop at part) in
      let split : bits_of w (held / 2 ^ (bits - w)) ++ behind ≡ drop (i * w) (run 8 part) =
      sym (append_assoc (bits_of w (held / 2 ^ (bits - w))) (bits_of (bits - w) held) (run 8 (drop at part)))
      ∙ ap (λ (l : List ℕ). l ++ run 8 (drop at part)) (sym (parted w bits held full)) ∙ t.rest in
      let next : (i + 1) * w ≡ i * w + w = ap (λ (k : ℕ). k * w) (add-one i) ∙ suc-mul i w in
      record {
        count = let k : at * 8 ≡ i * w + bits = t.count in omega arith;
        rest =
            sym (drop_at (bits_of w (held / 2 ^ (bits - w))) behind w (length-bits_of w (held / 2 ^ (bits - w))))
            ∙ ap (drop w) split ∙ drop-drop w (i * w) (run 8 part) ∙ ap (λ (k : ℕ). drop k (run 8 part)) (sym next);
        same =
            ap (λ (k : ℕ). take k (set values i v)) (add-one i) ∙ take-suc-set values i v room
            ∙ ap₂ (λ (l : List ℕ) (x : ℕ). l ++ (x ∷ [])) t.same
            (sym (number-bits_of w (held / 2 ^ (bits - w)))
            ∙ ap number (sym (take_at (bits_of w (held / 2 ^ (bits - w))) behind w (length-bits_of w (held / 2 ^ (bits - w)))) ∙ ap (take w) split))
            ∙ sym (cut-more w i (run 8 part)) ∙ ap (λ (k : ℕ). cut w k (run 8 part)) (sym (add-one i));
      }

-- ---- the numbers of the two loops

-- a byte moved up by a width does not reach the top of 32 bits
pub no_wrap : (w x : ℕ) → w ≤ 8 → x % 256 * 2 ^ w % 2 ^ 32 ≡ x % 256 * 2 ^ w
no_wrap w x h = shl_exact 8 w 32 (mod-lt x (lit< tt)) (omega arith)

-- a whole byte of the bits of n values, one more than `at`, has its place
pub byte_has_room : (n w at bits i : ℕ) → i < n → at * 8 + bits ≡ (i + 1) * w → 8 ≤ bits → at < n * w / 8
byte_has_room n w at bits i h e full =
    let all : (i + 1) * w ≤ n * w = mul-le-mul_right w (omega arith) in
    omega arith

-- while bits are missing of the next of n values, there is a byte more
pub byte_is_there : (n w at bits i len : ℕ) → i < n → at * 8 ≡ i * w + bits → bits < w → n * w ≤ len * 8 → at < len
byte_is_there n w at bits i len h e few all =
    let next : (i + 1) * w ≡ i * w + w = ap (λ (k : ℕ). k * w) (add-one i) ∙ suc-mul i w in
    let within : (i + 1) * w ≤ n * w = mul-le-mul_right w (omega arith) in
    omega arith

-- the limit of a width: its power, which is no zero and no more than a byte's
pub limit_is : (w : ℕ) → w ≤ 8 → 1 * 2 ^ w % 2 ^ 32 ≡ 2 ^ w
limit_is w h = shl_exact 1 w 32 (lit< tt) (omega arith) ∙ one-mul (2 ^ w)
