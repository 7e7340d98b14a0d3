-- The checks of a setting, each with the bytes that it asks. Assumes nothing.
use Prim.Native.Nat.{ℕ, zero, suc, ◌+◌, ◌-◌, ◌*◌, ◌%◌, ◌^◌, ◌<◌}
use mathlib.Core.Path.{◌≡◌, refl, sym, ap, ◌∙◌}
use mathlib.Core.Bool.{Bool, true, false, not}
use mathlib.Core.List.{List, [], ◌∷◌, ◌++◌}
use native.Mathlib.Omega.{arith}
use borrow.Author.Tests.{eq-eqb}
use lib.Dec.{leb, eqb}
use lib.ListN.{length, get_or, drop, length-drop}
use Rattle.bits.specs.Fields.{Fit, none, more}
use Rattle.slices.specs.Slices.{some_at_least}
use Rattle.counters.specs.Counters.{last_slot, last_stream}
use Rattle.setting.specs.declared.Kind.{Kind}
use Rattle.setting.specs.Setting.{private_bytes, auxiliary_bytes}
use Rattle.setting.specs.Size.{size_of, streams_of}
use Rattle.setting.specs.Refusal.{Check}
use Rattle.setting.specs.Rules.{type_allowed, some_behind, behind_checks, number_checks, absent_checks, information_checks, width_checks, some_unavailable, pair_twice, bonding_checks, rule_checks}
use Rattle.setting.specs.declared.Announced.{Announced}
use Rattle.setting.specs.Announcing.{announced_checks}
use Rattle.setting.proofs.Fields.{some_fit, fit_some}
use Rattle.setting_bytes.specs.Words.{word_at, words_of}
use Rattle.setting_bytes.specs.Settings.{part, slot_type_at, frame_type_at, availability_at, ts_id_at, network_id_at, statuses_at, emergency_at, announced_length, announced_of}
use Rattle.setting_bytes.specs.Settings.{counter_at, version_at, announced_at, numbers_at, private_at, auxiliary_at, group_at, carriers_at, sequence_at, frames_at, position_at}
use Rattle.setting_bytes.specs.Settings.{setting_length, setting_of}
use Rattle.setting_bytes.proofs.Parts.{length_part}
use Rattle.setting_bytes.proofs.InBytes.{in_setting, setting_of-in}
use Rattle.setting_pairs.specs.Identifiers.{ids_apart}

-- ---- 17

-- numbers behind the first n are those of the bytes behind the first 2 * n
words_drop : (n : ℕ) (b : List ℕ) → drop n (words_of b) ≡ words_of (drop (2 * n) b)
unfolding words_of
words_drop zero b = refl
words_drop (suc n) [] = let e : 2 * suc n ≡ suc (suc (2 * n)) = omega arith in rw e refl
words_drop (suc n) (x ∷ []) = let e : 2 * suc n ≡ suc (suc (2 * n)) = omega arith in rw e refl
words_drop (suc n) (x ∷ y ∷ b) = let e : 2 * suc n ≡ suc (suc (2 * n)) = omega arith in rw e (words_drop n b)

-- numbers are all zeros where their bytes are
words_zeros : (n : ℕ) (b : List ℕ) → length b ≡ 2 * n → Fit 0 b → Fit 0 (words_of b)
unfolding words_of
words_zeros n [] h none = none
words_zeros n (x ∷ []) h f = absurd (omega arith)
words_zeros zero (x ∷ y ∷ b) h f = absurd (omega arith)
words_zeros (suc n) (x ∷ y ∷ b) h (more p (more q f)) =
    let word : x * 256 + y < 2 ^ 0 = omega arith in
    more word (words_zeros n b (omega arith) f)

zeros_words : (n : ℕ) (b : List ℕ) → length b ≡ 2 * n → Fit 0 (words_of b) → Fit 0 b
unfolding words_of
zeros_words n [] h f = none
zeros_words n (x ∷ []) h f = absurd (omega arith)
zeros_words zero (x ∷ y ∷ b) h f = absurd (omega arith)
zeros_words (suc n) (x ∷ y ∷ b) h (more p f) =
    let high : x < 2 ^ 0 = omega arith in
    let low : y < 2 ^ 0 = omega arith in
    more high (more low (zeros_words n b (omega arith) f))

-- two tests that fail together are the same
same_test : (a b : Bool) → (a ≡ false → b ≡ false) → (b ≡ false → a ≡ false) → a ≡ b
same_test true true f g = refl
same_test true false f g = g refl
same_test false b f g = sym (f refl)

-- of identifiers in two bytes each, some byte behind the first n of them is more than zero where some identifier is
pub words_behind : (n m : ℕ) (b : List ℕ) → length b ≡ 2 * m → some_behind n (words_of b) ≡ some_behind (2 * n) b
words_behind n m b h =
    let rest = drop (2 * n) b in
    let long : length rest ≡ 2 * (m - n) = length-drop (2 * n) b ∙ omega (arith, h) in
    ap (some_at_least (2 ^ 0)) (words_drop n b)
    ∙ same_test (some_at_least (2 ^ 0) (words_of rest)) (some_at_least (2 ^ 0) rest)
    (λ e. some_fit 0 rest (zeros_words (m - n) rest long (fit_some 0 (words_of rest) e)))
    (λ e. some_fit 0 (words_of rest) (words_zeros (m - n) rest long (fit_some 0 rest e)))

-- what is announced: its own rows, and those of the streams behind the last one
abbrev pub information_in : List ℕ → List Check
information_in b =
    information_checks (get_or b slot_type_at 0) (get_or b frame_type_at 0) (word_at availability_at b) (part statuses_at last_stream b) (get_or b emergency_at 0)

abbrev pub behind_of : ℕ → Announced → List Check
behind_of streams a = behind_checks streams a.availability a.ts_id a.original_network_id a.receive_status

pub announced_in : (kind : Kind) (b : List ℕ) → length b ≡ announced_length
    → announced_checks kind (announced_of b) ≡ information_in b ++ behind_of (streams_of kind) (announced_of b)
unfolding announced_checks announced_of
announced_in kind b whole = rw (eq-eqb (length b) announced_length whole) refl

abbrev pub behind_in : ℕ → List ℕ → List Check
behind_in streams b =
    (17, not (eqb (word_at availability_at b % 2 ^ (last_stream - streams)) 0))
    ∷ (17, some_behind (2 * streams) (part ts_id_at (2 * last_stream) b))
    ∷ (17, some_behind (2 * streams) (part network_id_at (2 * last_stream) b))
    ∷ (17, some_behind streams (part statuses_at last_stream b))
    ∷ []

pub behind_of-in : (streams : ℕ) (b : List ℕ) → length b ≡ announced_length → behind_of streams (announced_of b) ≡ behind_in streams b
unfolding announced_of
behind_of-in streams b whole =
    let ts = part ts_id_at (2 * last_stream) b in
    let os = part network_id_at (2 * last_stream) b in
    let long-ts : length ts ≡ 2 * last_stream = length_part ts_id_at (2 * last_stream) b (omega (arith, whole)) in
    let long-os : length os ≡ 2 * last_stream = length_part network_id_at (2 * last_stream) b (omega (arith, whole)) in
    rw (eq-eqb (length b) announced_length whole, words_behind streams last_stream ts long-ts, words_behind streams last_stream os long-os) refl

-- a setting: the rows behind what is announced, and all
abbrev pub rest_in : Kind → List ℕ → List Check
rest_in kind b =
    number_checks (size_of kind) (part numbers_at last_slot b)
    ++ absent_checks kind (part private_at private_bytes b) (part auxiliary_at auxiliary_bytes b)
    (get_or b group_at 0) (get_or b carriers_at 0) (get_or b sequence_at 0) (get_or b frames_at 0) (get_or b position_at 0)

abbrev pub widths_in : Kind → List ℕ → List Check
widths_in kind b =
    (17, leb (2 ^ 4) (get_or b counter_at 0)) ∷ (17, leb (2 ^ 3) (get_or b version_at 0)) ∷ (announced_checks kind (announced_of (part announced_at announced_length b)) ++ rest_in kind b)

pub width_checks-in : (kind : Kind) (b : List ℕ) → length b ≡ setting_length → width_checks kind (setting_of b) ≡ widths_in kind b
unfolding width_checks setting_of announced_checks
width_checks-in kind b whole = rw (eq-eqb (length b) setting_length whole) refl

-- ---- 8 to 11

-- identifiers that stand one behind the other are the numbers of the bytes, two by two
pub words_apart : (n : ℕ) (b : List ℕ) → length b ≡ 2 * n → ids_apart 2 n b ≡ words_of b
unfolding ids_apart words_of
words_apart zero [] h = refl
words_apart zero (x ∷ b) h = absurd (omega arith)
words_apart (suc n) [] h = absurd (omega arith)
words_apart (suc n) (x ∷ []) h = absurd (omega arith)
words_apart (suc n) (x ∷ y ∷ b) h = ap (λ (l : List ℕ). (x * 256 + y) ∷ l) (words_apart n b (omega arith))

-- the rows of a setting
abbrev pub rules_in : Kind → List ℕ → List Check
rules_in kind b =
    (8, not (type_allowed kind (get_or b (in_setting frame_type_at) 0)))
    ∷ (9, some_unavailable (word_at (in_setting availability_at) b) (part numbers_at last_slot b))
    ∷ (10, pair_twice (word_at (in_setting availability_at) b) (words_of (part (in_setting ts_id_at) (2 * last_stream) b)) (words_of (part (in_setting network_id_at) (2 * last_stream) b)))
    ∷ bonding_checks kind (get_or b carriers_at 0) (get_or b sequence_at 0) (get_or b frames_at 0) (get_or b position_at 0)

pub rule_checks-in : (kind : Kind) (b : List ℕ) → length b ≡ setting_length → rule_checks kind (setting_of b) ≡ rules_in kind b
unfolding rule_checks
rule_checks-in kind b whole = ap (rule_checks kind) (setting_of-in b whole)
