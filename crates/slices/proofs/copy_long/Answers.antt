-- `copy_long` meets its contract: after k turns the first 16 * k elements of `src` stand over the front of `dst`, and the last sixteen are put
-- over its end. Assumes nothing.
use Rattle.std.proofs.Common.{ℕ, ◌+◌, ◌-◌, ◌*◌, ◌≡◌, List, ◌++◌, ap, sym, subst, ◌∙◌, take, drop, length, length-drop, arith}
use lib.Seq.{length-take-le, take-add}
use Rattle.slices.proofs.Front.{Front, put, front-part}
use Rattle.slices.proofs.copy_long.Goals as goal

pub loop-k-preserved : goal.loop-k-preserved
loop-k-preserved c =
    let into = c.args.dst.now in
    let from = c.args.src.now in
    let at = 16 * c.loop-k.k in
    let ys = c.copy_sixteen.new.dst in
    let sixteen : at + 16 - at ≡ 16 = omega arith in
    let next : at + 16 ≡ 16 * (c.loop-k.k + 1) = omega arith in
    let part : ys ≡ take 16 (drop at from) = c.copy_sixteen.ensures ∙ ap (λ (n : ℕ). take n (drop at from)) sixteen in
    let long : length ys ≡ 16 = ap length part ∙ length-take-le 16 (drop at from) (rw length-drop (omega arith)) in
    let more : take at from ++ ys ≡ take (at + 16) from = ap (λ (l : List ℕ). take at from ++ l) part ∙ sym (take-add at 16 from) in
    let after : Front into (take (at + 16) from) (put at 16 c.loop-k.dst ys) (at + 16) =
    subst (λ (l : List ℕ). Front into l (put at 16 c.loop-k.dst ys) (at + 16)) more (front-part into (take at from) c.loop-k.dst ys at 16 c.loop-k.invariant long) in
    rw sixteen (rw next at after)
