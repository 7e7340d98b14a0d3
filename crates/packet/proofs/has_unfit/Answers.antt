-- `has_unfit` meets its contract: a packet is unfit only behind those that were looked at. Assumes nothing.
use Prim.Native.Nat.{◌/◌}
use mathlib.Core.Path.{◌≡◌, sym, ap, ◌∙◌}
use mathlib.Core.Bool.{Bool, ◌||◌}
use native.Mathlib.Omega.{arith}
use lib.ListN.{length}
use Rattle.std.specs.Slice.Iter.{chunks_exact_rest}
use Rattle.slices.proofs.Any.{any_none}
use Rattle.refusals.proofs.Refusals.{failed, went_through}
use Rattle.packet.specs.Packets.{packet_length, unfit, some_unfit_in}
use Rattle.packet.proofs.Fit.{may_stand, may_not_stand, unfit-first}
use Rattle.packet.proofs.has_unfit.Goals as goal
use Rattle.packet.proofs.has_unfit.Goals.{After-place_refusal}

-- this packet is unfit, or one behind it
here_or_behind : (c : After-place_refusal) → some_unfit_in c.args.pid c.args.stream.now ≡ unfit c.args.pid c.in-Some.packet.now || some_unfit_in c.args.pid (chunks_exact_rest c.next.new.self)
here_or_behind c =
    let step = rw c.in-Some.is at c.next.ensures.steps in
    let at = c.loop-packet.invariant in
    at.behind ∙ ap (some_unfit_in c.args.pid) step.1.0 ∙ unfit-first c.args.pid c.in-Some.packet.now _ (step.1.1 ∙ at.size)

pub loop-packet-preserved : goal.loop-packet-preserved
loop-packet-preserved c =
    let step = rw c.in-Some.is at c.next.ensures.steps in
    let fit = may_stand c.args.pid c.in-Some.packet.now (sym c.place_refusal.ensures ∙ went_through c.place_refusal.result (sym c.is_err.ensures.value ∙ c.if-is_err.false)) in
    record {
      size = step.0 ∙ c.loop-packet.invariant.size;
      behind = here_or_behind (goal.at.loop-packet-preserved c).After-place_refusal ∙ ap (λ (b : Bool). b || some_unfit_in c.args.pid (chunks_exact_rest c.next.new.self)) fit;
    }

pub returns-then-is_err : goal.returns-then-is_err
returns-then-is_err c =
    let step = rw c.in-Some.is at c.next.ensures.steps in
    let stands_not = may_not_stand c.args.pid c.in-Some.packet.now (step.1.1 ∙ c.loop-packet.invariant.size) (λ e. failed c.place_refusal.result (sym c.is_err.ensures.value ∙ c.if-is_err.true) (c.place_refusal.ensures ∙ e)) in
    sym (here_or_behind (goal.at.returns-then-is_err c).After-place_refusal ∙ ap (λ (b : Bool). b || some_unfit_in c.args.pid (chunks_exact_rest c.next.new.self)) stands_not)

pub returns : goal.returns
unfolding some_unfit_in
returns c =
    let step = rw c.in-None.is at c.next.ensures.steps in
    let none : length (chunks_exact_rest c.loop-packet.packet-iterator) / packet_length ≡ 0 = omega (arith, step.1.0, c.loop-packet.invariant.size) in
    sym (c.loop-packet.invariant.behind ∙ rw none (any_none _))
