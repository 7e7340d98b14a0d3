-- `list_round` meets its contract: as many of the entries were gone through. Assumes nothing.
use Prim.Native.Nat.{◌<◌}
use mathlib.Core.Path.{sym, ◌∙◌}
use native.Mathlib.Omega.{arith}
use lib.ListN.{length}
use Rattle.bond.proofs.ByRound.{going_more, going_less, going_all}
use Rattle.bond.proofs.rounds.list_round.Goals as goal
use Rattle.bond.proofs.rounds.list_round.Goals.{else-is_marked, then-is_marked}

pub loop-note-preserved : goal.loop-note-preserved
loop-note-preserved c =
    let i = c.loop-note.invariant in
    let r : length c.args.notes.now < length c.args.list.now = omega arith in
    let test = c.loop-note-test.true in
    let is = sym c.is_marked.ensures in
    elim c.if-is_marked.branch [ then-is_marked w ↦ rw w.n-is (going_more _ _ _ _ _ r i test (is ∙ w.if-is_marked.true)) | else-is_marked w ↦ rw w.n-is (going_less _ _ _ _ _ r i test (is ∙ w.if-is_marked.false)) ]

pub returns : goal.returns
returns c =
    let room : length c.args.notes.now < length c.args.list.now = omega arith in
    let all = going_all _ _ _ _ _ room c.loop-note.invariant (omega arith) in
    record { list_after = all.0; value = all.1.0; upper_bound = all.1.1 }
