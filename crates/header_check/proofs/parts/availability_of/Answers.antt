-- `availability_of` meets its contract. Assumes nothing.
use native.Mathlib.Omega.{arith}
use Rattle.bits.proofs.Laws.{fit_of}
use Rattle.setting.proofs.Sizes.{sized}
use Rattle.header_check.proofs.Asked.{streams_shifted}
use Rattle.header_check.proofs.parts.availability_of.Goals as goal

pub overflow_sub-size : goal.overflow_sub-size
overflow_sub-size c =
    rw c.size_of-size.ensures (let l = (sized c.args.kind).streams in omega arith)

pub overflow_shr-own : goal.overflow_shr-own
overflow_shr-own c =
    rw (c.from.ensures, c.size_of-size.ensures) (let b = (sized c.args.kind).stream_bytes in omega arith)

pub overflow_sub-size-2 : goal.overflow_sub-size-2
overflow_sub-size-2 c = rw c.size_of-size.ensures (sized c.args.kind).streams

pub returns : goal.returns
returns c =
    let p = c.args.packet.now in
    let bytes = fit_of 8 p c.fits-packet in
    rw (c.from.ensures, c.from-2.ensures, c.size_of-size.ensures, c.word_at.ensures) (streams_shifted c.args.kind p bytes c.told-packet)
