-- `read_setting` meets its contract: four parts, the five bytes behind them and the two before them. Assumes nothing.
use Prim.Native.Nat.{ℕ}
use mathlib.Core.Path.{◌≡◌, ap₂}
use mathlib.Core.List.{[], ◌∷◌}
use borrow.Author.Rules.{rules}
use Rattle.std.specs.Prelude.{Ok}
use Rattle.bits.proofs.Laws.{fit_of}
use Rattle.header_layout.specs.Header.{reading}
use Rattle.header_check.specs.OnPaper.{on_paper}
use Rattle.header_check.specs.Checking.{numbers_into}
use Rattle.header_read.proofs.Coded.{version_is, setting_written}
use Rattle.header_read.proofs.Heard.{counter_heard, streams-heard, bonding_heard}
use Rattle.header_read.proofs.reader.read_setting.Goals as goal

pub read_announced-requires-clause-availability_value : goal.read_announced-requires-clause-availability_value
read_announced-requires-clause-availability_value c =
    streams-heard c.args.kind c.args.packet.now (on_paper (Ok c.args.said)) c.requires.said_of_packet

pub returns : goal.returns
unfolding numbers_into
returns c =
    let kind = c.args.kind in
    let p = c.args.packet.now in
    let heard = on_paper (Ok c.args.said) in
    let said = c.requires.said_of_packet in
    let version = version_is kind p (fit_of 8 p c.fits-packet) c.told-packet in
    let numbers = c.read_numbers.new.numbers in
    let numbers_are : numbers ≡ (reading kind p).relative_ts_number = search rules in
    setting_written (reading kind p) c.args.setting.now c.read_announced.new.part numbers c.read_private.new.part c.read_auxiliary.new.part _ _ _ _ _ _ _
    (search rules) (search rules) (search rules) (search rules) (search rules)
    c.read_announced.ensures numbers_are c.read_private.ensures c.read_auxiliary.ensures
    (bonding_heard kind p heard said)
    (ap₂ (λ (x y : ℕ). x ∷ y ∷ []) (counter_heard kind p heard said) version)
