-- `bonding_of` meets its contract, by the kind. Assumes nothing.
use Rattle.std.proofs.Common.{inl, inr}
use Rattle.bits.proofs.Laws.{fit_of}
use Rattle.header_layout.proofs.Said.{Bonding, no_bonding, no_bonding_short, bonding_are}
use Rattle.header_check.proofs.parts.bonding_of.Goals as goal

pub returns-in-Plain : goal.returns-in-Plain
returns-in-Plain c =
    let p = c.args.packet.now in
    let b : Bonding c.args.kind p 0 0 0 0 0 = elim c.in-Plain.is [ inl e ↦ no_bonding p e | inr e ↦ no_bonding_short p e ] in
    rw c.no_bonding.ensures (record { group_id_value = b.0; number_of_carriers_value = b.1.0; carrier_sequence_value = b.1.1.0; number_of_frames_value = b.1.1.1.0; frame_position_value = b.1.1.1.1 })

pub returns-in-Extended : goal.returns-in-Extended
returns-in-Extended c =
    let p = c.args.packet.now in
    let b = bonding_are p (fit_of 8 p c.fits-packet) c.told-packet c.in-Extended.is in
    record { group_id_value = b.0; number_of_carriers_value = b.1.0; carrier_sequence_value = b.1.1.0; number_of_frames_value = b.1.1.1.0; frame_position_value = b.1.1.1.1 }
