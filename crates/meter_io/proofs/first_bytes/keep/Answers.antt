use Rattle.std.proofs.Common.{rules, ◌≡◌, ◌++◌, ◌∙◌, length, min, take}
use Rattle.meter_io.proofs.Parts.{take_room}
use Rattle.meter_io.proofs.first_bytes.keep.Goals as goal

pub returns : goal.returns
returns c =
    let room = c.remaining_capacity-room.result in
    let old = c.args.first.now.items in
    let given = c.args.given.now in
    let appended : c.try_extend_from_slice.new.self.items ≡ old ++ take (min room (length given)) given =
    search rules in
    appended ∙ take_room 16 room old given c.remaining_capacity-room.ensures
