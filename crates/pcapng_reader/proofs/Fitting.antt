-- The numbers of a record fit four octets.
use Rattle.std.proofs.Common.{ℕ, ◌+◌, ◌-◌, ◌*◌, ◌/◌, ◌%◌, ◌<◌, ◌^◌, List, take, drop, arith, inl, inr}
use Rattle.std.specs.Prelude.{All, nat_lt, slice_range}
use Rattle.std.specs.List.{AllByRecursion}
use Rattle.std.proofs.lemmas.List.{length-take, get_or-drop}
use Rattle.std.proofs.lemmas.List.Elements.{All-map, recursion_from_All, All-weaker}
use Rattle.std.proofs.lemmas.Bool.{cases_Bool}
use Rattle.std.proofs.lemmas.Bool.Decides.{nat_tests}
use Rattle.std.proofs.lemmas.Grind.{common_steps}
use Rattle.std.proofs.Math.Nat.{div-lt_iff_lt-mul}
use Rattle.byteorder.specs.Numbers.{big_from-lt, little_from-lt}
use Rattle.octets.specs.declared.endianness.Endianness.{Endianness}
use Rattle.octets.specs.declared.endianness.Endianness.TheVariants.{Little, Big}
use Rattle.octets.specs.Numbers.{number, AreOctets}
use Rattle.pcapng_reader.specs.declared.time.Stamp.{Stamp}
use Rattle.pcapng_reader.specs.declared.index.Place.{Place}
use Rattle.pcapng_reader.specs.Records.{fitting_stamp, moved_stamp, told_time, captured_len}
use Rattle.pcapng_reader.specs.Index.{IsPlaceIn, record_at, records_at}
use Rattle.pcapng_reader.specs.Filtered.{LinkedFits}

number-fits : (order : Endianness) (octets : List ℕ) → AreOctets octets → number order 4 octets < 2 ^ 32
unfolding number
number-fits Little octets each = little_from-lt 0 4 octets each
number-fits Big octets each = big_from-lt 0 4 octets each

drop-octets : (k : ℕ) (octets : List ℕ) → AreOctets octets → AreOctets (drop k octets)
drop-octets k octets each place = rw (get_or-drop k octets place 0) (each (k + place))

take-octets : (k : ℕ) (octets : List ℕ) → AreOctets octets → AreOctets (take k octets)
take-octets k octets each place = let h = each place in grind (arith, common_steps)

record StampFits (stamp : Stamp) : Type 0 where
  pub seconds : stamp.seconds < 2 ^ 32
  pub fraction : stamp.fraction < 2 ^ 32

fitting_stamp-fits : (seconds fraction : ℕ) → fraction < 2 ^ 32 → StampFits (fitting_stamp seconds fraction)
fitting_stamp-fits seconds fraction small =
    elim (cases_Bool (nat_lt seconds (2 ^ 32))) [
      | inl low ↦ let is : seconds < 2 ^ 32 = grind (arith, nat_tests) in
          rw low (record { seconds = is; fraction = small })
      | inr high ↦ rw high (record { seconds = omega arith; fraction = omega arith })
    ]

moved_stamp-fits : (seconds offset fraction : ℕ) → fraction < 2 ^ 32 → StampFits (moved_stamp seconds offset fraction)
moved_stamp-fits seconds offset fraction small =
    elim (cases_Bool (nat_lt offset (2 ^ 63))) [
      | inl ahead ↦ rw ahead (fitting_stamp-fits (seconds + offset) fraction small)
      | inr behind ↦
          elim (cases_Bool (nat_lt (seconds + offset) (2 ^ 64))) [
            | inl early ↦ rw (behind, early) (record { seconds = omega arith; fraction = omega arith })
            | inr later ↦ rw (behind, later) (fitting_stamp-fits (seconds + offset - 2 ^ 64) fraction small)
          ]
    ]

fraction-fits : (rest units : ℕ) → rest < units → rest * 1000000000 / units < 2 ^ 32
fraction-fits rest units less =
    let some : 0 < units = omega arith in
    (div-lt_iff_lt-mul {k = units} {x = rest * 1000000000} {y = 2 ^ 32} some).1 (omega (arith, less))

place-fits : (bytes : List ℕ) (place : Place) → AreOctets bytes → IsPlaceIn bytes place
    → LinkedFits (record_at bytes place)
place-fits bytes (Place.Enhanced from to order interface) each at =
    let part = slice_range bytes from to in
    let octets = take-octets (to - from) (drop from bytes) (drop-octets from bytes each) in
    let units = at.units in
    let rest : told_time order part % interface.units < interface.units = omega arith in
    let stamp = moved_stamp-fits (told_time order part / interface.units) interface.offset _
    (fraction-fits (told_time order part % interface.units) interface.units rest) in
    record {
      seconds = stamp.seconds;
      fraction = stamp.fraction;
      original = number-fits order (drop 24 part) (drop-octets 24 part octets);
      captured = omega (arith, at.block.small, length-take (captured_len order part) (drop 28 part));
    }
place-fits bytes Place.Simple each at = record {
  seconds = omega arith;
  fraction = omega arith;
  original = omega arith;
  captured = omega arith;
}

-- the records of an index fit
pub records-fit : (bytes : List ℕ) (places : List Place) → AreOctets bytes → All (IsPlaceIn bytes) places
    → AllByRecursion LinkedFits (records_at bytes places)
records-fit bytes places each all =
    recursion_from_All LinkedFits (records_at bytes places) (All-map LinkedFits (record_at bytes) places
    (All-weaker (IsPlaceIn bytes) (λ place. LinkedFits (record_at bytes place))
    (λ place. place-fits bytes place each) places all))
