-- What octets hold fits them.
use Rattle.std.proofs.Common.{◌<◌, ◌+◌, ◌^◌, ℕ, List, drop}
use Rattle.std.proofs.lemmas.List.{get_or-drop}
use Rattle.byteorder.specs.Numbers.{big_from-lt}
use Rattle.octets.specs.Numbers.{number_at, AreOctets}

pub number_at-fits : (place size : ℕ) (octets : List ℕ) → AreOctets octets → number_at place size octets < 256 ^ size
unfolding number_at
number_at-fits place size octets each =
    big_from-lt 0 size (drop place octets) (λ k. rw (get_or-drop place octets k 0) (each (place + k)))
