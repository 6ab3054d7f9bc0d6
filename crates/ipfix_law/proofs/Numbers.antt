-- Numbers written are numbers read.
use Rattle.std.proofs.Common.{◌≡◌, ◌<◌, ◌+◌, ◌^◌, ℕ, List, [], ◌∷◌, ◌++◌, length, take, drop, refl, ap}
use Rattle.byteorder.specs.Endian.{big_number}
use Rattle.byteorder.specs.Numbers.{length-bytes_high_first, big_number-reads_back}
use Rattle.octets.specs.Numbers.{octets_of, number_at}
use Rattle.std.proofs.Math.Seq.{drop-append-add}

-- the octets of a number are as many as asked for
pub length-octets : (n x : ℕ) → length (octets_of n x) ≡ n
length-octets n x = length-bytes_high_first n x

-- what lies behind the front of two lists
pub drop-front : {X : Type 0} (front rest : List X) → drop (length front) (front ++ rest) ≡ rest
drop-front [] rest = refl
drop-front (x ∷ front) rest = drop-front front rest

pub take-front : {X : Type 0} (front rest : List X) → take (length front) (front ++ rest) ≡ front
take-front [] rest = refl
take-front (x ∷ front) rest = ap (λ xs. x ∷ xs) (take-front front rest)

-- the number in front
pub number-front : (n x : ℕ) (rest : List ℕ) → x < 256 ^ n → number_at 0 n (octets_of n x ++ rest) ≡ x
unfolding number_at
number-front n x rest fits = big_number-reads_back n x rest fits

-- a number behind some octets
pub number-behind : (front rest : List ℕ) (place n : ℕ)
    → number_at (length front + place) n (front ++ rest) ≡ number_at place n rest
unfolding number_at
number-behind front rest place n = ap (big_number n) (drop-append-add front rest place)
