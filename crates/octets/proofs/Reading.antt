-- A number reads only its own bytes.
use Rattle.std.proofs.Common.{◌≡◌, ℕ, ◌≤◌, ◌+◌, List, ◌++◌, length, drop, ap, ◌∙◌, arith}
use Rattle.std.proofs.lemmas.List.{drop-append-le, length-drop}
use Rattle.byteorder.specs.Numbers.{big_from-append, little_from-append}
use Rattle.octets.specs.declared.endianness.Endianness.{Endianness}
use Rattle.octets.specs.declared.endianness.Endianness.TheVariants.{Little, Big}
use Rattle.octets.specs.Numbers.{number}

pub number-append : (order : Endianness) (width : ℕ) (xs ys : List ℕ) → width ≤ length xs
    → number order width (xs ++ ys) ≡ number order width xs
unfolding number
number-append Little width xs ys h = little_from-append width xs ys h
number-append Big width xs ys h = big_from-append width xs ys h

-- the same for a number at a place
pub number-drop-append : (order : Endianness) (width at : ℕ) (xs ys : List ℕ) → at + width ≤ length xs
    → number order width (drop at (xs ++ ys)) ≡ number order width (drop at xs)
number-drop-append order width at xs ys h =
    ap (number order width) (drop-append-le at xs ys (omega arith))
    ∙ number-append order width (drop at xs) ys (omega (arith, length-drop at xs))
