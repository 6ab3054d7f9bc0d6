-- The options that stand one behind the other: the first of them, and none.
use Rattle.std.proofs.Common.{◌≡◌, ℕ, zero, suc, ◌+◌, List, [], ◌∷◌, take, drop, Some, None, refl, sym, ap, ◌∙◌, arith}
use Rattle.std.specs.Prelude.{option_and_then}
use Rattle.octets.specs.declared.endianness.Endianness.{Endianness}
use Rattle.pcapng_reader.specs.declared.options.NextOption.TheVariants as Next
use Rattle.pcapng_reader.specs.declared.interface.Interface.{Interface}
use Rattle.pcapng_reader.specs.Options.{CodedValue, padded_length, next_option, options_from, options_in}
use Rattle.pcapng_reader.specs.Interfaces.{with_option, with_options}
use Rattle.std.specs.declared.option.Option.{Option}

-- those behind some octets are those of what is left
options_from-drop : (order : Endianness) (skip : ℕ) (octets : List ℕ)
    → options_from order skip octets ≡ options_in order (drop skip octets)
unfolding options_from
options_from-drop order zero octets = refl
options_from-drop order (suc skip) [] = refl
options_from-drop order (suc skip) (octet ∷ octets) = options_from-drop order skip octets

nothing-last : (order : Endianness) → next_option order [] ≡ Next.Last
unfolding next_option
nothing-last order = refl

-- where an option stands, it is the first, and the others are those behind it
pub options_in-coded : (order : Endianness) (octets : List ℕ) (code len : ℕ)
    → next_option order octets ≡ Next.Coded code len
    → options_in order octets ≡ Some (record { code = code; value = take len (drop 4 octets) })
    ∷ options_in order (drop (4 + padded_length len) octets)
unfolding options_from
options_in-coded order [] code len h = let e = nothing-last order in cc
options_in-coded order (octet ∷ octets) code len h =
    let more : 4 + padded_length len ≡ suc (3 + padded_length len) = omega arith in
    let left : drop (3 + padded_length len) octets ≡ drop (4 + padded_length len) (octet ∷ octets) =
    sym (ap (λ (k : ℕ). drop k (octet ∷ octets)) more) in
    rw (h, options_from) (ap (λ (others : List (Option CodedValue)).
    Some (record { code = code; value = take len (drop 4 (octet ∷ octets)) }) ∷ others)
    (options_from-drop order (3 + padded_length len) octets ∙ ap (options_in order) left))

pub options_in-last : (order : Endianness) (octets : List ℕ) → next_option order octets ≡ Next.Last
    → options_in order octets ≡ []
unfolding options_from
options_in-last order [] h = refl
options_in-last order (octet ∷ octets) h = rw (h, options_from) refl

pub options_in-beyond : (order : Endianness) (octets : List ℕ) → next_option order octets ≡ Next.Beyond
    → options_in order octets ≡ None ∷ []
unfolding options_from
options_in-beyond order [] h = let e = nothing-last order in cc
options_in-beyond order (octet ∷ octets) h = rw (h, options_from) refl

-- one option more
pub with_options-more : (order : Endianness) (interface next : Interface) (octets value rest : List ℕ) (code len : ℕ)
    → next_option order octets ≡ Next.Coded code len
    → with_option order interface (record { code = code; value = value }) ≡ Some next
    → value ≡ take len (drop 4 octets) → rest ≡ drop (4 + padded_length len) octets
    → with_options order next (options_in order rest) ≡ with_options order interface (options_in order octets)
with_options-more order interface next octets value rest code len stands told value_is rest_is =
    let others = options_in order (drop (4 + padded_length len) octets) in
    let same : with_option order interface (record { code = code; value = take len (drop 4 octets) }) ≡ Some next =
    rw (← value_is) told in
    rw rest_is (sym (ap (with_options order interface) (options_in-coded order octets code len stands)
    ∙ ap (option_and_then (λ (n : Interface). with_options order n others)) same))

-- a bad option
pub with_options-bad : (order : Endianness) (interface : Interface) (octets value : List ℕ) (code len : ℕ)
    → next_option order octets ≡ Next.Coded code len
    → with_option order interface (record { code = code; value = value }) ≡ None
    → value ≡ take len (drop 4 octets)
    → with_options order interface (options_in order octets) ≡ None
with_options-bad order interface octets value code len stands told value_is =
    let others = options_in order (drop (4 + padded_length len) octets) in
    let same : with_option order interface (record { code = code; value = take len (drop 4 octets) }) ≡ None =
    rw (← value_is) told in
    ap (with_options order interface) (options_in-coded order octets code len stands)
    ∙ ap (option_and_then (λ (n : Interface). with_options order n others)) same
