-- A flow key as words, the order of keys, and the set of a cache that a key falls in.
use Rattle.std.specs.Prelude.{ℕ, ◌+◌, ◌*◌, ◌/◌, ◌%◌, ◌^◌, List, [], ◌∷◌, fold, bit_xor}
use Rattle.std.specs.Ordering.{nat_cmp, ordering_then}
use Rattle.std.specs.declared.cmp.Ordering.{Ordering}
use Rattle.flow_key.specs.declared.key.FlowKey.{FlowKey}

-- The five words of a key. The first holds the version, the protocol and the two ports, side by side; then
-- come the upper and the lower half of the source address, and those of the destination address.
abbrev pub words_of : FlowKey → List ℕ
words_of k =
    (k.version * 2 ^ 40 + k.protocol * 2 ^ 32 + k.source_port * 2 ^ 16 + k.destination_port)
    ∷ (k.source / 2 ^ 64) ∷ (k.source % 2 ^ 64)
    ∷ (k.destination / 2 ^ 64) ∷ (k.destination % 2 ^ 64) ∷ []

-- One more word taken into a hash of 64 bits.
abbrev pub mixed_hash : ℕ → ℕ → ℕ
mixed_hash hash word = bit_xor hash word * 0x9E3779B97F4A7C15 % 2 ^ 64

-- The set of a key in a table of `sets` sets: the upper half of the hash of its words, modulo `sets`.
abbrev pub set_number : FlowKey → ℕ → ℕ
set_number k sets = fold mixed_hash 0 (words_of k) / 2 ^ 32 % sets

-- The order of keys: by version, then by source address, destination address, protocol, source port and destination port.
abbrev pub key_order : FlowKey → FlowKey → Ordering
key_order a b =
    ordering_then (nat_cmp a.version b.version)
    (ordering_then (nat_cmp a.source b.source)
    (ordering_then (nat_cmp a.destination b.destination)
    (ordering_then (nat_cmp a.protocol b.protocol)
    (ordering_then (nat_cmp a.source_port b.source_port) (nat_cmp a.destination_port b.destination_port)))))
