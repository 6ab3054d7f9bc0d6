-- The blocks that stand one behind the other: the first of them, and none.
use Rattle.std.proofs.Common.{◌≡◌, ℕ, zero, suc, ◌+◌, ◌-◌, ◌≤◌, List, [], ◌∷◌, take, drop, Ok, Err, refl, sym, ap, ◌∙◌}
use Rattle.std.proofs.Common.{arith}
use Rattle.std.specs.Prelude.{Result, slice_range, sum_by, length}
use Rattle.std.proofs.lemmas.List.{drop-drop, length-take-le}
use Rattle.std.proofs.lemmas.List.Sums.{sum_by-cons}
use Rattle.octets.specs.declared.endianness.Endianness.{Endianness}
use Rattle.octets.specs.Outcome.{◌>>=◌}
use Rattle.pcapng_reader.specs.declared.front.Front.TheVariants as Front
use Rattle.pcapng_reader.specs.Blocks.{Block, front, pieces_from}
use Rattle.pcapng_reader.specs.Reading.{Found, with_block, with_pieces}
use Rattle.pcapng_reader.specs.Tallied.{piece_length}

-- those behind some octets are those of what is left
pieces_from-drop : (section : Endianness) (at skip : ℕ) (bytes : List ℕ)
    → pieces_from section at skip bytes ≡ pieces_from section (at + skip) 0 (drop skip bytes)
unfolding pieces_from
pieces_from-drop section at zero bytes =
    let same : at ≡ at + 0 = omega arith in ap (λ (k : ℕ). pieces_from section k 0 bytes) same
pieces_from-drop section at (suc skip) [] = refl
pieces_from-drop section at (suc skip) (byte ∷ bytes) =
    let same : suc at + skip ≡ at + suc skip = omega arith in
    pieces_from-drop section (suc at) skip bytes ∙ ap (λ (k : ℕ). pieces_from section k 0 (drop skip bytes)) same

nothing-tail : (section : Endianness) → front section [] ≡ Front.Tail
unfolding front
nothing-tail section = refl

-- where a block stands, it is the first, and the others are those behind it
pub pieces-block : (section order : Endianness) (at len : ℕ) (bytes : List ℕ)
    → front section bytes ≡ Front.Block order len → 12 ≤ len
    → pieces_from section at 0 bytes ≡ Ok (record { at = at; order = order; part = take len bytes })
    ∷ pieces_from order (at + len) 0 (drop len bytes)
unfolding pieces_from
pieces-block section order at len [] h long = let e = nothing-tail section in cc
pieces-block section order at len (byte ∷ bytes) h long =
    let more : len ≡ suc (len - 1) = omega arith in
    let there : suc at + (len - 1) ≡ at + len = omega arith in
    let left : drop (len - 1) bytes ≡ drop len (byte ∷ bytes) = sym (ap (λ (k : ℕ). drop k (byte ∷ bytes)) more) in
    rw (h, pieces_from) (ap (λ (others : List (Result Block ℕ)).
    Ok (record { at = at; order = order; part = take len (byte ∷ bytes) }) ∷ others)
    (pieces_from-drop order (suc at) (len - 1) bytes
    ∙ ap (λ (k : ℕ). pieces_from order k 0 (drop (len - 1) bytes)) there
    ∙ ap (pieces_from order (at + len) 0) left))

pub pieces-tail : (section : Endianness) (at : ℕ) (bytes : List ℕ) → front section bytes ≡ Front.Tail
    → pieces_from section at 0 bytes ≡ []
unfolding pieces_from
pieces-tail section at [] h = refl
pieces-tail section at (byte ∷ bytes) h = rw (h, pieces_from) refl

pub pieces-malformed : (section : Endianness) (at : ℕ) (bytes : List ℕ) → front section bytes ≡ Front.Malformed
    → pieces_from section at 0 bytes ≡ Err at ∷ []
unfolding pieces_from
pieces-malformed section at [] h = let e = nothing-tail section in cc
pieces-malformed section at (byte ∷ bytes) h = rw (h, pieces_from) refl

part-same : (bytes : List ℕ) (at len to : ℕ) → to ≡ at + len → slice_range bytes at to ≡ take len (drop at bytes)
part-same bytes at len to is = let same : to - at ≡ len = omega arith in ap (λ (k : ℕ). take k (drop at bytes)) same

-- one block more
pub block-more : (bytes : List ℕ) (found next : Found) (section order : Endianness) (at len to : ℕ)
    → front section (drop at bytes) ≡ Front.Block order len → 12 ≤ len → to ≡ at + len
    → with_block found (record { at = at; order = order; part = slice_range bytes at to }) ≡ Ok next
    → with_pieces next (pieces_from order to 0 (drop to bytes))
    ≡ with_pieces found (pieces_from section at 0 (drop at bytes))
block-more bytes found next section order at len to stands long is told =
    let part = part-same bytes at len to is in
    let others = pieces_from order (at + len) 0 (drop len (drop at bytes)) in
    let taken : with_block found (record { at = at; order = order; part = take len (drop at bytes) }) ≡ Ok next =
    ap (λ (p : List ℕ). with_block found (record { at = at; order = order; part = p })) (sym part) ∙ told in
    let left : pieces_from order (at + len) 0 (drop len (drop at bytes)) ≡ pieces_from order to 0 (drop to bytes) =
    ap (pieces_from order (at + len) 0) (drop-drop len at bytes)
    ∙ ap (λ (k : ℕ). pieces_from order k 0 (drop k bytes)) (sym is) in
    sym (ap (with_pieces found) (pieces-block section order at len (drop at bytes) stands long)
    ∙ ap (λ (r : Result Found ℕ). r >>= (λ (n : Found). with_pieces n others)) taken ∙ ap (with_pieces next) left)

-- a bad block
pub block-bad : (bytes : List ℕ) (found : Found) (section order : Endianness) (at len to n : ℕ)
    → front section (drop at bytes) ≡ Front.Block order len → 12 ≤ len → to ≡ at + len
    → with_block found (record { at = at; order = order; part = slice_range bytes at to }) ≡ Err n
    → with_pieces found (pieces_from section at 0 (drop at bytes)) ≡ Err n
block-bad bytes found section order at len to n stands long is told =
    let part = part-same bytes at len to is in
    let others = pieces_from order (at + len) 0 (drop len (drop at bytes)) in
    let taken : with_block found (record { at = at; order = order; part = take len (drop at bytes) }) ≡ Err n =
    ap (λ (p : List ℕ). with_block found (record { at = at; order = order; part = p })) (sym part) ∙ told in
    ap (with_pieces found) (pieces-block section order at len (drop at bytes) stands long)
    ∙ ap (λ (r : Result Found ℕ). r >>= (λ (n : Found). with_pieces n others)) taken

-- at the tail all was found
pub at-tail : (bytes : List ℕ) (found : Found) (section : Endianness) (at : ℕ)
    → front section (drop at bytes) ≡ Front.Tail
    → with_pieces found (pieces_from section at 0 (drop at bytes)) ≡ Ok found
at-tail bytes found section at h = ap (with_pieces found) (pieces-tail section at (drop at bytes) h)

pub at-malformed : (bytes : List ℕ) (found : Found) (section : Endianness) (at : ℕ)
    → front section (drop at bytes) ≡ Front.Malformed
    → with_pieces found (pieces_from section at 0 (drop at bytes)) ≡ Err at
at-malformed bytes found section at h = ap (with_pieces found) (pieces-malformed section at (drop at bytes) h)

-- a block is the first of the pieces, and the others are those behind it
pub pieces-more : (bytes : List ℕ) (section order : Endianness) (at len to : ℕ)
    → front section (drop at bytes) ≡ Front.Block order len → 12 ≤ len → to ≡ at + len
    → pieces_from section at 0 (drop at bytes)
    ≡ Ok (record { at = at; order = order; part = take len (drop at bytes) }) ∷ pieces_from order to 0 (drop to bytes)
pieces-more bytes section order at len to stands long is =
    let left : pieces_from order (at + len) 0 (drop len (drop at bytes)) ≡ pieces_from order to 0 (drop to bytes) =
    ap (pieces_from order (at + len) 0) (drop-drop len at bytes)
    ∙ ap (λ (k : ℕ). pieces_from order k 0 (drop k bytes)) (sym is) in
    pieces-block section order at len (drop at bytes) stands long
    ∙ ap (λ (others : List (Result Block ℕ)).
    Ok (record { at = at; order = order; part = take len (drop at bytes) }) ∷ others) left

-- so there is one piece more in front of those behind it
pub count-more : (bytes : List ℕ) (section order : Endianness) (at len to blocks whole : ℕ)
    → front section (drop at bytes) ≡ Front.Block order len → 12 ≤ len → to ≡ at + len
    → blocks + length (pieces_from section at 0 (drop at bytes)) ≡ whole
    → blocks + 1 + length (pieces_from order to 0 (drop to bytes)) ≡ whole
count-more bytes section order at len to blocks whole stands long is count =
    let more = ap (λ (l : List (Result Block ℕ)). length l) (pieces-more bytes section order at len to stands long is) in
    omega (arith, more, count)

-- and its octets are more in front of theirs
pub octets-more : (bytes : List ℕ) (section order : Endianness) (at len to whole : ℕ)
    → front section (drop at bytes) ≡ Front.Block order len → 12 ≤ len → to ≡ at + len
    → len ≤ length (drop at bytes)
    → at + sum_by piece_length (pieces_from section at 0 (drop at bytes)) ≡ whole
    → to + sum_by piece_length (pieces_from order to 0 (drop to bytes)) ≡ whole
octets-more bytes section order at len to whole stands long is within octets =
    let more = ap (sum_by piece_length) (pieces-more bytes section order at len to stands long is) in
    let taken = length-take-le len (drop at bytes) within in
    let first : Result Block ℕ = Ok (record { at = at; order = order; part = take len (drop at bytes) }) in
    let split = sum_by-cons piece_length first (pieces_from order to 0 (drop to bytes)) in
    omega (arith, more ∙ split, taken, octets, is)
