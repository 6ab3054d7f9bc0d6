-- The file is cut into its blocks, in one way only.
use Rattle.std.proofs.Common.{◌≡◌, ℕ, zero, suc, ◌+◌, ◌≤◌, List, [], ◌∷◌, length, take, drop, Some, None, Ok, Err, refl}
use Rattle.std.proofs.Common.{sym, ap, subst, ◌∙◌, arith, inl, inr}
use Rattle.std.specs.Prelude.{Option, Result, nat_lt}
use Rattle.std.proofs.lemmas.List.{take-append-drop, length-take, length-drop, take_at, drop_at}
use Rattle.std.proofs.lemmas.Bool.{cases_Bool}
use Rattle.std.proofs.lemmas.Bool.Decides.{nat_tests}
use Rattle.octets.specs.declared.endianness.Endianness.{Endianness}
use Rattle.octets.specs.declared.endianness.Endianness.TheVariants.{Little}
use Rattle.pcapng_reader.specs.declared.front.Front.{Front}
use Rattle.pcapng_reader.specs.Blocks.{Block, sized_front, ordered_front, block_order, front, pieces_from, pieces_of}
use Rattle.pcapng_reader.specs.Cut.{AreBlocks, IsOnlyCut}
use Rattle.pcapng_reader.specs.Fronts.{IsLenOf}
use Rattle.pcapng_reader.proofs.Pieces.{pieces-block, pieces-tail, pieces-malformed}

sized-whole : (order told : Endianness) (bytes : List ℕ) (len : ℕ) → sized_front order bytes ≡ Front.Block told len
    → IsLenOf bytes len
unfolding sized_front
sized-whole order told bytes len h = record { some = grind (arith, nat_tests); within = grind (arith, nat_tests) }

ordered-whole : (order : Option Endianness) (told : Endianness) (bytes : List ℕ) (len : ℕ)
    → ordered_front order bytes ≡ Front.Block told len
    → IsLenOf bytes len
ordered-whole None told bytes len h = absurd (cc)
ordered-whole (Some order) told bytes len h = sized-whole order told bytes len h

-- the octets of a block are there
front-whole : (section told : Endianness) (bytes : List ℕ) (len : ℕ) → front section bytes ≡ Front.Block told len
    → IsLenOf bytes len
unfolding front
front-whole section told bytes len h =
    elim (cases_Bool (nat_lt (length bytes) 12)) [
      | inl short ↦ let never = rw short at h in absurd (cc)
      | inr long ↦ let there = rw long at h in ordered-whole (block_order section bytes) told bytes len there
    ]

-- what stands at a place is one of three
data FrontCases (there : Front) : Type 0 where
  is_tail : there ≡ Front.Tail → FrontCases there
  is_malformed : there ≡ Front.Malformed → FrontCases there
  is_block : (order : Endianness) (len : ℕ) → there ≡ Front.Block order len → FrontCases there

front-cases : (there : Front) → FrontCases there
front-cases Front.Tail = is_tail refl
front-cases Front.Malformed = is_malformed refl
front-cases (Front.Block order len) = is_block order len refl

are-blocks : (fuel : ℕ) (section : Endianness) (at : ℕ) (bytes : List ℕ) → length bytes ≤ fuel
    → AreBlocks section at (pieces_from section at 0 bytes) bytes
are-blocks zero section at bytes enough =
    elim (front-cases (front section bytes)) [
      | is_tail h ↦ rw (pieces-tail section at bytes h) h
      | is_malformed h ↦ rw (pieces-malformed section at bytes h) (refl, refl, h)
      | is_block order len h ↦ let whole = front-whole section order bytes len h in
          absurd (omega (arith, whole.some, whole.within))
    ]
are-blocks (suc fuel) section at bytes enough =
    elim (front-cases (front section bytes)) [
      | is_tail h ↦ rw (pieces-tail section at bytes h) h
      | is_malformed h ↦ rw (pieces-malformed section at bytes h) (refl, refl, h)
      | is_block order len h ↦
          let whole = front-whole section order bytes len h in
          let long : length (take len bytes) ≡ len = omega (arith, whole.within, length-take len bytes) in
          let less : length (drop len bytes) ≤ fuel =
          omega (arith, whole.some, whole.within, length-drop len bytes, enough) in
          let later = are-blocks fuel order (at + len) (drop len bytes) less in
          rw (pieces-block section order at len bytes h whole.some) (
            drop len bytes,
            sym (take-append-drop len bytes),
            refl,
            h ∙ ap (λ (k : ℕ). Front.Block order k) (sym long),
            subst (λ (k : ℕ). AreBlocks order (at + k) (pieces_from order (at + len) 0 (drop len bytes))
                (drop len bytes)) (sym long) later,
          )
    ]

are-only : (pieces : List (Result Block ℕ)) (section : Endianness) (at : ℕ) (bytes : List ℕ)
    → AreBlocks section at pieces bytes
    → pieces ≡ pieces_from section at 0 bytes
are-only [] section at bytes are = sym (pieces-tail section at bytes are)
are-only (Err place ∷ pieces) section at bytes are = rw (are.0, are.1) (sym (pieces-malformed section at bytes are.2))
are-only (Ok block ∷ pieces) section at bytes are =
    let len = length block.part in
    let whole = front-whole section block.order bytes len are.3 in
    let split = pieces-block section block.order at len bytes are.3 whole.some in
    let part_is : take len bytes ≡ block.part = ap (take len) are.1 ∙ take_at block.part are.0 len refl in
    let rest_is : drop len bytes ≡ are.0 = ap (drop len) are.1 ∙ drop_at block.part are.0 len refl in
    let later = are-only pieces block.order (at + len) are.0 are.4 in
    sym (split
    ∙ ap (λ (p : List ℕ). Ok (record { at = at; order = block.order; part = p })
    ∷ pieces_from block.order (at + len) 0 (drop len bytes)) part_is
    ∙ ap (λ (l : List ℕ). Ok (record { at = at; order = block.order; part = block.part })
    ∷ pieces_from block.order (at + len) 0 l) rest_is
    ∙ ap (λ (k : ℕ). Ok (record { at = k; order = block.order; part = block.part })
    ∷ pieces_from block.order (at + len) 0 are.0) (sym are.2)
    ∙ ap (λ (others : List (Result Block ℕ)). Ok block ∷ others) (sym later))

-- there is one way to cut a file into blocks
pub blocks-once : (bytes : List ℕ) → IsOnlyCut bytes (pieces_of bytes)
blocks-once bytes = record {
  cut = are-blocks (length bytes) Little 0 bytes (omega arith);
  only = λ others are. are-only others Little 0 bytes are;
}
