-- The law above the blocks of a file: there is one way to cut it.
use Rattle.std.specs.Prelude.{ℕ, ◌≡◌, ◌+◌, List, [], ◌∷◌, ◌++◌, length, Result, Ok, Err}
use Rattle.octets.specs.declared.endianness.Endianness.{Endianness}
use Rattle.octets.specs.declared.endianness.Endianness.TheVariants.{Little}
use Rattle.pcapng_reader.specs.declared.front.Front.TheVariants as Front
use Rattle.pcapng_reader.specs.Blocks.{Block, front}

-- The blocks stand one directly behind the other, the first of them at `at`, each in the section that it stands in, up
-- to the tail or to something malformed.
abbrev pub AreBlocks : Endianness → ℕ → List (Result Block ℕ) → List ℕ → Type 0
AreBlocks section at [] bytes = front section bytes ≡ Front.Tail
AreBlocks section at (Err place ∷ pieces) bytes = (place ≡ at) × (pieces ≡ []) × (front section bytes ≡ Front.Malformed)
AreBlocks section at (Ok block ∷ pieces) bytes =
    (rest : List ℕ) × (bytes ≡ block.part ++ rest) × (block.at ≡ at)
    × (front section bytes ≡ Front.Block block.order (length block.part))
    × AreBlocks block.order (at + length block.part) pieces rest

-- The file is cut into these blocks, and in no other way.
pub record IsOnlyCut (bytes : List ℕ) (pieces : List (Result Block ℕ)) : Type 0 where
  pub cut : AreBlocks Little 0 pieces bytes
  pub only : (others : List (Result Block ℕ)) → AreBlocks Little 0 others bytes → others ≡ pieces
