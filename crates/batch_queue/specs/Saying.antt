-- The word that no more batches come, and what passes know of it.
use Rattle.std.specs.Prelude.{◌≡◌, ℕ, ◌+◌, ◌<◌, ◌≤◌, List, length, slice_index, sum_by}
use mathlib.Core.Option.{some}
use lib.ListN.{get_elem?}
use Rattle.atomic_table.specs.Table.{State, Me, Step}
use Rattle.batch_queue.specs.declared.heard.Heard.{Heard}

-- the word: 1 once it was said that no more batches come, else 0
abbrev pub word_of : State (Unit {0}) Heard → ℕ
word_of s = slice_index s.words 0

-- how many rights to say it all passes have
abbrev pub all_rights : List Heard → ℕ
all_rights views = sum_by (λ (v : Heard). v.right) views

-- The rule: until it is said that no more batches come, one pass has the right to say so, and then none; and a pass
-- that was told so was told the truth.
pub record Ends (s : State (Unit {0}) Heard) : Type 0 where
  pub single : length s.words ≡ 1
  pub once : word_of s + all_rights s.views ≡ 1
  pub truly : (j : ℕ) (v : Heard) → get_elem? s.views j ≡ some v → 0 < v.told → word_of s ≡ 1

-- A pass as the table of the word has it.
abbrev pub Listener : Type 0
Listener = Me (Unit {0}) Heard

-- The reader's pass as it is opened, and another's, or what is left of one that was united.
abbrev pub first_heard : Heard
first_heard = record { right = 1; told = 0 }

abbrev pub other_heard : Heard
other_heard = record { right = 0; told = 0 }

-- Two passes together.
abbrev pub both_heard : Heard → Heard → Heard
both_heard v w = record { right = v.right + w.right; told = v.told + w.told }

-- It was said: the right to say it is used up.
abbrev pub HasSaid : Step (Unit {0}) → Listener → ℕ → Listener → Type 0
HasSaid st m n m' = m' ≡ (record { right = 0; told = 1 }, m.1)

-- A pass found the word to be n, 0 or 1: where n is 1 it was told, and has no right to say it; and it finds 1 where it
-- was told before.
abbrev pub HasHeard : Step (Unit {0}) → Listener → ℕ → Listener → Type 0
HasHeard st m n m' =
    (m' ≡ (record { right = m.0.right; told = n }, m.1)) × (n + m.0.right ≤ 1) × (0 < m.0.told → n ≡ 1)
