-- The code's own: what the short lists of a seat say of each slot of the table.
use Rattle.std.specs.Prelude.{◌≡◌, ℕ, ◌+◌, ◌<◌, ◌≤◌, nat_lt, not, if◌then◌else◌, Bool, true, false, List, [], ◌∷◌}
use Rattle.std.specs.Prelude.{Option, map, length, count_by, cond, ◌==◌, slice_index}
use Rattle.std.specs.List.{range_with_len, list_all}
use Rattle.pebr_core.specs.declared.kinds.Retired.{Retired}
use Rattle.pebr_core.specs.declared.kinds.Retired.TheVariants as retire
use Rattle.pebr_slots.specs.declared.tagged.TaggedSlot.{TaggedSlot}
use Rattle.pebr_slots.specs.Sets.{Sets, is_above}

-- how often a list has a slot
abbrev pub times : ℕ → List ℕ → ℕ
times slot slots = count_by (λ other. other == slot) slots

abbrev pub is_in : ℕ → List ℕ → Bool
is_in slot slots = nat_lt 0 (times slot slots)

-- the slots fall, so the least is the last
abbrev pub AreFalling : List ℕ → Type 0
AreFalling slots = (i j : ℕ) → i ≤ j → j < length slots → slice_index slots j ≤ slice_index slots i

abbrev pub slots_of : List TaggedSlot → List ℕ
slots_of tagged = map (λ entry. entry.slot) tagged

-- an entry as a Note makes it
abbrev pub tagged_with : ℕ → ℕ → TaggedSlot
tagged_with epoch slot = record { slot = slot; tag = epoch; kept = false }

abbrev pub is_kept : TaggedSlot → Bool
is_kept entry = entry.kept

-- a Give makes it fresh
abbrev pub is_given : TaggedSlot → Bool
is_given entry = not entry.kept

abbrev pub unkept_entry : TaggedSlot → TaggedSlot
unkept_entry entry = record entry { kept = false }

-- the entry of a slot on which a shield was found
abbrev pub kept_at : ℕ → TaggedSlot → TaggedSlot
kept_at slot entry = record entry { kept = if entry.slot == slot then true else entry.kept }

-- the value of a slot's entry, and another where it has none
abbrev pub value_found : {A : Type 0} → (TaggedSlot → A) → A → List TaggedSlot → ℕ → A
value_found value none [] slot = none
value_found value none (entry ∷ entries) slot = if entry.slot == slot then value entry
    else value_found value none entries slot

abbrev pub retired_as : List ℕ → List TaggedSlot → ℕ → Retired
retired_as untagged tagged slot = if is_in slot untagged then retire.Untagged
    else value_found (λ entry. retire.Tagged entry.tag) retire.No tagged slot

-- the sets of a table with so many slots
abbrev pub sets_of : ℕ → ℕ → List ℕ → List ℕ → List TaggedSlot → Sets
sets_of slots room fresh untagged tagged = record {
  fresh = map (λ slot. is_in slot fresh) (range_with_len 0 slots);
  retired = map (retired_as untagged tagged) (range_with_len 0 slots);
  kept = map (value_found is_kept false tagged) (range_with_len 0 slots);
  room = room;
}

-- Each list has slots of the table alone, each slot stands at most once in all of them, and together they have as many
-- as there is room for.
pub record AreApart (slots room : ℕ) (fresh untagged : List ℕ) (tagged : List TaggedSlot) : Type 0 where
  pub once : (slot : ℕ) → times slot fresh + times slot untagged + times slot (slots_of tagged)
      ≤ cond (nat_lt slot slots) 1 0
  pub many : length fresh + length untagged + length tagged ≡ room

-- this is the newest tag
abbrev pub IsNewest : Option ℕ → List TaggedSlot → Type 0
IsNewest newest tagged = (epoch : ℕ) → list_all (λ entry. nat_lt entry.tag epoch) tagged ≡ is_above newest epoch

-- without the sign that some may be kept, none is
abbrev pub IsSignOf : Bool → List TaggedSlot → Type 0
IsSignOf some_kept tagged = some_kept ≡ false → map unkept_entry tagged ≡ tagged
