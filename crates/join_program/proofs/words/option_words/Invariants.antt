-- The count so far and the option words among those that are left make the count of all.
use Rattle.std.proofs.Common.{◌≡◌, ◌+◌, ◌-◌, ◌≤◌, drop, map, length, false}
use Rattle.std.specs.String.{string_bytes}
use Rattle.join_program.specs.Words.{option_words}
use Rattle.join_program.proofs.words.option_words.Given as goal

abbrev pub invariant-loop-count : goal.invariant-loop-count
invariant-loop-count l = record {
  within : l.count ≤ length l.words;
  all : l.count + option_words l.waiting (map string_bytes (drop l.count l.words))
      ≡ option_words false (map string_bytes l.words);
}

abbrev pub decreases-loop-count : goal.decreases-loop-count
decreases-loop-count l = length l.words - l.count
