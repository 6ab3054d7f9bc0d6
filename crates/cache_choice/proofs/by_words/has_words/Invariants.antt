use Rattle.std.proofs.Common.{◌≡◌, ◌≤◌, take}
use Rattle.cache_choice.proofs.by_words.has_words.Given as goal

abbrev pub invariant-loop-k : goal.invariant-loop-k
invariant-loop-k l = record { low : l.k ≤ 5; same : take l.k l.content ≡ take l.k l.words }
