-- the hash of the words that were read
use Rattle.std.proofs.Common.{◌≡◌, fold, take}
use Rattle.flow_key.specs.Key.{mixed_hash}
use Rattle.flow_key.proofs.key.FlowKey.set_of.Given as goal

abbrev pub invariant-loop-word : goal.invariant-loop-word
invariant-loop-word l = l.hash ≡ fold mixed_hash 0 (take l.word-index l.word-items)
