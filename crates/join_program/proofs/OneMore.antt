-- What is taken, with one more record.
use Rattle.std.proofs.Common.{◌≡◌, ℕ, ◌+◌, ◌<◌, ◌^◌, max, true, false, List, [], ◌∷◌, ◌++◌, Option, Some, sym}
use Rattle.std.proofs.Common.{ap, ◌∙◌, subst, arith, sum_by, unwrap_or, ◌≤◌}
use Rattle.record_ledger.specs.declared.record.FlowRecord.{FlowRecord}
use Rattle.join_program.specs.declared.taken.Taken.{Taken}
use Rattle.join_program.specs.Words.{OneOf}
use Rattle.join_program.specs.Joined.{falls_to, AreFew, IsLatest}
use Rattle.join_program.specs.Taking.{IsTaken}
use Rattle.join_program.proofs.Counts.{packets_in, octets_in, kept-taken, kept-left, packets-taken, octets-taken}
use Rattle.join_program.proofs.Counts.{latest-more}

module _ (share : Option OneOf) (flows : List FlowRecord) (f : FlowRecord) (old new : Taken) (had most : ℕ)
    (had_is : had ≡ unwrap_or old.clock 0) (most_is : most ≡ max had f.part.last) (clock : new.clock ≡ Some most)
    (taken : IsTaken share flows old) where
  later : IsLatest (flows ++ f ∷ []) new.clock
  later = subst (IsLatest (flows ++ f ∷ []))
      (ap Some (ap (λ n. max n f.part.last) (sym had_is) ∙ sym most_is) ∙ sym clock)
      (latest-more flows f old.clock taken.clock)

  pub left_out : falls_to share f.part.key ≡ false → new.parts ≡ old.parts → new.packets ≡ old.packets
      → new.octets ≡ old.octets → IsTaken share (flows ++ f ∷ []) new
  left_out falls parts packets octets =
      let same = kept-left share flows f falls in
      record {
        parts = parts ∙ taken.parts ∙ sym same;
        packets = packets ∙ taken.packets ∙ ap (sum_by packets_in) (sym same);
        octets = octets ∙ taken.octets ∙ ap (sum_by octets_in) (sym same);
        clock = later;
        few = record {
          packets = subst (λ l. sum_by packets_in l < 2 ^ 64) (sym same) taken.few.packets;
          octets = subst (λ l. sum_by octets_in l < 2 ^ 64) (sym same) taken.few.octets;
        };
      }

  pub taken_in : falls_to share f.part.key ≡ true → new.parts ≡ old.parts ++ f.part ∷ []
      → new.packets ≡ old.packets + f.part.packets → old.packets + f.part.packets < 2 ^ 64
      → new.octets ≡ old.octets + f.part.octets → old.octets + f.part.octets < 2 ^ 64
      → IsTaken share (flows ++ f ∷ []) new
  taken_in falls parts packets fits octets fit =
      let all = packets-taken share flows f falls in
      let each = octets-taken share flows f falls in
      let so_far = taken.packets in
      let so_many = taken.octets in
      record {
        parts = parts ∙ ap (λ l. l ++ f.part ∷ []) taken.parts ∙ sym (kept-taken share flows f falls);
        packets = omega arith;
        octets = omega arith;
        clock = later;
        few = record { packets = omega arith; octets = omega arith };
      }

-- too many with one more
module _ (share : Option OneOf) (flows : List FlowRecord) (f : FlowRecord) (old : Taken)
    (taken : IsTaken share flows old) (falls : falls_to share f.part.key ≡ true) where
  pub many_packets : 2 ^ 64 ≤ old.packets + f.part.packets → AreFew share (flows ++ f ∷ []) → ⊥
  many_packets many few = absurd (let all = packets-taken share flows f falls in let so_far = taken.packets in
      let fits = few.packets in omega arith)

  pub many_octets : 2 ^ 64 ≤ old.octets + f.part.octets → AreFew share (flows ++ f ∷ []) → ⊥
  many_octets many few = absurd (let all = octets-taken share flows f falls in let so_far = taken.octets in
      let fits = few.octets in omega arith)
