-- One more data record of a file.
use Rattle.std.proofs.Common.{◌≡◌, ◌+◌, ◌-◌, ◌≤◌, ◌^◌, min, ℕ, Bool, true, false, List, [], ◌∷◌, ◌++◌, length, Option}
use Rattle.std.proofs.Common.{Some}
use Rattle.std.proofs.Common.{None, Ok, sym, subst, arith, append_assoc, append-nil, length-append, refl, ◌∙◌}
use Rattle.record_ledger.specs.declared.record.FlowRecord.{FlowRecord}
use Rattle.ipfix_model.specs.declared.values.DataRecord.{DataRecord}
use Rattle.ipfix_reader.specs.Flows.{flow}
use Rattle.ipfix_reader.specs.Taking.{HasFlows}
use Rattle.ipfix_reader.specs.Flows.{flows_of}
use Rattle.ipfix_reader.specs.Messages.{decode}
use Rattle.ipfix_reader.specs.Others.{HasOther, IsFirstOther}
use Rattle.ipfix_reader.proofs.FlowLists.{flows-more, flows-other, flows-behind, first-other, flows-whole}
use Rattle.meter_io.specs.Sides.{Side, IsRead, IsWrong}
use Rattle.stream_input.specs.declared.error.StreamInputError.{StreamInputError}
use Rattle.stream_input.specs.declared.error.StreamInputError.TheVariants.{ReadFault as SourceFailed}
use Rattle.stream_input.specs.declared.error.StreamInputError.TheVariants.{TooLarge as MoreBytes}
use Rattle.stream_input.specs.declared.error.StreamInputError.TheVariants.{NotStream as OtherBytes}
use Rattle.stream_input.specs.declared.error.StreamInputError.TheVariants.{NoMemory as NoRoom}
use Rattle.stream_input.specs.Failing.{ReadFails}
use Rattle.join_program.specs.Outcome.{HasTooMany}
use Rattle.join_program.specs.declared.taken.Taken.{Taken}
use Rattle.join_program.specs.Joined.{AreFew}
use Rattle.join_program.specs.Filed.{IsFiled, HasBegun, HasGivenAll, TakingFails, error_for}
use Rattle.join_program.specs.Taking.{IsTaken}
use Rattle.join_program.specs.Words.{OneOf}
use Rattle.join_program.proofs.Counts.{few-front}

both : {A : Type 0} (b : Bool) → b ≡ true → b ≡ false → A
both b set unset = absurd (let e : true ≡ false = sym set ∙ unset in cc)

module _ (begun : List FlowRecord → Type 0) (share : Option OneOf) where
  -- nothing of it yet
  pub filed-none : (taken : Taken) → ((before : List FlowRecord) → begun before → IsTaken share before taken)
      → IsFiled begun share taken 0 false false []
  filed-none taken told = record {
    flows = [];
    are = refl;
    counted = refl;
    few = λ none before is. subst (λ l. IsTaken share l taken) (sym (append-nil before)) (told before is);
    many = λ set. both false set refl;
  }

  module _ (records : List DataRecord) (one : DataRecord) where
    -- after a record that isn't a flow record
    pub filed-behind : (taken : Taken) (count : ℕ) (other many : Bool) → other ≡ true
        → IsFiled begun share taken count other many records
        → IsFiled begun share taken count other many (records ++ one ∷ [])
    filed-behind taken count other many set h = record {
      flows = h.flows;
      are = subst (λ b. HasFlows h.flows b (records ++ one ∷ [])) (sym set)
          (flows-behind records h.flows one (subst (λ b. HasFlows h.flows b records) set h.are));
      counted = h.counted;
      few = h.few;
      many = h.many;
    }

    -- such a record
    pub filed-other : (taken : Taken) (count : ℕ) (other many : Bool) → other ≡ false → flow one ≡ None
        → IsFiled begun share taken count other many records
        → IsFiled begun share taken count true many (records ++ one ∷ [])
    filed-other taken count other many unset is h = record {
      flows = h.flows;
      are = flows-other records h.flows one (subst (λ b. HasFlows h.flows b records) unset h.are) is;
      counted = h.counted;
      few = h.few;
      many = h.many;
    }

    module _ (found : FlowRecord) (is : flow one ≡ Some found) (count more : ℕ)
        (one_more : more ≡ min (count + 1) (2 ^ 64 - 1)) where
      front : (before flows : List FlowRecord) → AreFew share (before ++ (flows ++ found ∷ []))
          → AreFew share ((before ++ flows) ++ found ∷ [])
      front before flows few = subst (AreFew share) (sym (append_assoc before flows (found ∷ []))) few

      -- a flow record behind too many
      pub filed-many : (taken : Taken) (many : Bool) → many ≡ true → IsFiled begun share taken count false many records
          → IsFiled begun share taken more false many (records ++ one ∷ [])
      filed-many taken many set h = record {
        flows = h.flows ++ found ∷ [];
        are = flows-more records h.flows one found h.are is;
        counted = (let so_far = h.counted in omega (arith, one_more, length-append h.flows (found ∷ [])));
        few = λ unset. both many set unset;
        many = λ _ before told few. h.many set before told
            (few-front share (before ++ h.flows) (found ∷ []) (front before h.flows few));
      }

      -- one that is taken
      pub filed-taken : (taken next : Taken) (many : Bool) → many ≡ false
          → ((flows : List FlowRecord) → IsTaken share flows taken → IsTaken share (flows ++ found ∷ []) next)
          → IsFiled begun share taken count false many records
          → IsFiled begun share next more false many (records ++ one ∷ [])
      filed-taken taken next many unset step h = record {
        flows = h.flows ++ found ∷ [];
        are = flows-more records h.flows one found h.are is;
        counted = (let so_far = h.counted in omega (arith, one_more, length-append h.flows (found ∷ [])));
        few = λ _ before told. subst (λ l. IsTaken share l next) (append_assoc before h.flows (found ∷ []))
            (step (before ++ h.flows) (h.few unset before told));
        many = λ set. both many set unset;
      }

      -- one that is too many
      pub filed-over : (taken next : Taken) (many : Bool) → many ≡ false
          → ((flows : List FlowRecord) → IsTaken share flows taken → ¬ AreFew share (flows ++ found ∷ []))
          → IsFiled begun share taken count false many records
          → IsFiled begun share next more false true (records ++ one ∷ [])
      filed-over taken next many unset over h = record {
        flows = h.flows ++ found ∷ [];
        are = flows-more records h.flows one found h.are is;
        counted = (let so_far = h.counted in omega (arith, one_more, length-append h.flows (found ∷ [])));
        few = λ false_is. both true refl false_is;
        many = λ _ before told few. over (before ++ h.flows) (h.few unset before told) (front before h.flows few);
      }

-- ---- a whole file

-- what was taken at its beginning
pub begins : (start : Option Taken) (share : Option OneOf) (taken : Taken) → start ≡ Some taken
    → (before : List FlowRecord) → HasBegun start share before → IsTaken share before taken
begins start share taken is before told = subst (λ o. HasBegun o share before) is told

-- why the records of a file aren't taken, where it wasn't read as a stream
pub unread : (share : Option OneOf) (before : List FlowRecord) (file : Side) (error : StreamInputError)
    → ReadFails 4294967296 file error → TakingFails share before file (error_for error)
unread share before file SourceFailed h = h
unread share before file MoreBytes h = h
unread share before file (OtherBytes fault) h = h
unread share before file NoRoom h = tt

-- a file that was read, and what is kept of its records
module _ (begun : List FlowRecord → Type 0) (share : Option OneOf) (taken : Taken) (count : ℕ) (other many : Bool)
    (file : Side) (bytes : List ℕ) (read : IsRead file 4294967296 bytes) (records : List DataRecord)
    (h : IsFiled begun share taken count other many records) (decoded : decode bytes ≡ Ok records) where
  -- the place of the first other record: there are no more records than bytes, so it was counted to the end
  pub has_other : length records ≤ length bytes → other ≡ true → IsWrong file 4294967296 (HasOther count)
  has_other few set =
      let found = first-other records h.flows (subst (λ b. HasFlows h.flows b records) set h.are) in
      let counted : count ≡ length h.flows =
      let counted' = h.counted in
      let inside = found.inside in
      let within = read.within in
      omega (arith, few) in
      record {
        bytes = bytes;
        read = read;
        fault =
            (records, decoded, subst (IsFirstOther records) (sym counted) found);
      }

  all_flows : other ≡ false → flows_of bytes ≡ Some h.flows
  all_flows unset =
      flows-whole bytes records h.flows decoded (subst (λ b. HasFlows h.flows b records) unset h.are)

  pub too_many : other ≡ false → many ≡ true → (before : List FlowRecord) → begun before
      → IsWrong file 4294967296 (HasTooMany share before)
  too_many unset set before told =
      record { bytes = bytes; read = read; fault = (h.flows, all_flows unset, h.many set before told) }

  pub given : other ≡ false → many ≡ false → (flows : List FlowRecord) × HasGivenAll file flows
      × ((before : List FlowRecord) → begun before → IsTaken share (before ++ flows) taken)
  given unset unset' = (h.flows, (bytes, read, all_flows unset), h.few unset')
