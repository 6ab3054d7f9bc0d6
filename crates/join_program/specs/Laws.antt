-- Laws about what inputs become: of joins of joins, of the order of inputs, of the shares of one join, and of what is
-- written.
use Rattle.std.specs.Prelude.{◌≡◌, ◌≢◌, ◌*◌, ℕ, suc, List, [], ◌∷◌, ◌++◌, length, Option, Some, None, All}
use Rattle.std.specs.Prelude.{IsPermutation}
use Rattle.std.specs.Prelude.{IsSorted, ⊤}
use Rattle.packet_accept.specs.declared.packet.Packet.{Packet}
use Rattle.flow_parts.specs.declared.timeouts.Timeouts.{Timeouts}
use Rattle.record_ledger.specs.declared.record.FlowRecord.{FlowRecord}
use Rattle.record_ledger.specs.Order.{written_order}
use Rattle.record_ledger.specs.Sessions.{IsSessions, IsUncut}
use Rattle.join_program.specs.Words.{Asked}
use Rattle.join_program.specs.Joined.{together, EachSharesOut, AreJoined, IsAnswer}

-- The other command asks for all records, with the same time-outs.
pub record AsksForAll (asked other : Asked) : Type 0 where
  pub idle : other.idle ≡ asked.idle
  pub active : other.active ≡ asked.active
  pub all : other.share ≡ None

-- ---- all shares of one join

-- The same command for the share `number` of `count` shares.
abbrev pub of_share : Asked → ℕ → ℕ → Asked
of_share asked count number = record {
  idle = asked.idle;
  active = asked.active;
  size = asked.size;
  share = Some (record { number = number; count = count });
  files = asked.files;
}

-- Each of the lists is what the inputs become for one share of `count`: the first list for the share `number`, and each
-- further list for the next share.
abbrev pub AreSharesFrom : Asked → List (List FlowRecord) → ℕ → ℕ → List (List FlowRecord) → Type 0
AreSharesFrom asked inputs count number [] = ⊤
AreSharesFrom asked inputs count number (share ∷ shares) =
    ((clock : Option ℕ) × AreJoined (of_share asked count number) inputs clock share)
    × AreSharesFrom asked inputs count (suc number) shares

-- The lists are what the inputs become for all the shares, a list for each share, from the first to the last.
abbrev pub AreShares : Asked → List (List FlowRecord) → List (List FlowRecord) → Type 0
AreShares asked inputs shares = (shares ≢ []) × AreSharesFrom asked inputs (length shares) 1 shares

-- All shares of one join together, in the written order, are what the inputs become without a share.
abbrev pub SharesAreWhole : Type 0
SharesAreWhole = (asked : Asked) (inputs shares : List (List FlowRecord)) (whole : List FlowRecord)
    → asked.share ≡ None → AreShares asked inputs shares
    → IsPermutation (together shares) whole → IsSorted written_order whole
    → (clock : Option ℕ) × AreJoined asked inputs clock whole

-- Whatever the shares become when they are joined is what the inputs become.
abbrev pub SharesAreJoined : Type 0
SharesAreJoined = (asked : Asked) (inputs shares : List (List FlowRecord)) (clock : Option ℕ)
    (records : List FlowRecord) → AreShares asked inputs shares → AreJoined asked shares clock records
    → AreJoined asked inputs clock records

-- ---- joins of joins

-- The streams of the second list come from those of the first by joins, in whatever grouping and order: by permuting
-- streams, by joining some of them to one, and by joining some of them to all the shares of one join, always with the
-- time-outs asked for.
pub data ComeOf (asked : Asked) : List (List FlowRecord) → List (List FlowRecord) → Type 0 where
  moved : (inputs others : List (List FlowRecord)) → IsPermutation inputs others → ComeOf asked inputs others
  joined : (other : Asked) (inputs rest : List (List FlowRecord)) (clock : Option ℕ) (records : List FlowRecord)
      → AsksForAll asked other → AreJoined other inputs clock records → ComeOf asked (inputs ++ rest) (records ∷ rest)
  parted : (inputs rest shares : List (List FlowRecord)) → AreShares asked inputs shares
      → ComeOf asked (inputs ++ rest) (shares ++ rest)
  onward : (inputs others streams : List (List FlowRecord)) → ComeOf asked inputs others → ComeOf asked others streams
      → ComeOf asked inputs streams

-- Inputs in another order become the same.
abbrev pub OrderIsFree : Type 0
OrderIsFree = (asked : Asked) (inputs others : List (List FlowRecord)) (clock : Option ℕ) (records : List FlowRecord)
    → IsPermutation inputs others → AreJoined asked inputs clock records → AreJoined asked others clock records

-- A join of a join is a join: where the first inputs became one stream, whatever this stream and the rest become is
-- what all the inputs become.
abbrev pub JoinsAreJoined : Type 0
JoinsAreJoined = (asked other : Asked) (first rest : List (List FlowRecord)) (now clock : Option ℕ)
    (stream records : List FlowRecord) → AsksForAll asked other → AreJoined other first now stream
    → AreJoined asked (stream ∷ rest) clock records → AreJoined asked (first ++ rest) clock records

-- The same for any joins of joins: where streams come from inputs by joins, whatever the streams become is what the
-- inputs become.
abbrev pub AnyAreJoined : Type 0
AnyAreJoined = (asked : Asked) (inputs streams : List (List FlowRecord)) (clock : Option ℕ) (records : List FlowRecord)
    → ComeOf asked inputs streams → AreJoined asked streams clock records → AreJoined asked inputs clock records

-- Where streams come from inputs by joins, what is written for the streams is an answer to joining the inputs.
abbrev pub AnyAreAnswered : Type 0
AnyAreAnswered = (asked : Asked) (inputs streams : List (List FlowRecord)) (written : List ℕ)
    → ComeOf asked inputs streams → IsAnswer asked streams written → IsAnswer asked inputs written

-- ---- one text

-- Where nothing cuts the sessions of the packets, there is one answer by the same time-outs and size of messages, in
-- whatever way the packets were cut into captures and their records shared among streams.
abbrev pub AnswerIsOne : Type 0
AnswerIsOne = (asked other : Asked) (limits : Timeouts) (inputs others : List (List FlowRecord))
    (packets dealt sessions : List (List Packet)) (one text : List ℕ)
    → limits.idle ≡ 1000 * asked.idle → limits.active ≡ 1000 * asked.active → asked.share ≡ None
    → AsksForAll asked other → other.size ≡ asked.size
    → EachSharesOut limits packets inputs → EachSharesOut limits dealt others
    → IsPermutation (together packets) (together dealt)
    → IsSessions limits.idle (together packets) sessions → All (IsUncut limits) sessions
    → IsAnswer asked inputs one → IsAnswer other others text → one ≡ text
