-- The code's own: records in buckets, and places in them. No law speaks of these.
use Rattle.std.specs.Prelude.{◌≡◌, ◌≢◌, ℕ, suc, ◌<◌, ◌≤◌, List, [], ◌∷◌, ◌++◌, Option, Some, None, slice_get, length, flat_map}
use Rattle.std.specs.Prelude.{option_and_then, nat_lt, nat_le, ◌&&◌, slice_index, count_by, filter, map, min, max}
use Rattle.std.specs.List.{AllZip, range_with_len}
use native.Mathlib.Decide.{dec_lt}
use Rattle.std.specs.Prelude.{All, IsPermutation, ⊤, ◌==◌, ◌+◌, ◌-◌, ◌*◌, ◌/◌, ◌%◌, ◌^◌, if◌then◌else◌}
use Rattle.std.specs.Option.{option_cmp}
use Rattle.std.specs.Ordering.{nat_cmp, ordering_then}
use Rattle.std.specs.declared.cmp.Ordering.{Ordering}
use Rattle.std.specs.declared.vec.Vec.{Vec}
use Rattle.std.specs.declared.alloc.Global.{Global}
use Rattle.flow_key.specs.Key.{set_number, key_order}
use Rattle.flow_key.specs.declared.key.FlowKey.{FlowKey}
use Rattle.flow_parts.specs.declared.fragment.Fragment.{Fragment}
use Rattle.flow_parts.specs.declared.timeouts.Timeouts.{Timeouts}
use Rattle.flow_parts.specs.Pieces.{items_of}
use Rattle.flow_parts.specs.Reaching.{Reaches}
use Rattle.record_ledger.specs.declared.record.FlowRecord.{FlowRecord}
use Rattle.record_ledger.specs.declared.place.Place.{Place}
use Rattle.record_ledger.specs.declared.dealing.Dealing.{Dealing}
use Rattle.record_ledger.specs.declared.dealing.Way.{Way}
use Rattle.record_ledger.specs.declared.dealing.Way.TheVariants.{Other, Stays, Moves}
use Rattle.record_ledger.specs.declared.store.Store.{Store}
use Rattle.record_ledger.specs.Gathered.{AreJoined}
use Rattle.record_ledger.specs.Lawful.{parts_of, reason_of}
use Rattle.record_ledger.specs.RecordWith.{record_where}
use Rattle.record_ledger.specs.Steps.{Rises, NotAfter, NoneJoinable, HasReasons}

abbrev pub Bucket : Type 0
Bucket = Vec FlowRecord Global

-- The records of some buckets, one bucket after the other.
abbrev pub records_of : List Bucket → List FlowRecord
records_of buckets = flat_map (λ (b : Bucket). b.items) buckets

-- Each record lies in the bucket that its key has among n buckets, where the first of these has the number i.
abbrev pub LieFrom : ℕ → ℕ → List Bucket → Type 0
LieFrom n i [] = ⊤
LieFrom n i (b ∷ buckets) = All (λ (r : FlowRecord). set_number r.part.key n ≡ i) b.items × LieFrom n (suc i) buckets

-- Each record lies in the bucket of its key.
abbrev pub AreByKey : List Bucket → Type 0
AreByKey buckets = LieFrom (length buckets) 0 buckets

-- The records of a bucket, sorted, joined and given their reasons.
pub record AreSettled (limits : Timeouts) (clock : ℕ) (before after : List FlowRecord) : Type 0 where
  pub reached : Reaches limits (parts_of before) (parts_of after)
  pub sorted : Rises NotAfter (parts_of after)
  pub apart : NoneJoinable limits (parts_of after)
  pub reasons : HasReasons limits clock after
  pub joined : AreJoined limits (parts_of before) (parts_of after)

-- The record at a place of a bucket, if there are both.
abbrev pub item_at : Option Bucket → ℕ → Option FlowRecord
item_at None at = None
item_at (Some b) at = slice_get b.items at

abbrev pub Piece : Type 0
Piece = Vec Fragment Global

-- The fragment at a place of a piece, if there are both.
abbrev pub part_of_piece : Option Piece → ℕ → Option Fragment
part_of_piece None at = None
part_of_piece (Some p) at = slice_get p.items at

-- The fragment at a place of some pieces, if there is one.
abbrev pub part_in : List Piece → Place → Option Fragment
part_in pieces place = part_of_piece (slice_get pieces place.bucket) place.at

-- The record of a fragment whose key no other has: its reason is that of a flow of which nothing follows.
abbrev pub alone_record : Timeouts → ℕ → Fragment → Option FlowRecord
alone_record limits clock part = record_where (reason_of limits clock part None)
    (dec_lt (reason_of limits clock part None) (2 ^ 8)) part

-- The record at a place of a store, if there is one: in a piece, or in a bucket, whose numbers are behind those of the
-- pieces.
abbrev pub record_at : Store → Place → Option FlowRecord
record_at store place = if nat_lt place.bucket (length store.pieces.items)
    then option_and_then (alone_record store.timeouts store.clock) (part_in store.pieces.items place)
    else item_at (slice_get store.buckets.items (place.bucket - length store.pieces.items)) place.at

-- The leading bits of a key's addresses as a number of 64 bits: of those of version 4 side by side in the lower half of
-- these numbers, of the source of version 6 in the upper half. No key comes before one whose number is less.
abbrev pub leading_number : FlowKey → ℕ
leading_number k = if k.version == 4 then (k.source * 2 ^ 32 + k.destination) / 2 else 2 ^ 63 + k.source / 2 ^ 65

-- The place is that of the record, with its last time and the leading number of its key.
pub record IsPlaceOf (store : Store) (r : FlowRecord) (place : Place) : Type 0 where
  pub here : record_at store place ≡ Some r
  pub last : place.last ≡ r.part.last
  pub leading : place.leading ≡ leading_number r.part.key

-- There is a record at the place.
abbrev pub IsPlace : Store → Place → Type 0
IsPlace store place = (r : FlowRecord) × (record_at store place ≡ Some r)

abbrev pub listed : Option FlowRecord → List FlowRecord
listed None = []
listed (Some r) = r ∷ []

-- The records at some places, in the order of these.
abbrev pub records_at : Store → List Place → List FlowRecord
records_at store order = flat_map (λ (place : Place). listed (record_at store place)) order

-- How two places stand by piece or bucket, then by place in it.
abbrev pub seat_order : Place → Place → Ordering
seat_order one other = ordering_then (nat_cmp one.bucket other.bucket) (nat_cmp one.at other.at)

-- How two places stand by the keys of their records, then by where they are.
abbrev pub record_order : Store → Place → Place → Ordering
record_order store one other = ordering_then
    (option_cmp (λ (r s : FlowRecord). key_order r.part.key s.part.key) (record_at store one)
    (record_at store other))
    (seat_order one other)

-- How two places stand: by their last times, then by the leading numbers of their records' keys, then by these keys,
-- then by where they are.
abbrev pub place_order : Store → Place → Place → Ordering
place_order store one other = ordering_then (nat_cmp one.last other.last) (ordering_then
    (nat_cmp one.leading other.leading) (record_order store one other))

-- Of the records of one key, none ends after a later one.
abbrev pub EndInTurn : List FlowRecord → Type 0
EndInTurn records = Rises (λ (r s : FlowRecord). r.part.key ≡ s.part.key → r.part.last ≤ s.part.last) records

-- The place is that of a fragment in pieces, with its last time and the leading number of its key.
pub record IsPartPlaceOf (pieces : List Piece) (f : Fragment) (place : Place) : Type 0 where
  pub here : part_in pieces place ≡ Some f
  pub last : place.last ≡ f.last
  pub leading : place.leading ≡ leading_number f.key

-- Fragments that are dealt: those at the places, none of which has the key of another fragment, stay in the pieces, and
-- the others lie in the buckets of their keys.
pub record AreDealt (parts : List Fragment) (pieces : List Piece) (order : List Place) (buckets : List Bucket)
    : Type 0 where
  pub alone : List Fragment
  pub whole : IsPermutation parts (alone ++ parts_of (records_of buckets))
  pub places : AllZip (IsPartPlaceOf pieces) alone order
  pub unlike : Rises (λ (f g : Fragment). f.key ≢ g.key) alone
  pub unlike_others : All (λ (f : Fragment). All (λ (r : FlowRecord). f.key ≢ r.part.key) (records_of buckets)) alone
  pub by_key : AreByKey buckets

-- The slot of a key, among so many: these share out the 32 bits of the hash behind `set_number`.
abbrev pub slot_number : FlowKey → ℕ → ℕ
slot_number key slots = set_number key (2 ^ 32) * slots / 2 ^ 32

-- How many of some fragments have this slot of so many.
abbrev pub count_in : ℕ → ℕ → List Fragment → ℕ
count_in slots slot parts = count_by (λ (f : Fragment). slot_number f.key slots == slot) parts

-- Each slot's count tells whether it has none of the fragments, and whether it has just one.
abbrev pub CountsSlots : List Fragment → List ℕ → Type 0
CountsSlots parts counts = (1 ≤ length counts) × ((slot : ℕ) → slot < length counts
    → (slice_index counts slot ≡ 0 → count_in (length counts) slot parts ≡ 0)
    × (slice_index counts slot ≡ 1 → count_in (length counts) slot parts ≡ 1))

-- The two bits at this place of an octet, as a number.
abbrev pub two_bits : ℕ → ℕ → ℕ
two_bits octet place = octet / 4 ^ place % 4

-- The counts of slots that lie in octets, four of them in each.
abbrev pub counts_of : List ℕ → List ℕ
counts_of packed = map (λ slot. two_bits (slice_index packed (slot / 4)) (slot % 4)) (range_with_len 0 (4 * length packed))

-- How many slots there are for so many fragments.
abbrev pub slots_for : ℕ → ℕ
slots_for fragments = min (max (fragments * 8) 4) (2 ^ 31) / 4 * 4

-- The counts of an octet tell of those of two octets together: where there is none, both have none, and where there is
-- one, they have one together.
abbrev pub AddUp : ℕ → ℕ → ℕ → Type 0
AddUp one other sum = (place : ℕ) → place < 4
    → (two_bits sum place ≡ 0 → two_bits one place + two_bits other place ≡ 0)
    × (two_bits sum place ≡ 1 → two_bits one place + two_bits other place ≡ 1)

-- The slot of a fragment has just one fragment, by these counts.
abbrev pub IsCountedAlone : List ℕ → Fragment → Type 0
IsCountedAlone counts f = (slot_number f.key (length counts) < length counts)
    × (slice_index counts (slot_number f.key (length counts)) ≡ 1)

-- The places of some lists, one list after the other.
abbrev pub places_of : List (Vec Place Global) → List Place
places_of lists = flat_map (λ (list : Vec Place Global). list.items) lists

-- The number of the share that has a time, where all shares but the last one end at these times: the first one that ends
-- behind it.
abbrev pub share_number : List ℕ → ℕ → ℕ
share_number [] time = 0
share_number (end ∷ ends) time = if nat_lt time end then 0 else suc (share_number ends time)

-- The marks of fragments: the number of the share of each.
abbrev pub marks_of : List ℕ → List Fragment → List ℕ
marks_of ends parts = map (λ (f : Fragment). share_number ends f.last) parts

-- Each piece has a list with the marks of its fragments.
abbrev pub AreMarked : List ℕ → List Piece → List (Vec ℕ Global) → Type 0
AreMarked ends pieces marks = AllZip (λ (piece : Piece) (list : Vec ℕ Global). list.items ≡ marks_of ends piece.items)
    pieces marks

-- The fragments whose last times a share has.
abbrev pub share_of : List ℕ → ℕ → List Fragment → List Fragment
share_of ends share parts = filter (λ (f : Fragment). share_number ends f.last == share) parts

-- The fragments of so many shares, the first ones.
abbrev pub first_shares : List ℕ → ℕ → List Fragment → List Fragment
first_shares ends count parts = filter (λ (f : Fragment). nat_lt (share_number ends f.last) count) parts

-- Each place lies in the list of its share, where the first of these has the number i.
abbrev pub SharedFrom : List ℕ → ℕ → List (Vec Place Global) → Type 0
SharedFrom ends i [] = ⊤
SharedFrom ends i (list ∷ lists) = All (λ (place : Place). share_number ends place.last ≡ i) list.items
    × SharedFrom ends (suc i) lists

-- There is a list for each share, and each place lies in that of its share.
abbrev pub AreShared : List ℕ → List (Vec Place Global) → Type 0
AreShared ends lists = (length lists ≡ length ends + 1) × SharedFrom ends 0 lists

-- What becomes of a fragment where those of one share are dealt: one of another share is left out, and one that stays is
-- alone in its slot.
abbrev pub IsWay : List ℕ → List ℕ → ℕ → Fragment → Way → Type 0
IsWay counts ends share f Other = share_number ends f.last ≢ share
IsWay counts ends share f Stays = (share_number ends f.last ≡ share) × IsCountedAlone counts f
IsWay counts ends share f Moves = share_number ends f.last ≡ share

-- Fragments of pieces as counts of slots deal them: those that stay, each alone in its slot, have their places in the one
-- list, and the others in the other list.
pub record AreDealtTo (counts : List ℕ) (pieces : List Piece) (parts : List Fragment) (dealing : Dealing) : Type 0 where
  pub alone : List Fragment
  pub others : List Fragment
  pub whole : IsPermutation parts (alone ++ others)
  pub places : AllZip (IsPartPlaceOf pieces) alone dealing.alone.items
  pub counted : All (IsCountedAlone counts) alone
  pub moved : AllZip (IsPartPlaceOf pieces) others dealing.moved.items

-- The fragments of so many shares, the first ones, as counts of slots deal them: those that stay, each alone in its slot,
-- have their places in the lists of their shares, and the others have theirs in other lists.
pub record AreDealings (counts ends : List ℕ) (pieces : List Piece) (count : ℕ) (lists moves : List (Vec Place Global))
    : Type 0 where
  pub alone : List Fragment
  pub others : List Fragment
  pub whole : IsPermutation (first_shares ends count (items_of pieces)) (alone ++ others)
  pub places : AllZip (IsPartPlaceOf pieces) alone (places_of lists)
  pub many : length lists ≡ count
  pub shared : SharedFrom ends 0 lists
  pub counted : All (IsCountedAlone counts) alone
  pub moved : AllZip (IsPartPlaceOf pieces) others (places_of moves)

-- The fragments whose buckets are among so many from the one numbered `first` on, of `count` in all.
abbrev pub parts_to : ℕ → ℕ → ℕ → List Fragment → List Fragment
parts_to count first many parts = filter (λ (f : Fragment). nat_le first (set_number f.key count)
    && nat_lt (set_number f.key count) (first + many)) parts

-- The places are those of some fragments in pieces.
abbrev pub ArePartPlaces : List Piece → List Place → Type 0
ArePartPlaces pieces places = (parts : List Fragment) × AllZip (IsPartPlaceOf pieces) parts places

-- Of the fragments at some places, those were moved to buckets from the one numbered `first` on, of `count` in all, that
-- belong to these.
pub record AreMovedTo (pieces : List Piece) (places : List Place) (count first : ℕ) (old new : List Bucket) : Type 0 where
  pub whole : (parts : List Fragment) → AllZip (IsPartPlaceOf pieces) parts places
      → IsPermutation (parts_to count first (length old) parts ++ parts_of (records_of old)) (parts_of (records_of new))
  pub by_key : LieFrom count first old → LieFrom count first new

-- The places of the records of the bucket with this number, from a place on.
abbrev pub places_from : ℕ → ℕ → List FlowRecord → List Place
places_from number at [] = []
places_from number at (r ∷ records) = record {
  last = r.part.last;
  leading = leading_number r.part.key;
  bucket = number;
  at = at;
} ∷ places_from number (suc at) records

-- The places of the records of all buckets, the first of which has this number.
abbrev pub bucket_places : ℕ → List Bucket → List Place
bucket_places number [] = []
bucket_places number (b ∷ buckets) = places_from number 0 b.items ++ bucket_places (suc number) buckets
