-- What asking comes to.
use Rattle.std.specs.Prelude.{◌≡◌, ◌≤◌, ◌<◌, ◌%◌, ℕ, List, [], ◌∷◌, ◌++◌, length, take, map, slice_index_or, ⊤}
use Rattle.std.specs.Prelude.{All, IfOk, IsPermutation, flat_map}
use Rattle.flow_key.specs.declared.key.FlowKey.{FlowKey}
use Rattle.packet_accept.specs.declared.packet.Packet.{Packet}
use Rattle.flow_parts.specs.declared.fragment.Fragment.{Fragment}
use Rattle.flow_parts.specs.declared.timeouts.Timeouts.{Timeouts}
use Rattle.flow_parts.specs.Heap.{IsHeap}
use Rattle.cache_face.specs.Notes.{Note, note_seeing}
use Rattle.flow_cache.specs.declared.cache.PebrCache.{PebrCache}
use Rattle.flow_cache.specs.Shown.{IsOf, shown_of}
use Rattle.watch_program.specs.declared.answer.Answer.{Answer}
use Rattle.watch_program.specs.declared.answer.Answer.TheVariants.{Held, Absent, Lost}
use Rattle.watch_program.specs.declared.asking.Asking.{Asking}

-- A flow that was held has at least one packet, and its first time isn't after its last.
abbrev pub IsSound : Answer → Type 0
IsSound (Held flow) = (1 ≤ flow.packets) × (flow.first ≤ flow.last)
IsSound Absent = ⊤
IsSound Lost = ⊤

-- A flow that was held is the flow of the key.
abbrev pub IsOfKey : FlowKey → Answer → Type 0
IsOfKey key (Held flow) = flow.key ≡ key
IsOfKey key Absent = ⊤
IsOfKey key Lost = ⊤

-- The flow is that of some of these packets: they are a heap of it.
pub record IsOfSome (limits : Timeouts) (packets : List Packet) (flow : Fragment) : Type 0 where
  pub heap : List Packet
  pub others : List Packet
  pub all : IsPermutation packets (heap ++ others)
  pub is : IsHeap limits heap flow

abbrev pub IsOfPackets : Timeouts → List Packet → Answer → Type 0
IsOfPackets limits packets (Held flow) = IsOfSome limits packets flow
IsOfPackets limits packets Absent = ⊤
IsOfPackets limits packets Lost = ⊤

-- The flows that were held, in their order.
abbrev pub flow_in : Answer → List Fragment
flow_in (Held flow) = flow ∷ []
flow_in Absent = []
flow_in Lost = []

abbrev pub held_in : List Answer → List Fragment
held_in answers = flat_map flow_in answers

-- The note of the asker: it put nothing in, was handed nothing, and saw the flows that were held.
abbrev pub asker_note : List Fragment → Note
asker_note seen = record { seats = 1; taken = []; handed = []; seen = seen }

abbrev pub IsAsker : Note → Type 0
IsAsker note = note ≡ asker_note note.seen

-- The note after one more answer: a flow that was held was seen.
abbrev pub note_answered : Answer → Note → Note
note_answered (Held flow) note = note_seeing note flow
note_answered Absent note = note
note_answered Lost note = note

-- The number of asks: 0 where there is nothing to ask for.
abbrev pub count_of : {T : Type 0} → ℕ → List T → ℕ
count_of asks [] = 0
count_of asks (one ∷ more) = asks

-- The keys of some packets, in their order.
abbrev pub keys_in : List Packet → List FlowKey
keys_in packets = map (λ (p : Packet). p.key) packets

-- The keys that are asked for: those of the first `most` packets, or of all where there are fewer.
abbrev pub asked_keys : ℕ → List Packet → List FlowKey
asked_keys most packets = keys_in (take most packets)

-- The answers are to the keys in turn: answer k, counted from 0, is to key k modulo the number of keys.
abbrev pub AreInTurn : List FlowKey → List Answer → Type 0
AreInTurn keys answers =
    (k : ℕ) (key : FlowKey) (answer : Answer) → k < length answers
    → IsOfKey (slice_index_or keys (k % length keys) key) (slice_index_or answers k answer)

-- Answers to the keys in turn, by time-outs of 300 and 1800 seconds: a flow that was held is the flow of the key, and
-- that of some of the packets.
pub record AreAnswers (packets : List Packet) (keys : List FlowKey) (answers : List Answer) : Type 0 where
  pub limits : Timeouts
  pub idle : limits.idle ≡ 300000
  pub active : limits.active ≡ 1800000
  pub in_turn : AreInTurn keys answers
  pub each : All (IsOfPackets limits packets) answers

-- What came of so many asks through a cache for these keys: the pass put nothing in and was handed nothing, and what it
-- saw are the flows that were held. The answers, where there was room for them, are as many as the asks, sound and in
-- turn.
pub record HasAsked (cache : PebrCache) (keys : List FlowKey) (asks : ℕ) (asking : Asking) : Type 0 where
  pub own : IsOf cache asking.pass
  pub asker : IsAsker (shown_of asking.pass).note
  pub seen : IfOk asking.answers (λ answers. (shown_of asking.pass).note.seen ≡ held_in answers.items)
  pub many : IfOk asking.answers (λ answers. length answers.items ≡ count_of asks keys)
  pub sound : IfOk asking.answers (λ answers. All IsSound answers.items)
  pub in_turn : IfOk asking.answers (λ answers. AreInTurn keys answers.items)
