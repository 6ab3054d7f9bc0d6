-- The total of what a cache gave of a capture.
use Rattle.std.proofs.Common.{◌≡◌, ℕ, List, ◌++◌, length, sum_by, Option, Some, None, sym, ap, ◌∙◌, subst, append-nil}
use Rattle.std.specs.Prelude.{IsPermutation, IsSomeAnd}
use Rattle.std.proofs.lemmas.List.Sorted.{IsPermutation-refl}
use Rattle.pcap_reader.specs.File.{CaptureFile, IsCaptureOf, capture_file}
use Rattle.pcap_reader.proofs.OneKind.{and-so}
use Rattle.packet_accept.specs.Packets.{answers_of, packets_of}
use Rattle.packet_accept.specs.declared.packet.Packet.{Packet}
use Rattle.flow_parts.specs.declared.fragment.Fragment.{Fragment}
use Rattle.flow_parts.specs.declared.timeouts.Timeouts.{Timeouts}
use Rattle.flow_parts.specs.Laws.{CountsAll}
use Rattle.flow_parts.specs.Sharing.{SharesOut}
use Rattle.capture_tally.specs.declared.tally.Tally.{Tally}
use Rattle.capture_tally.specs.Tallies.{IsTallyOf, octets_of}
use Rattle.cache_face.specs.Meaning.{PassMeans, IsUnited}
use Rattle.cache_face.specs.Notes.{Note}
use Rattle.watch_program.specs.Answers.{IsAsker}

-- the fragments have the packets and the octets of the file
abbrev pub HasCounts : List Fragment → CaptureFile → Type 0
HasCounts parts file =
    (sum_by (λ (f : Fragment). f.packets) parts ≡ length (packets_of file))
    × (sum_by (λ (f : Fragment). f.octets) parts ≡ octets_of (packets_of file))

-- what was handed out is that of the pass which did something
pub handed-same : (parts : List Fragment) (one other both : PassMeans) → IsUnited one other both
    → IsAsker other.note
    → parts ≡ one.note.handed → IsPermutation parts both.note.handed
handed-same parts one other both united none are =
    let same : both.note.handed ≡ one.note.handed =
    ap (λ (n : Note). n.handed) united.0 ∙ ap (λ (n : Note). one.note.handed ++ n.handed) none
    ∙ append-nil one.note.handed in
    subst (IsPermutation parts) (are ∙ sym same) (IsPermutation-refl parts)

-- what the cache gave has the packets and the octets of the capture whose packets were shared out by what was put in
pub counted : (bytes : List ℕ) (limits : Timeouts) (one other both : PassMeans) (metered parts : List Fragment)
    → CountsAll → IsUnited one other both → IsAsker other.note
    → IsCaptureOf (λ file. SharesOut limits (packets_of file) one.note.taken) bytes
    → ((packets : List Packet) → SharesOut limits packets both.note.taken → SharesOut limits packets metered)
    → parts ≡ metered → IsCaptureOf (HasCounts parts) bytes
counted bytes limits one other both metered parts counts united none all shared are =
    let same : both.note.taken ≡ one.note.taken =
    ap (λ (n : Note). n.taken) united.0 ∙ ap (λ (n : Note). one.note.taken ++ n.taken) none
    ∙ append-nil one.note.taken in
    and-so (capture_file bytes) (λ file. SharesOut limits (packets_of file) one.note.taken) (HasCounts parts) all
    (λ file is. counts limits (packets_of file) parts
    (subst (SharesOut limits (packets_of file)) (sym are)
    (shared (packets_of file) (subst (SharesOut limits (packets_of file)) (sym same) is))))

tallied-at : (o : Option CaptureFile) (parts : List Fragment) (tally : Tally) → IsSomeAnd o (HasCounts parts)
    → IsSomeAnd o (λ file. IsTallyOf tally (answers_of file))
    → (sum_by (λ (f : Fragment). f.packets) parts ≡ tally.accepted)
    × (sum_by (λ (f : Fragment). f.octets) parts ≡ tally.octets)
tallied-at None parts tally has is = absurd has
tallied-at (Some file) parts tally has is = (has.0 ∙ sym is.accepted, has.1 ∙ sym is.octets)

-- and those of its tally
pub tallied : (bytes : List ℕ) (parts : List Fragment) (tally : Tally) → IsCaptureOf (HasCounts parts) bytes
    → IsCaptureOf (λ file. IsTallyOf tally (answers_of file)) bytes
    → (sum_by (λ (f : Fragment). f.packets) parts ≡ tally.accepted)
    × (sum_by (λ (f : Fragment). f.octets) parts ≡ tally.octets)
tallied bytes parts tally has is = tallied-at (capture_file bytes) parts tally has is
