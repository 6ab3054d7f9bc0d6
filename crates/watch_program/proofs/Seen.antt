-- The flows that were held are flows of some of the packets.
use Rattle.std.proofs.Common.{◌≡◌, ◌<◌, ℕ, zero, suc, false, arith, List, [], ◌∷◌, ◌++◌, flat_map, All, sym, ap, ◌∙◌}
use Rattle.std.proofs.Common.{subst, append-nil}
use Rattle.std.specs.List.{AllZip}
use Rattle.std.specs.Prelude.{IsPermutation, ◌==◌}
use Rattle.std.proofs.lemmas.Grind.{flat_map-append}
use Rattle.std.proofs.lemmas.List.Elements.{All-nil, All-cons, All-head, All-tail, All-weaker}
use Rattle.pcap_reader.specs.File.{IsCaptureOf, capture_file}
use Rattle.pcap_reader.proofs.OneKind.{and-so}
use Rattle.packet_accept.specs.Packets.{packets_of}
use Rattle.packet_accept.specs.declared.packet.Packet.{Packet}
use Rattle.flow_parts.specs.declared.fragment.Fragment.{Fragment}
use Rattle.flow_parts.specs.declared.timeouts.Timeouts.{Timeouts}
use Rattle.flow_parts.specs.Heap.{IsHeap}
use Rattle.flow_parts.specs.Sharing.{SharesOut}
use Rattle.flow_parts.proofs.Reaching.{shared}
use Rattle.cache_face.specs.Keeping.{IsBorne}
use Rattle.cache_face.specs.Meaning.{PassMeans, IsUnited}
use Rattle.cache_face.specs.Notes.{Note}
use Rattle.watch_program.specs.declared.answer.Answer.{Answer}
use Rattle.watch_program.specs.declared.answer.Answer.TheVariants.{Held, Absent, Lost}
use Rattle.watch_program.specs.Answers.{IsOfSome, IsOfPackets, IsAsker, note_answered, flow_in, held_in}

-- the first of some fragments that share out packets has a heap among them
first_heap : (limits : Timeouts) (packets : List Packet) (part : Fragment) (parts : List Fragment)
    (heaps : List (List Packet)) → IsPermutation packets (flat_map (λ (heap : List Packet). heap) heaps)
    → AllZip (IsHeap limits) heaps (part ∷ parts) → IsOfSome limits packets part
first_heap limits packets part parts [] whole each = absurd each
first_heap limits packets part parts (heap ∷ heaps) whole each = record {
  heap = heap;
  others = flat_map (λ (heap : List Packet). heap) heaps;
  all = whole;
  is = each.0;
}

-- so has what is borne out by fragments that share them out
of_some : (limits : Timeouts) (packets : List Packet) (taken : List Fragment) (part : Fragment)
    → SharesOut limits packets taken → IsBorne limits taken part → IsOfSome limits packets part
of_some limits packets taken part shares borne =
    let out = shared limits packets taken (part ∷ borne.0) borne.1 shares in
    first_heap limits packets part borne.0 out.heaps out.whole out.each

behind : {A : Type 0} (P : A → Type 0) (xs ys : List A) → All P (xs ++ ys) → All P ys
behind P [] ys all = all
behind P (x ∷ xs) ys all = behind P xs ys (All-tail P x (xs ++ ys) all)

-- what the asker saw are flows of packets that were shared out by what was put in
pub seen-of : (bytes : List ℕ) (limits : Timeouts) (one other both : PassMeans) → IsUnited one other both
    → IsAsker other.note
    → IsCaptureOf (λ file. SharesOut limits (packets_of file) one.note.taken) bytes
    → All (IsBorne limits both.note.taken) both.note.seen
    → IsCaptureOf (λ file. All (IsOfSome limits (packets_of file)) other.note.seen) bytes
seen-of bytes limits one other both united asker all borne =
    let taken : both.note.taken ≡ one.note.taken =
    ap (λ (n : Note). n.taken) united.0 ∙ ap (λ (n : Note). one.note.taken ++ n.taken) asker
    ∙ append-nil one.note.taken in
    let seen : both.note.seen ≡ one.note.seen ++ other.note.seen = ap (λ (n : Note). n.seen) united.0 in
    let own : All (IsBorne limits one.note.taken) other.note.seen =
    behind (IsBorne limits one.note.taken) one.note.seen other.note.seen
    (subst (All (IsBorne limits one.note.taken)) seen
    (subst (λ ts. All (IsBorne limits ts) both.note.seen) taken borne)) in
    and-so (capture_file bytes) (λ file. SharesOut limits (packets_of file) one.note.taken)
    (λ file. All (IsOfSome limits (packets_of file)) other.note.seen) all
    (λ file is. All-weaker (IsBorne limits one.note.taken) (IsOfSome limits (packets_of file))
    (λ part. of_some limits (packets_of file) one.note.taken part is) other.note.seen own)

-- so is each answer
pub each-of : (limits : Timeouts) (packets : List Packet) (answers : List Answer)
    → All (IsOfSome limits packets) (held_in answers) → All (IsOfPackets limits packets) answers
each-of limits packets [] all = All-nil (IsOfPackets limits packets)
each-of limits packets (Held flow ∷ answers) all =
    All-cons (IsOfPackets limits packets) (Held flow) answers
    (All-head (IsOfSome limits packets) flow (held_in answers) all)
    (each-of limits packets answers (All-tail (IsOfSome limits packets) flow (held_in answers) all))
each-of limits packets (Absent ∷ answers) all =
    All-cons (IsOfPackets limits packets) Absent answers tt (each-of limits packets answers all)
each-of limits packets (Lost ∷ answers) all =
    All-cons (IsOfPackets limits packets) Lost answers tt (each-of limits packets answers all)

-- one more answer
pub asker-still : (answer : Answer) (old new : Note) → IsAsker old → new ≡ note_answered answer old → IsAsker new
asker-still (Held flow) old new asker is = is
    ∙ (λ i. record {
      seats = (asker i).seats;
      taken = (asker i).taken;
      handed = (asker i).handed;
      seen = sym (ap (λ (n : Note). n.seen) is) i;
    })
asker-still Absent old new asker is = subst IsAsker (sym is) asker
asker-still Lost old new asker is = subst IsAsker (sym is) asker

more-held : (answers : List Answer) (answer : Answer)
    → held_in (answers ++ answer ∷ []) ≡ held_in answers ++ flow_in answer
more-held answers answer =
    flat_map-append flow_in answers (answer ∷ []) ∙ ap (λ l. held_in answers ++ l) (append-nil (flow_in answer))

seen-now : (answer : Answer) (old new : Note) → new ≡ note_answered answer old → new.seen ≡ old.seen ++ flow_in answer
seen-now (Held flow) old new is = ap (λ (n : Note). n.seen) is
seen-now Absent old new is = ap (λ (n : Note). n.seen) is ∙ sym (append-nil old.seen)
seen-now Lost old new is = ap (λ (n : Note). n.seen) is ∙ sym (append-nil old.seen)

pub seen-still : (answer : Answer) (old new : Note) (answers after : List Answer) → new ≡ note_answered answer old
    → old.seen ≡ held_in answers → after ≡ answers ++ answer ∷ [] → new.seen ≡ held_in after
seen-still answer old new answers after is seen more =
    seen-now answer old new is ∙ ap (λ l. l ++ flow_in answer) seen
    ∙ sym (ap held_in more ∙ more-held answers answer)

-- a number that isn't 0
pub some-there : (n : ℕ) → (n == 0) ≡ false → 0 < n
some-there zero e = absurd cc
some-there (suc n) e = omega arith
