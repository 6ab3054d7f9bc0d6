-- A packet as a fragment of its own: it fits where that is joinable, and absorbing it is joining.
use Rattle.std.proofs.Common.{[], ◌∷◌, ◌++◌, sym, ap, ◌∙◌, arith}
use Rattle.std.proofs.lemmas.Nat.{or_comm}
use Rattle.std.proofs.lemmas.List.Sorted.{IsPermutation-refl, IsPermutation-sym, IsPermutation-trans}
use Rattle.std.proofs.lemmas.List.Sorted.{IsPermutation-to_front}
use Rattle.flow_key.specs.declared.key.FlowKey.{FlowKey}
use Rattle.packet_accept.specs.declared.packet.Packet.{Packet}
use Rattle.packet_accept.specs.Ending.{is_tcp_end}
use Rattle.flow_parts.specs.declared.fragment.Fragment.{Fragment}
use Rattle.flow_parts.specs.Ending.{Ends, IsClosed}
use Rattle.flow_parts.specs.Parts.{IsAlone}
use Rattle.flow_parts.specs.Laws.{FitsAsJoinable, AbsorbsAsJoins, JoinsEitherWay, OwnIsOne, ClosedByPackets}
use Rattle.flow_parts.specs.Laws.{StandsOpened, StandsAbsorbed, StandsJoined}
use Rattle.flow_parts.proofs.Endings.{closed_ender, ender_closes}
use Rattle.flow_parts.proofs.PartWords.{part_same}
use Rattle.flow_parts.proofs.Shares.{permuted, fresh, absorbed, joined}

-- the packet's own fragment is closed where the packet ends its flow
closed_own : (p : Packet) (own : Fragment) → IsAlone p own → IsClosed own → Ends p
closed_own p own a h = sym (ap (λ n. is_tcp_end p.key.protocol n) a.flags)
    ∙ sym (ap (λ (k : FlowKey). is_tcp_end k.protocol own.flags) a.key) ∙ h

ends_own : (p : Packet) (own : Fragment) → IsAlone p own → Ends p → IsClosed own
ends_own p own a h = ap (λ (k : FlowKey). is_tcp_end k.protocol own.flags) a.key
    ∙ ap (λ n. is_tcp_end p.key.protocol n) a.flags ∙ h

pub fits_as_joinable : FitsAsJoinable
fits_as_joinable limits f own p a =
    let first = a.first in
    let last = a.last in (
      λ t.
          let early = t.not_early in
          let late = t.not_late in
          let short = t.short in
          record {
            one_key = t.one_key ∙ sym a.key;
            near = omega arith;
            short = rw (first, last) short;
            one_closed = λ closed. (let low = t.closed closed in omega arith);
            other_closed = λ closed. (let low = t.ending (closed_own p own a closed) in omega arith);
          },
      λ j.
          let near = j.near in
          let short = j.short in
          record {
            one_key = j.one_key ∙ a.key;
            not_early = omega arith;
            not_late = omega arith;
            short = omega arith;
            closed = λ closed. (let low = j.one_closed closed in omega arith);
            ending = λ ends. (let low = j.other_closed (ends_own p own a ends) in omega arith);
          },
    )

pub absorbs_as_joins : AbsorbsAsJoins
absorbs_as_joins f own w p a =
    let packets = a.packets in
    let octets = a.octets in
    let first = a.first in
    let last = a.last in
    let flags = a.flags in (
      λ u. record {
        key = u.key;
        packets = (let e = u.packets in omega arith);
        octets = (let e = u.octets in omega arith);
        first = rw first u.first;
        last = rw last u.last;
        flags = rw flags u.flags;
      },
      λ u. record {
        key = u.key;
        packets = (let e = u.packets in omega arith);
        octets = (let e = u.octets in omega arith);
        first = rw (sym first) u.first;
        last = rw (sym last) u.last;
        flags = rw (sym flags) u.flags;
      },
    )

pub joins_either_way : JoinsEitherWay
joins_either_way limits f g j =
    let near = j.near in
    let short = j.short in (
      record {
        one_key = sym j.one_key;
        near = omega arith;
        short = omega arith;
        one_closed =
            j.other_closed;
        other_closed = j.one_closed;
      },
      λ w u. record {
        key = u.key ∙ j.one_key;
        packets = (let e = u.packets in omega arith);
        octets = (let e = u.octets in omega arith);
        first = (let e = u.first in omega arith);
        last = (let e = u.last in omega arith);
        flags = u.flags ∙ or_comm f.flags g.flags;
      },
    )

pub own_is_one : OwnIsOne
own_is_one p f g a b = part_same f g (a.key ∙ sym b.key) (a.packets ∙ sym b.packets) (a.octets ∙ sym b.octets)
    (a.first ∙ sym b.first) (a.last ∙ sym b.last) (a.flags ∙ sym b.flags)

pub closed_by_packets : ClosedByPackets
closed_by_packets limits P f h =
    (λ closed. closed_ender P f h.one_key h.flags closed, λ ends. ender_closes P f h.one_key h.flags ends)

pub stands_opened : StandsOpened
stands_opened limits P Q F G p f a shares perm perm' =
    permuted limits (P ++ p ∷ []) Q (f ∷ F) G
    (IsPermutation-trans (P ++ p ∷ []) (p ∷ P) Q (IsPermutation-to_front P p) (IsPermutation-sym Q (p ∷ P) perm))
    (IsPermutation-sym G (f ∷ F) perm')
    (fresh limits p f a P F shares)

pub stands_absorbed : StandsAbsorbed
stands_absorbed limits P Q F G rest p f w t u shares perm here there =
    permuted limits (P ++ p ∷ []) Q (w ∷ rest) G
    (IsPermutation-trans (P ++ p ∷ []) (p ∷ P) Q (IsPermutation-to_front P p) (IsPermutation-sym Q (p ∷ P) perm))
    (IsPermutation-sym G (w ∷ rest) there)
    (absorbed limits f w p t u P rest (permuted limits P P F (f ∷ rest) (IsPermutation-refl P) here shares))

pub stands_joined : StandsJoined
stands_joined limits P F G rest f g w j u shares here there =
    permuted limits P P (w ∷ rest) G (IsPermutation-refl P) (IsPermutation-sym G (w ∷ rest) there)
    (joined limits f g w j u P rest (permuted limits P P F (f ∷ g ∷ rest) (IsPermutation-refl P) here shares))
