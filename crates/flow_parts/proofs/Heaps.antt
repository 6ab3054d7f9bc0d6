-- One packet is a heap; absorbing and joining keep heaps; a heap may be permuted.
use Rattle.std.proofs.Common.{◌≡◌, ℕ, ◌+◌, List, [], ◌∷◌, ◌++◌, sym, ap, ◌∙◌, subst, length, arith, length-append}
use Rattle.std.proofs.Common.{Contains, IsPermutation}
use Rattle.std.proofs.lemmas.List.{nil_from_length}
use Rattle.std.proofs.lemmas.List.Elements.{All-append, All-contains, All-contains_itself, All-weaker}
use Rattle.std.proofs.lemmas.List.Sums.{sum_by-append}
use Rattle.std.proofs.lemmas.List.Sorted.{All-permutation, length_permutation, sum_by-IsPermutation}
use Rattle.packet_accept.specs.declared.packet.Packet.{Packet}
use Rattle.flow_parts.specs.declared.fragment.Fragment.{Fragment}
use Rattle.flow_parts.specs.declared.timeouts.Timeouts.{Timeouts}
use Rattle.packet_accept.specs.Extremes.{IsLeast, IsGreatest}
use Rattle.flow_parts.specs.Union.{IsUnion}
use Rattle.flow_parts.specs.Ending.{Ends}
use Rattle.flow_parts.proofs.Endings.{ender_closes}
use Rattle.flow_parts.specs.Heap.{IsHeap}
use Rattle.flow_parts.specs.Joining.{TakesIn, IsJoinable}
use Rattle.flow_parts.specs.Parts.{IsAlone, IsAbsorbed, IsJoined}
use Rattle.flow_parts.proofs.Members.{among, All-one, IsLeast-append, IsGreatest-append, IsUnion-append}
use Rattle.flow_parts.proofs.Members.{IsLeast-permutation, IsGreatest-permutation, IsUnion-permutation, IsLeast-one}
use Rattle.flow_parts.proofs.Members.{IsGreatest-one, IsUnion-one}
use Rattle.flow_parts.proofs.Walks.{time_of, IsLinked-append, IsLinked-permutation, IsLinked-one}

abbrev octets_of : Packet → ℕ
octets_of p = p.octets

abbrev flags_of : Packet → ℕ
flags_of p = p.flags

module _ (limits : Timeouts) where
  pub IsHeap-permutation : (P Q : List Packet) (f : Fragment) → IsPermutation P Q → IsHeap limits P f
      → IsHeap limits Q f
  IsHeap-permutation P Q f s h = record {
    some = λ e. h.some (nil_from_length P (sym (length_permutation P Q s) ∙ ap length e));
    one_key = All-permutation (λ p. p.key ≡ f.key) P Q s h.one_key;
    count = h.count ∙ sym (length_permutation P Q s);
    octets = h.octets ∙ sym (sum_by-IsPermutation octets_of P Q s);
    flags = IsUnion-permutation flags_of P Q f.flags s h.flags;
    first = IsLeast-permutation time_of P Q f.first s h.first;
    last = IsGreatest-permutation time_of P Q f.last s h.last;
    linked = IsLinked-permutation limits.idle P Q s h.linked;
    short = h.short;
    ended = All-permutation (λ p. Ends p → p.time ≡ f.last) P Q s h.ended;
  }

  pub IsHeap-one : (p : Packet) (f : Fragment) → IsAlone p f → IsHeap limits (p ∷ []) f
  IsHeap-one p f a = record {
    some = λ e. cc;
    one_key = All-one (λ q. q.key ≡ f.key) p (sym a.key);
    count = a.packets;
    octets = a.octets ∙ (let e : p.octets ≡ 0 + p.octets = omega arith in e);
    flags = subst (λ n. IsUnion flags_of (p ∷ []) n) (sym a.flags) (IsUnion-one flags_of p);
    first = subst (λ n. IsLeast time_of (p ∷ []) n) (sym a.first) (IsLeast-one time_of p);
    last = subst (λ n. IsGreatest time_of (p ∷ []) n) (sym a.last) (IsGreatest-one time_of p);
    linked = IsLinked-one limits.idle p;
    short = (let first = a.first in let last = a.last in let low = limits.active_bounds in omega arith);
    ended = All-one (λ q. Ends q → q.time ≡ f.last) p (λ ends. sym a.last);
  }

  pub IsHeap-joined : (P Q : List Packet) (f g w : Fragment) → IsJoinable limits f g → IsJoined f g w
      → IsHeap limits P f → IsHeap limits Q g → IsHeap limits (P ++ Q) w
  IsHeap-joined P Q f g w j u a b =
      let near = j.near in
      let short = j.short in
      record {
        some = λ e. a.some (nil_from_length P (let n = ap length e in omega (arith, length-append P Q)));
        one_key = All-append (λ p. p.key ≡ w.key) P Q
            (All-weaker (λ p. p.key ≡ f.key) (λ p. p.key ≡ w.key) (λ p e. e ∙ sym u.key) P a.one_key)
            (All-weaker (λ p. p.key ≡ g.key) (λ p. p.key ≡ w.key) (λ p e. e ∙ sym j.one_key ∙ sym u.key) Q b.one_key);
        count = (let e = u.packets in let x = a.count in let y = b.count in omega (arith, length-append P Q));
        octets = (let e = u.octets in let x = a.octets in let y = b.octets in
            omega (arith, sum_by-append octets_of P Q));
        flags = subst (λ n. IsUnion flags_of (P ++ Q) n) (sym u.flags)
            (IsUnion-append flags_of P Q f.flags g.flags a.flags b.flags);
        first = subst (λ n. IsLeast time_of (P ++ Q) n) (sym u.first)
            (IsLeast-append time_of P Q f.first g.first a.first b.first);
        last = subst (λ n. IsGreatest time_of (P ++ Q) n) (sym u.last)
            (IsGreatest-append time_of P Q f.last g.last a.last b.last);
        linked = IsLinked-append limits.idle P Q f.first f.last g.first g.last a.linked b.linked a.first a.last b.first
            b.last (omega arith) (omega arith);
        short = (let first = u.first in let last = u.last in rw (first, last) short);
        ended = All-append (λ p. Ends p → p.time ≡ w.last) P Q
            (All-weaker (Contains P) (λ p. Ends p → p.time ≡ w.last) (λ p c ends.
            let at = All-contains (λ q. Ends q → q.time ≡ f.last) P p a.ended c ends in
            let high = j.one_closed (ender_closes P f a.one_key a.flags (among Ends P p c ends)) in
            let last = u.last in omega arith) P (All-contains_itself P))
            (All-weaker (Contains Q) (λ p. Ends p → p.time ≡ w.last) (λ p c ends.
            let at = All-contains (λ q. Ends q → q.time ≡ g.last) Q p b.ended c ends in
            let high = j.other_closed (ender_closes Q g b.one_key b.flags (among Ends Q p c ends)) in
            let last = u.last in omega arith) Q (All-contains_itself Q));
      }

  pub IsHeap-absorbed : (P : List Packet) (f : Fragment) (p : Packet) (w : Fragment) → TakesIn limits f p
      → IsAbsorbed f p w → IsHeap limits P f → IsHeap limits (P ++ p ∷ []) w
  IsHeap-absorbed P f p w t u a =
      let Q : List Packet = p ∷ [] in
      let early = t.not_early in
      let late = t.not_late in
      record {
        some = λ e. a.some (nil_from_length P (let n = ap length e in omega (arith, length-append P Q)));
        one_key = All-append (λ q. q.key ≡ w.key) P Q
            (All-weaker (λ q. q.key ≡ f.key) (λ q. q.key ≡ w.key) (λ q e. e ∙ sym u.key) P a.one_key)
            (All-one (λ q. q.key ≡ w.key) p (sym t.one_key ∙ sym u.key));
        count = (let e = u.packets in let x = a.count in omega (arith, length-append P Q));
        octets = (let e = u.octets in let x = a.octets in omega (arith, sum_by-append octets_of P Q));
        flags = subst (λ n. IsUnion flags_of (P ++ Q) n) (sym u.flags)
            (IsUnion-append flags_of P Q f.flags p.flags a.flags (IsUnion-one flags_of p));
        first = subst (λ n. IsLeast time_of (P ++ Q) n) (sym u.first)
            (IsLeast-append time_of P Q f.first p.time a.first (IsLeast-one time_of p));
        last = subst (λ n. IsGreatest time_of (P ++ Q) n) (sym u.last)
            (IsGreatest-append time_of P Q f.last p.time a.last (IsGreatest-one time_of p));
        linked = IsLinked-append limits.idle P Q f.first f.last p.time p.time a.linked
            (IsLinked-one limits.idle p) a.first a.last (IsLeast-one time_of p) (IsGreatest-one time_of p) (omega arith)
            (omega arith);
        short = (let first = u.first in let last = u.last in rw (first, last) t.short);
        ended = All-append (λ q. Ends q → q.time ≡ w.last) P Q
            (All-weaker (Contains P) (λ q. Ends q → q.time ≡ w.last) (λ q c ends.
            let at = All-contains (λ z. Ends z → z.time ≡ f.last) P q a.ended c ends in
            let high = t.closed (ender_closes P f a.one_key a.flags (among Ends P q c ends)) in
            let last = u.last in omega arith) P (All-contains_itself P))
            (All-one (λ q. Ends q → q.time ≡ w.last) p
            (λ ends. let high = t.ending ends in let last = u.last in omega arith));
      }
