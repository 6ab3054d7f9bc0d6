-- What one share has metered, or several together.
use Rattle.meter_workers.proofs.Common.{◌≡◌, ℕ, ◌+◌, ◌<◌, ◌≤◌, ◌^◌, List, [], ◌∷◌, ◌++◌, Some, sym, ap, ◌∙◌, subst}
use Rattle.meter_workers.proofs.Common.{arith, append-nil, length-append, IfOk, IsPermutation, IsPermutation-refl}
use Rattle.meter_workers.proofs.Common.{IsPermutation-append_comm, packets_in, Fragment, SharesOut, IsTallyOf, Ghosts}
use Rattle.meter_workers.proofs.Common.{open_in, Answer, Share, CaptureMetered, IsShareOf, put_by, HaveMetered, All-nil}
use Rattle.meter_workers.proofs.Common.{All-cons, All-append}
use Rattle.std.proofs.lemmas.List.Sorted.{All-permutation}
use Rattle.std.proofs.Common.{None}
use Rattle.std.specs.Prelude.{Option, Result, Ok, Err, OnOk}
use Rattle.std.proofs.lemmas.List.Sums.{sum_by-append, sum_by-cons}
use Rattle.packet_accept.specs.declared.packet.Packet.{Packet}
use Rattle.packet_accept.specs.declared.ignored.Ignored.{Ignored}
use Rattle.packet_accept.proofs.FileAnswers.{packets_together, packets_permuted}
use Rattle.flow_parts.specs.declared.timeouts.Timeouts.{Timeouts}
use Rattle.flow_parts.specs.Laws.{StandsOpened, StandsReached, StandsTogether, StandsPermuted, CountsAll}
use Rattle.flow_parts.specs.Parts.{IsAlone}
use Rattle.flow_parts.specs.Reaching.{Reaches}
use Rattle.flow_parts.proofs.Reaching.{put_behind, itself, same_packets}
use Rattle.capture_tally.specs.declared.tally.Tally.{Tally}
use Rattle.capture_tally.proofs.Counting.{packets-few}
use Rattle.cache_face.specs.Keeping.{packet_count}
use Rattle.cache_face.specs.Meaning.{IsUnited}
use Rattle.cache_face.specs.Notes.{Note}
use Rattle.front_cache.specs.Fronts.{FrontMeans}
use Rattle.meter_workers.specs.Shares.{IsSeatOf, AreSmall, HasLimits, open_of}

-- ---- what was put in

abbrev packets_of : Fragment → ℕ
packets_of part = part.packets

-- what left the front was put into the cache
pub reached-through : (limits : Timeouts) (own : Fragment) (taken taken' outs : List Fragment)
    (front : Option FrontMeans) (old new : FrontMeans)
    → HasLimits limits front → front ≡ Some old → Reaches old.limits (own ∷ open_in old) (outs ++ open_in new)
    → taken' ≡ taken ++ outs → Reaches limits (own ∷ (taken ++ open_of front)) (taken' ++ open_in new)
reached-through limits own taken taken' outs front old new fits is reached more =
    let same : old.limits ≡ limits = subst (HasLimits limits) is fits in
    subst (λ f. Reaches limits (own ∷ (taken ++ open_of f)) (taken' ++ open_in new)) (sym is)
    (subst (λ l. Reaches limits (own ∷ (taken ++ open_in old)) (l ++ open_in new)) (sym more)
    (put_behind limits own taken outs (open_in old) (open_in new)
    (subst (λ l. Reaches l (own ∷ open_in old) (outs ++ open_in new)) same reached)))

-- without a front the packet's own fragment was
pub reached-alone : (limits : Timeouts) (own : Fragment) (taken taken' : List Fragment) (front : Option FrontMeans)
    → front ≡ None → taken' ≡ taken ++ own ∷ []
    → Reaches limits (own ∷ (taken ++ open_of front)) (taken' ++ open_of front)
reached-alone limits own taken taken' front none more =
    subst (λ f. Reaches limits (own ∷ (taken ++ open_of f)) (taken' ++ open_of f)) (sym none)
    (subst (λ l. Reaches limits (own ∷ (taken ++ [])) (l ++ [])) (sym more)
    (put_behind limits own taken (own ∷ []) [] [] (itself limits (own ∷ []))))

-- what leaves a front has room
pub room-through : (limits : Timeouts) (own out : Fragment) (taken : List Fragment) (front : Option FrontMeans)
    (old new : FrontMeans)
    → front ≡ Some old → own.packets ≡ 1 → packet_count (taken ++ open_of front) < 2 ^ 32
    → Reaches limits (own ∷ open_in old) (out ∷ open_in new) → packet_count taken + out.packets ≤ 2 ^ 32
room-through limits own out taken front old new is one room reached =
    let less : packet_count (taken ++ open_in old) < 2 ^ 32 =
    subst (λ f. packet_count (taken ++ open_of f) < 2 ^ 32) is room in
    omega (
      arith,
      less,
      one,
      same_packets limits (own ∷ open_in old) (out ∷ open_in new) reached,
      sum_by-append packets_of taken (open_in old),
      sum_by-cons packets_of own (open_in old),
      sum_by-cons packets_of out (open_in new),
    )

-- and a fragment of several has no more packets than all
pub room-out : (taken rest all : List Fragment) (out : Fragment) → taken ++ (out ∷ rest) ≡ all
    → packet_count all ≤ 2 ^ 32 → packet_count taken + out.packets ≤ 2 ^ 32
room-out taken rest all out is room =
    let whole : packet_count (taken ++ (out ∷ rest)) ≤ 2 ^ 32 =
    subst (λ (l : List Fragment). packet_count l ≤ 2 ^ 32) (sym is) room in
    omega (arith, whole, sum_by-append packets_of taken (out ∷ rest), sum_by-cons packets_of out rest)

-- ---- a record more

-- a packet more was put in
pub shared-packet : (limits : Timeouts) (answers : List Answer) (answer : Answer) (packet : Packet) (own : Fragment)
    (put put' : List Fragment)
    → StandsOpened → StandsReached → answer ≡ Ok packet → IsAlone packet own → Reaches limits (own ∷ put) put'
    → SharesOut limits (packets_in answers) put
    → SharesOut limits (packets_in answers ++ packets_in (answer ∷ [])) put'
shared-packet limits answers answer packet own put put' opened reached is alone reaches shared =
    let packets = packets_in answers in
    subst (λ (a : Answer). SharesOut limits (packets ++ packets_in (a ∷ [])) put') (sym is)
    (reached limits (packets ++ packet ∷ []) (own ∷ put) put' reaches
    (opened limits packets (packets ++ packet ∷ []) put (own ∷ put) packet own alone shared
    (IsPermutation-append_comm packets (packet ∷ [])) (IsPermutation-refl (own ∷ put))))

pub shared-none : (limits : Timeouts) (answers : List Answer) (answer : Answer) (cause : Ignored) (put : List Fragment)
    → answer ≡ Err cause → SharesOut limits (packets_in answers) put
    → SharesOut limits (packets_in answers ++ packets_in (answer ∷ [])) put
shared-none limits answers answer cause put is shared =
    subst (λ (a : Answer). SharesOut limits (packets_in answers ++ packets_in (a ∷ [])) put) (sym is)
    (subst (λ (l : List Packet). SharesOut limits l put) (sym (append-nil (packets_in answers))) shared)

-- what several facts say of a value together
pub on-ok-all : {T E A B C D : Type 0} (result : Result T E) → OnOk result A → OnOk result B → OnOk result C
    → (A → B → C → D) → OnOk result D
on-ok-all (Ok x) a b c step = step a b c
on-ok-all (Err e) a b c step = tt

pub on-ok : {T E A : Type 0} (result : Result T E) → A → OnOk result A
on-ok (Ok x) a = a
on-ok (Err e) a = tt

small-one : (answer : Answer) → IfOk answer (λ packet. packet.octets < 2 ^ 24) → AreSmall (packets_in (answer ∷ []))
small-one (Ok packet) small = All-cons (λ p. p.octets < 2 ^ 24) packet [] small (All-nil (λ p. p.octets < 2 ^ 24))
small-one (Err cause) small = All-nil (λ p. p.octets < 2 ^ 24)

module _ {X P : Type 0} (the : Ghosts X P) (cache : X) where
  -- no more packets were put in than records were tallied
  pub put-few : (answers : List Answer) (share : Share X P) → CountsAll → IsShareOf the cache answers share
      → packet_count (put_by (the.shown share.pass) share.front) ≤ share.tally.captured
  put-few answers share counts metered =
      let count = (counts (the.means cache).limits (packets_in answers) (put_by (the.shown share.pass) share.front)
      metered.shared).0 in
      omega (arith, count, packets-few answers, metered.tallied.captured)

  -- one record more was tallied, and its packet put in where it has one
  pub share-more : (answers : List Answer) (answer : Answer) (share share' : Share X P)
      → IfOk answer (λ packet. packet.octets < 2 ^ 24) → share.tally.captured < 2 ^ 32
      → ((earlier : List Answer) → IsTallyOf share.tally earlier → IsTallyOf share'.tally (earlier ++ answer ∷ []))
      → (share.parts ≡ (the.shown share.pass).note.handed → share'.parts ≡ (the.shown share'.pass).note.handed)
      → IsSeatOf the cache share'.pass share'.front
      → SharesOut (the.means cache).limits (packets_in answers ++ packets_in (answer ∷ []))
      (put_by (the.shown share'.pass) share'.front)
      → IsShareOf the cache answers share → IsShareOf the cache (answers ++ answer ∷ []) share'
  share-more answers answer share share' small room tallies keeps seated shared metered =
      let next = tallies answers metered.tallied in
      let both = sym (packets_together answers (answer ∷ [])) in
      record {
        seated = seated;
        shared = subst (λ (l : List Packet). SharesOut (the.means cache).limits l
            (put_by (the.shown share'.pass) share'.front)) both shared;
        handed = keeps metered.handed;
        tallied = next;
        small = subst AreSmall both (All-append (λ p. p.octets < 2 ^ 24) (packets_in answers)
            (packets_in (answer ∷ [])) metered.small (small-one answer small));
        few = omega (arith, next.captured, metered.tallied.captured, length-append answers (answer ∷ []), room);
      }

  -- ---- several together

  pub united : (done rest : List Answer) (one other both : CaptureMetered X P) → StandsTogether
      → IsUnited (the.shown one.pass) (the.shown other.pass) (the.shown both.pass) → the.is_of cache both.pass
      → both.parts ≡ one.parts ++ other.parts
      → ((a b : List Answer) → IsTallyOf one.tally a → IsTallyOf other.tally b → IsTallyOf both.tally (a ++ b))
      → HaveMetered the cache done one → HaveMetered the cache rest other → HaveMetered the cache (done ++ rest) both
  united done rest one other both stands is own parts joins first second =
      let packets = sym (packets_together done rest) in
      let tallied = joins done rest first.tallied second.tallied in
      let seats = ap (λ (n : Note). n.seats) is.0 in
      record {
        own = own;
        some = (let some = first.some in omega (arith, seats, some));
        shared = subst (λ (l : List Packet). SharesOut (the.means cache).limits l (the.shown both.pass).note.taken)
            packets
            (subst (λ (l : List Fragment). SharesOut (the.means cache).limits (packets_in done ++ packets_in rest) l)
            (sym (ap (λ (n : Note). n.taken) is.0))
            (stands (the.means cache).limits (packets_in done) (packets_in rest) _ _ first.shared second.shared));
        parts = parts ∙ (λ i. first.parts i ++ second.parts i) ∙ sym (ap (λ (n : Note). n.handed) is.0);
        tallied = tallied;
        small = subst AreSmall packets (All-append (λ p. p.octets < 2 ^ 24) (packets_in done) (packets_in rest)
            first.small second.small);
        few = (let few = first.few in let few' = second.few in let long = length-append done rest in
            omega (arith, few, few', seats, tallied.captured, first.tallied.captured, second.tallied.captured, long));
      }

  -- the order of the answers plays no part
  pub permuted : (answers others : List Answer) (all : CaptureMetered X P) → StandsPermuted
      → ((t : Tally) (a b : List Answer) → IsPermutation a b → IsTallyOf t a → IsTallyOf t b)
      → IsPermutation answers others → HaveMetered the cache answers all → HaveMetered the cache others all
  permuted answers others all stands order perm metered =
      let packets = packets_permuted answers others perm in
      let put = (the.shown all.pass).note.taken in
      record {
        own = metered.own;
        some = metered.some;
        shared = stands (the.means cache).limits (packets_in answers) (packets_in others) put put
            packets (IsPermutation-refl put) metered.shared;
        parts = metered.parts;
        tallied = order all.tally answers others perm metered.tallied;
        small = All-permutation (λ p. p.octets < 2 ^ 24) (packets_in answers) (packets_in others) packets metered.small;
        few = metered.few;
      }
