-- The packets of a made capture are UDP, within 1000 s.
use Rattle.std.proofs.Common.{◌≡◌, ◌≤◌, ◌<◌, ◌+◌, ◌-◌, ◌*◌, ◌/◌, ◌%◌, ℕ, zero, suc, Bool, true, false, cond, List, []}
use Rattle.std.proofs.Common.{◌∷◌, ◌++◌, get_or, map, drop, flat_map, Option, Some, None, Result, Ok, Err, refl, sym}
use Rattle.std.proofs.Common.{ap, subst, ◌∙◌, arith, MatchOption, All}
use Rattle.std.specs.List.{enumerate_from}
use Rattle.std.proofs.lemmas.List.Elements.{All-cons, All-nil, All-head, All-tail}
use Rattle.std.proofs.lemmas.List.Sorted.{All-permutation}
use Rattle.byteorder.specs.Numbers.{little_number-reads_back}
use Rattle.octets.specs.declared.endianness.Endianness.TheVariants.{Little}
use Rattle.octets.specs.Numbers.{number, ordered_octets, octet_at}
use Rattle.octets.specs.Outcome.{◌>>=◌}
use Rattle.packet_headers.specs.declared.fault.HeaderFault.{HeaderFault}
use Rattle.packet_headers.specs.Link.{LinkPart, link_part, raw_part}
use Rattle.packet_headers.specs.Packet.{IpPart}
use Rattle.packet_headers.specs.Ip.{ip_part}
use Rattle.packet_headers.specs.Ipv4.{ipv4_part, header_length, packet_length}
use Rattle.flow_key.specs.declared.key.FlowKey.{FlowKey}
use Rattle.flow_key.specs.Fields.{KeyFields, AreFit, fields_of}
use Rattle.flow_key.specs.KeyWith.{key_with}
use Rattle.flow_key.specs.Laws.{AnswersOnce}
use Rattle.pcap_reader.specs.File.{CaptureFile, capture_file}
use Rattle.pcap_reader.specs.Records.{PacketRecord, packet_record}
use Rattle.packet_accept.specs.declared.packet.Packet.{Packet}
use Rattle.packet_accept.specs.declared.ignored.Ignored.{Ignored}
use Rattle.packet_accept.specs.Cause.{or_cause}
use Rattle.packet_accept.specs.Key.{Headers, key_fields, key_of, or_bad_header}
use Rattle.packet_accept.specs.Acceptance.{time_of, transport_part, headers_of, accepted_packet}
use Rattle.packet_accept.specs.Packets.{answer_to, packets_in, packets_of}
use Rattle.flow_parts.specs.declared.fragment.Fragment.{Fragment}
use Rattle.flow_parts.specs.declared.timeouts.Timeouts.{Timeouts}
use Rattle.flow_parts.specs.Ending.{Ends}
use Rattle.record_ledger.specs.Sessions.{IsSessions, IsUncut, AreRecordsOf}
use Rattle.capture_maker.specs.Draws.{state_behind, number_of}
use Rattle.capture_maker.specs.Made.{capture_of}
use Rattle.capture_maker.specs.Made as Made
use Rattle.meter_program.specs.Outcome.{IsTested}
use Rattle.meter_program.proofs.Made.{made_file, made-parts, made-is_file, made-parts_are}

-- the record of a packet
abbrev read : ℕ → ℕ → ℕ → PacketRecord
read place payload key = packet_record Little (Made.packet_record place payload key)

seconds-read : (place payload key : ℕ) → place < 1000000 → (read place payload key).seconds ≡ 1000 + place / 1000
unfolding number ordered_octets
seconds-read place payload key small =
    little_number-reads_back 4 (1000 + place / 1000) (drop 4 (Made.packet_record place payload key))
    (omega (arith, small))

fraction-read : (place payload key : ℕ) → (read place payload key).fraction ≡ place % 1000 * 1000
unfolding number ordered_octets
fraction-read place payload key =
    little_number-reads_back 4 (place % 1000 * 1000) (drop 8 (Made.packet_record place payload key)) (omega arith)

link-is : (place payload key : ℕ) → link_part 101 (read place payload key).captured
    ≡ Ok (record { version = 4; offset = 0 })
unfolding raw_part ordered_octets
link-is place payload key = refl

protocol-is : (place payload key : ℕ) → octet_at 9 (read place payload key).captured ≡ 17
unfolding ordered_octets
protocol-is place payload key = refl

bind-ok : {A B F : Type 0} (m : Result A F) (k : A → Result B F) (b : B) → (m >>= k) ≡ Ok b
    → (a : A) × (m ≡ Ok a) × (k a ≡ Ok b)
bind-ok (Ok a) k b h = (a, refl, h)
bind-ok (Err f) k b h = absurd (cc)

cause-ok : {A : Type 0} (r : Result A HeaderFault) (a : A) → or_cause r ≡ Ok a → r ≡ Ok a
cause-ok (Ok x) a h = let same : x ≡ a = cc in ap Ok same
cause-ok (Err f) a h = absurd (cc)

one-ok : {A F : Type 0} (r : Result A F) (x y : A) → r ≡ Ok x → r ≡ Ok y → x ≡ y
one-ok r x y p q = cc

key-found : (o : Option FlowKey) (key : FlowKey) → or_bad_header o ≡ Ok key → o ≡ Some key
key-found (Some x) key h = let same : x ≡ key = cc in ap Some same
key-found None key h = absurd (cc)

time-picked : (b : Bool) (x t : ℕ) (e : Ignored) → cond b (Ok x) (Err e) ≡ Ok t → t ≡ x
time-picked true x t e h = let same : x ≡ t = cc in sym same
time-picked false x t e h = absurd (cc)

time-is : (seconds fraction time : ℕ) → time_of false seconds fraction ≡ Ok time
    → time ≡ seconds * 1000 + fraction / 1000
unfolding time_of
time-is seconds fraction time h = time-picked _ (seconds * 1000 + fraction / 1000) time _ h

ip-protocol : (rest : List ℕ) (original : ℕ) (ip : IpPart) → ipv4_part rest original ≡ Ok ip
    → ip.protocol ≡ octet_at 9 rest
unfolding ipv4_part
ip-protocol rest original ip h =
    let header = bind-ok (header_length rest) _ ip h in
    let octets = bind-ok (packet_length rest original header.0) _ ip header.2 in
    ap (λ (i : IpPart). i.protocol) (sym (one-ok _ _ ip refl octets.2))

as-ipv4 : (rest : List ℕ) (original : ℕ) → ip_part 4 rest original ≡ ipv4_part rest original
unfolding ip_part
as-ipv4 rest original = refl

headers-protocol : (rec : PacketRecord) (headers : Headers)
    → link_part 101 rec.captured ≡ Ok (record { version = 4; offset = 0 })
    → octet_at 9 rec.captured ≡ 17 → headers_of 101 rec ≡ Ok headers → headers.ip.protocol ≡ 17
unfolding headers_of
headers-protocol rec headers link ninth h =
    let frame = bind-ok (or_cause (link_part 101 rec.captured)) _ headers h in
    let at : record { version = 4; offset = 0 } ≡ frame.0 =
    one-ok (link_part 101 rec.captured) _ frame.0 link (cause-ok (link_part 101 rec.captured) frame.0 frame.1) in
    let ip = bind-ok
    (or_cause (ip_part frame.0.version (drop frame.0.offset rec.captured) (rec.original - frame.0.offset))) _ headers
    frame.2 in
    let transport = bind-ok (transport_part ip.0) _ headers ip.2 in
    let raw = cause-ok (ip_part frame.0.version (drop frame.0.offset rec.captured) (rec.original - frame.0.offset)) ip.0
    ip.1 in
    let four : ip_part 4 rec.captured (rec.original - 0) ≡ Ok ip.0 =
    subst (λ (f : LinkPart). ip_part f.version (drop f.offset rec.captured) (rec.original - f.offset) ≡ Ok ip.0)
    (sym at) raw in
    ap (λ (x : Headers). x.ip.protocol) (sym (one-ok _ _ headers refl transport.2))
    ∙ ip-protocol rec.captured (rec.original - 0) ip.0 (sym (as-ipv4 rec.captured (rec.original - 0)) ∙ four) ∙ ninth

-- a packet that is UDP, and whose time is within 1000 s from 1000 s on
record IsSoon (packet : Packet) : Type 0 where
  pub from : 1000000 ≤ packet.time
  pub before : packet.time < 2000000
  pub udp : packet.key.protocol ≡ 17

key-protocol : (fields : KeyFields) (key : FlowKey) → AnswersOnce → key_with fields ≡ Some key
    → key.protocol ≡ fields.protocol
key-protocol fields key once is =
    let told : MatchOption (Some key) (¬ AreFit fields) (λ (k : FlowKey). fields_of k ≡ fields) =
    subst (λ (o : Option FlowKey). MatchOption o (¬ AreFit fields) (λ (k : FlowKey). fields_of k ≡ fields)) is
    (once fields).0 in
    ap (λ (f : KeyFields). f.protocol) told

packet-soon : (place payload key n : ℕ) (packet : Packet) → AnswersOnce → place < 1000000
    → accepted_packet 101 false (read place payload key) n ≡ Ok packet → IsSoon packet
unfolding accepted_packet
packet-soon place payload key n packet once small h =
    let rec = read place payload key in
    let time = bind-ok (time_of false rec.seconds rec.fraction) _ packet h in
    let headers = bind-ok (headers_of 101 rec) _ packet time.2 in
    let made = bind-ok (key_of headers.0) _ packet headers.2 in
    let is = one-ok _ _ packet refl made.2 in
    let at : packet.time ≡ time.0 = ap (λ (p : Packet). p.time) (sym is) in
    let clock = time-is rec.seconds rec.fraction time.0 time.1 in
    let seconds = seconds-read place payload key small in
    let fraction = fraction-read place payload key in
    let protocol : packet.key.protocol ≡ made.0.protocol = ap (λ (p : Packet). p.key.protocol) (sym is) in
    record {
      from = omega (arith, at, clock, seconds, fraction);
      before = omega (arith, at, clock, seconds, fraction, small);
      udp = protocol ∙ key-protocol (key_fields headers.0) made.0 once
          (key-found (key_with (key_fields headers.0)) made.0 made.1)
          ∙ headers-protocol rec headers.0 (link-is place payload key) (protocol-is place payload key) headers.1;
    }

-- one answer more
soon-more : (answer : Result Packet Ignored) (answers : List (Result Packet Ignored))
    → ((p : Packet) → answer ≡ Ok p → IsSoon p)
    → All IsSoon (packets_in answers) → All IsSoon (packets_in (answer ∷ answers))
soon-more (Ok packet) answers one all = All-cons IsSoon packet (packets_in answers) (one packet refl) all
soon-more (Err cause) answers one all = all

all-soon : (file : CaptureFile) (keys state place count n : ℕ) → AnswersOnce → file.link ≡ 101 → file.nanos ≡ false
    → place + count ≤ 1000000
    → All IsSoon
    (packets_in
    (map (answer_to file) (enumerate_from n (map (packet_record Little) (made-parts keys state place count)))))
unfolding made-parts
all-soon file keys state place zero n once link nanos few = All-nil IsSoon
all-soon file keys state place (suc count) n once link nanos few =
    let payload = number_of (state_behind state) % 1000 in
    let key = number_of (state_behind (state_behind state)) % keys in
    let behind = state_behind (state_behind state) in
    let others =
    map (answer_to file)
    (enumerate_from (n + 1) (map (packet_record Little) (made-parts keys behind (suc place) count))) in
    soon-more (accepted_packet file.link file.nanos (read place payload key) n) others
    (λ p is. packet-soon place payload key n p once (omega (arith, few))
    (subst (λ (l : ℕ). accepted_packet l false (read place payload key) n ≡ Ok p) link
    (subst (λ (b : Bool). accepted_packet file.link b (read place payload key) n ≡ Ok p) nanos is)))
    (all-soon file keys behind (suc place) count (n + 1) once link nanos (omega (arith, few)))

packets-soon : (seed packets keys : ℕ) → AnswersOnce → packets ≤ 1000000
    → All IsSoon (packets_of (made_file seed packets keys))
packets-soon seed packets keys once few =
    subst (λ (parts : List (List ℕ)). All IsSoon
    (packets_in (map (answer_to (made_file seed packets keys)) (enumerate_from 0 (map (packet_record Little) parts)))))
    (sym (made-parts_are seed packets keys))
    (all-soon (made_file seed packets keys) keys seed 0 packets 0 once refl refl (omega (arith, few)))

-- ---- sessions of such packets

never-ends : (packet : Packet) → packet.key.protocol ≡ 17 → Ends packet → ⊥
never-ends packet udp ends = absurd (cc)

uncut : (limits : Timeouts) (session : List Packet) → 1000000 ≤ limits.active → All IsSoon session
    → IsUncut limits session
uncut limits session long all = λ k d inside k' d' inside'.
    let p = all k d inside in
    let q = all k' d' inside' in
    (omega (arith, p.from, q.before, long), λ ends. absurd (never-ends (get_or session k d) p.udp ends))

append-first : {X : Type 0} (P : X → Type 0) (xs ys : List X) → All P (xs ++ ys) → All P xs
append-first P [] ys all = All-nil P
append-first P (x ∷ xs) ys all = All-cons P x xs (All-head P x (xs ++ ys) all)
    (append-first P xs ys (All-tail P x (xs ++ ys) all))

append-second : {X : Type 0} (P : X → Type 0) (xs ys : List X) → All P (xs ++ ys) → All P ys
append-second P [] ys all = all
append-second P (x ∷ xs) ys all = append-second P xs ys (All-tail P x (xs ++ ys) all)

each-uncut : (limits : Timeouts) (sessions : List (List Packet)) → 1000000 ≤ limits.active
    → All IsSoon (flat_map (λ (session : List Packet). session) sessions) → All (IsUncut limits) sessions
each-uncut limits [] long all = All-nil (IsUncut limits)
each-uncut limits (session ∷ sessions) long all =
    let rest = flat_map (λ (session : List Packet). session) sessions in
    All-cons (IsUncut limits) session sessions (uncut limits session long (append-first IsSoon session rest all))
    (each-uncut limits sessions long (append-second IsSoon session rest all))

pub some-same : (one other : CaptureFile) → Some one ≡ Some other → one ≡ other
some-same one other same = cc

pub nothing-cuts : AnswersOnce → (seed packets keys : ℕ) (file : CaptureFile) (limits : Timeouts)
    (sessions : List (List Packet)) → packets ≤ 1000000
    → capture_file (capture_of seed packets keys) ≡ Some file → 1000000 ≤ limits.active
    → IsSessions limits.idle (packets_of file) sessions
    → All (IsUncut limits) sessions
nothing-cuts once seed packets keys file limits sessions few is long cut =
    let same : made_file seed packets keys ≡ file =
    some-same (made_file seed packets keys) file (sym (made-is_file seed packets keys) ∙ is) in
    let soon : All IsSoon (packets_of file) =
    subst (λ (f : CaptureFile). All IsSoon (packets_of f)) same (packets-soon seed packets keys once few) in
    each-uncut limits sessions long
    (All-permutation IsSoon (packets_of file) (flat_map (λ (session : List Packet). session) sessions) cut.whole soon)

pub tests-are-one : AnswersOnce → (seed packets keys : ℕ) (metered : List Fragment) (written reported : List ℕ)
    (tested : IsTested seed packets keys metered written reported)
    (sessions : List (List Packet)) → packets ≤ 1000000
    → IsSessions tested.is_metered.limits.idle (packets_of tested.is_metered.file) sessions
    → AreRecordsOf tested.is_metered.limits (packets_of tested.is_metered.file) sessions tested.is_metered.records
tests-are-one once seed packets keys metered written reported tested sessions few cut =
    let known = tested.is_metered in
    known.sessions sessions cut
    (nothing-cuts once seed packets keys known.file known.limits sessions few known.is_file
    (omega (arith, known.active)) cut)
