-- An accepted record is accepted as one of raw IP, too, and gives the same packet.
use Rattle.std.proofs.Common.{◌≡◌, ℕ, ◌-◌, ◌/◌, ◌≤◌, ◌⊎◌, true, List, length, drop, Some, None, Ok, Err, refl, sym, ap}
use Rattle.std.proofs.Common.{◌∙◌, arith, inl, inr}
use Rattle.std.specs.Prelude.{Result, ◌==◌, option_map}
use Rattle.std.specs.Result.{result_ok}
use Rattle.std.proofs.lemmas.Bool.{cases_Bool}
use Rattle.std.proofs.lemmas.Bool.Decides.{nat_tests}
use Rattle.octets.specs.Numbers.{octet_at}
use Rattle.octets.specs.Outcome.{◌>>=◌}
use Rattle.packet_headers.specs.declared.fault.HeaderFault.{HeaderFault}
use Rattle.packet_headers.specs.Link.{LinkPart, link_part, raw_part}
use Rattle.packet_headers.specs.Packet.{IpPart}
use Rattle.packet_headers.specs.Ip.{ip_part}
use Rattle.packet_headers.specs.Ipv4.{ipv4_part, header_length}
use Rattle.packet_headers.specs.Ipv6 as V6
use Rattle.packet_headers.specs.Ipv6.{ipv6_part}
use Rattle.packet_headers.specs.Transport.{TransportPart}
use Rattle.flow_key.specs.declared.key.FlowKey.{FlowKey}
use Rattle.pcap_reader.specs.Records.{PacketRecord}
use Rattle.packet_accept.specs.declared.packet.Packet.{Packet}
use Rattle.packet_accept.specs.declared.ignored.Ignored.{Ignored}
use Rattle.packet_accept.specs.Cause.{or_cause}
use Rattle.packet_accept.specs.Key.{Headers, key_of}
use Rattle.packet_accept.specs.Acceptance.{time_of, transport_part, headers_of, accepted_packet}
use Rattle.pcapng_reader.specs.Records.{LinkedRecord}
use Rattle.pcapng_reader.specs.Filtered.{raw_record, raw_if, raw_of, Fits}
use Rattle.std.proofs.lemmas.List.{length-drop}

bind-ok : {A B F : Type 0} (m : Result A F) (k : A → Result B F) (b : B) → (m >>= k) ≡ Ok b
    → (a : A) × (m ≡ Ok a) × (k a ≡ Ok b)
bind-ok (Ok a) k b h = (a, refl, h)
bind-ok (Err f) k b h = absurd (cc)

cause-ok : {A : Type 0} (r : Result A HeaderFault) (a : A) → or_cause r ≡ Ok a → r ≡ Ok a
cause-ok (Ok x) a h = let same : x ≡ a = cc in rw same refl
cause-ok (Err f) a h = absurd (cc)

pub result-cases : {A F : Type 0} (r : Result A F) → ((a : A) × (r ≡ Ok a)) ⊎ ((f : F) × (r ≡ Err f))
result-cases (Ok a) = inl (a, refl)
result-cases (Err f) = inr (f, refl)

-- what an accepted record is made of
record Parts (link : ℕ) (rec : PacketRecord) : Type 0 where
  pub time : ℕ
  pub is_time : time_of true rec.seconds rec.fraction ≡ Ok time
  pub headers : Headers
  pub is_headers : headers_of link rec ≡ Ok headers
  pub key : FlowKey
  pub is_key : key_of headers ≡ Ok key

abbrev packet_with : {link : ℕ} {rec : PacketRecord} → ℕ → Parts link rec → Packet
packet_with n parts = record {
  number = n;
  key = parts.key;
  time = parts.time;
  octets = parts.headers.ip.octets;
  flags = parts.headers.transport.flags;
}

parts-of : (link : ℕ) (rec : PacketRecord) (n : ℕ) (packet : Packet) → accepted_packet link true rec n ≡ Ok packet
    → Parts link rec
unfolding accepted_packet
parts-of link rec n packet h =
    let one = bind-ok (time_of true rec.seconds rec.fraction) _ packet h in
    let two = bind-ok (headers_of link rec) _ packet one.2 in
    let three = bind-ok (key_of two.0) _ packet two.2 in
    record { time = one.0; is_time = one.1; headers = two.0; is_headers = two.1; key = three.0; is_key = three.1 }

accepted_packet-with : (link : ℕ) (rec : PacketRecord) (n : ℕ) (parts : Parts link rec)
    → accepted_packet link true rec n ≡ Ok (packet_with n parts)
unfolding accepted_packet
accepted_packet-with link rec n parts = rw (parts.is_time, parts.is_headers, parts.is_key) refl

-- what headers are made of
record Layers (link : ℕ) (rec : PacketRecord) (headers : Headers) : Type 0 where
  pub frame : LinkPart
  pub is_frame : link_part link rec.captured ≡ Ok frame
  pub ip : IpPart
  pub is_ip : ip_part frame.version (drop frame.offset rec.captured) (rec.original - frame.offset) ≡ Ok ip
  pub transport : TransportPart
  pub is_transport : transport_part ip ≡ Ok transport
  pub whole : record { ip = ip; transport = transport } ≡ headers

layers-of : (link : ℕ) (rec : PacketRecord) (headers : Headers) → headers_of link rec ≡ Ok headers
    → Layers link rec headers
unfolding headers_of
layers-of link rec headers h =
    let one = bind-ok (or_cause (link_part link rec.captured)) _ headers h in
    let two = bind-ok (or_cause (ip_part one.0.version (drop one.0.offset rec.captured) (rec.original - one.0.offset)))
    _ headers one.2 in
    let three = bind-ok (transport_part two.0) _ headers two.2 in
    let last = three.2 in
    record {
      frame = one.0;
      is_frame = cause-ok _ _ one.1;
      ip = two.0;
      is_ip = cause-ok _ _ two.1;
      transport = three.0;
      is_transport = three.1;
      whole = cc;
    }

record BeginsIp (version : ℕ) (rest : List ℕ) : Type 0 where
  pub some : 1 ≤ length rest
  pub version_is : octet_at 0 rest / 16 ≡ version

begins-v4 : (rest : List ℕ) (header : ℕ) → header_length rest ≡ Ok header → BeginsIp 4 rest
unfolding header_length
begins-v4 rest header h = record { some = grind (arith, nat_tests); version_is = grind (arith, nat_tests) }

begins-v6 : (rest : List ℕ) (original octets : ℕ) → V6.checked_length rest original ≡ Ok octets → BeginsIp 6 rest
unfolding V6.checked_length
begins-v6 rest original octets h = record { some = grind (arith, nat_tests); version_is = grind (arith, nat_tests) }

from-v4 : (rest : List ℕ) (original : ℕ) (ip : IpPart) → ipv4_part rest original ≡ Ok ip → BeginsIp 4 rest
unfolding ipv4_part
from-v4 rest original ip h = let one = bind-ok (header_length rest) _ ip h in begins-v4 rest one.0 one.1

from-v6 : (rest : List ℕ) (original : ℕ) (ip : IpPart) → ipv6_part rest original ≡ Ok ip → BeginsIp 6 rest
unfolding ipv6_part
from-v6 rest original ip h = let one = bind-ok (V6.checked_length rest original) _ ip h in
    begins-v6 rest original one.0 one.1

raw-v4 : (rest : List ℕ) → BeginsIp 4 rest → raw_part rest ≡ Ok (record { version = 4; offset = 0 })
unfolding raw_part
raw-v4 rest begins = let a = begins.some in let b = begins.version_is in grind (arith, nat_tests)

raw-v6 : (rest : List ℕ) → BeginsIp 6 rest → raw_part rest ≡ Ok (record { version = 6; offset = 0 })
unfolding raw_part
raw-v6 rest begins = let a = begins.some in let b = begins.version_is in grind (arith, nat_tests)

-- the version of an IP packet is told by its first octet
raw-from_ip : (version : ℕ) (rest : List ℕ) (original : ℕ) (ip : IpPart) → ip_part version rest original ≡ Ok ip
    → raw_part rest ≡ Ok (record { version = version; offset = 0 })
unfolding ip_part
raw-from_ip version rest original ip h =
    elim (cases_Bool (version == 4)) [
      | inl four ↦
          let is : version ≡ 4 = grind (arith, nat_tests) in
          let there : ipv4_part rest original ≡ Ok ip = rw four at h in
          rw is (raw-v4 rest (from-v4 rest original ip there))
      | inr other ↦
          let later = rw other at h in
          elim (cases_Bool (version == 6)) [
            | inl six ↦
                let is : version ≡ 6 = grind (arith, nat_tests) in
                let there : ipv6_part rest original ≡ Ok ip = rw six at later in
                rw is (raw-v6 rest (from-v6 rest original ip there))
            | inr neither ↦ let never = rw neither at later in absurd (cc)
          ]
    ]

raw_headers : (link : ℕ) (rec : PacketRecord) (headers : Headers) (layers : Layers link rec headers)
    → headers_of 101 (raw_record rec layers.frame) ≡ Ok headers
unfolding headers_of
raw_headers link rec headers layers =
    let rest = drop layers.frame.offset rec.captured in
    let raw : raw_part rest ≡ Ok (record { version = layers.frame.version; offset = 0 }) =
    raw-from_ip layers.frame.version rest (rec.original - layers.frame.offset) layers.ip layers.is_ip in
    let none : rec.original - layers.frame.offset - 0 ≡ rec.original - layers.frame.offset = omega arith in
    rw (raw, none, layers.is_ip, layers.is_transport, layers.whole) refl

-- An accepted record as one of raw IP, which gives the same packet.
pub record IsRawOf (linked : LinkedRecord) (n : ℕ) (packet : Packet) : Type 0 where
  pub raw : PacketRecord
  pub is_raw : raw_of linked ≡ Some raw
  pub gives : accepted_packet 101 true raw n ≡ Ok packet
  pub fits : Fits linked.rec → Fits raw

pub raw-accepted_packet : (linked : LinkedRecord) (n : ℕ) (packet : Packet)
    → accepted_packet linked.link true linked.rec n ≡ Ok packet
    → IsRawOf linked n packet
raw-accepted_packet linked n packet h =
    let parts = parts-of linked.link linked.rec n packet h in
    let layers = layers-of linked.link linked.rec parts.headers parts.is_headers in
    let raw = raw_record linked.rec layers.frame in
    let others : Parts 101 raw = record {
      time = parts.time;
      is_time = parts.is_time;
      headers = parts.headers;
      is_headers = raw_headers linked.link linked.rec parts.headers layers;
      key = parts.key;
      is_key = parts.is_key;
    } in
    let first = accepted_packet-with linked.link linked.rec 0 parts in
    record {
      raw = raw;
      is_raw = ap (λ (r : Result Packet Ignored). raw_if r linked) first
          ∙ ap (λ (r : Result LinkPart HeaderFault). option_map (raw_record linked.rec) (result_ok r)) layers.is_frame;
      gives = accepted_packet-with 101 raw n others ∙ sym (accepted_packet-with linked.link linked.rec n parts) ∙ h;
      fits = λ f. record {
        seconds = f.seconds;
        fraction = f.fraction;
        original = omega (arith, f.original);
        captured = omega (arith, f.captured, length-drop layers.frame.offset linked.rec.captured);
      };
    }

pub raw-ignored : (linked : LinkedRecord) (n : ℕ) (cause : Ignored) → accepted_packet linked.link true linked.rec n
    ≡ Err cause
    → raw_of linked ≡ None
raw-ignored linked n cause h =
    elim (result-cases (accepted_packet linked.link true linked.rec 0)) [
      | inl found ↦
          let parts = parts-of linked.link linked.rec 0 found.0 found.1 in
          let other = accepted_packet-with linked.link linked.rec n parts in
          absurd (cc)
      | inr found ↦ ap (λ (r : Result Packet Ignored). raw_if r linked) found.1
    ]
