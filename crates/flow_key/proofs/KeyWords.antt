-- A key is known by its fields, and so by its words.
use Rattle.std.proofs.Common.{◌≡◌, ◌≢◌, ℕ, ◌+◌, ◌*◌, ◌/◌, ◌%◌, ◌<◌, ◌^◌, arith, ap, sym, ◌∙◌, get_or}
use Rattle.std.proofs.lemmas.Nat.{shr_high, mod_low}
use mathlib.Core.HLevel.{is_prop→PathP}
use Rattle.std.proofs.Props.{props}
use Rattle.flow_key.specs.declared.key.FlowKey.{FlowKey}
use Rattle.flow_key.specs.Key.{words_of}

-- two keys with the same fields are one key
pub key_same : (a b : FlowKey) → a.version ≡ b.version → a.source ≡ b.source → a.destination ≡ b.destination
    → a.protocol ≡ b.protocol → a.source_port ≡ b.source_port → a.destination_port ≡ b.destination_port → a ≡ b
key_same a b v s d p sp dp = λ i. record {
  version = v i;
  source = s i;
  destination = d i;
  protocol = p i;
  source_port = sp i;
  destination_port = dp i;
  known = is_prop→PathP (λ j. v j ≢ 4 → v j ≡ 6) (λ j. hlevel props) a.known b.known i;
  narrow = is_prop→PathP (λ j. v j ≡ 4 → (s j < 2 ^ 32) × (d j < 2 ^ 32)) (λ j. hlevel props) a.narrow b.narrow i;
  sized = is_prop→PathP (λ j. (s j < 2 ^ 128) × (d j < 2 ^ 128) × (p j < 2 ^ 8) × (sp j < 2 ^ 16) × (dp j < 2 ^ 16))
      (λ j. hlevel props) a.sized b.sized i;
}

-- numbers side by side are known by the number that they make
apart : (k a b c d : ℕ) → b < 2 ^ k → d < 2 ^ k → a * 2 ^ k + b ≡ c * 2 ^ k + d → (a ≡ c) × (b ≡ d)
apart k a b c d l m e = (
  sym (shr_high a k b l) ∙ ap (λ n. n / 2 ^ k) e ∙ shr_high c k d m,
  sym (mod_low a k b l) ∙ ap (λ n. n % 2 ^ k) e
      ∙ mod_low c k d m,
)

whole : (a b : ℕ) → a / 2 ^ 64 ≡ b / 2 ^ 64 → a % 2 ^ 64 ≡ b % 2 ^ 64 → a ≡ b
whole a b h l = grind arith

-- the four numbers of a first word are known by it
first_word : (a b : FlowKey) → a.version * 2 ^ 40 + a.protocol * 2 ^ 32 + a.source_port * 2 ^ 16 + a.destination_port
    ≡ b.version * 2 ^ 40 + b.protocol * 2 ^ 32 + b.source_port * 2 ^ 16 + b.destination_port
    → (a.version ≡ b.version) × (a.protocol ≡ b.protocol) × (a.source_port ≡ b.source_port)
    × (a.destination_port ≡ b.destination_port)
first_word a b e =
    let ports = apart 16 ((a.version * 2 ^ 8 + a.protocol) * 2 ^ 16 + a.source_port) a.destination_port
    ((b.version * 2 ^ 8 + b.protocol) * 2 ^ 16 + b.source_port) b.destination_port a.sized.4 b.sized.4 (omega arith) in
    let port = apart 16 (a.version * 2 ^ 8 + a.protocol) a.source_port
    (b.version * 2 ^ 8 + b.protocol) b.source_port a.sized.3 b.sized.3 ports.0 in
    let top = apart 8 a.version a.protocol b.version b.protocol a.sized.2 b.sized.2 port.0 in
    (top.0, top.1, port.1, ports.1)

-- two keys with the same words are one key
pub same_words : (a b : FlowKey) → words_of a ≡ words_of b → a ≡ b
same_words a b e =
    let at : (k : ℕ) → get_or (words_of a) k 0 ≡ get_or (words_of b) k 0 = λ k. ap (λ ws. get_or ws k 0) e in
    let first = first_word a b (at 0) in
    key_same a b first.0 (whole a.source b.source (at 1) (at 2))
    (whole a.destination b.destination (at 3) (at 4)) first.1 first.2 first.3
