-- The walk over the extension headers, one header at a time.
use Rattle.std.proofs.Common.{not, ◌≡◌, ◌<◌, ◌≤◌, ℕ, zero, suc, Bool, true, false, List, length, drop, Ok, Err, refl}
use Rattle.std.proofs.Common.{◌∙◌, arith, if◌then◌else◌, length-drop}
use Rattle.std.proofs.lemmas.Grind.{common_steps}
use Rattle.packet_headers.specs.declared.fault.HeaderFault.TheVariants.{Short}
use Rattle.octets.specs.Numbers.{octet_at}
use Rattle.packet_headers.specs.Extensions.{is_extension, extension_length, is_whole, is_later_fragment, over_at_most}
use Rattle.packet_headers.specs.Extensions.{upper_part, WalksOn}

-- an extension header has at least eight octets
pub extension_length-least : (next : ℕ) (headers : List ℕ) → 8 ≤ extension_length next headers
extension_length-least next headers = grind (arith, common_steps)

-- a whole header lies inside
pub is_whole-inside : (next : ℕ) (headers : List ℕ) → is_whole next headers ≡ true
    → extension_length next headers ≤ length headers
is_whole-inside next headers whole = grind (arith, common_steps)

-- behind a whole header less is left
pub rest_shorter : (n next : ℕ) (headers : List ℕ) → is_whole next headers ≡ true → length headers < suc n
    → length (drop (extension_length next headers) headers) < n
rest_shorter n next headers whole room =
    let least = extension_length-least next headers in
    let inside = is_whole-inside next headers whole in
    simp (length-drop) (omega arith)

-- two answers that differ only in how the walk goes on behind a whole header
same_choice : {A : Type 0} (extension whole later : Bool) (fragment cut end one other : A)
    → (whole ≡ true → one ≡ other)
    → (if not extension then end else if not whole then cut else if later then fragment else one)
    ≡ (if not extension then end else if not whole then cut else if later then fragment else other)
same_choice false whole later fragment cut end one other same = refl
same_choice true false later fragment cut end one other same = refl
same_choice true true true fragment cut end one other same = refl
same_choice true true false fragment cut end one other same = same refl

-- more headers than there are octets are as good as any number of them
pub over_at_most-enough : (n m next : ℕ) (headers : List ℕ) → length headers < n → length headers < m
    → over_at_most n next headers ≡ over_at_most m next headers
unfolding over_at_most
over_at_most-enough zero m next headers n_room m_room = absurd (omega arith)
over_at_most-enough (suc n) zero next headers n_room m_room = absurd (omega arith)
over_at_most-enough (suc n) (suc m) next headers n_room m_room =
    same_choice (is_extension next) (is_whole next headers) (is_later_fragment next headers) _ _ _ _ _
    (λ whole. over_at_most-enough n m (octet_at 0 headers) (drop (extension_length next headers) headers)
    (rest_shorter n next headers whole n_room) (rest_shorter m next headers whole m_room))

-- the walk goes over one header, and then over what is left
pub walks_on : (next : ℕ) (headers : List ℕ) → WalksOn next headers
unfolding over_at_most upper_part
walks_on next headers =
    same_choice (is_extension next) (is_whole next headers) (is_later_fragment next headers) _ _ _ _ _
    (λ whole. over_at_most-enough (length headers) (suc (length (drop (extension_length next headers) headers)))
    (octet_at 0 headers) (drop (extension_length next headers) headers)
    (rest_shorter (length headers) next headers whole (omega arith)) (omega arith))

-- the step, by what the header is
pub upper_part-end : (next : ℕ) (headers : List ℕ) → is_extension next ≡ false
    → upper_part next headers ≡ Ok (record { protocol = next; later = false; payload = headers })
upper_part-end next headers end = walks_on next headers ∙ rw end refl

pub upper_part-cut : (next : ℕ) (headers : List ℕ) → is_extension next ≡ true → is_whole next headers ≡ false
    → upper_part next headers ≡ Err Short
upper_part-cut next headers more cut = walks_on next headers ∙ rw (more, cut) refl

pub upper_part-later : (next : ℕ) (headers behind : List ℕ) (octets : ℕ) → is_extension next ≡ true
    → is_whole next headers ≡ true → is_later_fragment next headers ≡ true
    → octets ≡ extension_length next headers → behind ≡ drop octets headers
    → upper_part next headers ≡ Ok (record { protocol = octet_at 0 headers; later = true; payload = behind })
upper_part-later next headers behind octets more whole later long rest =
    let eight : extension_length next headers ≡ 8 = grind (arith, common_steps) in
    walks_on next headers ∙ rw (more, whole, later, rest, long, eight) refl

pub upper_part-more : (next : ℕ) (headers behind : List ℕ) (octets : ℕ) → is_extension next ≡ true
    → is_whole next headers ≡ true → is_later_fragment next headers ≡ false
    → octets ≡ extension_length next headers → behind ≡ drop octets headers
    → upper_part next headers ≡ upper_part (octet_at 0 headers) behind
upper_part-more next headers behind octets more whole first long rest =
    walks_on next headers ∙ rw (more, whole, first, rest, long) refl

pub ruleset walk_laws = (upper_part-end, upper_part-cut)
