-- What stands when a fragment is put into one of two entries.
use Rattle.std.proofs.Common.{◌≡◌, inr, ℕ, zero, suc, ◌+◌, ◌*◌, ◌^◌, ◌<◌, ◌≤◌, List, [], ◌∷◌, ◌++◌, length, All, Option}
use Rattle.std.proofs.Common.{Some, None, IsNone, IfSome, option_to_list, get_or, set, refl, ap, sym, ◌∙◌, subst, arith}
use Rattle.std.specs.Prelude.{map}
use Rattle.std.proofs.lemmas.List.{length-map, length-set, map-set, get_or-set_other}
use Rattle.std.proofs.lemmas.List.Elements.{All-get_or, All-set}
use Rattle.packet_accept.specs.declared.packet.Packet.{Packet}
use Rattle.flow_parts.specs.declared.fragment.Fragment.{Fragment}
use Rattle.flow_parts.specs.declared.timeouts.Timeouts.{Timeouts}
use Rattle.flow_parts.specs.Parts.{IsAlone, part_words}
use Rattle.flow_parts.specs.Reaching.{Reaches}
use Rattle.cache_face.specs.declared.metered.How.{How}
use Rattle.cache_face.specs.Choice.{IsChoice, Takes, entry_at}
use Rattle.cache_face.specs.Keeping.{IsBounded, IsSmall, IsWhole, entry_of, packet_count}
use Rattle.cache_face.proofs.Contents.{choice_takes, words_show}
use Rattle.cache_choice.proofs.ByWords.{entry_here}
use Rattle.cache_choice.proofs.Entries.{choice_below, kept_fits, reached_at}
use Rattle.front_cache.specs.Fronts.{FrontMeans, IsTakenIn, entries_of, open_in, parts_in, place_of}
use Rattle.front_cache.specs.Kept.{IsKept, IsPutIn, two_shown}

-- two entries of contents are those that the contents show
two_are : (contents : List (List ℕ)) (first place : ℕ) → first ≡ 2 * place → first + 1 < length contents
    → two_shown contents first ≡ entries_of (map entry_of contents) place
two_are contents first place is low =
    let one = sym (entry_here contents first (omega (arith, low))) ∙ ap (entry_at (map entry_of contents)) is in
    let other = sym (entry_here contents (first + 1) low) ∙ ap (λ i. entry_at (map entry_of contents) (i + 1)) is in
    λ i. one i ∷ other i ∷ []

pub one_of_two : (contents : List (List ℕ)) (first entry : ℕ) → entry < 2
    → entry_at (two_shown contents first) entry ≡ entry_of (get_or contents (first + entry) [])
one_of_two contents first zero low = ap (λ i. entry_of (get_or contents i [])) (omega arith)
one_of_two contents first (suc zero) low = ap (λ i. entry_of (get_or contents i [])) (omega arith)
one_of_two contents first (suc (suc entry)) low = absurd (omega (arith, low))

-- what is said of a front after a packet was taken in
pub record Answer (limits : Timeouts) (old : FrontMeans) (contents : List (List ℕ)) (next : ℕ) (packet : Packet)
    (out : Option Fragment) : Type 0 where
  pub kept : IsKept contents next
  pub taken : IsTakenIn old (record { limits = limits; entries = map entry_of contents }) packet out
  pub reached : (own : Fragment) × IsAlone packet own
      × Reaches old.limits (own ∷ open_in old) (option_to_list out ++ parts_in (map entry_of contents))
  pub bounded : IfSome out IsBounded

pub turned_to : (limits : Timeouts) (old old' : FrontMeans) (contents contents' : List (List ℕ)) (next : ℕ)
    (packet : Packet) (out : Option Fragment) → old ≡ old' → contents' ≡ contents
    → Answer limits old contents next packet out → Answer limits old' contents' next packet out
turned_to limits old old' contents contents' next packet out here there answer =
    subst (λ f. Answer limits f contents' next packet out) here
    (subst (λ c. Answer limits old c next packet out) (sym there) answer)

module _ (limits : Timeouts) (old new : List (List ℕ)) (next next' first : ℕ) (own : Fragment) (packet : Packet)
    (how : How) (place : ℕ) (out : Option Fragment)
    (keeps : IsKept old next) (alone : IsAlone packet own) (few : packet.octets < 2 ^ 24)
    (room : packet_count (parts_in (map entry_of old)) + 1 ≤ 2 ^ 32)
    (here : first ≡ 2 * place_of own.key) (low : place_of own.key < 2048)
    (put : IsPutIn limits old new first own how place out) where
  both : first + 1 < length old
  both = let many = keeps.many in omega (arith, many, low, here)

  entry_low : put.entry < 2
  entry_low = choice_below limits (two_shown old first) own put.kept how put.entry out put.chosen

  place_low : place < length old
  place_low = let which = entry_low in let two = both in let at = put.at in omega (arith, which, two, at)

  entry_is : entry_at (two_shown old first) put.entry ≡ entry_at (map entry_of old) place
  entry_is = one_of_two old first put.entry entry_low ∙ ap (λ i. entry_of (get_or old i [])) (sym put.at)
      ∙ sym (entry_here old place place_low)

  takes : Takes limits own (entry_at (map entry_of old) place) out put.kept
  takes = subst (λ e. Takes limits own e out put.kept) entry_is
      (choice_takes limits (two_shown old first) own put.kept how put.entry out put.chosen)

  pub put_length : length new ≡ length old
  put_length = ap length put.written ∙ length-set old place (part_words put.kept)

  anew_is : map entry_of new ≡ set (map entry_of old) place (Some put.kept)
  anew_is = ap (map entry_of) put.written ∙ map-set entry_of old place (part_words put.kept)
      ∙ ap (λ e. set (map entry_of old) place e) (words_show put.kept)

  fits : IsSmall put.kept × IsBounded put.kept × IfSome out IsBounded
  fits = kept_fits limits (map entry_of old) own put.kept place out alone.packets
      (subst (λ n. n < 2 ^ 24) (sym alone.octets) few) room
      (subst (λ e. IfSome e IsBounded) (sym (entry_here old place place_low))
      (All-get_or (λ content. IfSome (entry_of content) IsBounded) old place [] place_low keeps.bounded)) takes

  still_kept : next' ≤ next → next' ≤ place → IsKept new next'
  still_kept less above = record {
    many = put_length ∙ keeps.many;
    whole = subst (All IsWhole) (sym put.written)
        (All-set IsWhole old place (part_words put.kept) (inr (put.kept, refl, fits.0)) keeps.whole);
    bounded = subst (All (λ content. IfSome (entry_of content) IsBounded)) (sym put.written)
        (All-set (λ content. IfSome (entry_of content) IsBounded) old place (part_words put.kept)
        (subst (λ e. IfSome e IsBounded) (sym (words_show put.kept)) fits.1) keeps.bounded);
    within = (let within = keeps.within in omega (arith, within, less));
    emptied = λ other below.
        subst (λ (es : List (Option Fragment)). IsNone (entry_at es other)) (sym anew_is)
        (subst IsNone
        (sym (get_or-set_other (map entry_of old) place other (Some put.kept) None
        (λ e. omega (arith, e, below, above))))
        (keeps.emptied other (omega (arith, below, less))));
  }

  pub answer : next' ≤ next → next' ≤ place
      → Answer limits (record { limits = limits; entries = map entry_of old }) new next' packet out
  answer less above = record {
    kept = still_kept less above;
    taken = record {
      own = own;
      alone = alone;
      how = how;
      entry = put.entry;
      kept = put.kept;
      chosen = subst (λ (es : List (Option Fragment)). IsChoice limits es own how put.entry out put.kept)
          (two_are old first (place_of own.key) here both) put.chosen;
      written = anew_is ∙ ap (λ i. set (map entry_of old) i (Some put.kept)) (put.at ∙ ap (λ i. i + put.entry) here);
    };
    reached = (
      own,
      alone,
      subst (λ (es : List (Option Fragment)). Reaches limits (own ∷ parts_in (map entry_of old))
          (option_to_list out ++ parts_in es)) (sym anew_is)
          (reached_at limits (map entry_of old) own put.kept place out
          (subst (λ n. place < n) (sym (length-map old entry_of)) place_low) takes),
    );
    bounded = fits.2;
  }
