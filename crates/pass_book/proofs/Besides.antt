-- What a book has beside the note of the cache's own words.
use Rattle.std.proofs.Common.{◌≡◌, ◌≤◌, ◌++◌, ℕ, List, [], ◌∷◌, Option, Some, option_to_list, All}
use Rattle.std.proofs.Common.{IsPermutation, append_assoc, sym, subst, arith}
use Rattle.std.proofs.lemmas.List.Sums.{sum_by-append}
use Rattle.std.proofs.lemmas.List.Elements.{All-weaker}
use Rattle.std.proofs.lemmas.List.Sorted.{sum_by-IsPermutation, IsPermutation-refl, IsPermutation-trans, IsPermutation-sym}
use Rattle.std.proofs.lemmas.List.Sorted.{IsPermutation-append_left, IsPermutation-append_right, IsPermutation-append_comm}
use Rattle.std.proofs.lemmas.List.Sorted.{IsPermutation-append}
use Rattle.flow_parts.specs.declared.fragment.Fragment.{Fragment}
use Rattle.flow_parts.specs.declared.timeouts.Timeouts.{Timeouts}
use Rattle.flow_parts.specs.Reaching.{Reaches}
use Rattle.flow_parts.proofs.Reaching.{turned, beside}
use Rattle.cache_face.specs.Keeping.{packet_count, IsBorne}
use Rattle.cache_face.specs.Notes.{Note, note_with, merged_note}
use Rattle.pass_book.specs.Books.{Book, first_book, book_with, merged_book, IsBeside}

-- what is added to both stands behind what went by
grown : (book note past more : List Fragment) → IsPermutation book (note ++ past)
    → IsPermutation (book ++ more) ((note ++ more) ++ past)
grown book note past more s =
    IsPermutation-trans (book ++ more) ((note ++ past) ++ more) ((note ++ more) ++ past)
    (IsPermutation-append_left more book (note ++ past) s)
    (subst (λ (l : List Fragment). IsPermutation ((note ++ past) ++ more) l) (sym (append_assoc note more past))
    (subst (λ (l : List Fragment). IsPermutation l (note ++ (more ++ past))) (sym (append_assoc note past more))
    (IsPermutation-append_right note (past ++ more) (more ++ past) (IsPermutation-append_comm past more))))

-- what is added to the book alone went by
passed : (book note past more : List Fragment) → IsPermutation book (note ++ past)
    → IsPermutation (book ++ more) (note ++ (past ++ more))
passed book note past more s = subst (λ (l : List Fragment). IsPermutation (book ++ more) l)
    (append_assoc note past more) (IsPermutation-append_left more book (note ++ past) s)

-- two of each become one
two : (book note past book' note' past' : List Fragment) → IsPermutation book (note ++ past)
    → IsPermutation book' (note' ++ past') → IsPermutation (book ++ book') ((note ++ note') ++ (past ++ past'))
two book note past book' note' past' s t =
    IsPermutation-trans (book ++ book') ((note ++ past) ++ (note' ++ past')) ((note ++ note') ++ (past ++ past'))
    (IsPermutation-append book (note ++ past) book' (note' ++ past') s t)
    (subst (λ (l : List Fragment). IsPermutation l ((note ++ note') ++ (past ++ past')))
    (append_assoc (note ++ past) note' past')
    (subst (λ (l : List Fragment). IsPermutation (((note ++ past) ++ note') ++ past') l)
    (append_assoc (note ++ note') past past')
    (IsPermutation-append_left past' ((note ++ past) ++ note') ((note ++ note') ++ past)
    (grown (note ++ past) note past note' (IsPermutation-refl (note ++ past))))))

pub beside_first : (note : Note) → note.taken ≡ [] → note.handed ≡ [] → IsBeside note first_book
beside_first note taken handed = record {
  bypassed = [];
  taken = subst (λ (l : List Fragment). IsPermutation [] (l ++ [])) (sym taken) (IsPermutation-refl []);
  handed = subst (λ (l : List Fragment). IsPermutation [] (l ++ [])) (sym handed) (IsPermutation-refl []);
}

pub beside_put : (note : Note) (book : Book) (own : Fragment) (out : Option Fragment) → IsBeside note book
    → IsBeside (note_with note own out) (book_with book own out)
beside_put note book own out h = record {
  bypassed = h.bypassed;
  taken = grown book.taken note.taken h.bypassed (own ∷ []) h.taken;
  handed = grown book.handed note.handed h.bypassed (option_to_list out) h.handed;
}

pub beside_passed : (note : Note) (book : Book) (own : Fragment) → IsBeside note book
    → IsBeside note (book_with book own (Some own))
beside_passed note book own h = record {
  bypassed = h.bypassed ++ own ∷ [];
  taken = passed book.taken note.taken h.bypassed (own ∷ []) h.taken;
  handed = passed book.handed note.handed h.bypassed (own ∷ []) h.handed;
}

pub beside_merged : (note note' : Note) (book book' : Book) → IsBeside note book → IsBeside note' book'
    → IsBeside (merged_note note note') (merged_book book book')
beside_merged note note' book book' h k = record {
  bypassed = h.bypassed ++ k.bypassed;
  taken = two book.taken note.taken h.bypassed book'.taken note'.taken k.bypassed h.taken k.taken;
  handed = two book.handed note.handed h.bypassed book'.handed note'.handed k.bypassed h.handed k.handed;
}

-- the cache's own words took no more packets
pub fewer : (note : Note) (book : Book) → IsBeside note book → packet_count note.taken ≤ packet_count book.taken
fewer note book h =
    let packets : Fragment → ℕ = λ part. part.packets in
    let same = sum_by-IsPermutation packets book.taken (note.taken ++ h.bypassed) h.taken in
    let parts = sum_by-append packets note.taken h.bypassed in omega (arith, same, parts)

-- what is reached in the cache's own words is reached with what went by
pub ended : (limits : Timeouts) (note : Note) (book : Book) (parts : List Fragment) → IsBeside note book
    → Reaches limits note.taken (parts ++ note.handed) → Reaches limits book.taken (parts ++ book.handed)
ended limits note book parts h r =
    turned limits (note.taken ++ h.bypassed) book.taken ((parts ++ note.handed) ++ h.bypassed) (parts ++ book.handed)
    (IsPermutation-sym book.taken (note.taken ++ h.bypassed) h.taken)
    (subst (λ (l : List Fragment). IsPermutation l (parts ++ book.handed))
    (sym (append_assoc parts note.handed h.bypassed))
    (IsPermutation-append_right parts (note.handed ++ h.bypassed) book.handed
    (IsPermutation-sym book.handed (note.handed ++ h.bypassed) h.handed)))
    (beside limits note.taken (parts ++ note.handed) h.bypassed r)

pub borne : (limits : Timeouts) (note : Note) (book : Book) (part : Fragment) → IsBeside note book
    → IsBorne limits note.taken part → IsBorne limits book.taken part
borne limits note book part h b = (
  b.0 ++ h.bypassed,
  turned limits (note.taken ++ h.bypassed) book.taken (part ∷ (b.0 ++ h.bypassed)) (part ∷ (b.0 ++ h.bypassed))
      (IsPermutation-sym book.taken (note.taken ++ h.bypassed) h.taken)
      (IsPermutation-refl (part ∷ (b.0 ++ h.bypassed)))
      (beside limits note.taken (part ∷ b.0) h.bypassed b.1),
)

pub all_borne : (limits : Timeouts) (note : Note) (book : Book) (seen : List Fragment) → IsBeside note book
    → All (IsBorne limits note.taken) seen → All (IsBorne limits book.taken) seen
all_borne limits note book seen h all =
    All-weaker (IsBorne limits note.taken) (IsBorne limits book.taken) (λ part b. borne limits note book part h b)
    seen all
