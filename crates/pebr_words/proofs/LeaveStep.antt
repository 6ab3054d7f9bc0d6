-- The step Leave by itself.
use Rattle.std.proofs.Common.{◌≡◌, ℕ, List, [], get_or, ◌*◌, ◌<◌, le_refl, false, length, sym, refl, ap, ◌∙◌, subst}
use Rattle.std.proofs.Common.{inl, inr}
use Rattle.std.specs.Prelude.{not, Option, None}
use Rattle.pebr_core.specs.declared.kinds.Shape.{Shape}
use Rattle.pebr_core.specs.State.{State, Seat, seat_at, is_out}
use Rattle.pebr_core.specs.Steps.{after, after_leave, is_seat}
use Rattle.pebr_words.specs.Shown.{of_status, Tells}
use Rattle.pebr_words.specs.Making.{IsAsKnown, act_on}
use Rattle.pebr_words.specs.Ruled.{contents}
use Rattle.pebr_words.specs.Facts.{IsMade, IsMadeBy, IsKeptBy, IsRecalledBy}
use Rattle.pebr_words.specs.Pasts.{History}
use Rattle.pebr_core.specs.declared.kinds.Step.TheVariants as step
use Rattle.pebr_core.specs.declared.kinds.Stance.TheVariants as stance
use Rattle.pebr_words.proofs.Signs.{seat_here, seat_there, seat_signs}
use Rattle.pebr_words.proofs.StepLemmas.{and_true, not_ejected, in_list, is_one, in_known}
use Rattle.pebr_words.proofs.Makes.{kept_same}
use Rattle.pebr_words.proofs.Recalling.{recalls_same, read_is_whole}
use Rattle.pebr_words.specs.Ruled.{CanNote, BackedWhole}
use Rattle.atomic_table.proofs.Lists.{set_again}
use Rattle.pebr_words.specs.Making.{act_on}

-- a seat that leaves, from whichever status it knows
left_same : (known actual : Seat) → IsAsKnown known actual → after_leave actual ≡ after_leave known
left_same known actual (inl same) = ap after_leave same
left_same known actual (inr (epoch, was_in, now)) = ap after_leave now

pub leave_made : (core : State) (i found epoch : ℕ) (known : Seat) → i < length core.seats
    → IsAsKnown known (seat_at core i)
    → IsMade core (after core (step.Leave i)) (step.Leave i) found (4 * epoch) known
leave_made core i found epoch known inside as_known =
    let new : Seat = after_leave (seat_at core i) in record {
      shape = refl;
      told = subst (λ (s : Seat). Tells (of_status s.status) (4 * epoch)) (sym (seat_here core i new inside))
          (epoch, refl);
      signs = λ q apart. seat_signs core i new inside q (λ e. absurd (apart e)) (λ k _. refl);
      own = inl (seat_here core i new inside ∙ left_same known (seat_at core i) as_known);
      others = λ j other apart h. subst (IsAsKnown other) (sym (seat_there core i j new apart)) h;
      epoch = le_refl core.epoch;
      ejected =
          λ j epoch now. inl
          (not_ejected core i new inside (λ _ h. absurd (let e : stance.Out ≡ stance.Ejected _ = h in cc)) j epoch now);
      answered = refl;
    }

pub leave_by : (shape : Shape) (number epoch : ℕ) (known : Seat) → is_out known.status ≡ false
    → IsMadeBy shape (step.Leave number) number known (λ _. 4 * epoch)
leave_by shape number epoch known in' core found is_shape sound inside as_known told = (
  and_true (is_seat core number) (not (is_out (seat_at core number).status))
      (is_one shape core number is_shape sound inside) (ap not (in_known known (seat_at core number) in' as_known)),
  leave_made core number found epoch known (in_list shape core number is_shape sound inside) as_known,
)

pub leave_recalled : {shape : Shape} (number : ℕ) {known : Seat} {past : History} (left : ℕ → ℕ)
    → IsRecalledBy shape (step.Leave number) number known past left
leave_recalled number left = recalls_same (step.Leave number) number left (λ a. refl) (λ a. refl) (λ a. refl)
    (λ core found before one. refl) (λ shape found slot h. h) (λ j root e. cc) (λ i slot word value e. cc)
    (λ i root old new e. cc)

-- the note changes where the protocol lets it
pub leave_kept : {N A : Type 0} (keeps : List (List ℕ) → List N → Type 0) (plain : List ℕ → Type 0)
    (backed : List N → List ℕ → Type 0) (after_act : N → A → N) {shape : Shape} (act : Option A) (number : ℕ)
    {known : Seat} {past : History} (note : N) (left : ℕ → ℕ)
    → CanNote keeps backed shape known past number note (act_on after_act act note)
    → IsKeptBy keeps (BackedWhole plain backed) after_act shape (step.Leave number) act number known past note left
leave_kept {N} keeps plain backed after_act {shape} act number {known} {past} note left can law core notes found before
    kept at are_whole =
    let told = can (contents core) notes kept at (read_is_whole (backed notes) shape core number known past
    before.shape_is before.sound before.inside before.as_known before.recalls
    (λ slot low nowhere. (are_whole slot low nowhere).1)) in
    let same = kept_same keeps (BackedWhole plain backed) after_act (step.Leave number) None number {known = known}
    {past = past} note left (λ core. refl) (λ core. refl) (λ found. refl) (λ shape found slot h. h) law core notes found
    before kept at are_whole in (
      told.0,
      λ slot low nowhere.
          (let content : List ℕ = get_or core.words slot [] in
          let was = subst (λ (ns : List N). BackedWhole plain backed ns content) (set_again notes number note at)
          (same.1 slot low nowhere) in (was.0, told.1 content was.1)),
    )
