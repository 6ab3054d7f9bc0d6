use Rattle.std.proofs.Common.{rules, ◌≡◌, ◌<◌, ℕ, List, Option, Some, None, refl, sym, ap, ◌∙◌, subst, length}
use Rattle.std.proofs.Common.{arith}
use Rattle.std.specs.Prelude.{IfSome, IsNone}
use Rattle.flow_parts.specs.declared.fragment.Fragment.{Fragment}
use Rattle.cache_face.specs.Choice.{HasKey, HasNone, IsLowest, entry_at}
use Rattle.pebr_core.specs.State.{Seat}
use Rattle.pebr_words.specs.Pasts.{History}
use Rattle.pebr_roots.specs.Passes.{known_by_pass, past_by, operations_by}
use Rattle.pebr_roots.proofs.Counts.{made_on}
use Rattle.flow_cache.specs.Reading.{entries_read}
use Rattle.cache_watch.specs.Holding.{IsHolding, IsHeld}
use Rattle.cache_watch.specs.declared.watcher.Hold.{Hold}
use Rattle.cache_watch.proofs.Entries.{holds}
use Rattle.cache_watch.proofs.hold.keep.Goals as goal

-- what is said of a value that is there
with_some : {A : Type 0} (P Q : A → Type 0) (o : Option A) → IfSome o P → ((a : A) → o ≡ Some a → P a → Q a)
    → IfSome o Q
with_some P Q None p f = p
with_some P Q (Some a) p f = f a refl p

-- of a value that is there
of_some : {A : Type 0} (P : Type 0) (o : Option A) (a : A) → o ≡ Some a → IfSome o (λ _. P) → P
of_some P o a is p = subst (λ x. IfSome x (λ _. P)) is p

none_is : {A : Type 0} (o : Option A) → IsNone o → o ≡ None
none_is None none = refl
none_is (Some a) none = absurd cc

pub leave-requires-clause-held : goal.leave-requires-clause-held
leave-requires-clause-held c =
    let key = c.args.key.now in
    let set : ℕ = c.args.set in
    let entries : List (Option Fragment) = c.read_set-entries.result in
    let start = c.args.seat.now in
    let mid = c.read_set-entries.new.pass in
    let is : entries ≡ entries_read (past_by mid) set = c.read_set-entries.ensures.entries set c.requires.protected in
    let four : length entries ≡ 4 = search rules in
    with_some
    (λ (hold : Hold). IsLowest (HasKey key) entries hold.place × (entry_at entries hold.place ≡ Some hold.fragment))
    (λ (hold : Hold). IsHolding hold.place hold.fragment (known_by_pass mid) (past_by mid))
    c.lowest_of-hold.result c.lowest_of-hold.ensures.some
    (λ hold some h. (let low : hold.place < 4 = (let b = h.0.below in omega (arith, b, four)) in
    holds set hold.place hold.fragment (known_by_pass start) (known_by_pass mid) (past_by mid)
    (past_by start) (past_by mid)
    entries low c.requires.protected is h.1 (ap (λ (p : History). p.loads) c.read_set-entries.ensures.past)
    c.read_set-entries.ensures.ten (ap (λ (k : Seat). k.shields) c.read_set-entries.ensures.known) refl))

pub returns-clause-held : goal.returns-clause-held
returns-clause-held c =
    let key = c.args.key.now in
    let set : ℕ = c.args.set in
    let entries : List (Option Fragment) = c.read_set-entries.result in
    let start = c.args.seat.now in
    let mid = c.read_set-entries.new.pass in
    let end = c.leave.new.seat in
    let is : entries ≡ entries_read (past_by mid) set = c.read_set-entries.ensures.entries set c.requires.protected in
    let same : entries_read (past_by end) set ≡ entries_read (past_by mid) set =
    ap (λ (p : History). entries_read p set) c.leave.ensures.past in
    let four : length entries ≡ 4 = search rules in
    with_some
    (λ (hold : Hold). IsLowest (HasKey key) entries hold.place × (entry_at entries hold.place ≡ Some hold.fragment))
    (λ (hold : Hold). IsHolding hold.place hold.fragment (known_by_pass end) (past_by end)
    × IsHeld set key (past_by end) hold.fragment)
    c.lowest_of-hold.result c.lowest_of-hold.ensures.some
    (λ hold some h. (let low : hold.place < 4 =
    (let b = h.0.below in omega (arith, b, four)) in (
      holds set hold.place hold.fragment (known_by_pass start) (known_by_pass end) (past_by mid) (past_by start)
          (past_by end) entries low c.requires.protected is h.1
          (ap (λ (p : History). p.loads) c.read_set-entries.ensures.past)
          c.read_set-entries.ensures.ten
          (of_some _ c.lowest_of-hold.result hold some c.leave.ensures.held
          ∙ ap (λ (k : Seat). k.shields) c.read_set-entries.ensures.known)
          (ap (λ (p : History). p.reads) c.leave.ensures.past),
      record {
        four = ap length (same ∙ sym is) ∙ four;
        place = hold.place;
        lowest = subst (λ es. IsLowest (HasKey key) es hold.place) (is ∙ sym same) h.0;
        is = subst (λ es. entry_at es hold.place ≡ Some hold.fragment) (is ∙ sym same) h.1;
      },
    )))

pub returns-clause-absent : goal.returns-clause-absent
returns-clause-absent c none =
    let set : ℕ = c.args.set in
    let entries : List (Option Fragment) = c.read_set-entries.result in
    let mid = c.read_set-entries.new.pass in
    let end = c.leave.new.seat in
    let is : entries ≡ entries_read (past_by mid) set = c.read_set-entries.ensures.entries set c.requires.protected in
    let same : entries_read (past_by end) set ≡ entries_read (past_by mid) set =
    ap (λ (p : History). entries_read p set) c.leave.ensures.past in
    let four : length entries ≡ 4 = search rules in (
      c.leave.ensures.down (none_is c.lowest_of-hold.result none),
      (
        ap length (same ∙ sym is) ∙ four,
        subst (HasNone (HasKey c.args.key.now)) (is ∙ sym same) (c.lowest_of-hold.ensures.none none),
      ),
    )

pub returns-clause-few : goal.returns-clause-few
returns-clause-few c =
    made_on 40 5 (operations_by c.args.seat.now) (operations_by c.read_set-entries.new.pass)
    (operations_by c.leave.new.seat) c.read_set-entries.ensures.few c.leave.ensures.few
