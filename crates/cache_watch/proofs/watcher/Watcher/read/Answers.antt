use Rattle.std.proofs.Common.{◌≡◌, List, Option, Some, None, sym, ap, ◌∙◌, subst}
use Rattle.std.specs.Prelude.{IfSome, MatchOption, option_map}
use Rattle.flow_parts.specs.declared.fragment.Fragment.{Fragment}
use Rattle.cache_face.specs.Notes.{Note, first_note}
use Rattle.pebr_core.specs.State.{Seat}
use Rattle.pebr_words.specs.Pasts.{Read}
use Rattle.pebr_roots.specs.Passes.{known_by_pass, past_by, note_by}
use Rattle.pebr_roots.specs.Under.{slot_at}
use Rattle.flow_cache.specs.Trying.{HasReadTen}
use Rattle.cache_watch.specs.declared.watcher.Hold.{Hold}
use Rattle.cache_watch.specs.Holding.{IsHolding}
use Rattle.cache_watch.proofs.Entries.{again, still_holding}
use Rattle.cache_watch.proofs.Watches.{goes_on, beside_seen}
use Rattle.cache_watch.proofs.watcher.Watcher.read.Goals as goal

pub unreachable-requires-in-None : goal.unreachable-requires-in-None
unreachable-requires-in-None c =
    let seat = c.args.self.now.seat in
    let hold : Hold = c.in-Some.hold in
    let h = subst (λ o. IfSome o (λ (hold : Hold). IsHolding hold.place hold.fragment (known_by_pass seat)
    (past_by seat)))
    c.in-Some.is c.requires.of.holds in
    let e = again hold.place hold.fragment (known_by_pass seat) (past_by seat)
    (past_by c.read_entry.new.pass) c.read_entry.result h c.read_entry.ensures.more c.read_entry.ensures.entry in
    let none : None ≡ Some hold.fragment = sym c.in-None.is ∙ e in
    absurd cc

pub returns-clause-of : goal.returns-clause-of
returns-clause-of c =
    let seat = c.args.self.now.seat in
    let holding : Hold → Type 0 = λ hold. IsHolding hold.place hold.fragment (known_by_pass seat) (past_by seat) in
    let end = c.read_entry.new.pass in
    let hold : Hold = c.in-Some.hold in
    let h : IsHolding hold.place hold.fragment (known_by_pass seat) (past_by seat) =
    subst (λ o. IfSome o holding) c.in-Some.is c.requires.of.holds in
    goes_on c.args.cache.now c.args.self.now _ c.requires.of c.read_entry.ensures.same
    (ap (λ (n : Note). n.seats) c.read_entry.ensures.note)
    (beside_seen None (note_by first_note seat) (note_by first_note end) c.args.self.now.book
    c.read_entry.ensures.note c.requires.of.beside)
    (subst (λ o. IfSome o (λ (hold : Hold). IsHolding hold.place hold.fragment (known_by_pass end) (past_by end)))
    (sym c.in-Some.is)
    (still_holding hold.place hold.fragment (known_by_pass seat) (known_by_pass end) (past_by seat)
    (past_by end) h c.read_entry.ensures.known c.read_entry.ensures.more))

pub returns-clause-read : goal.returns-clause-read
returns-clause-read c =
    let seat = c.args.self.now.seat in
    let hold : Hold = c.in-Some.hold in
    let h = subst (λ o. IfSome o (λ (hold : Hold). IsHolding hold.place hold.fragment (known_by_pass seat)
    (past_by seat)))
    c.in-Some.is c.requires.of.holds in
    sym c.in-Some-read_entry.is
    ∙ again hold.place hold.fragment (known_by_pass seat) (past_by seat)
    (past_by c.read_entry.new.pass) c.read_entry.result h c.read_entry.ensures.more c.read_entry.ensures.entry
    ∙ ap (λ o. option_map (λ (hold : Hold). hold.fragment) o) (sym c.in-Some.is)

pub returns-clause-slot : goal.returns-clause-slot
returns-clause-slot c =
    ap (λ (known : Seat). option_map (λ (hold : Hold). slot_at known hold.place) c.args.self.now.held)
    c.read_entry.ensures.known

pub returns-clause-ten : goal.returns-clause-ten
returns-clause-ten c =
    let seat = c.args.self.now.seat in
    let old : List Read = (past_by seat).reads in
    let new : List Read = (past_by c.read_entry.new.pass).reads in
    let hold : Hold = c.in-Some.hold in
    let entry : Option Fragment = c.read_entry.result in
    let grown : HasReadTen (slot_at (known_by_pass seat) hold.place) entry old new = c.read_entry.ensures.grown in
    subst (λ (o : Option Hold). MatchOption (option_map (λ (hold : Hold). slot_at (known_by_pass seat) hold.place) o) ⊥
    (λ slot. HasReadTen slot (Some c.in-Some-read_entry.fragment) old new)) (sym c.in-Some.is)
    (subst (λ e. HasReadTen (slot_at (known_by_pass seat) hold.place) e old new) c.in-Some-read_entry.is grown)
