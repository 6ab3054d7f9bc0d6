use Rattle.std.proofs.Common.{rules, ◌≡◌, ◌<◌, ◌∙◌, ◌∷◌, ℕ, false, List, map, Option, Some, inr, refl, sym, ap}
use Rattle.std.proofs.Common.{subst}
use Rattle.std.specs.Prelude.{slice_index}
use Rattle.std.proofs.lemmas.List.{length-map}
use Rattle.flow_parts.specs.declared.fragment.Fragment.{Fragment}
use Rattle.flow_parts.specs.declared.timeouts.Timeouts.{Timeouts}
use Rattle.flow_parts.specs.Parts.{part_words}
use Rattle.cache_face.specs.declared.metered.How.{How}
use Rattle.cache_face.specs.declared.metered.Metered.{Metered}
use Rattle.cache_face.specs.Choice.{IsChoice, Takes, entry_at}
use Rattle.cache_face.specs.Keeping.{Keeps, IsWhole, AreBacking, entry_of}
use Rattle.cache_face.specs.Notes.{Note, first_note, note_with}
use Rattle.cache_face.proofs.Contents.{choice_takes}
use Rattle.pebr_core.specs.declared.kinds.Shape.{Shape}
use Rattle.pebr_core.specs.declared.kinds.Step.TheVariants as step
use Rattle.pebr_core.specs.declared.kinds.Answer.TheVariants as answer
use Rattle.pebr_core.specs.State.{Seat}
use Rattle.pebr_slots.specs.Sets.{least_in}
use Rattle.pebr_words.specs.Pasts.{Load, Read, History, found_other, past_after, shown_at, written_at}
use Rattle.pebr_words.specs.Ruled.{CanReplace}
use Rattle.pebr_roots.specs.Ends.{answer_to, replaced_note, replaced_seat}
use Rattle.pebr_roots.specs.Under.{slot_at}
use Rattle.pebr_roots.specs.Passes.{shape_at, fixed_at, number_by, known_by_pass, note_by, past_by}
use Rattle.flow_cache.specs.Places.{root_of}
use Rattle.flow_cache.specs.Reading.{words_read, set_read, written_in}
use Rattle.flow_cache.specs.Trying.{HasTen, HasChosen}
use Rattle.flow_cache.proofs.Choosing.{choice_is}
use Rattle.flow_cache.proofs.Histories.{chosen_of, lost_here}
use Rattle.flow_cache.proofs.Sets.{can_replace, at_place, written_is}
use Rattle.flow_cache.proofs.Spared.{spared_put}
use Rattle.pebr_roots.specs.Passes.{operations_by}
use Rattle.flow_cache.proofs.Sparing.{spared_on, replaced_spares}
use Rattle.flow_cache.proofs.cache.PebrCache.put.Goals as goal

pub replace-requires-clause-keeps : goal.replace-requires-clause-keeps
replace-requires-clause-keeps g c =
    let start = c.args.pass.now in
    let mid = c.read_contents.new.pass in
    let end = c.fill.new.pass in
    let cache = c.args.self.now in
    let shape = shape_at cache.roots in
    let place : ℕ = c.choose_by_words-choice.result.place in
    let low : place < 4 = c.choose_by_words-choice.ensures.place in
    let how : How = c.choose_by_words-choice.result.how in
    let chosen = c.choose_by_words-choice.ensures.chosen in
    let kept : Fragment = chosen.0 in
    let out : Option Fragment = c.put_out-out.result in
    let contents : List (List ℕ) = c.read_contents.new.contents in
    let choice : IsChoice cache.timeouts (map entry_of contents) c.args.own.now how place out kept
    = choice_is cache.timeouts contents c.args.own.now how place c.choose_by_words-choice.result.words out
    (search rules) c.put_out-out.ensures chosen in
    let slot : ℕ = slot_at (known_by_pass start) place in
    let root : ℕ = root_of c.args.set place in
    let note : Note = note_by first_note start in
    let known_is : known_by_pass end ≡ known_by_pass start = c.fill.ensures.known ∙ c.read_contents.ensures.known in
    let note_is : note_by first_note end ≡ note = c.fill.ensures.note ∙ c.read_contents.ensures.note in
    let reads : (past_by end).reads ≡ (past_by mid).reads = ap (λ (p : History). p.reads) c.fill.ensures.past in
    let loads : (past_by mid).loads ≡ (past_by start).loads =
    ap (λ (p : History). p.loads) c.read_contents.ensures.past in
    let loaded : (p : ℕ) → p < 4
    → shown_at (past_by mid).loads (root_of c.args.set p) ≡ Some (slot_at (known_by_pass start) p)
    = λ p lt. ap (λ (ls : List Load). shown_at ls (root_of c.args.set p)) loads
    ∙ (c.requires.protected.each p lt).1.0 in
    let entry : entry_at (map entry_of contents) place ≡ entry_of (words_read (past_by end).reads slot)
    = ap (λ es. entry_at es place) (c.read_contents.ensures.entries c.args.set c.requires.protected)
    ∙ at_place (past_by mid) c.args.set (slot_at (known_by_pass start)) loaded c.read_contents.ensures.ten place low
    ∙ ap (λ (rs : List Read). entry_of (words_read rs slot)) (sym reads) in
    let takes : Takes cache.timeouts c.args.own.now (entry_of (words_read (past_by end).reads slot)) out kept
    = subst (λ e. Takes cache.timeouts c.args.own.now e out kept) entry
    (choice_takes cache.timeouts (map entry_of contents) c.args.own.now kept how place out choice) in
    let filled : (word : ℕ) → word < 10 → written_at (past_by end).written (least_in (known_by_pass start).fresh) word
    ≡ Some (slice_index (part_words kept) word)
    = λ word lt. ap (λ (s : Seat). written_at (past_by end).written (least_in s.fresh) word)
    (sym c.read_contents.ensures.known) ∙ c.fill.ensures.written word lt
    ∙ ap (λ ws. Some (slice_index ws word)) (sym chosen.1) in
    let can : Timeouts → Seat → Note → Type 0 =
    λ limits known note. CanReplace (Keeps limits cache.sets) IsWhole (AreBacking limits) shape (past_by end)
    (number_by end) root
    (slot_at known place) (least_in known.fresh) note (note_with note c.args.own.now out) in
    subst (λ (sets : ℕ). CanReplace (Keeps (fixed_at cache.roots).timeouts sets) IsWhole
    (AreBacking (fixed_at cache.roots).timeouts) shape (past_by end) (number_by end) root
    (slot_at (known_by_pass end) place)
    (least_in (known_by_pass end).fresh) (note_by first_note end)
    (note_with (note_by first_note end) c.args.own.now out)) (sym cache.fixed.1)
    (subst (λ limits. can limits (known_by_pass end) (note_by first_note end)) (sym cache.fixed.0)
    (subst (λ known. can cache.timeouts known (note_by first_note end)) (sym known_is)
    (subst (λ n. can cache.timeouts (known_by_pass start) n) (sym note_is)
    (can_replace cache.timeouts cache.sets c.args.set place shape (past_by end) (number_by end) slot
    (least_in (known_by_pass start).fresh) note c.args.own.now kept out low
    (ap (λ (s : Shape). s.width) cache.shaped)
    (subst (λ rs. HasTen rs slot) (sym reads) (c.read_contents.ensures.ten place low)) filled c.requires.own takes))))

pub returns-in-Replaced-clause-done : goal.returns-in-Replaced-clause-done
returns-in-Replaced-clause-done g c done =
    let start = c.args.pass.now in
    let mid = c.read_contents.new.pass in
    let end = c.fill.new.pass in
    let new = c.replace.new.pass in
    let place : ℕ = c.choose_by_words-choice.result.place in
    let slot : ℕ = slot_at (known_by_pass end) place in
    let fresh : ℕ = least_in (known_by_pass end).fresh in
    let how : How = c.choose_by_words-choice.result.how in
    let chosen = c.choose_by_words-choice.ensures.chosen in
    let out : Option Fragment = c.put_out-out.result in
    let contents : List (List ℕ) = c.read_contents.new.contents in
    let limits : Timeouts = c.args.self.now.timeouts in
    let choice : IsChoice limits (map entry_of contents) c.args.own.now how place out chosen.0
    = choice_is limits contents c.args.own.now how place c.choose_by_words-choice.result.words out
    (search rules) c.put_out-out.ensures chosen in
    let note_is : note_by first_note end ≡ note_by first_note start =
    c.fill.ensures.note ∙ c.read_contents.ensures.note in
    let packets : Note → Note = λ n. note_with n c.args.own.now out in
    let past : past_by new ≡ past_after (step.Replace (number_by end) (root_of c.args.set place) slot fresh)
    answer.Replaced (known_by_pass end) (past_by end)
    = subst (λ r. past_by new ≡ past_after (step.Replace (number_by end) (root_of c.args.set place) slot fresh)
    (answer_to r) (known_by_pass end) (past_by end)) c.in-Replaced.is c.replace.ensures.step.past in
    let loads : (past_by new).loads ≡ (past_by mid).loads =
    ap (λ (p : History). p.loads) past ∙ ap (λ (p : History). p.loads) c.fill.ensures.past in
    let reads : (past_by new).reads ≡ (past_by mid).reads =
    ap (λ (p : History). p.reads) past ∙ ap (λ (p : History). p.reads) c.fill.ensures.past in
    let filled : (word : ℕ) → word < 10 → written_at (past_by end).written fresh word
    ≡ Some (slice_index (part_words chosen.0) word)
    = λ word lt. ap (λ (s : Seat). written_at (past_by end).written (least_in s.fresh) word) c.fill.ensures.known
    ∙ c.fill.ensures.written word lt ∙ ap (λ ws. Some (slice_index ws word)) (sym chosen.1) in
    let wrote : written_in (past_by new).put ≡ Some (record { place = place; kept = chosen.0 }) =
    ap (λ (p : History). written_in p.put) past
    ∙ written_is (past_by end).written c.args.set place fresh chosen.0 (search rules) filled in
    let said : Metered = c.tell.new.metered in
    let how_is : said.how ≡ how = c.tell.ensures.how in
    let out_is : said.out ≡ out = c.tell.ensures.out in
    let has : HasChosen limits c.args.set (past_by new) c.args.own.now how out
    = chosen_of limits c.args.set (past_by mid) (past_by new) c.args.own.now chosen.0 how place out
    (map entry_of contents)
    (ap (λ (p : History). set_read p.loads) c.read_contents.ensures.past ∙ c.requires.protected.last)
    (length-map contents entry_of ∙ (search rules))
    (c.read_contents.ensures.entries c.args.set c.requires.protected) choice loads reads wrote in (
      subst (λ r. note_by first_note new ≡ replaced_note r (packets (note_by first_note end)) (note_by first_note end))
          c.in-Replaced.is c.replace.ensures.note ∙ ap packets note_is
          ∙ ap (λ o. note_with (note_by first_note start) c.args.own.now o) (sym out_is),
      ap (λ (p : History). p.lost) past ∙ ap (λ (p : History). p.lost) c.fill.ensures.past
          ∙ ap (λ (p : History). p.lost) c.read_contents.ensures.past,
      subst (λ h. HasChosen limits c.args.set (past_by new) c.args.own.now h said.out) (sym how_is)
          (subst (λ o. HasChosen limits c.args.set (past_by new) c.args.own.now how o) (sym out_is) has),
    )

pub returns-in-Other-clause-undone : goal.returns-in-Other-clause-undone
returns-in-Other-clause-undone g c undone =
    let start = c.args.pass.now in
    let mid = c.read_contents.new.pass in
    let end = c.fill.new.pass in
    let new = c.replace.new.pass in
    let place : ℕ = c.choose_by_words-choice.result.place in
    let low : place < 4 = c.choose_by_words-choice.ensures.place in
    let root : ℕ = root_of c.args.set place in
    let slot : ℕ = slot_at (known_by_pass end) place in
    let fresh : ℕ = least_in (known_by_pass end).fresh in
    let packets : Note → Note = λ n. note_with n c.args.own.now c.put_out-out.result in
    let note_is : note_by first_note end ≡ note_by first_note start =
    c.fill.ensures.note ∙ c.read_contents.ensures.note in
    let known_is : known_by_pass end ≡ known_by_pass start = c.fill.ensures.known ∙ c.read_contents.ensures.known in
    let past : past_by new ≡ past_after (step.Replace (number_by end) root slot fresh) answer.Other (known_by_pass end)
    (past_by end)
    = subst (λ r. past_by new ≡ past_after (step.Replace (number_by end) root slot fresh) (answer_to r)
    (known_by_pass end)
    (past_by end)) c.in-Other.is c.replace.ensures.step.past in
    let shown_is : (past_by end).shown ≡ (past_by start).shown =
    ap (λ (p : History). p.shown) c.fill.ensures.past ∙ ap (λ (p : History). p.shown) c.read_contents.ensures.past in
    let shown : shown_at (past_by end).shown root ≡ Some slot =
    ap (λ (ls : List Load). shown_at ls root) shown_is ∙ (c.requires.protected.each place low).1.1
    ∙ ap (λ (s : Seat). Some (slot_at s place)) (sym known_is) in
    let unlost : (past_by end).has_lost ≡ false =
    ap (λ (p : History). p.has_lost) c.fill.ensures.past ∙ ap (λ (p : History). p.has_lost) c.read_contents.ensures.past
    ∙ c.requires.unlost in (
      subst (λ r. note_by first_note new ≡ replaced_note r (packets (note_by first_note end)) (note_by first_note end))
          c.in-Other.is c.replace.ensures.note ∙ note_is,
      ap (λ (s : Seat). s.fresh)
          (subst (λ r. known_by_pass new ≡ replaced_seat r slot fresh (known_by_pass end)) c.in-Other.is
          c.replace.ensures.known
          ∙ known_is),
      (
        found_other root,
        ap (λ (p : History). p.lost) past ∙ lost_here (number_by end) root slot fresh (known_by_pass end)
            (past_by end) shown unlost
            ∙ ap (λ (p : History). found_other root ∷ p.lost) c.fill.ensures.past
            ∙ ap (λ (p : History). found_other root ∷ p.lost) c.read_contents.ensures.past,
        inr (place, low, refl),
      ),
    )

pub returns-in-Replaced-clause-spared : goal.returns-in-Replaced-clause-spared
returns-in-Replaced-clause-spared g c =
    spared_put (past_by c.args.pass.now) (past_by c.read_contents.new.pass) (past_by c.fill.new.pass)
    (past_by c.replace.new.pass) (number_by c.fill.new.pass)
    (root_of c.args.set c.choose_by_words-choice.result.place)
    (slot_at (known_by_pass c.fill.new.pass) c.choose_by_words-choice.result.place)
    (least_in (known_by_pass c.fill.new.pass).fresh) (answer_to c.replace.result) (known_by_pass c.fill.new.pass)
    (ap (λ (p : History). p.notes) c.read_contents.ensures.past)
    (ap (λ (p : History). p.pins) c.read_contents.ensures.past)
    (ap (λ (p : History). p.notes) c.fill.ensures.past) (ap (λ (p : History). p.pins) c.fill.ensures.past)
    c.replace.ensures.step.past

pub returns-in-Other-clause-spared : goal.returns-in-Other-clause-spared
returns-in-Other-clause-spared g c =
    spared_put (past_by c.args.pass.now) (past_by c.read_contents.new.pass) (past_by c.fill.new.pass)
    (past_by c.replace.new.pass) (number_by c.fill.new.pass)
    (root_of c.args.set c.choose_by_words-choice.result.place)
    (slot_at (known_by_pass c.fill.new.pass) c.choose_by_words-choice.result.place)
    (least_in (known_by_pass c.fill.new.pass).fresh) (answer_to c.replace.result) (known_by_pass c.fill.new.pass)
    (ap (λ (p : History). p.notes) c.read_contents.ensures.past)
    (ap (λ (p : History). p.pins) c.read_contents.ensures.past)
    (ap (λ (p : History). p.notes) c.fill.ensures.past) (ap (λ (p : History). p.pins) c.fill.ensures.past)
    c.replace.ensures.step.past

pub returns-in-Replaced-clause-few : goal.returns-in-Replaced-clause-few
returns-in-Replaced-clause-few g c =
    let shape = shape_at c.args.self.now.roots in
    let me : ℕ = number_by c.args.pass.now in
    let end = c.fill.new.pass in
    let place : ℕ = c.choose_by_words-choice.result.place in
    let x = operations_by c.args.pass.now in
    let a = operations_by c.read_contents.new.pass in
    let b = operations_by end in
    let z = operations_by c.replace.new.pass in
    let at_a : number_by c.read_contents.new.pass ≡ me = c.read_contents.ensures.same.still.1 in
    let at_b : number_by end ≡ me = c.fill.ensures.same.still.1 ∙ at_a in
    spared_on shape me 50 1 (number_by end) x b z at_b
    (spared_on shape me 40 10 (number_by c.read_contents.new.pass) x a b at_a c.read_contents.ensures.few
    c.fill.ensures.few)
    (replaced_spares shape (number_by end) (ap (λ (s : Shape). s.shields) c.args.self.now.shaped)
    (root_of c.args.set place) (slot_at (known_by_pass end) place) (least_in (known_by_pass end).fresh)
    c.replace.ensures.step.made.0 b z c.replace.ensures.step.made.2)

pub returns-in-Other-clause-few : goal.returns-in-Other-clause-few
returns-in-Other-clause-few g c =
    let shape = shape_at c.args.self.now.roots in
    let me : ℕ = number_by c.args.pass.now in
    let end = c.fill.new.pass in
    let place : ℕ = c.choose_by_words-choice.result.place in
    let x = operations_by c.args.pass.now in
    let a = operations_by c.read_contents.new.pass in
    let b = operations_by end in
    let z = operations_by c.replace.new.pass in
    let at_a : number_by c.read_contents.new.pass ≡ me = c.read_contents.ensures.same.still.1 in
    let at_b : number_by end ≡ me = c.fill.ensures.same.still.1 ∙ at_a in
    spared_on shape me 50 1 (number_by end) x b z at_b
    (spared_on shape me 40 10 (number_by c.read_contents.new.pass) x a b at_a c.read_contents.ensures.few
    c.fill.ensures.few)
    (replaced_spares shape (number_by end) (ap (λ (s : Shape). s.shields) c.args.self.now.shaped)
    (root_of c.args.set place) (slot_at (known_by_pass end) place) (least_in (known_by_pass end).fresh)
    c.replace.ensures.step.made.0 b z c.replace.ensures.step.made.2)
