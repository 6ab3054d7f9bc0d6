use Rattle.std.proofs.Common.{◌≡◌, ◌<◌, ◌∙◌, ◌++◌, [], ◌∷◌, List, ℕ, Option, None, length, map, get_or, sym, ap, subst}
use Rattle.std.proofs.Common.{arith}
use Rattle.std.specs.Prelude.{All}
use Rattle.std.proofs.lemmas.List.Elements.{All-get_or}
use Rattle.flow_parts.specs.declared.fragment.Fragment.{Fragment}
use Rattle.flow_parts.specs.declared.timeouts.Timeouts.{Timeouts}
use Rattle.cache_face.specs.declared.metered.How.{How}
use Rattle.cache_face.specs.Choice.{IsChoice, Takes}
use Rattle.cache_face.specs.Keeping.{entry_of, IsWhole}
use Rattle.cache_face.proofs.Contents.{choice_takes}
use Rattle.cache_face.proofs.Four.{all_four}
use Rattle.cache_choice.specs.Chosen.{out_of}
use Rattle.turn_cache.specs.Hands.{Hand, entries_of}
use Rattle.turn_cache.specs.Moves.{Sat, more_read, filled_hand}
use Rattle.turn_cache.proofs.Writing.{read_four, piece, forty, four_entries, four_set, entry_there}
use Rattle.turn_cache.proofs.cache.TurnCache.put.Goals as goal

read_on_seat : (me one two three four : Sat) (a b c d : List ℕ) → one ≡ (more_read a me.0, me.1)
    → two ≡ (more_read b one.0, one.1) → three ≡ (more_read c two.0, two.1) → four ≡ (more_read d three.0, three.1)
    → me.0.read ≡ []
    → four ≡ (record (me.0) { read = a ++ (b ++ (c ++ d)) }, me.1)
read_on_seat me one two three four a b c d p q r s none =
    s ∙ (ap (λ (m : Sat). (more_read d m.0, m.1)) r
    ∙ (ap (λ (m : Sat). (more_read d (more_read c m.0), m.1)) q
    ∙ (ap (λ (m : Sat). (more_read d (more_read c (more_read b m.0)), m.1)) p
    ∙ ap (λ (h : Hand). (h, me.1)) (read_four me.0 a b c d none))))

-- the entry at the place, where the contents are four
there : (contents : List (List ℕ)) (a b c d : List ℕ) (place : ℕ) → contents ≡ a ∷ b ∷ c ∷ d ∷ [] → place < 4
    → get_or (map entry_of contents) place None ≡ entry_of (get_or contents place [])
there contents a b c d place four low = entry_there contents place
    (let l : length contents ≡ 4 = ap length four in omega (arith, l, low))

-- the content at the place is whole, where the four are
whole_there : (contents : List (List ℕ)) (a b c d : List ℕ) (place : ℕ) → contents ≡ a ∷ b ∷ c ∷ d ∷ [] → place < 4
    → IsWhole a → IsWhole b → IsWhole c → IsWhole d → IsWhole (get_or contents place [])
whole_there contents a b c d place four low p q r s =
    subst (λ (cs : List (List ℕ)). IsWhole (get_or cs place [])) (sym four)
    (All-get_or IsWhole (a ∷ b ∷ c ∷ d ∷ []) place [] low (all_four IsWhole a b c d p q r s))

-- what the choice does to that entry
taken_there : (limits : Timeouts) (contents : List (List ℕ)) (a b c d : List ℕ) (own kept : Fragment) (how : How)
    (place : ℕ) → contents ≡ a ∷ b ∷ c ∷ d ∷ [] → place < 4
    → IsChoice limits (map entry_of contents) own how place
    (out_of how (get_or (map entry_of contents) place None)) kept
    → Takes limits own (entry_of (get_or contents place [])) (out_of how (entry_of (get_or contents place []))) kept
taken_there limits contents a b c d own kept how place four low chosen =
    subst (λ (entry : Option Fragment). Takes limits own entry (out_of how entry) kept)
    (there contents a b c d place four low)
    (choice_takes limits (map entry_of contents) own kept how place
    (out_of how (get_or (map entry_of contents) place None)) chosen)

-- a choice among the same entries, with the same answer
same_choice : (limits : Timeouts) (entries entries' : List (Option Fragment)) (own kept : Fragment) (how how' : How)
    (place : ℕ) (out out' : Option Fragment) → entries ≡ entries' → how ≡ how' → out ≡ out'
    → IsChoice limits entries own how place out kept → IsChoice limits entries' own how' place out' kept
same_choice limits entries entries' own kept how how' place out out' p q r chosen =
    subst (λ (es : List (Option Fragment)). IsChoice limits es own how' place out' kept) p
    (subst (λ (h : How). IsChoice limits entries own h place out' kept) q
    (subst (λ (o : Option Fragment). IsChoice limits entries own how place o kept) r chosen))

pub choose_by_words-choice-requires-clause-whole : goal.choose_by_words-choice-requires-clause-whole
choose_by_words-choice-requires-clause-whole c =
    let a = c.read_entry in let b = c.read_entry-2 in let e = c.read_entry-3 in let d = c.read_entry-4 in
    subst (All IsWhole)
    (sym (four_set c.args.contents.now a.new.words b.new.words e.new.words d.new.words c.told-contents))
    (all_four IsWhole a.new.words b.new.words e.new.words d.new.words a.ensures.whole b.ensures.whole e.ensures.whole
    d.ensures.whole)

pub write-requires-clause-read : goal.write-requires-clause-read
write-requires-clause-read c =
    let a : List ℕ = c.read_entry.new.words in let b : List ℕ = c.read_entry-2.new.words in
    let e : List ℕ = c.read_entry-3.new.words in let d : List ℕ = c.read_entry-4.new.words in
    let place : ℕ = c.choose_by_words-choice.result.place in
    let all = read_on_seat c.args.seat.now.me c.read_entry.new.seat.me c.read_entry-2.new.seat.me
    c.read_entry-3.new.seat.me c.read_entry-4.new.seat.me a b e d
    c.read_entry.ensures.reads c.read_entry-2.ensures.reads c.read_entry-3.ensures.reads c.read_entry-4.ensures.reads
    c.requires.reading.1 in
    let p = piece a b e d place c.choose_by_words-choice.ensures.place c.read_entry.ensures.long
    c.read_entry-2.ensures.long c.read_entry-3.ensures.long in
    let four = four_set c.args.contents.now a b e d c.told-contents in (
      p.0,
      p.1,
      ap (λ (m : Sat). m.0.read) all
          ∙ (p.2 ∙ ap (λ (cs : List (List ℕ)). p.0 ++ (get_or cs place [] ++ p.1)) (sym four)),
      p.3,
    )

pub write-requires-clause-kept : goal.write-requires-clause-kept
write-requires-clause-kept c =
    let a : List ℕ = c.read_entry.new.words in let b : List ℕ = c.read_entry-2.new.words in
    let e : List ℕ = c.read_entry-3.new.words in let d : List ℕ = c.read_entry-4.new.words in
    let choice = c.choose_by_words-choice in
    let chosen = choice.ensures.chosen in (
      chosen.0,
      chosen.1,
      taken_there c.args.self.now.timeouts _ a b e d c.args.own.now chosen.0 choice.result.how
          choice.result.place (four_set c.args.contents.now a b e d c.told-contents) choice.ensures.place chosen.2,
    )

pub answer-requires-clause-whole : goal.answer-requires-clause-whole
answer-requires-clause-whole c =
    let a = c.read_entry in let b = c.read_entry-2 in let e = c.read_entry-3 in let d = c.read_entry-4 in
    whole_there _ a.new.words b.new.words e.new.words d.new.words c.choose_by_words-choice.result.place
    (four_set c.args.contents.now a.new.words b.new.words e.new.words d.new.words c.told-contents)
    c.choose_by_words-choice.ensures.place a.ensures.whole b.ensures.whole e.ensures.whole d.ensures.whole

pub returns-clause-filled : goal.returns-clause-filled
returns-clause-filled c =
    let a : List ℕ = c.read_entry.new.words in let b : List ℕ = c.read_entry-2.new.words in
    let e : List ℕ = c.read_entry-3.new.words in let d : List ℕ = c.read_entry-4.new.words in
    let choice = c.choose_by_words-choice in
    let chosen = choice.ensures.chosen in
    let metered = c.answer.new.metered in
    let all = read_on_seat c.args.seat.now.me c.read_entry.new.seat.me c.read_entry-2.new.seat.me
    c.read_entry-3.new.seat.me c.read_entry-4.new.seat.me a b e d
    c.read_entry.ensures.reads c.read_entry-2.ensures.reads c.read_entry-3.ensures.reads c.read_entry-4.ensures.reads
    c.requires.reading.1 in
    let words : List ℕ = a ++ (b ++ (e ++ d)) in
    let four = four_set c.args.contents.now a b e d c.told-contents in
    let entries = ap (map entry_of) four ∙ sym
    (four_entries a b e d c.read_entry.ensures.long c.read_entry-2.ensures.long c.read_entry-3.ensures.long
    c.read_entry-4.ensures.long) in (
      words,
      forty a b e d c.read_entry.ensures.long c.read_entry-2.ensures.long c.read_entry-3.ensures.long
          c.read_entry-4.ensures.long,
      (
        choice.result.place,
        chosen.0,
        c.write.ensures.filled
            ∙ (ap (λ (out : Option Fragment). (
              filled_hand c.read_entry-4.new.seat.me.0.read choice.result.place choice.result.words c.args.own.now out
                  c.read_entry-4.new.seat.me.0,
              c.read_entry-4.new.seat.me.1,
            )) (sym c.answer.ensures.out)
            ∙ (ap (λ (m : Sat). (
              filled_hand m.0.read choice.result.place choice.result.words c.args.own.now metered.out
                  m.0,
              m.1,
            )) all
            ∙ ap (λ (new : List ℕ). (
              filled_hand words choice.result.place new c.args.own.now metered.out
                  c.args.seat.now.me.0,
              c.args.seat.now.me.1,
            )) (sym chosen.1))),
        same_choice c.args.self.now.timeouts _ (entries_of words) c.args.own.now chosen.0 choice.result.how metered.how
            choice.result.place _ metered.out entries (sym c.answer.ensures.how)
            (ap (out_of choice.result.how) (there _ a b e d choice.result.place four choice.ensures.place)
            ∙ sym c.answer.ensures.out) chosen.2,
      ),
    )
