-- What ten words show.
use Rattle.std.proofs.Common.{◌≡◌, inl, inr, ℕ, ◌+◌, ◌*◌, ◌/◌, ◌%◌, ◌<◌, ◌^◌, List, [], ◌∷◌, ◌++◌, Option, Some, None}
use Rattle.std.proofs.Common.{MatchOption, IsNone, refl, ap, sym, ◌∙◌, subst, arith}
use Rattle.flow_key.specs.declared.key.FlowKey.{FlowKey}
use Rattle.flow_key.specs.Fields.{fields_of, fields_in}
use Rattle.flow_key.specs.Key.{words_of}
use Rattle.flow_parts.specs.declared.fragment.Fragment.{Fragment}
use Rattle.flow_parts.specs.Fields.{part_fields, part_fields_in}
use Rattle.flow_parts.specs.Parts.{IsJoined}
use Rattle.flow_parts.specs.Joining.{IsJoinable}
use Rattle.flow_parts.specs.PartWith.{part_with}
use Rattle.flow_parts.proofs.PartFields.{part_with-part, part_with-none}
use Rattle.cache_face.specs.Keeping.{entry_of, IsSmall, IsEmptyContent}
use Rattle.cache_face.specs.declared.metered.How.TheVariants as how
use Rattle.cache_face.specs.Choice.{entry_at}
use Rattle.cache_face.specs.Laws.{WholeIsSmall, WordsShow, ChoiceTakes}

-- the first word of a key shows its fields
first_shows : (v p s d : ℕ) → p < 2 ^ 8 → s < 2 ^ 16 → d < 2 ^ 16 → let w : ℕ =
    v * 2 ^ 40 + p * 2 ^ 32 + s * 2 ^ 16 + d in
    (w / 2 ^ 40 ≡ v) × (w / 2 ^ 32 % 2 ^ 8 ≡ p) × (w / 2 ^ 16 % 2 ^ 16 ≡ s) × (w % 2 ^ 16 ≡ d)
first_shows v p s d hp hs hd =
    (omega (arith, hp, hs, hd), omega (arith, hp, hs, hd), omega (arith, hp, hs, hd), omega (arith, hp, hs, hd))

halves : (n : ℕ) → n / 2 ^ 64 * 2 ^ 64 + n % 2 ^ 64 ≡ n
halves n = omega arith

pub key_shows : (k : FlowKey) (rest : List ℕ) → fields_in (words_of k ++ rest) ≡ fields_of k
key_shows k rest = let f = first_shows k.version k.protocol k.source_port k.destination_port k.sized.2 k.sized.3
    k.sized.4 in
    λ i. record {
      version = f.0 i;
      source = halves k.source i;
      destination = halves k.destination i;
      protocol =
          f.1 i;
      source_port = f.2 i;
      destination_port = f.3 i;
    }

-- the words of a fragment show it
pub words_show : WordsShow
words_show f = ap (λ k. part_with (record (part_fields f) { key = k }))
    (key_shows f.key (f.packets ∷ f.octets ∷ f.first ∷ f.last ∷ f.flags ∷ [])) ∙ part_with-part f

-- an empty content shows none
pub empty_shows : (content : List ℕ) → IsEmptyContent content → entry_of content ≡ None
empty_shows content e = part_with-none (part_fields_in content) (λ fit. (let c = fit.1.counted in omega (arith, c, e)))

pub none_some : {A : Type 0} (a : A) → None ≡ Some a → ⊥
none_some a e = cc

pub some_is : (f g : Fragment) → Some f ≡ Some g → f ≡ g
some_is f g e = cc

pub whole_is_small : WholeIsSmall
whole_is_small content fragment (inl empty) shown =
    absurd (none_some fragment (sym (empty_shows content empty) ∙ shown))
whole_is_small content fragment (inr whole) shown =
    let is : Some whole.0 ≡ Some fragment = sym (words_show whole.0) ∙ ap entry_of whole.1 ∙ shown in
    let same : whole.0 ≡ fragment = cc in
    subst IsSmall same whole.2

-- where an entry has a fragment for which two facts hold, both hold of it
both : (F G : Fragment → Type 0) (entry : Option Fragment) → MatchOption entry ⊥ F → MatchOption entry ⊥ G
    → MatchOption entry ⊥ (λ old. F old × G old)
both F G None f g = f
both F G (Some old) f g = (f, g)

empty_is : (entry : Option Fragment) → IsNone entry → entry ≡ None
empty_is None h = refl
empty_is (Some old) h = cc

-- a choice takes the fragment in at its place
pub choice_takes : ChoiceTakes
choice_takes limits entries own kept how.Joined place out c =
    inl (
      both (λ old. IsJoinable limits old own) (λ old. IsJoined old own kept)
          (entry_at entries place) c.lowest.is c.joined,
      c.none_out,
    )
choice_takes limits entries own kept how.Replaced place out (inl c) = inr (c.out_is, c.anew)
choice_takes limits entries own kept how.Replaced place out (inr c) = inr (c.out_is, c.anew)
choice_takes limits entries own kept how.Opened place out c =
    inr (c.none_out ∙ sym (empty_is (entry_at entries place) c.lowest.is), c.opened)
choice_takes limits entries own kept how.PassedBy place out c = absurd c
