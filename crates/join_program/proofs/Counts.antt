-- What is taken of records, one more after another.
use Rattle.std.proofs.Common.{◌≡◌, ℕ, ◌+◌, max, Bool, true, false, cond, List, [], ◌∷◌, ◌++◌, Option, Some}
use Rattle.std.proofs.Common.{None, sym, ap, ◌∙◌, subst, arith, filter, map, sum_by, unwrap_or, append-nil}
use Rattle.std.proofs.lemmas.List.{map-append}
use Rattle.std.proofs.lemmas.List.Elements.{filter-append}
use Rattle.std.proofs.lemmas.List.Sums.{sum_by-append}
use Rattle.packet_accept.specs.Extremes.{IsGreatest}
use Rattle.flow_parts.specs.declared.fragment.Fragment.{Fragment}
use Rattle.flow_parts.proofs.Members.{IsGreatest-append, IsGreatest-one}
use Rattle.record_ledger.specs.declared.record.FlowRecord.{FlowRecord}
use Rattle.join_program.specs.Words.{OneOf}
use Rattle.join_program.specs.Joined.{kept, falls_to, AreFew, IsLatest}

abbrev pub packets_in : Fragment → ℕ
packets_in f = f.packets

abbrev pub octets_in : Fragment → ℕ
octets_in f = f.octets

module _ (share : Option OneOf) where
  abbrev falls : Fragment → Bool
  falls f = falls_to share f.key

  pub kept-append : (xs ys : List FlowRecord) → kept share (xs ++ ys) ≡ kept share xs ++ kept share ys
  kept-append xs ys = ap (filter falls) (map-append (λ (r : FlowRecord). r.part) xs ys)
      ∙ filter-append falls (map (λ (r : FlowRecord). r.part) xs) (map (λ (r : FlowRecord). r.part) ys)

  kept_one : (f : FlowRecord) (b : Bool) → falls f.part ≡ b → kept share (f ∷ []) ≡ cond b (f.part ∷ []) []
  kept_one f b e = ap (λ c. cond c (f.part ∷ []) []) e

  pub kept-taken : (xs : List FlowRecord) (f : FlowRecord) → falls f.part ≡ true
      → kept share (xs ++ f ∷ []) ≡ kept share xs ++ f.part ∷ []
  kept-taken xs f e = kept-append xs (f ∷ []) ∙ ap (λ l. kept share xs ++ l) (kept_one f true e)

  pub kept-left : (xs : List FlowRecord) (f : FlowRecord) → falls f.part ≡ false
      → kept share (xs ++ f ∷ []) ≡ kept share xs
  kept-left xs f e = kept-append xs (f ∷ []) ∙ ap (λ l. kept share xs ++ l) (kept_one f false e)
      ∙ append-nil (kept share xs)

  -- fewer records have fewer packets and octets
  pub few-front : (xs ys : List FlowRecord) → AreFew share (xs ++ ys) → AreFew share xs
  few-front xs ys few = record {
    packets = (let all = few.packets in let e = ap (sum_by packets_in) (kept-append xs ys) in
        omega (arith, sum_by-append packets_in (kept share xs) (kept share ys)));
    octets = (let all = few.octets in let e = ap (sum_by octets_in) (kept-append xs ys) in
        omega (arith, sum_by-append octets_in (kept share xs) (kept share ys)));
  }

  -- with one more there are as many as the sums say
  pub packets-taken : (xs : List FlowRecord) (f : FlowRecord) → falls f.part ≡ true
      → sum_by packets_in (kept share (xs ++ f ∷ [])) ≡ sum_by packets_in (kept share xs) + f.part.packets
  packets-taken xs f e = ap (sum_by packets_in) (kept-taken xs f e)
      ∙ (let s = sum_by-append packets_in (kept share xs) (f.part ∷ []) in omega arith)

  pub octets-taken : (xs : List FlowRecord) (f : FlowRecord) → falls f.part ≡ true
      → sum_by octets_in (kept share (xs ++ f ∷ [])) ≡ sum_by octets_in (kept share xs) + f.part.octets
  octets-taken xs f e = ap (sum_by octets_in) (kept-taken xs f e)
      ∙ (let s = sum_by-append octets_in (kept share xs) (f.part ∷ []) in omega arith)

-- the latest time with one more
pub latest-more : (xs : List FlowRecord) (f : FlowRecord) (clock : Option ℕ) → IsLatest xs clock
    → IsLatest (xs ++ f ∷ []) (Some (max (unwrap_or clock 0) f.part.last))
latest-more xs f None e =
    let one = IsGreatest-one (λ (r : FlowRecord). r.part.last) f in
    let most : f.part.last ≡ max 0 f.part.last = omega arith in
    subst (λ l. IsGreatest (λ (r : FlowRecord). r.part.last) (l ++ f ∷ []) (max 0 f.part.last)) (sym e)
    (subst (IsGreatest (λ (r : FlowRecord). r.part.last) (f ∷ [])) most one)
latest-more xs f (Some clock) greatest =
    IsGreatest-append (λ (r : FlowRecord). r.part.last) xs (f ∷ []) clock f.part.last greatest
    (IsGreatest-one (λ (r : FlowRecord). r.part.last) f)
