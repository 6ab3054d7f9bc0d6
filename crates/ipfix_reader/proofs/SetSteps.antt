-- The sets of a message, one at a time.
use Rattle.std.proofs.Common.{◌≡◌, ◌<◌, ◌≤◌, ◌==◌, ◌||◌, ℕ, Bool, true, false, List, length, drop, Option, Result, Ok}
use Rattle.std.proofs.Common.{Err, refl, sym, ap, ◌∙◌, arith, nat_lt, length-drop, ◌≢◌, OnOk, IfErr}
use Rattle.std.proofs.lemmas.Bool.{ltb-false, le-ltb, lt-ltb, ne_eqb}
use Rattle.ipfix_model.specs.declared.fields.FieldSpec.{FieldSpec}
use Rattle.ipfix_reader.specs.declared.fault.StreamFault.{StreamFault}
use Rattle.ipfix_reader.specs.declared.fault.StreamFault.TheVariants.{BadLength}
use Rattle.ipfix_reader.specs.declared.fault.StreamError.{StreamError}
use Rattle.ipfix_reader.specs.Outcome.{IsFaultOf}
use Rattle.octets.specs.Outcome.{◌>>=◌}
use Rattle.ipfix_reader.specs.Part.{Part, behind, first_part}
use Rattle.octets.specs.Numbers.{number_at}
use Rattle.ipfix_reader.specs.Walk.{all_items}
use Rattle.ipfix_reader.specs.Known.{fields_in}
use Rattle.ipfix_reader.specs.Sets.{Contents, template_set, data_set, set_contents, set_length, is_bad_length}
use Rattle.ipfix_reader.specs.Sets.{message_set, message_sets}
use Rattle.ipfix_reader.proofs.Items.{TakesBytes, goes_on, same_behind, same_choice, fault_behind, fault_of-same}

-- neither of two
or-false : (a b : Bool) → (a || b) ≡ false → (a ≡ false) × (b ≡ false)
or-false true b is = cc
or-false false b is = (refl, is)

-- a number above 0 isn't 0
pub above-eqb : (n : ℕ) → 0 < n → (n == 0) ≡ false
above-eqb n some = ne_eqb n 0 (λ is. omega (arith, some, is))

-- a length that isn't bad lies between the header and the end
pub set_length-bounds : (part : Part) → is_bad_length part ≡ false
    → (4 ≤ set_length part) × (set_length part ≤ length part.bytes)
set_length-bounds part good =
    let all = or-false (nat_lt (length part.bytes) 4 || nat_lt (set_length part) 4)
    (nat_lt (length part.bytes) (set_length part)) good in
    let front = or-false (nat_lt (length part.bytes) 4) (nat_lt (set_length part) 4) all.0 in
    (ltb-false (set_length part) 4 front.1, ltb-false (length part.bytes) (set_length part) all.1)

-- behind a set less is left
set-shorter : (size : ℕ) (bytes : List ℕ) → 4 ≤ size → size ≤ length bytes → length (drop size bytes) < length bytes
set-shorter size bytes least inside = let left = length-drop size bytes in omega arith

-- so the walk over sets goes on
pub message_set-takes : (domain : ℕ) → TakesBytes (message_set domain)
message_set-takes domain go other before part same =
    same_choice (length part.bytes == 0) _ _ _ (λ some.
    same_choice (is_bad_length part) _ _ _ (λ good.
    same_behind
    (set_contents domain (number_at 0 2 part.bytes) part.at before (behind 4 (first_part (set_length part) part))) _ _
    (λ after is.
    let bounds = set_length-bounds part good in
    same after (behind (set_length part) part) (set-shorter (set_length part) part.bytes bounds.0 bounds.1))))

-- the end of the sets
pub message_sets-end : (domain : ℕ) (before : Contents) (part : Part) → length part.bytes ≡ 0
    → message_sets domain before part ≡ Ok before
unfolding message_sets
message_sets-end domain before part none =
    goes_on (message_set domain) (message_set-takes domain) before part ∙ rw none refl

-- a set whose length is bad
pub message_sets-bad : (domain : ℕ) (before : Contents) (part : Part) → 0 < length part.bytes
    → is_bad_length part ≡ true
    → message_sets domain before part ≡ Err (BadLength part.at)
unfolding message_sets
message_sets-bad domain before part some bad =
    goes_on (message_set domain) (message_set-takes domain) before part
    ∙ rw (above-eqb (length part.bytes) some, bad) refl

-- a set, and those behind it
pub message_sets-next : (domain : ℕ) (before after : Contents) (part : Part) → 0 < length part.bytes
    → is_bad_length part ≡ false
    → set_contents domain (number_at 0 2 part.bytes) part.at before (behind 4 (first_part (set_length part) part))
    ≡ Ok after
    → message_sets domain before part ≡ message_sets domain after (behind (set_length part) part)
unfolding message_sets
message_sets-next domain before after part some good is =
    goes_on (message_set domain) (message_set-takes domain) before part
    ∙ rw (above-eqb (length part.bytes) some, good, is) refl

-- a set with a fault
pub message_sets-fault : (domain : ℕ) (before : Contents) (part : Part) (error : StreamError) → 0 < length part.bytes
    → is_bad_length part ≡ false
    → IsFaultOf
    (set_contents domain (number_at 0 2 part.bytes) part.at before (behind 4 (first_part (set_length part) part))) error
    → IsFaultOf (message_sets domain before part) error
unfolding message_sets
message_sets-fault domain before part error some good is =
    let rule = λ (after : Contents). all_items (message_set domain) after (behind (set_length part) part) in
    let contents = set_contents domain (number_at 0 2 part.bytes) part.at before
    (behind 4 (first_part (set_length part) part)) in
    fault_of-same (all_items (message_set domain) before part) (contents >>= rule) error
    (goes_on (message_set domain) (message_set-takes domain) before part
    ∙ rw (above-eqb (length part.bytes) some, good) refl)
    (fault_behind contents rule error is)

-- what is in a set, by its number
pub set_contents-templates : (domain number at : ℕ) (before : Contents) (part : Part) → number ≡ 2
    → set_contents domain number at before part ≡ template_set false domain before part
unfolding set_contents
set_contents-templates domain number at before part is = rw is refl

pub set_contents-options : (domain number at : ℕ) (before : Contents) (part : Part) → number ≡ 3
    → set_contents domain number at before part ≡ template_set true domain before part
unfolding set_contents
set_contents-options domain number at before part is = rw is refl

pub set_contents-reserved : (domain number at : ℕ) (before : Contents) (part : Part) → number ≢ 2 → number ≢ 3
    → number < 256
    → set_contents domain number at before part ≡ Ok before
unfolding set_contents
set_contents-reserved domain number at before part not_2 not_3 low =
    rw (ne_eqb number 2 not_2, ne_eqb number 3 not_3, lt-ltb number 256 low) refl

pub set_contents-data : (domain number at : ℕ) (before : Contents) (part : Part) (known : Option (List FieldSpec))
    → 256 ≤ number
    → fields_in before.templates domain number ≡ known
    → set_contents domain number at before part ≡ data_set domain number at known before part
unfolding set_contents
set_contents-data domain number at before part known high is =
    rw (
      ne_eqb number 2 (λ e. omega (arith, high, e)),
      ne_eqb number 3
          (λ e. omega (arith, high, e)),
      le-ltb number 256 high,
      is,
    ) refl

-- a result of what the second of two rules gives, by what the first gives
pub on_ok-behind : {X A B : Type 0} (result : Result X StreamError) (all : Result B StreamFault)
    (read : Result A StreamFault) (rule : A → Result B StreamFault) (x : A)
    → all ≡ (read >>= rule) → OnOk result (read ≡ Ok x) → OnOk result (all ≡ rule x)
on_ok-behind (Ok y) all read rule x is ok = is ∙ ap (λ r. r >>= rule) ok
on_ok-behind (Err error) all read rule x is ok = tt

pub if_err-behind : {X A B : Type 0} (result : Result X StreamError) (all : Result B StreamFault)
    (read : Result A StreamFault) (rule : A → Result B StreamFault)
    → all ≡ (read >>= rule) → IfErr result (IsFaultOf read) → IfErr result (IsFaultOf all)
if_err-behind (Ok y) all read rule is fault = tt
if_err-behind (Err error) all read rule is fault =
    fault_of-same all (read >>= rule) error is (fault_behind read rule error fault)

-- what was read of a set, by its number and length
contents-same : (domain kind size : ℕ) (before : Contents) (part content : Part) → kind ≡ number_at 0 2 part.bytes
    → size ≡ set_length part
    → content ≡ behind 4 (first_part size part)
    → set_contents domain (number_at 0 2 part.bytes) part.at before (behind 4 (first_part (set_length part) part))
    ≡ set_contents domain kind part.at before content
contents-same domain kind size before part content kind_is size_is content_is =
    sym (ap (λ k. set_contents domain k part.at before (behind 4 (first_part (set_length part) part))) kind_is)
    ∙ sym (ap (λ p. set_contents domain kind part.at before p) (content_is
    ∙ ap (λ n. behind 4 (first_part n part)) size_is))

-- the step, with the names of the code
pub set-read : (domain kind size : ℕ) (before after : Contents) (part content rest : Part) → 0 < length part.bytes
    → is_bad_length part ≡ false
    → kind ≡ number_at 0 2 part.bytes → size ≡ set_length part → content ≡ behind 4 (first_part size part)
    → rest ≡ behind size part
    → set_contents domain kind part.at before content ≡ Ok after
    → message_sets domain before part ≡ message_sets domain after rest
set-read domain kind size before after part content rest some good kind_is size_is content_is rest_is is =
    message_sets-next domain before after part some good
    (contents-same domain kind size before part content kind_is size_is content_is ∙ is)
    ∙ sym (ap (message_sets domain after) (rest_is ∙ ap (λ n. behind n part) size_is))

pub set-refused : (domain kind size : ℕ) (before : Contents) (part content : Part) (error : StreamError)
    → 0 < length part.bytes → is_bad_length part ≡ false
    → kind ≡ number_at 0 2 part.bytes → size ≡ set_length part → content ≡ behind 4 (first_part size part)
    → IsFaultOf (set_contents domain kind part.at before content) error
    → IsFaultOf (message_sets domain before part) error
set-refused domain kind size before part content error some good kind_is size_is content_is is =
    message_sets-fault domain before part error some good
    (fault_of-same _ (set_contents domain kind part.at before content) error
    (contents-same domain kind size before part content kind_is size_is content_is) is)
