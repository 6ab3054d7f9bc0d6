-- Records and sets of a list of flows, from the front.
use Rattle.std.proofs.Common.{◌≡◌, ◌≤◌, ◌<◌, ◌+◌, ◌*◌, ◌==◌, ℕ, suc, Bool, true, false, cond, List, [], ◌∷◌, ◌++◌}
use Rattle.std.proofs.Common.{length, flat_map, take, drop, take_while, if◌then◌else◌, refl, sym, ap, ◌∙◌, subst, arith}
use Rattle.std.proofs.Common.{length-append, append_assoc, append-nil, get_or, add-one, inl, inr, ◌⊎◌}
use Rattle.std.proofs.Math.Seq.{drop-cons}
use Rattle.std.proofs.lemmas.Bool.{eq-eqb}
use Rattle.std.proofs.lemmas.Bool.Decides.{eqb_tells}
use Rattle.std.proofs.lemmas.List.{drop-drop, drop_all}
use Rattle.std.specs.List.{prefix_len}
use Rattle.ipfix_model.specs.declared.fields.FieldSpec.{FieldSpec}
use Rattle.octets.specs.Numbers.{octets_of}
use Rattle.ipfix_writer.specs.Encoding.{set, field_specifier}
use Rattle.ipfix_writer.specs.Layout.{RecordSet, records_in, put_before, sets_in, bytes_of_sets, body_in}
use Rattle.ipfix_writer.specs.DataSizes.{length-octets}
use Rattle.ipfix_writer.proofs.Sizes.{length-set}

-- the record at a place stands in front of the records behind it
pub records_next : {A : Type 0} (encode : A → RecordSet) (flows : List A) (i : ℕ) (flow : A) → i < length flows
    → flow ≡ get_or flows i flow
    → records_in encode (drop i flows) ≡ (encode flow).records ++ records_in encode (drop (i + 1) flows)
records_next encode flows i flow inside is =
    ap (records_in encode) (drop-cons flows i flow inside ∙ ap (λ f. f ∷ drop (suc i) flows) (sym is))
    ∙ ap (λ n. (encode flow).records ++ records_in encode (drop n flows)) (sym (add-one i))

-- where what was put in and what is left fit together, the next part fits too
pub room_for_next : (items next rest start all : List ℕ) (room : ℕ) → items ++ (next ++ rest) ≡ start ++ all
    → length start + length all ≤ room → length items + length next ≤ room
room_for_next items next rest start all room is fits =
    let lengths : length items + (length next + length rest) ≡ length start + length all =
    ap (λ n. length items + n) (sym (length-append next rest)) ∙ sym (length-append items (next ++ rest)) ∙ ap length is
    ∙ length-append start all in
    omega arith

differ : true ≡ false → ⊥
differ e = cc

-- two numbers that are equal have the same test against a third
eqb-swapped : (a b c : ℕ) → a ≡ c → (b == c) ≡ false → (a == b) ≡ false
eqb-swapped a b c is other = elim (eqb_tells a b) [
  | inl same ↦ absurd (differ (sym (eq-eqb b c (sym same.1 ∙ is)) ∙ other))
  | inr apart ↦ apart.0
]

-- a set of these records
abbrev set_with : ℕ → List ℕ → RecordSet
set_with template bytes = record { template = template; records = bytes }

-- a record in front of a set of its template goes into it
put_before-same : (template : ℕ) (bytes : List ℕ) (first : RecordSet) (sets : List RecordSet)
    → (template == first.template) ≡ true
    → put_before template bytes (first ∷ sets) ≡ set_with template (bytes ++ first.records) ∷ sets
unfolding put_before
put_before-same template bytes first sets same =
    ap (λ (b : Bool). if b then set_with template (bytes ++ first.records) ∷ sets
    else set_with template bytes ∷ (first ∷ sets)) same

-- a record in front of a set of another template has a set of its own
put_before-other : (template : ℕ) (bytes : List ℕ) (first : RecordSet) (sets : List RecordSet)
    → (template == first.template) ≡ false
    → put_before template bytes (first ∷ sets) ≡ set_with template bytes ∷ (first ∷ sets)
unfolding put_before
put_before-other template bytes first sets other =
    ap (λ (b : Bool). if b then set_with template (bytes ++ first.records) ∷ sets
    else set_with template bytes ∷ (first ∷ sets)) other

-- the first set behind a record that was put before is of its template
put_before-front : (template : ℕ) (bytes : List ℕ) (sets : List RecordSet)
    → (rest : List RecordSet) × (records : List ℕ) × (put_before template bytes sets ≡ set_with template records ∷ rest)
unfolding put_before
put_before-front template bytes [] = ([], bytes, refl)
put_before-front template bytes (first ∷ sets) =
    elim (template == first.template) as (λ b. (rest : List RecordSet) × (records : List ℕ)
    × ((if b then set_with template (bytes ++ first.records) ∷ sets else set_with template bytes ∷ (first ∷ sets))
    ≡ set_with template records ∷ rest))
    [ true ↦ (sets, bytes ++ first.records, refl) | false ↦ (first ∷ sets, bytes, refl) ]

-- whether a record has this template
abbrev of_template : {A : Type 0} → (A → RecordSet) → ℕ → A → Bool
of_template encode template flow = (encode flow).template == template

-- how many of the first records have this template
abbrev pub leading : {A : Type 0} → (A → RecordSet) → ℕ → List A → ℕ
leading encode template [] = 0
leading encode template (flow ∷ flows) = cond (of_template encode template flow) (suc (leading encode template flows)) 0

pub length-take_while : {A : Type 0} (encode : A → RecordSet) (template : ℕ) (flows : List A)
    → length (take_while (of_template encode template) flows) ≡ leading encode template flows
length-take_while encode template [] = refl
length-take_while encode template (flow ∷ flows) =
    let shorter = length-take_while encode template flows in
    let n = prefix_len (of_template encode template) flows in
    let one_more : 1 + n ≡ suc n = omega arith in
    elim (of_template encode template flow) as
    (λ b. length (take (cond b (1 + n) 0) (flow ∷ flows)) ≡ cond b (suc (leading encode template flows)) 0)
    [ true ↦ rw one_more (ap suc shorter) | false ↦ refl ]

-- the first set has the records of the first record's template, and the other sets those behind them
abbrev pub HasFirstSet : {A : Type 0} → (A → RecordSet) → ℕ → List A → Type 0
HasFirstSet encode template flows =
    sets_in encode flows ≡ set_with template (records_in encode (take (leading encode template flows) flows))
    ∷ sets_in encode (drop (leading encode template flows) flows)

-- a lone record has a set of its own
alone : {A : Type 0} (encode : A → RecordSet) (template : ℕ) (flow : A) → (encode flow).template ≡ template
    → sets_in encode (flow ∷ []) ≡ set_with template ((encode flow).records ++ []) ∷ []
unfolding sets_in put_before
alone encode template flow is = ap (λ n. set_with n (encode flow).records ∷ []) is
    ∙ ap (λ bs. set_with template bs ∷ []) (sym (append-nil (encode flow).records))

-- the first record, and then one of its template
in_first : {A : Type 0} (encode : A → RecordSet) (template : ℕ) (flow next : A) (flows : List A)
    → (encode flow).template ≡ template
    → HasFirstSet encode template (next ∷ flows)
    → sets_in encode (flow ∷ (next ∷ flows))
    ≡ set_with template ((encode flow).records
    ++ records_in encode (take (leading encode template (next ∷ flows)) (next ∷ flows)))
    ∷ sets_in encode (drop (leading encode template (next ∷ flows)) (next ∷ flows))
unfolding sets_in
in_first encode template flow next flows is rest =
    let set_of_rest =
    set_with template (records_in encode (take (leading encode template (next ∷ flows)) (next ∷ flows))) in
    let sets = sets_in encode (drop (leading encode template (next ∷ flows)) (next ∷ flows)) in
    ap (put_before (encode flow).template (encode flow).records) rest
    ∙ put_before-same (encode flow).template (encode flow).records set_of_rest sets
    (eq-eqb (encode flow).template template is)
    ∙ ap (λ n. set_with n ((encode flow).records ++ set_of_rest.records) ∷ sets) is

-- the first record, and then one of another template
before_other : {A : Type 0} (encode : A → RecordSet) (template : ℕ) (flow next : A) (flows : List A)
    → (encode flow).template ≡ template
    → ((encode next).template == template) ≡ false
    → sets_in encode (flow ∷ (next ∷ flows)) ≡ set_with template ((encode flow).records ++ [])
    ∷ sets_in encode (next ∷ flows)
unfolding sets_in
before_other encode template flow next flows is other =
    let front = put_before-front (encode next).template (encode next).records (sets_in encode flows) in
    let apart : ((encode flow).template == (encode next).template) ≡ false =
    eqb-swapped (encode flow).template (encode next).template template is other in
    ap (put_before (encode flow).template (encode flow).records) front.2
    ∙ put_before-other (encode flow).template (encode flow).records
    (set_with (encode next).template front.1) front.0 apart
    ∙ ap (λ n. set_with n (encode flow).records ∷ (set_with (encode next).template front.1 ∷ front.0)) is
    ∙ ap (λ sets. set_with template (encode flow).records ∷ sets) (sym front.2)
    ∙ ap (λ bs. set_with template bs ∷ put_before (encode next).template (encode next).records (sets_in encode flows))
    (sym (append-nil (encode flow).records))

-- where the next record has the template, the run goes on, else it ends
first_set-cases : {A : Type 0} (encode : A → RecordSet) (template : ℕ) (flow next : A) (flows : List A) (b : Bool)
    → (encode flow).template ≡ template
    → of_template encode template next ≡ b → HasFirstSet encode template (next ∷ flows) ⊎ (b ≡ false)
    → HasFirstSet encode template (flow ∷ (next ∷ flows))
first_set-cases encode template flow next flows b is test (inl rest) =
    rw (eq-eqb (encode flow).template template is) (in_first encode template flow next flows is rest)
first_set-cases encode template flow next flows b is test (inr other) =
    rw (eq-eqb (encode flow).template template is, test ∙ other)
    (before_other encode template flow next flows is (test ∙ other))

-- every list of records that begins with one of a template has that first set
pub first_set : {A : Type 0} (encode : A → RecordSet) (template : ℕ) (flow : A) (flows : List A)
    → (encode flow).template ≡ template → HasFirstSet encode template (flow ∷ flows)
unfolding sets_in
first_set encode template flow [] is = rw (eq-eqb (encode flow).template template is) (alone encode template flow is)
first_set encode template flow (next ∷ flows) is =
    first_set-cases encode template flow next flows (of_template encode template next) is refl
    (elim (eqb_tells (encode next).template template) [
      | inl same ↦ inl (first_set encode template next flows same.1)
      | inr apart ↦ inr apart.0
    ])

-- a list that isn't empty is its first element and the others
first_and_rest : {A : Type 0} (flows : List A) (flow : A) → 0 < length flows → flow ≡ get_or flows 0 flow
    → (rest : List A) × (flows ≡ flow ∷ rest)
first_and_rest [] flow some is = absurd (omega (arith, some))
first_and_rest (first ∷ rest) flow some is = (rest, ap (λ f. f ∷ rest) (sym is))

leading-bound : {A : Type 0} (encode : A → RecordSet) (template : ℕ) (flows : List A)
    → leading encode template flows ≤ length flows
leading-bound encode template [] = omega arith
leading-bound encode template (flow ∷ flows) =
    let below = leading-bound encode template flows in
    elim (of_template encode template flow) as
    (λ b. cond b (suc (leading encode template flows)) 0 ≤ suc (length flows))
    [ true ↦ omega arith | false ↦ omega arith ]

one_more_times : (n m : ℕ) → m + n * m ≡ suc n * m
one_more_times n m = grind arith

leading-size : {A : Type 0} (encode : A → RecordSet) (template size : ℕ) (flows : List A)
    → ((x : A) → (encode x).template ≡ template → length (encode x).records ≡ size)
    → length (records_in encode (take (leading encode template flows) flows)) ≡ leading encode template flows * size
leading-size encode template size [] sized = omega arith
leading-size encode template size (flow ∷ flows) sized =
    let rest = leading-size encode template size flows sized in
    elim (eqb_tells (encode flow).template template) [
      | inl same ↦ rw same.0
          (length-append (encode flow).records (records_in encode (take (leading encode template flows) flows))
          ∙ ap (λ n. n + length (records_in encode (take (leading encode template flows) flows))) (sized flow same.1)
          ∙ ap (λ n. size + n) rest
          ∙ one_more_times (leading encode template flows) size)
      | inr apart ↦ rw apart.0 (omega arith)
    ]

-- records of one template are of one length
abbrev pub AreSized : (A : Type 0) → (A → RecordSet) → Type 0
AreSized A encode = (one other : A) → (encode one).template ≡ (encode other).template
    → length (encode one).records ≡ length (encode other).records

-- what append_set writes in front of the sets that are left
pub record IsFirstSet {A : Type 0} (encode : A → RecordSet) (template count size : ℕ) (flows : List A) : Type 0 where
  pub some : 0 < count
  pub within : count ≤ length flows
  pub size_is : 4 + count * size ≡ 4 + length (records_in encode (take count flows))
  pub body : body_in encode flows ≡ set template (records_in encode (take count flows))
      ++ body_in encode (drop count flows)

first_set-of-list : {A : Type 0} (encode : A → RecordSet) (flow : A) (flows : List A) → AreSized A encode
    → IsFirstSet encode (encode flow).template (leading encode (encode flow).template (flow ∷ flows))
    (length (encode flow).records) (flow ∷ flows)
unfolding body_in
first_set-of-list encode flow flows sized =
    let template = (encode flow).template in
    let here : of_template encode template flow ≡ true = eq-eqb template template refl in
    record {
      some = rw here (omega arith);
      within = leading-bound encode template (flow ∷ flows);
      size_is =
          ap (λ n. 4 + n)
          (sym (leading-size encode template (length (encode flow).records) (flow ∷ flows) (λ x is. sized x flow is)));
      body = ap bytes_of_sets (first_set encode template flow flows refl);
    }

pub first_set-of : {A : Type 0} (encode : A → RecordSet) (flows : List A) (flow : A) (template count : ℕ)
    → AreSized A encode
    → 0 < length flows → flow ≡ get_or flows 0 flow → template ≡ (encode flow).template
    → count ≡ length (take_while (of_template encode template) flows)
    → IsFirstSet encode template count (length (encode flow).records) flows
first_set-of encode flows flow template count sized some is kind counted =
    let parts = first_and_rest flows flow some is in
    let all = flow ∷ parts.0 in
    let size = length (encode flow).records in
    let counts : count ≡ leading encode (encode flow).template all =
    counted ∙ length-take_while encode template flows ∙ ap (leading encode template) parts.1
    ∙ ap (λ t. leading encode t all) kind in
    subst (λ list. IsFirstSet encode template count size list) (sym parts.1)
    (subst (λ t. IsFirstSet encode t count size all) (sym kind)
    (subst (λ n. IsFirstSet encode (encode flow).template n size all) (sym counts)
    (first_set-of-list encode flow parts.0 sized)))

-- a number at the end makes a list longer by its bytes
pub longer_by : (n x : ℕ) (old new : List ℕ) → new ≡ old ++ octets_of n x → length new ≡ length old + n
longer_by n x old new is = ap length is ∙ length-append old (octets_of n x)
    ∙ ap (λ k. length old + k) (length-octets n x)

-- the lengths of the first set and of what is left
pub first_set-lengths : {A : Type 0} (encode : A → RecordSet) (template count size : ℕ) (flows : List A)
    → IsFirstSet encode template count size flows
    → length (body_in encode flows) ≡ 4 + count * size + length (body_in encode (drop count flows))
first_set-lengths encode template count size flows first =
    ap length first.body
    ∙ length-append (set template (records_in encode (take count flows))) (body_in encode (drop count flows))
    ∙ ap (λ n. n + length (body_in encode (drop count flows)))
    (length-set template (records_in encode (take count flows)) ∙ sym first.size_is)

-- a set's header and its records in front of what is left are the whole
pub first_set-written : {A : Type 0} (encode : A → RecordSet) (template count size : ℕ) (flows : List A)
    (start kind long all : List ℕ) → IsFirstSet encode template count size flows
    → kind ≡ start ++ octets_of 2 template → long ≡ kind ++ octets_of 2 (4 + count * size)
    → all ≡ long ++ records_in encode (take count flows)
    → all ++ body_in encode (drop count flows) ≡ start ++ body_in encode flows
unfolding set
first_set-written encode template count size flows start kind long all first kind_is long_is all_is =
    rw (all_is, long_is, kind_is, first.size_is, first.body) (simp append_assoc)

-- two lists that are put together alike have the same length together
pub put_together : (items rest start all : List ℕ) → items ++ rest ≡ start ++ all
    → length items + length rest ≡ length start + length all
put_together items rest start all is = sym (length-append items rest) ∙ ap length is ∙ length-append start all

-- after one more set
pub body_in-after : {A : Type 0} (encode : A → RecordSet) (flows rest : List A) (done count : ℕ)
    (items new start : List ℕ) → rest ≡ drop done flows
    → new ++ body_in encode (drop count rest) ≡ items ++ body_in encode rest
    → items ++ body_in encode (drop done flows) ≡ start ++ body_in encode flows
    → new ++ body_in encode (drop (done + count) flows) ≡ start ++ body_in encode flows
body_in-after encode flows rest done count items new start is next before =
    ap (λ fs. new ++ body_in encode fs) (sym (drop-drop count done flows) ∙ ap (drop count) (sym is)) ∙ next
    ∙ ap (λ fs. items ++ body_in encode fs) is ∙ before

-- behind the last record no set is left
pub body_in-rest : {A : Type 0} (encode : A → RecordSet) (flows : List A) (done : ℕ) (items start : List ℕ)
    → length flows ≤ done
    → items ++ body_in encode (drop done flows) ≡ start ++ body_in encode flows → items ≡ start ++ body_in encode flows
unfolding body_in sets_in
body_in-rest encode flows done items start past is =
    sym (append-nil items) ∙ ap (λ fs. items ++ body_in encode fs) (sym (drop_all done flows past)) ∙ is

-- the field specifier at a place stands in front of those behind it
pub fields_next : (fields : List FieldSpec) (i : ℕ) (d : FieldSpec) → i < length fields
    → flat_map field_specifier (drop i fields) ≡ field_specifier (get_or fields i d)
    ++ flat_map field_specifier (drop (i + 1) fields)
fields_next fields i d inside =
    ap (flat_map field_specifier) (drop-cons fields i d inside)
    ∙ ap (λ n. field_specifier (get_or fields i d) ++ flat_map field_specifier (drop n fields)) (sym (add-one i))

-- one more field specifier was appended
pub fields-more : (fields : List FieldSpec) (i : ℕ) (d : FieldSpec) (old new start : List ℕ) → i < length fields
    → new ≡ old ++ field_specifier (get_or fields i d)
    → old ++ flat_map field_specifier (drop i fields) ≡ start ++ flat_map field_specifier fields
    → new ++ flat_map field_specifier (drop (i + 1) fields) ≡ start ++ flat_map field_specifier fields
fields-more fields i d old new start inside is before =
    ap (λ bs. bs ++ flat_map field_specifier (drop (i + 1) fields)) is
    ∙ append_assoc old (field_specifier (get_or fields i d)) (flat_map field_specifier (drop (i + 1) fields))
    ∙ ap (λ bs. old ++ bs) (sym (fields_next fields i d inside)) ∙ before
