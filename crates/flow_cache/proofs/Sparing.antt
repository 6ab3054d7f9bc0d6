-- Operations that are no collection's: those of a try, one after another.
use Rattle.std.proofs.Common.{◌≡◌, ◌≢◌, inl, inr, ℕ, zero, suc, ◌+◌, ◌*◌, ◌<◌, ◌≤◌, List, [], ◌∷◌, ◌++◌, refl, sym, ap}
use Rattle.std.proofs.Common.{subst, ◌∙◌, append_assoc, arith}
use Rattle.std.specs.List.{range_with_len}
use Rattle.std.proofs.lemmas.List.{length-append}
use Rattle.std.proofs.lemmas.List.Elements.{All-append, All-cons, All-nil}
use Rattle.pebr_core.specs.declared.kinds.Shape.{Shape}
use Rattle.pebr_table.specs.Operations.{Op, load, store, exchange}
use Rattle.pebr_words.specs.Places.{index, epoch_word, status_word, shield_word, root_word, slot_word, roots_from}
use Rattle.pebr_roots.specs.Orders.{HasMade, AreMade, HasClearedOne, entered_operations, loaded_operations}
use Rattle.flow_cache.specs.Collecting.{IsOfOther, IsCollecting, HasSpared}

-- a word that is no status and no shield of another seat
apart : (shape : Shape) (me word : ℕ)
    → ((other : ℕ) → other < shape.seats → other ≢ me → word ≢ index shape (status_word other))
    → ((other place : ℕ) → other < shape.seats → other ≢ me → place < shape.shields
    → word ≢ index shape (shield_word other place))
    → ¬ (IsOfOther shape me word)
apart shape me word status shield (other, inside, not, inl is) = status other inside not is
apart shape me word status shield (other, inside, not, inr (place, low, is)) = shield other place inside not low is

module _ (shape : Shape) (four : shape.shields ≡ 4) (me : ℕ) where
  epoch_apart : (word : ℕ) → word ≡ index shape epoch_word → ¬ (IsOfOther shape me word)
  epoch_apart word is = apart shape me word
      (λ other inside not e. omega (arith, is, e))
      (λ other place inside not low e. omega (arith, is, e))

  status_apart : (word : ℕ) → me < shape.seats → word ≡ index shape (status_word me) → ¬ (IsOfOther shape me word)
  status_apart word mine is = apart shape me word
      (λ other inside not e. omega (arith, is, e, not))
      (λ other place inside not low e. omega (arith, is, e, mine))

  shield_apart : (word place : ℕ) → place < 4 → word ≡ index shape (shield_word me place)
      → ¬ (IsOfOther shape me word)
  shield_apart word place own is = apart shape me word
      (λ other inside not e. omega (arith, is, e, inside))
      (λ other k inside not low e. omega (arith, is, e, not, low, own, four))

  behind_apart : (word : ℕ) → roots_from shape ≤ word → ¬ (IsOfOther shape me word)
  behind_apart word far = apart shape me word
      (λ other inside not e. omega (arith, far, e, inside))
      (λ other place inside not low e. omega (arith, far, e, inside, low, four))

  -- a load of the epoch, of the own status and of what lies behind the seats' words
  pub loads_epoch : (found : ℕ) → ¬ (IsCollecting shape me (load (index shape epoch_word) found))
  loads_epoch found = epoch_apart (index shape epoch_word) refl

  pub loads_status : (found : ℕ) → me < shape.seats
      → ¬ (IsCollecting shape me (load (index shape (status_word me)) found))
  loads_status found mine = status_apart (index shape (status_word me)) mine refl

  pub loads_behind : (word found : ℕ) → roots_from shape ≤ word → ¬ (IsCollecting shape me (load word found))
  loads_behind word found far = behind_apart word far

  stored : (word value : ℕ) → word ≢ index shape epoch_word → ¬ (IsOfOther shape me word)
      → ¬ (IsCollecting shape me (store word value))
  stored word value not far (inl is) = not is
  stored word value not far (inr of) = far of

  -- a store of the own status, of an own shield and of what lies behind
  pub stores_status : (value : ℕ) → me < shape.seats
      → ¬ (IsCollecting shape me (store (index shape (status_word me)) value))
  stores_status value mine = stored (index shape (status_word me)) value (λ e. omega (arith, e))
      (status_apart (index shape (status_word me)) mine refl)

  pub stores_shield : (place value : ℕ) → place < 4
      → ¬ (IsCollecting shape me (store (index shape (shield_word me place)) value))
  stores_shield place value own = stored (index shape (shield_word me place)) value (λ e. omega (arith, e))
      (shield_apart (index shape (shield_word me place)) place own refl)

  pub stores_behind : (word value : ℕ) → roots_from shape ≤ word → ¬ (IsCollecting shape me (store word value))
  stores_behind word value far = stored word value (λ e. omega (arith, e, far)) (behind_apart word far)

  -- an exchange of what lies behind
  exchanged : (word expected value found : ℕ) → word ≢ index shape epoch_word → ¬ (IsOfOther shape me word)
      → ¬ (IsCollecting shape me (exchange word expected value found))
  exchanged word expected value found not far (inl is) = not is
  exchanged word expected value found not far (inr of) = far of

  pub exchanges_behind : (word expected value found : ℕ) → roots_from shape ≤ word
      → ¬ (IsCollecting shape me (exchange word expected value found))
  exchanges_behind word expected value found far =
      exchanged word expected value found (λ e. omega (arith, e, far)) (behind_apart word far)

module _ (shape : Shape) (me : ℕ) where
  pub made_of : (n : ℕ) (x y : List Op) → HasSpared shape me n x y → HasMade n x y
  made_of n x y h = record { made = h.made; is = h.is; few = h.few }

  pub spared_none : (x y : List Op) → y ≡ x → HasSpared shape me 0 x y
  spared_none x y is = record {
    made = [];
    is = is;
    few = omega arith;
    none = All-nil (λ op. ¬ (IsCollecting shape me op));
  }

  pub spared_op : (op : Op) (x y : List Op) → ¬ (IsCollecting shape me op) → y ≡ op ∷ x → HasSpared shape me 1 x y
  spared_op op x y not is = record {
    made = op ∷ [];
    is = is;
    few = omega arith;
    none = All-cons (λ op. ¬ (IsCollecting shape me op)) op [] not (All-nil (λ op. ¬ (IsCollecting shape me op)));
  }

  pub spared_in : (a b : ℕ) (x y : List Op) → a ≤ b → HasSpared shape me a x y → HasSpared shape me b x y
  spared_in a b x y low h =
      let p = h.few in record { made = h.made; is = h.is; few = omega (arith, p, low); none = h.none }

  same_seat : (a b : ℕ) (x y z : List Op) → HasSpared shape me a x y → HasSpared shape me b y z
      → HasSpared shape me (a + b) x z
  same_seat a b x y z h k =
      let long = length-append k.made h.made in
      let p = h.few in let q = k.few in
      record {
        made = k.made ++ h.made;
        is = k.is ∙ (ap (λ l. k.made ++ l) h.is ∙ sym (append_assoc k.made h.made x));
        few = omega (arith, long, p, q);
        none = All-append (λ op. ¬ (IsCollecting shape me op)) k.made h.made k.none h.none;
      }

  -- one after the other, by a seat that keeps its number
  pub spared_on : (a b me' : ℕ) (x y z : List Op) → me' ≡ me → HasSpared shape me a x y → HasSpared shape me' b y z
      → HasSpared shape me (a + b) x z
  spared_on a b me' x y z same h k = same_seat a b x y z h (subst (λ i. HasSpared shape i b y z) same k)

  pub spared_two : (op op' : Op) (x y : List Op) → ¬ (IsCollecting shape me op) → ¬ (IsCollecting shape me op')
      → y ≡ op ∷ op' ∷ x → HasSpared shape me 2 x y
  spared_two op op' x y not not' is =
      spared_on 1 1 me x (op' ∷ x) y refl (spared_op op' x (op' ∷ x) not' refl) (spared_op op (op' ∷ x) y not is)

  -- the shields of a place on are taken down
  cleared_on : (four : shape.shields ≡ 4) (lo n : ℕ) (x y : List Op) → lo + n ≤ 4
      → AreMade (HasClearedOne shape me) (range_with_len lo n) x y → HasSpared shape me n x y
  cleared_on four lo zero x y low is = spared_none x y is
  cleared_on four lo (suc n) x y low h =
      spared_in (1 + n) (suc n) x y (omega arith)
      (spared_on 1 n me x h.0 y refl
      (spared_op _ x h.0 (stores_shield shape four me lo 0 (omega (arith, low))) h.1)
      (cleared_on four (lo + 1) n h.0 y (omega (arith, low)) h.2))

  pub cleared_spares : (four : shape.shields ≡ 4) (x y : List Op)
      → AreMade (HasClearedOne shape me) (range_with_len 0 shape.shields) x y → HasSpared shape me 4 x y
  cleared_spares four x y h =
      spared_in shape.shields 4 x y (omega (arith, four))
      (cleared_on four 0 shape.shields x y (omega (arith, four)) h)

  -- what the calls of a pass make
  module _ (four : shape.shields ≡ 4) where
    pub entered_spares : (noted : ℕ) (x y : List Op) → me < shape.seats → y ≡ entered_operations shape me noted x
        → HasSpared shape me 2 x y
    entered_spares noted x y mine is =
        spared_two _ _ x y (stores_status shape four me (4 * noted + 1) mine) (loads_epoch shape four me noted) is

    pub loaded_spares : (root place slot : ℕ) (x y : List Op) → place < 4
        → y ≡ loaded_operations shape me root place slot x → HasSpared shape me 2 x y
    loaded_spares root place slot x y low is =
        spared_two _ _ x y (stores_shield shape four me place (slot + 1) low)
        (loads_behind shape four me (index shape (root_word root)) slot (omega arith)) is

    pub checked_spares : (found : ℕ) (x y : List Op) → me < shape.seats
        → y ≡ load (index shape (status_word me)) found ∷ x → HasSpared shape me 1 x y
    checked_spares found x y mine is = spared_op _ x y (loads_status shape four me found mine) is

    pub left_spares : (value : ℕ) (x y : List Op) → me < shape.seats
        → y ≡ store (index shape (status_word me)) value ∷ x → HasSpared shape me 1 x y
    left_spares value x y mine is = spared_op _ x y (stores_status shape four me value mine) is

    pub read_spares : (slot word found : ℕ) (x y : List Op)
        → y ≡ load (index shape (slot_word slot word)) found ∷ x → HasSpared shape me 1 x y
    read_spares slot word found x y is = spared_op _ x y
        (loads_behind shape four me (index shape (slot_word slot word)) found (omega arith)) is

    pub written_spares : (slot word value : ℕ) (x y : List Op)
        → y ≡ store (index shape (slot_word slot word)) value ∷ x → HasSpared shape me 1 x y
    written_spares slot word value x y is = spared_op _ x y
        (stores_behind shape four me (index shape (slot_word slot word)) value (omega arith)) is

    pub replaced_spares : (root old new found : ℕ) (x y : List Op)
        → y ≡ exchange (index shape (root_word root)) old new found ∷ x → HasSpared shape me 1 x y
    replaced_spares root old new found x y is = spared_op _ x y
        (exchanges_behind shape four me (index shape (root_word root)) old new found (omega arith)) is
