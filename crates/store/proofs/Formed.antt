-- What a store that is as it should be has, place by place, and that a change of one slot keeps it. Assumes nothing.
use Rattle.std.proofs.Common.{◌≡◌, ℕ, ◌+◌, ◌-◌, ◌*◌, ◌/◌, ◌<◌, ◌≤◌, Bool, true, false, not, ◌&&◌, eqb, ltb, leb, ◌⊎◌, List, length, get_or, Decides, sym, refl, ap, ◌∙◌, subst, inl, inr, ⊎_elim, arith}
use Rattle.std.proofs.lemmas.Bool.{both_ways, lt-ltb, ltb-true, ne_eqb, and_left, and_right, and_parts, and_from, not-true, not_from_false, le-leb, leb-true, eq-eqb, eqb-true, cases_eq, cases_Bool, cases_lt}
use Rattle.std.proofs.lemmas.Bool.Decides.{Decides-below_and}
use Rattle.store.specs.Layout.{slots, mark_at, number_at, holds, letter_fine, letters_fine, alone, slot_fine, slot_count, fine_below, well_formed}
use Rattle.store.specs.Slots.{OnlySlot}

-- a store that is as it should be
pub record Formed (s : List ℕ) : Type 0 where
  pub whole : length s ≡ 1003 * slots s
  pub few : slots s ≤ 60
  pub marks : (i : ℕ) → i < slots s → mark_at s i ≤ 1
  pub letters : (i k : ℕ) → i < slots s → k < 1000 → letter_fine (get_or s (1003 * i + 3 + k) 0) ≡ true
  pub apart : (n i j : ℕ) → i < slots s → j < i → holds s n i ≡ true → holds s n j ≡ true → ⊥

itself : (b : Bool) → Decides b (b ≡ true)
itself b = (λ h. h, λ h. h)

pub letters_are : (s : List ℕ) (at n : ℕ) → Decides (letters_fine s at n) ((k : ℕ) → k < n → letter_fine (get_or s (at + k) 0) ≡ true)
unfolding letters_fine
letters_are s at = Decides-below_and (λ k. letter_fine (get_or s (at + k) 0)) (λ k. letter_fine (get_or s (at + k) 0) ≡ true) (letters_fine s at) (λ k. itself _) refl (λ _. refl)

-- slots i and j hold one page
unfoldable pub clash : List ℕ → ℕ → ℕ → Bool
clash s i j = holds s (number_at s i) j && eqb (mark_at s i) 1

alone_is : (s : List ℕ) (i n : ℕ) → Decides (alone s i n) ((j : ℕ) → j < n → not (clash s i j) ≡ true)
unfolding alone clash
alone_is s i = Decides-below_and (λ j. not (clash s i j)) (λ j. not (clash s i j) ≡ true) (alone s i) (λ j. itself _) refl (λ _. refl)

pub fine_are : (s : List ℕ) (n : ℕ) → Decides (fine_below s n) ((i : ℕ) → i < n → slot_fine s i ≡ true)
unfolding fine_below
fine_are s = Decides-below_and (slot_fine s) (λ i. slot_fine s i ≡ true) (fine_below s) (λ i. itself _) refl (λ _. refl)

pub holds_from : (s : List ℕ) (n i : ℕ) → mark_at s i ≡ 1 → number_at s i ≡ n → holds s n i ≡ true
unfolding holds
holds_from s n i a b = and_from _ _ (eq-eqb _ _ a) (eq-eqb _ _ b)

pub holds_not : (s : List ℕ) (n i : ℕ) → (mark_at s i ≡ 1 → ⊥) ⊎ (number_at s i ≡ n → ⊥) → holds s n i ≡ false
unfolding holds
holds_not s n i w =
    ⊎_elim (λ a. and_left (eqb (mark_at s i) 1) (eqb (number_at s i) n) (ne_eqb _ _ a)) (λ b. and_right (eqb (mark_at s i) 1) (eqb (number_at s i) n) (ne_eqb _ _ b)) w

pub holds_parts : (s : List ℕ) (n i : ℕ) → holds s n i ≡ true → (mark_at s i ≡ 1) × (number_at s i ≡ n)
unfolding holds
holds_parts s n i e = let a = and_parts (eqb (mark_at s i) 1) (eqb (number_at s i) n) e in (eqb-true _ _ a.0, eqb-true _ _ a.1)

no_clash : (s : List ℕ) (n i j : ℕ) → clash s i j ≡ false → holds s n i ≡ true → holds s n j ≡ true → ⊥
unfolding clash
no_clash s n i j e a b =
    let x = holds_parts s n i a in
    both_ways _ e (and_from (holds s (number_at s i) j) (eqb (mark_at s i) 1) (ap (λ m. holds s m j) x.1 ∙ b) (eq-eqb _ _ x.0))

apart_clash : (s : List ℕ) (i j : ℕ) → ((n : ℕ) → holds s n i ≡ true → holds s n j ≡ true → ⊥) → clash s i j ≡ false
unfolding clash
apart_clash s i j f =
    ⊎_elim (λ e. let a = and_parts (holds s (number_at s i) j) (eqb (mark_at s i) 1) e in absurd (f _ (holds_from s _ i (eqb-true _ _ a.1) refl) a.0)) (λ e. e)
    (cases_Bool (holds s (number_at s i) j && eqb (mark_at s i) 1))

-- a slot that is as it should be
record SlotFormed (s : List ℕ) (i : ℕ) : Type 0 where
  few : i < 60
  whole : 1003 * i + 1003 ≤ length s
  mark : mark_at s i ≤ 1
  letters : letters_fine s (1003 * i + 3) 1000 ≡ true
  alone : alone s i i ≡ true

slot_formed : (s : List ℕ) (i : ℕ) → slot_fine s i ≡ true → SlotFormed s i
unfolding slot_fine
slot_formed s i e =
    let a = and_parts (ltb i 60) (leb (1003 * i + 1003) (length s) && (leb (mark_at s i) 1 && (letters_fine s (1003 * i + 3) 1000 && alone s i i))) e in
    let b = and_parts (leb (1003 * i + 1003) (length s)) (leb (mark_at s i) 1 && (letters_fine s (1003 * i + 3) 1000 && alone s i i)) a.1 in
    let c = and_parts (leb (mark_at s i) 1) (letters_fine s (1003 * i + 3) 1000 && alone s i i) b.1 in
    let d = and_parts (letters_fine s (1003 * i + 3) 1000) (alone s i i) c.1 in
    record { few = ltb-true _ _ a.0; whole = leb-true _ _ b.0; mark = leb-true _ _ c.0; letters = d.0; alone = d.1 }

-- a store whose slots are all whole has no cut one
count_whole : (n : ℕ) → ((i : ℕ) → i < (n + 1002) / 1003 → (i < 60) × (1003 * i + 1003 ≤ n)) → (n ≡ 1003 * (n / 1003)) × (n / 1003 ≤ 60)
count_whole n f =
    ⊎_elim (λ lt. let last = f ((n + 1002) / 1003 - 1) (omega arith) in (omega (arith, last.1), omega (arith, last.0, last.1))) (λ none. (omega arith, omega arith)) (cases_lt 0 ((n + 1002) / 1003))

pub formed : (s : List ℕ) → well_formed s ≡ true → Formed s
unfolding well_formed clash
formed s e =
    let all : (i : ℕ) → i < slot_count s → SlotFormed s i = λ i h. slot_formed s i ((fine_are s (slot_count s)).0 e i h) in
    let sizes = count_whole (length s) (λ i h. ((all i h).few, (all i h).whole)) in
    let each : (i : ℕ) → i < slots s → SlotFormed s i = λ i h. all i (omega (arith, sizes.0)) in
    record {
      whole = sizes.0;
      few = sizes.1;
      marks = λ i h. (each i h).mark;
      letters = λ i k h lt. (letters_are s (1003 * i + 3) 1000).0 (each i h).letters k lt;
      apart = λ n i j h lt. no_clash s n i j (not-true _ ((alone_is s i i).0 (each i h).alone j lt));
    }

pub well_formed_from : (s : List ℕ) → Formed s → well_formed s ≡ true
unfolding well_formed slot_fine clash
well_formed_from s w =
    (fine_are s (slot_count s)).1 (λ i lt.
    let h : i < slots s = omega (arith, w.whole) in
    and_from _ _ (lt-ltb i 60 (omega (arith, w.few)))
    (and_from _ _ (le-leb (1003 * i + 1003) (length s) (omega (arith, w.whole)))
    (and_from _ _ (le-leb _ _ (w.marks i h))
    (and_from _ _ ((letters_are s (1003 * i + 3) 1000).1 (λ k small. w.letters i k h small)) ((alone_is s i i).1 (λ j below. not_from_false _ (apart_clash s i j (λ n. w.apart n i j h below))))))))

-- another slot's bytes stay
pub other_slot : (s t : List ℕ) (i : ℕ) → OnlySlot s t i → (j : ℕ) → (j ≡ i → ⊥) → (d : ℕ) → d < 1003 → get_or t (1003 * j + d) 0 ≡ get_or s (1003 * j + d) 0
other_slot s t i only j ne d small = only (1003 * j + d) (⊎_elim (λ lt. inl (omega arith)) (λ le. inr (omega arith)) (cases_lt j i))

pub other_mark : (s t : List ℕ) (i : ℕ) → OnlySlot s t i → (j : ℕ) → (j ≡ i → ⊥) → mark_at t j ≡ mark_at s j
other_mark s t i only j ne = only (1003 * j) (⊎_elim (λ lt. inl (omega arith)) (λ le. inr (omega arith)) (cases_lt j i))

pub other_letter : (s t : List ℕ) (i : ℕ) → OnlySlot s t i → (j : ℕ) → (j ≡ i → ⊥) → (k : ℕ) → k < 1000 → get_or t (1003 * j + 3 + k) 0 ≡ get_or s (1003 * j + 3 + k) 0
other_letter s t i only j ne k small = only (1003 * j + 3 + k) (⊎_elim (λ lt. inl (omega arith)) (λ le. inr (omega arith)) (cases_lt j i))

-- which page a slot holds is said by its first two bytes
pub holds_same : (s t : List ℕ) (n j : ℕ) → mark_at t j ≡ mark_at s j → number_at t j ≡ number_at s j → holds t n j ≡ holds s n j
unfolding holds
holds_same s t n j a b = rw (a, b)

pub other_holds : (s t : List ℕ) (i : ℕ) → OnlySlot s t i → (n j : ℕ) → (j ≡ i → ⊥) → holds t n j ≡ holds s n j
other_holds s t i only n j ne = holds_same s t n j (other_mark s t i only j ne) (other_slot s t i only j ne 1 (omega arith))

pub same_slots : (s t : List ℕ) → length t ≡ length s → slots t ≡ slots s
same_slots s t e = ap (λ n. n / 1003) e

-- a change of one slot keeps the store as it should be, if that slot is
pub changed_slot : (s t : List ℕ) (i : ℕ) → well_formed s ≡ true → i < slots s → length t ≡ length s → OnlySlot s t i →
    mark_at t i ≤ 1 → ((k : ℕ) → k < 1000 → letter_fine (get_or t (1003 * i + 3 + k) 0) ≡ true) →
    ((j : ℕ) → j < slots s → (j ≡ i → ⊥) → mark_at t i ≡ 1 → holds s (number_at t i) j ≡ false) → well_formed t ≡ true
changed_slot s t i ok hi len only mark lets lone =
    let w = formed s ok in
    let count = same_slots s t len in
    well_formed_from t (record {
      whole = len ∙ w.whole ∙ ap (λ n. 1003 * n) (sym count);
      few = omega (arith, count, w.few);
      marks = λ j h. ⊎_elim (λ e. rw e mark) (λ ne. rw (other_mark s t i only j ne) (w.marks j (omega (arith, count)))) (cases_eq j i);
      letters = λ j m h lt. ⊎_elim (λ e. rw e (lets m lt)) (λ ne. rw (other_letter s t i only j ne m lt) (w.letters j m (omega (arith, count)) lt)) (cases_eq j i);
      apart = λ n a b h lt ta tb.
          let before : (j : ℕ) → (j ≡ i → ⊥) → holds t n j ≡ true → holds s n j ≡ true = λ j ne e. sym (other_holds s t i only n j ne) ∙ e in
          let clashes : (j : ℕ) → j < slots s → (j ≡ i → ⊥) → holds t n i ≡ true → holds t n j ≡ true → ⊥ =
          λ j hj ne e₁ e₂. let x = holds_parts t n i e₁ in both_ways _ (ap (λ m. holds s m j) (sym x.1) ∙ lone j hj ne x.0) (before j ne e₂) in
          ⊎_elim (λ e. clashes b (omega (arith, count)) (omega arith) (subst (λ j. holds t n j ≡ true) e ta) tb)
          (λ na. ⊎_elim (λ e. clashes a (omega (arith, count)) na (subst (λ j. holds t n j ≡ true) e tb) ta) (λ nb. w.apart n a b (omega (arith, count)) lt (before a na ta) (before b nb tb)) (cases_eq b i)) (cases_eq a i);
    })

-- a page stands in one slot
pub one_slot : (s : List ℕ) (n i j : ℕ) → well_formed s ≡ true → i < slots s → j < slots s → holds s n i ≡ true → holds s n j ≡ true → i ≡ j
one_slot s n i j ok hi hj a b =
    let w = formed s ok in
    ⊎_elim (λ e. e) (λ ne. absurd (⊎_elim (λ lt. w.apart n j i hj lt b a) (λ le. w.apart n i j hi (omega arith) a b) (cases_lt i j))) (cases_eq i j)

pub no_other : (s : List ℕ) (n i : ℕ) → well_formed s ≡ true → i < slots s → holds s n i ≡ true → (j : ℕ) → j < slots s → (j ≡ i → ⊥) → holds s n j ≡ false
no_other s n i ok hi e j hj ne = ⊎_elim (λ d. absurd (ne (one_slot s n j i ok hj hi d e))) (λ d. d) (cases_Bool (holds s n j))
