-- The bytes of a store as pages. Assumes nothing.
use Rattle.std.proofs.Common.{◌≡◌, ℕ, zero, suc, ◌+◌, ◌*◌, ◌<◌, ◌≤◌, true, false, cond, ◌&&◌, ltb, ◌⊎◌, List, length, sym, refl, ap, ◌∙◌, subst, inl, inr, ⊎_elim, arith}
use Rattle.std.proofs.lemmas.Bool.{and_from, lt-ltb, cases_Bool, cases_eq, cases_lt, cond-true, cond-false, both_ways}
use Rattle.store.specs.Page.{Page, no_page, ShowsSame}
use Rattle.store.specs.Layout.{slots, version_at, letter_at, holds, well_formed, slot_page, page_below, page_in}
use Rattle.store.specs.Slots.{OnlySlot}
use Rattle.store.proofs.Formed.{Formed, formed, other_slot, other_letter, other_holds, holds_not, holds_parts, same_slots}

pub shows_refl : (p : Page) → ShowsSame p p
shows_refl p = record { there = refl; version = refl; letters = λ r c hr hc. refl }

pub shows_sym : {p q : Page} → ShowsSame p q → ShowsSame q p
shows_sym a = record { there = sym a.there; version = sym a.version; letters = λ r c hr hc. sym (a.letters r c hr hc) }

pub shows_then : {p q t : Page} → ShowsSame p q → ShowsSame q t → ShowsSame p t
shows_then a b = record { there = a.there ∙ b.there; version = a.version ∙ b.version; letters = λ r c hr hc. a.letters r c hr hc ∙ b.letters r c hr hc }

pub shows_is : {p q : Page} → p ≡ q → ShowsSame p q
shows_is {p} {q} e = subst (ShowsSame p) e (shows_refl p)

below_here : (s : List ℕ) (n i m : ℕ) → Formed s → i < m → m ≤ slots s → holds s n i ≡ true → page_below s n m ≡ slot_page s i
unfolding page_below
below_here s n i zero w h le e = absurd (omega arith)
below_here s n i (suc m) w h le e =
    ⊎_elim (λ lt. cond-false (holds s n m) _ _ (⊎_elim (λ d. absurd (w.apart n m i (omega arith) lt d e)) (λ d. d) (cases_Bool (holds s n m))) ∙ below_here s n i m w lt (omega arith) e)
    (λ ge. let same : i ≡ m = omega arith in subst (λ j. cond (holds s n j) (slot_page s j) (page_below s n j) ≡ slot_page s i) same (cond-true (holds s n i) _ _ e)) (cases_lt i m)

below_none : (s : List ℕ) (n m : ℕ) → ((k : ℕ) → k < m → holds s n k ≡ false) → page_below s n m ≡ no_page
unfolding page_below
below_none s n zero f = refl
below_none s n (suc m) f = cond-false (holds s n m) _ _ (f m (omega arith)) ∙ below_none s n m (λ k h. f k (omega arith))

below_same : (s t : List ℕ) (n m : ℕ) → ((j : ℕ) → j < m → holds t n j ≡ holds s n j) → ((j : ℕ) → j < m → holds s n j ≡ true → ShowsSame (slot_page t j) (slot_page s j)) → ShowsSame (page_below t n m) (page_below s n m)
unfolding page_below
below_same s t n zero f g = shows_refl no_page
below_same s t n (suc m) f g =
    let rest = below_same s t n m (λ j h. f j (omega arith)) (λ j h. g j (omega arith)) in
    let here = f m (omega arith) in
    ⊎_elim
    (λ e. shows_then (shows_is (cond-true (holds t n m) (slot_page t m) (page_below t n m) (here ∙ e))) (shows_then (g m (omega arith) e) (shows_is (sym (cond-true (holds s n m) (slot_page s m) (page_below s n m) e)))))
    (λ e. shows_then (shows_is (cond-false (holds t n m) (slot_page t m) (page_below t n m) (here ∙ e))) (shows_then rest (shows_is (sym (cond-false (holds s n m) (slot_page s m) (page_below s n m) e)))))
    (cases_Bool (holds s n m))

-- the page that a slot holds
pub page_held : (s : List ℕ) (n i : ℕ) → well_formed s ≡ true → i < slots s → holds s n i ≡ true → page_in s n ≡ slot_page s i
unfolding page_in
page_held s n i ok h e = below_here s n i (slots s) (formed s ok) h (omega arith) e

pub page_absent : (s : List ℕ) (n : ℕ) → ((k : ℕ) → k < slots s → holds s n k ≡ false) → page_in s n ≡ no_page
unfolding page_in
page_absent s n f = below_none s n (slots s) f

pub slot_letter : (s : List ℕ) (i r c : ℕ) → r < 25 → c < 40 → (slot_page s i).letters r c ≡ letter_at s i r c
unfolding slot_page
slot_letter s i r c hr hc = cond-true (ltb r 25 && ltb c 40) _ _ (and_from _ _ (lt-ltb _ _ hr) (lt-ltb _ _ hc))

pub slot_there : (s : List ℕ) (i : ℕ) → (slot_page s i).there ≡ true
unfolding slot_page
slot_there s i = refl

pub slot_version : (s : List ℕ) (i : ℕ) → (slot_page s i).version ≡ version_at s i
unfolding slot_page
slot_version s i = refl

pub none_there : no_page.there ≡ false
unfolding no_page
none_there = refl

-- the other pages stay, where slot i got page n and held no other
pub other_pages : (s t : List ℕ) (n m i : ℕ) → length t ≡ length s → holds t n i ≡ true → holds s m i ≡ false → (m ≡ n → ⊥) → OnlySlot s t i → ShowsSame (page_in t m) (page_in s m)
unfolding page_in
other_pages s t n m i long here was ne only =
    let gone : holds t m i ≡ false = holds_not t m i (inr (λ e. ne (sym e ∙ (holds_parts t n i here).1))) in
    subst (λ k. ShowsSame (page_below t m k) (page_below s m (slots s))) (sym (same_slots s t long))
    (below_same s t m (slots s) (λ j h. ⊎_elim (λ e. subst (λ k. holds t m k ≡ holds s m k) (sym e) (gone ∙ sym was)) (λ nj. other_holds s t i only m j nj) (cases_eq j i))
    (λ j h e. let nj : j ≡ i → ⊥ = λ same. both_ways _ was (ap (λ k. holds s m k) (sym same) ∙ e) in
    record {
      there = slot_there t j ∙ sym (slot_there s j);
      version = slot_version t j ∙ other_slot s t i only j nj 2 (omega arith) ∙ sym (slot_version s j);
      letters = λ r c hr hc. slot_letter t j r c hr hc ∙ other_letter s t i only j nj (40 * r + c) (omega arith) ∙ sym (slot_letter s j r c hr hc);
    }))

-- where a page stands, or that it doesn't
slot_below : (s : List ℕ) (n m : ℕ) → ((i : ℕ) × (i < m) × (holds s n i ≡ true)) ⊎ ((k : ℕ) → k < m → holds s n k ≡ false)
slot_below s n zero = inr (λ k h. absurd (omega arith))
slot_below s n (suc m) =
    ⊎_elim (λ e. inl (m, omega arith, e))
    (λ e. ⊎_elim (λ w. inl (w.0, omega (arith, w.1), w.2)) (λ f. inr (λ k h. ⊎_elim (λ lt. f k lt) (λ le. let same : m ≡ k = omega arith in subst (λ j. holds s n j ≡ false) same e) (cases_lt k m))) (slot_below s n m))
    (cases_Bool (holds s n m))

pub slot_cases : (s : List ℕ) (n : ℕ) → ((i : ℕ) × (i < slots s) × (holds s n i ≡ true)) ⊎ ((k : ℕ) → k < slots s → holds s n k ≡ false)
slot_cases s n = slot_below s n (slots s)

pub page_there : (s : List ℕ) (n i : ℕ) → well_formed s ≡ true → i < slots s → holds s n i ≡ true → (page_in s n).there ≡ true
page_there s n i ok h e = ap (λ p. p.there) (page_held s n i ok h e) ∙ slot_there s i

pub absent_there : (s : List ℕ) (n : ℕ) → ((k : ℕ) → k < slots s → holds s n k ≡ false) → (page_in s n).there ≡ false
absent_there s n f = ap (λ p. p.there) (page_absent s n f) ∙ none_there

pub there_slot : (s : List ℕ) (n : ℕ) → (page_in s n).there ≡ true → (i : ℕ) × (i < slots s) × (holds s n i ≡ true)
there_slot s n t = ⊎_elim (λ w. w) (λ f. absurd (both_ways _ (absent_there s n f) t)) (slot_cases s n)
