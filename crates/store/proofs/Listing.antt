-- The directory of a store, as slots are passed, begun and written. Assumes nothing.
use Rattle.std.proofs.Common.{◌≡◌, ℕ, zero, suc, ◌+◌, ◌<◌, ◌≤◌, true, false, List, length, get_or, set, replicate, MatchOption, Option, Some, None, is_some, sym, refl, ap, ◌∙◌, subst, inl, inr, ⊎_elim, arith, get_or-set_other, get_or-set_same, below_more}
use lib.ListN.{get_or-replicate}
use Rattle.std.proofs.lemmas.Bool.{cases_eq, cases_lt, or_left, or_right, or_from}
use Rattle.store.specs.Layout.{slots, mark_at, number_at, holds}
use Rattle.store.specs.Directory.{EntryOf, ListsBelow, TakenBelow, Lists, SamePlaces}
use Rattle.store.specs.Writes.{held_below, Found, Free, Begun}
use Rattle.store.specs.declared.directory.Directory.{Directory}
use Rattle.store.proofs.Formed.{holds_from, holds_not, holds_parts, holds_same, other_mark, other_holds, same_slots}

held_yes : (s : List ℕ) (n k i : ℕ) → k < i → holds s n k ≡ true → held_below s n i ≡ true
unfolding held_below
held_yes s n k zero h e = absurd (omega arith)
held_yes s n k (suc i) h e = ⊎_elim (λ q. or_left (holds s n i) (held_below s n i) (ap (holds s n) (sym q) ∙ e)) (λ ne. or_right (holds s n i) (held_below s n i) (held_yes s n k i (omega arith) e)) (cases_eq k i)

held_no : (s : List ℕ) (n i : ℕ) → ((j : ℕ) → j < i → holds s n j ≡ false) → held_below s n i ≡ false
unfolding held_below
held_no s n zero f = refl
held_no s n (suc i) f = or_from (holds s n i) (held_below s n i) (f i (omega arith)) (held_no s n i (λ j h. f j (omega arith)))

-- an entry tells whether the page stands there
pub entry_tells : (s : List ℕ) (n : ℕ) (entry : Option ℕ) (i : ℕ) → EntryOf s n entry i → is_some entry ≡ held_below s n i
entry_tells s n None i w = sym (held_no s n i w)
entry_tells s n (Some k) i w = sym (held_yes s n k i w.0 w.1)

-- SLOTS THAT ARE PASSED

pub lists_none : (s : List ℕ) → ListsBelow s (replicate 256 None) 0
lists_none s n h = subst (λ e. EntryOf s n e 0) (sym (get_or-replicate 256 n None None h)) (λ k lt. absurd (omega arith))

one_more : (s : List ℕ) (n : ℕ) (entry : Option ℕ) (i : ℕ) → EntryOf s n entry i → holds s n i ≡ false → EntryOf s n entry (i + 1)
one_more s n None i w away = below_more (λ j. holds s n j ≡ false) i w away
one_more s n (Some k) i w away = (omega (arith, w.0), w.1)

-- one that is free
pub lists_free : (s : List ℕ) (table : List (Option ℕ)) (i : ℕ) → (mark_at s i ≡ 1 → ⊥) → ListsBelow s table i → ListsBelow s table (i + 1)
lists_free s table i off w n h = one_more s n (get_or table n None) i (w n h) (holds_not s n i (inl off))

-- one that holds a page
pub lists_page : (s : List ℕ) (table : List (Option ℕ)) (i : ℕ) → length table ≡ 256 → number_at s i < 256 → mark_at s i ≡ 1 → ListsBelow s table i → ListsBelow s (set table (number_at s i) (Some i)) (i + 1)
lists_page s table i long small on w n h =
    let p : ℕ = number_at s i in
    ⊎_elim
    (λ e. subst (λ k. EntryOf s n k (i + 1)) (sym (ap (λ m. get_or (set table p (Some i)) m None) e ∙ get_or-set_same table p (Some i) None (omega arith))) (omega arith, holds_from s n i on (sym e)))
    (λ ne. subst (λ k. EntryOf s n k (i + 1)) (sym (get_or-set_other table p n (Some i) None ne)) (one_more s n (get_or table n None) i (w n h) (holds_not s n i (inr (λ x. ne (sym x))))))
    (cases_eq n p)

-- SLOTS THAT CHANGE

-- the slot of a page begun anew
pub same_begun : (s t : List ℕ) (i n v : ℕ) → length t ≡ length s → holds s n i ≡ true → Begun s t i n v → SamePlaces s t
same_begun s t i n v long e b =
    let was = holds_parts s n i e in
    record {
      long = long;
      marks = λ j. ⊎_elim (λ q. rw q (b.mark ∙ sym was.0)) (λ ne. other_mark s t i b.only j ne) (cases_eq j i);
      pages = λ m j. ⊎_elim (λ q. rw q (holds_same s t m i (b.mark ∙ sym was.0) (b.number ∙ sym was.1))) (λ ne. other_holds s t i b.only m j ne) (cases_eq j i);
    }

-- a free slot begun, and the page listed there
pub lists_begun : (s t : List ℕ) (table : List (Option ℕ)) (i n v : ℕ) → length t ≡ length s → length table ≡ 256 → n < 256 → Free s i → Begun s t i n v → ListsBelow s table (slots s) → ListsBelow t (set table n (Some i)) (slots t)
lists_begun s t table i n v long wide small free b w =
    subst (λ k. ListsBelow t (set table n (Some i)) k) (sym (same_slots s t long))
    (λ m h. ⊎_elim
    (λ e. subst (λ k. EntryOf t m k (slots s)) (sym (ap (λ k. get_or (set table n (Some i)) k None) e ∙ get_or-set_same table n (Some i) None (omega arith)))
    (free.within, holds_from t m i b.mark (b.number ∙ sym e)))
    (λ ne. subst (λ k. EntryOf t m k (slots s)) (sym (get_or-set_other table n m (Some i) None ne)) (other m ne (get_or table m None) (w m h)))
    (cases_eq m n))
  where
    other : (m : ℕ) → (m ≡ n → ⊥) → (entry : Option ℕ) → EntryOf s m entry (slots s) → EntryOf t m entry (slots s)
    other m ne None f = λ k lt. ⊎_elim (λ q. rw q (holds_not t m i (inr (λ x. ne (sym x ∙ b.number))))) (λ nk. other_holds s t i b.only m k nk ∙ f k lt) (cases_eq k i)
    other m ne (Some k) f =
        let away : k ≡ i → ⊥ = λ q. absurd (omega (arith, free.here, (holds_parts s m i (subst (λ j. holds s m j ≡ true) q f.1)).0)) in
        (f.0, other_holds s t i b.only m k away ∙ f.1)

-- a slot that was begun is not free, and no other mark changed
pub taken_begun : (s t : List ℕ) (i n v k : ℕ) → length t ≡ length s → Begun s t i n v → TakenBelow s k → TakenBelow t k
taken_begun s t i n v k long b w j h within off =
    ⊎_elim (λ e. absurd (omega (arith, b.mark, ap (mark_at t) (sym e) ∙ off)))
    (λ ne. w j h (subst (λ m. j < m) (same_slots s t long) within) (sym (other_mark s t i b.only j ne) ∙ off)) (cases_eq j i)

-- WHAT IS SEARCHED

-- the first free slot of those behind some that aren't free
pub lowest_free : (s : List ℕ) (from : ℕ) (r : Option ℕ) → TakenBelow s from →
    MatchOption r ((k : ℕ) → from ≤ k → k < slots s → mark_at s k ≡ 0 → ⊥) (λ i. (from ≤ i) × (i < slots s) × (mark_at s i ≡ 0) × ((k : ℕ) → from ≤ k → k < i → mark_at s k ≡ 0 → ⊥)) →
    MatchOption r ((k : ℕ) → k < slots s → mark_at s k ≡ 0 → ⊥) (λ i. Free s i)
lowest_free s from None taken w = λ k h. ⊎_elim (λ lt. taken k lt h) (λ le. w k le h) (cases_lt k from)
lowest_free s from (Some i) taken w = record { within = w.1; here = w.2; before = λ k h. ⊎_elim (λ lt. taken k lt (omega (arith, h, w.1))) (λ le. w.3 k le h) (cases_lt k from) }

pub page_searched : (s : List ℕ) (n : ℕ) (r : Option ℕ) →
    MatchOption r ((k : ℕ) → 0 ≤ k → k < slots s → holds s n k ≡ false) (λ i. (0 ≤ i) × (i < slots s) × (holds s n i ≡ true) × ((k : ℕ) → 0 ≤ k → k < i → holds s n k ≡ false)) →
    MatchOption r ((k : ℕ) → k < slots s → holds s n k ≡ false) (λ i. Found s n i)
page_searched s n None w = λ k h. w k (omega arith) h
page_searched s n (Some i) w = record { within = w.1; here = w.2 }

-- WHAT IS NOTED

pub noted : (s t : List ℕ) (d : Directory) (n i v : ℕ) (entry : Option ℕ) → length d.entries ≡ 256 → n < 256 → entry ≡ Some i → Lists s d → Free s i → length t ≡ length s → Begun s t i n v →
    Lists t (record { entries = set d.entries n entry; taken = d.taken })
noted s t d n i v entry wide small is w free long b = record {
  pages = rw is (lists_begun s t d.entries i n v long wide small free b w.pages);
  taken = taken_begun s t i n v d.taken long b w.taken;
}
