-- The tests of a slot, and the table of pages seen in place of a comparison of each two slots. Assumes nothing.
use Rattle.std.proofs.Common.{◌≡◌, ℕ, zero, suc, ◌+◌, ◌-◌, ◌*◌, ◌<◌, ◌≤◌, min, Bool, true, false, not, ◌&&◌, ◌||◌, eqb, ltb, leb, ◌⊎◌, List, ◌++◌, length, get_or, take, drop, replicate, Option, None, is_some, sym, refl, ap, ◌∙◌, subst, inl, inr, ⊎_elim, arith, length-drop, length-take, length-take-le, get_or-drop, get_or-take}
use Rattle.std.proofs.lemmas.List.{take_at, drop_at, take_min, drop_min, drop-drop}
use Rattle.std.proofs.lemmas.Bool.{and_left, and_right, lt-ltb, le-ltb, le-leb, lt-leb, cases_Bool, cases_lt, both_ways}
use Rattle.store.specs.Layout.{slots, slot_bytes, mark_at, number_at, holds, letters_fine, alone, slot_fine, slot_count, fine_below, well_formed, FirstFault}
use Rattle.store.specs.Directory.{ListsBelow}
use Rattle.store.proofs.Formed.{fine_are, formed}
use Rattle.store.specs.Writes.{held_below}
use Rattle.store.proofs.LetterSums.{letters_there}
use Rattle.store.proofs.Listing.{lists_none, entry_tells}

-- not this one and none of those: none of all
neither : (h b m : Bool) → (not (h && m) && not (b && m)) ≡ not ((h || b) && m)
neither true true true = refl
neither true true false = refl
neither true false true = refl
neither true false false = refl
neither false true true = refl
neither false true false = refl
neither false false true = refl
neither false false false = refl

alone_below : (s : List ℕ) (i j : ℕ) → alone s i j ≡ not (held_below s (number_at s i) j && eqb (mark_at s i) 1)
unfolding alone held_below
alone_below s i zero = refl
alone_below s i (suc j) =
    ap (λ x. not (holds s (number_at s i) j && eqb (mark_at s i) 1) && x) (alone_below s i j)
    ∙ neither (holds s (number_at s i) j) (held_below s (number_at s i) j) (eqb (mark_at s i) 1)

pub slot_past : (s : List ℕ) (i : ℕ) → 60 ≤ i → slot_fine s i ≡ false
unfolding slot_fine
slot_past s i h = and_left (ltb i 60) _ (le-ltb _ _ h)

pub slot_cut : (s : List ℕ) (i : ℕ) → length s < 1003 * i + 1003 → slot_fine s i ≡ false
unfolding slot_fine
slot_cut s i h = and_right (ltb i 60) (leb (1003 * i + 1003) (length s) && (leb (mark_at s i) 1 && (letters_fine s (1003 * i + 3) 1000 && alone s i i))) (and_left (leb (1003 * i + 1003) (length s)) _ (lt-leb _ _ h))

-- a whole slot, by its three tests and the table
pub slot_tests : (s : List ℕ) (table : List (Option ℕ)) (i : ℕ) (lettered : Bool) → i < 60 → 1003 * i + 1003 ≤ length s → ListsBelow s table i → number_at s i < 256 → lettered ≡ letters_fine s (1003 * i + 3) 1000 →
    (leb (mark_at s i) 1 && (lettered && not (is_some (get_or table (number_at s i) None) && eqb (mark_at s i) 1))) ≡ slot_fine s i
unfolding slot_fine
slot_tests s table i lettered few whole lists small e =
    ap (λ x. leb (mark_at s i) 1 && (x && not (is_some (get_or table (number_at s i) None) && eqb (mark_at s i) 1))) e
    ∙ ap (λ x. leb (mark_at s i) 1 && (letters_fine s (1003 * i + 3) 1000 && not (x && eqb (mark_at s i) 1))) (entry_tells s _ _ i (lists _ small))
    ∙ ap (λ x. leb (mark_at s i) 1 && (letters_fine s (1003 * i + 3) 1000 && x)) (sym (alone_below s i i))
    ∙ sym (ap (λ x. x && (leb (1003 * i + 1003) (length s) && (leb (mark_at s i) 1 && (letters_fine s (1003 * i + 3) 1000 && alone s i i)))) (lt-ltb i 60 few)
    ∙ ap (λ x. x && (leb (mark_at s i) 1 && (letters_fine s (1003 * i + 3) 1000 && alone s i i))) (le-leb (1003 * i + 1003) (length s) whole))

pub all_fine : (s : List ℕ) (n : ℕ) → slot_count s ≤ n → ((k : ℕ) → k < n → slot_fine s k ≡ true) → well_formed s ≡ true
unfolding well_formed
all_fine s n le f = (fine_are s (slot_count s)).1 (λ i h. f i (omega (arith, le)))

-- a store with a fault is not well-formed
pub faulty : (s : List ℕ) (i : ℕ) → FirstFault s i → well_formed s ≡ false
unfolding well_formed
faulty s i w = ⊎_elim (λ e. absurd (both_ways _ w.here ((fine_are s (slot_count s)).0 e i w.within))) (λ e. e) (cases_Bool (fine_below s (slot_count s)))

-- a whole slot's bytes lie in the store
pub slot_whole : (s : List ℕ) (i : ℕ) → slot_fine s i ≡ true → 1003 * i + 1003 ≤ length s
slot_whole s i e = ⊎_elim (λ h. h) (λ h. absurd (both_ways _ (slot_cut s i h) e)) (fits (1003 * i + 1003) (length s))
  where
    fits : (a b : ℕ) → (a ≤ b) ⊎ (b < a)
    fits a b = ⊎_elim (λ h. inr h) (λ h. inl h) (cases_lt b a)

-- and is one of the sixty
pub slot_few : (s : List ℕ) (i : ℕ) → slot_fine s i ≡ true → i < 60
slot_few s i e = ⊎_elim (λ h. h) (λ h. absurd (both_ways _ (slot_past s i h) e)) (cases_lt i 60)

-- where all slots are fine, none is cut
pub whole_slots : (s : List ℕ) → well_formed s ≡ true → slot_count s ≡ slots s
whole_slots s ok = let w = (formed s ok).whole in omega (arith, w)

-- SLOTS AS PIECES OF THE STORE

pub bytes_length : (s bytes : List ℕ) (i : ℕ) → bytes ≡ slot_bytes s i → length bytes ≡ min 1003 (length s - 1003 * i)
bytes_length s bytes i is = ap length is ∙ length-take 1003 (drop (1003 * i) s) ∙ ap (min 1003) (length-drop (1003 * i) s)

pub byte_there : (s bytes : List ℕ) (i d : ℕ) → bytes ≡ slot_bytes s i → d < 1003 → get_or bytes d 0 ≡ get_or s (1003 * i + d) 0
byte_there s bytes i d is h = ap (λ x. get_or x d 0) is ∙ get_or-take 1003 (drop (1003 * i) s) d 0 h ∙ get_or-drop (1003 * i) s d 0

pub mark_there : (s bytes : List ℕ) (i : ℕ) → bytes ≡ slot_bytes s i → get_or bytes 0 0 ≡ mark_at s i
mark_there s bytes i is = byte_there s bytes i 0 is (omega arith) ∙ ap (λ j. get_or s j 0) (omega arith)

-- the tests of a slot's bytes
pub bytes_tests : (s bytes : List ℕ) (table : List (Option ℕ)) (i : ℕ) (lettered twice : Bool) → i < 60 → 1003 ≤ length bytes → bytes ≡ slot_bytes s i → ListsBelow s table i → get_or bytes 1 0 < 256 →
    lettered ≡ letters_fine (take 1000 (drop 3 bytes)) 0 (length (take 1000 (drop 3 bytes))) → twice ≡ is_some (get_or table (get_or bytes 1 0) None) →
    (leb (get_or bytes 0 0) 1 && (lettered && not (twice && eqb (get_or bytes 0 0) 1))) ≡ slot_fine s i
bytes_tests s bytes table i lettered twice few long is lists small letters seen =
    let whole : 1003 * i + 1003 ≤ length s = omega (arith, bytes_length s bytes i is, long) in
    let number : get_or bytes 1 0 ≡ number_at s i = byte_there s bytes i 1 is (omega arith) in
    let all : length (take 1000 (drop 3 bytes)) ≡ 1000 = length-take-le 1000 (drop 3 bytes) (omega (arith, length-drop 3 bytes, long)) in
    let there : lettered ≡ letters_fine s (1003 * i + 3) 1000 =
    letters ∙ ap (letters_fine (take 1000 (drop 3 bytes)) 0) all
    ∙ letters_there s (take 1000 (drop 3 bytes)) (1003 * i + 3) 1000
    (λ k h. get_or-take 1000 (drop 3 bytes) k 0 h ∙ get_or-drop 3 bytes k 0 ∙ byte_there s bytes i (3 + k) is (omega arith) ∙ ap (λ j. get_or s j 0) (omega arith)) in
    ap (λ m. leb m 1 && (lettered && not (twice && eqb m 1))) (mark_there s bytes i is)
    ∙ ap (λ t. leb (mark_at s i) 1 && (lettered && not (t && eqb (mark_at s i) 1))) (seen ∙ ap (λ n. is_some (get_or table n None)) number)
    ∙ slot_tests s table i lettered few whole lists (subst (λ n. n < 256) number small) there

-- a store that is walked through piece by piece, as far as slot i: what is left begins there, the slots before are fine, and the table has their pages
pub record Passed (s rest : List ℕ) (size i : ℕ) (table : List (Option ℕ)) : Type 0 where
  pub left : rest ≡ drop (1003 * i) s
  pub sized : size ≡ 1003
  pub count : i ≤ slot_count s
  pub fine : (k : ℕ) → k < i → slot_fine s k ≡ true
  pub lists : ListsBelow s table i
  pub wide : length table ≡ 256

pub start_passed : (s rest : List ℕ) (size i : ℕ) → rest ≡ s → size ≡ 1003 → i ≡ 0 → Passed s rest size i (replicate 256 None)
start_passed s rest size i here e first = rw (here, first) (record { left = refl; sized = e; count = omega arith; fine = λ k h. absurd (omega arith); lists = lists_none s; wide = refl })

-- the next piece, before it is judged
pub record Reached (s bytes rest : List ℕ) (slot next : ℕ) : Type 0 where
  pub is : bytes ≡ slot_bytes s slot
  pub within : slot < slot_count s
  pub left : rest ≡ drop (1003 * next) s

pub reached : (s bytes rest rest₁ : List ℕ) (table : List (Option ℕ)) (size i slot next : ℕ) → Passed s rest size i table → rest ≡ bytes ++ rest₁ → length bytes ≡ min size (length rest) → 0 < length rest → slot ≡ i → next ≡ i + 1 → Reached s bytes rest₁ slot next
reached s bytes rest rest₁ table size i slot next w is long some here after =
    let k : ℕ = min 1003 (length rest) in
    let long₁ : length bytes ≡ k = long ∙ ap (λ m. min m (length rest)) w.sized in
    record {
      is = sym (take_at bytes rest₁ k long₁) ∙ ap (take k) (sym is) ∙ take_min 1003 rest ∙ ap (take 1003) w.left ∙ ap (slot_bytes s) (sym here);
      within = omega (arith, here, some, ap length w.left ∙ length-drop (1003 * i) s);
      left = sym (drop_at bytes rest₁ k long₁) ∙ ap (drop k) (sym is) ∙ drop_min 1003 rest ∙ ap (drop 1003) w.left ∙ drop-drop 1003 (1003 * i) s ∙ ap (λ j. drop j s) (omega (arith, after));
    }

-- and passed, where it is fine and the table has its page
pub one_passed : (s bytes rest rest₁ : List ℕ) (table table₁ : List (Option ℕ)) (size size₁ i slot next : ℕ) → Passed s rest size i table → Reached s bytes rest₁ slot next → size₁ ≡ size → slot ≡ i → next ≡ i + 1 →
    slot_fine s slot ≡ true → ListsBelow s table₁ (slot + 1) → length table₁ ≡ 256 → Passed s rest₁ size₁ next table₁
one_passed s bytes rest rest₁ table table₁ size size₁ i slot next w r same here after fine lists wide = record {
  left = r.left;
  sized = same ∙ w.sized;
  count = omega (arith, r.within, here, after);
  fine = λ k h. ⊎_elim (λ lt. w.fine k lt) (λ le. subst (λ j. slot_fine s j ≡ true) (omega (arith, h, le, here, after)) fine) (cases_lt k i);
  lists = subst (ListsBelow s table₁) (omega (arith, here, after)) lists;
  wide = wide;
}

pub fault_reached : (s bytes rest rest₁ : List ℕ) (table : List (Option ℕ)) (size i slot next : ℕ) → Passed s rest size i table → Reached s bytes rest₁ slot next → slot ≡ i → slot_fine s slot ≡ false → FirstFault s slot
fault_reached s bytes rest rest₁ table size i slot next w r here bad = record { within = r.within; here = bad; before = λ k h. w.fine k (omega (arith, h, here)) }

-- a slot that is fine is long enough to be read
pub fine_length : (s bytes : List ℕ) (i : ℕ) → bytes ≡ slot_bytes s i → slot_fine s i ≡ true → length bytes ≡ 1003
fine_length s bytes i is fine = omega (arith, bytes_length s bytes i is, slot_whole s i fine)

-- nothing is left
pub all_passed : (s rest : List ℕ) (size i : ℕ) (table : List (Option ℕ)) → Passed s rest size i table → length rest ≡ 0 → (well_formed s ≡ true) × ListsBelow s table (slots s)
all_passed s rest size i table w none =
    let end : slot_count s ≤ i = omega (arith, none, ap length w.left ∙ length-drop (1003 * i) s) in
    let ok = all_fine s i end w.fine in
    (ok, subst (ListsBelow s table) (omega (arith, end, w.count, whole_slots s ok)) w.lists)
