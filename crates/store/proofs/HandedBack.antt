-- A row as a part of the store. Assumes nothing.
use Rattle.std.proofs.Common.{◌≡◌, ℕ, ◌+◌, ◌*◌, ◌<◌, ◌≤◌, true, false, ◌&&◌, ltb, List, [], length, get_or, take, drop, Some, None, Option, sym, refl, ap, ◌∙◌, inr, add_assoc, arith, length-drop, length-take-le, get_or-drop, get_or-take, MatchOption}
use Rattle.std.proofs.lemmas.Bool.{and_from, and_right, and_parts, lt-ltb, le-ltb, ltb-true, both_ways}
use Rattle.store.specs.Layout.{slots, version_at, holds, well_formed, page_in}
use Rattle.store.specs.Slots.{has_row, RowPlace, RowOf, VersionOf}
use Rattle.store.specs.Writes.{row_start, Found}
use Rattle.store.proofs.Formed.{holds_not}
use Rattle.store.proofs.Pages.{page_held, page_there, absent_there, slot_letter, slot_version}

-- no slot's byte is a number above 255
wide_absent : (s : List ℕ) (n : ℕ) → ((k : ℕ) → get_or s k 0 < 256) → 255 < n → (k : ℕ) → k < slots s → holds s n k ≡ false
wide_absent s n small big k h = holds_not s n k (inr (λ e. absurd (omega (arith, small (1003 * k + 1)))))

pub not_there : (s : List ℕ) (n : ℕ) → ((k : ℕ) → k < slots s → holds s n k ≡ false) → (well_formed s && (page_in s n).there) ≡ false
not_there s n f = and_right (well_formed s) (page_in s n).there (absent_there s n f)

pub not_there_wide : (s : List ℕ) (n : ℕ) → ((k : ℕ) → get_or s k 0 < 256) → 255 < n → (well_formed s && (page_in s n).there) ≡ false
not_there_wide s n small big = not_there s n (wide_absent s n small big)

-- what is found in a store that is as it should be
pub found_in : (s : List ℕ) (n : ℕ) (r : Option ℕ) → well_formed s ≡ true → MatchOption r ((k : ℕ) → k < slots s → holds s n k ≡ false) (λ i. Found s n i) → MatchOption r ((well_formed s && (page_in s n).there) ≡ false) (λ i. (well_formed s ≡ true) × Found s n i)
found_in s n None ok absent = not_there s n absent
found_in s n (Some i) ok found = (ok, found)

-- ROWS

pub place_found : (s : List ℕ) (n r i : ℕ) → r < 25 → well_formed s ≡ true → Found s n i → RowPlace s n r (row_start i r)
place_found s n r i hr ok w = record {
  there = and_from _ _ ok (and_from _ _ (page_there s n i ok w.within w.here) (lt-ltb _ _ hr));
  slot = (i, w.within, w.here, refl);
}

pub row_fits : (s : List ℕ) (n r p : ℕ) → RowPlace s n r p → p + 40 ≤ length s
row_fits s n r p w =
    let hr : r < 25 = ltb-true _ _ (and_parts (page_in s n).there (ltb r 25) (and_parts (well_formed s) _ w.there).1).1 in
    let i = w.slot in
    omega (arith, i.1, i.3, hr)

pub no_row : (s : List ℕ) (n r : ℕ) → has_row s n r ≡ false → RowOf s n r []
no_row s n r e = record { nothing = λ _. refl; long = λ t. absurd (both_ways _ e t); letters = λ t. absurd (both_ways _ e t); part = λ t. absurd (both_ways _ e t) }

-- the forty letters from a row's place on
pub row_part : (s : List ℕ) (n r p k : ℕ) → RowPlace s n r p → k ≡ 40 → RowOf s n r (take k (drop p s))
row_part s n r p k w is =
    let ok : well_formed s ≡ true = (and_parts (well_formed s) _ w.there).0 in
    let hr : r < 25 = ltb-true _ _ (and_parts (page_in s n).there (ltb r 25) (and_parts (well_formed s) _ w.there).1).1 in
    let i : ℕ = w.slot.0 in
    let at : p ≡ row_start i r = w.slot.3 in
    let held = page_held s n i ok w.slot.1 w.slot.2 in
    let cut : take k (drop p s) ≡ take 40 (drop (row_start i r) s) = ap (λ x. take x (drop p s)) is ∙ ap (λ x. take 40 (drop x s)) at in
    record {
      nothing = λ f. absurd (both_ways _ f w.there);
      long = λ _. ap length cut ∙ length-take-le 40 _ (omega (arith, length-drop (row_start i r) s, row_fits s n r p w, at));
      letters = λ _ c hc.
          ap (λ x. get_or x c 0) cut ∙ get_or-take 40 (drop (row_start i r) s) c 0 hc ∙ get_or-drop (row_start i r) s c 0 ∙ ap (λ j. get_or s j 0) (add_assoc (1003 * i + 3) (40 * r) c)
          ∙ sym (slot_letter s i r c hr hc) ∙ ap (λ q. q.letters r c) (sym held);
      part = λ _. (i, w.slot.1, w.slot.2, cut);
    }

-- VERSIONS

pub version_held : (s : List ℕ) (n i : ℕ) → well_formed s ≡ true → Found s n i → VersionOf s n (version_at s i)
version_held s n i ok w = record {
  formed = ok;
  there = page_there s n i ok w.within w.here;
  version = sym (ap (λ p. p.version) (page_held s n i ok w.within w.here) ∙ slot_version s i);
  slot = (i, w.within, w.here, refl);
}
