-- That comparing a store slot by slot, and looking for each page of the reference in it, compares every page. Assumes nothing.
use Rattle.std.proofs.Common.{◌≡◌, ℕ, ◌+◌, ◌*◌, ◌/◌, ◌%◌, ◌<◌, Bool, true, false, ◌&&◌, ◌⊎◌, List, length, get_or, take, drop, Option, Some, None, Decides, IsSome, is_some, unwrap_or, MatchOption, vec_items, inl, inr, sym, refl, ap, ◌∙◌, subst, ⊎_elim, arith}
use Rattle.std.proofs.lemmas.Bool.{both_ways, and_from, lt-ltb}
use Rattle.std.proofs.lemmas.Bool.Decides.{Decides-like}
use Rattle.std.proofs.lemmas.List.{get_or-take, get_or-drop}
use Rattle.store.specs.Page.{ShowsSame, no_page}
use Rattle.store.specs.Layout.{slots, slot_bytes, mark_at, number_at, holds, well_formed, page_in, FirstFault}
use Rattle.store.specs.Slots.{has_row, VersionOf}
use Rattle.store.specs.Writes.{Found}
use Rattle.store.proofs.Faults.{faulty}
use Rattle.store.proofs.Formed.{holds_from, holds_parts}
use Rattle.store.proofs.Pages.{shows_is, page_held, page_absent, page_there, absent_there, slot_cases, slot_version, slot_letter, none_there}
use Rattle.trials.specs.Told.{told, letter_told, page_of}
use Rattle.trials.specs.Text.{text_letter}
use Rattle.trials.specs.Same.{Same, TrueLetters, SlotSame, RowShown, PageShown}
use Rattle.trials.specs.declared.reference.Reference.{Reference}
use Rattle.trials.specs.declared.reference.ReferencePage.{ReferencePage}
use Rattle.trials.proofs.Telling.{sent_there}
use Rattle.trials.proofs.Slots.{slot_byte}

is_there : (o : Option ReferencePage) → (o ≡ None) ⊎ ((p : ReferencePage) × (o ≡ Some p))
is_there None = inl refl
is_there (Some p) = inr (p, refl)

-- from slots to the pages
pub same_from : (s : List ℕ) (ref : Reference) → well_formed s ≡ true → ((i : ℕ) → i < slots s → mark_at s i ≡ 1 → SlotSame (slot_bytes s i) ref) →
    ((n : ℕ) → n < 256 → IsSome (told (vec_items ref.pages) n) → (i : ℕ) × Found s n i) → Same s ref
same_from s ref ok each found = record {
  formed = ok;
  pages = λ n h.
      ⊎_elim
      (λ w.
      let i = w.0 in
      let parts = holds_parts s n i w.2 in
      let held = page_held s n i ok w.1 w.2 in
      let here = each i w.1 parts.0 in
      let number : get_or (slot_bytes s i) 1 0 ≡ n = slot_byte s i 1 (omega arith) ∙ parts.1 in
      let is : told (vec_items ref.pages) n ≡ Some here.page = subst (λ m. told (vec_items ref.pages) m ≡ Some here.page) number here.there in
      subst (λ o. ShowsSame (page_in s n) (page_of o)) (sym is)
      (record {
        there = page_there s n i ok w.1 w.2;
        version = ap (λ p. p.version) held ∙ slot_version s i ∙ sym (slot_byte s i 2 (omega arith)) ∙ sym here.version;
        letters = λ r c hr hc.
            let at : 1003 * i + 3 + (40 * r + c) ≡ 1003 * i + (3 + (40 * r + c)) = omega arith in
            ap (λ p. p.letters r c) held ∙ slot_letter s i r c hr hc ∙ ap (λ k. get_or s k 0) at ∙ sym (slot_byte s i (3 + (40 * r + c)) (omega arith)) ∙ here.letters (40 * r + c) (omega arith);
      }))
      (λ f.
      ⊎_elim (λ none. subst (λ o. ShowsSame (page_in s n) (page_of o)) (sym none) (shows_is (page_absent s n f)))
      (λ some. let at = found n h (ap (λ (o : Option ReferencePage). is_some o) some.1) in absurd (both_ways (holds s n at.0) (f at.0 at.1.within) at.1.here)) (is_there (told (vec_items ref.pages) n)))
      (slot_cases s n);
}

-- and back: each slot
pub same_slot : (s : List ℕ) (ref : Reference) → Same s ref → (i : ℕ) → i < slots s → number_at s i < 256 → mark_at s i ≡ 1 → SlotSame (slot_bytes s i) ref
same_slot s ref same i h small mark =
    let n = number_at s i in
    let e = holds_from s n i mark refl in
    let held = page_held s n i same.formed h e in
    let shows = same.pages n small in
    let number : get_or (slot_bytes s i) 1 0 ≡ n = slot_byte s i 1 (omega arith) in
    ⊎_elim
    (λ none.
    let gone : (page_in s n).there ≡ false = shows.there ∙ ap (λ o. (page_of o).there) none ∙ none_there in
    absurd (both_ways (page_in s n).there gone (page_there s n i same.formed h e)))
    (λ some.
    let page = some.0 in
    let shown : ShowsSame (page_in s n) (page_of (Some page)) = subst (λ o. ShowsSame (page_in s n) (page_of o)) some.1 shows in
    record {
      page = page;
      there = ap (told (vec_items ref.pages)) number ∙ some.1;
      version = sym shown.version ∙ ap (λ p. p.version) held ∙ slot_version s i ∙ sym (slot_byte s i 2 (omega arith));
      letters = λ k hk.
          let r = k / 40 in
          let c = k % 40 in
          let hr : r < 25 = omega arith in
          let hc : c < 40 = omega arith in
          let back : 40 * r + c ≡ k = omega arith in
          let at : 1003 * i + (3 + k) ≡ 1003 * i + 3 + (40 * r + c) = omega (arith, back) in
          slot_byte s i (3 + k) (omega arith) ∙ ap (λ j. get_or s j 0) at ∙ sym (slot_letter s i r c hr hc) ∙ ap (λ p. p.letters r c) (sym held) ∙ shown.letters r c hr hc ∙ ap (λ j. get_or page.letters j 0) back;
    })
    (is_there (told (vec_items ref.pages) n))

-- and each page
pub same_found : (s : List ℕ) (ref : Reference) → Same s ref → (n : ℕ) → n < 256 → IsSome (told (vec_items ref.pages) n) → (i : ℕ) × Found s n i
same_found s ref same n h some =
    let shows = same.pages n h in
    ⊎_elim (λ w. (w.0, record { within = w.1; here = w.2 }))
    (λ f.
    ⊎_elim (λ none. absurd (both_ways _ (ap (λ (o : Option ReferencePage). is_some o) none) some))
    (λ is. let there : (page_in s n).there ≡ true = shows.there ∙ ap (λ o. (page_of o).there) is.1 in absurd (both_ways (page_in s n).there (absent_there s n f) there))
    (is_there (told (vec_items ref.pages) n))) (slot_cases s n)

no_letter : (r c : ℕ) → no_page.letters r c ≡ 0
unfolding no_page
no_letter r c = refl

-- the reference has no letter that wasn't sent, so neither has a store that is the same
pub true_letters : (s : List ℕ) (ref : Reference) → Same s ref → TrueLetters s
true_letters s ref same n r c hn hr hc known =
    let shows = same.pages n hn in
    ⊎_elim (λ none. let gone : (page_in s n).letters r c ≡ 0 = shows.letters r c hr hc ∙ ap (λ o. (page_of o).letters r c) none ∙ no_letter r c in absurd (omega (arith, gone, known)))
    (λ is.
    let shown : ShowsSame (page_in s n) (page_of (Some is.0)) = subst (λ o. ShowsSame (page_in s n) (page_of o)) is.1 shows in
    let letter : (page_in s n).letters r c ≡ letter_told is.0.letters r c = shown.letters r c hr hc in
    letter ∙ ref.sent n is.0 is.1 (40 * r + c) (subst (λ x. 0 < x) letter known) ∙ sent_there n is.0.version r c hr hc ∙ ap (λ v. text_letter n v r c) (sym shown.version))
    (is_there (told (vec_items ref.pages) n))

-- a store with a fault isn't well-formed
pub fault_found : (s : List ℕ) (o : Option ℕ) → MatchOption o (well_formed s ≡ true) (λ i. FirstFault s i) → is_some o ≡ true → well_formed s ≡ false
fault_found s None h e = absurd (both_ways false refl e)
fault_found s (Some i) h e = faulty s i h

-- and one without is
pub no_fault : (s : List ℕ) (o : Option ℕ) → MatchOption o (well_formed s ≡ true) (λ i. FirstFault s i) → is_some o ≡ false → well_formed s ≡ true
no_fault s None h e = h
no_fault s (Some i) h e = absurd (both_ways true e refl)

-- a page of the reference beside a slot, where its version is that of the slot
pub slot_page : (slot letters : List ℕ) (ref : Reference) (p : ReferencePage) (r : Bool) → ((k : ℕ) → k < 1000 → get_or letters k 0 ≡ get_or slot (3 + k) 0) →
    Some p ≡ told (vec_items ref.pages) (get_or slot 1 0) → p.version ≡ get_or slot 2 0 → Decides r ((k : ℕ) → k < 1000 → get_or letters k 0 ≡ get_or p.letters k 0) → Decides r (SlotSame slot ref)
slot_page slot letters ref p r at is version d =
    Decides-like r (λ f. record { page = p; there = sym is; version = version; letters = λ k h. sym (at k h) ∙ f k h })
    (λ w k h. at k h ∙ w.letters k h ∙ ap (λ (o : Option ReferencePage). get_or (unwrap_or o p).letters k 0) (sym (is ∙ w.there))) d

-- the bytes of a slot behind its version
pub letters_behind : (slot : List ℕ) (n k : ℕ) → length slot ≡ 1003 → n ≡ 1000 → k < 1000 → get_or (take n (drop 3 slot)) k 0 ≡ get_or slot (3 + k) 0
letters_behind slot n k long e h = get_or-take n (drop 3 slot) k 0 (omega (arith, e, h)) ∙ get_or-drop 3 slot k 0

-- a page that is shown, by its version and its rows
pub page_shown : (s : List ℕ) (ref : Reference) (n : ℕ) (p : ReferencePage) (o : Option ℕ) → well_formed s ≡ true → Some p ≡ told (vec_items ref.pages) n →
    MatchOption o ((well_formed s && (page_in s n).there) ≡ false) (λ v. VersionOf s n v) → o ≡ Some p.version → ((r : ℕ) → r < 25 → has_row s n r ≡ true → RowShown s n p r) → PageShown s ref n
page_shown s ref n p o ok is stands at rows =
    let v : VersionOf s n p.version = subst (λ o. MatchOption o ((well_formed s && (page_in s n).there) ≡ false) (λ v. VersionOf s n v)) at stands in
    let row = λ (r : ℕ) (low : r < 25). rows r low (and_from _ _ ok (and_from _ _ v.there (lt-ltb _ _ low))) in
    record {
      shows = subst (λ o. ShowsSame (page_in s n) (page_of o)) is (record { there = v.there; version = sym v.version; letters = λ r c hr hc. (row r hr).letters c hc });
      true_letters = λ r c hr hc known. (row r hr).true_letters c hc known ∙ ap (λ v. text_letter n v r c) v.version;
    }

-- and one that isn't there
pub none_shown : (s : List ℕ) (ref : Reference) (n : ℕ) → well_formed s ≡ true → None ≡ told (vec_items ref.pages) n → (well_formed s && (page_in s n).there) ≡ false → PageShown s ref n
none_shown s ref n ok is gone =
    ⊎_elim (λ w. absurd (both_ways _ gone (and_from _ _ ok (page_there s n w.0 ok w.1 w.2))))
    (λ f. record {
      shows = subst (λ o. ShowsSame (page_in s n) (page_of o)) is (shows_is (page_absent s n f));
      true_letters = λ r c hr hc known. let none : (page_in s n).letters r c ≡ 0 = ap (λ p. p.letters r c) (page_absent s n f) ∙ no_letter r c in absurd (omega (arith, none, known));
    }) (slot_cases s n)
