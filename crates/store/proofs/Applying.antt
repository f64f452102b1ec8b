-- A slot claimed for a page, and a line's letters over it: what that makes of the store's pages. Assumes nothing.
use Rattle.std.proofs.Common.{◌≡◌, ℕ, ◌+◌, ◌*◌, ◌<◌, true, false, cond, ◌&&◌, eqb, ltb, ◌⊎◌, List, length, get_or, sym, refl, ap, ◌∙◌, subst, inl, inr, ⊎_elim, add_assoc, arith}
use Rattle.std.proofs.lemmas.Bool.{and_from, and_left, and_right, lt-ltb, eq-eqb, ne_eqb, cases_eq, cases_lt, cond-true, cond-false}
use Rattle.coding.specs.Parity.{decode_letter}
use Rattle.line.specs.Reading.{page_of, version_of, row_of, letters_of, fragment, HeaderOf}
use Rattle.line.specs.declared.Header.{Header}
use Rattle.line.proofs.Readability.{readable_parts}
use Rattle.store.specs.Page.{Page, begun, in_version, merge, overlay, apply, ShowsSame}
use Rattle.store.specs.Layout.{slots, version_at, holds, well_formed, slot_page, page_in}
use Rattle.store.specs.Slots.{OnlySlot, LowestFree, Applied}
use Rattle.store.specs.Directory.{SamePlaces}
use Rattle.store.specs.Writes.{row_start, Found, Free, Begun, Claimed, Merged}
use Rattle.store.proofs.Formed.{holds_from, holds_not, holds_parts, holds_same, same_slots}
use Rattle.store.proofs.Pages.{shows_then, shows_is, page_held, slot_letter, slot_there, slot_version, absent_there, other_pages}
use Rattle.store.proofs.Writing.{merged_only, merged_mark, merged_number, merged_marks, merged_holds, merged_formed}

in_version_kept : (s : List ℕ) (i v : ℕ) → version_at s i ≡ v → in_version (slot_page s i) v ≡ slot_page s i
unfolding in_version slot_page
in_version_kept s i v is = cond-true (eqb (version_at s i) v) _ _ (eq-eqb _ _ is)

-- the page stands there in the version
pub claimed_kept : (s : List ℕ) (n v i : ℕ) → well_formed s ≡ true → Found s n i → version_at s i ≡ v → Claimed s s n v i
claimed_kept s n v i ok w is = record {
  within = w.within;
  here = w.here;
  shows = shows_is (sym (ap (λ p. in_version p v) (page_held s n i ok w.within w.here) ∙ in_version_kept s i v is));
  was = inl w.here;
  only = λ k _. refl;
}

-- a slot that was begun
claimed_begun : (s t : List ℕ) (n v i : ℕ) → i < slots s → Begun s t i n v → ((page_in s n).there && eqb (page_in s n).version v) ≡ false → (holds s n i ≡ true) ⊎ LowestFree s n i → Claimed s t n v i
unfolding in_version begun
claimed_begun s t n v i h b stale was = record {
  within = h;
  here = holds_from t n i b.mark b.number;
  shows = shows_then (record { there = slot_there t i; version = slot_version t i ∙ b.version; letters = λ r c hr hc. slot_letter t i r c hr hc ∙ b.letters (40 * r + c) (omega arith) })
      (shows_is (sym (cond-false ((page_in s n).there && eqb (page_in s n).version v) (page_in s n) (begun v) stale)));
  was = was;
  only = b.only;
}

pub claimed_anew : (s t : List ℕ) (n v i : ℕ) → well_formed s ≡ true → Found s n i → (version_at s i ≡ v → ⊥) → Begun s t i n v → Claimed s t n v i
claimed_anew s t n v i ok w other b =
    let is : (page_in s n).version ≡ version_at s i = ap (λ p. p.version) (page_held s n i ok w.within w.here) ∙ slot_version s i in
    claimed_begun s t n v i w.within b (and_right (page_in s n).there (eqb (page_in s n).version v) (ne_eqb _ _ (λ e. other (sym is ∙ e)))) (inl w.here)

pub claimed_free : (s t : List ℕ) (n v i : ℕ) → ((k : ℕ) → k < slots s → holds s n k ≡ false) → Free s i → Begun s t i n v → Claimed s t n v i
claimed_free s t n v i absent w b =
    claimed_begun s t n v i w.within b (and_left _ _ (absent_there s n absent)) (inr (record { absent = absent; free = w.here; before = w.before }))

-- the line's letters over the page in its slot
merged_page : (s t l : List ℕ) (i : ℕ) (p : Page) → row_of l < 25 → ShowsSame (slot_page s i) p → Merged s l t (row_start i (row_of l)) 40 → ShowsSame (slot_page t i) (overlay p (fragment l))
unfolding overlay letters_of merge
merged_page s t l i p row a w = record {
  there = slot_there t i;
  version = slot_version t i ∙ w.outside (1003 * i + 2) (inl (omega arith)) ∙ sym (slot_version s i) ∙ a.version;
  letters = λ r c hr hc.
      let old = sym (slot_letter s i r c hr hc) ∙ a.letters r c hr hc in
      slot_letter t i r c hr hc
      ∙ ⊎_elim
      (λ e. let at : 1003 * i + 3 + (40 * r + c) ≡ row_start i (row_of l) + c = ap (λ x. 1003 * i + 3 + (40 * x + c)) e ∙ sym (add_assoc (1003 * i + 3) (40 * row_of l) c) in
      ap (λ k. get_or t k 0) at ∙ w.inside c hc ∙ ap (merge (decode_letter (get_or l (6 + c) 0))) (ap (λ k. get_or s k 0) (sym at) ∙ old)
      ∙ ap (λ x. merge x (p.letters r c)) (sym (cond-true (eqb r (row_of l) && ltb c 40) _ 0 (and_from _ _ (eq-eqb _ _ e) (lt-ltb _ _ hc)))))
      (λ ne. w.outside (1003 * i + 3 + (40 * r + c)) (⊎_elim (λ lt. inl (omega arith)) (λ ge. inr (omega arith)) (apart r (row_of l) ne)) ∙ old
      ∙ ap (λ x. merge x (p.letters r c)) (sym (cond-false (eqb r (row_of l) && ltb c 40) _ 0 (and_left _ _ (ne_eqb _ _ ne)))))
      (cases_eq r (row_of l));
}
  where
    apart : (a b : ℕ) → (a ≡ b → ⊥) → (a < b) ⊎ (b < a)
    apart a b ne = ⊎_elim (λ lt. inl lt) (λ le. inr (omega arith)) (cases_lt a b)

-- no other page stood in the slot that was claimed
only_page : (s : List ℕ) (n i m : ℕ) → (holds s n i ≡ true) ⊎ LowestFree s n i → (m ≡ n → ⊥) → holds s m i ≡ false
only_page s n i m was ne =
    holds_not s m i (⊎_elim (λ e. inr (λ is. ne (sym is ∙ (holds_parts s n i e).1))) (λ w. inl (λ on. absurd (omega (arith, w.free, on)))) was)

pub applied : (s t u l : List ℕ) (i : ℕ) (h : Header) → HeaderOf l h → ((k : ℕ) → get_or l k 0 < 256) → well_formed t ≡ true → length t ≡ length s → length u ≡ length t →
    Claimed s t h.page h.version i → Merged t l u (row_start i h.row) 40 → Applied (fragment l) s u
unfolding apply
applied s t u l i h head bytes ok long long₂ claimed merged =
    let n = page_of l in
    let p : Claimed s t n (version_of l) i = subst (λ x. Claimed s t x (version_of l) i) head.page (subst (λ x. Claimed s t h.page x i) head.version claimed) in
    let w : Merged t l u (row_start i (row_of l)) 40 = subst (λ x. Merged t l u (row_start i x) 40) head.row merged in
    let row : row_of l < 25 = (readable_parts l head.readable).row in
    let within : i < slots t = subst (λ k. i < k) (sym (same_slots s t long)) p.within in
    let formed-u = merged_formed t l u i (row_of l) within row long₂ bytes w ok in
    let only : OnlySlot s u i = λ k out. merged_only t l u i (row_of l) within row long₂ bytes w k out ∙ p.only k out in
    let here : holds u n i ≡ true = holds_same t u n i (merged_mark t l u i (row_of l) within row long₂ bytes w) (merged_number t l u i (row_of l) within row long₂ bytes w) ∙ p.here in
    let held = page_held u n i formed-u (subst (λ k. i < k) (sym (same_slots s u (long₂ ∙ long))) p.within) here in
    record {
      long = long₂ ∙ long;
      formed = formed-u;
      pages = λ m. ⊎_elim
          (λ e. subst (λ k. ShowsSame (page_in u k) (cond (eqb k n) (overlay (in_version (page_in s k) (version_of l)) (fragment l)) (page_in s k))) (sym e)
          (shows_then (shows_is held) (shows_then (merged_page t u l i _ row p.shows w) (shows_is (sym (cond-true (eqb n n) _ _ (eq-eqb _ _ refl)))))))
          (λ ne. shows_then (other_pages s u n m i (long₂ ∙ long) here (only_page s n i m p.was ne) ne only) (shows_is (sym (cond-false (eqb m n) _ _ (ne_eqb _ _ ne)))))
          (cases_eq m n);
      slot = (i, record { within = p.within; here = here; was = p.was; only = only });
    }

-- a line's letters leave each page in its slot
pub same_merged : (t u l : List ℕ) (i : ℕ) (h : Header) → HeaderOf l h → ((k : ℕ) → get_or l k 0 < 256) → i < slots t → length u ≡ length t → Merged t l u (row_start i h.row) 40 → SamePlaces t u
same_merged t u l i h head bytes within long merged =
    let m : Merged t l u (row_start i (row_of l)) 40 = subst (λ x. Merged t l u (row_start i x) 40) head.row merged in
    let row : row_of l < 25 = (readable_parts l head.readable).row in
    record { long = long; marks = merged_marks t l u i (row_of l) within row long bytes m; pages = merged_holds t l u i (row_of l) within row long bytes m }
