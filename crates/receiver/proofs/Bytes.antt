-- The bytes that a call leaves are determined. Assumes nothing.
use Rattle.std.proofs.Common.{◌≡◌, ℕ, ◌+◌, ◌-◌, ◌*◌, ◌/◌, ◌%◌, ◌<◌, ◌≤◌, true, ◌&&◌, eqb, List, length, get_or, sym, refl, ap, ◌∙◌, subst, inl, inr, ⊎_elim, arith}
use Rattle.std.proofs.lemmas.List.{ext_get_or}
use Rattle.std.proofs.lemmas.Bool.{cases_eq, cases_lt, cases_Bool, both_ways, cond-true, cond-false}
use Rattle.line.specs.Line.{Fragment}
use Rattle.line.specs.Reading.{page_of, fragment}
use Rattle.store.specs.Page.{Page, begun, in_version, merge, overlay, apply, ShowsSame}
use Rattle.store.specs.Layout.{slots, holds, well_formed, slot_page, page_in}
use Rattle.store.specs.Slots.{OnlySlot, NoRoom, InSlot, Applied}
use Rattle.store.proofs.Formed.{holds_parts, one_slot, same_slots}
use Rattle.store.proofs.Pages.{shows_sym, shows_then, shows_is, page_held, slot_letter, slot_version}
use Rattle.receiver.specs.Runs.{Run, end, step}
use Rattle.receiver.specs.Promises.{Determined}
use Rattle.receiver.specs.declared.entry.Done.{Done}
use Rattle.receiver.proofs.Steps.{Step, useless, no_room, applied, stepped, still_formed}

-- pages that show the same go on to, whatever is applied
pub shows_in_version : (p q : Page) (v : ℕ) → ShowsSame p q → ShowsSame (in_version p v) (in_version q v)
unfolding in_version
shows_in_version p q v a =
    let same : (p.there && eqb p.version v) ≡ (q.there && eqb q.version v) = ap (λ b. b && eqb p.version v) a.there ∙ ap (λ x. q.there && eqb x v) a.version in
    ⊎_elim (λ e. shows_then (shows_is (cond-true _ p (begun v) (same ∙ e))) (shows_then a (shows_is (sym (cond-true _ q (begun v) e)))))
    (λ e. shows_is (cond-false _ p (begun v) (same ∙ e) ∙ sym (cond-false _ q (begun v) e))) (cases_Bool (q.there && eqb q.version v))

shows_overlay : (p q : Page) (f : Fragment) → ShowsSame p q → ShowsSame (overlay p f) (overlay q f)
unfolding overlay
shows_overlay p q f a = record { there = refl; version = a.version; letters = λ r c hr hc. ap (merge (f.letters r c)) (a.letters r c hr hc) }

pub shows_apply : (s t : ℕ → Page) (f : Fragment) (n : ℕ) → ShowsSame (s n) (t n) → ShowsSame (apply s f n) (apply t f n)
unfolding apply
shows_apply s t f n a =
    elim (cases_Bool (eqb n f.page)) [
      | inl e ↦ rw e (shows_overlay (in_version (s n) f.version) (in_version (t n) f.version) f (shows_in_version (s n) (t n) f.version a))
      | inr e ↦ rw e a
    ]

-- stores that differ at most in slot i, where both hold a page that shows the same, are equal
module _ (s a b : List ℕ) (i n : ℕ) (hi : i < slots s) (la : length a ≡ length s) (lb : length b ≡ length s) (ha : holds a n i ≡ true) (hb : holds b n i ≡ true)
    (only_a : OnlySlot s a i) (only_b : OnlySlot s b i) (same : ShowsSame (slot_page a i) (slot_page b i)) where
  -- the bytes of the slot, one by one
  slot_byte : (k : ℕ) → 1003 * i ≤ k → k < 1003 * i + 1003 → get_or a k 0 ≡ get_or b k 0
  slot_byte k lo up =
      let by : (x : ℕ) → k ≡ x → get_or a x 0 ≡ get_or b x 0 → get_or a k 0 ≡ get_or b k 0 = λ x e h. subst (λ j. get_or a j 0 ≡ get_or b j 0) (sym e) h in
      ⊎_elim (λ e. by (1003 * i) e ((holds_parts a n i ha).0 ∙ sym (holds_parts b n i hb).0))
      (λ n₀. ⊎_elim (λ e. by (1003 * i + 1) e ((holds_parts a n i ha).1 ∙ sym (holds_parts b n i hb).1))
      (λ n₁. ⊎_elim (λ e. by (1003 * i + 2) e (sym (slot_version a i) ∙ same.version ∙ slot_version b i))
      (λ n₂. let d : ℕ = k - (1003 * i + 3) in
      let hr : d / 40 < 25 = omega arith in let hc : d % 40 < 40 = omega arith in
      by (1003 * i + 3 + (40 * (d / 40) + d % 40)) (omega arith) (sym (slot_letter a i (d / 40) (d % 40) hr hc) ∙ same.letters (d / 40) (d % 40) hr hc ∙ slot_letter b i (d / 40) (d % 40) hr hc))
      (cases_eq k (1003 * i + 2)))
      (cases_eq k (1003 * i + 1)))
      (cases_eq k (1003 * i))

  equal_bytes : a ≡ b
  equal_bytes =
      ext_get_or 0 a b (la ∙ sym lb) (λ k _.
      ⊎_elim (λ lo. only_a k (inl lo) ∙ sym (only_b k (inl lo)))
      (λ ge. ⊎_elim (λ up. slot_byte k ge up) (λ past. only_a k (inr past) ∙ sym (only_b k (inr past))) (cases_lt k (1003 * i + 1003))) (cases_lt k (1003 * i)))

pub same_bytes : (s a b : List ℕ) (i n : ℕ) → i < slots s → length a ≡ length s → length b ≡ length s → well_formed a ≡ true → well_formed b ≡ true → holds a n i ≡ true → holds b n i ≡ true →
    OnlySlot s a i → OnlySlot s b i → ShowsSame (page_in a n) (page_in b n) → a ≡ b
same_bytes s a b i n hi la lb oka okb ha hb only_a only_b same =
    let pa = page_held a n i oka (subst (λ x. i < x) (sym (same_slots s a la)) hi) ha in
    let pb = page_held b n i okb (subst (λ x. i < x) (sym (same_slots s b lb)) hi) hb in
    equal_bytes s a b i n hi la lb ha hb only_a only_b (shows_then (shows_is (sym pa)) (shows_then same (shows_is pb)))

-- a page goes into one slot
pub same_slot : (n : ℕ) (s a b : List ℕ) (i j : ℕ) → well_formed s ≡ true → InSlot n s a i → InSlot n s b j → j ≡ i
same_slot n s a b i j ok w u =
    ⊎_elim
    (λ e. ⊎_elim (λ d. one_slot s n j i ok u.within w.within d e) (λ d. absurd (both_ways _ (d.absent i w.within) e)) u.was)
    (λ e. ⊎_elim (λ d. absurd (both_ways _ (e.absent j u.within) d))
    (λ d. ⊎_elim (λ eq. eq) (λ ne. absurd (⊎_elim (λ lt. e.before j lt d.free) (λ le. d.before i (omega arith) e.free) (cases_lt j i))) (cases_eq j i)) u.was) w.was

-- where a page has a slot, there is room for it
pub has_room : (n : ℕ) (s a : List ℕ) (i : ℕ) → InSlot n s a i → NoRoom s n → ⊥
has_room n s a i w full = ⊎_elim (λ e. both_ways _ (full.absent i w.within) e) (λ e. full.taken i w.within e.free) w.was

-- what is applied to one page and shows the same leaves the same bytes
pub applied_same : (f g : Fragment) (s a b : List ℕ) → well_formed s ≡ true → f.page ≡ g.page → Applied f s a → Applied g s b → ShowsSame (page_in a f.page) (page_in b f.page) → a ≡ b
applied_same f g s a b ok pg w u same =
    let n = f.page in
    let i = w.slot.0 in let p = w.slot.1 in
    let q : InSlot n s b u.slot.0 = subst (λ m. InSlot m s b u.slot.0) (sym pg) u.slot.1 in
    let q₁ : InSlot n s b i = subst (InSlot n s b) (same_slot n s a b i u.slot.0 ok p q) q in
    same_bytes s a b i n p.within w.long u.long w.formed u.formed p.here q₁.here p.only q₁.only same

pub step_same : (l s a b : List ℕ) → well_formed s ≡ true → Step l s a → Step l s b → a ≡ b
step_same l s a b ok (useless g e) (useless h d) = e ∙ sym d
step_same l s a b ok (useless g e) (no_room h w d) = e ∙ sym d
step_same l s a b ok (useless g e) (applied h d) = absurd (both_ways _ g h)
step_same l s a b ok (no_room g w e) (useless h d) = e ∙ sym d
step_same l s a b ok (no_room g w e) (no_room h u d) = e ∙ sym d
step_same l s a b ok (no_room g w e) (applied h d) = absurd (has_room (page_of l) s b d.slot.0 d.slot.1 w)
step_same l s a b ok (applied g e) (useless h d) = absurd (both_ways _ h g)
step_same l s a b ok (applied g e) (no_room h u d) = absurd (has_room (page_of l) s a e.slot.0 e.slot.1 u)
step_same l s a b ok (applied g e) (applied h d) = applied_same (fragment l) (fragment l) s a b ok refl e d (shows_then (e.pages (page_of l)) (shows_sym (d.pages (page_of l))))

pub run_same : (s a b : List ℕ) (ls : List (List ℕ)) (ps qs : List Done) → well_formed s ≡ true → Run s ls ps a → Run s ls qs b → a ≡ b
run_same _ _ _ _ _ _ ok (end s) (end _) = refl
run_same _ _ _ _ _ _ ok (step s l s₁ s₂ r ls rs x w) (step _ _ t₁ t₂ q _ qs y u) =
    let i = stepped l s s₁ r ok x in
    let e = step_same l s t₁ s₁ ok (stepped l s t₁ q ok y) i in
    run_same s₁ s₂ t₂ ls rs qs (still_formed i ok) w (subst (λ t. Run t ls qs t₂) e u)

pub determined : Determined
determined s a b ls ps qs ok w u = run_same s a b ls ps qs ok w u
