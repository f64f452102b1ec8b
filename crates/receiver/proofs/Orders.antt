-- The order of two lines of one page and version, and a line that comes twice. Assumes nothing.
use Rattle.std.proofs.Common.{◌≡◌, ℕ, ◌<◌, true, false, ltb, List, [], ◌∷◌, ◌++◌, length, sym, refl, ap, ◌∙◌, subst, ⊎_elim}
use Rattle.std.proofs.lemmas.Bool.{cases_Bool, both_ways, cond_both, ltb-true}
use Rattle.line.specs.Line.{Fragment, meaning}
use Rattle.line.specs.Damage.{Copy}
use Rattle.line.specs.Reading.{page_of, version_of, readable, fragment}
use Rattle.line.specs.declared.Line.{Line}
use Rattle.line.proofs.Copies.{reads_part}
use Rattle.store.specs.Page.{Page, in_version, merge, overlay, apply, ShowsSame}
use Rattle.store.specs.Layout.{slots, holds, well_formed, page_in}
use Rattle.store.specs.Slots.{OnlySlot, NoRoom, InSlot, Applied}
use Rattle.store.proofs.Formed.{one_slot, same_slots}
use Rattle.store.proofs.Pages.{shows_then, shows_sym, shows_is, there_slot}
use Rattle.receiver.specs.Broadcast.{here, there, Agree, OneText}
use Rattle.receiver.specs.Runs.{Run, end, step}
use Rattle.receiver.specs.Promises.{Repetition, Commutation}
use Rattle.receiver.specs.declared.entry.Done.{Done}
use Rattle.receiver.proofs.Overlays.{own_page, kept_in, version_in, commutes, sets_apply}
use Rattle.receiver.proofs.Steps.{Step, useless, no_room, applied, stepped, still_formed, formed_run}
use Rattle.receiver.proofs.Bytes.{shows_apply, same_bytes, same_slot, has_room, step_same, run_same}

-- what a fragment says stands already
pub record StandsAlready (f : Fragment) (p : Page) : Type 0 where
  pub here : p.there ≡ true
  pub version : p.version ≡ f.version
  pub letters : (r c : ℕ) → r < 25 → c < 40 → 0 < f.letters r c → p.letters r c ≡ f.letters r c

overlay_same : (f : Fragment) (p : Page) → StandsAlready f p → ShowsSame (overlay (in_version p f.version) f) p
unfolding overlay merge
overlay_same f p w =
    let same = kept_in p f.version w.here w.version in
    record {
      there = sym w.here;
      version = ap (λ q. q.version) same;
      letters = λ r c hr hc. cond_both (ltb 0 (f.letters r c)) _ _ (λ x. x ≡ p.letters r c) (λ known. sym (w.letters r c hr hc (ltb-true _ _ known))) (λ _. ap (λ q. q.letters r c) same);
    }

pub again_same : (l s s₁ : List ℕ) → well_formed s ≡ true → StandsAlready (fragment l) (page_in s (page_of l)) → Step l s s₁ → s₁ ≡ s
again_same l s s₁ ok h (useless g e) = e
again_same l s s₁ ok h (no_room g w e) = e
again_same l s s₁ ok h (applied g w) =
    let n = page_of l in
    let x = there_slot s n h.here in
    let i = w.slot.0 in let p = w.slot.1 in
    let old : holds s n i ≡ true = ⊎_elim (λ d. d) (λ d. absurd (both_ways _ (d.absent x.0 x.1) x.2)) p.was in
    same_bytes s s₁ s i n p.within w.long refl w.formed ok p.here old p.only (λ k _. refl) (shows_then (w.pages n) (shows_then (shows_is (own_page (page_in s) (fragment l))) (overlay_same (fragment l) (page_in s n) h)))

-- what was applied stands
pub stands_applied : (f : Fragment) (s s₁ : List ℕ) → Applied f s s₁ → StandsAlready f (page_in s₁ f.page)
unfolding overlay
stands_applied f s s₁ w =
    let a = w.pages f.page in
    let is = own_page (page_in s) f in
    record {
      here = a.there ∙ ap (λ p. p.there) is;
      version = a.version ∙ ap (λ p. p.version) is ∙ version_in (page_in s f.page) f.version;
      letters = λ r c hr hc known. a.letters r c hr hc ∙ (sets_apply (page_in s) f f.page f.version r c (f.letters r c) refl refl refl known).letter;
    }

-- a line of a page without room changes nothing
pub full_same : (l s s₁ : List ℕ) (n : ℕ) → (readable l ≡ true → page_of l ≡ n) → NoRoom s n → Step l s s₁ → s₁ ≡ s
full_same l s s₁ n pg h (useless g e) = e
full_same l s s₁ n pg h (no_room g w e) = e
full_same l s s₁ n pg h (applied g w) = absurd (has_room n s s₁ w.slot.0 (subst (λ m. InSlot m s s₁ w.slot.0) (pg g) w.slot.1) h)

twice_step : (l s s₁ s₂ : List ℕ) → well_formed s ≡ true → Step l s s₁ → Step l s₁ s₂ → s₂ ≡ s₁
twice_step l s s₁ s₂ ok (useless g e) (useless h d) = d
twice_step l s s₁ s₂ ok (useless g e) (no_room h w d) = d
twice_step l s s₁ s₂ ok (useless g e) (applied h d) = absurd (both_ways _ g h)
twice_step l s s₁ s₂ ok (no_room g w e) u = full_same l s₁ s₂ (page_of l) (λ _. refl) (subst (λ t. NoRoom t (page_of l)) (sym e) w) u
twice_step l s s₁ s₂ ok (applied g w) u = again_same l s₁ s₂ w.formed (stands_applied (fragment l) s s₁ w) u

pub repetition : Repetition
repetition l s s₁ s₂ r q ok x y = let i = stepped l s s₁ r ok x in twice_step l s s₁ s₂ ok i (stepped l s₁ s₂ q (still_formed i ok) y)

-- two fragments of a page, one after the other, in slot i
record AppliedBoth (f g : Fragment) (s b : List ℕ) (i : ℕ) : Type 0 where
  long : length b ≡ length s
  here : holds b f.page i ≡ true
  only : OnlySlot s b i
  pages : ShowsSame (page_in b f.page) (apply (apply (page_in s) f) g f.page)

applied_both : (f g : Fragment) (s a b : List ℕ) (i : ℕ) → f.page ≡ g.page → Applied f s a → InSlot f.page s a i → Applied g a b → AppliedBoth f g s b i
applied_both f g s a b i pg w p u =
    let n = f.page in
    let room : i < slots a = subst (λ x. i < x) (sym (same_slots s a w.long)) p.within in
    let q : InSlot n a b u.slot.0 = subst (λ m. InSlot m a b u.slot.0) (sym pg) u.slot.1 in
    let e : u.slot.0 ≡ i = ⊎_elim (λ d. one_slot a n u.slot.0 i w.formed q.within room d p.here) (λ d. absurd (both_ways _ (d.absent i room) p.here)) q.was in
    let q₁ : InSlot n a b i = subst (InSlot n a b) e q in
    record {
      long = u.long ∙ w.long;
      here = q₁.here;
      only = λ k h. q₁.only k h ∙ p.only k h;
      pages = shows_then (u.pages n) (shows_apply (page_in a) (apply (page_in s) f) g n (w.pages n));
    }

-- a line that can be made out, where its page has room, is applied
must_apply : (l s b : List ℕ) (a : List ℕ) (i : ℕ) → InSlot (page_of l) s a i → readable l ≡ true → Step l s b → Applied (fragment l) s b
must_apply l s b a i w good (useless g e) = absurd (both_ways _ g good)
must_apply l s b a i w good (no_room g f e) = absurd (has_room (page_of l) s a i w f)
must_apply l s b a i w good (applied g e) = e

-- and so is one whose page is there
then_apply : (l s b : List ℕ) (i : ℕ) → i < slots s → holds s (page_of l) i ≡ true → readable l ≡ true → Step l s b → Applied (fragment l) s b
then_apply l s b i hi held good (useless g e) = absurd (both_ways _ g good)
then_apply l s b i hi held good (no_room g f e) = absurd (both_ways _ (f.absent i hi) held)
then_apply l s b i hi held good (applied g e) = e

swap_readable : (k l s s₁ s₂ t₁ t₂ : List ℕ) → well_formed s ≡ true → readable k ≡ true → readable l ≡ true → page_of k ≡ page_of l → version_of k ≡ version_of l → Agree (fragment k) (fragment l) →
    Step k s s₁ → Step l s₁ s₂ → Step l s t₁ → Step k t₁ t₂ → s₂ ≡ t₂
swap_readable k l s s₁ s₂ t₁ t₂ ok gk gl pg ver ag (useless g e) y z u = absurd (both_ways _ g gk)
swap_readable k l s s₁ s₂ t₁ t₂ ok gk gl pg ver ag (no_room g w e) y z u =
    let et : t₁ ≡ s = full_same l s t₁ (page_of k) (λ _. sym pg) w z in
    let es : s₂ ≡ s = full_same l s s₂ (page_of k) (λ _. sym pg) w (subst (λ t. Step l t s₂) e y) in
    es ∙ sym (full_same k s t₂ (page_of k) (λ _. refl) w (subst (λ t. Step k t t₂) et u))
swap_readable k l s s₁ s₂ t₁ t₂ ok gk gl pg ver ag (applied g e) y z u =
    let n = page_of k in
    let i = e.slot.0 in let p = e.slot.1 in
    let zt = must_apply l s t₁ s₁ i (subst (λ m. InSlot m s s₁ i) pg p) gl z in
    let pz : InSlot n s t₁ zt.slot.0 = subst (λ m. InSlot m s t₁ zt.slot.0) (sym pg) zt.slot.1 in
    let pt : InSlot n s t₁ i = subst (InSlot n s t₁) (same_slot n s s₁ t₁ i zt.slot.0 ok p pz) pz in
    let yt = then_apply l s₁ s₂ i (subst (λ x. i < x) (sym (same_slots s s₁ e.long)) p.within) (subst (λ m. holds s₁ m i ≡ true) pg p.here) gl y in
    let ut = then_apply k t₁ t₂ i (subst (λ x. i < x) (sym (same_slots s t₁ zt.long)) pt.within) pt.here gk u in
    let x = applied_both (fragment k) (fragment l) s s₁ s₂ i pg e p yt in
    let v = applied_both (fragment l) (fragment k) s t₁ t₂ i (sym pg) zt (subst (λ m. InSlot m s t₁ i) pg pt) ut in
    same_bytes s s₂ t₂ i n p.within x.long v.long yt.formed ut.formed x.here (subst (λ m. holds t₂ m i ≡ true) (sym pg) v.here) x.only v.only
    (shows_then x.pages (shows_then (commutes (page_in s) (fragment k) (fragment l) (λ _. (ver, ag)) n) (shows_sym (subst (λ m. ShowsSame (page_in t₂ m) (apply (apply (page_in s) (fragment l)) (fragment k) m)) (sym pg) v.pages))))

useless_step : (l s s₁ : List ℕ) → readable l ≡ false → Step l s s₁ → s₁ ≡ s
useless_step l s s₁ g (useless h e) = e
useless_step l s s₁ g (no_room h w e) = e
useless_step l s s₁ g (applied h e) = absurd (both_ways _ g h)

-- copies of lines of which there is one text agree
pub copies_agree : (a b : Line) (k l : List ℕ) → Copy a k → Copy b l → readable k ≡ true → readable l ≡ true → Agree (meaning a) (meaning b) → Agree (fragment k) (fragment l)
copies_agree a b k l ca cb gk gl ag r c x y =
    let pa = (reads_part a k ca gk).letters r c x in let pb = (reads_part b l cb gl).letters r c y in
    pa ∙ ag r c (subst (λ z. 0 < z) pa x) (subst (λ z. 0 < z) pb y) ∙ sym pb

swap_steps : (a b : Line) (k l s s₁ s₂ t₁ t₂ : List ℕ) → well_formed s ≡ true → Copy a k → Copy b l → a.page ≡ b.page → a.version ≡ b.version → OneText (a ∷ (b ∷ [])) →
    Step k s s₁ → Step l s₁ s₂ → Step l s t₁ → Step k t₁ t₂ → s₂ ≡ t₂
swap_steps a b k l s s₁ s₂ t₁ t₂ ok ca cb pg ver one x y z v =
    ⊎_elim
    (λ gk. ⊎_elim
    (λ gl. let ra = reads_part a k ca gk in let rb = reads_part b l cb gl in
    swap_readable k l s s₁ s₂ t₁ t₂ ok gk gl (ra.page ∙ pg ∙ sym rb.page) (ra.version ∙ ver ∙ sym rb.version) (copies_agree a b k l ca cb gk gl (one a b (here _) (there _ _ (here _)) pg ver)) x y z v)
    (λ el. useless_step l s₁ s₂ el y ∙ step_same k s s₁ t₂ ok x (subst (λ t. Step k t t₂) (useless_step l s t₁ el z) v)) (cases_Bool (readable l)))
    (λ ek. step_same l s s₂ t₁ ok (subst (λ t. Step l t s₂) (useless_step k s s₁ ek x) y) z ∙ sym (useless_step k t₁ t₂ ek v)) (cases_Bool (readable k))

two_runs : (a b : Line) (k l s e₁ e₂ : List ℕ) (after : List (List ℕ)) (ps qs : List Done) → well_formed s ≡ true → Copy a k → Copy b l → a.page ≡ b.page → a.version ≡ b.version → OneText (a ∷ (b ∷ [])) →
    Run s (k ∷ (l ∷ after)) ps e₁ → Run s (l ∷ (k ∷ after)) qs e₂ → e₁ ≡ e₂
two_runs a b k l _ _ _ after _ _ ok ca cb pg ver one (step s _ s₁ e₁ r _ _ x (step _ _ s₂ _ r₂ _ ps y p)) (step _ _ t₁ e₂ q _ _ z (step _ _ t₂ _ q₂ _ qs v o)) =
    let i = stepped k s s₁ r ok x in
    let j = stepped l s₁ s₂ r₂ (still_formed i ok) y in
    let m = stepped l s t₁ q ok z in
    let n = stepped k t₁ t₂ q₂ (still_formed m ok) v in
    let e = swap_steps a b k l s s₁ s₂ t₁ t₂ ok ca cb pg ver one i j m n in
    run_same s₂ e₁ e₂ after ps qs (still_formed j (still_formed i ok)) p (subst (λ t. Run t after qs e₂) (sym e) o)

-- a run in two parts
pub record Split (s : List ℕ) (before after : List (List ℕ)) (s₁ : List ℕ) : Type 0 where
  pub mid : List ℕ
  pub ps : List Done
  pub qs : List Done
  pub first : Run s before ps mid
  pub second : Run mid after qs s₁

pub split : (s s₁ : List ℕ) (before after : List (List ℕ)) (rs : List Done) → Run s (before ++ after) rs s₁ → Split s before after s₁
split s s₁ [] after rs w = record { mid = s; ps = []; qs = rs; first = end s; second = w }
split _ _ (l ∷ before) after _ (step s _ t s₁ r _ rs x w) =
    let y = split t s₁ before after rs w in
    record { mid = y.mid; ps = r ∷ y.ps; qs = y.qs; first = step s l t y.mid r before y.ps x y.first; second = y.second }

pub commutation : Commutation
commutation s e₁ e₂ k l before after ps qs a b ok ca cb pg ver one x y =
    let i = split s e₁ before (k ∷ (l ∷ after)) ps x in
    let j = split s e₂ before (l ∷ (k ∷ after)) qs y in
    let e = run_same s j.mid i.mid before j.ps i.ps ok j.first i.first in
    two_runs a b k l i.mid e₁ e₂ after i.qs j.qs (formed_run s i.mid before i.ps ok i.first) ca cb pg ver one i.second (subst (λ t. Run t (l ∷ (k ∷ after)) j.qs e₂) e j.second)
