-- Runs of lines of one page: they change one slot, and the bytes depend only on which lines came. Assumes nothing.
use Rattle.std.proofs.Common.{◌≡◌, ℕ, ◌<◌, true, ◌⊎◌, List, ◌++◌, length, sym, refl, ◌∙◌, subst, inl, inr, ⊎_elim}
use Rattle.std.proofs.lemmas.Bool.{both_ways}
use Rattle.line.specs.Reading.{page_of, readable}
use Rattle.line.specs.declared.Line.{Line}
use Rattle.store.specs.Page.{ShowsSame}
use Rattle.store.specs.Layout.{slots, holds, well_formed, page_in}
use Rattle.store.specs.Slots.{NoRoom, InSlot}
use Rattle.store.proofs.Formed.{one_slot, same_slots}
use Rattle.store.proofs.Pages.{shows_refl, shows_sym, page_there, there_slot}
use Rattle.receiver.specs.Broadcast.{Among, here, there, OneText, WhatComes, OneVersion}
use Rattle.receiver.specs.Runs.{Run, end, step}
use Rattle.receiver.specs.Promises.{Reordering}
use Rattle.receiver.specs.declared.entry.Done.{Done}
use Rattle.receiver.proofs.Steps.{Step, useless, no_room, applied, stepped, still_formed, same_length, copied, copy_part, formed_run, length_run}
use Rattle.receiver.proofs.Bytes.{same_bytes, same_slot, has_room, run_same}
use Rattle.receiver.proofs.Orders.{split}
use Rattle.receiver.proofs.Dependence.{coherent, shown_same}

-- nothing changed, or only the slot that page n has
abbrev PageOnly : (n : ℕ) (s s₁ : List ℕ) → Type 0
PageOnly n s s₁ = (s₁ ≡ s) ⊎ ((i : ℕ) × InSlot n s s₁ i)

one_step : (n : ℕ) (l s s₁ : List ℕ) → (readable l ≡ true → page_of l ≡ n) → Step l s s₁ → PageOnly n s s₁
one_step n l s s₁ pg (useless g e) = inl e
one_step n l s s₁ pg (no_room g w e) = inl e
one_step n l s s₁ pg (applied g w) = inr (w.slot.0, subst (λ m. InSlot m s s₁ w.slot.0) (pg g) w.slot.1)

joined : (n : ℕ) (s s₁ s₂ : List ℕ) (i j : ℕ) → well_formed s₁ ≡ true → length s₁ ≡ length s → InSlot n s s₁ i → InSlot n s₁ s₂ j → InSlot n s s₂ i
joined n s s₁ s₂ i j ok long p q =
    let room : i < slots s₁ = subst (λ x. i < x) (sym (same_slots s s₁ long)) p.within in
    let e : j ≡ i = ⊎_elim (λ d. one_slot s₁ n j i ok q.within room d p.here) (λ d. absurd (both_ways _ (d.absent i room) p.here)) q.was in
    let q₁ : InSlot n s₁ s₂ i = subst (InSlot n s₁ s₂) e q in
    record { within = p.within; here = q₁.here; was = p.was; only = λ k h. q₁.only k h ∙ p.only k h }

page_run : (n : ℕ) (s s₁ : List ℕ) (ls : List (List ℕ)) (rs : List Done) → well_formed s ≡ true → ((l : List ℕ) → Among l ls → readable l ≡ true → page_of l ≡ n) → Run s ls rs s₁ → PageOnly n s s₁
page_run n _ _ _ _ ok pg (end s) = inl refl
page_run n _ _ _ _ ok pg (step s l s₁ s₂ r ls rs a w) =
    let t = stepped l s s₁ r ok a in
    let ok₁ = still_formed t ok in
    let rest = page_run n s₁ s₂ ls rs ok₁ (λ k i. pg k (there l ls i)) w in
    ⊎_elim (λ e. subst (λ z. PageOnly n z s₂) e rest)
    (λ p. ⊎_elim (λ e. inr (subst (λ z. (i : ℕ) × InSlot n s z i) (sym e) p)) (λ q. inr (p.0, joined n s s₁ s₂ p.0 q.0 ok₁ (same_length t) p.1 q.1)) rest)
    (one_step n l s s₁ (pg l (here ls)) t)

-- a store in which the page's slot changed, and the page shows what it showed, is as it was
kept : (n : ℕ) (s b : List ℕ) (i : ℕ) → well_formed s ≡ true → well_formed b ≡ true → length b ≡ length s → InSlot n s b i → ShowsSame (page_in s n) (page_in b n) → s ≡ b
kept n s b i ok okb long w alike =
    let there = alike.there ∙ page_there b n i okb (subst (λ x. i < x) (sym (same_slots s b long)) w.within) w.here in
    let h = there_slot s n there in
    let old : holds s n i ≡ true = ⊎_elim (λ d. d) (λ d. absurd (both_ways _ (d.absent h.0 h.1) h.2)) w.was in
    same_bytes s s b i n w.within refl long ok okb old w.here (λ k _. refl) w.only alike

meet : (n : ℕ) (s a b : List ℕ) → well_formed s ≡ true → well_formed a ≡ true → well_formed b ≡ true → length a ≡ length s → length b ≡ length s → PageOnly n s a → PageOnly n s b → ShowsSame (page_in a n) (page_in b n) → a ≡ b
meet n s a b ok oka okb la lb x y alike =
    ⊎_elim (λ e. ⊎_elim (λ d. e ∙ sym d) (λ q. e ∙ kept n s b q.0 ok okb lb q.1 (subst (λ z. ShowsSame (page_in z n) (page_in b n)) e alike)) y)
    (λ p. ⊎_elim (λ d. sym (d ∙ kept n s a p.0 ok oka la p.1 (shows_sym (subst (λ z. ShowsSame (page_in a n) (page_in z n)) d alike))))
    (λ q. let e = same_slot n s a b p.0 q.0 ok p.1 q.1 in let q₁ = subst (InSlot n s b) e q.1 in
    same_bytes s a b p.0 n p.1.within la lb oka okb p.1.here q₁.here p.1.only q₁.only alike) y) x

-- after a run that found no room nothing has changed, and the other run finds none
full_meet : (n : ℕ) (s a b : List ℕ) → length a ≡ length s → PageOnly n s a → PageOnly n s b → NoRoom a n → a ≡ b
full_meet n s a b la x y full =
    ⊎_elim (λ e. ⊎_elim (λ d. e ∙ sym d) (λ q. absurd (has_room n s b q.0 q.1 (subst (λ z. NoRoom z n) e full))) y)
    (λ p. absurd (both_ways _ (full.absent p.0 (subst (λ k. p.0 < k) (sym (same_slots s a la)) p.1.within)) p.1.here)) x

same_lines_same_bytes : (sent : List Line) (s a b : List ℕ) (ls ks : List (List ℕ)) (ps qs : List Done) (n v : ℕ) → well_formed s ≡ true → OneText sent → ((m : Line) → Among m sent → (m.page ≡ n) × (m.version ≡ v)) →
    WhatComes sent ls → WhatComes sent ks → ((l : List ℕ) → (Among l ls → Among l ks) × (Among l ks → Among l ls)) → Run s ls ps a → Run s ks qs b → a ≡ b
same_lines_same_bytes sent s a b ls ks ps qs n v ok one all cl ck same w u =
    let ver : OneVersion sent n v = λ m i _. (all m i).1 in
    let page : (xs : List (List ℕ)) → WhatComes sent xs → (l : List ℕ) → Among l xs → readable l ≡ true → page_of l ≡ n = λ xs come l i g. let c = copied sent l g (come l i) in (copy_part sent l g c).page ∙ (all c.line c.among).0 in
    let la = length_run s a ls ps ok w in let lb = length_run s b ks qs ok u in
    let x = page_run n s a ls ps ok (page ls cl) w in let y = page_run n s b ks qs ok (page ks ck) u in
    ⊎_elim (λ alike. meet n s a b ok (formed_run s a ls ps ok w) (formed_run s b ks qs ok u) la lb x y alike) (λ h. ⊎_elim (λ c. full_meet n s a b la x y c) (λ c. sym (full_meet n s b a lb y x c)) h)
    (shown_same n v s s a b ls ks ps qs ok ok (coherent sent ls n v one ver cl) (coherent sent ks n v one ver ck) (λ l _. same l) (shows_refl (page_in s n)) w u)

pub reordering : Reordering
reordering sent s e₁ e₂ before ls ks after ps qs n v ok one all cl ck same x y =
    let i = split s e₁ before (ls ++ after) ps x in
    let j = split s e₂ before (ks ++ after) qs y in
    let ok₁ = formed_run s i.mid before i.ps ok i.first in
    let e = run_same s j.mid i.mid before j.ps i.ps ok j.first i.first in
    let a = split i.mid e₁ ls after i.qs i.second in
    let b = split i.mid e₂ ks after j.qs (subst (λ t. Run t (ks ++ after) j.qs e₂) e j.second) in
    let d = same_lines_same_bytes sent i.mid b.mid a.mid ks ls b.ps a.ps n v ok₁ one all ck cl (λ l. ((same l).1, (same l).0)) b.first a.first in
    run_same a.mid e₁ e₂ after a.qs b.qs (formed_run i.mid a.mid ls a.ps ok₁ a.first) a.second (subst (λ t. Run t after b.qs e₂) d b.second)
