-- Lines of different pages in either order, a second copy of a line, and what a line leaves alone. Assumes nothing.
use Rattle.std.proofs.Common.{◌≡◌, ℕ, ◌<◌, true, false, ◌⊎◌, List, sym, refl, ap, ◌∙◌, subst, inl, inr, ⊎_elim}
use Rattle.std.proofs.lemmas.Bool.{both_ways}
use Rattle.line.specs.Line.{meaning}
use Rattle.line.specs.Damage.{Copy}
use Rattle.line.specs.Reading.{version_of, readable, fragment}
use Rattle.line.specs.declared.Line.{Line}
use Rattle.line.proofs.Copies.{reads_part}
use Rattle.store.specs.Page.{apply}
use Rattle.store.specs.Layout.{well_formed, page_in}
use Rattle.store.specs.Slots.{Applied}
use Rattle.store.proofs.Pages.{shows_then, shows_sym, shows_is}
use Rattle.receiver.specs.Entry.{Answers}
use Rattle.receiver.specs.Promises.{CommutationOfPages, SecondCopy, Frame}
use Rattle.receiver.specs.declared.entry.Done.{Done}
use Rattle.receiver.specs.declared.entry.Done.TheVariants.{Took, Lost, Full, Refused}
use Rattle.receiver.proofs.Overlays.{Stands, shows_stands, keeps_apply, commutes}
use Rattle.receiver.proofs.Steps.{Step, useless, no_room, applied, stepped, still_formed, refused_useless}
use Rattle.receiver.proofs.Invariant.{pages_sound, sound_step}
use Rattle.receiver.proofs.Bytes.{shows_apply}
use Rattle.receiver.proofs.Orders.{StandsAlready, stands_applied}

pub frame : Frame
frame l s s₁ Took a = let w = a.says.applied in inr (refl, w.long, (w.slot.0, w.slot.1.within, w.slot.1.here, w.slot.1.only))
frame l s s₁ Lost a = inl a.says.same
frame l s s₁ Full a = inl a.says.same
frame l s s₁ (Refused f) a = inl a.says.same

-- a line that isn't answered Full is of no use, or is applied
pub used : (l s s₁ : List ℕ) (r : Done) → well_formed s ≡ true → (r ≡ Full → ⊥) → Answers l s r s₁ → ((readable l ≡ false) × (s₁ ≡ s)) ⊎ ((readable l ≡ true) × Applied (fragment l) s s₁)
used l s s₁ Took ok ne a = inr (a.says.readable, a.says.applied)
used l s s₁ Lost ok ne a = inl (a.says.unreadable, a.says.same)
used l s s₁ Full ok ne a = absurd (ne refl)
used l s s₁ (Refused f) ok ne a = inl (refused_useless l s s₁ f ok a)

pub commutation_of_pages : CommutationOfPages
commutation_of_pages s s₁ s₂ t₁ t₂ k l p q p₁ q₁ ok ne a b c d np nq np₁ nq₁ n =
    ⊎_elim
    (λ x. ⊎_elim
    (λ y. shows_is (ap (λ t. page_in t n) (y.1 ∙ x.1 ∙ sym (useless_of k t₁ t₂ p₁ okt np₁ d x.0 ∙ useless_of l s t₁ q₁ ok nq₁ c y.0))))
    (λ y. let c₁ = applied_of l s t₁ q₁ ok nq₁ c y.0 in
    shows_then (y.1.pages n) (shows_then (shows_apply (page_in s₁) (page_in s) (fragment l) n (shows_is (ap (λ t. page_in t n) x.1)))
    (shows_then (shows_sym (c₁.pages n)) (shows_is (sym (ap (λ t. page_in t n) (useless_of k t₁ t₂ p₁ okt np₁ d x.0))))))) (used l s₁ s₂ q ok₁ nq b))
    (λ x. ⊎_elim
    (λ y. let d₁ = applied_of k t₁ t₂ p₁ okt np₁ d x.0 in
    shows_then (shows_is (ap (λ t. page_in t n) y.1)) (shows_then (x.1.pages n)
    (shows_then (shows_apply (page_in s) (page_in t₁) (fragment k) n (shows_is (sym (ap (λ t. page_in t n) (useless_of l s t₁ q₁ ok nq₁ c y.0))))) (shows_sym (d₁.pages n)))))
    (λ y. let c₁ = applied_of l s t₁ q₁ ok nq₁ c y.0 in let d₁ = applied_of k t₁ t₂ p₁ okt np₁ d x.0 in
    shows_then (y.1.pages n) (shows_then (shows_apply (page_in s₁) (apply (page_in s) (fragment k)) (fragment l) n (x.1.pages n))
    (shows_then (commutes (page_in s) (fragment k) (fragment l) (λ e. absurd (ne e)) n)
    (shows_then (shows_sym (shows_apply (page_in t₁) (apply (page_in s) (fragment l)) (fragment k) n (c₁.pages n))) (shows_sym (d₁.pages n)))))) (used l s₁ s₂ q ok₁ nq b))
    (used k s s₁ p ok np a)
  where
    ok₁ : well_formed s₁ ≡ true
    ok₁ = still_formed (stepped k s s₁ p ok a) ok

    okt : well_formed t₁ ≡ true
    okt = still_formed (stepped l s t₁ q₁ ok c) ok

    useless_of : (x u v : List ℕ) (r : Done) → well_formed u ≡ true → (r ≡ Full → ⊥) → Answers x u r v → readable x ≡ false → v ≡ u
    useless_of x u v r ok nf w g = ⊎_elim (λ z. z.1) (λ z. absurd (both_ways _ g z.0)) (used x u v r ok nf w)

    applied_of : (x u v : List ℕ) (r : Done) → well_formed u ≡ true → (r ≡ Full → ⊥) → Answers x u r v → readable x ≡ true → Applied (fragment x) u v
    applied_of x u v r ok nf w g = ⊎_elim (λ z. absurd (both_ways _ z.0 g)) (λ z. z.1) (used x u v r ok nf w)

-- the page after a second copy, at one place
second_at : (m : Line) (l s₁ s₂ : List ℕ) (r c : ℕ) → r < 25 → c < 40 → Copy m l → (0 < (meaning m).letters r c → (page_in s₁ m.page).letters r c ≡ (meaning m).letters r c) →
    Stands m.version r c ((page_in s₁ m.page).letters r c) (page_in s₁ m.page) → Step l s₁ s₂ → Stands m.version r c ((page_in s₁ m.page).letters r c) (page_in s₂ m.page)
second_at m l s₁ s₂ r c hr hc copy is h (useless g e) = subst (λ t. Stands m.version r c ((page_in s₁ m.page).letters r c) (page_in t m.page)) (sym e) h
second_at m l s₁ s₂ r c hr hc copy is h (no_room g w e) = subst (λ t. Stands m.version r c ((page_in s₁ m.page).letters r c) (page_in t m.page)) (sym e) h
second_at m l s₁ s₂ r c hr hc copy is h (applied g w) =
    let part = reads_part m l copy g in
    shows_stands m.version r c _ _ _ hr hc (w.pages m.page)
    (keeps_apply (page_in s₁) (fragment l) m.page m.version r c _ (λ _. part.version) (λ _ known. let e = part.letters r c known in e ∙ sym (is (subst (λ z. 0 < z) e known))) h)

-- the page is there, in the line's version
second_version : (m : Line) (l s₁ s₂ : List ℕ) → Copy m l → (page_in s₁ m.page).there ≡ true → (page_in s₁ m.page).version ≡ m.version → Step l s₁ s₂ → ((page_in s₂ m.page).there ≡ true) × ((page_in s₂ m.page).version ≡ m.version)
second_version m l s₁ s₂ copy t v (useless g e) = (ap (λ z. (page_in z m.page).there) e ∙ t, ap (λ z. (page_in z m.page).version) e ∙ v)
second_version m l s₁ s₂ copy t v (no_room g w e) = (ap (λ z. (page_in z m.page).there) e ∙ t, ap (λ z. (page_in z m.page).version) e ∙ v)
second_version m l s₁ s₂ copy t v (applied g w) =
    let part = reads_part m l copy g in
    let said = stands_applied (fragment l) s₁ s₂ w in
    (subst (λ x. (page_in s₂ x).there ≡ true) part.page said.here, subst (λ x. (page_in s₂ x).version ≡ version_of l) part.page said.version ∙ part.version)

pub second_copy : SecondCopy
second_copy m k l s s₁ s₂ q ok ck cl a b =
    let n = m.page in
    let w = a.says.applied in
    let part = reads_part m k ck a.says.readable in
    let said : StandsAlready (fragment k) (page_in s₁ n) = subst (λ x. StandsAlready (fragment k) (page_in s₁ x)) part.page (stands_applied (fragment k) s s₁ w) in
    let ver : (page_in s₁ n).version ≡ m.version = said.version ∙ part.version in
    let st = stepped l s₁ s₂ q w.formed b in
    let at : (r c : ℕ) → r < 25 → c < 40 → (0 < (meaning m).letters r c → (page_in s₁ n).letters r c ≡ (meaning m).letters r c) → (page_in s₂ n).letters r c ≡ (page_in s₁ n).letters r c =
    λ r c hr hc is. (second_at m l s₁ s₂ r c hr hc cl is (record { here = said.here; version = ver; letter = refl }) st).letter in
    let page = second_version m l s₁ s₂ cl said.here ver st in
    record {
      there = page.0;
      version = page.1;
      set_letters = λ r c hr hc known. at r c hr hc (λ _. said.letters r c hr hc known ∙ part.letters r c known);
      known_letters = λ sent one i h r c hr hc known.
          let sound₁ = sound_step sent k s s₁ ok (inr (record { line = m; among = i; copy = ck })) (applied a.says.readable w) h in
          let x = (pages_sound sent s₁ w.formed sound₁ n).letters r c known in
          at r c hr hc (λ meant. sym x.letter ∙ one x.line m x.among i x.page (x.version ∙ ver) r c (subst (λ z. 0 < z) (sym x.letter) known) meant);
    }
