-- Recovery: a letter that came whole stands, unless the store was full. Assumes nothing.
use Rattle.std.proofs.Common.{◌≡◌, ℕ, ◌<◌, true, ltb, ◌⊎◌, List, sym, refl, ap, ◌∙◌, subst, inl, inr, ⊎_elim}
use Rattle.std.proofs.lemmas.Bool.{and_parts, ltb-true, cases_Bool, both_ways}
use Rattle.line.specs.Line.{meaning}
use Rattle.line.specs.Reading.{page_of, version_of, letters_of, readable, fragment}
use Rattle.line.specs.declared.Line.{Line}
use Rattle.line.proofs.Copies.{reads_part, reads_brought}
use Rattle.store.specs.Page.{apply}
use Rattle.store.specs.Layout.{letter_at, holds, well_formed, page_in}
use Rattle.store.specs.Slots.{NoRoom}
use Rattle.store.proofs.Formed.{same_slots}
use Rattle.store.proofs.Pages.{page_held, slot_version, slot_letter, there_slot}
use Rattle.receiver.specs.Broadcast.{Among, here, there, OneText, WhatComes, OneVersion, Brought}
use Rattle.receiver.specs.Runs.{Run, end, step, NoPlace}
use Rattle.receiver.specs.Promises.{Recovery, RecoveryOfPage, whole_page}
use Rattle.receiver.specs.declared.entry.Done.{Done}
use Rattle.receiver.proofs.Overlays.{Stands, shows_stands, keeps_apply, sets_apply}
use Rattle.receiver.proofs.Steps.{Step, useless, no_room, applied, stepped, still_formed, copied, copy_part, formed_run, length_run, held_run, full_run}

-- lines that keep letter x at row r and column c of page n, in version v: those of the page are of that version, and have x there or nothing
module _ (n v r c x : ℕ) (hr : r < 25) (hc : c < 40) where
  abbrev pub Keeps : List ℕ → Type 0
  Keeps l = readable l ≡ true → page_of l ≡ n → (version_of l ≡ v) × (0 < letters_of l r c → letters_of l r c ≡ x)

  keeps_step : (l s s₁ : List ℕ) → Keeps l → Step l s s₁ → Stands v r c x (page_in s n) → Stands v r c x (page_in s₁ n)
  keeps_step l s s₁ f (useless g e) h = subst (λ t. Stands v r c x (page_in t n)) (sym e) h
  keeps_step l s s₁ f (no_room g w e) h = subst (λ t. Stands v r c x (page_in t n)) (sym e) h
  keeps_step l s s₁ f (applied g w) h =
      shows_stands v r c x _ _ hr hc (w.pages n) (keeps_apply (page_in s) (fragment l) n v r c x (λ pg. (f g pg).0) (λ pg. (f g pg).1) h)

  pub keeps_run : (s s₁ : List ℕ) (ls : List (List ℕ)) (rs : List Done) → well_formed s ≡ true → ((l : List ℕ) → Among l ls → Keeps l) → Run s ls rs s₁ → Stands v r c x (page_in s n) → Stands v r c x (page_in s₁ n)
  keeps_run _ _ _ _ ok f (end s) h = h
  keeps_run _ _ _ _ ok f (step s l s₁ s₂ q ls rs a w) h =
      let t = stepped l s s₁ q ok a in
      keeps_run s₁ s₂ ls rs (still_formed t ok) (λ k i. f k (there l ls i)) w (keeps_step l s s₁ (f l (here ls)) t h)

  -- a line of the page after which the letter stands: so it does, or there is no room
  pub sets_step : (l s s₁ : List ℕ) → readable l ≡ true → page_of l ≡ n → Stands v r c x (apply (page_in s) (fragment l) n) → Step l s s₁ → Stands v r c x (page_in s₁ n) ⊎ NoRoom s₁ n
  sets_step l s s₁ good pg h (useless g e) = absurd (both_ways _ g good)
  sets_step l s s₁ good pg h (no_room g w e) = inr (subst (λ t. NoRoom t n) (sym e) (subst (NoRoom s) pg w))
  sets_step l s s₁ good pg h (applied g w) = inl (shows_stands v r c x _ _ hr hc (w.pages n) h)

  -- a line that has the letter came in a run of lines that keep it
  pub given_run : (b : List ℕ) → readable b ≡ true → page_of b ≡ n → version_of b ≡ v → letters_of b r c ≡ x → 0 < x →
      (s s₁ : List ℕ) (ls : List (List ℕ)) (rs : List Done) → well_formed s ≡ true → ((l : List ℕ) → Among l ls → Keeps l) → Run s ls rs s₁ → Among b ls → Stands v r c x (page_in s₁ n) ⊎ NoRoom s₁ n
  given_run b good pg ver is known _ _ _ _ ok f (end s) i = elim i [ ]
  given_run b good pg ver is known _ _ _ _ ok f (step s _ s₁ s₂ q ls rs a w) (here _) =
      let t = stepped b s s₁ q ok a in
      ⊎_elim (λ h. inl (keeps_run s₁ s₂ ls rs (still_formed t ok) (λ k j. f k (there b ls j)) w h)) (λ h. inr (full_run n s₁ s₂ ls rs (still_formed t ok) w h))
      (sets_step b s s₁ good pg (sets_apply (page_in s) (fragment b) n v r c x pg ver is known) t)
  given_run b good pg ver is known _ _ _ _ ok f (step s l s₁ s₂ q ls rs a w) (there _ _ i) =
      given_run b good pg ver is known s₁ s₂ ls rs (still_formed (stepped l s s₁ q ok a) ok) (λ k j. f k (there l ls j)) w i

-- what comes of lines of one version and one text keeps each letter
pub comes_keep : (sent : List Line) (ls : List (List ℕ)) (n v r c : ℕ) (m : Line) → WhatComes sent ls → OneText sent → OneVersion sent n v → Among m sent → m.page ≡ n → 0 < (meaning m).letters r c →
    (l : List ℕ) → Among l ls → readable l ≡ true → page_of l ≡ n → (version_of l ≡ v) × (0 < letters_of l r c → letters_of l r c ≡ (meaning m).letters r c)
comes_keep sent ls n v r c m come one ver among pg known l i g page =
    let a = copied sent l g (come l i) in
    let part = copy_part sent l g a in
    let same : a.line.page ≡ n = sym part.page ∙ page in
    let av = ver a.line a.among same in (
      part.version ∙ av,
      λ there. part.letters r c there ∙ one a.line m a.among among (same ∙ sym pg) (av ∙ sym (ver m among pg)) r c (subst (λ y. 0 < y) (part.letters r c there) there) known,
    )

pub no_place : (n : ℕ) (s s₁ : List ℕ) (ls : List (List ℕ)) (rs : List Done) → well_formed s ≡ true → Run s ls rs s₁ → NoRoom s₁ n → NoPlace s s₁ n
no_place n s s₁ ls rs ok w h = record {
  before = λ i hi. ⊎_elim (λ e. absurd (both_ways _ (h.absent i (subst (λ k. i < k) (sym (same_slots s s₁ (length_run s s₁ ls rs ok w))) hi)) (held_run n i s s₁ ls rs ok w e))) (λ e. e) (cases_Bool (holds s n i));
  after = h;
}

-- one letter that was brought
brought_run : (sent : List Line) (s s₁ : List ℕ) (ls : List (List ℕ)) (rs : List Done) (n v r c : ℕ) → well_formed s ≡ true → WhatComes sent ls → OneText sent → OneVersion sent n v → Run s ls rs s₁ →
    (b : Brought sent ls n r c) → Stands v r c ((meaning b.line).letters r c) (page_in s₁ n) ⊎ NoRoom s₁ n
brought_run sent s s₁ ls rs n v r c ok come one ver w b =
    let m = b.line in
    let read = reads_brought b.bytes m r c b.brings in
    let part = reads_part m b.bytes b.brings.copy read.0 in
    let row : r < 25 = subst (λ k. k < 25) b.brings.row b.brings.copy.valid.row in
    given_run n v r c ((meaning m).letters r c) row b.brings.column b.bytes read.0 (part.page ∙ b.page) (part.version ∙ ver m b.among b.page) read.2 read.1 s s₁ ls rs ok
    (comes_keep sent ls n v r c m come one ver b.among b.page read.1) w b.came

pub recovery : (s s₁ : List ℕ) (ls : List (List ℕ)) (rs : List Done) → well_formed s ≡ true → Run s ls rs s₁ → Recovery s ls s₁
recovery s s₁ ls rs ok w sent n v places come one ver brought r₀ c₀ p₀ =
    let at : (r c : ℕ) (p : places r c ≡ true) → Stands v r c ((meaning (brought r c p).line).letters r c) (page_in s₁ n) ⊎ NoRoom s₁ n =
    λ r c p. brought_run sent s s₁ ls rs n v r c ok come one ver w (brought r c p) in
    ⊎_elim
    (λ st. let sl = there_slot s₁ n st.here in
    let is = page_held s₁ n sl.0 (formed_run s s₁ ls rs ok w) sl.1 sl.2 in
    let letter : (r c : ℕ) (p : places r c ≡ true) → letter_at s₁ sl.0 r c ≡ (meaning (brought r c p).line).letters r c =
    λ r c p. let b = brought r c p in
    ⊎_elim (λ g. sym (slot_letter s₁ sl.0 r c (subst (λ k. k < 25) b.brings.row b.brings.copy.valid.row) b.brings.column) ∙ ap (λ q. q.letters r c) (sym is) ∙ g.letter)
    (λ h. absurd (both_ways _ (h.absent sl.0 sl.1) sl.2)) (at r c p) in
    inl (record {
      slot = sl.0;
      within = sl.1;
      here = sl.2;
      version = sym (slot_version s₁ sl.0) ∙ ap (λ q. q.version) (sym is) ∙ st.version;
      known = λ r c p. let b = brought r c p in record { line = b.line; among = b.among; page = b.page; version = ver b.line b.among b.page; letter = sym (letter r c p) };
      text = λ r c p m i pg known. let b = brought r c p in
          one m b.line i b.among (pg ∙ sym b.page) (ver m i pg ∙ sym (ver b.line b.among b.page)) r c known (reads_brought b.bytes b.line r c b.brings).1 ∙ sym (letter r c p);
    }))
    (λ h. inr (no_place n s s₁ ls rs ok w h)) (at r₀ c₀ p₀)

pub recovery_of_page : (s s₁ : List ℕ) (ls : List (List ℕ)) (rs : List Done) → well_formed s ≡ true → Run s ls rs s₁ → RecoveryOfPage s ls s₁
recovery_of_page s s₁ ls rs ok w sent n v come one ver brought =
    recovery s s₁ ls rs ok w sent n v whole_page come one ver (λ r c p. let b = and_parts (ltb r 25) (ltb c 40) p in brought r c (ltb-true _ _ b.0) (ltb-true _ _ b.1)) 0 0 refl
