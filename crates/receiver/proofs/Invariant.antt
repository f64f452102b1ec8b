-- Soundness: a store that says nothing but what was sent goes on to. Assumes nothing.
use Rattle.std.proofs.Common.{◌≡◌, ℕ, ◌<◌, true, ◌&&◌, ltb, ◌⊎◌, List, length, sym, ap, ◌∙◌, subst, ⊎_elim, arith}
use Rattle.std.proofs.lemmas.Bool.{and_parts, ltb-true, cond_both}
use Rattle.line.specs.Reading.{fragment}
use Rattle.line.specs.declared.Line.{Line}
use Rattle.store.specs.Page.{Page, ShowsSame}
use Rattle.store.specs.Layout.{slots, version_at, letter_at, holds, well_formed, slot_page, page_in}
use Rattle.store.proofs.Formed.{holds_parts}
use Rattle.store.proofs.Pages.{page_held, page_absent, slot_there, slot_version, slot_letter, slot_cases}
use Rattle.receiver.specs.Broadcast.{here, there, OneText, CopyOfSent, WhatComes, SentVersion, SentLetter}
use Rattle.receiver.specs.Runs.{Run, end, step, SoundSlot, Sound, EveryLetter}
use Rattle.receiver.specs.Promises.{Soundness}
use Rattle.receiver.specs.declared.entry.Done.{Done}
use Rattle.receiver.proofs.Overlays.{SoundPage, no_page_sound, sound_apply}
use Rattle.receiver.proofs.Steps.{Step, useless, no_room, applied, stepped, still_formed, copied, copy_part}

-- a slot's bytes and its page say the same
slot_page_sound : (sent : List Line) (s : List ℕ) (i n : ℕ) → SoundSlot sent s i n → SoundPage sent n (slot_page s i)
unfolding slot_page
slot_page_sound sent s i n w = record {
  version = λ _. w.version;
  letters = λ r c. cond_both (ltb r 25 && ltb c 40) (letter_at s i r c) 0 (λ x. 0 < x → SentLetter sent n (version_at s i) r c x)
      (λ e known. let b = and_parts (ltb r 25) (ltb c 40) e in w.letters r c (ltb-true _ _ b.0) (ltb-true _ _ b.1) known)
      (λ _ known. absurd (omega arith));
}

pub pages_sound : (sent : List Line) (s : List ℕ) → well_formed s ≡ true → Sound sent s → (n : ℕ) → SoundPage sent n (page_in s n)
pages_sound sent s ok h n =
    ⊎_elim (λ w. subst (SoundPage sent n) (sym (page_held s n w.0 ok w.1 w.2)) (slot_page_sound sent s w.0 n (h w.0 n w.1 w.2)))
    (λ f. subst (SoundPage sent n) (sym (page_absent s n f)) (no_page_sound sent n)) (slot_cases s n)

slot_sound : (sent : List Line) (s : List ℕ) (i n : ℕ) (q : Page) → well_formed s ≡ true → i < slots s → holds s n i ≡ true → ShowsSame (page_in s n) q → SoundPage sent n q → SoundSlot sent s i n
slot_sound sent s i n q ok h e a w =
    let is = page_held s n i ok h e in
    let v : q.version ≡ version_at s i = sym a.version ∙ ap (λ p. p.version) is ∙ slot_version s i in
    record {
      version = subst (SentVersion sent n) v (w.version (sym a.there ∙ ap (λ p. p.there) is ∙ slot_there s i));
      letters = λ r c hr hc known.
          let x : q.letters r c ≡ letter_at s i r c = sym (a.letters r c hr hc) ∙ ap (λ p. p.letters r c) is ∙ slot_letter s i r c hr hc in
          subst (λ y. SentLetter sent n (version_at s i) r c y) x (subst (λ y. SentLetter sent n y r c (q.letters r c)) v (w.letters r c (subst (λ y. 0 < y) (sym x) known)));
    }

pub sound_step : (sent : List Line) (l s s₁ : List ℕ) → well_formed s ≡ true → (length l ≡ 46 → ⊥) ⊎ CopyOfSent sent l → Step l s s₁ → Sound sent s → Sound sent s₁
sound_step sent l s s₁ ok come (useless g e) h = subst (Sound sent) (sym e) h
sound_step sent l s s₁ ok come (no_room g w e) h = subst (Sound sent) (sym e) h
sound_step sent l s s₁ ok come (applied g w) h = λ i n hi e.
    let a = copied sent l g come in
    slot_sound sent s₁ i n _ w.formed hi e (w.pages n) (sound_apply sent (page_in s) (fragment l) a.line a.among (copy_part sent l g a) n (pages_sound sent s ok h n))

pub sound_run : (sent : List Line) (s s₁ : List ℕ) (ls : List (List ℕ)) (rs : List Done) → well_formed s ≡ true → WhatComes sent ls → Run s ls rs s₁ → Sound sent s → Sound sent s₁
sound_run sent _ _ _ _ ok come (end s) h = h
sound_run sent _ _ _ _ ok come (step s l s₁ s₂ r ls rs a w) h =
    let x = stepped l s s₁ r ok a in
    sound_run sent s₁ s₂ ls rs (still_formed x ok) (λ k i. come k (there l ls i)) w (sound_step sent l s s₁ ok (come l (here ls)) x h)

-- as a version has one text, a letter that was sent is that of every line for its place
every_letter : (sent : List Line) (s : List ℕ) → OneText sent → Sound sent s → EveryLetter sent s
every_letter sent s one h i n r c hi e hr hc known m among pg ver said =
    let x = (h i n hi e).letters r c hr hc known in
    one m x.line among x.among (pg ∙ sym x.page) (ver ∙ sym x.version) r c said (subst (λ y. 0 < y) (sym x.letter) known) ∙ x.letter

pub soundness : (s s₁ : List ℕ) (ls : List (List ℕ)) (rs : List Done) → well_formed s ≡ true → Run s ls rs s₁ → Soundness s ls s₁
soundness s s₁ ls rs ok w sent come one none =
    let start : Sound sent s = λ i n hi e. absurd (omega (arith, none i hi, (holds_parts s n i e).0)) in
    let h = sound_run sent s s₁ ls rs ok come w start in
    (h, every_letter sent s₁ one h)
