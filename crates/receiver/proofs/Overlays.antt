-- Fragments applied to pages: order, repetition, soundness, what stands. Nothing here knows how a line is coded or how a store is laid out. Assumes nothing.
use Rattle.std.proofs.Common.{◌≡◌, ℕ, ◌<◌, true, false, ◌&&◌, eqb, ltb, List, sym, refl, ap, ◌∙◌, subst, inl, inr, arith}
use Rattle.std.proofs.lemmas.Bool.{and_parts, and_from, eq-eqb, eqb-true, ltb-true, lt-ltb, cond_both, cond-true, cond-false, cases_Bool, ne_eqb, both_ways}
use Rattle.line.specs.Line.{Fragment, meaning}
use Rattle.line.specs.Laws.{PartOf}
use Rattle.line.specs.declared.Line.{Line}
use Rattle.store.specs.Page.{Page, no_page, begun, in_version, merge, overlay, apply, ShowsSame}
use Rattle.store.proofs.Pages.{shows_refl, shows_then, shows_is}
use Rattle.receiver.specs.Broadcast.{Among, Agree, SentVersion, SentLetter}

pub version_in : (p : Page) (v : ℕ) → (in_version p v).version ≡ v
unfolding in_version begun
version_in p v = cond_both (p.there && eqb p.version v) p (begun v) (λ q. q.version ≡ v) (λ e. eqb-true _ _ (and_parts p.there _ e).1) (λ _. refl)

pub kept_in : (p : Page) (v : ℕ) → p.there ≡ true → p.version ≡ v → in_version p v ≡ p
unfolding in_version
kept_in p v t e = cond-true (p.there && eqb p.version v) p (begun v) (and_from _ _ t (eq-eqb _ _ e))

-- a page that got a fragment of a version is in that version
stays_in : (p : Page) (f : Fragment) (v : ℕ) → in_version (overlay (in_version p v) f) v ≡ overlay (in_version p v) f
unfolding overlay
stays_in p f v = kept_in (overlay (in_version p v) f) v refl (version_in p v)

merge_twice : (x z : ℕ) → merge x (merge x z) ≡ merge x z
unfolding merge
merge_twice x z = elim (cases_Bool (ltb 0 x)) [ inl e ↦ rw e refl | inr e ↦ rw e refl ]

merge_swap : (x y z : ℕ) → (0 < x → 0 < y → x ≡ y) → merge y (merge x z) ≡ merge x (merge y z)
unfolding merge
merge_swap x y z f =
    elim (cases_Bool (ltb 0 x)) [
      | inl e ↦ elim (cases_Bool (ltb 0 y)) [ inl d ↦ rw (e, d) (sym (f (ltb-true _ _ e) (ltb-true _ _ d))) | inr d ↦ rw (e, d) refl ]
      | inr e ↦ elim (cases_Bool (ltb 0 y)) [ inl d ↦ rw (e, d) refl | inr d ↦ rw (e, d) refl ]
    ]

pub own_page : (s : ℕ → Page) (f : Fragment) → apply s f f.page ≡ overlay (in_version (s f.page) f.version) f
unfolding apply
own_page s f = cond-true (eqb f.page f.page) _ _ (eq-eqb _ _ refl)

pub other_page : (s : ℕ → Page) (f : Fragment) (n : ℕ) → (f.page ≡ n → ⊥) → apply s f n ≡ s n
unfolding apply
other_page s f n ne = cond-false (eqb n f.page) _ _ (ne_eqb _ _ (λ e. ne (sym e)))

swapped : (p : Page) (f g : Fragment) → Agree f g → ShowsSame (overlay (overlay p f) g) (overlay (overlay p g) f)
unfolding overlay
swapped p f g a = record { there = refl; version = refl; letters = λ r c _ _. merge_swap (f.letters r c) (g.letters r c) (p.letters r c) (a r c) }

-- the order of two fragments doesn't matter, if they are of different pages, or of one version and agree
pub commutes : (s : ℕ → Page) (f g : Fragment) → (f.page ≡ g.page → (f.version ≡ g.version) × Agree f g) → (n : ℕ) → ShowsSame (apply (apply s f) g n) (apply (apply s g) f n)
unfolding apply
commutes s f g same n =
    elim (cases_Bool (eqb n f.page)) [
      | inl e ↦ elim (cases_Bool (eqb n g.page)) [
        | inl d ↦
            let w = same (sym (eqb-true _ _ e) ∙ eqb-true _ _ d) in
            let p = in_version (s n) f.version in
            let a : overlay (in_version (overlay p f) g.version) g ≡ overlay (overlay p f) g = ap (λ q. overlay q g) (ap (in_version (overlay p f)) (sym w.0) ∙ stays_in (s n) f f.version) in
            let b : overlay (in_version (overlay (in_version (s n) g.version) g) f.version) f ≡ overlay (overlay p g) f =
            ap (λ q. overlay q f) (ap (in_version (overlay (in_version (s n) g.version) g)) w.0 ∙ stays_in (s n) g g.version ∙ ap (λ v. overlay (in_version (s n) v) g) (sym w.0)) in
            rw (e, d) (shows_then (shows_is a) (shows_then (swapped p f g w.1) (shows_is (sym b))))
        | inr d ↦ rw (e, d) (shows_refl _)
      ]
      | inr e ↦ elim (cases_Bool (eqb n g.page)) [ inl d ↦ rw (e, d) (shows_refl _) | inr d ↦ rw (e, d) (shows_refl _) ]
    ]

-- nor does it matter how often one is applied
pub repeats : (s : ℕ → Page) (f : Fragment) (n : ℕ) → ShowsSame (apply (apply s f) f n) (apply s f n)
unfolding apply overlay
repeats s f n =
    elim (cases_Bool (eqb n f.page)) [
      | inl e ↦ rw e (shows_then (shows_is (ap (λ q. overlay q f) (stays_in (s n) f f.version))) (record { there = refl; version = refl; letters = λ r c _ _. merge_twice (f.letters r c) ((in_version (s n) f.version).letters r c) }))
      | inr e ↦ rw e (shows_refl (s n))
    ]

-- SOUNDNESS

-- a page that says nothing but what was sent of page n
pub record SoundPage (sent : List Line) (n : ℕ) (p : Page) : Type 0 where
  pub version : p.there ≡ true → SentVersion sent n p.version
  pub letters : (r c : ℕ) → 0 < p.letters r c → SentLetter sent n p.version r c (p.letters r c)

pub no_page_sound : (sent : List Line) (n : ℕ) → SoundPage sent n no_page
unfolding no_page
no_page_sound sent n = record { version = λ e. absurd (both_ways false refl e); letters = λ r c known. absurd (omega arith) }

begun_sound : (sent : List Line) (n v : ℕ) → SentVersion sent n v → SoundPage sent n (begun v)
unfolding begun
begun_sound sent n v w = record { version = λ _. w; letters = λ r c known. absurd (omega arith) }

in_version_sound : (sent : List Line) (n : ℕ) (p : Page) (v : ℕ) → SentVersion sent n v → SoundPage sent n p → SoundPage sent n (in_version p v)
unfolding in_version
in_version_sound sent n p v w h = cond_both (p.there && eqb p.version v) p (begun v) (SoundPage sent n) (λ _. h) (λ _. begun_sound sent n v w)

-- one line more: its fragment is part of what the line means
pub sound_apply : (sent : List Line) (s : ℕ → Page) (f : Fragment) (m : Line) → Among m sent → PartOf f (meaning m) → (n : ℕ) → SoundPage sent n (s n) → SoundPage sent n (apply s f n)
unfolding apply overlay merge
sound_apply sent s f m i part n h =
    cond_both (eqb n f.page) _ _ (SoundPage sent n)
    (λ e. let pg : m.page ≡ n = sym part.page ∙ sym (eqb-true _ _ e) in
    let p = in_version (s n) f.version in
    let ver : m.version ≡ p.version = sym part.version ∙ sym (version_in (s n) f.version) in
    let old : SoundPage sent n p = in_version_sound sent n (s n) f.version (record { line = m; among = i; page = pg; version = sym part.version }) h in
    record {
      version = λ _. record { line = m; among = i; page = pg; version = ver };
      letters = λ r c. cond_both (ltb 0 (f.letters r c)) _ _ (λ x. 0 < x → SentLetter sent n p.version r c x)
          (λ _ known. record { line = m; among = i; page = pg; version = ver; letter = sym (part.letters r c known) })
          (λ _. old.letters r c);
    })
    (λ _. h)

-- WHAT STANDS

-- a page is there in version v, with letter x at row r and column c
pub record Stands (v r c x : ℕ) (p : Page) : Type 0 where
  pub here : p.there ≡ true
  pub version : p.version ≡ v
  pub letter : p.letters r c ≡ x

pub shows_stands : (v r c x : ℕ) (p q : Page) → r < 25 → c < 40 → ShowsSame p q → Stands v r c x q → Stands v r c x p
shows_stands v r c x p q hr hc a h = record { here = a.there ∙ h.here; version = a.version ∙ h.version; letter = a.letters r c hr hc ∙ h.letter }

pub keeps_apply : (s : ℕ → Page) (f : Fragment) (n v r c x : ℕ) → (f.page ≡ n → f.version ≡ v) → (f.page ≡ n → 0 < f.letters r c → f.letters r c ≡ x) → Stands v r c x (s n) → Stands v r c x (apply s f n)
unfolding apply overlay merge
keeps_apply s f n v r c x ver txt h =
    cond_both (eqb n f.page) _ _ (Stands v r c x)
    (λ e. let pg : f.page ≡ n = sym (eqb-true _ _ e) in
    let same : in_version (s n) f.version ≡ s n = kept_in (s n) f.version h.here (h.version ∙ sym (ver pg)) in
    record {
      here = refl;
      version = ap (λ p. p.version) same ∙ h.version;
      letter = cond_both (ltb 0 (f.letters r c)) _ _ (λ q. q ≡ x) (λ known. txt pg (ltb-true _ _ known)) (λ _. ap (λ p. p.letters r c) same ∙ h.letter);
    })
    (λ _. h)

pub sets_apply : (s : ℕ → Page) (f : Fragment) (n v r c x : ℕ) → f.page ≡ n → f.version ≡ v → f.letters r c ≡ x → 0 < x → Stands v r c x (apply s f n)
unfolding apply overlay merge
sets_apply s f n v r c x pg ver txt known =
    subst (Stands v r c x) (sym (cond-true (eqb n f.page) _ (s n) (eq-eqb _ _ (sym pg))))
    (record { here = refl; version = version_in (s n) f.version ∙ ver; letter = cond-true (ltb 0 (f.letters r c)) _ _ (subst (λ y. ltb 0 y ≡ true) (sym txt) (lt-ltb _ _ known)) ∙ txt })
