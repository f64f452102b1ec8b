-- What a page shows depends on which of its lines came, and on nothing else. Assumes nothing.
use Rattle.std.proofs.Common.{◌≡◌, ℕ, ◌<◌, ◌≤◌, true, eqb, ltb, ◌⊎◌, List, [], ◌∷◌, sym, refl, ap, ◌∙◌, subst, inl, inr, ⊎_elim, arith}
use Rattle.std.proofs.lemmas.Bool.{cases_eq, cases_lt, cases_Bool, both_ways, cond-true, cond-false, le-ltb, eq-eqb}
use Rattle.line.specs.Line.{Fragment}
use Rattle.line.specs.Reading.{page_of, version_of, letters_of, readable, fragment}
use Rattle.line.specs.declared.Line.{Line}
use Rattle.store.specs.Page.{Page, in_version, merge, overlay, apply, ShowsSame}
use Rattle.store.specs.Layout.{well_formed, page_in}
use Rattle.store.specs.Slots.{NoRoom}
use Rattle.store.proofs.Pages.{shows_refl, shows_sym, shows_then, shows_is, there_slot}
use Rattle.receiver.specs.Broadcast.{Among, here, there, Agree, OneText, CopyOfSent, WhatComes, OneVersion}
use Rattle.receiver.specs.Runs.{Run, end, step}
use Rattle.receiver.specs.Promises.{PageDependence}
use Rattle.receiver.specs.declared.entry.Done.{Done}
use Rattle.receiver.proofs.Overlays.{Stands, version_in, other_page}
use Rattle.receiver.proofs.Steps.{Step, useless, no_room, applied, stepped, still_formed, copied, copy_part, full_run}
use Rattle.receiver.proofs.Recovering.{Keeps, keeps_run, sets_step, given_run, no_place}
use Rattle.receiver.proofs.Bytes.{shows_in_version}
use Rattle.receiver.proofs.Orders.{copies_agree}

-- a line of page n that can be made out
pub record Of (n : ℕ) (l : List ℕ) : Type 0 where
  pub readable : readable l ≡ true
  pub page : page_of l ≡ n

of_cases : (n : ℕ) (l : List ℕ) → Of n l ⊎ (Of n l → ⊥)
of_cases n l =
    ⊎_elim (λ g. ⊎_elim (λ e. inl (record { readable = g; page = e })) (λ ne. inr (λ o. ne o.page)) (cases_eq (page_of l) n)) (λ g. inr (λ o. both_ways _ g o.readable)) (cases_Bool (readable l))

-- the lines of page n among these are of version v and agree
pub record Coherent (n v : ℕ) (ls : List (List ℕ)) : Type 0 where
  pub version : (l : List ℕ) → Among l ls → Of n l → version_of l ≡ v
  pub agree : (k l : List ℕ) → Among k ls → Among l ls → Of n k → Of n l → Agree (fragment k) (fragment l)

pub coherent : (sent : List Line) (ls : List (List ℕ)) (n v : ℕ) → OneText sent → OneVersion sent n v → WhatComes sent ls → Coherent n v ls
coherent sent ls n v one ver come =
    let from : (l : List ℕ) → Among l ls → Of n l → CopyOfSent sent l = λ l i o. copied sent l o.readable (come l i) in
    let page : (l : List ℕ) (i : Among l ls) (o : Of n l) → (from l i o).line.page ≡ n = λ l i o. sym (copy_part sent l o.readable (from l i o)).page ∙ o.page in
    record {
      version = λ l i o. let a = from l i o in (copy_part sent l o.readable a).version ∙ ver a.line a.among (page l i o);
      agree = λ k l i j o p. let a = from k i o in let b = from l j p in
          copies_agree a.line b.line k l a.copy b.copy o.readable p.readable
          (one a.line b.line a.among b.among (page k i o ∙ sym (page l j p)) (ver a.line a.among (page k i o) ∙ sym (ver b.line b.among (page l j p))));
    }

-- some line has a property, or none
some : (P : List ℕ → Type 0) → ((l : List ℕ) → P l ⊎ (P l → ⊥)) → (ls : List (List ℕ)) → ((l : List ℕ) × Among l ls × P l) ⊎ ((l : List ℕ) → Among l ls → P l → ⊥)
some P dec [] = inr (λ l i p. elim i [ ])
some P dec (k ∷ ls) =
    ⊎_elim (λ p. inl (k, here ls, p)) (λ np. ⊎_elim (λ w. inl (w.0, there k ls w.1, w.2)) (λ f. inr (none_of k ls np f)) (some P dec ls)) (dec k)
  where
    none_of : (k : List ℕ) (ls : List (List ℕ)) → (P k → ⊥) → ((l : List ℕ) → Among l ls → P l → ⊥) → (l : List ℕ) → Among l (k ∷ ls) → P l → ⊥
    none_of k ls np f _ (here _) p = np p
    none_of k ls np f l (there _ _ i) p = f l i p

-- a line of another page, or one that is of no use, leaves the page
unmoved : (l s s₁ : List ℕ) (n : ℕ) → (Of n l → ⊥) → Step l s s₁ → ShowsSame (page_in s₁ n) (page_in s n)
unmoved l s s₁ n out (useless g e) = shows_is (ap (λ t. page_in t n) e)
unmoved l s s₁ n out (no_room g w e) = shows_is (ap (λ t. page_in t n) e)
unmoved l s s₁ n out (applied g w) = shows_then (w.pages n) (shows_is (other_page (page_in s) (fragment l) n (λ pg. out (record { readable = g; page = pg }))))

none_run : (n : ℕ) (s s₁ : List ℕ) (ls : List (List ℕ)) (rs : List Done) → well_formed s ≡ true → ((l : List ℕ) → Among l ls → Of n l → ⊥) → Run s ls rs s₁ → ShowsSame (page_in s₁ n) (page_in s n)
none_run n _ _ _ _ ok f (end s) = shows_refl (page_in s n)
none_run n _ _ _ _ ok f (step s l s₁ s₂ q ls rs a w) =
    let t = stepped l s s₁ q ok a in shows_then (none_run n s₁ s₂ ls rs (still_formed t ok) (λ k i. f k (there l ls i)) w) (unmoved l s s₁ n (f l (here ls)) t)

-- a fragment that has no letter at a place leaves what the page in its version has there
quiet_apply : (s : ℕ → Page) (f : Fragment) (n v r c x : ℕ) → f.page ≡ n → f.version ≡ v → (0 < f.letters r c → ⊥) → (in_version (s n) v).letters r c ≡ x → Stands v r c x (apply s f n)
unfolding apply overlay merge
quiet_apply s f n v r c x pg ver low is =
    subst (Stands v r c x) (sym (cond-true (eqb n f.page) _ (s n) (eq-eqb _ _ (sym pg))))
    (record { here = refl; version = version_in (s n) f.version ∙ ver; letter = cond-false (ltb 0 (f.letters r c)) _ _ (le-ltb 0 (f.letters r c) (not_above (f.letters r c) low)) ∙ ap (λ w. (in_version (s n) w).letters r c) ver ∙ is })
  where
    not_above : (y : ℕ) → (0 < y → ⊥) → y ≤ 0
    not_above y none = ⊎_elim (λ lt. absurd (none lt)) (λ le. le) (cases_lt 0 y)

module _ (n v r c x : ℕ) (hr : r < 25) (hc : c < 40) where
  -- no line has a letter there, and one is of the page: what the page in its version had stays
  quiet_run : (b : List ℕ) → Of n b → (s s₁ : List ℕ) (ls : List (List ℕ)) (rs : List Done) → well_formed s ≡ true → ((l : List ℕ) → Among l ls → Of n l → (version_of l ≡ v) × (0 < letters_of l r c → ⊥)) → (in_version (page_in s n) v).letters r c ≡ x → Run s ls rs s₁ → Among b ls → Stands v r c x (page_in s₁ n) ⊎ NoRoom s₁ n
  quiet_run b o _ _ _ _ ok f is (end s) i = elim i [ ]
  quiet_run b o _ _ _ _ ok f is (step s l s₁ s₂ q ls rs a w) i =
      let t = stepped l s s₁ q ok a in
      let rest : (k : List ℕ) → Among k ls → Of n k → (version_of k ≡ v) × (0 < letters_of k r c → ⊥) = λ k j. f k (there l ls j) in
      ⊎_elim
      (λ ol. let x₁ = f l (here ls) ol in
      ⊎_elim (λ h. inl (keeps_run n v r c x hr hc s₁ s₂ ls rs (still_formed t ok) (λ k j g pg. let y = rest k j (record { readable = g; page = pg }) in (y.0, λ known. absurd (y.1 known))) w h)) (λ h. inr (full_run n s₁ s₂ ls rs (still_formed t ok) w h))
      (sets_step n v r c x hr hc l s s₁ ol.readable ol.page (quiet_apply (page_in s) (fragment l) n v r c x ol.page x₁.0 x₁.1 is) t))
      (λ nl. quiet_run b o s₁ s₂ ls rs (still_formed t ok) rest ((shows_in_version _ _ v (unmoved l s s₁ n nl t)).letters r c hr hc ∙ is) w (not_here b l ls o nl i))
      (of_cases n l)
    where
      not_here : (b l : List ℕ) (ls : List (List ℕ)) → Of n b → (Of n l → ⊥) → Among b (l ∷ ls) → Among b ls
      not_here b _ ls o nl (here _) = absurd (nl o)
      not_here b l ls o nl (there _ _ i) = i

-- one place of the page, after two runs
record Both (v r c : ℕ) (p q : Page) : Type 0 where
  letter : ℕ
  left : Stands v r c letter p
  right : Stands v r c letter q

module _ (n v : ℕ) (s t s₁ t₁ : List ℕ) (ls ks : List (List ℕ)) (ps qs : List Done) (oks : well_formed s ≡ true) (okt : well_formed t ≡ true) (cl : Coherent n v ls) (ck : Coherent n v ks)
    (same : (l : List ℕ) → Of n l → (Among l ls → Among l ks) × (Among l ks → Among l ls)) (alike : ShowsSame (page_in s n) (page_in t n)) (w : Run s ls ps s₁) (u : Run t ks qs t₁) where
  at_place : (b : List ℕ) → Of n b → Among b ls → (r c : ℕ) → r < 25 → c < 40 → Both v r c (page_in s₁ n) (page_in t₁ n) ⊎ (NoRoom s₁ n ⊎ NoRoom t₁ n)
  at_place b o i r c hr hc =
      ⊎_elim
      (λ g. let l = g.0 in let il = g.1 in let ol = g.2.0 in let known = g.2.1 in
      let jl = (same l ol).0 il in
      join r c (letters_of l r c)
      (given_run n v r c (letters_of l r c) hr hc l ol.readable ol.page (cl.version l il ol) refl known s s₁ ls ps oks (keeps_all ls cl l il ol known) w il)
      (given_run n v r c (letters_of l r c) hr hc l ol.readable ol.page (cl.version l il ol) refl known t t₁ ks qs okt (keeps_all ks ck l jl ol known) u jl))
      (λ f. join r c ((in_version (page_in s n) v).letters r c)
      (quiet_run n v r c ((in_version (page_in s n) v).letters r c) hr hc b o s s₁ ls ps oks (λ l il ol. (cl.version l il ol, λ known. f l il (ol, known))) refl w i)
      (quiet_run n v r c ((in_version (page_in s n) v).letters r c) hr hc b o t t₁ ks qs okt (λ l il ol. (ck.version l il ol, λ known. f l ((same l ol).1 il) (ol, known))) (sym ((shows_in_version _ _ v alike).letters r c hr hc)) u ((same b o).0 i)))
      (some (λ l. Of n l × (0 < letters_of l r c)) decide ls)
    where
      keeps_all : (xs : List (List ℕ)) → Coherent n v xs → (l : List ℕ) → Among l xs → Of n l → 0 < letters_of l r c → (k : List ℕ) → Among k xs → Keeps n v r c (letters_of l r c) hr hc k
      keeps_all xs co l il ol known k ik g pg = let ok₁ : Of n k = record { readable = g; page = pg } in (co.version k ik ok₁, λ bk. co.agree k l ik il ok₁ ol r c bk known)

      join : (r c x : ℕ) → Stands v r c x (page_in s₁ n) ⊎ NoRoom s₁ n → Stands v r c x (page_in t₁ n) ⊎ NoRoom t₁ n → Both v r c (page_in s₁ n) (page_in t₁ n) ⊎ (NoRoom s₁ n ⊎ NoRoom t₁ n)
      join r c x a b = ⊎_elim (λ p. ⊎_elim (λ q. inl (record { letter = x; left = p; right = q })) (λ q. inr (inr q)) b) (λ p. inr (inl p)) a

      decide : (l : List ℕ) → (Of n l × (0 < letters_of l r c)) ⊎ (Of n l × (0 < letters_of l r c) → ⊥)
      decide l = ⊎_elim (λ o₁. ⊎_elim (λ lt. inl (o₁, lt)) (λ le. inr (λ p. absurd (omega (arith, p.1)))) (cases_lt 0 (letters_of l r c))) (λ no₁. inr (λ p. no₁ p.0)) (of_cases n l)

  pub shown_same : ShowsSame (page_in s₁ n) (page_in t₁ n) ⊎ (NoRoom s₁ n ⊎ NoRoom t₁ n)
  shown_same =
      ⊎_elim
      (λ b. let at = at_place b.0 b.2 b.1 in
      ⊎_elim
      (λ z. let x = there_slot s₁ n z.left.here in let y = there_slot t₁ n z.right.here in
      inl (record {
        there = z.left.here ∙ sym z.right.here;
        version = z.left.version ∙ sym z.right.version;
        letters = λ r c hr hc.
            ⊎_elim (λ p. p.left.letter ∙ sym p.right.letter)
            (λ full. absurd (⊎_elim (λ h. both_ways _ (h.absent x.0 x.1) x.2) (λ h. both_ways _ (h.absent y.0 y.1) y.2) full)) (at r c hr hc);
      }))
      (λ full. inr full) (at 0 0 (omega arith) (omega arith)))
      (λ f. inl (shows_then (none_run n s s₁ ls ps oks f w) (shows_then alike (shows_sym (none_run n t t₁ ks qs okt (λ l i o. f l ((same l o).1 i) o) u)))))
      (some (Of n) (of_cases n) ls)

pub page_dependence : PageDependence
page_dependence sent s t s₁ t₁ ls ks ps qs n v oks okt one ver cl ck same alike w u =
    ⊎_elim (λ a. inl a) (λ full. inr (⊎_elim (λ h. inl (no_place n s s₁ ls ps oks w h)) (λ h. inr (no_place n t t₁ ks qs okt u h)) full))
    (shown_same n v s t s₁ t₁ ls ks ps qs oks okt (coherent sent ls n v one ver cl) (coherent sent ks n v one ver ck) (λ l o. same l o.readable o.page) alike w u)
