-- Tests of each item of an iterator, by its place, and of each slot of a store. Assumes nothing.
use Rattle.std.proofs.Common.{◌≡◌, ℕ, zero, suc, ◌+◌, ◌*◌, ◌/◌, ◌<◌, ◌≤◌, Bool, true, false, ◌⊎◌, List, [], ◌∷◌, length, get_or, take, drop, eqb, Option, Some, None, Decides, Bor, IfSome, IsSomeAnd, IsTrue, inl, inr, sym, refl, ap, ◌∙◌, subst, ⊎_elim, arith}
use Rattle.std.specs.Prelude.{option_map, slice_get}
use Rattle.std.specs.List.{starts_with}
use Rattle.std.proofs.lemmas.List.{get_or-take, get_or-drop}
use Rattle.store.specs.Layout.{slot_bytes, mark_at, holds}
use Rattle.store.proofs.Formed.{holds_from, holds_parts}
use Rattle.std.proofs.lemmas.Slice.Eq.{starts_is}
use Rattle.std.specs.Bool.{MatchBool}
use Rattle.std.specs.Fn.{Called}
use Rattle.std.specs.Iterator.Runs.{YieldsRun, Run, SomeRun, EveryRun, EachRunFrom, AllItemsGive, AnyItemGives, CallKeepsClosure, IsChunksExactRun, IsZipRun}
use Rattle.std.specs.Iterator.Adapters.{zip_steps, IterYieldsInOrder}
use Rattle.std.specs.Slice.Iter.{iter_rest, iter_steps, chunks_exact_rest, chunks_exact_size, chunks_exact_steps}
use Rattle.std.specs.declared.slice.ChunksExact.{ChunksExact}
use Rattle.std.specs.declared.iter.Zip.{Zip}
use Rattle.std.specs.declared.slice.Iter.{Iter}
use Rattle.std.proofs.lemmas.Bool.{both_ways, cases_Bool}
use Rattle.std.proofs.lemmas.Bool.Decides.{Decides-eqb, Decides-like}
use Rattle.trials.specs.Same.{OthersSame}
use denote.Param.Members.{Mut}

got : {A : Type 0} (xs : List A) (k : ℕ) → k < length xs → (y : A) × (slice_get xs k ≡ Some y)
got [] k h = absurd (omega (arith, h))
got (x ∷ xs) zero h = (x, refl)
got (x ∷ xs) (suc k) h = got xs k (omega (arith, h))

-- what is known of the item at a place
at_item : {A : Type 0} (P : A → Type 0) (o : Option A) (y : A) → o ≡ Some y → IfSome o P → P y
at_item P o y e h = subst (λ o. IfSome o P) e h

from_item : {A : Type 0} (P : A → Type 0) (o : Option A) → IsSomeAnd o P → (y : A) × (o ≡ Some y) × P y
from_item P None h = absurd h
from_item P (Some y) h = (y, refl, h)

if_more : {A : Type 0} (P Q : A → Type 0) (o : Option A) → ((x : A) → P x → Q x) → IfSome o P → IfSome o Q
if_more P Q None f h = h
if_more P Q (Some x) f h = f x h

if_each : {A : Type 0} (Q : A → Type 0) (o : Option A) → ((x : A) → o ≡ Some x → Q x) → IfSome o Q
if_each Q None f = tt
if_each Q (Some x) f = f x refl

module _ {S A F : Type 0} (steps : S → Option A → S → Type 0) (g : Mut F (A × Unit {0}) Bool) (f : F) (s : S) (n : ℕ) (P : ℕ → Type 0) where
  -- a run from s has at most n items, as many where it is whole, and what a call answers at an item decides whether P holds of its place
  pub record Places : Type 0 where
    pub stays : CallKeepsClosure g f
    pub few : (p : Run steps) → p.from ≡ s → p.len ≤ n
    pub whole : (p : Run steps) → p.from ≡ s → p.whole ≡ true → p.len ≡ n
    pub tells : (p : Run steps) → p.from ≡ s → (k : ℕ) → IfSome (p.at k) (λ x. (b : Bool) (q : F) → Called g f (x, tt) b q → Decides b (P k))

  item : (p : Run steps) (k : ℕ) → k < p.len → (y : A) × (p.at k ≡ Some y)
  unfolding YieldsRun
  item p k h = let it = got p.items k (omega (arith, h, p.long)) in (it.0, p.gave.1 k ∙ it.1)

  told_at : Places → (p : Run steps) → p.from ≡ s → (k : ℕ) (x : A) → p.at k ≡ Some x → (b : Bool) → Called g f (x, tt) b f → Decides b (P k)
  told_at w p e k x at b call = at_item (λ x. (b : Bool) (q : F) → Called g f (x, tt) b q → Decides b (P k)) (p.at k) x at (w.tells p e k) b f call

  told_all : Places → (p : Run steps) → p.from ≡ s → IsTrue p.whole → (r : Bool) → AllItemsGive p g f r → (k : ℕ) → k < n → Decides r (P k)
  told_all w p e all r gives k h =
      let len = w.whole p e all in
      let it = item p k (omega (arith, h, len)) in
      told_at w p e k it.0 it.1 r (at_item (λ x. Called g f (x, tt) r f) (p.at k) it.0 it.1 (gives w.stays k))

  told_any : Places → (p : Run steps) → p.from ≡ s → (r : Bool) → AnyItemGives p g f r → (k : ℕ) × (k < n) × Decides r (P k)
  told_any w p e r gives =
      let any = gives w.stays in
      let it = from_item (λ x. Called g f (x, tt) r f) (p.at any.0) any.2 in
      let few = w.few p e in
      (any.0, omega (arith, any.1, few), told_at w p e any.0 it.0 it.1 r it.2)

  pub all_places : Places → (r : Bool) → SomeRun steps s (λ p. MatchBool r (IsTrue p.whole × AllItemsGive p g f true) (AnyItemGives p g f false)) → Decides r ((k : ℕ) → k < n → P k)
  all_places w true run = (λ _ k h. (told_all w run.0 run.1 run.2.0 true run.2.1 k h).0 refl, λ _. refl)
  all_places w false run = let any = told_any w run.0 run.1 false run.2 in (λ e. absurd (both_ways false refl e), λ each. any.2.1 (each any.0 any.1))

  pub any_places : Places → (r : Bool) → SomeRun steps s (λ p. MatchBool r (AnyItemGives p g f true) (IsTrue p.whole × AllItemsGive p g f false)) → Decides r ((k : ℕ) × (k < n) × P k)
  any_places w true run = let any = told_any w run.0 run.1 true run.2 in (λ _. (any.0, any.1, any.2.0 refl), λ _. refl)
  any_places w false run = (λ e. absurd (both_ways false refl e), λ found. (told_all w run.0 run.1 run.2.0 false run.2.1 found.0 found.1).1 found.2)

-- the parts of 1003 bytes of a store are its slots
abbrev pub Cuts : ChunksExact ℕ → Type 0
Cuts s = EveryRun (chunks_exact_steps {A = ℕ}) (λ p. 0 < chunks_exact_size p.from → IsChunksExactRun p (chunks_exact_size p.from) (chunks_exact_rest p.from))

cut : (s : ChunksExact ℕ) (xs : List ℕ) → Cuts s → chunks_exact_rest s ≡ xs → chunks_exact_size s ≡ 1003 → (p : Run (chunks_exact_steps {A = ℕ})) → p.from ≡ s → IsChunksExactRun p 1003 xs
cut s xs runs rest size p e =
    subst (λ ys. IsChunksExactRun p 1003 ys) (ap chunks_exact_rest e ∙ rest)
    (subst (λ m. IsChunksExactRun p m (chunks_exact_rest p.from)) (ap chunks_exact_size e ∙ size) (runs p p.seen (let m : chunks_exact_size p.from ≡ 1003 = ap chunks_exact_size e ∙ size in omega (arith, m))))

cut_few : (s : ChunksExact ℕ) (xs : List ℕ) → Cuts s → chunks_exact_rest s ≡ xs → chunks_exact_size s ≡ 1003 → (p : Run (chunks_exact_steps {A = ℕ})) → p.from ≡ s → p.len ≤ length xs / 1003
cut_few s xs runs rest size p e = let h = (cut s xs runs rest size p e).0 in omega (arith, h)

cut_slot : (s : ChunksExact ℕ) (xs : List ℕ) → Cuts s → chunks_exact_rest s ≡ xs → chunks_exact_size s ≡ 1003 → (p : Run (chunks_exact_steps {A = ℕ})) → p.from ≡ s → (k : ℕ) →
    IfSome (p.at k) (λ x. (length x.now ≡ 1003) × (x.now ≡ slot_bytes xs k))
cut_slot s xs runs rest size p e k =
    let turned : k * 1003 ≡ 1003 * k = omega arith in
    if_more _ _ (p.at k) (λ x h. (h.0, h.2.0 ∙ ap (λ j. take 1003 (drop j xs)) turned)) ((cut s xs runs rest size p e).2 k)

module _ {F : Type 0} (g : Mut F (Bor (List ℕ) × Unit {0}) Bool) (f : F) (s : ChunksExact ℕ) (xs : List ℕ) (Q : List ℕ → Type 0) where
  -- a test of each slot
  pub slot_places : Cuts s → chunks_exact_rest s ≡ xs → chunks_exact_size s ≡ 1003 →
      CallKeepsClosure g f → ((x : Bor (List ℕ)) (b : Bool) (q : F) → Called g f (x, tt) b q → length x.now ≡ 1003 → Decides b (Q x.now)) →
      Places (chunks_exact_steps {A = ℕ}) g f s (length xs / 1003) (λ k. Q (slot_bytes xs k))
  slot_places runs rest size stays tells = record {
    stays = stays;
    few = cut_few s xs runs rest size;
    whole = λ p e. (cut s xs runs rest size p e).1;
    tells = λ p e k.
        if_more _ _ (p.at k) (λ x h b q call. Decides-like b (subst Q h.1) (subst Q (sym h.1)) (tells x b q call h.0)) (cut_slot s xs runs rest size p e k);
  }

module _ {F : Type 0} (g : Mut F ((Bor (List ℕ) × Bor (List ℕ)) × Unit {0}) Bool) (f : F) (z : Zip (ChunksExact ℕ) (ChunksExact ℕ)) (s t : ChunksExact ℕ) (xs ys : List ℕ) (Q : List ℕ → List ℕ → Type 0) where
  abbrev ZipSteps : Zip (ChunksExact ℕ) (ChunksExact ℕ) → Option (Bor (List ℕ) × Bor (List ℕ)) → Zip (ChunksExact ℕ) (ChunksExact ℕ) → Type 0
  ZipSteps = zip_steps (chunks_exact_steps {A = ℕ}) (chunks_exact_steps {A = ℕ})

  -- a test of the slots of two stores side by side
  pub pair_places : EachRunFrom ZipSteps z (λ p. SomeRun (chunks_exact_steps {A = ℕ}) s (λ u. SomeRun (chunks_exact_steps {A = ℕ}) t (λ v. IsZipRun p u v))) →
      Cuts s → chunks_exact_rest s ≡ xs → chunks_exact_size s ≡ 1003 →
      Cuts t → chunks_exact_rest t ≡ ys → chunks_exact_size t ≡ 1003 → length xs ≡ length ys →
      CallKeepsClosure g f →
      ((x : Bor (List ℕ) × Bor (List ℕ)) (b : Bool) (q : F) → Called g f (x, tt) b q → length x.1.now ≡ 1003 → Decides b (Q x.0.now x.1.now)) →
      Places ZipSteps g f z (length ys / 1003) (λ k. Q (slot_bytes xs k) (slot_bytes ys k))
  pair_places zips a rest size b rest₁ size₁ long stays tells = record {
    stays = stays;
    few = λ p e.
        let w = zips p p.seen e in
        let less = cut_few t ys b rest₁ size₁ w.2.0 w.2.1 in
        let same = w.2.2.1.0 in
        omega (arith, less, same);
    whole = λ p e all.
        let w = zips p p.seen e in
        let one = w.2.2.0.0 in
        let two = w.2.2.1.0 in
        ⊎_elim (λ h. let full = (cut s xs a rest size w.0 w.1).1 h in omega (arith, full, one, long)) (λ h. let full = (cut t ys b rest₁ size₁ w.2.0 w.2.1).1 h in omega (arith, full, two)) (w.2.2.2 all);
    tells = λ p e k. if_each _ (p.at k) (λ x at q r call.
        let w = zips p p.seen e in
        let left = at_item (λ y. (length y.now ≡ 1003) × (y.now ≡ slot_bytes xs k)) (w.0.at k) x.0 (w.2.2.0.2 k ∙ ap (option_map (λ y. y.0)) at) (cut_slot s xs a rest size w.0 w.1 k) in
        let right = at_item (λ y. (length y.now ≡ 1003) × (y.now ≡ slot_bytes ys k)) (w.2.0.at k) x.1 (w.2.2.1.2 k ∙ ap (option_map (λ y. y.1)) at) (cut_slot t ys b rest₁ size₁ w.2.0 w.2.1 k) in
        Decides-like q (λ h. subst (λ y. Q y (slot_bytes ys k)) left.1 (subst (λ y. Q x.0.now y) right.1 h))
        (λ h. subst (λ y. Q x.0.now y) (sym right.1) (subst (λ y. Q y (slot_bytes ys k)) (sym left.1) h))
        (tells x q r call right.0));
  }

-- a byte of a slot
pub slot_byte : (s : List ℕ) (i j : ℕ) → j < 1003 → get_or (slot_bytes s i) j 0 ≡ get_or s (1003 * i + j) 0
slot_byte s i j h = get_or-take 1003 (drop (1003 * i) s) j 0 h ∙ get_or-drop (1003 * i) s j 0

pub slot_mark : (s : List ℕ) (i : ℕ) → get_or (slot_bytes s i) 0 0 ≡ mark_at s i
slot_mark s i = let at : 1003 * i + 0 ≡ 1003 * i = omega arith in slot_byte s i 0 (omega arith) ∙ ap (λ k. get_or s k 0) at

-- the first bytes of a slot, by `starts_with`
pub one_first : (t : List ℕ) (a : ℕ) (r : Bool) → 1 ≤ length t → r ≡ starts_with eqb t (a ∷ []) → Decides r (get_or t 0 0 ≡ a)
one_first [] a r h e = absurd (omega (arith, h))
one_first (x ∷ t) a r h e = let w = starts_is Decides-eqb (x ∷ t) (a ∷ []) r e in (λ k. ap (λ (s : List ℕ). get_or s 0 0) (w.0 k), λ k. w.1 t (ap (λ z. z ∷ t) k))

pub two_first : (t : List ℕ) (a b : ℕ) (r : Bool) → 2 ≤ length t → r ≡ starts_with eqb t (a ∷ b ∷ []) → Decides r ((get_or t 0 0 ≡ a) × (get_or t 1 0 ≡ b))
two_first [] a b r h e = absurd (omega (arith, h))
two_first (x ∷ []) a b r h e = absurd (omega (arith, h))
two_first (x ∷ y ∷ t) a b r h e =
    let w = starts_is Decides-eqb (x ∷ y ∷ t) (a ∷ b ∷ []) r e in
    (λ k. (ap (λ (s : List ℕ). get_or s 0 0) (w.0 k), ap (λ (s : List ℕ). get_or s 1 0) (w.0 k)), λ k. w.1 t (ap (λ z. z ∷ y ∷ t) k.0 ∙ ap (λ z. a ∷ z ∷ t) k.1))

-- each slot that doesn't hold a page, beside what it was
pub others_same : (s t : List ℕ) (n : ℕ) (r : Bool) → length s ≡ length t → Decides r ((k : ℕ) → k < length t / 1003 → ((get_or (slot_bytes t k) 0 0 ≡ 1) × (get_or (slot_bytes t k) 1 0 ≡ n)) ⊎ (slot_bytes s k ≡ slot_bytes t k)) → Decides r (OthersSame s t n)
others_same s t n r long =
    Decides-like r
    (λ f. record {
      long = long;
      slots = λ i h off. ⊎_elim (λ own. absurd (both_ways (holds t n i) off (holds_from t n i (sym (slot_mark t i) ∙ own.0) (sym (slot_byte t i 1 (omega arith)) ∙ own.1)))) (λ e. e) (f i h);
    })
    (λ w k h. ⊎_elim (λ own. let parts = holds_parts t n k own in inl (slot_mark t k ∙ parts.0, slot_byte t k 1 (omega arith) ∙ parts.1)) (λ off. inr (w.slots k h off)) (cases_Bool (holds t n k)))

-- a test of each byte of a slice
module _ {F : Type 0} (g : Mut F (Bor ℕ × Unit {0}) Bool) (f : F) (s : Iter ℕ) (xs : List ℕ) (Q : ℕ → Type 0) where
  pub byte_places : IterYieldsInOrder ℕ → iter_rest s ≡ xs → CallKeepsClosure g f → ((x : Bor ℕ) (b : Bool) (q : F) → Called g f (x, tt) b q → Decides b (Q x.now)) →
      Places (iter_steps {A = ℕ}) g f s (length xs) (λ k. Q (get_or xs k 0))
  byte_places runs rest stays tells = record {
    stays = stays;
    few = λ p e. subst (λ ys. p.len ≤ length ys) (ap iter_rest e ∙ rest) (runs p p.seen).0;
    whole = λ p e all. (runs p p.seen).1 all ∙ ap length (ap iter_rest e ∙ rest);
    tells = λ p e k.
        if_more _ _ (p.at k) (λ x h b q call. let is : x.now ≡ get_or xs k 0 = h 0 ∙ ap (λ (ys : List ℕ). get_or ys k 0) (ap iter_rest e ∙ rest) in Decides-like b (subst Q is) (subst Q (sym is)) (tells x b q call)) ((runs p p.seen).3 k);
  }

-- the test of the first bytes
pub first_bytes : (xs : List ℕ) (n : ℕ) (P : ℕ → Type 0) (r : Bool) → length (take n xs) ≡ n → Decides r ((k : ℕ) × (k < length (take n xs)) × P (get_or (take n xs) k 0)) → Decides r ((k : ℕ) × (k < n) × P (get_or xs k 0))
first_bytes xs n P r long =
    Decides-like r
    (λ w. let h : w.0 < n = omega (arith, long, w.1) in (w.0, h, subst P (get_or-take n xs w.0 0 h) w.2))
    (λ w. (w.0, omega (arith, long, w.1), subst P (sym (get_or-take n xs w.0 0 w.1)) w.2))
