-- What one call does to a store that isn't turned away, in three cases, and what it keeps. Assumes nothing.
use Rattle.std.proofs.Common.{◌≡◌, ℕ, ◌<◌, Bool, true, false, eqb, ◌⊎◌, List, [], ◌∷◌, ◌++◌, length, sym, refl, ap, ◌∙◌, subst, inr, ⊎_elim, arith}
use Rattle.std.proofs.lemmas.Bool.{eq-eqb, cases_eq, both_ways, cond-true}
use Rattle.line.specs.Line.{meaning}
use Rattle.line.specs.Laws.{PartOf}
use Rattle.line.specs.Reading.{page_of, readable, fragment}
use Rattle.line.specs.declared.Line.{Line}
use Rattle.line.proofs.Readability.{readable_parts, unreadable}
use Rattle.line.proofs.Copies.{reads_part}
use Rattle.store.specs.Layout.{slots, mark_at, holds, well_formed}
use Rattle.store.specs.Slots.{NoRoom, InSlot, Applied}
use Rattle.store.proofs.Formed.{holds_parts, holds_not, other_mark, other_holds, same_slots}
use Rattle.receiver.specs.Entry.{turned_away, refusal, Answers}
use Rattle.receiver.specs.Broadcast.{CopyOfSent}
use Rattle.receiver.specs.Runs.{Run, end, step}
use Rattle.receiver.specs.declared.entry.Done.{Done}
use Rattle.receiver.specs.declared.entry.Done.TheVariants.{Took, Lost, Full, Refused}
use Rattle.receiver.specs.declared.refusal.Refusal.{Refusal}

-- REFUSALS

pub accepted : (whole : Bool) (s : List ℕ) → whole ≡ true → well_formed s ≡ true → turned_away whole s ≡ 0
unfolding turned_away
accepted whole s e b = cond-true whole _ _ e ∙ cond-true (well_formed s) _ _ b

pub not_refused : (l s : List ℕ) → length l ≡ 46 → well_formed s ≡ true → refusal l s ≡ 0
not_refused l s e b = accepted (eqb (length l) 46) s (eq-eqb _ _ e) b

-- ONE CALL

-- the line is of no use, there is no room for it, or it is applied
pub data Step (l s s₁ : List ℕ) : Type 0 where
  useless : readable l ≡ false → s₁ ≡ s → Step l s s₁
  no_room : readable l ≡ true → NoRoom s (page_of l) → s₁ ≡ s → Step l s s₁
  applied : readable l ≡ true → Applied (fragment l) s s₁ → Step l s s₁

-- a line that a well-formed store turns away isn't 46 bytes long
pub refused_useless : (l s s₁ : List ℕ) (f : Refusal) → well_formed s ≡ true → Answers l s (Refused f) s₁ → (readable l ≡ false) × (s₁ ≡ s)
refused_useless l s s₁ f ok a =
    (⊎_elim (λ e. absurd (omega (arith, not_refused l s e ok, a.says.refused))) (λ ne. unreadable l (λ w. ne w.long)) (cases_eq (length l) 46), a.says.same)

pub stepped : (l s s₁ : List ℕ) (r : Done) → well_formed s ≡ true → Answers l s r s₁ → Step l s s₁
stepped l s s₁ Took ok a = applied a.says.readable a.says.applied
stepped l s s₁ Lost ok a = useless a.says.unreadable a.says.same
stepped l s s₁ Full ok a = no_room a.says.readable a.says.no_room a.says.same
stepped l s s₁ (Refused f) ok a = let w = refused_useless l s s₁ f ok a in useless w.0 w.1

pub still_formed : {l s s₁ : List ℕ} → Step l s s₁ → well_formed s ≡ true → well_formed s₁ ≡ true
still_formed (useless g e) ok = ap well_formed e ∙ ok
still_formed (no_room g w e) ok = ap well_formed e ∙ ok
still_formed (applied g w) ok = w.formed

pub same_length : {l s s₁ : List ℕ} → Step l s s₁ → length s₁ ≡ length s
same_length (useless g e) = ap length e
same_length (no_room g w e) = ap length e
same_length (applied g w) = w.long

-- the slots that a page's fragment leaves alone
module _ (n : ℕ) (s s₁ : List ℕ) (i : ℕ) (w : InSlot n s s₁ i) where
  held_kept : (m j : ℕ) → holds s m j ≡ true → holds s₁ m j ≡ true
  held_kept m j e =
      ⊎_elim (λ same. subst (λ k. holds s₁ m k ≡ true) (sym same)
      (let e₁ = subst (λ k. holds s m k ≡ true) same e in
      ⊎_elim (λ old. subst (λ q. holds s₁ q i ≡ true) (sym (holds_parts s n i old).1 ∙ (holds_parts s m i e₁).1) w.here) (λ new. absurd (omega (arith, new.free, (holds_parts s m i e₁).0))) w.was))
      (λ ne. other_holds s s₁ i w.only m j ne ∙ e) (cases_eq j i)

  -- a store without room for a page stays so
  full_kept : (m : ℕ) → NoRoom s m → (j : ℕ) → j < slots s → (holds s₁ m j ≡ false) × (mark_at s₁ j ≡ 0 → ⊥)
  full_kept m full j h =
      ⊎_elim (λ same. subst (λ k. (holds s₁ m k ≡ false) × (mark_at s₁ k ≡ 0 → ⊥)) (sym same)
      (let x = holds_parts s₁ n i w.here in (
        holds_not s₁ m i (inr (λ e. ⊎_elim (λ old. both_ways _ (full.absent i w.within) (subst (λ q. holds s q i ≡ true) (sym x.1 ∙ e) old)) (λ new. full.taken i w.within new.free) w.was)),
        λ z. absurd (omega (arith, x.0, z)),
      )))
      (λ ne. (other_holds s s₁ i w.only m j ne ∙ full.absent j h, λ z. full.taken j h (sym (other_mark s s₁ i w.only j ne) ∙ z))) (cases_eq j i)

pub held_step : {l s s₁ : List ℕ} (n i : ℕ) → Step l s s₁ → holds s n i ≡ true → holds s₁ n i ≡ true
held_step n i (useless g e) h = ap (λ t. holds t n i) e ∙ h
held_step n i (no_room g w e) h = ap (λ t. holds t n i) e ∙ h
held_step {l} {s} {s₁} n i (applied g w) h = held_kept (page_of l) s s₁ w.slot.0 w.slot.1 n i h

pub full_step : {l s s₁ : List ℕ} (n : ℕ) → Step l s s₁ → NoRoom s n → NoRoom s₁ n
full_step n (useless g e) h = subst (λ t. NoRoom t n) (sym e) h
full_step n (no_room g w e) h = subst (λ t. NoRoom t n) (sym e) h
full_step {l} {s} {s₁} n (applied g w) h =
    let both : (j : ℕ) → j < slots s₁ → (holds s₁ n j ≡ false) × (mark_at s₁ j ≡ 0 → ⊥) = λ j lt. full_kept (page_of l) s s₁ w.slot.0 w.slot.1 n h j (subst (λ k. j < k) (same_slots s s₁ w.long) lt) in
    record { absent = λ j lt. (both j lt).0; taken = λ j lt. (both j lt).1 }

-- a line that can be made out is a copy of one that was sent, and says only what that one says
pub copied : (sent : List Line) (l : List ℕ) → readable l ≡ true → (length l ≡ 46 → ⊥) ⊎ CopyOfSent sent l → CopyOfSent sent l
copied sent l g come = ⊎_elim (λ ne. absurd (ne (readable_parts l g).long)) (λ a. a) come

pub copy_part : (sent : List Line) (l : List ℕ) → readable l ≡ true → (a : CopyOfSent sent l) → PartOf (fragment l) (meaning a.line)
copy_part sent l g a = reads_part a.line l a.copy g

-- RUNS

pub formed_run : (s s₁ : List ℕ) (ls : List (List ℕ)) (rs : List Done) → well_formed s ≡ true → Run s ls rs s₁ → well_formed s₁ ≡ true
formed_run _ _ _ _ ok (end s) = ok
formed_run _ _ _ _ ok (step s l s₁ s₂ r ls rs a w) = formed_run s₁ s₂ ls rs (still_formed (stepped l s s₁ r ok a) ok) w

pub length_run : (s s₁ : List ℕ) (ls : List (List ℕ)) (rs : List Done) → well_formed s ≡ true → Run s ls rs s₁ → length s₁ ≡ length s
length_run _ _ _ _ ok (end s) = refl
length_run _ _ _ _ ok (step s l s₁ s₂ r ls rs a w) = let x = stepped l s s₁ r ok a in length_run s₁ s₂ ls rs (still_formed x ok) w ∙ same_length x

pub held_run : (n i : ℕ) (s s₁ : List ℕ) (ls : List (List ℕ)) (rs : List Done) → well_formed s ≡ true → Run s ls rs s₁ → holds s n i ≡ true → holds s₁ n i ≡ true
held_run n i _ _ _ _ ok (end s) h = h
held_run n i _ _ _ _ ok (step s l s₁ s₂ r ls rs a w) h = let x = stepped l s s₁ r ok a in held_run n i s₁ s₂ ls rs (still_formed x ok) w (held_step n i x h)

pub full_run : (n : ℕ) (s s₁ : List ℕ) (ls : List (List ℕ)) (rs : List Done) → well_formed s ≡ true → Run s ls rs s₁ → NoRoom s n → NoRoom s₁ n
full_run n _ _ _ _ ok (end s) h = h
full_run n _ _ _ _ ok (step s l s₁ s₂ r ls rs a w) h = let x = stepped l s s₁ r ok a in full_run n s₁ s₂ ls rs (still_formed x ok) w (full_step n x h)

-- one call after a run
pub run_more : (s s₁ s₂ l : List ℕ) (r : Done) (ls : List (List ℕ)) (rs : List Done) → Run s ls rs s₁ → Answers l s₁ r s₂ → Run s (ls ++ (l ∷ [])) (rs ++ (r ∷ [])) s₂
run_more _ _ s₂ l r _ _ (end s) a = step s l s₂ s₂ r [] [] a (end s₂)
run_more _ _ s₂ l r _ _ (step s k t s₁ q ls rs b w) a = step s k t s₂ q (ls ++ (l ∷ [])) (rs ++ (r ∷ [])) b (run_more t s₁ s₂ l r ls rs w a)
