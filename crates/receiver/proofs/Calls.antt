-- What the entries' contracts say, from the parts. Assumes nothing.
use Rattle.std.proofs.Common.{◌≡◌, ℕ, ◌/◌, ◌%◌, ◌<◌, ◌≤◌, Bool, true, false, ◌&&◌, eqb, ltb, ◌⊎◌, List, [], ◌∷◌, ◌++◌, length, get_or, sym, refl, ap, ◌∙◌, subst, inl, inr, ⊎_elim, arith}
use Rattle.std.proofs.lemmas.List.{get_or_past}
use Rattle.std.proofs.lemmas.Bool.{both_ways, and_parts, and_from, lt-ltb, ltb-true, eq-eqb, eqb-true, cases_Bool, cases_eq, cases_lt}
use Rattle.coding.specs.Hamming.{distance}
use Rattle.coding.proofs.Numbers.{detects_two}
use Rattle.line.specs.Line.{header_numbers, encode_line}
use Rattle.line.specs.Damage.{Copy}
use Rattle.line.specs.Reading.{number_of, readable}
use Rattle.line.specs.declared.Line.{Line}
use Rattle.line.proofs.Encoding.{word_at, number_small}
use Rattle.line.proofs.Readability.{unreadable}
use Rattle.store.specs.Layout.{slots, version_at, letter_at, holds, well_formed, page_in}
use Rattle.store.specs.Slots.{has_row, RowOf}
use Rattle.store.proofs.Pages.{page_held, page_there, there_slot, slot_letter}
use Rattle.receiver.specs.Entry.{Answers, counted}
use Rattle.receiver.specs.Broadcast.{SentLetter, Brought}
use Rattle.receiver.specs.Runs.{Run, end, step}
use Rattle.receiver.specs.Batch.{TakenFirst, TookLines}
use Rattle.receiver.specs.Promises.{RunPromises, Continue, Continues, TwoTurnedLost, RowSound, RowText, RowOfRun}
use Rattle.receiver.specs.declared.entry.Done.{Done}
use Rattle.receiver.specs.declared.entry.Done.TheVariants.{Took, Lost, Full, Refused}
use Rattle.receiver.specs.declared.entry.Counts.{Counts}
use Rattle.receiver.proofs.Steps.{accepted, not_refused, formed_run, length_run}
use Rattle.receiver.proofs.Invariant.{sound_run, soundness}
use Rattle.receiver.proofs.Recovering.{recovery, recovery_of_page}

-- all promises of a run
run_promises : (s s₁ : List ℕ) (ls : List (List ℕ)) (rs : List Done) → well_formed s ≡ true → Run s ls rs s₁ → RunPromises s ls rs s₁
run_promises s s₁ ls rs ok w = record {
  run = w;
  formed = formed_run s s₁ ls rs ok w;
  long = length_run s s₁ ls rs ok w;
  stays_sound = λ sent come h. sound_run sent s s₁ ls rs ok come w h;
  soundness = soundness s s₁ ls rs ok w;
  recovery = recovery s s₁ ls rs ok w;
  recovery_of_page = recovery_of_page s s₁ ls rs ok w;
}

-- a run behind another one
run_then : (s s₁ s₂ : List ℕ) (ls ks : List (List ℕ)) (rs qs : List Done) → Run s ls rs s₁ → Run s₁ ks qs s₂ → Run s (ls ++ ks) (rs ++ qs) s₂
run_then _ _ s₂ _ ks _ qs (end s) v = v
run_then _ _ s₂ _ ks _ qs (step s l t s₁ r ls rs a w) v = step s l t s₂ r (ls ++ ks) (rs ++ qs) a (run_then t s₁ s₂ ls ks rs qs w v)

pub continue : (s s₁ : List ℕ) (ls : List (List ℕ)) (rs : List Done) → Run s ls rs s₁ → Continue ls s rs s₁
continue s s₁ ls rs v s₀ before answers ok w = run_promises s₀ s₁ (before ++ ls) (answers ++ rs) ok (run_then s₀ s s₁ before ls answers rs w v)

-- lines that are not turned away, from what their loop leaves
pub took_lines : (bytes s s₁ : List ℕ) (k k₁ : Counts) → eqb (length bytes % 46) 0 ≡ true → well_formed s ≡ true → TakenFirst bytes s k s₁ k₁ (length bytes / 46) → TookLines bytes s k s₁ k₁
took_lines bytes s s₁ k k₁ whole ok w = record { accepted = accepted (eqb (length bytes % 46) 0) s whole ok; answers = w.answers; run = w.run; count = w.count; promises = continue _ _ _ _ w.run }

pub continues : (l s : List ℕ) (r : Done) (s₁ : List ℕ) → Answers l s r s₁ → Continues l s r s₁
continues l s r s₁ a = continue s s₁ (l ∷ []) (r ∷ []) (step s l s₁ s₁ r [] [] a (end s₁))

-- a copy with two bits turned in a number's byte can't be made out
two_turned_unreadable : (m : Line) (l : List ℕ) (i : ℕ) → Copy m l → i < 6 → distance (get_or (encode_line m) i 0) (get_or l i 0) ≡ 2 → readable l ≡ false
unfolding number_of
two_turned_unreadable m l i copy h two =
    let none = detects_two (get_or l i 0) (copy.bytes i) (get_or (header_numbers m) i 0) (number_small m copy.valid i h) (subst (λ w. distance w (get_or l i 0) ≡ 2) (word_at m i h) two) in
    unreadable l (λ w. absurd (omega (arith, w.numbers i h, none)))

-- so it is lost, whatever else is answered to such a line
lost_is : (l s : List ℕ) (r : Done) (s₁ : List ℕ) → well_formed s ≡ true → length l ≡ 46 → readable l ≡ false → Answers l s r s₁ → (r ≡ Lost) × (s₁ ≡ s)
lost_is l s Took s₁ ok long lost a = absurd (both_ways _ lost a.says.readable)
lost_is l s Lost s₁ ok long lost a = (refl, a.says.same)
lost_is l s Full s₁ ok long lost a = absurd (both_ways _ lost a.says.readable)
lost_is l s (Refused f) s₁ ok long lost a = absurd (omega (arith, not_refused l s long ok, a.says.refused))

pub two_turned_lost : (l s : List ℕ) (k : Counts) (r : Done) (s₁ : List ℕ) (k₁ : Counts) → Answers l s r s₁ → k₁ ≡ counted k r → TwoTurnedLost l s k r s₁ k₁
two_turned_lost l s k r s₁ k₁ a e m i ok copy h two =
    let w = lost_is l s r s₁ ok copy.damage.came_long (two_turned_unreadable m l i copy h two) a in
    (w.0, w.1, e ∙ ap (counted k) w.0)

-- a row's letter is its slot's
row_letter : (s : List ℕ) (n r i c : ℕ) (t : List ℕ) → RowOf s n r t → has_row s n r ≡ true → well_formed s ≡ true → r < 25 → c < 40 → i < slots s → holds s n i ≡ true → get_or t c 0 ≡ letter_at s i r c
row_letter s n r i c t w e ok hr hc hi held = w.letters e c hc ∙ ap (λ p. p.letters r c) (page_held s n i ok hi held) ∙ slot_letter s i r c hr hc

pub row_sound : (s : List ℕ) (n r : ℕ) (t : List ℕ) → RowOf s n r t → RowSound s n r t
row_sound s n r t w sent h =
    ⊎_elim
    (λ e. let a = and_parts (well_formed s) ((page_in s n).there && ltb r 25) e in
    let b = and_parts (page_in s n).there (ltb r 25) a.1 in
    let hr : r < 25 = ltb-true _ _ b.1 in
    let i = there_slot s n b.0 in
    inr (
      i.0,
      i.1,
      i.2,
      w.long e,
      λ c hc.
          let x : get_or t c 0 ≡ letter_at s i.0 r c = row_letter s n r i.0 c t w e a.0 hr hc i.1 i.2 in
          ⊎_elim (λ z. inl (x ∙ z)) (λ known. inr (subst (λ y. SentLetter sent n (version_at s i.0) r c y) (sym x) ((h i.0 n i.1 i.2).letters r c hr hc known))) (zero_or (letter_at s i.0 r c)),
    ))
    (λ e. inl (w.nothing e)) (cases_Bool (has_row s n r))
  where
    zero_or : (x : ℕ) → (x ≡ 0) ⊎ (0 < x)
    zero_or x = ⊎_elim (λ e. inl e) (λ ne. inr (omega arith)) (cases_eq x 0)

pub row_text : (s : List ℕ) (n r : ℕ) (t : List ℕ) → RowOf s n r t → RowText s n r t
row_text s n r t w sent v places ok hr sh =
    let e : has_row s n r ≡ true = and_from _ _ ok (and_from _ _ (page_there s n sh.slot ok sh.within sh.here) (lt-ltb _ _ hr)) in
    (w.long e, λ c hc p m i pg known. row_letter s n r sh.slot c t w e ok hr hc sh.within sh.here ∙ sym (sh.text r c p m i pg known))

-- past a row's end there is no letter
known_within : (t : List ℕ) (c n : ℕ) → length t ≡ n → 0 < get_or t c 0 → c < n
known_within t c n long known = ⊎_elim (λ lt. lt) (λ ge. absurd (omega (arith, known, get_or_past t c 0 (subst (λ k. k ≤ c) (sym long) ge)))) (cases_lt c n)

pub row_of_run : (s : List ℕ) (n r : ℕ) (t : List ℕ) → RowOf s n r t → RowOfRun s n r t
row_of_run s n r t w s₀ ls rs sent ok run come one = record {
  only_sent = λ none c known.
      ⊎_elim (λ empty. absurd (omega (arith, known_within t c 0 empty known)))
      (λ x. let hc = known_within t c 40 x.3 known in ⊎_elim (λ z. absurd (omega (arith, z, known))) (λ y. (version_at s x.0, y)) (x.4 c hc))
      (row_sound s n r t w sent (soundness s₀ s ls rs ok run sent come one none).0);
  brought = λ v ver c b.
      let places : ℕ → ℕ → Bool = λ i j. eqb i r && eqb j c in
      let here : places r c ≡ true = and_from _ _ (eq-eqb r r refl) (eq-eqb c c refl) in
      let hr : r < 25 = subst (λ k. k < 25) b.brings.row b.brings.copy.valid.row in
      ⊎_elim (λ sh. let x = row_text s n r t w sent v places (formed_run s₀ s ls rs ok run) hr sh in inr (x.0, λ m i pg known. x.1 c b.brings.column here m i pg known)) (λ full. inl full)
      (recovery s₀ s ls rs ok run sent n v places come one ver
      (λ i j p. let e = and_parts (eqb i r) (eqb j c) p in subst (λ y. Brought sent ls n y j) (sym (eqb-true _ _ e.0)) (subst (λ y. Brought sent ls n r y) (sym (eqb-true _ _ e.1)) b)) r c here);
}
