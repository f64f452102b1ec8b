-- What is shown of what came of a text. Assumes nothing.
use Rattle.std.proofs.Common.{◌≡◌, ℕ, ◌*◌, ◌<◌, List, length, get_or, drop, IfSome, Some, None, Option, sym, ap, ◌∙◌, subst, inl, inr, ⊎_elim, arith, length-drop, length-take-le, get_or-drop, get_or-take, MatchOption}
use Rattle.std.proofs.lemmas.List.{ext_get_or}
use Rattle.std.proofs.lemmas.Bool.{cases_eq}
use Rattle.coding.specs.Parity.{is_letter}
use Rattle.line.specs.declared.Line.{Line}
use Rattle.line.proofs.Copies.{reads_brought}
use Rattle.store.specs.Slots.{RowOf, VersionOf}
use Rattle.receiver.specs.Broadcast.{Among, OneText}
use Rattle.receiver.specs.Promises.{RowAfterRun}
use Rattle.receiver.proofs.Calls.{row_of_run}
use Rattle.receiver.proofs.Invariant.{soundness}
use Rattle.text.specs.Screen.{gap_sign, sign_of}
use Rattle.page_text.proofs.SoundPages.{pages_are_sound}
use Rattle.broadcast.specs.Showing.{text_letter, text_row, TextToScreen, VersionOfText}
use Rattle.broadcast.proofs.Broadcasts.{whole_page, one_text, one_version, sent_letter, sent_page}

no_letter_gap : (x : ℕ) → x ≡ 0 → sign_of x ≡ gap_sign
unfolding sign_of is_letter
no_letter_gap x e = ap sign_of e

pub text_to_screen : (s : List ℕ) (n r : ℕ) (t : List ℕ) → RowOf s n r t → TextToScreen s n r t
text_to_screen s n r t row text ps sent s₀ ls rs came =
    let sound = pages_are_sound text ps came.read in
    let one : OneText sent = one_text ps sent sound came.broadcast in
    let after : RowAfterRun s₀ ls s n r t sent = row_of_run s n r t row s₀ ls rs sent came.formed came.run came.comes one in
    record {
      signs = λ c _.
          ⊎_elim (λ z. inl (no_letter_gap (get_or t c 0) z))
          (λ ne. let known : 0 < get_or t c 0 = omega arith in
          let x = (after.only_sent came.no_pages c known).1 in
          let w = came.broadcast x.line x.among in
          let is : get_or t c 0 ≡ text_letter w.page r c = sym x.letter ∙ sent_letter ps x.line r c w (subst (λ y. 0 < y) (sym x.letter) known) in
          inr (w.page, w.among, sym (ap (λ m. m.page) w.line) ∙ x.page, ap sign_of is)) (cases_eq (get_or t c 0) 0);
      whole = λ p i number brought place.
          let long : length p.letters ≡ 1000 = (whole_page ps p sound i).long in
          let ver = subst (λ k. (m : Line) → Among m sent → m.page ≡ k → m.version ≡ p.version) number (one_version ps sent p sound came.broadcast i) in
          let at : (c : ℕ) → c < 40 → (length t ≡ 40) × (get_or t c 0 ≡ text_letter p r c) = λ c hc.
          let b = brought c hc in
          let m = b.line in
          let w = came.broadcast m b.among in
          let known = (reads_brought b.bytes m r c b.brings).1 in
          let same = sent_page ps p m sound i w (b.page ∙ sym number) in
          ⊎_elim (λ full. absurd (place full)) (λ x. (x.0, x.1 m b.among b.page known ∙ sent_letter ps m r c w known ∙ ap (λ q. text_letter q r c) same)) (after.brought p.version ver c b) in
          let hr : r < 25 = let b = brought 0 (omega arith) in subst (λ k. k < 25) b.brings.row b.brings.copy.valid.row in
          let row-long : length (text_row p r) ≡ 40 = length-take-le 40 (drop (40 * r) p.letters) (omega (arith, length-drop (40 * r) p.letters)) in
          ext_get_or 0 t (text_row p r) ((at 0 (omega arith)).0 ∙ sym row-long)
          (λ c hc. let small : c < 40 = omega (arith, (at 0 (omega arith)).0) in (at c small).1 ∙ sym (get_or-take 40 (drop (40 * r) p.letters) c 0 small ∙ get_or-drop (40 * r) p.letters c 0));
    }

version_of_text : (s : List ℕ) (n v : ℕ) → VersionOf s n v → VersionOfText s n v
version_of_text s n v w text ps sent s₀ ls rs came =
    let sound = pages_are_sound text ps came.read in
    let one : OneText sent = one_text ps sent sound came.broadcast in
    let i = w.slot in
    let x = ((soundness s₀ s ls rs came.formed came.run sent came.comes one came.no_pages).0 i.0 n i.1 i.2).version in
    let m = came.broadcast x.line x.among in
    (m.page, m.among, sym (ap (λ l. l.page) m.line) ∙ x.page, i.3 ∙ sym x.version ∙ ap (λ l. l.version) m.line)

-- the same, if there is a version
pub shown_of_text : (s : List ℕ) (n : ℕ) (o : Option ℕ) (P : Type 0) → MatchOption o P (VersionOf s n) → IfSome o (VersionOfText s n)
shown_of_text s n None P h = tt
shown_of_text s n (Some v) P h = version_of_text s n v h
