-- Lemmas on the lines of turns.
use Rattle.std.proofs.Common.{◌≡◌, ℕ, zero, suc, ◌+◌, ◌*◌, List, [], ◌∷◌, ◌++◌, length, get_or, sym, ap, ◌∙◌, append_assoc, append-nil, add-zero, add-suc, suc-mul, add-one}
use Rattle.line.specs.Line.{encode_line}
use Rattle.sender.specs.Schedule.{turn, after, after_turns, turn_at}
use Rattle.sender.specs.declared.turns.Schedule.{Schedule}
use Rattle.std.proofs.lemmas.List.{get_or_default}
use Rattle.text.specs.Hex.{hex_text}
use Rattle.page_text.specs.Reading.{blank_page}
use Rattle.page_text.specs.Lines.{page_line}
use Rattle.page_text.specs.declared.Page.{Page}
use Rattle.broadcast.specs.Sending.{Sends}
use Rattle.sender.proofs.Rounds.{no_turn}
use Rattle.send_pages.specs.Sending.{line_text, turn_text, turns_text}

-- no line goes
pub text_of_none : (pages : List Page) (s : Schedule) (before : List ℕ) → length pages ≡ 0 → before ≡ before ++ turn_text pages (turn (length pages) s)
unfolding turn_text
text_of_none pages s before none = sym (append-nil before) ∙ ap (λ x. before ++ turn_text pages x) (sym (no_turn (length pages) s none))

-- the line that goes is written
pub text_of_turn : (pages : List Page) (s : Schedule) (bytes before now₁ now₂ : List ℕ) → Sends pages s bytes → now₁ ≡ before ++ hex_text bytes → now₂ ≡ now₁ ++ 10 ∷ [] → now₂ ≡ before ++ turn_text pages (turn (length pages) s)
unfolding turn_text line_text
text_of_turn pages s bytes before now₁ now₂ w e₁ e₂ =
    let page : w.page ≡ get_or pages w.place (blank_page 0 0) = sym w.at ∙ get_or_default pages w.place w.page (blank_page 0 0) w.within in
    e₂ ∙ ap (λ x. x ++ 10 ∷ []) (e₁ ∙ ap (λ x. before ++ hex_text x) w.encoded)
    ∙ append_assoc before (hex_text (encode_line (page_line w.page w.row))) (10 ∷ [])
    ∙ ap (λ x. before ++ line_text (page_line x w.row)) page
    ∙ ap (λ x. before ++ turn_text pages x) (sym w.turn)

-- some turns, and more of them
pub after_more : (n a b : ℕ) (s : Schedule) → after_turns n (a + b) s ≡ after_turns n b (after_turns n a s)
unfolding after_turns
after_more n a zero s = ap (λ k. after_turns n k s) (add-zero a)
after_more n a (suc b) s = ap (λ k. after_turns n k s) (add-suc a b) ∙ ap (after n) (after_more n a b s)

pub turns_more : (pages : List Page) (s : Schedule) (a b : ℕ) → turns_text pages s (a + b) ≡ turns_text pages s a ++ turns_text pages (after_turns (length pages) a s) b
unfolding turns_text
turns_more pages s a zero = ap (λ k. turns_text pages s k) (add-zero a) ∙ sym (append-nil (turns_text pages s a))
turns_more pages s a (suc b) =
    ap (λ k. turns_text pages s k) (add-suc a b)
    ∙ ap (λ x. x ++ turn_text pages (turn_at (length pages) s (a + b))) (turns_more pages s a b)
    ∙ append_assoc (turns_text pages s a) (turns_text pages (after_turns (length pages) a s) b) (turn_text pages (turn_at (length pages) s (a + b)))
    ∙ ap (λ q. turns_text pages s a ++ (turns_text pages (after_turns (length pages) a s) b ++ turn_text pages (turn (length pages) q))) (after_more (length pages) a b s)

-- what was written after some turns, and where the schedule stands
pub record Gone (pages : List Page) (s : Schedule) (before : List ℕ) (k : ℕ) (s₁ : Schedule) (now₁ : List ℕ) : Type 0 where
  pub written : now₁ ≡ before ++ turns_text pages s k
  pub moved : s₁ ≡ after_turns (length pages) k s

pub none_gone : (pages : List Page) (s : Schedule) (before : List ℕ) (k : ℕ) → k ≡ 0 → Gone pages s before k s before
unfolding turns_text after_turns
none_gone pages s before k e =
    record {
      written = sym (append-nil before) ∙ ap (λ n. before ++ turns_text pages s n) (sym e);
      moved = ap (λ n. after_turns (length pages) n s) (sym e);
    }

-- one turn more
pub turn_gone : (pages : List Page) (s : Schedule) (before : List ℕ) (k : ℕ) (s₁ s₂ : Schedule) (now₁ now₂ : List ℕ) → Gone pages s before k s₁ now₁ → now₂ ≡ now₁ ++ turn_text pages (turn (length pages) s₁) → s₂ ≡ after (length pages) s₁ → Gone pages s before (k + 1) s₂ now₂
unfolding turns_text after_turns
turn_gone pages s before k s₁ s₂ now₁ now₂ h written moved =
    record {
      written = rw add-one (written ∙ ap (λ x. x ++ turn_text pages (turn (length pages) s₁)) h.written
          ∙ append_assoc before (turns_text pages s k) (turn_text pages (turn (length pages) s₁))
          ∙ ap (λ q. before ++ (turns_text pages s k ++ turn_text pages (turn (length pages) q))) h.moved);
      moved = rw add-one (moved ∙ ap (after (length pages)) h.moved);
    }

-- as many turns more as there are pages
pub row_gone : (pages : List Page) (s : Schedule) (before : List ℕ) (r : ℕ) (s₁ s₂ : Schedule) (now₁ now₂ : List ℕ) → Gone pages s before (r * length pages) s₁ now₁ → now₂ ≡ now₁ ++ turns_text pages s₁ (length pages) → s₂ ≡ after_turns (length pages) (length pages) s₁ → Gone pages s before ((r + 1) * length pages) s₂ now₂
row_gone pages s before r s₁ s₂ now₁ now₂ h written moved =
    let n = length pages in
    let k : (r + 1) * length pages ≡ r * length pages + length pages = rw add-one (suc-mul r (length pages)) in
    record {
      written = written ∙ ap (λ x. x ++ turns_text pages s₁ n) h.written
          ∙ append_assoc before (turns_text pages s (r * n)) (turns_text pages s₁ n)
          ∙ ap (λ q. before ++ (turns_text pages s (r * n) ++ turns_text pages q n)) h.moved
          ∙ ap (λ x. before ++ x) (sym (turns_more pages s (r * n) n))
          ∙ ap (λ m. before ++ turns_text pages s m) (sym k);
      moved = moved ∙ ap (after_turns n n) h.moved ∙ sym (after_more n (r * n) n s) ∙ ap (λ m. after_turns n m s) (sym k);
    }
