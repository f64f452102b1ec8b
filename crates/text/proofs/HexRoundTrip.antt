-- Reading what was written gives the same bytes. Assumes nothing.
use Rattle.std.proofs.Common.{◌≡◌, ℕ, zero, suc, ◌+◌, ◌*◌, ◌/◌, ◌%◌, ◌<◌, ◌≤◌, true, eqb, ltb, List, [], ◌∷◌, ◌++◌, get_or, Some, sym, refl, ap, ◌∙◌, arith}
use Rattle.std.proofs.lemmas.Bool.{eqb-true, cond_both}
use Rattle.coding.proofs.Below.{all_below, below_at}
use Rattle.text.specs.Hex.{blank, between, digit_value, byte_of, in_front, hex_bytes, line_bytes, digit_of, hex_byte, hex_text, Bytes, WrittenIsRead}
use Rattle.text.proofs.HexReading.{front_blank, front_byte, is_byte}
use Rattle.text.proofs.LineEnds.{no_return_stays}

-- the digit of a value has that value
digit_test : all_below 16 (λ v. eqb v (digit_value (digit_of v))) ≡ true
unfolding between digit_value digit_of
digit_test = refl

digit_back : (v : ℕ) → v < 16 → v ≡ digit_value (digit_of v)
digit_back v h = eqb-true _ _ (below_at 16 (λ v. eqb v (digit_value (digit_of v))) digit_test v h)

digit_high : (v : ℕ) → 48 ≤ digit_of v
unfolding digit_of
digit_high v = cond_both (ltb v 10) (48 + v) (87 + v) (λ d. 48 ≤ d) (λ _. omega arith) (λ _. omega arith)

byte_back : (b : ℕ) → b < 256 → byte_of (digit_of (b / 16)) (digit_of (b % 16)) ≡ Some b
byte_back b h =
    let whole : 16 * (b / 16) + b % 16 ≡ b = omega arith in
    sym (is_byte _ _ (b / 16) (b % 16) (digit_back _ (omega arith)) (digit_back _ (omega arith)) (omega arith) (omega arith)) ∙ ap Some whole

-- what was written in front of a text is read in front of it
front_back : (b : ℕ) (t : List ℕ) (bs : List ℕ) → b < 256 → hex_bytes t ≡ Some bs → hex_bytes (hex_byte b ++ t) ≡ Some (b ∷ bs)
unfolding hex_byte in_front
front_back b t bs h e =
    front_byte _ _ t (λ k. omega (arith, digit_high (b / 16))) ∙ ap (λ o. in_front o (hex_bytes t)) (byte_back b h) ∙ ap (in_front (Some b)) e

text_back : (bs : List ℕ) → Bytes bs → hex_bytes (hex_text bs) ≡ Some bs
unfolding hex_text hex_bytes hex_byte
text_back [] h = refl
text_back (b ∷ []) h = front_back b [] [] (h 0) refl
text_back (b ∷ c ∷ bs) h =
    front_back b (blank ∷ hex_text (c ∷ bs)) (c ∷ bs) (h 0) (front_blank blank (hex_text (c ∷ bs)) refl ∙ text_back (c ∷ bs) (λ k. h (suc k)))

-- no carriage return is written
abbrev NoReturn : List ℕ → Type 0
NoReturn t = (k : ℕ) → get_or t k 0 ≡ 13 → ⊥

no_return_cons : (c : ℕ) (t : List ℕ) → (c ≡ 13 → ⊥) → NoReturn t → NoReturn (c ∷ t)
no_return_cons c t ne rest zero e = ne e
no_return_cons c t ne rest (suc k) e = rest k e

no_return_byte : (b : ℕ) (t : List ℕ) → NoReturn t → NoReturn (hex_byte b ++ t)
unfolding hex_byte
no_return_byte b t rest =
    no_return_cons (digit_of (b / 16)) (digit_of (b % 16) ∷ t) (λ e. omega (arith, digit_high (b / 16))) (no_return_cons (digit_of (b % 16)) t (λ e. omega (arith, digit_high (b % 16))) rest)

no_return_text : (bs : List ℕ) → NoReturn (hex_text bs)
unfolding hex_text hex_byte
no_return_text [] = λ k e. omega arith
no_return_text (b ∷ []) = no_return_byte b [] (λ k e. omega arith)
no_return_text (b ∷ c ∷ bs) =
    no_return_byte b (blank ∷ hex_text (c ∷ bs)) (no_return_cons blank _ (λ e. omega arith) (no_return_text (c ∷ bs)))

pub written_is_read : WrittenIsRead
unfolding line_bytes
written_is_read bs h =
    ap hex_bytes (sym (no_return_stays (hex_text bs) (no_return_text bs _))) ∙ text_back bs h
