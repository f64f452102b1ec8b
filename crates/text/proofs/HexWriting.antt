-- Writing bytes in hex: a digit as text, and one byte more. Assumes nothing.
use Rattle.std.proofs.Common.{◌≡◌, ℕ, ◌+◌, ◌/◌, ◌%◌, ◌<◌, ◌≤◌, cond, ltb, List, [], ◌∷◌, ◌++◌, length, get_or, take, sym, refl, ap, ◌∙◌, append_assoc, arith}
use lib.Utf8.{encode}
use Rattle.std.proofs.lemmas.List.{take_more, length-take-le}
use Rattle.std.proofs.lemmas.Bool.{cond-true, cond-false, cond_both, lt-ltb, le-ltb}
use Rattle.std.proofs.lemmas.Str.{encode_ascii}
use Rattle.text.specs.Hex.{blank, digit_of, hex_byte, hex_text}

digit_low : (v : ℕ) → v < 16 → digit_of v < 128
unfolding digit_of
digit_low v h = cond_both (ltb v 10) (48 + v) (87 + v) (λ d. d < 128) (λ _. omega arith) (λ _. omega arith)

-- a digit is one byte of text
pub digit_text : (v c : ℕ) → v < 16 → c ≡ digit_of v → encode c ≡ digit_of v ∷ []
digit_text v c h e = ap encode e ∙ encode_ascii (digit_of v) (digit_low v h)

-- what stands between the bytes before i and the byte at i
unfoldable pub gap : ℕ → List ℕ
gap i = cond (ltb 0 i) (blank ∷ []) []

pub no_gap : (i : ℕ) → i ≤ 0 → gap i ≡ []
unfolding gap
no_gap i h = cond-false _ _ _ (le-ltb 0 i h)

pub one_gap : (i : ℕ) → 0 < i → gap i ≡ blank ∷ []
unfolding gap
one_gap i h = cond-true _ _ _ (lt-ltb 0 i h)

behind : (c : ℕ) (bs : List ℕ) (b : ℕ) → hex_text ((c ∷ bs) ++ b ∷ []) ≡ (hex_text (c ∷ bs) ++ blank ∷ []) ++ hex_byte b
unfolding hex_text hex_byte
behind c [] b = refl
behind c (d ∷ bs) b = ap (λ t. hex_byte c ++ blank ∷ t) (behind d bs b)

text_push : (bs : List ℕ) (b : ℕ) → hex_text (bs ++ b ∷ []) ≡ (hex_text bs ++ gap (length bs)) ++ hex_byte b
unfolding hex_text
text_push [] b = ap (λ g. g ++ hex_byte b) (sym (no_gap 0 (omega arith)))
text_push (c ∷ bs) b = behind c bs b ∙ ap (λ g. (hex_text (c ∷ bs) ++ g) ++ hex_byte b) (sym (one_gap (length (c ∷ bs)) (omega arith)))

-- one byte more is written
pub text_more : (old bytes : List ℕ) (i : ℕ) → i < length bytes → ((old ++ hex_text (take i bytes)) ++ gap i) ++ hex_byte (get_or bytes i 0) ≡ old ++ hex_text (take (i + 1) bytes)
text_more old bytes i h =
    let n : length (take i bytes) ≡ i = length-take-le i bytes (omega arith) in
    let more : hex_text (take (i + 1) bytes) ≡ (hex_text (take i bytes) ++ gap i) ++ hex_byte (get_or bytes i 0) =
    ap hex_text (take_more bytes i 0 h) ∙ text_push (take i bytes) (get_or bytes i 0) ∙ ap (λ k. (hex_text (take i bytes) ++ gap k) ++ hex_byte (get_or bytes i 0)) n in
    simp append_assoc (ap (λ t. old ++ t) (sym (more ∙ append_assoc (hex_text (take i bytes)) (gap i) (hex_byte (get_or bytes i 0)))))

-- the two digits of a byte
pub byte_text : (old : List ℕ) (b high low : ℕ) → b < 256 → high ≡ digit_of (b / 16) → low ≡ digit_of (b % 16) → (old ++ encode high) ++ encode low ≡ old ++ hex_byte b
unfolding hex_byte
byte_text old b high low h eh el =
    rw (digit_text (b / 16) high (omega arith) eh, digit_text (b % 16) low (omega arith) el) (append_assoc old _ _)

pub digit_length : (v c : ℕ) → v < 16 → c ≡ digit_of v → length (encode c) ≡ 1
digit_length v c h e = ap length (digit_text v c h e)
