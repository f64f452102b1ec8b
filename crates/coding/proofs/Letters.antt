-- The laws of letters with odd parity, each by one computed test over all bytes. Assumes nothing.
use Rattle.std.proofs.Common.{◌≡◌, ℕ, ◌+◌, ◌%◌, ◌<◌, ◌≤◌, Bool, true, false, not, ◌&&◌, ◌||◌, eqb, ltb, leb, sym, refl, arith}
use lib.Bits.{bit_xor}
use lib.Count.{ones_in}
use Rattle.std.proofs.lemmas.Bool.{and_parts, and_from, le-leb, leb-true, lt-ltb, ltb-true, eq-eqb, eqb-true, eqb-false, not-true, cond-true, cond-false, cond_both}
use Rattle.coding.specs.Hamming.{distance}
use Rattle.coding.specs.Parity.{is_letter, odd_parity, encode_letter, decode_letter}
use Rattle.coding.specs.Laws.{LetterLimitSharp}
use Rattle.coding.proofs.Below.{all_below, below_at, below_both, ◌implies◌, implied}

pub letter_range : (c : ℕ) → is_letter c ≡ true → (32 ≤ c) × (c < 128)
unfolding is_letter
letter_range c t = let p = and_parts (leb 32 c) (ltb c 128) t in (leb-true _ _ p.0, ltb-true _ _ p.1)

pub letter_from : (c : ℕ) → 32 ≤ c → c < 128 → is_letter c ≡ true
unfolding is_letter
letter_from c lo hi = and_from _ _ (le-leb _ _ lo) (lt-ltb _ _ hi)

-- what the distance of byte b from that of letter c says of the letter that it is read as
letters_at : ℕ → ℕ → Bool
letters_at b c = let d = distance (encode_letter c) b in let r = decode_letter b in is_letter c implies ((eqb d 0 implies eqb r c) && (eqb d 1 implies eqb r 0))

letters_test : all_below 256 (λ b. all_below 128 (letters_at b)) ≡ true
unfolding distance ones_in is_letter odd_parity encode_letter decode_letter letters_at
letters_test = refl

record Letters (b c : ℕ) : Type 0 where
  whole : distance (encode_letter c) b ≡ 0 → decode_letter b ≡ c
  one : distance (encode_letter c) b ≡ 1 → decode_letter b ≡ 0

letters : (b c : ℕ) → b < 256 → is_letter c ≡ true → Letters b c
unfolding letters_at
letters b c hb hc =
    let t = and_parts _ _ (implied _ _ (below_both 256 128 letters_at letters_test b c hb (letter_range c hc).1) hc) in
    record { whole = λ h. eqb-true _ _ (implied _ _ t.0 (eq-eqb _ _ h)); one = λ h. eqb-true _ _ (implied _ _ t.1 (eq-eqb _ _ h)) }

pub reads_whole : (b : ℕ) → b < 256 → (c : ℕ) → is_letter c ≡ true → distance (encode_letter c) b ≡ 0 → decode_letter b ≡ c
reads_whole b hb c hc = (letters b c hb hc).whole

pub detects_one : (b : ℕ) → b < 256 → (c : ℕ) → is_letter c ≡ true → distance (encode_letter c) b ≡ 1 → decode_letter b ≡ 0
detects_one b hb c hc = (letters b c hb hc).one

-- the two tests of a byte, and what it is read as
pub odd_letter : (b : ℕ) → odd_parity b ≡ true → is_letter (b % 128) ≡ true → b % 128 ≡ decode_letter b
unfolding decode_letter
odd_letter b odd letter = sym (cond-true _ _ _ (and_from _ _ odd letter))

pub no_letter : (b : ℕ) → (odd_parity b && is_letter (b % 128)) ≡ false → decode_letter b ≡ 0
unfolding decode_letter
no_letter b failed = cond-false _ _ _ failed

-- what the answer of `decode_letter` rests on
pub ruleset letter_laws = (odd_letter, no_letter, reads_whole, detects_one, letter_range)

-- the byte of letter c with its two lowest bits turned
turned : ℕ → ℕ
turned c = bit_xor (encode_letter c) 3

turned_at : ℕ → Bool
turned_at c = is_letter c implies (ltb (turned c) 256 && (eqb (distance (encode_letter c) (turned c)) 2 && (is_letter (decode_letter (turned c)) && not (eqb (decode_letter (turned c)) c))))

turned_test : all_below 128 turned_at ≡ true
unfolding distance ones_in is_letter odd_parity encode_letter decode_letter turned turned_at
turned_test = refl

pub letter_limit_sharp : LetterLimitSharp
unfolding turned_at
letter_limit_sharp c hc =
    let t = and_parts _ _ (implied _ _ (below_at 128 turned_at turned_test c (letter_range c hc).1) hc) in
    let u = and_parts _ _ t.1 in
    let v = and_parts _ _ u.1 in
    (turned c, ltb-true _ _ t.0, eqb-true _ _ u.0, v.0, eqb-false _ _ (not-true _ v.1))

pub letter_byte : (c : ℕ) → encode_letter c < 256
unfolding encode_letter
letter_byte c = cond_both (odd_parity (c % 128)) (c % 128) (c % 128 + 128) (λ x. x < 256) (λ _. omega arith) (λ _. omega arith)

-- a byte is read as a letter or as 0
read_test : all_below 256 (λ b. eqb (decode_letter b) 0 || is_letter (decode_letter b)) ≡ true
unfolding ones_in is_letter odd_parity decode_letter
read_test = refl

pub letter_or_none : (b : ℕ) → b < 256 → (eqb (decode_letter b) 0 || is_letter (decode_letter b)) ≡ true
letter_or_none b h = below_at 256 (λ b. eqb (decode_letter b) 0 || is_letter (decode_letter b)) read_test b h
