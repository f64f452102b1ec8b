-- What is read of a damaged copy of a line. Assumes nothing.
use Rattle.std.proofs.Common.{◌≡◌, ℕ, ◌+◌, ◌<◌, ◌≤◌, true, cond, ◌&&◌, eqb, ltb, List, length, get_or, sym, refl, ap, ◌∙◌, subst, ⊎_elim, arith}
use Rattle.std.proofs.lemmas.Bool.{and_parts, and_from, lt-ltb, ltb-true, eq-eqb, eqb-true, cases_lt, cond-true, cond-false, cond_both}
use Rattle.coding.specs.Hamming.{distance}
use Rattle.coding.specs.Parity.{encode_letter, decode_letter}
use Rattle.coding.proofs.Numbers.{corrects_one, detects_two, distance_self}
use Rattle.coding.proofs.Letters.{letter_range, reads_whole, detects_one}
use Rattle.line.specs.Line.{Valid, header_numbers, encode_line, letters_at, meaning}
use Rattle.line.specs.Reading.{number_of, pair_of, row_of, readable, letters_of, fragment}
use Rattle.line.specs.Damage.{Copy, Brings}
use Rattle.line.specs.Laws.{PartOf, ReadsBrought, Undamaged}
use Rattle.line.specs.declared.Line.{Line}
use Rattle.line.proofs.Encoding.{word_at, letter_at, encode_length, number_small, encoded_byte, meant_at}
use Rattle.line.proofs.Readability.{readable_parts, readable_from}

-- page, version and row as the line has them
pub record SameHeader (m : Line) (l : List ℕ) : Type 0 where
  pub page : pair_of l 0 ≡ m.page
  pub version : pair_of l 1 ≡ m.version
  pub row : pair_of l 2 ≡ m.row

same_header : (m : Line) (l : List ℕ) → ((k : ℕ) → k < 6 → number_of l k ≡ get_or (header_numbers m) k 0) → SameHeader m l
unfolding pair_of
same_header m l at = record {
  page = omega (arith, at 0 (omega arith), at 1 (omega arith));
  version = omega (arith, at 2 (omega arith), at 3 (omega arith));
  row = omega (arith, at 4 (omega arith), at 5 (omega arith));
}

-- one line's copy
module _ (m : Line) (l : List ℕ) (copy : Copy m l) where
  number_near : (k : ℕ) → k < 6 → distance (get_or (encode_line m) k 0) (get_or l k 0) ≤ 1 → number_of l k ≡ get_or (header_numbers m) k 0
  unfolding number_of
  number_near k h near =
      corrects_one (get_or l k 0) (copy.bytes k) (get_or (header_numbers m) k 0) (number_small m copy.valid k h) (subst (λ w. distance w (get_or l k 0) ≤ 1) (word_at m k h) near)

  -- a number that is made out is the one that was sent
  number_made_out : (k : ℕ) → k < 6 → number_of l k < 16 → number_of l k ≡ get_or (header_numbers m) k 0
  unfolding number_of
  number_made_out k h made =
      let d = distance (get_or (encode_line m) k 0) (get_or l k 0) in
      let most : d ≤ 2 = copy.damage.numbers k h in
      ⊎_elim (λ lt. number_near k h (omega arith))
      (λ ge. let two : d ≡ 2 = omega arith in
      absurd (omega (arith, detects_two (get_or l k 0) (copy.bytes k) (get_or (header_numbers m) k 0) (number_small m copy.valid k h) (subst (λ w. distance w (get_or l k 0) ≡ 2) (word_at m k h) two)))) (cases_lt d 2)

  header_read : readable l ≡ true → SameHeader m l
  header_read e = same_header m l (λ k h. number_made_out k h ((readable_parts l e).numbers k h))

  -- a letter that is read is the one that was sent
  letter_read : (c : ℕ) → c < 40 → 0 < decode_letter (get_or l (6 + c) 0) → decode_letter (get_or l (6 + c) 0) ≡ get_or m.letters c 0
  letter_read c h known =
      let x = get_or m.letters c 0 in
      let b = get_or l (6 + c) 0 in
      let e : get_or (encode_line m) (6 + c) 0 ≡ encode_letter x = letter_at m c (omega (arith, copy.valid.long)) in
      let most : distance (encode_letter x) b ≤ 1 = subst (λ w. distance w b ≤ 1) e (copy.damage.letters c h) in
      ⊎_elim (λ lt. reads_whole b (copy.bytes (6 + c)) x (copy.valid.letters c h) (omega arith))
      (λ ge. absurd (omega (arith, detects_one b (copy.bytes (6 + c)) x (copy.valid.letters c h) (omega arith)))) (cases_lt (distance (encode_letter x) b) 1)

  pub reads_part : readable l ≡ true → PartOf (fragment l) (meaning m)
  unfolding letters_of letters_at
  reads_part e =
      let is = header_read e in
      record {
        page = is.page;
        version = is.version;
        letters = λ r c. cond_both (eqb r (row_of l) && ltb c 40) (decode_letter (get_or l (6 + c) 0)) 0 (λ x. 0 < x → x ≡ cond (eqb r m.row && ltb c 40) (get_or m.letters c 0) 0)
            (λ t known. let at = and_parts (eqb r (row_of l)) (ltb c 40) t in
            letter_read c (ltb-true _ _ at.1) known ∙ sym (cond-true _ _ _ (and_from _ _ (eq-eqb _ _ (eqb-true _ _ at.0 ∙ is.row)) at.1)))
            (λ _ none. absurd (omega arith));
      }

-- each number within a bit: the line is made out
near_readable : (m : Line) (l : List ℕ) (copy : Copy m l) → ((k : ℕ) → k < 6 → distance (get_or (encode_line m) k 0) (get_or l k 0) ≤ 1) → readable l ≡ true
near_readable m l copy near =
    let at : (k : ℕ) → k < 6 → number_of l k ≡ get_or (header_numbers m) k 0 = λ k h. number_near m l copy k h (near k h) in
    readable_from l (record {
      long = copy.damage.came_long;
      numbers = λ k h. subst (λ x. x < 16) (sym (at k h)) (number_small m copy.valid k h);
      row = subst (λ x. x < 25) (sym (same_header m l at).row) copy.valid.row;
    })

-- the letter's byte came undamaged: the letter is read
brought_letter : (m : Line) (l : List ℕ) (r c : ℕ) → Brings m l r c → decode_letter (get_or l (6 + c) 0) ≡ get_or m.letters c 0
brought_letter m l r c w =
    let valid = w.copy.valid in
    let e : get_or (encode_line m) (6 + c) 0 ≡ encode_letter (get_or m.letters c 0) = letter_at m c (omega (arith, valid.long, w.column)) in
    reads_whole (get_or l (6 + c) 0) (w.copy.bytes (6 + c)) (get_or m.letters c 0) (valid.letters c w.column) (subst (λ b. distance b (get_or l (6 + c) 0) ≡ 0) e w.letter)

pub reads_brought : (l : List ℕ) → ReadsBrought l
unfolding letters_of
reads_brought l m r c w =
    let copy = w.copy in
    let small = w.column in
    let readable = near_readable m l copy w.numbers in
    let x = get_or m.letters c 0 in
    let is : decode_letter (get_or l (6 + c) 0) ≡ x = brought_letter m l r c w in
    let meant : letters_at m.row m.letters r c ≡ x = subst (λ q. letters_at m.row m.letters q c ≡ x) w.row (meant_at m c small) in
    let here : (eqb r (row_of l) && ltb c 40) ≡ true = and_from _ _ (eq-eqb _ _ (sym w.row ∙ sym (header_read m l copy readable).row)) (lt-ltb _ _ small) in
    (readable, subst (λ y. 0 < y) (sym meant) (omega (arith, (letter_range x (copy.valid.letters c small)).0)), cond-true _ _ _ here ∙ is ∙ sym meant)

pub undamaged : (m : Line) → Valid m → Undamaged m (encode_line m)
unfolding letters_of letters_at
undamaged m v =
    let l = encode_line m in
    let zero-apart : (k : ℕ) → distance (get_or l k 0) (get_or l k 0) ≡ 0 = λ k. distance_self (get_or l k 0) in
    let long : length l ≡ 46 = encode_length m ∙ ap (λ n. 6 + n) v.long in
    let copy : Copy m l = record {
      valid = v;
      bytes = encoded_byte m v;
      damage = record { sent_long = long; came_long = long; numbers = λ k _. omega (arith, zero-apart k); letters = λ c _. omega (arith, zero-apart (6 + c)) };
    } in
    let near : (k : ℕ) → k < 6 → distance (get_or l k 0) (get_or l k 0) ≤ 1 = λ k _. omega (arith, zero-apart k) in
    let brings : (c : ℕ) → c < 40 → Brings m l m.row c = λ c h. record { copy = copy; row = refl; column = h; numbers = near; letter = zero-apart (6 + c) } in
    let readable = near_readable m l copy near in
    let is = header_read m l copy readable in
    let letter-whole : (c : ℕ) → c < 40 → decode_letter (get_or l (6 + c) 0) ≡ get_or m.letters c 0 =
    λ c h. brought_letter m l m.row c (brings c h) in
    record {
      none_turned = zero-apart;
      copy = copy;
      brings = brings;
      readable = readable;
      page = is.page;
      version = is.version;
      letters = λ r c.
          ap (λ q. cond (eqb r q && ltb c 40) (decode_letter (get_or l (6 + c) 0)) 0) is.row
          ∙ cond_both (eqb r m.row && ltb c 40) (decode_letter (get_or l (6 + c) 0)) 0 (λ x. x ≡ cond (eqb r m.row && ltb c 40) (get_or m.letters c 0) 0) (λ t. letter-whole c (ltb-true _ _ (and_parts (eqb r m.row) (ltb c 40) t).1) ∙ sym (cond-true _ _ _ t)) (λ t. sym (cond-false _ _ _ t));
    }
