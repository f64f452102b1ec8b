-- Reading a line in hex: the digits' table, and one step of the reader. Assumes nothing.
use Rattle.std.proofs.Common.{◌≡◌, ℕ, ◌+◌, ◌*◌, ◌<◌, ◌≤◌, ltb, List, [], ◌∷◌, ◌++◌, map, length, get_or, Some, None, Option, MatchOption, sym, refl, ap, ◌∙◌, ⊎_elim, append_assoc, append-nil, zero-add, arith}
use Rattle.std.specs.List.{range_with_len}
use Rattle.std.specs.Bool.{then_some}
use Rattle.std.specs.Option.{option_map}
use Rattle.std.proofs.lemmas.List.FromFn.{get_or-map-range_with_len}
use Rattle.std.proofs.lemmas.List.{nil_from_length}
use Rattle.std.proofs.lemmas.Bool.{eq-eqb, ne_eqb, cond-true, cond-false, and_from, lt-ltb, le-ltb, cases_lt}
use Rattle.text.specs.Hex.{blank, digit_value, byte_of, in_front, hex_bytes}

-- the values of all bytes as digits
unfoldable pub table : List ℕ
table = map digit_value (range_with_len 0 256)

pub table_at : (c : ℕ) → c < 256 → get_or table c 0 ≡ digit_value c
unfolding table
table_at c h = get_or-map-range_with_len digit_value 0 256 c c 0 h (zero-add c)

-- what the table says of a byte: a value below 16 is a digit's, and any other is none
pub digit_there : (c i : ℕ) (o : Option ℕ) → c < 256 → i ≡ c → o ≡ then_some (ltb (get_or table i 0) 16) (get_or table i 0) → MatchOption o (16 ≤ digit_value c) (λ value. (value ≡ digit_value c) × (value < 16))
digit_there c i o low at e =
    let is : get_or table i 0 ≡ digit_value c = rw at (table_at c low) in
    let found : o ≡ then_some (ltb (digit_value c) 16) (digit_value c) = e ∙ ap (λ v. then_some (ltb v 16) v) is in
    ⊎_elim
    (λ digit. rw (found ∙ ap (λ b. then_some b (digit_value c)) (lt-ltb (digit_value c) 16 digit)) (refl, digit))
    (λ other. rw (found ∙ ap (λ b. then_some b (digit_value c)) (le-ltb (digit_value c) 16 other)) other)
    (cases_lt (digit_value c) 16)

-- bytes in front of those that the rest spells, if it spells any
abbrev pub after : List ℕ → Option (List ℕ) → Option (List ℕ)
after front rest = option_map (λ bs. front ++ bs) rest

-- one byte more in front
pub after_push : (front : List ℕ) (b : ℕ) (o : Option (List ℕ)) → after front (in_front (Some b) o) ≡ after (front ++ b ∷ []) o
unfolding in_front
after_push front b None = refl
after_push front b (Some bs) = ap Some (sym (append_assoc front (b ∷ []) bs))

-- a blank is passed over
pub front_blank : (c : ℕ) (t : List ℕ) → c ≡ blank → hex_bytes (c ∷ t) ≡ hex_bytes t
unfolding hex_bytes
front_blank c [] e = cond-true _ _ _ (eq-eqb _ _ e)
front_blank c (d ∷ t) e = cond-true _ _ _ (eq-eqb _ _ e)

-- what is no blank begins a byte
pub front_byte : (c d : ℕ) (t : List ℕ) → (c ≡ blank → ⊥) → hex_bytes (c ∷ d ∷ t) ≡ in_front (byte_of c d) (hex_bytes t)
unfolding hex_bytes
front_byte c d t ne = cond-false _ _ _ (ne_eqb _ _ ne)

-- a line, of which some bytes were read and some codes are left
module _ (line read left : List ℕ) (so_far : hex_bytes line ≡ after read (hex_bytes left)) where
  -- none are left
  pub all_read : length left ≡ 0 → hex_bytes line ≡ Some read
  unfolding hex_bytes
  all_read none = so_far ∙ ap (λ l. after read (hex_bytes l)) (nil_from_length left none) ∙ ap Some (append-nil read)

  -- a blank is the next
  pub blank_read : (c : ℕ) (rest : List ℕ) → left ≡ c ∷ rest → c ≡ blank → hex_bytes line ≡ after read (hex_bytes rest)
  blank_read c rest next is = so_far ∙ ap (after read) (ap hex_bytes next ∙ front_blank c rest is)

  -- the line ends inside a byte
  pub half_read : (c : ℕ) (rest : List ℕ) → left ≡ c ∷ rest → (c ≡ blank → ⊥) → length rest ≡ 0 → hex_bytes line ≡ None
  unfolding hex_bytes
  half_read c rest next ne end =
      so_far ∙ ap (after read) (ap hex_bytes (next ∙ ap (λ r. c ∷ r) (nil_from_length rest end)) ∙ cond-false _ _ _ (ne_eqb _ _ ne))

  module _ (c d : ℕ) (rest behind : List ℕ) (next : left ≡ c ∷ rest) (ne : c ≡ blank → ⊥) (second : rest ≡ d ∷ behind) where
    at_byte : hex_bytes line ≡ after read (in_front (byte_of c d) (hex_bytes behind))
    at_byte = so_far ∙ ap (after read) (ap hex_bytes (next ∙ ap (λ r. c ∷ r) second) ∙ front_byte c d behind ne)

    -- two codes that spell no byte are the next
    pub not_read : None ≡ byte_of c d → hex_bytes line ≡ None
    unfolding in_front
    not_read none = at_byte ∙ ap (λ o. after read (in_front o (hex_bytes behind))) (sym none)

    -- a byte is the next
    pub byte_read : (b : ℕ) (more : List ℕ) → Some b ≡ byte_of c d → more ≡ read ++ b ∷ [] → hex_bytes line ≡ after more (hex_bytes behind)
    byte_read b more some pushed = rw pushed at_more
      where
        at_more : hex_bytes line ≡ after (read ++ b ∷ []) (hex_bytes behind)
        at_more = at_byte ∙ ap (λ o. after read (in_front o (hex_bytes behind))) (sym some) ∙ after_push read b (hex_bytes behind)

-- the byte that two digits spell
pub is_byte : (high low h l : ℕ) → h ≡ digit_value high → l ≡ digit_value low → h < 16 → l < 16 → Some (16 * h + l) ≡ byte_of high low
unfolding byte_of
is_byte high low h l eh el lh ll =
    let here : 16 * h + l ≡ 16 * digit_value high + digit_value low = omega arith in
    ap Some here ∙ sym (cond-true _ _ _ (and_from _ _ (lt-ltb (digit_value high) 16 (omega arith)) (lt-ltb (digit_value low) 16 (omega arith))))
