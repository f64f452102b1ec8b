-- The Hamming 8/4 code: a number from 0 to 15 is sent as one of sixteen bytes, any two of which differ in four bits at least. Assumes nothing: these are definitions.
use Rattle.std.specs.Prelude.{ℕ, suc, ◌%◌, cond, List, [], ◌∷◌, bit_xor, nat_le, slice_index}
use Rattle.std.specs.Int.Count.{ones_in}

-- the Hamming distance of two bytes: in how many of their eight bits they differ
unfoldable pub distance : ℕ → ℕ → ℕ
distance a b = ones_in 8 (bit_xor a b)

-- the code words of 0 to 15
unfoldable pub code_words : List ℕ
code_words = 21 ∷ 2 ∷ 73 ∷ 94 ∷ 100 ∷ 115 ∷ 56 ∷ 47 ∷ 208 ∷ 199 ∷ 140 ∷ 155 ∷ 161 ∷ 182 ∷ 253 ∷ 234 ∷ []

-- the code word of a number's lower four bits
unfoldable pub encode_number : ℕ → ℕ
encode_number n = slice_index code_words (n % 16)

-- the place of the first word that differs from a byte in one bit at most; how many words there are if there is none
unfoldable pub nearest : List ℕ → ℕ → ℕ
nearest [] b = 0
nearest (w ∷ ws) b = cond (nat_le (distance w b) 1) 0 (suc (nearest ws b))

-- the number that a byte is read as: the one whose word it is, or differs from in one bit; 16 if there is none
unfoldable pub decode_number : ℕ → ℕ
decode_number b = nearest code_words b
