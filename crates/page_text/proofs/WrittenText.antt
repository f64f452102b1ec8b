-- Lemmas on the writing of page texts, part by part. Assumes nothing.
use Rattle.std.proofs.Common.{◌≡◌, ℕ, ◌+◌, ◌*◌, List, ◌∷◌, ◌++◌, take, drop, append_assoc, add-one}
use Rattle.std.specs.Fmt.{decimal}
use Rattle.line.specs.Size.{columns}
use Rattle.page_text.specs.Written.{ended, row_line, rows_text}

-- one row more, with the letters that stand in the page for it
pub rows_more : (r : ℕ) (letters ls was a b : List ℕ) → a ≡ was ++ rows_text r letters → b ≡ a ++ ended (decimal r ++ (32 ∷ ls)) → ls ≡ take columns (drop (columns * r) letters) → b ≡ was ++ rows_text (r + 1) letters
unfolding rows_text row_line
rows_more r letters ls was a b f g e = rw (add-one, g, f, e) (simp append_assoc)
