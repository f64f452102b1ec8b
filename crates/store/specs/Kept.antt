-- The law of an index, of a directory: it agrees with every store in which the same pages stand in the same slots. A proof, and it stands here since a ghost member in src/ can cite nothing else of its own crate. Assumes nothing.
use Rattle.std.proofs.Common.{◌≡◌, ℕ, ◌/◌, ◌<◌, List, Option, Some, None, sym, ap, ◌∙◌, subst}
use Rattle.store.specs.Layout.{slots, holds}
use Rattle.store.specs.Directory.{EntryOf, ListsBelow, Lists, SamePlaces}
use Rattle.store.specs.declared.directory.Directory.{Directory}

entry_kept : (s t : List ℕ) (n : ℕ) (entry : Option ℕ) (i : ℕ) → ((j : ℕ) → holds t n j ≡ holds s n j) → EntryOf s n entry i → EntryOf t n entry i
entry_kept s t n None i same w = λ j lt. same j ∙ w j lt
entry_kept s t n (Some k) i same w = (w.0, same k ∙ w.1)

pub lists_kept : (d : Directory) (s t : List ℕ) → SamePlaces s t → Lists s d → Lists t d
lists_kept d s t same w =
    let count : slots t ≡ slots s = ap (λ n. n / 1003) same.long in
    record {
      pages = subst (λ k. ListsBelow t d.entries k) (sym count) (λ n h. entry_kept s t n _ (slots s) (same.pages n) (w.pages n h));
      taken = λ j h within off. w.taken j h (subst (λ m. j < m) count within) (sym (same.marks j) ∙ off);
    }
