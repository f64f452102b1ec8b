-- What the contents of a store's file are. Assumes nothing: these are definitions.
use Rattle.std.specs.Prelude.{◌≡◌, ℕ, ◌+◌, ◌*◌, Bool, true, false, not, List, replicate, IfNone, Some, None, Option, Ok, Err, Result, vec_items, ◌==◌}
use Rattle.std.specs.Option.{unwrap_or}
use Rattle.store.specs.Layout.{slots, well_formed, FirstFault}
use Rattle.store_file.specs.declared.contents.Unusable.{Unusable}
use Rattle.store_file.specs.declared.contents.Unusable.TheVariants.{Fault, OtherSlots}
use Rattle.store_file.specs.declared.file.OpenError.{OpenError}
use Rattle.store_file.specs.declared.file.OpenError.TheVariants.{Io, Unfit}

-- whether a number of slots is asked for, and it isn't the store's
abbrev pub asks_others : Option ℕ → List ℕ → Bool
asks_others None s = false
asks_others (Some n) s = not (n == slots s)

-- what the bytes of a file are: a store, of the number of slots that was asked for; or no store, with its first fault, or one of another number
abbrev pub Judged : List ℕ → Option ℕ → Result Unit Unusable → Type 0
Judged s asked (Ok u) = (well_formed s ≡ true) × (asks_others asked s ≡ false)
Judged s asked (Err (Fault place)) = FirstFault s place
Judged s asked (Err OtherSlots) = (well_formed s ≡ true) × (asks_others asked s ≡ true)

-- the bytes of a store with no page, of as many slots as are asked for, or of 60
abbrev pub no_pages : Option ℕ → List ℕ
no_pages asked = replicate (1003 * unwrap_or asked 60) 0

-- the bytes that are opened: those of a store with no page, where no file is named
abbrev pub Held : {P : Type 0} → Option P → Option ℕ → List ℕ → Type 0
Held path asked s = IfNone path (s ≡ no_pages asked)

-- what an error says of the bytes that are opened, and that it hands back: what they are, if they could be read
abbrev pub Denies : {P : Type 0} → Option P → Option ℕ → OpenError → Type 0
Denies path asked (Io e) = Unit {0}
Denies path asked (Unfit store why) = Held path asked (vec_items store) × Judged (vec_items store) asked (Err why)

-- the most bytes that are read of a file: one more than a store of 60 slots has
abbrev pub most_read : ℕ
most_read = 1003 * 60 + 1
