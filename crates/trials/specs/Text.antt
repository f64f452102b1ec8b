-- The text of a page in a version, by a hash of the place of a letter. Assumes nothing: these are definitions.
use Rattle.std.specs.Prelude.{ℕ, ◌+◌, ◌*◌, ◌%◌, ◌^◌}
use Rattle.channel.specs.Random.{seeded, next_state, drawn_below}

-- the place of a letter among those of all pages and versions
abbrev pub place_of : (page version row column : ℕ) → ℕ
place_of page version row column = (page * 0x1_0000_0000 + version * 0x100_0000 + row * 0x1_0000 + column) % 2 ^ 64

-- the letter there: 32 and the second number below 96 that is drawn from the place's seed
unfoldable pub text_letter : (page version row column : ℕ) → ℕ
text_letter page version row column = 32 + drawn_below 96 (next_state (seeded ((place_of page version row column * 0x9E37_79B9_7F4A_7C15) % 2 ^ 64)))
