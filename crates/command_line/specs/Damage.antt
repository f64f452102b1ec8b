-- The command line: what the words behind the program's name ask for. Assumes nothing: these are definitions.
use Rattle.std.specs.Prelude.{ℕ, ◌-◌, ◌^◌, cond, List, [], ◌∷◌, Some, None, codes, Option}
use Rattle.std.specs.Str.{bytes_eq}
use Rattle.text.specs.Number.{number_in}
use Rattle.command_line.specs.declared.damage.Settings.{Settings}
use Rattle.command_line.specs.declared.damage.Command.{Command}
use Rattle.command_line.specs.declared.damage.Command.TheVariants.{Help, Damage}

-- the number of 64 bits that a word writes
abbrev pub number_of : List ℕ → Option ℕ
number_of word = number_in 0 (2 ^ 64 - 1) word

-- what holds where nothing is given
abbrev pub defaults : Settings
defaults = record { seed = 1; lose = 50; numbers = 20; letters = 50 }

-- the settings with one given by its word; none if there is no such word
unfoldable pub with_setting : Settings → List ℕ → ℕ → Option Settings
with_setting s word n =
    cond (bytes_eq word (codes "--seed")) (Some (record { seed = n; lose = s.lose; numbers = s.numbers; letters = s.letters }))
    (cond (bytes_eq word (codes "--lose")) (Some (record { seed = s.seed; lose = n; numbers = s.numbers; letters = s.letters }))
    (cond (bytes_eq word (codes "--numbers")) (Some (record { seed = s.seed; lose = s.lose; numbers = n; letters = s.letters }))
    (cond (bytes_eq word (codes "--letters")) (Some (record { seed = s.seed; lose = s.lose; numbers = s.numbers; letters = n })) None)))

-- the number, and the settings with it, if there are these
unfoldable pub set_by : Settings → List ℕ → Option ℕ → Option Settings
set_by s word None = None
set_by s word (Some n) = with_setting s word n

-- what is asked for with settings, if there are some
unfoldable pub with_settings : Option Settings → (Settings → Option Command) → Option Command
with_settings None ask = None
with_settings (Some s) ask = ask s

-- what words ask for behind settings that were given: `--help`, or a word and a number each
unfoldable pub asked : Settings → List (List ℕ) → Option Command
asked s [] = Some (Damage s)
asked s (w ∷ []) = cond (bytes_eq w (codes "--help")) (Some Help) None
asked s (w ∷ n ∷ ws) = cond (bytes_eq w (codes "--help")) (Some Help) (with_settings (set_by s w (number_of n)) (λ t. asked t ws))
