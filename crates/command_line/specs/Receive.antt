-- The command line: what the words behind the program's name ask for. Assumes nothing: these are definitions.
use Rattle.std.specs.Prelude.{◌≡◌, ℕ, cond, ◌||◌, List, [], ◌∷◌, ◌++◌, length, is_some, Some, None, vec_items, string_bytes, codes, Option, String, ◌==◌}
use Rattle.std.specs.declared.alloc.Global.{Global}
use Rattle.std.specs.Str.{bytes_eq}
use Rattle.text.specs.Number.{number_in}
use Rattle.command_line.specs.Words.{first_number}
use Rattle.command_line.specs.declared.receive.Command.{Command}
use Rattle.command_line.specs.declared.receive.Command.TheVariants.{Help, Receive}
use Rattle.command_line.specs.declared.receive.Options.{Options}
use Rattle.command_line.specs.declared.receive.OptionsError.{OptionsError}
use Rattle.command_line.specs.declared.receive.OptionsError.TheVariants.{Wrong, Memory}
use Rattle.command_line.specs.declared.receive.Valued.{Valued}
use Rattle.command_line.specs.declared.receive.Valued.TheVariants.{Slots, Store, Follow}

-- what words gave: the slots, the store's file and the page to follow, each once at most, and the pages to print
pub record Given : Type 0 where
  pub slots : Option ℕ
  pub store : Option (List ℕ)
  pub follow : Option ℕ
  pub pages : List ℕ

-- no word gives nothing
abbrev pub nothing : Given
nothing = record { slots = None; store = None; follow = None; pages = [] }

-- what a command line asks for: the usage, or to receive with what was given; or its words are wrong
pub data Asked : Type 0 where
  help : Asked
  receive : Given → Asked
  wrong : Asked

-- the option that a word names, of those that have a value
abbrev pub named : List ℕ → Option Valued
named word =
    cond (bytes_eq word (codes "--slots")) (Some Slots)
    (cond (bytes_eq word (codes "--store")) (Some Store) (cond (bytes_eq word (codes "--follow")) (Some Follow) None))

-- the name of a file, which isn't empty and not given twice
abbrev pub first_file : Option (List ℕ) → List ℕ → Option (List ℕ)
first_file before word = cond (is_some before || length word == 0) None (Some word)

-- what is given with a value more, if there is one
abbrev pub given_with : {A : Type 0} → Option A → (A → Given) → Option Given
given_with None more = None
given_with (Some x) more = Some (more x)

-- what is given with an option and its value more: 1 to 60 slots, a file's name, a page from 0 to 255
abbrev pub with_value : Valued → List ℕ → Given → Option Given
with_value Slots word g =
    given_with (first_number g.slots 1 60 word) (λ n. record { slots = Some n; store = g.store; follow = g.follow; pages = g.pages })
with_value Store word g =
    given_with (first_file g.store word) (λ f. record { slots = g.slots; store = Some f; follow = g.follow; pages = g.pages })
with_value Follow word g =
    given_with (first_number g.follow 0 255 word) (λ p. record { slots = g.slots; store = g.store; follow = Some p; pages = g.pages })

-- what is given with a page more, from 0 to 255
abbrev pub with_page : List ℕ → Given → Option Given
with_page word g =
    given_with (number_in 0 255 word) (λ p. record { slots = g.slots; store = g.store; follow = g.follow; pages = g.pages ++ p ∷ [] })

-- what is asked for with what is given, if that isn't wrong
unfoldable pub if_given : Option Given → (Given → Asked) → Asked
if_given None then = wrong
if_given (Some g) then = then g

-- what is asked for by the option that a word names, or if it names none
unfoldable pub by_option : Option Valued → (Valued → Asked) → Asked → Asked
by_option None then otherwise = otherwise
by_option (Some option) then otherwise = then option

-- what words ask for behind others that gave something, and named an option whose value is the next word, or none: `--help`, an option that has a value, or a page
unfoldable pub asked_behind : Option Valued → Given → List (List ℕ) → Asked
asked_behind None g [] = receive g
asked_behind (Some option) g [] = wrong
asked_behind None g (word ∷ words) =
    cond (bytes_eq word (codes "--help")) help
    (by_option (named word) (λ option. asked_behind (Some option) g words) (if_given (with_page word g) (λ more. asked_behind None more words)))
asked_behind (Some option) g (word ∷ words) = if_given (with_value option word g) (λ more. asked_behind None more words)

-- what the words of a command line ask for
abbrev pub asked : List (List ℕ) → Asked
asked words = asked_behind None nothing words

-- the text of a file's name, if there is one
abbrev pub file_text : Option (String Global) → Option (List ℕ)
file_text None = None
file_text (Some name) = Some (string_bytes name)

-- what options stand for
abbrev pub given : Options → Given
given o = record { slots = o.slots; store = file_text o.store; follow = o.follow; pages = vec_items o.pages }

-- what a command stands for
abbrev pub meant : Command → Asked
meant Help = help
meant (Receive options) = receive (given options)

-- what an error says of a command line
abbrev pub Says : OptionsError → Asked → Type 0
Says Wrong a = a ≡ wrong
Says Memory a = Unit {0}

-- what an error says of a word: it gives nothing
abbrev pub Denies : OptionsError → Option Given → Type 0
Denies Wrong g = g ≡ None
Denies Memory g = Unit {0}
