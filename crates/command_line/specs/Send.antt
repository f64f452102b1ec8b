-- The command line: what the words behind the program's name ask for. Assumes nothing: these are definitions.
use Rattle.std.specs.Prelude.{ℕ, ◌-◌, ◌^◌, cond, List, [], ◌∷◌, Some, None, codes, Option}
use Rattle.std.specs.Option.{unwrap_or}
use Rattle.std.specs.Str.{bytes_eq}
use Rattle.command_line.specs.Words.{first_number}
use Rattle.command_line.specs.declared.send.Command.{Command}
use Rattle.command_line.specs.declared.send.Command.TheVariants.{Help, Send}

-- what a command line asks for: the usage, or to send so many rounds; or its words are wrong
pub data Asked : Type 0 where
  help : Asked
  send : ℕ → Asked
  wrong : Asked

-- the rounds are a number of 64 bits, and not given twice
abbrev pub first_rounds : Option ℕ → List ℕ → Option ℕ
first_rounds before word = first_number before 0 (2 ^ 64 - 1) word

-- what is asked for with a number, if there is one
unfoldable pub with_number : Option ℕ → (ℕ → Asked) → Asked
with_number None asked = wrong
with_number (Some n) asked = asked n

-- what words ask for behind others that gave the rounds: `--help`, or `--rounds` and their number; one round if none are given
unfoldable pub asked_behind : Option ℕ → List (List ℕ) → Asked
asked_behind rounds [] = send (unwrap_or rounds 1)
asked_behind rounds (w ∷ []) = cond (bytes_eq w (codes "--help")) help wrong
asked_behind rounds (w ∷ n ∷ ws) =
    cond (bytes_eq w (codes "--help")) help
    (cond (bytes_eq w (codes "--rounds")) (with_number (first_rounds rounds n) (λ k. asked_behind (Some k) ws)) wrong)

-- what the words of a command line ask for
abbrev pub asked : List (List ℕ) → Asked
asked words = asked_behind None words

-- what a command stands for, and no command
abbrev pub meant : Option Command → Asked
meant None = wrong
meant (Some Help) = help
meant (Some (Send rounds)) = send rounds
