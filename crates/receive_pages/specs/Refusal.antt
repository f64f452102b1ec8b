-- Why something that is read is turned away, and how that is said. Assumes nothing: these are definitions.
use Rattle.std.specs.Prelude.{ℕ, List, ◌++◌, codes}
use Rattle.std.specs.Fmt.{decimal}
use Rattle.receiver.specs.Entry.{number as number_of_refusal}
use Rattle.receive_pages.specs.declared.refusal.Reason.{Reason}
use Rattle.receive_pages.specs.declared.refusal.Reason.TheVariants.{Receiver, Text}
use Rattle.receive_pages.specs.declared.refusal.Refusal.{Refusal}

-- the number of a reason: 1 or 2 where the receiver turns it away, 3 for what isn't bytes in hex
abbrev pub number : Reason → ℕ
number (Receiver refusal) = number_of_refusal refusal
number Text = 3

-- a refusal as it is said
abbrev pub refusal_text : Refusal → List ℕ
refusal_text refusal = codes "refused " ++ decimal (number refusal.reason) ++ codes ", place " ++ decimal refusal.place
