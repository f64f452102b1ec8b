-- What is promised of lines that are made and read. Each is a statement that the contract of a function names. Assumes nothing: these are definitions.
use Rattle.std.specs.Prelude.{◌≡◌, ℕ, ◌<◌, true, List, slice_index}
use Rattle.coding.specs.Hamming.{distance}
use Rattle.line.specs.Line.{encode_line, Fragment, meaning}
use Rattle.line.specs.Reading.{readable, fragment}
use Rattle.line.specs.Damage.{Copy, Brings}
use Rattle.line.specs.declared.Line.{Line}

-- a fragment says nothing but what another says
pub record PartOf (f g : Fragment) : Type 0 where
  pub page : f.page ≡ g.page
  pub version : f.version ≡ g.version
  pub letters : (r c : ℕ) → 0 < f.letters r c → f.letters r c ≡ g.letters r c

-- of a damaged copy nothing is read but what the line says
abbrev pub ReadsPart : (came : List ℕ) → Type 0
ReadsPart came = (m : Line) → Copy m came → readable came ≡ true → PartOf (fragment came) (meaning m)

-- a letter that the copy brings is read, as the line has it
abbrev pub ReadsBrought : (came : List ℕ) → Type 0
ReadsBrought came = (m : Line) (r c : ℕ) → Brings m came r c → (readable came ≡ true) × (0 < (meaning m).letters r c) × ((fragment came).letters r c ≡ (meaning m).letters r c)

-- bytes as they are sent: an undamaged copy of the line, which brings each of its letters and is read as it was meant
pub record Undamaged (m : Line) (bytes : List ℕ) : Type 0 where
  pub none_turned : (k : ℕ) → distance (slice_index (encode_line m) k) (slice_index bytes k) ≡ 0
  pub copy : Copy m bytes
  pub brings : (c : ℕ) → c < 40 → Brings m bytes m.row c
  pub readable : readable bytes ≡ true
  pub page : (fragment bytes).page ≡ m.page
  pub version : (fragment bytes).version ≡ m.version
  pub letters : (r c : ℕ) → (fragment bytes).letters r c ≡ (meaning m).letters r c
