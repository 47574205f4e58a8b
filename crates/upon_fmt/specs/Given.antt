-- What an output has received. Its bytes may be unknown.
use Rattle.std.specs.Prelude.{◌≡◌, ◌<◌, ℕ, List, ◌++◌, length, Option, Result, Ok, Err}
use Rattle.std.specs.Io.KnownBytes.{Appends}
use Rattle.upon_fmt.specs.Mark.{LeftOut}
use Rattle.upon_fmt.specs.declared.output.Mark.{Mark}

-- a beginning of the text was received: nothing of it, a part, or all
abbrev pub ReceivesPart : Option (List ℕ) → Option (List ℕ) → List ℕ → Type 0
ReceivesPart old new text = (received rest : List ℕ) × (text ≡ received ++ rest) × Appends old new received

-- a beginning of the text was received, and not all of it
abbrev pub Short : Option (List ℕ) → Option (List ℕ) → List ℕ → Type 0
Short old new text =
    (received rest : List ℕ) × (text ≡ received ++ rest) × (0 < length rest) × Appends old new received

-- all of the text was received, and the mark stays; or something of it was not, and the mark says why
abbrev pub Gave : {E : Type 0} → Option (List ℕ) → Option (List ℕ) → Mark → Mark → Result (Unit {0}) E → List ℕ
    → Type 0
Gave old new mark mark' (Ok u) text = Appends old new text × (mark' ≡ mark)
Gave old new mark mark' (Err e) text = Short old new text × LeftOut mark mark'

-- all of the text was received; or something of it was not
abbrev pub Wrote : {E : Type 0} → Option (List ℕ) → Option (List ℕ) → Result (Unit {0}) E → List ℕ → Type 0
Wrote old new (Ok u) text = Appends old new text
Wrote old new (Err e) text = Short old new text
