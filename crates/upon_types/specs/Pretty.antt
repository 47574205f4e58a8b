-- The text of several lines that reports a fault, with the picture of its span.
use Rattle.std.specs.Prelude.{ℕ, ◌-◌, List, ◌++◌, length, replicate, Option, Some, None, codes}
use Rattle.std.specs.Fmt.{decimal}
use Rattle.upon_types.specs.Fault.{Kind, Fault, kind_text, line}
use Rattle.upon_types.specs.Picture.{Picture}
use Rattle.upon_types.specs.Bytes.{space, hyphen, caret}

-- so many blanks
abbrev pub blanks : ℕ → List ℕ
blanks n = replicate n space

-- as many blanks as the number has digits
abbrev pub margin : ℕ → List ℕ
margin number = blanks (length (decimal number))

-- a caret a column, and hyphens up to three
abbrev pub marks : ℕ → List ℕ
marks width = replicate width caret ++ replicate (3 - width) hyphen

-- the template's name, or that it has none
abbrev pub name_or_anonymous : Option (List ℕ) → List ℕ
name_or_anonymous None = codes "<anonymous>"
name_or_anonymous (Some name) = name

-- each line ends with a line feed
abbrev pub picture_lines : List ℕ → List ℕ → List ℕ → ℕ → ℕ → List ℕ → List ℕ → List ℕ → List ℕ
picture_lines kind name reason number column line margin marks =
    kind ++ codes "\n\n"
    ++ codes " " ++ margin ++ codes "--> " ++ name ++ codes ":" ++ decimal number ++ codes ":" ++ decimal column
    ++ codes "\n"
    ++ codes " " ++ margin ++ codes " |\n"
    ++ codes " " ++ decimal number ++ codes " | " ++ line ++ codes "\n"
    ++ codes " " ++ margin ++ codes " | " ++ marks ++ codes "\n"
    ++ codes " " ++ margin ++ codes " |\n"
    ++ codes " " ++ margin ++ codes " = reason: " ++ reason ++ codes "\n"

-- the lines of a fault with its reason and picture
abbrev pub pretty_with_picture : Kind → Option (List ℕ) → List ℕ → Picture → List ℕ
pretty_with_picture kind name reason p =
    picture_lines (kind_text kind) (name_or_anonymous name) reason p.number p.column p.line (margin p.number)
    (blanks (p.column - 1) ++ marks p.width)

-- if a reason or a picture is missing, the one line
abbrev pub pretty_by : Fault → Option (List ℕ) → Option Picture → List ℕ
pretty_by fault None shown = line fault
pretty_by fault (Some reason) None = line fault
pretty_by fault (Some reason) (Some shown) = pretty_with_picture fault.kind fault.name reason shown

-- the text of several lines that reports a fault
abbrev pub pretty : Fault → List ℕ
pretty fault = pretty_by fault fault.reason fault.picture
