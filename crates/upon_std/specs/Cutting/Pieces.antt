-- How texts are taken apart and put together. A text is its bytes.
use Rattle.std.specs.Prelude.{◌≡◌, ℕ, zero, suc, ◌-◌, ◌≤◌, ◌<◌, Bool, true, false, ◌||◌, List, [], ◌∷◌, ◌++◌, Option, Some, None, length, replicate, nat_eq, nat_le, ◌==◌, codes, if◌then◌else◌}
use Rattle.std.specs.List.{starts_with, onto_first}
use Rattle.upon_std.specs.Basic.Parts.{most_bytes}

-- the parts of a text between the places where the separator stands, found from the left; while some bytes are left
-- of one that was found, these are passed
abbrev pub pieces_after : ℕ → List ℕ → List ℕ → List (List ℕ)
pieces_after passed separator [] = [] ∷ []
pieces_after zero separator (c ∷ cs) = if starts_with nat_eq (c ∷ cs) separator
    then [] ∷ pieces_after (length separator - 1) separator cs else onto_first c (pieces_after zero separator cs)
pieces_after (suc n) separator (c ∷ cs) = pieces_after n separator cs

-- the parts of a text between the places where the separator stands: `split`
abbrev pub pieces : List ℕ → List ℕ → List (List ℕ)
pieces separator text = pieces_after 0 separator text

-- texts in a row, one text before the first and another before each other
abbrev pub put_together : List ℕ → List ℕ → List (List ℕ) → List ℕ
put_together before between [] = []
put_together before between (piece ∷ pieces) = before ++ (piece ++ put_together between between pieces)

-- a text with another in place of each that is found: `replace`
abbrev pub replaced : List ℕ → List ℕ → List ℕ → List ℕ
replaced from to text = put_together [] to (pieces from text)

-- the blanks before a line: none before the first, and none before an empty one
abbrev pub blanks_before : Bool → ℕ → List ℕ → List ℕ
blanks_before is_first width line = replicate (if is_first || length line == 0 then 0 else width) 32

-- a line with what stands before it: the end of the line before, if it is not the first, and the blanks
abbrev pub line_after : Bool → ℕ → List ℕ → List ℕ
line_after is_first width line = (if is_first then [] else codes "\n") ++ (blanks_before is_first width line ++ line)

-- lines in a row
abbrev pub indented_lines : Bool → ℕ → List (List ℕ) → List ℕ
indented_lines is_first width [] = []
indented_lines is_first width (line ∷ lines) = line_after is_first width line ++ indented_lines false width lines

-- a text whose lines but the first have blanks before them, unless they are empty: `indent`
abbrev pub indented : ℕ → List ℕ → List ℕ
indented width text = indented_lines true width (pieces (codes "\n") text)

-- a text, unless it has more bytes
abbrev pub limited : List ℕ → Option (List ℕ)
limited text = if nat_le (length text) most_bytes then Some text else None

-- a text was appended, or too many bytes would come of it
abbrev pub Appends : Bool → List ℕ → List ℕ → List ℕ → Type 0
Appends true old new added = (new ≡ old ++ added) × (length new ≤ most_bytes)
Appends false old new added = most_bytes < length (old ++ added)
