-- The texts in which it is shown what a template needs.
use Rattle.std.specs.Prelude.{ℕ, List, [], ◌∷◌, ◌++◌, Bool, if◌then◌else◌, codes, ◌==◌}
use Rattle.std.specs.Str.{byte}
use Rattle.serde_json.specs.Written.{compact_text}
use Rattle.upon_needs.specs.EngineNeeds.{needed_names, reached_templates, missing_names, needs_whole}
use Rattle.upon_needs.specs.declared.needs.Needs.{Needs}
use Rattle.upon_calls.specs.Names.{needs_data}

-- a byte of a name in one line: a line break as `\n`, and a backslash as two
abbrev pub in_line : ℕ → List ℕ
in_line b = if b == byte "\n" then codes "\\n" else (if b == byte "\\" then codes "\\\\" else b ∷ [])

-- a name in one line
abbrev pub one_line : List ℕ → List ℕ
one_line [] = []
one_line (b ∷ bs) = in_line b ++ one_line bs

-- a line for each name, with this before it
abbrev pub lines_of : List ℕ → List (List ℕ) → List ℕ
lines_of kind [] = []
lines_of kind (name ∷ names) = kind ++ (one_line name ++ byte "\n" ∷ lines_of kind names)

-- the lines, with one more if the whole context counts
abbrev pub with_whole : Bool → List ℕ → List ℕ
with_whole whole lines = if whole then lines ++ codes "whole\n" else lines

-- the lines of what is needed
abbrev pub needs_lines : Needs → List ℕ
needs_lines needs = with_whole (needs_whole needs) ((lines_of (codes "name ") (needed_names needs)
    ++ lines_of (codes "template ") (reached_templates needs)) ++ lines_of (codes "missing ") (missing_names needs))

-- what is written: the object of JSON, with a line break, or the lines
abbrev pub needs_text : Bool → Needs → List ℕ
needs_text json needs = if json then compact_text (needs_data needs) ++ byte "\n" ∷ [] else needs_lines needs
