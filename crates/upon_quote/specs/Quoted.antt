-- Texts in which some characters are written as escapes.
use Rattle.std.specs.Prelude.{ℕ, List, [], ◌∷◌, ◌++◌, Option, Some, None}

-- how a language writes each character that may not be written as itself
abbrev pub Escapes : Type 0
Escapes = ℕ → Option (List ℕ)

-- an escape, or the character itself
abbrev pub or_itself : Option (List ℕ) → ℕ → List ℕ
or_itself (Some escape) c = escape
or_itself None c = c ∷ []

-- the characters of a text, each as its escape if it has one
abbrev pub quoted_by : Escapes → List ℕ → List ℕ
quoted_by escape_of [] = []
quoted_by escape_of (c ∷ cs) = or_itself (escape_of c) c ++ quoted_by escape_of cs
