-- What the content of a token reads as, character by character.
use Rattle.std.specs.Prelude.{ℕ, suc, zero, List, [], ◌∷◌, Option, Some, None, option_map}

-- how a language reads the first character of a content, with what comes after it: which character it means, by
-- itself or as the beginning of an escape, and how many more characters the escape has; none, if no content begins so
abbrev pub CharacterReader : Type 0
CharacterReader = ℕ → List ℕ → Option (ℕ × ℕ)

-- the character that was read, and what is read after its escape
abbrev pub read_then : Option (ℕ × ℕ) → (ℕ → Option (List ℕ)) → Option (List ℕ)
read_then None rest = None
read_then (Some first) rest = option_map (λ text. first.0 ∷ text) (rest first.1)

-- what a content reads as, past so many characters
abbrev pub read_past : CharacterReader → ℕ → List ℕ → Option (List ℕ)
read_past reads zero [] = Some []
read_past reads (suc n) [] = None
read_past reads zero (c ∷ cs) = read_then (reads c cs) (λ n. read_past reads n cs)
read_past reads (suc n) (c ∷ cs) = read_past reads n cs

-- what a content reads as, if it is one
abbrev pub content_by : CharacterReader → List ℕ → Option (List ℕ)
content_by reads cs = read_past reads 0 cs
