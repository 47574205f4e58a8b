-- Reading what was written.
use Rattle.std.proofs.Common.{◌≡◌, ℕ, List, [], ◌∷◌, ◌++◌, Option, Some, option_map, refl, ap, ◌∙◌, sym, subst, false, true, eqb, inl, inr}
use Rattle.std.proofs.lemmas.Bool.Decides.{eqb_tells}
use Rattle.std.specs.Char.{is_ascii}
use Rattle.std.specs.List.{list_all}
use Rattle.std.specs.Prelude.{IfSome}
use Rattle.upon_quote.specs.Quoted.{Escapes, or_itself, quoted_by}
use Rattle.upon_quote.specs.Reading.{CharacterReader, read_past}

-- the language reads what it writes for a character as this character, whatever is behind it
abbrev pub ReadsAgain : Escapes → CharacterReader → ℕ → Type 0
ReadsAgain escape_of reads c = (rest : List ℕ) → read_past reads 0 (or_itself (escape_of c) c ++ rest) ≡ option_map (λ text. c ∷ text) (read_past reads 0 rest)

pub read_quoted : (escape_of : Escapes) (reads : CharacterReader) → ((c : ℕ) → ReadsAgain escape_of reads c) → (text : List ℕ) → read_past reads 0 (quoted_by escape_of text) ≡ Some text
read_quoted escape_of reads h [] = refl
read_quoted escape_of reads h (c ∷ cs) = h c (quoted_by escape_of cs) ∙ ap (option_map (λ text. c ∷ text)) (read_quoted escape_of reads h cs)

-- some numbers, each with a fact
abbrev pub Each : (ℕ → Type 0) → List ℕ → Type 0
Each P [] = Unit {0}
Each P (n ∷ ns) = P n × Each P ns

-- a number that is none of some
abbrev pub NoneOf : List ℕ → ℕ → Type 0
NoneOf [] c = Unit {0}
NoneOf (n ∷ ns) c = (eqb c n ≡ false) × NoneOf ns c

-- one of some numbers, or none of them
pub listed : (P : ℕ → Type 0) (ns : List ℕ) → Each P ns → (c : ℕ) → (NoneOf ns c → P c) → P c
listed P [] here c other = other tt
listed P (n ∷ ns) here c other = elim (eqb_tells c n) as (λ x. P c) [ inl e ↦ subst P (sym e.1) here.0 | inr e ↦ listed P ns here.1 c (λ no. other (e.0, no)) ]

-- an escape is ASCII, if there is one
abbrev pub IsAsciiEscape : Option (List ℕ) → Type 0
IsAsciiEscape escape = IfSome escape (λ text. list_all is_ascii text ≡ true)
