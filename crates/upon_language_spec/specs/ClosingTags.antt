-- Whether each closing tag of some tokens closes, or goes on with, the innermost block that is open.
use Rattle.std.specs.Prelude.{◌≡◌, ℕ, List, [], ◌∷◌, Bool, true, false, Option, Some, None}
use Rattle.upon_types.specs.declared.types.Span.{Span}
use Rattle.upon_types.specs.declared.types.token.Token.{Token}
use Rattle.upon_types.specs.declared.types.token.Token.TheVariants.{BeginBlock, Keyword}
use Rattle.upon_types.specs.Span.{slice}
use Rattle.upon_language_spec.specs.Cut.{Lexeme}
use Rattle.upon_language_spec.specs.Tokens.{significant}
use Rattle.upon_language_spec.specs.Blocks.{OpenBlock, Closer, closer_by, takes, at_begin}

-- whether a token is a keyword
abbrev pub is_word : Token → Bool
is_word Keyword = true
is_word t = false

-- whether one comes next
abbrev pub word_next : List Lexeme → Bool
word_next [] = false
word_next (k ∷ ls) = is_word k.token

-- the open blocks after a token
abbrev pub blocks_past : List ℕ → List OpenBlock → Token → Span → List Lexeme → List OpenBlock
blocks_past s stack t span ls = elim t [ BeginBlock ↦ at_begin s span ls stack | _ ↦ stack ]

-- what a tag with these tokens closes or goes on with
abbrev pub closer_in : List ℕ → List Lexeme → Option Closer
closer_in s [] = None
closer_in s (k ∷ ls) = closer_by s (slice s k.span) ls

-- the open blocks take it
abbrev pub Closing : List OpenBlock → Option Closer → Type 0
Closing stack None = Unit {0}
Closing stack (Some closer) = takes stack closer ≡ true

-- after a begin of block a keyword follows, and a closing tag is taken
abbrev pub TokenTaken : List ℕ → List OpenBlock → Token → List Lexeme → Type 0
TokenTaken s stack BeginBlock ls = (word_next ls ≡ true) × Closing stack (closer_in s ls)
TokenTaken s stack t ls = Unit {0}

-- each closing tag of these tokens is taken, if these blocks are open before them
abbrev pub AllTaken : List ℕ → List OpenBlock → List Lexeme → Type 0
AllTaken s stack [] = Unit {0}
AllTaken s stack (l ∷ ls) = TokenTaken s stack l.token ls × AllTaken s (blocks_past s stack l.token l.span ls) ls

-- the closing tags of what was read are taken
abbrev pub ReadTagsTaken : List ℕ → List Lexeme → Type 0
ReadTagsTaken s ls = AllTaken s [] (significant ls)
