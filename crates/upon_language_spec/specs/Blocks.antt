-- Which blocks are open after some tokens, and which closing tags the innermost of them takes.
use Rattle.std.specs.Prelude.{ℕ, List, [], ◌∷◌, Bool, true, false, not, ◌&&◌, Option, Some, None, option_map, if◌then◌else◌, codes}
use Rattle.std.specs.Str.{bytes_eq}
use Rattle.upon_types.specs.declared.types.Span.{Span}
use Rattle.upon_types.specs.declared.types.token.Token.TheVariants.{BeginBlock, EndBlock, Keyword}
use Rattle.upon_types.specs.Span.{slice}
use Rattle.upon_types.specs.BlockKinds.{Block, block_word, end_word, may_have_else, may_have_else_if, kind_with}
use Rattle.upon_language_spec.specs.Cut.{Lexeme}
use Rattle.upon_language_spec.specs.Tokens.{from_to}

-- an open block: its kind, whether its `else` was read, and where its tag is
pub record OpenBlock : Type 0 where
  pub kind : Block
  pub has_else : Bool
  pub span : Span

-- a tag that closes a block, or one of its branches
pub data Closer : Type 0 where
  else_if : Closer
  plain_else : Closer
  end_of : Block → Closer

-- the closing tag whose keywords these tokens begin with
abbrev pub else_by : List ℕ → List Lexeme → Closer
else_by s [] = plain_else
else_by s (l ∷ ls) = elim l.token [ Keyword ↦ else_if | _ ↦ plain_else ]

-- the closing tag of a keyword
abbrev pub closer_by : List ℕ → List ℕ → List Lexeme → Option Closer
closer_by s word ls =
    if bytes_eq word (codes "else") then Some (else_by s ls) else option_map end_of (kind_with end_word word)

-- the closing tag that a tag's tokens are
abbrev pub closer_of : List ℕ → List Lexeme → Option Closer
closer_of s [] = None
closer_of s (l ∷ []) = None
closer_of s (l ∷ k ∷ ls) = elim l.token [ BeginBlock ↦ closer_by s (slice s k.span) ls | _ ↦ None ]

-- whether an open block of a kind takes the closing tag
abbrev pub block_takes : Block → Bool → Closer → Bool
block_takes kind has_else else_if = not has_else && may_have_else_if kind
block_takes kind has_else plain_else = not has_else && may_have_else kind
block_takes kind has_else (end_of ended) = bytes_eq (end_word kind) (end_word ended)

-- whether the innermost open block takes it
abbrev pub takes : List OpenBlock → Closer → Bool
takes [] closer = false
takes (o ∷ stack) closer = block_takes o.kind o.has_else closer

-- the open blocks after a closing tag that is taken
abbrev pub blocks_after_closer : Closer → OpenBlock → List OpenBlock → List OpenBlock
blocks_after_closer else_if o stack = o ∷ stack
blocks_after_closer plain_else o stack = record o { has_else = true } ∷ stack
blocks_after_closer (end_of kind) o stack = stack

-- the open blocks after a closing tag
abbrev pub after_closer : Closer → List OpenBlock → List OpenBlock
after_closer closer [] = []
after_closer closer (o ∷ stack) = blocks_after_closer closer o stack

-- where the tag ends
abbrev pub end_from : Span → List Lexeme → Span
end_from span [] = span
end_from span (l ∷ ls) = elim l.token [ EndBlock ↦ l.span | _ ↦ end_from span ls ]

-- the open blocks with one more, whose tag begins here
abbrev pub open_block : Block → Span → List Lexeme → List OpenBlock → List OpenBlock
open_block kind begin ls stack = record { kind = kind; has_else = false; span = from_to begin (end_from begin ls) }
    ∷ stack

-- the open blocks after a tag, if it closes one
abbrev pub by_closer : Option Closer → List OpenBlock → List OpenBlock
by_closer None stack = stack
by_closer (Some closer) stack = after_closer closer stack

-- the open blocks after a tag whose keyword begins a block of this kind, or else these
abbrev pub open_or : Option Block → Span → List Lexeme → List OpenBlock → List OpenBlock → List OpenBlock
open_or (Some kind) begin ls stack others = open_block kind begin ls stack
open_or None begin ls stack others = others

-- the open blocks after a tag that begins with this keyword
abbrev pub by_word : List ℕ → Span → List ℕ → List Lexeme → List OpenBlock → List OpenBlock
by_word s begin word ls stack =
    open_or (kind_with block_word word) begin ls stack (by_closer (closer_by s word ls) stack)

-- the open blocks after the tag that begins here
abbrev pub at_begin : List ℕ → Span → List Lexeme → List OpenBlock → List OpenBlock
at_begin s begin [] stack = stack
at_begin s begin (k ∷ ls) stack = by_word s begin (slice s k.span) ls stack

-- the open blocks after the tokens, innermost first
abbrev pub blocks_from : List ℕ → List OpenBlock → List Lexeme → List OpenBlock
blocks_from s stack [] = stack
blocks_from s stack (l ∷ ls) = blocks_from s (elim l.token [ BeginBlock ↦ at_begin s l.span ls stack | _ ↦ stack ]) ls

-- the open blocks after all tokens of a text
abbrev pub open_blocks : List ℕ → List Lexeme → List OpenBlock
open_blocks s ls = blocks_from s [] ls

-- the outermost one
abbrev pub outermost : List OpenBlock → Option OpenBlock
outermost [] = None
outermost (o ∷ []) = Some o
outermost (o ∷ p ∷ stack) = outermost (p ∷ stack)

-- the keywords of a closing tag
abbrev pub closer_words : Closer → List ℕ
closer_words else_if = codes "else if"
closer_words plain_else = codes "else"
closer_words (end_of kind) = end_word kind
