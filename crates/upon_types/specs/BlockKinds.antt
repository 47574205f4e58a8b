-- The kinds of blocks, a row for each: what opens it, the names that it binds, the spans of that, the keywords of its
-- first tag and of its last, and which branches it may have.
use Rattle.std.specs.Prelude.{ℕ, List, [], ◌∷◌, ◌++◌, Bool, true, false, Option, Some, None, if◌then◌else◌, bytes_eq, codes}
use Rattle.upon_types.specs.declared.types.Span.{Span}
use Rattle.upon_types.specs.declared.types.block.BlockKind.{BlockKind}
use Rattle.upon_types.specs.declared.types.block.BlockKind.TheVariants.{If, For, With}
use Rattle.upon_types.specs.declared.types.block.Closing.{Closing}
use Rattle.upon_types.specs.declared.types.block.Closing.TheVariants.{ElseIf, Else, End}
use Rattle.upon_types.specs.Path.{Ident, LoopVars, item, key_value}

-- a kind of block
pub data Block : Type 0 where
  if_block : Block
  for_block : Block
  with_block : Block

-- what opens a block, beside its expression: an `if`, which `not` may turn round, a `for` with its names, a `with` with
-- its name
pub data Opening : Type 0 where
  if_tag : Bool → Opening
  for_tag : LoopVars → Opening
  with_tag : Ident → Opening
  deriving IsSet as Opening-set

-- the kind of the block that this opens
abbrev pub opened_kind : Opening → Block
opened_kind (if_tag negated) = if_block
opened_kind (for_tag names) = for_block
opened_kind (with_tag name) = with_block

-- the names that its body sees bound: those of a loop, and `loop`, or that of a `with`
abbrev pub block_names : Opening → List (List ℕ)
block_names (if_tag negated) = []
block_names (for_tag (item word)) = codes "loop" ∷ word.text ∷ []
block_names (for_tag (key_value key value span)) = codes "loop" ∷ key.text ∷ value.text ∷ []
block_names (with_tag word) = word.text ∷ []

-- something holds of each span of a loop's names
abbrev pub LoopNamesSpans : (Span → Type 0) → LoopVars → Type 0
LoopNamesSpans P (item name) = P name.span
LoopNamesSpans P (key_value key value both) = P key.span × P value.span × P both

-- of each span of what opens a block
abbrev pub OpeningSpans : (Span → Type 0) → Opening → Type 0
OpeningSpans P (if_tag negated) = Unit {0}
OpeningSpans P (for_tag names) = LoopNamesSpans P names
OpeningSpans P (with_tag word) = P word.span

-- the keyword of its first tag
abbrev pub block_word : Block → List ℕ
block_word if_block = codes "if"
block_word for_block = codes "for"
block_word with_block = codes "with"

-- the keyword of its last tag
abbrev pub end_word : Block → List ℕ
end_word kind = codes "end" ++ block_word kind

-- whether it may have an `else`: each but a `with`
abbrev pub may_have_else : Block → Bool
may_have_else with_block = false
may_have_else kind = true

-- whether it may have an `else if`: an `if` alone
abbrev pub may_have_else_if : Block → Bool
may_have_else_if if_block = true
may_have_else_if kind = false

-- the kind whose keyword, of those that are given, is this word
abbrev pub kind_with : (Block → List ℕ) → List ℕ → Option Block
kind_with word_of word = if bytes_eq word (word_of if_block) then Some if_block else
    (if bytes_eq word (word_of for_block) then Some for_block else
    (if bytes_eq word (word_of with_block) then Some with_block else None))

-- the kind of block that one of the code is
abbrev pub block_kind : BlockKind → Block
block_kind If = if_block
block_kind For = for_block
block_kind With = with_block

-- the words that begin a closing tag
abbrev pub closing_words : Closing → List ℕ
closing_words ElseIf = codes "else if"
closing_words Else = codes "else"
closing_words (End kind) = end_word (block_kind kind)
