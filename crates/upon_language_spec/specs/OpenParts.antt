-- The parts that are to come while a tag is open, and what may still go on with an expression.
use Rattle.std.specs.Prelude.{ℕ, List, [], ◌∷◌, ◌++◌, Bool, true, false}
use Rattle.upon_language_spec.specs.Cut.{Lexeme}
use Rattle.upon_language_spec.specs.Faults.{tag_row}
use Rattle.upon_language_spec.specs.Parts.{Part, after_filter, more_args, tag_start, end_expr, end_block, block_word}
use Rattle.upon_language_spec.specs.Parts.{else_rest, include_name, include_rest, Path}
use Rattle.upon_language_spec.specs.PartTails.{Tail, tail_parts}

-- no part is to come
abbrev pub is_nil : List Part → Bool
is_nil [] = true
is_nil (p ∷ ps) = false

-- the last part, and no other, is one that only a tag's end ends
abbrev pub is_open : List Part → Bool
is_open [] = false
is_open (end_expr ∷ ps) = is_nil ps
is_open (end_block ∷ ps) = is_nil ps
is_open (block_word ∷ ps) = is_nil ps
is_open (else_rest ∷ ps) = is_nil ps
is_open (include_name ∷ ps) = is_nil ps
is_open (include_rest ∷ ps) = is_nil ps
is_open (tag_start ∷ ps) = false
is_open (p ∷ ps) = is_open ps

-- the tokens of the open tag lead to these parts
abbrev pub StandsAt : List ℕ → List Lexeme → List Part → Type 0
StandsAt s ls ps = Path (tag_start ∷ []) (tag_row s ls) ps

-- what may go on with an expression, its further filters aside: with its Base, with a filter's name, with arguments
pub data Ending : Type 0 where
  base_ending : Tail → Ending
  name_ending : Ending
  args_ending : Tail → Ending

-- the parts that are to come for it
abbrev pub ending_parts : Ending → List Part
ending_parts (base_ending tail) = tail_parts tail
ending_parts name_ending = after_filter ∷ []
ending_parts (args_ending tail) = tail_parts tail ++ more_args ∷ []
