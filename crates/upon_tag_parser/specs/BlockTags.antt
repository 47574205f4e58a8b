-- A tag of a block, as the grammar has it, and as the code holds it.
use Rattle.std.specs.Prelude.{◌≡◌, ℕ, ◌+◌, List, [], Bool, true, false, Option, Some, None, codes}
use Rattle.upon_types.specs.BlockKinds.{Block, Opening, if_tag, for_tag, with_tag, end_word}
use Rattle.upon_types.specs.BlockKinds.{block_kind}
use Rattle.upon_types.specs.Path.{Ident, LoopVars, item, key_value}
use Rattle.upon_types.specs.Expression.{Expression, expression_span}
use Rattle.upon_types.specs.Tree.{include}
use Rattle.upon_types.specs.AstPath.{ident_of, string_of, loop_vars_of}
use Rattle.upon_language_spec.specs.Cut.{Lexeme}
use Rattle.upon_language_spec.specs.Grammar.{IsStatement, IsOpeningTag, IsElseIfTag, IsWordTag}
use Rattle.upon_machine_spec.specs.Instr.{Instr}
use Rattle.upon_machine_spec.specs.Code.{expression_code}
use Rattle.upon_tag_parser.specs.declared.compile.parse.kind.Opening.{Opening as CodeOpening}
use Rattle.upon_tag_parser.specs.declared.compile.parse.kind.Opening.TheVariants as opens
use Rattle.upon_tag_parser.specs.declared.compile.parse.tag.Tag.{Tag}
use Rattle.upon_tag_parser.specs.declared.compile.parse.tag.Tag.TheVariants as code

-- a tag of a block: its first or its last one, or one between its branches; or an include
pub data BlockTag : Type 0 where
  opening_tag : Opening → Expression → BlockTag
  else_if_tag : Bool → Expression → BlockTag
  else_tag : BlockTag
  end_tag : Block → BlockTag
  include_tag : Ident → Option Expression → BlockTag

-- from the first of these tokens up to the rest is this tag
abbrev pub IsBlockTag : List ℕ → BlockTag → List Lexeme → List Lexeme → Type 0
IsBlockTag s (opening_tag opening e) before rest = IsOpeningTag s opening e before rest
IsBlockTag s (else_if_tag negated e) before rest = IsElseIfTag s negated e before rest
IsBlockTag s else_tag before rest = IsWordTag s (codes "else") before rest
IsBlockTag s (end_tag kind) before rest = IsWordTag s (end_word kind) before rest
IsBlockTag s (include_tag name globals) before rest = IsStatement s (include name globals) before rest

-- the instructions of a tag's expression, if it has one
abbrev pub tag_code : BlockTag → List Instr
tag_code (opening_tag opening e) = expression_code e
tag_code (else_if_tag negated e) = expression_code e
tag_code else_tag = []
tag_code (end_tag kind) = []
tag_code (include_tag name None) = []
tag_code (include_tag name (Some e)) = expression_code e

-- how many tokens there are of the `not` of a condition
abbrev pub tokens_of_not : Bool → ℕ
tokens_of_not false = 0
tokens_of_not true = 1

-- of the names that a loop binds
abbrev pub tokens_of_names : LoopVars → ℕ
tokens_of_names (item name) = 1
tokens_of_names (key_value key value span) = 3

-- how many tokens of a tag are before its expression; 0 if it has none
abbrev pub tokens_before : BlockTag → ℕ
tokens_before (opening_tag (if_tag negated) e) = 1 + tokens_of_not negated
tokens_before (opening_tag (for_tag names) e) = 2 + tokens_of_names names
tokens_before (opening_tag (with_tag name) e) = 1
tokens_before (else_if_tag negated e) = 2 + tokens_of_not negated
tokens_before (include_tag name (Some e)) = 3
tokens_before tag = 0

-- what opens a block, as the code has it
abbrev pub opening_of : CodeOpening → Opening
opening_of (opens.If negated) = if_tag negated
opening_of (opens.For vars) = for_tag (loop_vars_of vars)
opening_of (opens.With name) = with_tag (ident_of name)

-- what the code keeps of a tag beside these instructions
abbrev pub Keeps : Tag → BlockTag → Type 0
Keeps (code.If negated) tag = (e : Expression) × (tag ≡ opening_tag (if_tag negated) e)
Keeps (code.ElseIf negated) tag = (e : Expression) × (tag ≡ else_if_tag negated e)
Keeps code.Else tag = tag ≡ else_tag
Keeps (code.For vars span) tag =
    (e : Expression) × (tag ≡ opening_tag (for_tag (loop_vars_of vars.value)) e) × (span ≡ expression_span e)
Keeps (code.With name) tag = (e : Expression) × (tag ≡ opening_tag (with_tag (ident_of name)) e)
Keeps (code.End kind) tag = tag ≡ end_tag (block_kind kind)
Keeps (code.Include name) tag = tag ≡ include_tag (string_of name) None
Keeps (code.IncludeWith name) tag = (e : Expression) × (tag ≡ include_tag (string_of name) (Some e))
