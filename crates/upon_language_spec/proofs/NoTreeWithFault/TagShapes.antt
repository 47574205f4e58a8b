-- The shape of a tag: a begin, tokens that are fine, and an end.
use Rattle.std.proofs.Common.{◌≡◌, ℕ, List, ◌∷◌, Bool, true, false, Option, Some, None, refl, ap, ◌∙◌, codes}
use Rattle.upon_types.specs.declared.types.token.Token.{Token}
use Rattle.upon_types.specs.declared.types.token.Token.TheVariants.{BeginExpr, EndExpr, BeginBlock, EndBlock, Comma}
use Rattle.upon_types.specs.Path.{LoopVars, item, key_value}
use Rattle.upon_types.specs.Expression.{Expression}
use Rattle.upon_types.specs.BlockKinds.{Opening, opened_kind, block_word, end_word}
use Rattle.upon_language_spec.specs.Cut.{Lexeme}
use Rattle.upon_language_spec.specs.Tokens.{GoesBy}
use Rattle.upon_language_spec.specs.Grammar.{BeginsBlock, IsWordTag, IsCondition, AreLoopVars, IsHead, AreGlobals}
use Rattle.upon_language_spec.specs.Tags.{IsTag, an_inline, an_include, an_opening, an_else_if, an_else, an_end}
use Rattle.upon_language_spec.specs.InTags.{ends_a_tag}
use Rattle.upon_language_spec.proofs.BlockKinds.{HeadPart, value_part, names_part, Head, last_part, part_then, head_of, IsHeadPart, AreHeadParts, parts_of_head}
use Rattle.upon_language_spec.proofs.NoTreeWithFault.Fine.{Passes, passes_then, passes_nothing}
use Rattle.upon_language_spec.proofs.NoTreeWithFault.FineExpression.{passes_by, passes_name, passes_text, passes_keyword, passes_expression}

abbrev pub begins_a_tag : Token → Bool
begins_a_tag BeginExpr = true
begins_a_tag BeginBlock = true
begins_a_tag t = false

pub record TagShape (s : List ℕ) (ts rest : List Lexeme) : Type 0 where
  pub begin : Lexeme
  pub inside : List Lexeme
  pub starts : ts ≡ begin ∷ inside
  pub opens : begins_a_tag begin.token ≡ true
  pub last : List Lexeme
  pub fine : Passes s inside last
  pub end : Lexeme
  pub stops : last ≡ end ∷ rest
  pub closes : ends_a_tag end.token ≡ true

module _ (s : List ℕ) where
  shape : (t u : Token) (ts us vs rest : List Lexeme) → begins_a_tag t ≡ true → ends_a_tag u ≡ true → GoesBy t ts us → Passes s us vs → GoesBy u vs rest → TagShape s ts rest
  shape t u ts us vs rest h k g fine e = record {
    begin = g.1.lexeme;
    inside = us;
    starts = g.1.is;
    opens = ap begins_a_tag g.1.of_token ∙ h;
    last = vs;
    fine = fine;
    end = e.1.lexeme;
    stops = e.1.is;
    closes = ap ends_a_tag e.1.of_token ∙ k;
  }

  block_shape : (ts us vs rest : List Lexeme) (word : List ℕ) → BeginsBlock s word ts us → Passes s us vs → GoesBy EndBlock vs rest → TagShape s ts rest
  block_shape ts us vs rest word g fine e = shape BeginBlock EndBlock ts g.0 vs rest refl refl g.1 (passes_then s g.0 us vs (passes_keyword s word g.0 us g.2) fine) e

  pub passes_condition : (negated : Bool) (e : Expression) (ts rest : List Lexeme) → IsCondition s negated e ts rest → Passes s ts rest
  passes_condition true e ts rest g = passes_then s ts g.0 rest (passes_keyword s (codes "not") ts g.0 g.1) (passes_expression s e g.0 rest g.2)
  passes_condition false e ts rest g = passes_expression s e ts rest g

  passes_names : (names : LoopVars) (ts rest : List Lexeme) → AreLoopVars s names ts rest → Passes s ts rest
  passes_names (item name) ts rest g = passes_name s name ts rest g
  passes_names (key_value key value span) ts rest g = passes_then s ts g.0 rest (passes_name s key ts g.0 g.2) (passes_then s g.0 g.1 rest (passes_by s Comma g.0 g.1 refl g.3) (passes_name s value g.1 rest g.4))

  pub passes_context : (context : Option Expression) (ts rest : List Lexeme) → AreGlobals s context ts rest → Passes s ts rest
  passes_context None ts rest g = passes_nothing s ts rest g
  passes_context (Some e) ts rest g = passes_then s ts g.0 rest (passes_keyword s (codes "with") ts g.0 g.1) (passes_expression s e g.0 rest g.2)

  pub word_shape : (word : List ℕ) (ts rest : List Lexeme) → IsWordTag s word ts rest → TagShape s ts rest
  word_shape word ts rest g = block_shape ts g.0 g.0 rest word g.1 (passes_nothing s g.0 g.0 refl) g.2

  passes_part : (part : HeadPart) (ts rest : List Lexeme) → IsHeadPart s part ts rest → Passes s ts rest
  passes_part (value_part negated e) ts rest g = passes_condition negated e ts rest g
  passes_part (names_part names) ts rest g = passes_names names ts rest g

  passes_parts : (head : Head) (ts rest : List Lexeme) → AreHeadParts s head ts rest → Passes s ts rest
  passes_parts (last_part part) ts rest g = passes_part part ts rest g
  passes_parts (part_then part word head) ts rest g = passes_then s ts g.0 rest (passes_part part ts g.0 g.2) (passes_then s g.0 g.1 rest (passes_keyword s word g.0 g.1 g.3) (passes_parts head g.1 rest g.4))

  pub passes_head : (opening : Opening) (e : Expression) (ts rest : List Lexeme) → IsHead s opening e ts rest → Passes s ts rest
  passes_head opening e ts rest g = passes_parts (head_of opening e) ts rest (parts_of_head s opening e ts rest g)

  pub tag_shape : (ts rest : List Lexeme) → IsTag s ts rest → TagShape s ts rest
  tag_shape ts rest (an_inline e span g) = shape BeginExpr EndExpr ts g.2 g.3 rest refl refl (g.0, g.4) (passes_expression s e g.2 g.3 g.5) (g.1, g.6)
  tag_shape ts rest (an_include name context g) = block_shape ts g.0 g.2 rest (codes "include") g.3 (passes_then s g.0 g.1 g.2 (passes_text s name g.0 g.1 g.4) (passes_context context g.1 g.2 g.5)) g.6
  tag_shape ts rest (an_opening opening e g) = block_shape ts g.0 g.1 rest (block_word (opened_kind opening)) g.2 (passes_head opening e g.0 g.1 g.3) g.4
  tag_shape ts rest (an_else_if negated e g) = block_shape ts g.0 g.2 rest (codes "else") g.3 (passes_then s g.0 g.1 g.2 (passes_keyword s (codes "if") g.0 g.1 g.4) (passes_condition negated e g.1 g.2 g.5)) g.6
  tag_shape ts rest (an_else g) = word_shape (codes "else") ts rest g
  tag_shape ts rest (an_end kind g) = word_shape (end_word kind) ts rest g
