-- A whole tag is one with more tokens after.
use Rattle.std.proofs.Common.{ℕ, List, ◌++◌, Bool, true, false, Option, Some, None, codes}
use Rattle.upon_types.specs.Path.{Ident, LoopVars, item, key_value}
use Rattle.upon_types.specs.Expression.{Expression}
use Rattle.upon_types.specs.declared.types.Span.{Span}
use Rattle.upon_types.specs.BlockKinds.{Opening, opened_kind, block_word, end_word}
use Rattle.upon_types.specs.Tree.{inline_expr, include}
use Rattle.upon_language_spec.specs.Cut.{Lexeme}
use Rattle.upon_language_spec.specs.Tokens.{GoesKeyword, GoesName, GoesText}
use Rattle.upon_language_spec.specs.Grammar.{BeginsBlock, IsWordTag, IsCondition, IsElseIfTag, AreLoopVars, IsHead, IsOpeningTag, AreGlobals, IsStatement}
use Rattle.upon_language_spec.specs.Tags.{IsTag, an_inline, an_include, an_opening, an_else_if, an_else, an_end}
use Rattle.upon_language_spec.proofs.BlockKinds.{HeadPart, value_part, names_part, Head, last_part, part_then, head_of, IsHeadPart, AreHeadParts, parts_of_head, head_of_parts}
use Rattle.upon_language_spec.proofs.Totality.ExpressionMore.{goes_more, by_more, same_more, expression_more}

module _ (s : List ℕ) (more : List Lexeme) where
  pub keyword_more : (word : List ℕ) (ts us : List Lexeme) → GoesKeyword s word ts us → GoesKeyword s word (ts ++ more) (us ++ more)
  keyword_more word ts us g = (g.0, (goes_more s more g.1.0, g.1.1))

  pub name_more : (name : Ident) (ts us : List Lexeme) → GoesName s name ts us → GoesName s name (ts ++ more) (us ++ more)
  name_more name ts us g = (goes_more s more g.0, g.1)

  begins_more : (word : List ℕ) (ts us : List Lexeme) → BeginsBlock s word ts us → BeginsBlock s word (ts ++ more) (us ++ more)
  begins_more word ts us (mid, g, k) = (mid ++ more, by_more s more g, keyword_more word mid us k)

  pub word_tag_more : (word : List ℕ) (ts us : List Lexeme) → IsWordTag s word ts us → IsWordTag s word (ts ++ more) (us ++ more)
  word_tag_more word ts us (mid, g, end) = (mid ++ more, begins_more word ts mid g, by_more s more end)

  pub condition_more : (negated : Bool) (e : Expression) (ts us : List Lexeme) → IsCondition s negated e ts us → IsCondition s negated e (ts ++ more) (us ++ more)
  condition_more true e ts us (mid, k, g) = (mid ++ more, keyword_more (codes "not") ts mid k, expression_more s more e mid us g)
  condition_more false e ts us g = expression_more s more e ts us g

  pub else_if_tag_more : (negated : Bool) (e : Expression) (ts us : List Lexeme) → IsElseIfTag s negated e ts us → IsElseIfTag s negated e (ts ++ more) (us ++ more)
  else_if_tag_more negated e ts us (start, mid, after, b, k, c, end) = (start ++ more, mid ++ more, after ++ more, begins_more (codes "else") ts start b, keyword_more (codes "if") start mid k, condition_more negated e mid after c, by_more s more end)

  pub names_more : (names : LoopVars) (ts us : List Lexeme) → AreLoopVars s names ts us → AreLoopVars s names (ts ++ more) (us ++ more)
  names_more (item name) ts us g = name_more name ts us g
  names_more (key_value key value span) ts us (mid, after, k, comma, v, e) = (mid ++ more, after ++ more, name_more key ts mid k, by_more s more comma, name_more value after us v, e)

  part_more : (part : HeadPart) (ts us : List Lexeme) → IsHeadPart s part ts us → IsHeadPart s part (ts ++ more) (us ++ more)
  part_more (value_part negated e) ts us g = condition_more negated e ts us g
  part_more (names_part names) ts us g = names_more names ts us g

  parts_more : (head : Head) (ts us : List Lexeme) → AreHeadParts s head ts us → AreHeadParts s head (ts ++ more) (us ++ more)
  parts_more (last_part part) ts us g = part_more part ts us g
  parts_more (part_then part word head) ts us (mid, after, p, k, g) = (mid ++ more, after ++ more, part_more part ts mid p, keyword_more word mid after k, parts_more head after us g)

  pub head_more : (tag : Opening) (e : Expression) (ts us : List Lexeme) → IsHead s tag e ts us → IsHead s tag e (ts ++ more) (us ++ more)
  head_more tag e ts us g = head_of_parts s tag e (ts ++ more) (us ++ more) (parts_more (head_of tag e) ts us (parts_of_head s tag e ts us g))

  pub opening_more : (tag : Opening) (e : Expression) (ts us : List Lexeme) → IsOpeningTag s tag e ts us → IsOpeningTag s tag e (ts ++ more) (us ++ more)
  opening_more tag e ts us (mid, after, b, h, end) = (mid ++ more, after ++ more, begins_more (block_word (opened_kind tag)) ts mid b, head_more tag e mid after h, by_more s more end)

  pub context_more : (context : Option Expression) (ts us : List Lexeme) → AreGlobals s context ts us → AreGlobals s context (ts ++ more) (us ++ more)
  context_more None ts us e = same_more s more e
  context_more (Some e) ts us (mid, k, g) = (mid ++ more, keyword_more (codes "with") ts mid k, expression_more s more e mid us g)

  pub text_more : (string : Ident) (ts us : List Lexeme) → GoesText s string ts us → GoesText s string (ts ++ more) (us ++ more)
  text_more string ts us g = (goes_more s more g.0, g.1)

  pub inline_more : (e : Expression) (span : Span) (ts us : List Lexeme) → IsStatement s (inline_expr e span) ts us → IsStatement s (inline_expr e span) (ts ++ more) (us ++ more)
  inline_more e span ts us (begin, end, mid, after, g, x, h, f) = (begin, end, mid ++ more, after ++ more, goes_more s more g, expression_more s more e mid after x, goes_more s more h, f)

  pub include_more : (name : Ident) (context : Option Expression) (ts us : List Lexeme) → IsStatement s (include name context) ts us → IsStatement s (include name context) (ts ++ more) (us ++ more)
  include_more name context ts us (start, mid, after, b, text, c, end) = (start ++ more, mid ++ more, after ++ more, begins_more (codes "include") ts start b, (goes_more s more text.0, text.1), context_more context mid after c, by_more s more end)

  pub tag_more : (ts us : List Lexeme) → IsTag s ts us → IsTag s (ts ++ more) (us ++ more)
  tag_more ts us (an_inline e span g) = an_inline e span (inline_more e span ts us g)
  tag_more ts us (an_include name context g) = an_include name context (include_more name context ts us g)
  tag_more ts us (an_opening tag e g) = an_opening tag e (opening_more tag e ts us g)
  tag_more ts us (an_else_if negated e g) = an_else_if negated e (else_if_tag_more negated e ts us g)
  tag_more ts us (an_else g) = an_else (word_tag_more (codes "else") ts us g)
  tag_more ts us (an_end kind g) = an_end kind (word_tag_more (end_word kind) ts us g)
