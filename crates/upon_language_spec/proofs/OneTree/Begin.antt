-- What begins an expression: its first token says which form it has, but for a path and a call.
use Rattle.std.proofs.Common.{◌≡◌, ◌⊎◌, ℕ, List, Option, Some, None, inl, inr, refl, sym, ap, ◌∙◌, codes}
use Rattle.upon_types.specs.declared.types.Span.{Span}
use Rattle.upon_types.specs.declared.types.token.Token.{Token}
use Rattle.upon_types.specs.declared.types.token.Token.TheVariants.{OpenBracket, OpenBrace, OpenParen, Dot, QuestionDot, Plus, Minus, Keyword, Ident, Number, String}
use Rattle.upon_types.specs.declared.types.ast.path.AccessOp.{AccessOp}
use Rattle.upon_types.specs.declared.types.ast.path.AccessOp.TheVariants.{Direct, Optional}
use Rattle.upon_types.specs.Val.{Val, none_val, bool_val, int_val, text_val, list_val, map_val}
use Rattle.upon_types.specs.Path.{Member}
use Rattle.upon_types.specs.Expression.{Expression, base, filtered, Base, var, literal, list, mapping, paren, call}
use Rattle.upon_language_spec.specs.Cut.{Lexeme}
use Rattle.upon_language_spec.specs.Tokens.{GoesBy, GoesKeyword}
use Rattle.upon_language_spec.specs.Expressions.{op_token, IsBareName, IsMember, IsLiteral, IsBase, IsExpression}
use Rattle.upon_language_spec.proofs.OneTree.Token.{first_token, goes_first}
use Rattle.upon_language_spec.proofs.OneTree.Value.{literal_kind, literal_first, not_is_no_literal}

-- the forms that a first token says apart
pub data Form : Type 0 where
  named : Form
  constant : Form
  bracketed : Form
  braced : Form
  parenthesised : Form

abbrev pub form_by : Option Token → Option Form
form_by (Some Ident) = Some named
form_by (Some Dot) = Some named
form_by (Some QuestionDot) = Some named
form_by (Some Keyword) = Some constant
form_by (Some Number) = Some constant
form_by (Some Plus) = Some constant
form_by (Some Minus) = Some constant
form_by (Some String) = Some constant
form_by (Some OpenBracket) = Some bracketed
form_by (Some OpenBrace) = Some braced
form_by (Some OpenParen) = Some parenthesised
form_by t = None

abbrev pub form : Base → Form
form (var first others) = named
form (literal v span) = constant
form (list bases span) = bracketed
form (mapping items span) = braced
form (paren e span) = parenthesised
form (call name args span) = named

op_form : (op : AccessOp) → form_by (Some (op_token op)) ≡ Some named
op_form Direct = refl
op_form Optional = refl

module _ (s : List ℕ) where
  first_form : (step : Member) (ts r : List Lexeme) → IsBareName s step ts r ⊎ IsMember s step ts r → form_by (first_token ts) ≡ Some named
  first_form step ts r (inl h) = ap form_by (goes_first Ident h.0.span ts r h.1.0)
  first_form step ts r (inr h) = ap form_by (goes_first (op_token step.op) h.0 ts h.1 h.2) ∙ op_form step.op

  kind_form : (o : Option Token) (t : Token) → literal_kind o ≡ Some t → form_by (Some t) ≡ Some constant → form_by o ≡ Some constant
  kind_form None t e f = cc
  kind_form (Some Plus) t e f = refl
  kind_form (Some Minus) t e f = refl
  kind_form (Some u) t e f = ap form_by e ∙ f

  literal_form : (v : Val) (span : Span) (ts r : List Lexeme) → IsLiteral s v span ts r → form_by (first_token ts) ≡ Some constant
  literal_form none_val span ts r h = absurd h
  literal_form (bool_val b) span ts r h = kind_form (first_token ts) Keyword (literal_first s (bool_val b) span ts r h) refl
  literal_form (int_val z) span ts r h = kind_form (first_token ts) Number (literal_first s (int_val z) span ts r h) refl
  literal_form (text_val t) span ts r h = kind_form (first_token ts) String (literal_first s (text_val t) span ts r h) refl
  literal_form (list_val vs) span ts r h = absurd h
  literal_form (map_val es) span ts r h = absurd h

  pub base_form : (b : Base) (ts r : List Lexeme) → IsBase s b ts r → form_by (first_token ts) ≡ Some (form b)
  base_form (var first others) ts r h = first_form first ts h.0 h.1
  base_form (literal v span) ts r h = literal_form v span ts r h
  base_form (list bases span) ts r h = ap form_by (goes_first OpenBracket h.1.0 ts h.0 h.1.1)
  base_form (mapping items span) ts r h = ap form_by (goes_first OpenBrace h.1.0 ts h.0 h.1.1)
  base_form (paren e span) ts r h = ap form_by (goes_first OpenParen h.2.0 ts h.0 h.2.1)
  base_form (call name args span) ts r h = ap form_by (goes_first Ident name.span ts h.0 h.2.0)

  pub same_form : (b c : Base) (ts us r x : List Lexeme) → ts ≡ us → IsBase s b ts r → IsBase s c us x → Some (form b) ≡ Some (form c)
  same_form b c ts us r x same h k = sym (base_form b ts r h) ∙ ap (λ t. form_by (first_token t)) same ∙ base_form c us x k

  -- where this token goes, no expression without filters begins
  pub begins_no_base : (t : Token) (b : Base) (ts us r x : List Lexeme) → form_by (Some t) ≡ None → ts ≡ us → GoesBy t ts r → IsBase s b us x → ⊥
  begins_no_base t b ts us r x none same g h =
      let e : None ≡ Some (form b) = sym none ∙ ap form_by (sym (goes_first t g.0 ts r g.1)) ∙ ap (λ y. form_by (first_token y)) same ∙ base_form b us x h in
      cc

  not_begins_no_base : (b : Base) (ts us r x : List Lexeme) → ts ≡ us → IsBase s b ts r → GoesKeyword s (codes "not") us x → ⊥
  not_begins_no_base (literal v span) ts us r x same h k = not_is_no_literal s v span ts us r x same h k
  not_begins_no_base b ts us r x same h k =
      let e : Some (form b) ≡ Some constant = sym (base_form b ts r h) ∙ ap (λ t. form_by (first_token t)) same ∙ ap form_by (goes_first Keyword k.0 us x k.1.0) in
      cc

  -- no expression begins with the word `not`
  pub not_begins_no_expression : (e : Expression) (ts us r x : List Lexeme) → ts ≡ us → IsExpression s e ts r → GoesKeyword s (codes "not") us x → ⊥
  not_begins_no_expression (base b) ts us r x same h k = not_begins_no_base b ts us r x same h k
  not_begins_no_expression (filtered e name args span) ts us r x same h k = not_begins_no_expression e ts us h.0 x same h.3 k
