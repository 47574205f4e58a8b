-- The tokens of an expression are fine as they are.
use Rattle.std.proofs.Common.{◌≡◌, ◌⊎◌, inl, inr, ℕ, ℤ, List, [], ◌∷◌, Bool, true, false, refl, codes}
use Rattle.upon_types.specs.declared.types.Span.{Span}
use Rattle.upon_types.specs.declared.types.token.Token.{Token}
use Rattle.upon_types.specs.declared.types.token.Token.TheVariants.{OpenBracket, CloseBracket, OpenBrace, CloseBrace, OpenParen, CloseParen, Comma, Colon, Pipe, Keyword, Ident as Identifier, Number}
use Rattle.upon_types.specs.declared.types.ast.path.AccessOp.{AccessOp}
use Rattle.upon_types.specs.declared.types.ast.path.AccessOp.TheVariants.{Direct, Optional}
use Rattle.upon_types.specs.Val.{Val, none_val, bool_val, int_val, text_val, list_val, map_val}
use Rattle.upon_types.specs.Path.{Ident, Access, by_index, by_key, Member}
use Rattle.upon_types.specs.Expression.{Expression, base, filtered, Base, var, literal, list, mapping, paren, call, Bases, no_bases, base_then, Items, no_items, item_then, Arguments, no_arguments, arguments}
use Rattle.upon_types.specs.Span.{slice}
use Rattle.upon_language_spec.specs.Cut.{Lexeme}
use Rattle.upon_language_spec.specs.Literal.{IsInteger}
use Rattle.upon_language_spec.specs.Tokens.{Goes, GoesBy, GoesWord, GoesKeyword, GoesName, GoesText}
use Rattle.upon_language_spec.specs.Expressions.{op_token, sign_token, IsAccess, IsMember, IsBareName, AreMembers, IsLiteral, Closes, ClosesList, IsBase, IsListBody, IsListTail, IsMapBody, IsMapTail, IsCallBody, IsArgs, IsMoreArgs, IsExpression, IsFilterArgs}
use Rattle.upon_language_spec.specs.Faults.{closes}
use Rattle.upon_language_spec.proofs.NoTreeWithFault.Fine.{Passing, Passes, passing_then, passes_then, passes_nothing}
use Rattle.upon_language_spec.proofs.NoTreeWithFault.FineTokens.{is_plain, is_minus, passes_plain, passes_index, passes_string, passes_number, passes_minus, passes_plus, is_open, passing_open, passing_close}

module _ (s : List ℕ) where
  pub passes_by : (t : Token) (ts rest : List Lexeme) → is_plain t ≡ true → GoesBy t ts rest → Passes s ts rest
  passes_by t ts rest h g = passes_plain s t g.0 ts rest h g.1

  pub passes_name : (name : Ident) (ts rest : List Lexeme) → GoesName s name ts rest → Passes s ts rest
  passes_name name ts rest g = passes_plain s Identifier name.span ts rest refl g.0

  pub passes_text : (text : Ident) (ts rest : List Lexeme) → GoesText s text ts rest → Passes s ts rest
  passes_text text ts rest g = passes_string s text.span text.text ts rest g.0 g.1

  pub passes_word : (word : List ℕ) (span : Span) (ts rest : List Lexeme) → GoesWord s word span ts rest → Passes s ts rest
  passes_word word span ts rest g = passes_plain s Keyword span ts rest refl g.0

  pub passes_keyword : (word : List ℕ) (ts rest : List Lexeme) → GoesKeyword s word ts rest → Passes s ts rest
  passes_keyword word ts rest g = passes_word word g.0 ts rest g.1

  passes_access : (x : Access) (ts rest : List Lexeme) → IsAccess s x ts rest → Passes s ts rest
  passes_access (by_index i span) ts rest g = passes_index s span i ts rest g.0 g.1
  passes_access (by_key name) ts rest g = passes_name name ts rest g

  plain_op : (op : AccessOp) → is_plain (op_token op) ≡ true
  plain_op Direct = refl
  plain_op Optional = refl

  passes_step : (x : Member) (ts rest : List Lexeme) → IsMember s x ts rest → Passes s ts rest
  passes_step x ts rest g = passes_then s ts g.1 rest (passes_plain s (op_token x.op) g.0 ts g.1 (plain_op x.op) g.2) (passes_access x.access g.1 rest g.3)

  passes_first : (x : Member) (ts rest : List Lexeme) → (IsBareName s x ts rest ⊎ IsMember s x ts rest) → Passes s ts rest
  passes_first x ts rest (inl g) = passes_name g.0 ts rest g.1
  passes_first x ts rest (inr g) = passes_step x ts rest g

  passes_steps : (xs : List Member) (ts rest : List Lexeme) → AreMembers s xs ts rest → Passes s ts rest
  passes_steps [] ts rest g = passes_nothing s ts rest g
  passes_steps (x ∷ xs) ts rest g = passes_then s ts g.0 rest (passes_step x ts g.0 g.1) (passes_steps xs g.0 rest g.2)

  passes_sign : (minus : Bool) (z : ℤ) (sign number : Span) (ts us rest : List Lexeme) → Goes (sign_token minus) sign ts us → Goes Number number us rest → IsInteger minus (slice s number) z → Passes s ts rest
  passes_sign true z sign number ts us rest g h value = passes_minus s sign number z ts us rest g h value
  passes_sign false z sign number ts us rest g h value = passes_plus s sign number z ts us rest g h value

  passes_literal : (v : Val) (span : Span) (ts rest : List Lexeme) → IsLiteral s v span ts rest → Passes s ts rest
  passes_literal (bool_val true) span ts rest g = passes_word (codes "true") span ts rest g
  passes_literal (bool_val false) span ts rest g = passes_word (codes "false") span ts rest g
  passes_literal (int_val z) span ts rest (inl g) = passes_number s span z ts rest g.0 g.1
  passes_literal (int_val z) span ts rest (inr g) = passes_sign g.0 z g.1 g.2 ts g.3 rest g.4 g.5 g.7
  passes_literal (text_val t) span ts rest g = passes_text (record { text = t; span = span }) ts rest g
  passes_literal none_val span ts rest g = absurd g
  passes_literal (list_val vs) span ts rest g = absurd g
  passes_literal (map_val es) span ts rest g = absurd g

  -- with this bracket open, up to the bracket that closes it
  Closing : List Lexeme → List Lexeme → Token → Type 0
  Closing ts rest t = (o : Lexeme) (a : List Lexeme) → o.token ≡ t → Passing s ts rest (o ∷ a) a

  closing : (t u : Token) (span : Span) (ts rest : List Lexeme) → closes t u ≡ true → is_minus u ≡ false → Closes u span ts rest → Closing ts rest t
  unfolding Closing
  closing t u span ts rest h k g = λ o a e. passing_close s t u o g.0 ts rest a e h k g.1

  closing_list : (t u : Token) (span : Span) (ts rest : List Lexeme) → closes t u ≡ true → is_minus u ≡ false → ClosesList u span ts rest → Closing ts rest t
  unfolding Closing
  closing_list t u span ts rest h k (inl g) = closing t u span ts rest h k g
  closing_list t u span ts rest h k (inr g) = λ o a e. passing_then s ts g.0 rest (o ∷ a) (o ∷ a) a (passes_by Comma ts g.0 refl g.1 (o ∷ a)) (closing t u span g.0 rest h k g.2 o a e)

  behind : (t : Token) (ts us rest : List Lexeme) → Passes s ts us → Closing us rest t → Closing ts rest t
  unfolding Closing
  behind t ts us rest x y = λ o a e. passing_then s ts us rest (o ∷ a) (o ∷ a) a (x (o ∷ a)) (y o a e)

  opened : (t : Token) (span : Span) (ts us rest : List Lexeme) → is_open t ≡ true → is_minus t ≡ false → Goes t span ts us → Closing us rest t → Passes s ts rest
  unfolding Closing
  opened t span ts us rest h k g y = λ a. passing_then s ts us rest a (g.lexeme ∷ a) a (passing_open s t span ts us a g h k) (y g.lexeme a g.of_token)

  mutual
    passes_base : (b : Base) (ts rest : List Lexeme) → IsBase s b ts rest → Passes s ts rest
    passes_base (var first others) ts rest g = passes_then s ts g.0 rest (passes_first first ts g.0 g.1) (passes_steps others g.0 rest g.2)
    passes_base (literal v span) ts rest g = passes_literal v span ts rest g
    passes_base (list bases span) ts rest g = opened OpenBracket g.1.0 ts g.0 rest refl refl g.1.1 (list_body bases span g.0 rest g.2)
    passes_base (mapping items span) ts rest g = opened OpenBrace g.1.0 ts g.0 rest refl refl g.1.1 (map_body items span g.0 rest g.2)
    passes_base (paren e span) ts rest g = opened OpenParen g.2.0 ts g.0 rest refl refl g.2.1 (behind OpenParen g.0 g.1 rest (passes_expression e g.0 g.1 g.3) (closing OpenParen CloseParen span g.1 rest refl refl g.4))
    passes_base (call name args span) ts rest g = passes_then s ts g.0 rest (passes_name name ts g.0 g.2) (opened OpenParen g.4.0 g.0 g.1 rest refl refl g.4.1 (call_body args span g.1 rest g.5))

    list_body : (bs : Bases) (span : Span) (ts rest : List Lexeme) → IsListBody s bs span ts rest → Closing ts rest OpenBracket
    list_body no_bases span ts rest g = closing OpenBracket CloseBracket span ts rest refl refl g
    list_body (base_then b bs) span ts rest g = behind OpenBracket ts g.0 rest (passes_base b ts g.0 g.1) (list_tail bs span g.0 rest g.2)

    list_tail : (bs : Bases) (span : Span) (ts rest : List Lexeme) → IsListTail s bs span ts rest → Closing ts rest OpenBracket
    list_tail no_bases span ts rest g = closing_list OpenBracket CloseBracket span ts rest refl refl g
    list_tail (base_then b bs) span ts rest g = behind OpenBracket ts g.0 rest (passes_by Comma ts g.0 refl g.2) (behind OpenBracket g.0 g.1 rest (passes_base b g.0 g.1 g.3) (list_tail bs span g.1 rest g.4))

    map_body : (items : Items) (span : Span) (ts rest : List Lexeme) → IsMapBody s items span ts rest → Closing ts rest OpenBrace
    map_body no_items span ts rest g = closing OpenBrace CloseBrace span ts rest refl refl g
    map_body (item_then key b items) span ts rest g =
        behind OpenBrace ts g.0 rest (passes_text key ts g.0 g.2) (behind OpenBrace g.0 g.1 rest (passes_by Colon g.0 g.1 refl g.3) (behind OpenBrace g.1 g.4.0 rest (passes_base b g.1 g.4.0 g.4.1) (map_tail items span g.4.0 rest g.4.2)))

    map_tail : (items : Items) (span : Span) (ts rest : List Lexeme) → IsMapTail s items span ts rest → Closing ts rest OpenBrace
    map_tail no_items span ts rest g = closing_list OpenBrace CloseBrace span ts rest refl refl g
    map_tail (item_then key b items) span ts rest g =
        behind OpenBrace ts g.0 rest (passes_by Comma ts g.0 refl g.3) (behind OpenBrace g.0 g.1 rest (passes_text key g.0 g.1 g.4) (behind OpenBrace g.1 g.2 rest (passes_by Colon g.1 g.2 refl g.5) (behind OpenBrace g.2 g.6.0 rest (passes_base b g.2 g.6.0 g.6.1) (map_tail items span g.6.0 rest g.6.2))))

    call_body : (args : Arguments) (span : Span) (ts rest : List Lexeme) → IsCallBody s args span ts rest → Closing ts rest OpenParen
    call_body no_arguments span ts rest g = closing OpenParen CloseParen span ts rest refl refl g
    call_body (arguments bases place) span ts rest g = behind OpenParen ts g.0 rest (passes_args bases ts g.0 g.1) (closing OpenParen CloseParen span g.0 rest refl refl g.3)

    passes_args : (bs : Bases) (ts rest : List Lexeme) → IsArgs s bs ts rest → Passes s ts rest
    passes_args no_bases ts rest g = absurd g
    passes_args (base_then b bs) ts rest g = passes_then s ts g.0 rest (passes_base b ts g.0 g.1) (passes_more bs g.0 rest g.2)

    passes_more : (bs : Bases) (ts rest : List Lexeme) → IsMoreArgs s bs ts rest → Passes s ts rest
    passes_more no_bases ts rest g = passes_nothing s ts rest g
    passes_more (base_then b bs) ts rest g = passes_then s ts g.0 rest (passes_by Comma ts g.0 refl g.2) (passes_then s g.0 g.1 rest (passes_base b g.0 g.1 g.3) (passes_more bs g.1 rest g.4))

    pub passes_expression : (e : Expression) (ts rest : List Lexeme) → IsExpression s e ts rest → Passes s ts rest
    passes_expression (base b) ts rest g = passes_base b ts rest g
    passes_expression (filtered e name args span) ts rest g =
        passes_then s ts g.0 rest (passes_expression e ts g.0 g.3) (passes_then s g.0 g.1 rest (passes_by Pipe g.0 g.1 refl g.4) (passes_then s g.1 g.2 rest (passes_name name g.1 g.2 g.5) (passes_filter_args args g.2 rest g.6)))

    passes_filter_args : (args : Arguments) (ts rest : List Lexeme) → IsFilterArgs s args ts rest → Passes s ts rest
    passes_filter_args no_arguments ts rest g = passes_nothing s ts rest g
    passes_filter_args (arguments bases place) ts rest g = passes_then s ts g.1 rest (passes_plain s Colon g.0 ts g.1 refl g.2) (passes_args bases g.1 rest g.3)
