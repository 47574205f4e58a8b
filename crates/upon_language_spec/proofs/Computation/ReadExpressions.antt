-- Reading an expression from tokens by its tree.
use Rattle.std.proofs.Common.{◌≡◌, ◌⊎◌, inl, inr, ℕ, ◌==◌, List, Some, None}
use Rattle.upon_types.specs.declared.types.Span.{Span}
use Rattle.upon_types.specs.declared.types.token.Token.TheVariants.{OpenBracket, CloseBracket, OpenBrace, CloseBrace, OpenParen, CloseParen, Pipe, Comma, Colon}
use Rattle.upon_types.specs.Path.{Member}
use Rattle.upon_types.specs.Expression.{Expression, base, filtered, Base, var, literal, list, mapping, paren, call, Bases, no_bases, base_then, Items, no_items, item_then, Arguments, no_arguments, arguments, expression_span}
use Rattle.upon_language_spec.specs.Cut.{Lexeme}
use Rattle.upon_language_spec.specs.Expressions.{IsBareName, IsMember, last_end, filter_end, IsBase, IsListBody, IsListTail, IsMapBody, IsMapTail, IsCallBody, IsArgs, IsMoreArgs, IsExpression, IsFilterArgs}
use Rattle.upon_language_spec.proofs.Computation.Tests.{same_number}
use Rattle.upon_language_spec.proofs.Computation.ReadTokens.{Left, then_read, when, or_read, both_read, read_when, one_read, first_span, same_span, one_span, read_by, goes_read, by_read, read_name, read_text, name_read, text_read}
use Rattle.upon_language_spec.proofs.Computation.ReadParts.{read_step, step_read, read_bare, bare_read, read_steps, steps_read, read_literal, literal_read, read_opens, read_closes, read_closes_list, opens_read, closes_read, closes_list_read}

-- a path's first step
abbrev pub read_first : List ℕ → Member → List Lexeme → Left
read_first s step before = or_read (read_bare s step before) (read_step s step before)

first_read : (s : List ℕ) (step : Member) (before rest : List Lexeme) → read_first s step before ≡ Some rest → IsBareName s step before rest ⊎ IsMember s step before rest
first_read s step before rest h = elim (one_read (read_bare s step before) (read_step s step before) rest h) as (λ o. IsBareName s step before rest ⊎ IsMember s step before rest) [
  | inl a ↦ inl (bare_read s step before rest a)
  | inr a ↦ inr (step_read s step before rest a)
]

abbrev mutual
  pub read_base : List ℕ → Base → List Lexeme → Left
  read_base s (var first others) before = then_read (read_first s first before) (read_steps s others)
  read_base s (literal v span) before = read_literal s v span before
  read_base s (list bases span) before = then_read (read_opens OpenBracket span before) (read_list_body s bases span)
  read_base s (mapping items span) before = then_read (read_opens OpenBrace span before) (read_map_body s items span)
  read_base s (paren e span) before = then_read (then_read (read_opens OpenParen span before) (read_expression s e)) (read_closes CloseParen span)
  read_base s (call name args span) before = when (name.span.m == span.m) (then_read (then_read (read_name s name before) (read_by OpenParen)) (read_call_body s args span))

  pub read_list_body : List ℕ → Bases → Span → List Lexeme → Left
  read_list_body s no_bases span before = read_closes CloseBracket span before
  read_list_body s (base_then b bs) span before = then_read (read_base s b before) (read_list_tail s bs span)

  pub read_list_tail : List ℕ → Bases → Span → List Lexeme → Left
  read_list_tail s no_bases span before = read_closes_list CloseBracket span before
  read_list_tail s (base_then b bs) span before = then_read (then_read (read_by Comma before) (read_base s b)) (read_list_tail s bs span)

  pub read_map_body : List ℕ → Items → Span → List Lexeme → Left
  read_map_body s no_items span before = read_closes CloseBrace span before
  read_map_body s (item_then key b items) span before = then_read (then_read (then_read (read_text s key before) (read_by Colon)) (read_base s b)) (read_map_tail s items span)

  pub read_map_tail : List ℕ → Items → Span → List Lexeme → Left
  read_map_tail s no_items span before = read_closes_list CloseBrace span before
  read_map_tail s (item_then key b items) span before = then_read (then_read (then_read (then_read (read_by Comma before) (read_text s key)) (read_by Colon)) (read_base s b)) (read_map_tail s items span)

  pub read_call_body : List ℕ → Arguments → Span → List Lexeme → Left
  read_call_body s no_arguments span before = read_closes CloseParen span before
  read_call_body s (arguments bases place) span before = when (same_span place (record { m = span.m; n = last_end 0 bases })) (then_read (read_args s bases before) (read_closes CloseParen span))

  pub read_args : List ℕ → Bases → List Lexeme → Left
  read_args s no_bases before = None
  read_args s (base_then b bs) before = then_read (read_base s b before) (read_more_args s bs)

  pub read_more_args : List ℕ → Bases → List Lexeme → Left
  read_more_args s no_bases before = Some before
  read_more_args s (base_then b bs) before = then_read (then_read (read_by Comma before) (read_base s b)) (read_more_args s bs)

  pub read_expression : List ℕ → Expression → List Lexeme → Left
  read_expression s (base b) before = read_base s b before
  read_expression s (filtered e name args span) before = when (same_span span (record { m = (expression_span e).m; n = filter_end name args })) (then_read (then_read (then_read (read_expression s e before) (read_by Pipe)) (read_name s name)) (read_filter_args s args))

  pub read_filter_args : List ℕ → Arguments → List Lexeme → Left
  read_filter_args s no_arguments before = Some before
  read_filter_args s (arguments bases place) before = when (same_span place (record { m = (first_span before).m; n = last_end 0 bases })) (then_read (read_by Colon before) (read_args s bases))

mutual
  pub base_read : (s : List ℕ) (b : Base) (before rest : List Lexeme) → read_base s b before ≡ Some rest → IsBase s b before rest
  base_read s (var first others) before rest h = let a = both_read (read_first s first before) (read_steps s others) rest h in (a.0, first_read s first before a.0 a.1, steps_read s others a.0 rest a.2)
  base_read s (literal v span) before rest h = literal_read s v span before rest h
  base_read s (list bases span) before rest h = let a = both_read (read_opens OpenBracket span before) (read_list_body s bases span) rest h in (a.0, opens_read OpenBracket span before a.0 a.1, list_body_read s bases span a.0 rest a.2)
  base_read s (mapping items span) before rest h = let a = both_read (read_opens OpenBrace span before) (read_map_body s items span) rest h in (a.0, opens_read OpenBrace span before a.0 a.1, map_body_read s items span a.0 rest a.2)
  base_read s (paren e span) before rest h =
      let b = both_read (then_read (read_opens OpenParen span before) (read_expression s e)) (read_closes CloseParen span) rest h in
      let a = both_read (read_opens OpenParen span before) (read_expression s e) b.0 b.1 in
      (a.0, b.0, opens_read OpenParen span before a.0 a.1, expression_read s e a.0 b.0 a.2, closes_read CloseParen span b.0 rest b.2)
  base_read s (call name args span) before rest h =
      let c = read_when (name.span.m == span.m) (then_read (then_read (read_name s name before) (read_by OpenParen)) (read_call_body s args span)) rest h in
      let b = both_read (then_read (read_name s name before) (read_by OpenParen)) (read_call_body s args span) rest c.1 in
      let a = both_read (read_name s name before) (read_by OpenParen) b.0 b.1 in
      (a.0, b.0, name_read s name before a.0 a.1, same_number _ _ c.0, by_read OpenParen a.0 b.0 a.2, call_body_read s args span b.0 rest b.2)

  list_body_read : (s : List ℕ) (bs : Bases) (span : Span) (before rest : List Lexeme) → read_list_body s bs span before ≡ Some rest → IsListBody s bs span before rest
  list_body_read s no_bases span before rest h = closes_read CloseBracket span before rest h
  list_body_read s (base_then b bs) span before rest h = let a = both_read (read_base s b before) (read_list_tail s bs span) rest h in (a.0, base_read s b before a.0 a.1, list_tail_read s bs span a.0 rest a.2)

  list_tail_read : (s : List ℕ) (bs : Bases) (span : Span) (before rest : List Lexeme) → read_list_tail s bs span before ≡ Some rest → IsListTail s bs span before rest
  list_tail_read s no_bases span before rest h = closes_list_read CloseBracket span before rest h
  list_tail_read s (base_then b bs) span before rest h =
      let c = both_read (then_read (read_by Comma before) (read_base s b)) (read_list_tail s bs span) rest h in
      let a = both_read (read_by Comma before) (read_base s b) c.0 c.1 in
      (a.0, c.0, by_read Comma before a.0 a.1, base_read s b a.0 c.0 a.2, list_tail_read s bs span c.0 rest c.2)

  map_body_read : (s : List ℕ) (items : Items) (span : Span) (before rest : List Lexeme) → read_map_body s items span before ≡ Some rest → IsMapBody s items span before rest
  map_body_read s no_items span before rest h = closes_read CloseBrace span before rest h
  map_body_read s (item_then key b items) span before rest h =
      let d = both_read (then_read (then_read (read_text s key before) (read_by Colon)) (read_base s b)) (read_map_tail s items span) rest h in
      let c = both_read (then_read (read_text s key before) (read_by Colon)) (read_base s b) d.0 d.1 in
      let a = both_read (read_text s key before) (read_by Colon) c.0 c.1 in
      (a.0, c.0, text_read s key before a.0 a.1, by_read Colon a.0 c.0 a.2, (d.0, base_read s b c.0 d.0 c.2, map_tail_read s items span d.0 rest d.2))

  map_tail_read : (s : List ℕ) (items : Items) (span : Span) (before rest : List Lexeme) → read_map_tail s items span before ≡ Some rest → IsMapTail s items span before rest
  map_tail_read s no_items span before rest h = closes_list_read CloseBrace span before rest h
  map_tail_read s (item_then key b items) span before rest h =
      let e = both_read (then_read (then_read (then_read (read_by Comma before) (read_text s key)) (read_by Colon)) (read_base s b)) (read_map_tail s items span) rest h in
      let d = both_read (then_read (then_read (read_by Comma before) (read_text s key)) (read_by Colon)) (read_base s b) e.0 e.1 in
      let c = both_read (then_read (read_by Comma before) (read_text s key)) (read_by Colon) d.0 d.1 in
      let a = both_read (read_by Comma before) (read_text s key) c.0 c.1 in
      (a.0, c.0, d.0, by_read Comma before a.0 a.1, text_read s key a.0 c.0 a.2, by_read Colon c.0 d.0 c.2, (e.0, base_read s b d.0 e.0 d.2, map_tail_read s items span e.0 rest e.2))

  call_body_read : (s : List ℕ) (args : Arguments) (span : Span) (before rest : List Lexeme) → read_call_body s args span before ≡ Some rest → IsCallBody s args span before rest
  call_body_read s no_arguments span before rest h = closes_read CloseParen span before rest h
  call_body_read s (arguments bases place) span before rest h =
      let c = read_when (same_span place (record { m = span.m; n = last_end 0 bases })) (then_read (read_args s bases before) (read_closes CloseParen span)) rest h in
      let a = both_read (read_args s bases before) (read_closes CloseParen span) rest c.1 in
      (a.0, args_read s bases before a.0 a.1, one_span _ _ c.0, closes_read CloseParen span a.0 rest a.2)

  args_read : (s : List ℕ) (bs : Bases) (before rest : List Lexeme) → read_args s bs before ≡ Some rest → IsArgs s bs before rest
  args_read s no_bases before rest h = absurd cc
  args_read s (base_then b bs) before rest h = let a = both_read (read_base s b before) (read_more_args s bs) rest h in (a.0, base_read s b before a.0 a.1, more_args_read s bs a.0 rest a.2)

  more_args_read : (s : List ℕ) (bs : Bases) (before rest : List Lexeme) → read_more_args s bs before ≡ Some rest → IsMoreArgs s bs before rest
  more_args_read s no_bases before rest h = cc
  more_args_read s (base_then b bs) before rest h =
      let c = both_read (then_read (read_by Comma before) (read_base s b)) (read_more_args s bs) rest h in
      let a = both_read (read_by Comma before) (read_base s b) c.0 c.1 in
      (a.0, c.0, by_read Comma before a.0 a.1, base_read s b a.0 c.0 a.2, more_args_read s bs c.0 rest c.2)

  pub expression_read : (s : List ℕ) (e : Expression) (before rest : List Lexeme) → read_expression s e before ≡ Some rest → IsExpression s e before rest
  expression_read s (base b) before rest h = base_read s b before rest h
  expression_read s (filtered e name args span) before rest h =
      let d = read_when (same_span span (record { m = (expression_span e).m; n = filter_end name args })) (then_read (then_read (then_read (read_expression s e before) (read_by Pipe)) (read_name s name)) (read_filter_args s args)) rest h in
      let c = both_read (then_read (then_read (read_expression s e before) (read_by Pipe)) (read_name s name)) (read_filter_args s args) rest d.1 in
      let b = both_read (then_read (read_expression s e before) (read_by Pipe)) (read_name s name) c.0 c.1 in
      let a = both_read (read_expression s e before) (read_by Pipe) b.0 b.1 in
      (a.0, b.0, c.0, expression_read s e before a.0 a.1, by_read Pipe a.0 b.0 a.2, name_read s name b.0 c.0 b.2, filter_args_read s args c.0 rest c.2, one_span _ _ d.0)

  filter_args_read : (s : List ℕ) (args : Arguments) (before rest : List Lexeme) → read_filter_args s args before ≡ Some rest → IsFilterArgs s args before rest
  filter_args_read s no_arguments before rest h = cc
  filter_args_read s (arguments bases place) before rest h =
      let c = read_when (same_span place (record { m = (first_span before).m; n = last_end 0 bases })) (then_read (read_by Colon before) (read_args s bases)) rest h in
      let a = both_read (read_by Colon before) (read_args s bases) rest c.1 in
      (first_span before, a.0, goes_read Colon before a.0 a.1, args_read s bases a.0 rest a.2, one_span _ _ c.0)
