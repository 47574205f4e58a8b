-- What is read of some tokens is read of them with more tokens after.
use Rattle.std.proofs.Common.{◌≡◌, inl, inr, ℕ, List, [], ◌∷◌, ◌++◌, true, false, ap}
use Rattle.upon_types.specs.declared.types.Span.{Span}
use Rattle.upon_types.specs.declared.types.token.Token.{Token}
use Rattle.upon_types.specs.Val.{Val, none_val, bool_val, int_val, text_val, list_val, map_val}
use Rattle.upon_types.specs.Path.{Access, by_index, by_key, Member}
use Rattle.upon_types.specs.Expression.{Expression, base, filtered, Base, var, literal, list, mapping, paren, call, Bases, no_bases, base_then, Items, no_items, item_then, Arguments, no_arguments, arguments}
use Rattle.upon_language_spec.specs.Cut.{Lexeme}
use Rattle.upon_language_spec.specs.Tokens.{Goes, GoesBy}
use Rattle.upon_language_spec.specs.Expressions.{IsAccess, IsMember, AreMembers, IsLiteral, IsBase, IsListBody, IsListTail, IsMapBody, IsMapTail, IsCallBody, IsArgs, IsMoreArgs, IsExpression, IsFilterArgs}

module _ (s : List ℕ) (more : List Lexeme) where
  pub goes_more : {t : Token} {at : Span} {ts us : List Lexeme} → Goes t at ts us → Goes t at (ts ++ more) (us ++ more)
  goes_more g = record { lexeme = g.lexeme; is = ap (λ x. x ++ more) g.is; of_token = g.of_token; at = g.at }

  pub by_more : {t : Token} {ts us : List Lexeme} → GoesBy t ts us → GoesBy t (ts ++ more) (us ++ more)
  by_more g = (g.0, goes_more g.1)

  pub same_more : {ts us : List Lexeme} → ts ≡ us → ts ++ more ≡ us ++ more
  same_more e = ap (λ x. x ++ more) e

  access_more : (sel : Access) (ts us : List Lexeme) → IsAccess s sel ts us → IsAccess s sel (ts ++ more) (us ++ more)
  access_more (by_index i at) ts us g = (goes_more g.0, g.1)
  access_more (by_key name) ts us g = (goes_more g.0, g.1)

  step_more : (step : Member) (ts us : List Lexeme) → IsMember s step ts us → IsMember s step (ts ++ more) (us ++ more)
  step_more step ts us (op, mid, g, access, e) = (op, mid ++ more, goes_more g, access_more step.access mid us access, e)

  steps_more : (steps : List Member) (ts us : List Lexeme) → AreMembers s steps ts us → AreMembers s steps (ts ++ more) (us ++ more)
  steps_more [] ts us e = same_more e
  steps_more (step ∷ steps) ts us (mid, g, others) = (mid ++ more, step_more step ts mid g, steps_more steps mid us others)

  literal_more : (v : Val) (at : Span) (ts us : List Lexeme) → IsLiteral s v at ts us → IsLiteral s v at (ts ++ more) (us ++ more)
  literal_more (bool_val true) at ts us g = (goes_more g.0, g.1)
  literal_more (bool_val false) at ts us g = (goes_more g.0, g.1)
  literal_more (int_val z) at ts us (inl g) = inl (goes_more g.0, g.1)
  literal_more (int_val z) at ts us (inr (minus, sign, number, mid, g, n, e, i)) = inr (minus, sign, number, mid ++ more, goes_more g, goes_more n, e, i)
  literal_more (text_val t) at ts us g = (goes_more g.0, g.1)
  literal_more none_val at ts us g = absurd g
  literal_more (list_val vs) at ts us g = absurd g
  literal_more (map_val es) at ts us g = absurd g

  mutual
    pub base_more : (b : Base) (ts us : List Lexeme) → IsBase s b ts us → IsBase s b (ts ++ more) (us ++ more)
    base_more (var first others) ts us (mid, inl (name, g, e), steps) = (mid ++ more, inl (name, (goes_more g.0, g.1), e), steps_more others mid us steps)
    base_more (var first others) ts us (mid, inr g, steps) = (mid ++ more, inr (step_more first ts mid g), steps_more others mid us steps)
    base_more (literal v at) ts us g = literal_more v at ts us g
    base_more (list bs at) ts us (mid, (opening, g, e), body) = (mid ++ more, (opening, goes_more g, e), list_body_more bs at mid us body)
    base_more (mapping items at) ts us (mid, (opening, g, e), body) = (mid ++ more, (opening, goes_more g, e), map_body_more items at mid us body)
    base_more (paren inner at) ts us (mid, last, (opening, g, e), read, (closing, h, f)) = (mid ++ more, last ++ more, (opening, goes_more g, e), expression_more inner mid last read, (closing, goes_more h, f))
    base_more (call name args at) ts us (mid, last, g, e, opening, body) = (mid ++ more, last ++ more, (goes_more g.0, g.1), e, by_more opening, call_body_more args at last us body)

    list_body_more : (bs : Bases) (at : Span) (ts us : List Lexeme) → IsListBody s bs at ts us → IsListBody s bs at (ts ++ more) (us ++ more)
    list_body_more no_bases at ts us (closing, g, e) = (closing, goes_more g, e)
    list_body_more (base_then b bs) at ts us (mid, g, others) = (mid ++ more, base_more b ts mid g, list_tail_more bs at mid us others)

    list_tail_more : (bs : Bases) (at : Span) (ts us : List Lexeme) → IsListTail s bs at ts us → IsListTail s bs at (ts ++ more) (us ++ more)
    list_tail_more no_bases at ts us (inl (closing, g, e)) = inl (closing, goes_more g, e)
    list_tail_more no_bases at ts us (inr (mid, comma, (closing, g, e))) = inr (mid ++ more, by_more comma, (closing, goes_more g, e))
    list_tail_more (base_then b bs) at ts us (mid, last, comma, g, others) = (mid ++ more, last ++ more, by_more comma, base_more b mid last g, list_tail_more bs at last us others)

    map_body_more : (items : Items) (at : Span) (ts us : List Lexeme) → IsMapBody s items at ts us → IsMapBody s items at (ts ++ more) (us ++ more)
    map_body_more no_items at ts us (closing, g, e) = (closing, goes_more g, e)
    map_body_more (item_then key b items) at ts us (mid, last, k, colon, (next, g, others)) = (mid ++ more, last ++ more, (goes_more k.0, k.1), by_more colon, (next ++ more, base_more b last next g, map_tail_more items at next us others))

    map_tail_more : (items : Items) (at : Span) (ts us : List Lexeme) → IsMapTail s items at ts us → IsMapTail s items at (ts ++ more) (us ++ more)
    map_tail_more no_items at ts us (inl (closing, g, e)) = inl (closing, goes_more g, e)
    map_tail_more no_items at ts us (inr (mid, comma, (closing, g, e))) = inr (mid ++ more, by_more comma, (closing, goes_more g, e))
    map_tail_more (item_then key b items) at ts us (start, mid, last, comma, k, colon, (next, g, others)) = (start ++ more, mid ++ more, last ++ more, by_more comma, (goes_more k.0, k.1), by_more colon, (next ++ more, base_more b last next g, map_tail_more items at next us others))

    call_body_more : (args : Arguments) (at : Span) (ts us : List Lexeme) → IsCallBody s args at ts us → IsCallBody s args at (ts ++ more) (us ++ more)
    call_body_more no_arguments at ts us (closing, g, e) = (closing, goes_more g, e)
    call_body_more (arguments bs place) at ts us (mid, given, e, (closing, g, f)) = (mid ++ more, args_more bs ts mid given, e, (closing, goes_more g, f))

    args_more : (bs : Bases) (ts us : List Lexeme) → IsArgs s bs ts us → IsArgs s bs (ts ++ more) (us ++ more)
    args_more no_bases ts us g = absurd g
    args_more (base_then b bs) ts us (mid, g, others) = (mid ++ more, base_more b ts mid g, more_args_more bs mid us others)

    more_args_more : (bs : Bases) (ts us : List Lexeme) → IsMoreArgs s bs ts us → IsMoreArgs s bs (ts ++ more) (us ++ more)
    more_args_more no_bases ts us e = same_more e
    more_args_more (base_then b bs) ts us (mid, last, comma, g, others) = (mid ++ more, last ++ more, by_more comma, base_more b mid last g, more_args_more bs last us others)

    pub expression_more : (e : Expression) (ts us : List Lexeme) → IsExpression s e ts us → IsExpression s e (ts ++ more) (us ++ more)
    expression_more (base b) ts us g = base_more b ts us g
    expression_more (filtered e name args at) ts us (mid, start, last, g, pipe, k, given, f) = (mid ++ more, start ++ more, last ++ more, expression_more e ts mid g, by_more pipe, (goes_more k.0, k.1), filter_args_more args last us given, f)

    filter_args_more : (args : Arguments) (ts us : List Lexeme) → IsFilterArgs s args ts us → IsFilterArgs s args (ts ++ more) (us ++ more)
    filter_args_more no_arguments ts us e = same_more e
    filter_args_more (arguments bs place) ts us (colon, mid, g, given, e) = (colon, mid ++ more, goes_more g, args_more bs mid us given, e)
