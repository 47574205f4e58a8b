-- What is read of a text as the grammar says leads from the parts that are to come to those that are left.
use Rattle.std.proofs.Common.{◌≡◌, inl, inr, ℕ, List, [], ◌∷◌, ◌++◌, Bool, true, false, Some, refl, sym, ap, ◌∙◌, subst, codes, append_assoc, ◌+◌}
use Rattle.upon_types.specs.declared.types.Span.{Span}
use Rattle.upon_types.specs.declared.types.token.Token.{Token}
use Rattle.upon_types.specs.declared.types.token.Token.TheVariants.{OpenBracket, OpenBrace, OpenParen, Dot, QuestionDot, Comma, Colon, Plus, Minus, Keyword, Ident, Number, String, EndBlock}
use Rattle.upon_types.specs.declared.types.ast.path.AccessOp.{AccessOp}
use Rattle.upon_types.specs.declared.types.ast.path.AccessOp.TheVariants.{Direct, Optional}
use Rattle.upon_types.specs.Val.{Val, none_val, bool_val, int_val, text_val, list_val, map_val}
use Rattle.upon_types.specs.Path.{Access, by_index, by_key, Member, LoopVars, item, key_value}
use Rattle.upon_types.specs.Expression.{var, Expression, base, filtered, Base, literal, list, mapping, paren, call, Bases, no_bases, base_then, Items, no_items, item_then, Arguments, no_arguments, arguments}
use Rattle.upon_language_spec.specs.Cut.{Lexeme}
use Rattle.upon_language_spec.specs.Tokens.{Goes, GoesBy, GoesWord, GoesKeyword}
use Rattle.upon_language_spec.specs.Expressions.{op_token, IsAccess, IsMember, AreMembers, IsLiteral, IsBase, IsListBody, IsListTail, IsMapBody, IsMapTail, IsCallBody, IsArgs, IsMoreArgs, IsExpression, IsFilterArgs}
use Rattle.upon_language_spec.specs.Tags.{Symbol, symbols_of, word_of}
use Rattle.upon_language_spec.specs.Keys.{Key, key_true, key_false, keyword_of}
use Rattle.upon_language_spec.specs.Parts.{Part, a_base, after_name, after_member, a_member, a_magnitude, filters, after_filter, more_args, list_start, list_rest, call_start, call_rest, condition, base_key, goes, after, after_symbol, Path, filter_name, map_start, map_colon, map_rest, close_paren, end_block, loop_name, loop_rest, loop_value, in_word}
use Rattle.upon_language_spec.specs.PartTails.{Tail, no_tail, member_tail, name_tail, tail_parts, Begun, TakesBase}
use Rattle.upon_language_spec.specs.PartLeads.{Leads}
use Rattle.upon_language_spec.specs.OpenParts.{Ending, base_ending, name_ending, args_ending, ending_parts}
use Rattle.upon_language_spec.specs.Grammar.{IsCondition, AreLoopVars}

-- where a Base may come, a path may begin with a member
pub op_takes : (from ps : List Part) → TakesBase from ps → (op : AccessOp) (k : Key) → after from (op_token op) k ≡ Some (a_member ∷ ps)
op_takes from ps takes Direct k = takes Dot k
op_takes from ps takes Optional k = takes QuestionDot k

module _ (s : List ℕ) where
  path_then : (read more : List Lexeme) (a b c : List Part) → Path a (symbols_of s read) b → Path b (symbols_of s more) c → Path a (symbols_of s (read ++ more)) c
  path_then [] more a b c p q = subst (λ x. Path x (symbols_of s more) c) (sym p) q
  path_then (l ∷ read) more a b c (next, goes, p) q = (next, goes, path_then read more next b c p q)

  pub leads_then : {a b c : List Part} {ts us vs : List Lexeme} → Leads s a ts b us → Leads s b us c vs → Leads s a ts c vs
  leads_then {a} {b} {c} {ts} {us} {vs} x y = record {
    read = x.read ++ y.read;
    splits = x.splits ∙ ap (λ z. x.read ++ z) y.splits ∙ sym (append_assoc x.read y.read vs);
    path = path_then x.read y.read a b c x.path y.path;
  }

  pub leads_nowhere : (a : List Part) (ts us : List Lexeme) → ts ≡ us → Leads s a ts a us
  leads_nowhere a ts us e = record { read = []; splits = e; path = refl }

  -- one token
  pub leads_by : {a b : List Part} {t : Token} {span : Span} {ts us : List Lexeme} → Goes t span ts us → after_symbol a (record { token = t; word = word_of s t span }) ≡ Some b → Leads s a ts b us
  leads_by {a} {b} {t} {span} {ts} {us} g h = record {
    read = g.lexeme ∷ [];
    splits = g.is;
    path = (b, ap (λ (x : Symbol). after_symbol a x) (λ i. record { token = g.of_token i; word = word_of s (g.of_token i) (g.at i) }) ∙ h, refl);
  }

  pub leads_key : {a b : List Part} (word : List ℕ) {span : Span} {ts us : List Lexeme} → GoesWord s word span ts us → after a Keyword (keyword_of word) ≡ Some b → Leads s a ts b us
  leads_key {a} {b} word {span} g h = leads_by g.0 (ap (λ w. after a Keyword (keyword_of w)) g.1 ∙ h)

-- a token that goes on with no Base, and none that goes on with an expression's last part
abbrev pub leaves_base : Token → Bool
leaves_base Dot = false
leaves_base QuestionDot = false
leaves_base OpenParen = false
leaves_base t = true

abbrev pub leaves_ending : Token → Bool
leaves_ending Comma = false
leaves_ending Colon = false
leaves_ending t = leaves_base t

name_left : (ps : List Part) (t : Token) (k : Key) → leaves_base t ≡ true → after (after_name ∷ ps) t k ≡ after ps t k
name_left ps Dot k h = absurd cc
name_left ps QuestionDot k h = absurd cc
name_left ps OpenParen k h = absurd cc
name_left ps t k h = refl

member_left : (ps : List Part) (t : Token) (k : Key) → leaves_base t ≡ true → after (after_member ∷ ps) t k ≡ after ps t k
member_left ps Dot k h = absurd cc
member_left ps QuestionDot k h = absurd cc
member_left ps t k h = refl

pub tail_left : (tail : Tail) (ps : List Part) (t : Token) (k : Key) → leaves_base t ≡ true → after (tail_parts tail ++ ps) t k ≡ after ps t k
tail_left no_tail ps t k h = refl
tail_left member_tail ps t k h = member_left ps t k h
tail_left name_tail ps t k h = name_left ps t k h

leaves_both : (t : Token) → leaves_ending t ≡ true → leaves_base t ≡ true
leaves_both Comma h = refl
leaves_both Colon h = refl
leaves_both t h = h

filter_left : (ps : List Part) (t : Token) (k : Key) → leaves_ending t ≡ true → after (after_filter ∷ ps) t k ≡ after ps t k
filter_left ps Colon k h = absurd cc
filter_left ps t k h = refl

args_left : (ps : List Part) (t : Token) (k : Key) → leaves_ending t ≡ true → after (more_args ∷ ps) t k ≡ after ps t k
args_left ps Comma k h = absurd cc
args_left ps t k h = refl

args_tail_left : (tail : Tail) (ps : List Part) (t : Token) (k : Key) → leaves_ending t ≡ true → after ((tail_parts tail ++ more_args ∷ []) ++ ps) t k ≡ after ps t k
args_tail_left no_tail ps t k h = args_left ps t k h
args_tail_left member_tail ps t k h = member_left (more_args ∷ ps) t k (leaves_both t h) ∙ args_left ps t k h
args_tail_left name_tail ps t k h = name_left (more_args ∷ ps) t k (leaves_both t h) ∙ args_left ps t k h

pub ending_left : (e : Ending) (ps : List Part) (t : Token) (k : Key) → leaves_ending t ≡ true → after (ending_parts e ++ ps) t k ≡ after ps t k
ending_left (base_ending tail) ps t k h = tail_left tail ps t k (leaves_both t h)
ending_left name_ending ps t k h = filter_left ps t k h
ending_left (args_ending tail) ps t k h = args_tail_left tail ps t k h

word_takes : (ps others : List Part) (k : Key) → (after ps Keyword key_true ≡ Some others) → (after ps Keyword key_false ≡ Some others) → Begun (base_key k []) (after ps Keyword k) others
word_takes ps others key_true a b = a
word_takes ps others key_false a b = b
word_takes ps others k a b = tt

pub base_takes : (ps : List Part) → TakesBase (a_base ∷ ps) ps
base_takes ps Keyword k = word_takes (a_base ∷ ps) ps k refl refl
base_takes ps Plus k = refl
base_takes ps Minus k = refl
base_takes ps Number k = refl
base_takes ps String k = refl
base_takes ps Ident k = refl
base_takes ps Dot k = refl
base_takes ps QuestionDot k = refl
base_takes ps OpenBracket k = refl
base_takes ps OpenBrace k = refl
base_takes ps OpenParen k = refl
base_takes ps t k = tt

pub list_takes : (ps : List Part) → TakesBase (list_start ∷ ps) (list_rest ∷ ps)
list_takes ps Keyword k = word_takes (list_start ∷ ps) (list_rest ∷ ps) k refl refl
list_takes ps Plus k = refl
list_takes ps Minus k = refl
list_takes ps Number k = refl
list_takes ps String k = refl
list_takes ps Ident k = refl
list_takes ps Dot k = refl
list_takes ps QuestionDot k = refl
list_takes ps OpenBracket k = refl
list_takes ps OpenBrace k = refl
list_takes ps OpenParen k = refl
list_takes ps t k = tt

pub call_takes : (ps : List Part) → TakesBase (call_start ∷ ps) (call_rest ∷ ps)
call_takes ps Keyword k = word_takes (call_start ∷ ps) (call_rest ∷ ps) k refl refl
call_takes ps Plus k = refl
call_takes ps Minus k = refl
call_takes ps Number k = refl
call_takes ps String k = refl
call_takes ps Ident k = refl
call_takes ps Dot k = refl
call_takes ps QuestionDot k = refl
call_takes ps OpenBracket k = refl
call_takes ps OpenBrace k = refl
call_takes ps OpenParen k = refl
call_takes ps t k = tt

pub condition_takes : (ps : List Part) → TakesBase (condition ∷ ps) (filters ∷ ps)
condition_takes ps Keyword k = word_takes (condition ∷ ps) (filters ∷ ps) k refl refl
condition_takes ps Plus k = refl
condition_takes ps Minus k = refl
condition_takes ps Number k = refl
condition_takes ps String k = refl
condition_takes ps Ident k = refl
condition_takes ps Dot k = refl
condition_takes ps QuestionDot k = refl
condition_takes ps OpenBracket k = refl
condition_takes ps OpenBrace k = refl
condition_takes ps OpenParen k = refl
condition_takes ps t k = tt

module _ (s : List ℕ) where
  -- one token of a kind that has no word
  pub leads_token : {a b : List Part} {t : Token} {ts us : List Lexeme} → GoesBy t ts us → ((k : Key) → after a t k ≡ Some b) → Leads s a ts b us
  leads_token {a} {b} {t} (span, g) h = leads_by s g (h (keyword_of (word_of s t span)))

  -- one token of a kind that has no word, after parts that may still go on
  pub by_tail : {b : List Part} {t : Token} {ts us : List Lexeme} (tail : Tail) (ps : List Part) → GoesBy t ts us → leaves_base t ≡ true → ((k : Key) → after ps t k ≡ Some b) → Leads s (tail_parts tail ++ ps) ts b us
  by_tail {b} {t} tail ps g quiet h = leads_token g (λ k. tail_left tail ps t k quiet ∙ h k)

  pub by_ending : {b : List Part} {t : Token} {ts us : List Lexeme} (e : Ending) (ps : List Part) → GoesBy t ts us → leaves_ending t ≡ true → ((k : Key) → after ps t k ≡ Some b) → Leads s (ending_parts e ++ ps) ts b us
  by_ending {b} {t} e ps g quiet h = leads_token g (λ k. ending_left e ps t k quiet ∙ h k)

  pub access_leads : (ps : List Part) (sel : Access) (ts us : List Lexeme) → IsAccess s sel ts us → Leads s (a_member ∷ ps) ts (after_member ∷ ps) us
  access_leads ps (by_index i span) ts us g = leads_token (span, g.0) (λ k. refl)
  access_leads ps (by_key name) ts us g = leads_token (name.span, g.0) (λ k. refl)

  pub step_leads : {a : List Part} (ps : List Part) (step : Member) (ts us : List Lexeme) → IsMember s step ts us → ((k : Key) → after a (op_token step.op) k ≡ Some (a_member ∷ ps)) → Leads s a ts (after_member ∷ ps) us
  step_leads ps step ts us (op, mid, g, access, e) h = leads_then s (leads_token (op, g) h) (access_leads ps step.access mid us access)

  pub steps_leads : (ps : List Part) (steps : List Member) (ts us : List Lexeme) → AreMembers s steps ts us → Leads s (after_member ∷ ps) ts (after_member ∷ ps) us
  steps_leads ps [] ts us e = leads_nowhere s (after_member ∷ ps) ts us e
  steps_leads ps (step ∷ steps) ts us (mid, g, more) = leads_then s (step_leads ps step ts mid g (member_op step.op)) (steps_leads ps steps mid us more)
    where
      member_op : (op : AccessOp) (k : Key) → after (after_member ∷ ps) (op_token op) k ≡ Some (a_member ∷ ps)
      member_op Direct k = refl
      member_op Optional k = refl

  -- after a bare name
  pub more_leads : (steps : List Member) (ts us : List Lexeme) → AreMembers s steps ts us → (tail : Tail) × ((ps : List Part) → Leads s (after_name ∷ ps) ts (tail_parts tail ++ ps) us)
  more_leads [] ts us e = (name_tail, λ ps. leads_nowhere s (after_name ∷ ps) ts us e)
  more_leads (step ∷ steps) ts us (mid, g, more) = (member_tail, λ ps. leads_then s (step_leads ps step ts mid g (name_op ps step.op)) (steps_leads ps steps mid us more))
    where
      name_op : (ps : List Part) (op : AccessOp) (k : Key) → after (after_name ∷ ps) (op_token op) k ≡ Some (a_member ∷ ps)
      name_op ps Direct k = refl
      name_op ps Optional k = refl

  -- a Base leads to what may go on with it, and what is to come after it
  abbrev pub BaseLeads : List Lexeme → List Lexeme → Type 0
  BaseLeads ts us = (tail : Tail) × ((from ps : List Part) → TakesBase from ps → Leads s from ts (tail_parts tail ++ ps) us)

  pub var_leads : (first : Member) (others : List Member) (ts us : List Lexeme) → IsBase s (var first others) ts us → BaseLeads ts us
  var_leads first others ts us (mid, inl (name, g, e), more) =
      let (tail, leads) = more_leads others mid us more in
      (tail, λ from ps takes. leads_then s (leads_token (name.span, g.0) (λ k. takes Ident k)) (leads ps))
  var_leads first others ts us (mid, inr g, more) = (member_tail, λ from ps takes. leads_then s (step_leads ps first ts mid g (op_takes from ps takes first.op)) (steps_leads ps others mid us more))

  pub literal_leads : (v : Val) (span : Span) (ts us : List Lexeme) → IsLiteral s v span ts us → BaseLeads ts us
  literal_leads (bool_val true) span ts us g = (no_tail, λ from ps takes. leads_key s (codes "true") g (takes Keyword key_true))
  literal_leads (bool_val false) span ts us g = (no_tail, λ from ps takes. leads_key s (codes "false") g (takes Keyword key_false))
  literal_leads (int_val z) span ts us (inl g) = (no_tail, λ from ps takes. leads_token (span, g.0) (λ k. takes Number k))
  literal_leads (int_val z) span ts us (inr (true, sign, number, mid, g, n, e, i)) = (no_tail, λ from ps takes. leads_then s (leads_token (sign, g) (λ k. takes Minus k)) (leads_token {a = a_magnitude ∷ ps} (number, n) (λ k. refl)))
  literal_leads (int_val z) span ts us (inr (false, sign, number, mid, g, n, e, i)) = (no_tail, λ from ps takes. leads_then s (leads_token (sign, g) (λ k. takes Plus k)) (leads_token {a = a_magnitude ∷ ps} (number, n) (λ k. refl)))
  literal_leads (text_val t) span ts us g = (no_tail, λ from ps takes. leads_token (span, g.0) (λ k. takes String k))
  literal_leads none_val span ts us g = absurd g
  literal_leads (list_val vs) span ts us g = absurd g
  literal_leads (map_val es) span ts us g = absurd g

-- after a comma a Base must come
abbrev TakesComma : List Part → Type 0
TakesComma ps = (k : Key) → after ps Comma k ≡ Some (a_base ∷ ps)

-- the parts of a tail before others
pub tail_joins : (tail : Tail) (ps : List Part) → tail_parts tail ++ (more_args ∷ ps) ≡ (tail_parts tail ++ more_args ∷ []) ++ ps
tail_joins no_tail ps = refl
tail_joins member_tail ps = refl
tail_joins name_tail ps = refl

module _ (s : List ℕ) where
  abbrev ArgsLead : List Lexeme → List Lexeme → Type 0
  ArgsLead ts us = (tail : Tail) × ((from ps : List Part) → TakesBase from ps → TakesComma ps → Leads s from ts (tail_parts tail ++ ps) us)

  abbrev pub ExpressionLeads : List Lexeme → List Lexeme → Type 0
  ExpressionLeads ts us = (end : Ending) × ((from ps : List Part) → TakesBase from (filters ∷ ps) → Leads s from ts (ending_parts end ++ (filters ∷ ps)) us)

  mutual
    pub base_leads : (b : Base) (ts us : List Lexeme) → IsBase s b ts us → BaseLeads s ts us
    base_leads (var first others) ts us g = var_leads s first others ts us g
    base_leads (literal v span) ts us g = literal_leads s v span ts us g
    base_leads (list bs span) ts us (mid, (opening, opener, e), body) = (no_tail, λ from ps takes. leads_then s (leads_token s (opening, opener) (λ k. takes OpenBracket k)) (list_body bs span mid us body ps))
    base_leads (mapping items span) ts us (mid, (opening, opener, e), body) = (no_tail, λ from ps takes. leads_then s (leads_token s (opening, opener) (λ k. takes OpenBrace k)) (map_body items span mid us body ps))
    base_leads (paren inner span) ts us (mid, last, (opening, opener, e), g, (closing, close, f)) =
        let (end, leads) = expression_leads inner mid last g in (
          no_tail,
          λ from ps takes. leads_then s (leads_token s (opening, opener) (λ k. takes OpenParen k))
              (leads_then s (leads (a_base ∷ filters ∷ close_paren ∷ ps) (close_paren ∷ ps) (base_takes (filters ∷ close_paren ∷ ps))) (by_ending s end (filters ∷ close_paren ∷ ps) (closing, close) refl (λ k. refl))),
        )
    base_leads (call name args span) ts us (mid, last, named, e, opener, body) = (no_tail, λ from ps takes. leads_then s (leads_token s (name.span, named.0) (λ k. takes Ident k)) (leads_then s (leads_token s {a = after_name ∷ ps} opener (λ k. refl)) (call_body args span last us body ps)))

    pub list_body : (bs : Bases) (span : Span) (ts us : List Lexeme) → IsListBody s bs span ts us → (ps : List Part) → Leads s (list_start ∷ ps) ts ps us
    list_body no_bases span ts us (closing, close, e) ps = leads_token s (closing, close) (λ k. refl)
    list_body (base_then b bs) span ts us (mid, g, more) ps =
        let (tail, leads) = base_leads b ts mid g in
        leads_then s (leads (list_start ∷ ps) (list_rest ∷ ps) (list_takes ps)) (list_tail bs span mid us more tail ps)

    list_tail : (bs : Bases) (span : Span) (ts us : List Lexeme) → IsListTail s bs span ts us → (tail : Tail) (ps : List Part) → Leads s (tail_parts tail ++ (list_rest ∷ ps)) ts ps us
    list_tail no_bases span ts us (inl (closing, close, e)) tail ps = by_tail s tail (list_rest ∷ ps) (closing, close) refl (λ k. refl)
    list_tail no_bases span ts us (inr (mid, comma, (closing, close, e))) tail ps = leads_then s (by_tail s tail (list_rest ∷ ps) comma refl (λ k. refl)) (leads_token s {a = list_start ∷ ps} (closing, close) (λ k. refl))
    list_tail (base_then b bs) span ts us (mid, last, comma, g, more) tail ps =
        let (next, leads) = base_leads b mid last g in
        leads_then s (by_tail s tail (list_rest ∷ ps) comma refl (λ k. refl)) (leads_then s (leads (list_start ∷ ps) (list_rest ∷ ps) (list_takes ps)) (list_tail bs span last us more next ps))

    map_body : (items : Items) (span : Span) (ts us : List Lexeme) → IsMapBody s items span ts us → (ps : List Part) → Leads s (map_start ∷ ps) ts ps us
    map_body no_items span ts us (closing, close, e) ps = leads_token s (closing, close) (λ k. refl)
    map_body (item_then key b items) span ts us (mid, last, named, colon, (next, g, more)) ps =
        let (tail, leads) = base_leads b last next g in
        leads_then s (leads_token s (key.span, named.0) (λ k. refl)) (leads_then s (leads_token s {a = map_colon ∷ ps} colon (λ k. refl)) (leads_then s (leads (a_base ∷ map_rest ∷ ps) (map_rest ∷ ps) (base_takes (map_rest ∷ ps))) (map_tail items span next us more tail ps)))

    map_tail : (items : Items) (span : Span) (ts us : List Lexeme) → IsMapTail s items span ts us → (tail : Tail) (ps : List Part) → Leads s (tail_parts tail ++ (map_rest ∷ ps)) ts ps us
    map_tail no_items span ts us (inl (closing, close, e)) tail ps = by_tail s tail (map_rest ∷ ps) (closing, close) refl (λ k. refl)
    map_tail no_items span ts us (inr (mid, comma, (closing, close, e))) tail ps = leads_then s (by_tail s tail (map_rest ∷ ps) comma refl (λ k. refl)) (leads_token s {a = map_start ∷ ps} (closing, close) (λ k. refl))
    map_tail (item_then key b items) span ts us (start, mid, last, comma, named, colon, (next, g, more)) tail ps =
        let (behind_it, leads) = base_leads b last next g in
        leads_then s (by_tail s tail (map_rest ∷ ps) comma refl (λ k. refl)) (leads_then s (leads_token s {a = map_start ∷ ps} (key.span, named.0) (λ k. refl)) (leads_then s (leads_token s {a = map_colon ∷ ps} colon (λ k. refl))
        (leads_then s (leads (a_base ∷ map_rest ∷ ps) (map_rest ∷ ps) (base_takes (map_rest ∷ ps))) (map_tail items span next us more behind_it ps))))

    call_body : (args : Arguments) (span : Span) (ts us : List Lexeme) → IsCallBody s args span ts us → (ps : List Part) → Leads s (call_start ∷ ps) ts ps us
    call_body no_arguments span ts us (closing, close, e) ps = leads_token s (closing, close) (λ k. refl)
    call_body (arguments bs at) span ts us (mid, given, e, (closing, close, f)) ps =
        let (tail, leads) = args_lead bs ts mid given in
        leads_then s (leads (call_start ∷ ps) (call_rest ∷ ps) (call_takes ps) (λ k. refl)) (by_tail s tail (call_rest ∷ ps) (closing, close) refl (λ k. refl))

    args_lead : (bs : Bases) (ts us : List Lexeme) → IsArgs s bs ts us → ArgsLead ts us
    args_lead no_bases ts us g = absurd g
    args_lead (base_then b bs) ts us (mid, g, more) =
        let (tail, leads) = base_leads b ts mid g in
        let (last, others) = more_args_lead bs mid us more tail in
        (last, λ from ps takes comma. leads_then s (leads from ps takes) (others ps comma))

    more_args_lead : (bs : Bases) (ts us : List Lexeme) → IsMoreArgs s bs ts us → (tail : Tail) → (last : Tail) × ((ps : List Part) → TakesComma ps → Leads s (tail_parts tail ++ ps) ts (tail_parts last ++ ps) us)
    more_args_lead no_bases ts us e tail = (tail, λ ps comma. leads_nowhere s (tail_parts tail ++ ps) ts us e)
    more_args_lead (base_then b bs) ts us (mid, after_it, comma, g, more) tail =
        let (next, leads) = base_leads b mid after_it g in
        let (last, others) = more_args_lead bs after_it us more next in
        (last, λ ps takes. leads_then s (by_tail s tail ps comma refl takes) (leads_then s (leads (a_base ∷ ps) ps (base_takes ps)) (others ps takes)))

    pub expression_leads : (e : Expression) (ts us : List Lexeme) → IsExpression s e ts us → ExpressionLeads ts us
    expression_leads (base b) ts us g = let (tail, leads) = base_leads b ts us g in (base_ending tail, λ from ps takes. leads from (filters ∷ ps) takes)
    expression_leads (filtered e name args span) ts us (mid, start, last, g, pipe, named, given, f) =
        let (end, leads) = expression_leads e ts mid g in
        let (ending, others) = filter_args args last us given in
        (ending, λ from ps takes. leads_then s (leads from ps takes) (leads_then s (by_ending s end (filters ∷ ps) pipe refl (λ k. refl)) (leads_then s (leads_token s {a = filter_name ∷ filters ∷ ps} (name.span, named.0) (λ k. refl)) (others (filters ∷ ps)))))

    filter_args : (args : Arguments) (ts us : List Lexeme) → IsFilterArgs s args ts us → (end : Ending) × ((ps : List Part) → Leads s (after_filter ∷ ps) ts (ending_parts end ++ ps) us)
    filter_args no_arguments ts us e = (name_ending, λ ps. leads_nowhere s (after_filter ∷ ps) ts us e)
    filter_args (arguments bs at) ts us (colon, mid, g, given, f) =
        let (tail, leads) = args_lead bs mid us given in (
          args_ending tail,
          λ ps. let F : List Part → Type 0 = λ x. Leads s (after_filter ∷ ps) ts x us in
              subst F (tail_joins tail ps) (leads_then s (leads_token s (colon, g) (λ k. refl)) (leads (a_base ∷ more_args ∷ ps) (more_args ∷ ps) (base_takes (more_args ∷ ps)) (λ k. refl))),
        )

  -- ---- what stands in tags
  pub condition_leads : (negated : Bool) (e : Expression) (ts us : List Lexeme) → IsCondition s negated e ts us → (end : Ending) × ((ps : List Part) → Leads s (condition ∷ ps) ts (ending_parts end ++ (filters ∷ ps)) us)
  condition_leads true e ts us (mid, (span, g), read) =
      let (end, leads) = expression_leads e mid us read in
      (end, λ ps. leads_then s (leads_key s (codes "not") g refl) (leads (a_base ∷ filters ∷ ps) ps (base_takes (filters ∷ ps))))
  condition_leads false e ts us read = let (end, leads) = expression_leads e ts us read in (end, λ ps. leads (condition ∷ ps) ps (condition_takes ps))

  pub names_lead : (names : LoopVars) (ts mid us : List Lexeme) → AreLoopVars s names ts mid → GoesKeyword s (codes "in") mid us → (ps : List Part) → Leads s (loop_name ∷ ps) ts (a_base ∷ filters ∷ ps) us
  names_lead (item name) ts mid us named (span, g) ps = leads_then s (leads_token s (name.span, named.0) (λ k. refl)) (leads_key s {a = loop_rest ∷ ps} (codes "in") g refl)
  names_lead (key_value key value at) ts mid us (start, last, first, comma, second, e) (span, g) ps =
      leads_then s (leads_token s (key.span, first.0) (λ k. refl)) (leads_then s (leads_token s {a = loop_rest ∷ ps} comma (λ k. refl)) (leads_then s (leads_token s {a = loop_value ∷ ps} (value.span, second.0) (λ k. refl)) (leads_key s {a = in_word ∷ ps} (codes "in") g refl)))

  pub if_leads : (negated : Bool) (e : Expression) (ts us vs : List Lexeme) → IsCondition s negated e ts us → GoesBy EndBlock us vs → Leads s (condition ∷ end_block ∷ []) ts [] vs
  if_leads negated e ts us vs g end = let (ending, leads) = condition_leads negated e ts us g in leads_then s (leads (end_block ∷ [])) (by_ending s ending (filters ∷ end_block ∷ []) end refl (λ k. refl))
