-- A whole tag, from its tokens: a token that may be there and is fine begins what is wanted.
use Rattle.std.proofs.Common.{◌≡◌, inl, inr, ℕ, ℤ, List, [], ◌∷◌, ◌++◌, Bool, true, false, Option, Some, None, refl, sym, ap, ◌∙◌, subst, codes}
use Rattle.upon_types.specs.declared.types.Span.{Span}
use Rattle.upon_types.specs.declared.types.token.Token.{Token}
use Rattle.upon_types.specs.declared.types.token.Token.TheVariants.{BeginExpr, EndExpr, BeginBlock, EndBlock, OpenBracket, CloseBracket, OpenBrace, CloseBrace, OpenParen, CloseParen, Dot, QuestionDot, Pipe, Comma, Colon, Plus, Minus, Keyword, Ident as Identifier, Index, Number, String}
use Rattle.upon_types.specs.declared.types.ast.path.AccessOp.{AccessOp}
use Rattle.upon_types.specs.declared.types.ast.path.AccessOp.TheVariants.{Direct, Optional}
use Rattle.upon_types.specs.Val.{bool_val, int_val, text_val}
use Rattle.upon_types.specs.Path.{Ident, Access, by_index, by_key, Member, item, key_value, access_span}
use Rattle.upon_types.specs.Expression.{Expression, base, filtered, Base, var, literal, list, mapping, paren, call, Bases, no_bases, base_then, Items, no_items, item_then, no_arguments, arguments, expression_span}
use Rattle.upon_types.specs.BlockKinds.{Block, opened_kind, block_word as word_of_block, end_word}
use Rattle.upon_language_spec.specs.Cut.{Lexeme}
use Rattle.upon_language_spec.specs.Tokens.{Goes, GoesBy, GoesName, GoesText, GoesKeyword, from_to}
use Rattle.upon_language_spec.specs.Expressions.{op_token, sign_token, IsAccess, IsMember, Closes, last_end, filter_end, IsBase, IsListBody, IsListTail, IsMapBody, IsMapTail, IsExpression}
use Rattle.upon_language_spec.specs.Grammar.{BeginsBlock}
use Rattle.upon_language_spec.specs.Tags.{an_inline, an_include, an_opening, an_else_if, an_else, an_end}
use Rattle.upon_language_spec.specs.Keys.{Key, key_if, key_not, key_else, key_in, key_with, key_as, key_include, key_true, key_false, no_key, key_word}
use Rattle.upon_language_spec.specs.Parts.{Part, a_base, after_name, after_member, a_member, a_magnitude, filters, filter_name, after_filter, more_args, list_start, list_rest, map_start, map_colon, map_rest, call_start, call_rest, close_paren, tag_start, end_expr, end_block, block_word, condition, else_rest, loop_name, loop_rest, loop_value, in_word, as_word, as_name, include_name, include_rest, is_optional, base_key, base_goes, key_goes, condition_key, goes, left_of, after}
use Rattle.upon_types.specs.Span.{slice}
use Rattle.upon_language_spec.proofs.BlockKinds.{kind_parts, each_key, means_head}
use Rattle.upon_language_spec.proofs.Wanted.EachWord.{span_at, is_key}
use Rattle.upon_language_spec.specs.Literal.{IsInteger, IsIndex, IsText}
use Rattle.upon_language_spec.specs.LaterFaults.{minus_before}
use Rattle.upon_language_spec.proofs.Totality.Means.{MeansPart, Means, Took, Reads}

abbrev pub is_magnitude : Part → Bool
is_magnitude a_magnitude = true
is_magnitude p = false

abbrev pub first_is_magnitude : List Part → Bool
first_is_magnitude [] = false
first_is_magnitude (p ∷ ps) = is_magnitude p

module _ (s : List ℕ) where
  -- what a token denotes, where it is after no sign
  abbrev pub Value : Token → Key → Lexeme → Type 0
  Value Keyword k l = is_key k ≡ true → slice s l.span ≡ key_word k
  Value Number k l = (z : ℤ) × IsInteger false (slice s l.span) z
  Value Index k l = (i : ℕ) × IsIndex (slice s l.span) i
  Value String k l = (text : List ℕ) × IsText s l.span.m l.span.n text
  Value t k l = Unit {0}

  -- a number after the token denotes an integer, with the token as its sign where it is one
  abbrev pub NumberBehind : Lexeme → List Lexeme → Type 0
  NumberBehind l ls = (number : Lexeme) (rest : List Lexeme) → ls ≡ number ∷ rest → number.token ≡ Number → (z : ℤ) × IsInteger (minus_before (Some l)) (slice s number.span) z

  abbrev name_of : Lexeme → Ident
  name_of l = record { text = slice s l.span; span = l.span }

  module _ (l : Lexeme) (ls : List Lexeme) where
    it_goes : (t : Token) → l.token ≡ t → Goes t l.span (l ∷ ls) ls
    it_goes t e = record { lexeme = l; is = refl; of_token = e; at = refl }

    goes_by : (t : Token) → l.token ≡ t → GoesBy t (l ∷ ls) ls
    goes_by t e = (l.span, it_goes t e)

    goes_name : l.token ≡ Identifier → GoesName s (name_of l) (l ∷ ls) ls
    goes_name e = (it_goes Identifier e, refl)

    goes_text : l.token ≡ String → (v : (text : List ℕ) × IsText s l.span.m l.span.n text) → GoesText s (record { text = v.0; span = l.span }) (l ∷ ls) ls
    goes_text e v = (it_goes String e, v.1)

    goes_word : (k : Key) → l.token ≡ Keyword → slice s l.span ≡ key_word k → GoesKeyword s (key_word k) (l ∷ ls) ls
    goes_word k e v = (l.span, (it_goes Keyword e, v))

  -- an optional part may be left out
  abbrev bare_name : Ident → Base
  bare_name name = var (record { op = Direct; access = by_key name; span = name.span }) []

  pub left_out : (p : Part) (P : List Lexeme → Type 0) (ls : List Lexeme) → is_optional p ≡ true → P ls → MeansPart s p P ls
  left_out after_name P ls o h = λ name before g. (bare_name name, ls, let x : IsBase s (bare_name name) before ls = (ls, inl (name, g, refl), refl) in x, h)
  left_out after_member P ls o h = ([], ls, refl, h)
  left_out filters P ls o h = λ e before g. (e, ls, g, h)
  left_out after_filter P ls o h = (no_arguments, ls, refl, h)
  left_out more_args P ls o h = (no_bases, ls, refl, h)
  left_out p P ls o h = absurd cc

  key_reads : (ps : List Part) (l : Lexeme) (ls : List Lexeme) (others : List Part) (k : Key) → l.token ≡ Keyword → Value Keyword k l → Took s (base_key k others) ps ls → (b : Base) × (rest : List Lexeme) × IsBase s b (l ∷ ls) rest × Means s (others ++ ps) rest
  key_reads ps l ls others key_true tk v h = (literal (bool_val true) l.span, ls, (it_goes l ls Keyword tk, v refl), h)
  key_reads ps l ls others key_false tk v h = (literal (bool_val false) l.span, ls, (it_goes l ls Keyword tk, v refl), h)
  key_reads ps l ls others k tk v h = absurd h

  module _ (ps : List Part) (l : Lexeme) (k : Key) (ls : List Lexeme) (behind : NumberBehind l ls) where
    -- a step of a path: its operator, and what is after it
    abbrev step_by : AccessOp → Access → Span → Member
    step_by op sel at = record { op = op; access = sel; span = from_to at (access_span sel) }

    step_reads : (op : AccessOp) → l.token ≡ op_token op → (sel : Access) (mid : List Lexeme) → IsAccess s sel ls mid → IsMember s (step_by op sel l.span) (l ∷ ls) mid
    step_reads op tk sel mid g = (l.span, ls, it_goes l ls (op_token op) tk, g, refl)

    -- a Base, and what is to come after it
    abbrev BaseThen : List Part → List Lexeme → Type 0
    BaseThen others before = (b : Base) × (rest : List Lexeme) × IsBase s b before rest × Means s (others ++ ps) rest

    path_reads : (others : List Part) (op : AccessOp) → l.token ≡ op_token op → Means s (a_member ∷ (others ++ ps)) ls → BaseThen others (l ∷ ls)
    path_reads others op tk (sel, mid, steps, rest, access, more, h) = (var (step_by op sel l.span) steps, rest, (mid, inr (step_reads op tk sel mid access), more), h)

    sign_is : (minus : Bool) → l.token ≡ sign_token minus → minus_before (Some l) ≡ minus
    sign_is true tk = let F : Token → Bool = λ x. minus_before (Some (record { token = x; hyphen = l.hyphen; span = l.span })) in ap F tk
    sign_is false tk = let F : Token → Bool = λ x. minus_before (Some (record { token = x; hyphen = l.hyphen; span = l.span })) in ap F tk

    sign_reads : (others : List Part) (minus : Bool) → l.token ≡ sign_token minus → Means s (a_magnitude ∷ (others ++ ps)) ls → BaseThen others (l ∷ ls)
    sign_reads others minus tk (number, rest, goes, h) =
        let found = behind goes.lexeme rest goes.is goes.of_token in
        let F : Bool → Type 0 = λ b. IsInteger b (slice s goes.lexeme.span) found.0 in
        let G : Span → Type 0 = λ x. IsInteger minus (slice s x) found.0 in
        (literal (int_val found.0) (from_to l.span number), rest, inr (minus, l.span, number, ls, it_goes l ls (sign_token minus) tk, goes, refl, subst G goes.at (subst F (sign_is minus tk) found.1)), h)

    base_reads : (others : List Part) (t : Token) → l.token ≡ t → Value t k l → Took s (base_goes t k others) ps ls → BaseThen others (l ∷ ls)
    base_reads others Keyword tk v h = key_reads ps l ls others k tk v h
    base_reads others Plus tk v h = sign_reads others false tk h
    base_reads others Minus tk v h = sign_reads others true tk h
    base_reads others Number tk v h = (literal (int_val v.0) l.span, ls, inl (it_goes l ls Number tk, v.1), h)
    base_reads others String tk v h = (literal (text_val v.0) l.span, ls, goes_text l ls tk v, h)
    base_reads others Identifier tk v h = h (name_of l) (l ∷ ls) (goes_name l ls tk)
    base_reads others Dot tk v h = path_reads others Direct tk h
    base_reads others QuestionDot tk v h = path_reads others Optional tk h
    base_reads others OpenBracket tk v h = let (bs, n, rest, g, more) = h l.span.m in (list bs (span_at l.span.m n), rest, (ls, (l.span, it_goes l ls OpenBracket tk, refl), g), more)
    base_reads others OpenBrace tk v h = let (items, n, rest, g, more) = h l.span.m in (mapping items (span_at l.span.m n), rest, (ls, (l.span, it_goes l ls OpenBrace tk, refl), g), more)
    base_reads others OpenParen tk v (b, mid, g, h) =
        let (e, after, read, ends) = h (base b) ls g in
        let (n, rest, close, more) = ends l.span.m in
        (paren e (span_at l.span.m n), rest, (ls, after, (l.span, it_goes l ls OpenParen tk, refl), read, close), more)
    base_reads others t tk v h = absurd h

    name_on : (t : Token) → l.token ≡ t → Value t k l → Took s (goes after_name t k) ps ls → Means s (after_name ∷ ps) (l ∷ ls)
    name_on Dot tk v (sel, mid, steps, rest, access, more, h) = λ name before g. (var (record { op = Direct; access = by_key name; span = name.span }) (step_by Direct sel l.span ∷ steps), rest, (l ∷ ls, inl (name, g, refl), (mid, step_reads Direct tk sel mid access, more)), h)
    name_on QuestionDot tk v (sel, mid, steps, rest, access, more, h) = λ name before g. (var (record { op = Direct; access = by_key name; span = name.span }) (step_by Optional sel l.span ∷ steps), rest, (l ∷ ls, inl (name, g, refl), (mid, step_reads Optional tk sel mid access, more)), h)
    name_on OpenParen tk v h = λ name before g. let (args, n, rest, body, more) = h name.span.m in (call name args (span_at name.span.m n), rest, (l ∷ ls, ls, g, refl, goes_by l ls OpenParen tk, body), more)
    name_on t tk v h = absurd h

    member_on : (t : Token) → l.token ≡ t → Value t k l → Took s (goes after_member t k) ps ls → Means s (after_member ∷ ps) (l ∷ ls)
    member_on Dot tk v (sel, mid, steps, rest, access, more, h) = (step_by Direct sel l.span ∷ steps, rest, (mid, step_reads Direct tk sel mid access, more), h)
    member_on QuestionDot tk v (sel, mid, steps, rest, access, more, h) = (step_by Optional sel l.span ∷ steps, rest, (mid, step_reads Optional tk sel mid access, more), h)
    member_on t tk v h = absurd h

    access_on : (t : Token) → l.token ≡ t → Value t k l → Took s (goes a_member t k) ps ls → Means s (a_member ∷ ps) (l ∷ ls)
    access_on Identifier tk v (steps, rest, more, h) = (by_key (name_of l), ls, steps, rest, goes_name l ls tk, more, h)
    access_on Index tk v (steps, rest, more, h) = (by_index v.0 l.span, ls, steps, rest, (it_goes l ls Index tk, v.1), more, h)
    access_on t tk v h = absurd h

    magnitude_on : (t : Token) → l.token ≡ t → Took s (goes a_magnitude t k) ps ls → Means s (a_magnitude ∷ ps) (l ∷ ls)
    magnitude_on Number tk h = (l.span, ls, it_goes l ls Number tk, h)
    magnitude_on t tk h = absurd h

    filters_on : (t : Token) → l.token ≡ t → Value t k l → Took s (goes filters t k) ps ls → Means s (filters ∷ ps) (l ∷ ls)
    filters_on Pipe tk v (name, args, mid, rest, named, given, h) = λ e before g. h (filtered e name args (span_at (expression_span e).m (filter_end name args))) before (l ∷ ls, ls, mid, g, goes_by l ls Pipe tk, named, given, refl)
    filters_on t tk v h = absurd h

    filter_name_on : (t : Token) → l.token ≡ t → Value t k l → Took s (goes filter_name t k) ps ls → Means s (filter_name ∷ ps) (l ∷ ls)
    filter_name_on Identifier tk v (args, rest, given, h) = (name_of l, args, ls, rest, goes_name l ls tk, given, h)
    filter_name_on t tk v h = absurd h

    filter_on : (t : Token) → l.token ≡ t → Value t k l → Took s (goes after_filter t k) ps ls → Means s (after_filter ∷ ps) (l ∷ ls)
    filter_on Colon tk v (b, mid, g, (bs, rest, more, h)) = (arguments (base_then b bs) (span_at l.span.m (last_end 0 (base_then b bs))), rest, (l.span, ls, it_goes l ls Colon tk, (mid, g, more), refl), h)
    filter_on t tk v h = absurd h

    more_args_on : (t : Token) → l.token ≡ t → Value t k l → Took s (goes more_args t k) ps ls → Means s (more_args ∷ ps) (l ∷ ls)
    more_args_on Comma tk v (b, mid, g, (bs, rest, more, h)) = (base_then b bs, rest, (ls, mid, goes_by l ls Comma tk, g, more), h)
    more_args_on t tk v h = absurd h

    closes_by : (t : Token) → l.token ≡ t → (m : ℕ) → Closes t (span_at m l.span.n) (l ∷ ls) ls
    closes_by t tk m = (l.span, it_goes l ls t tk, refl)

    list_start_on : (t : Token) → l.token ≡ t → Value t k l → Took s (goes list_start t k) ps ls → Means s (list_start ∷ ps) (l ∷ ls)
    list_start_on CloseBracket tk v h = λ m. (no_bases, l.span.n, ls, closes_by CloseBracket tk m, h)
    list_start_on t tk v h = λ m. let (b, mid, g, tail) = base_reads (list_rest ∷ []) t tk v h in let (bs, n, rest, more, last) = tail m in (base_then b bs, n, rest, (mid, g, more), last)

    list_tail : l.token ≡ Comma → (m : ℕ) (n : ℕ) (bs : Bases) (rest : List Lexeme) → IsListBody s bs (span_at m n) ls rest → IsListTail s bs (span_at m n) (l ∷ ls) rest
    list_tail tk m n no_bases rest g = inr (ls, goes_by l ls Comma tk, g)
    list_tail tk m n (base_then b bs) rest (mid, g, more) = (ls, mid, goes_by l ls Comma tk, g, more)

    list_rest_on : (t : Token) → l.token ≡ t → Value t k l → Took s (goes list_rest t k) ps ls → Means s (list_rest ∷ ps) (l ∷ ls)
    list_rest_on CloseBracket tk v h = λ m. (no_bases, l.span.n, ls, inl (closes_by CloseBracket tk m), h)
    list_rest_on Comma tk v h = λ m. let (bs, n, rest, g, last) = h m in (bs, n, rest, list_tail tk m n bs rest g, last)
    list_rest_on t tk v h = absurd h

    map_start_on : (t : Token) → l.token ≡ t → Value t k l → Took s (goes map_start t k) ps ls → Means s (map_start ∷ ps) (l ∷ ls)
    map_start_on CloseBrace tk v h = λ m. (no_items, l.span.n, ls, closes_by CloseBrace tk m, h)
    map_start_on String tk v h = λ m. let (b, items, n, start, mid, rest, colon, g, more, last) = h m in (item_then record { text = v.0; span = l.span } b items, n, rest, (ls, start, goes_text l ls tk v, colon, (mid, g, more)), last)
    map_start_on t tk v h = absurd h

    map_colon_on : (t : Token) → l.token ≡ t → Value t k l → Took s (goes map_colon t k) ps ls → Means s (map_colon ∷ ps) (l ∷ ls)
    map_colon_on Colon tk v (b, mid, g, h) = λ m. let (items, n, rest, more, last) = h m in (b, items, n, ls, mid, rest, goes_by l ls Colon tk, g, more, last)
    map_colon_on t tk v h = absurd h

    map_tail : l.token ≡ Comma → (m : ℕ) (n : ℕ) (items : Items) (rest : List Lexeme) → IsMapBody s items (span_at m n) ls rest → IsMapTail s items (span_at m n) (l ∷ ls) rest
    map_tail tk m n no_items rest g = inr (ls, goes_by l ls Comma tk, g)
    map_tail tk m n (item_then key b items) rest (mid, after, named, colon, more) = (ls, mid, after, goes_by l ls Comma tk, named, colon, more)

    map_rest_on : (t : Token) → l.token ≡ t → Value t k l → Took s (goes map_rest t k) ps ls → Means s (map_rest ∷ ps) (l ∷ ls)
    map_rest_on CloseBrace tk v h = λ m. (no_items, l.span.n, ls, inl (closes_by CloseBrace tk m), h)
    map_rest_on Comma tk v h = λ m. let (items, n, rest, g, last) = h m in (items, n, rest, map_tail tk m n items rest g, last)
    map_rest_on t tk v h = absurd h

    call_start_on : (t : Token) → l.token ≡ t → Value t k l → Took s (goes call_start t k) ps ls → Means s (call_start ∷ ps) (l ∷ ls)
    call_start_on CloseParen tk v h = λ m. (no_arguments, l.span.n, ls, closes_by CloseParen tk m, h)
    call_start_on t tk v h = λ m. let (b, mid, g, tail) = base_reads (call_rest ∷ []) t tk v h in let (bs, n, after, rest, more, close, last) = tail m in
        (arguments (base_then b bs) (span_at m (last_end 0 (base_then b bs))), n, rest, (after, (mid, g, more), refl, close), last)

    call_rest_on : (t : Token) → l.token ≡ t → Value t k l → Took s (goes call_rest t k) ps ls → Means s (call_rest ∷ ps) (l ∷ ls)
    call_rest_on CloseParen tk v h = λ m. (no_bases, l.span.n, l ∷ ls, ls, refl, closes_by CloseParen tk m, h)
    call_rest_on Comma tk v (b, mid, g, h) = λ m. let (bs, n, after, rest, more, close, last) = h m in (base_then b bs, n, after, rest, (ls, mid, goes_by l ls Comma tk, g, more), close, last)
    call_rest_on t tk v h = absurd h

    close_paren_on : (t : Token) → l.token ≡ t → Value t k l → Took s (goes close_paren t k) ps ls → Means s (close_paren ∷ ps) (l ∷ ls)
    close_paren_on CloseParen tk v h = λ m. (l.span.n, ls, closes_by CloseParen tk m, h)
    close_paren_on t tk v h = absurd h

  -- an expression, and then what P says
  expression_reads : (P : List Lexeme → Type 0) (ls : List Lexeme) → MeansPart s a_base (MeansPart s filters P) ls → (e : Expression) × (rest : List Lexeme) × IsExpression s e ls rest × P rest
  expression_reads P ls (b, mid, g, h) = h (base b) ls g

  begins : (l : Lexeme) (word : List ℕ) (before ls : List Lexeme) → l.token ≡ Keyword → slice s l.span ≡ word → GoesBy BeginBlock before (l ∷ ls) → BeginsBlock s word before ls
  begins l word before ls tk v g = (l ∷ ls, g, (l.span, (it_goes l ls Keyword tk, v)))

  some_key : (k : Key) (first : List Part) → key_goes block_word k ≡ Some first → is_key k ≡ true
  some_key no_key first e = absurd cc
  some_key k first e = refl

  module _ (ps : List Part) (l : Lexeme) (ls : List Lexeme) (tk : l.token ≡ Keyword) where
    abbrev OnBlock : Key → Type 0
    OnBlock k = Value Keyword k l → Took s (key_goes block_word k) ps ls → Means s (block_word ∷ ps) (l ∷ ls)

    begin_on : (k : Key) (kind : Block) → key_word k ≡ word_of_block kind → key_goes block_word k ≡ Some (kind_parts kind) → OnBlock k
    begin_on k kind word first v h = λ before b.
        let F : Option (List Part) → Type 0 = λ x. Took s x ps ls in
        let (tag, e, mid, rest, same, head, end, more) = means_head s kind ps ls (subst F first h) in
        (rest, an_opening tag e (ls, mid, begins l (word_of_block (opened_kind tag)) before ls tk (v (some_key k (kind_parts kind) first) ∙ word ∙ sym (ap word_of_block same)) b, head, end), more)

    end_on : (k : Key) (kind : Block) → key_word k ≡ end_word kind → key_goes block_word k ≡ Some (end_block ∷ []) → OnBlock k
    end_on k kind word first v h = λ before b.
        let F : Option (List Part) → Type 0 = λ x. Took s x ps ls in
        let (rest, end, more) = subst F first h in
        (rest, an_end kind (ls, begins l (end_word kind) before ls tk (v (some_key k (end_block ∷ []) first) ∙ word) b, end), more)

    none_on : (k : Key) → key_goes block_word k ≡ None → OnBlock k
    none_on k none v h = let F : Option (List Part) → Type 0 = λ x. Took s x ps ls in absurd (subst F none h)

    else_tag_on : OnBlock key_else
    else_tag_on v h = λ before b. h before (begins l (codes "else") before ls tk (v refl) b)

    include_tag_on : OnBlock key_include
    include_tag_on v (name, context, mid, after, rest, text, given, end, h) = λ before b. (rest, an_include name context (ls, mid, after, begins l (codes "include") before ls tk (v refl) b, text, given, end), h)

    block_on : (k : Key) → OnBlock k
    block_on k = each_key OnBlock begin_on end_on else_tag_on include_tag_on none_on k

  else_on : (ps : List Part) (l : Lexeme) (ls : List Lexeme) (k : Key) → l.token ≡ Keyword → Value Keyword k l → Took s (key_goes else_rest k) ps ls → Means s (else_rest ∷ ps) (l ∷ ls)
  else_on ps l ls key_if tk v (negated, e, mid, g, (rest, end, h)) = λ before b. (rest, an_else_if negated e (l ∷ ls, ls, mid, b, goes_word l ls key_if tk (v refl), g, end), h)
  else_on ps l ls k tk v h = absurd h

  condition_on : (ps : List Part) (l : Lexeme) (ls : List Lexeme) (k : Key) → l.token ≡ Keyword → Value Keyword k l → Took s (condition_key k) ps ls → Means s (condition ∷ ps) (l ∷ ls)
  condition_on ps l ls key_not tk v h = let (e, rest, g, more) = expression_reads (Means s ps) ls h in (true, e, rest, (ls, goes_word l ls key_not tk (v refl), g), more)
  condition_on ps l ls k tk v h = let (b, mid, g, f) = key_reads ps l ls (filters ∷ []) k tk v h in let (e, rest, read, more) = f (base b) (l ∷ ls) g in (false, e, rest, read, more)

  in_on : (ps : List Part) (l : Lexeme) (ls : List Lexeme) (k : Key) → l.token ≡ Keyword → Value Keyword k l → Took s (key_goes in_word k) ps ls → Means s (in_word ∷ ps) (l ∷ ls)
  in_on ps l ls key_in tk v h = let (e, rest, g, more) = expression_reads (Means s ps) ls h in (e, ls, rest, goes_word l ls key_in tk (v refl), g, more)
  in_on ps l ls k tk v h = absurd h

  loop_on : (ps : List Part) (l : Lexeme) (ls : List Lexeme) (k : Key) → l.token ≡ Keyword → Value Keyword k l → Took s (key_goes loop_rest k) ps ls → Means s (loop_rest ∷ ps) (l ∷ ls)
  loop_on ps l ls key_in tk v h = λ key before b. let (e, rest, g, more) = expression_reads (Means s ps) ls h in (item key, e, l ∷ ls, ls, rest, b, goes_word l ls key_in tk (v refl), g, more)
  loop_on ps l ls k tk v h = absurd h

  as_on : (ps : List Part) (l : Lexeme) (ls : List Lexeme) (k : Key) → l.token ≡ Keyword → Value Keyword k l → Took s (key_goes as_word k) ps ls → Means s (as_word ∷ ps) (l ∷ ls)
  as_on ps l ls key_as tk v (name, rest, named, h) = (name, ls, rest, goes_word l ls key_as tk (v refl), named, h)
  as_on ps l ls k tk v h = absurd h

  include_on : (ps : List Part) (l : Lexeme) (ls : List Lexeme) (k : Key) → l.token ≡ Keyword → Value Keyword k l → Took s (key_goes include_rest k) ps ls → Means s (include_rest ∷ ps) (l ∷ ls)
  include_on ps l ls key_with tk v h = let (e, mid, g, (rest, end, more)) = expression_reads (Means s (end_block ∷ ps)) ls h in (Some e, mid, rest, (ls, goes_word l ls key_with tk (v refl), g), end, more)
  include_on ps l ls k tk v h = absurd h

  module _ (ps : List Part) (l : Lexeme) (k : Key) (ls : List Lexeme) (behind : NumberBehind l ls) where
    tag_on : (t : Token) → l.token ≡ t → Value t k l → Took s (goes tag_start t k) ps ls → Means s (tag_start ∷ ps) (l ∷ ls)
    tag_on BeginExpr tk v h = let (e, mid, g, (rest, end, more)) = expression_reads (Means s (end_expr ∷ ps)) ls h in (rest, an_inline e (from_to l.span end.0) (l.span, end.0, ls, mid, it_goes l ls BeginExpr tk, g, end.1, refl), more)
    tag_on BeginBlock tk v h = h (l ∷ ls) (goes_by l ls BeginBlock tk)
    tag_on t tk v h = absurd h

    end_expr_on : (t : Token) → l.token ≡ t → Value t k l → Took s (goes end_expr t k) ps ls → Means s (end_expr ∷ ps) (l ∷ ls)
    end_expr_on EndExpr tk v h = (ls, goes_by l ls EndExpr tk, h)
    end_expr_on t tk v h = absurd h

    end_block_on : (t : Token) → l.token ≡ t → Value t k l → Took s (goes end_block t k) ps ls → Means s (end_block ∷ ps) (l ∷ ls)
    end_block_on EndBlock tk v h = (ls, goes_by l ls EndBlock tk, h)
    end_block_on t tk v h = absurd h

    block_word_on : (t : Token) → l.token ≡ t → Value t k l → Took s (goes block_word t k) ps ls → Means s (block_word ∷ ps) (l ∷ ls)
    block_word_on Keyword tk v h = block_on ps l ls tk k v h
    block_word_on t tk v h = absurd h

    condition_begins : (t : Token) → l.token ≡ t → Value t k l → Took s (goes condition t k) ps ls → Means s (condition ∷ ps) (l ∷ ls)
    condition_begins Keyword tk v h = condition_on ps l ls k tk v h
    condition_begins t tk v h = let (b, mid, g, f) = base_reads ps l k ls behind (filters ∷ []) t tk v h in let (e, rest, read, more) = f (base b) (l ∷ ls) g in (false, e, rest, read, more)

    else_rest_on : (t : Token) → l.token ≡ t → Value t k l → Took s (goes else_rest t k) ps ls → Means s (else_rest ∷ ps) (l ∷ ls)
    else_rest_on EndBlock tk v h = λ before b. (ls, an_else (l ∷ ls, b, goes_by l ls EndBlock tk), h)
    else_rest_on Keyword tk v h = else_on ps l ls k tk v h
    else_rest_on t tk v h = absurd h

    loop_name_on : (t : Token) → l.token ≡ t → Value t k l → Took s (goes loop_name t k) ps ls → Means s (loop_name ∷ ps) (l ∷ ls)
    loop_name_on Identifier tk v h = h (name_of l) (l ∷ ls) (goes_name l ls tk)
    loop_name_on t tk v h = absurd h

    loop_rest_on : (t : Token) → l.token ≡ t → Value t k l → Took s (goes loop_rest t k) ps ls → Means s (loop_rest ∷ ps) (l ∷ ls)
    loop_rest_on Comma tk v (value, e, mid, after, last, named, within, g, h) = λ key before b. (key_value key value (from_to key.span value.span), e, mid, after, last, (l ∷ ls, ls, b, goes_by l ls Comma tk, named, refl), within, g, h)
    loop_rest_on Keyword tk v h = loop_on ps l ls k tk v h
    loop_rest_on t tk v h = absurd h

    loop_value_on : (t : Token) → l.token ≡ t → Value t k l → Took s (goes loop_value t k) ps ls → Means s (loop_value ∷ ps) (l ∷ ls)
    loop_value_on Identifier tk v (e, after, last, within, g, h) = (name_of l, e, ls, after, last, goes_name l ls tk, within, g, h)
    loop_value_on t tk v h = absurd h

    in_word_on : (t : Token) → l.token ≡ t → Value t k l → Took s (goes in_word t k) ps ls → Means s (in_word ∷ ps) (l ∷ ls)
    in_word_on Keyword tk v h = in_on ps l ls k tk v h
    in_word_on t tk v h = absurd h

    as_word_on : (t : Token) → l.token ≡ t → Value t k l → Took s (goes as_word t k) ps ls → Means s (as_word ∷ ps) (l ∷ ls)
    as_word_on Keyword tk v h = as_on ps l ls k tk v h
    as_word_on t tk v h = absurd h

    as_name_on : (t : Token) → l.token ≡ t → Value t k l → Took s (goes as_name t k) ps ls → Means s (as_name ∷ ps) (l ∷ ls)
    as_name_on Identifier tk v h = (name_of l, ls, goes_name l ls tk, h)
    as_name_on t tk v h = absurd h

    include_name_on : (t : Token) → l.token ≡ t → Value t k l → Took s (goes include_name t k) ps ls → Means s (include_name ∷ ps) (l ∷ ls)
    include_name_on String tk v (context, after, rest, given, end, h) = (record { text = v.0; span = l.span }, context, ls, after, rest, goes_text l ls tk v, given, end, h)
    include_name_on t tk v h = absurd h

    include_rest_on : (t : Token) → l.token ≡ t → Value t k l → Took s (goes include_rest t k) ps ls → Means s (include_rest ∷ ps) (l ∷ ls)
    include_rest_on EndBlock tk v h = (None, l ∷ ls, ls, refl, goes_by l ls EndBlock tk, h)
    include_rest_on Keyword tk v h = include_on ps l ls k tk v h
    include_rest_on t tk v h = absurd h

    part_on : (p : Part) (t : Token) → l.token ≡ t → (is_magnitude p ≡ false → Value t k l) → Took s (goes p t k) ps ls → Means s (p ∷ ps) (l ∷ ls)
    part_on a_base t tk v h = base_reads ps l k ls behind [] t tk (v refl) h
    part_on after_name t tk v h = name_on ps l k ls behind t tk (v refl) h
    part_on after_member t tk v h = member_on ps l k ls behind t tk (v refl) h
    part_on a_member t tk v h = access_on ps l k ls behind t tk (v refl) h
    part_on a_magnitude t tk v h = magnitude_on ps l k ls behind t tk h
    part_on filters t tk v h = filters_on ps l k ls behind t tk (v refl) h
    part_on filter_name t tk v h = filter_name_on ps l k ls behind t tk (v refl) h
    part_on after_filter t tk v h = filter_on ps l k ls behind t tk (v refl) h
    part_on more_args t tk v h = more_args_on ps l k ls behind t tk (v refl) h
    part_on list_start t tk v h = list_start_on ps l k ls behind t tk (v refl) h
    part_on list_rest t tk v h = list_rest_on ps l k ls behind t tk (v refl) h
    part_on map_start t tk v h = map_start_on ps l k ls behind t tk (v refl) h
    part_on map_colon t tk v h = map_colon_on ps l k ls behind t tk (v refl) h
    part_on map_rest t tk v h = map_rest_on ps l k ls behind t tk (v refl) h
    part_on call_start t tk v h = call_start_on ps l k ls behind t tk (v refl) h
    part_on call_rest t tk v h = call_rest_on ps l k ls behind t tk (v refl) h
    part_on close_paren t tk v h = close_paren_on ps l k ls behind t tk (v refl) h
    part_on tag_start t tk v h = tag_on t tk (v refl) h
    part_on end_expr t tk v h = end_expr_on t tk (v refl) h
    part_on end_block t tk v h = end_block_on t tk (v refl) h
    part_on block_word t tk v h = block_word_on t tk (v refl) h
    part_on condition t tk v h = condition_begins t tk (v refl) h
    part_on else_rest t tk v h = else_rest_on t tk (v refl) h
    part_on loop_name t tk v h = loop_name_on t tk (v refl) h
    part_on loop_rest t tk v h = loop_rest_on t tk (v refl) h
    part_on loop_value t tk v h = loop_value_on t tk (v refl) h
    part_on in_word t tk v h = in_word_on t tk (v refl) h
    part_on as_word t tk v h = as_word_on t tk (v refl) h
    part_on as_name t tk v h = as_name_on t tk (v refl) h
    part_on include_name t tk v h = include_name_on t tk (v refl) h
    part_on include_rest t tk v h = include_rest_on t tk (v refl) h

  no_magnitude : (p : Part) → is_optional p ≡ true → is_magnitude p ≡ false
  no_magnitude a_magnitude o = absurd cc
  no_magnitude p o = refl

  -- what can be read after a token that may be, can be read with it
  took_on : (p : Part) (ps : List Part) (t : Token) (k : Key) (l : Lexeme) (ls : List Lexeme) (took : Option (List Part)) (optional : Bool) → NumberBehind l ls → l.token ≡ t → (is_magnitude p ≡ false → Value t k l) → goes p t k ≡ took → is_optional p ≡ optional
      → ((first_is_magnitude ps ≡ false → Value t k l) → Reads s (after ps t k) ls → Means s ps (l ∷ ls)) → Reads s (left_of took optional ps (after ps t k)) ls → Means s (p ∷ ps) (l ∷ ls)
  took_on p ps t k l ls (Some first) optional behind tk v e o others h = let F : Option (List Part) → Type 0 = λ x. Took s x ps ls in part_on ps l k ls behind p t tk v (subst F (sym e) h)
  took_on p ps t k l ls None true behind tk v e o others h = left_out p (Means s ps) (l ∷ ls) o (others (λ x. v (no_magnitude p o)) h)
  took_on p ps t k l ls None false behind tk v e o others h = absurd h

  pub reads_on : (ps : List Part) (t : Token) (k : Key) (l : Lexeme) (ls : List Lexeme) → NumberBehind l ls → l.token ≡ t → (first_is_magnitude ps ≡ false → Value t k l) → Reads s (after ps t k) ls → Means s ps (l ∷ ls)
  reads_on [] t k l ls behind tk v h = absurd h
  reads_on (p ∷ ps) t k l ls behind tk v h = took_on p ps t k l ls (goes p t k) (is_optional p) behind tk v refl refl (reads_on ps t k l ls behind tk) h
