-- The expression of a tag that was read is known to be there: after how many of the tag's tokens.
use Rattle.std.proofs.Common.{◌≡◌, ℕ, ◌+◌, ◌-◌, List, [], ◌∷◌, ◌++◌, length, Bool, true, false, Option, Some, None, inl, inr, refl, sym, ap, ◌∙◌, subst, codes, append_assoc, arith}
use Rattle.std.proofs.Math.ListN.{take, drop}
use Rattle.std.proofs.Math.Seq.{drop-append_seam}
use Rattle.std.proofs.lemmas.List.{length-append, drop-map, take_rest}
use Rattle.std.proofs.lemmas.Option.{same_Some}
use Rattle.upon_types.specs.declared.types.Span.{Span}
use Rattle.upon_types.specs.declared.types.token.Token.{Token}
use Rattle.upon_types.specs.declared.types.token.Token.TheVariants.{BeginExpr, EndExpr, BeginBlock, EndBlock, Keyword, Comma, Ident as Identifier, String}
use Rattle.upon_types.specs.BlockKinds.{Opening, if_tag, for_tag, with_tag}
use Rattle.upon_types.specs.Path.{Ident, LoopVars, item, key_value}
use Rattle.upon_types.specs.Expression.{Expression}
use Rattle.upon_language_spec.specs.Cut.{Lexeme}
use Rattle.upon_language_spec.specs.Expressions.{IsExpression}
use Rattle.upon_types.specs.Tree.{include}
use Rattle.upon_language_spec.specs.Grammar.{IsStatement, IsOpeningTag, IsElseIfTag, IsCondition, AreLoopVars}
use Rattle.upon_language_spec.specs.Keys.{keyword_of}
use Rattle.upon_language_spec.specs.LaterFaults.{minus_before}
use Rattle.upon_language_spec.specs.Parts.{Part, a_base, filters, end_block, end_expr, block_word, condition, else_rest, loop_name, loop_rest, loop_value, in_word, as_word, include_name, include_rest, after, after_symbol}
use Rattle.upon_language_spec.specs.Tags.{word_of}
use Rattle.upon_language_spec.specs.Tokens.{Goes, GoesBy, GoesKeyword}
use Rattle.upon_language_spec.specs.Wanted.{Wanted, an_end_block, an_end_expression}
use Rattle.upon_language_spec.proofs.OneTree.Begin.{not_begins_no_expression}
use Rattle.upon_language_spec.proofs.OneTree.Claims.{BehindExpression, continues_args, continues_filters}
use Rattle.upon_language_spec.proofs.OneTree.Path.{continues_base}
use Rattle.upon_language_spec.proofs.OneTree.Token.{first_token}
use Rattle.upon_language_spec.proofs.Totality.TagMore.{keyword_more}
use Rattle.upon_language_spec.proofs.Wanted.ExpressionsLead.{leads_by}
use Rattle.upon_lexer.specs.declared.literal.Lexed.{Lexed}
use Rattle.upon_lexer.specs.Literals.{lexeme_of}
use Rattle.upon_tag_parser.specs.BlockTags.{BlockTag, opening_tag, else_if_tag, else_tag, end_tag, include_tag, tokens_of_not, tokens_of_names, tokens_before}
use Rattle.upon_tag_parser.specs.TagParsing.{StartsBase, NoWord}
use Rattle.upon_tag_parser.specs.TagTokens.{EachTagToken, lexemes_of}
use Rattle.upon_tag_parser.specs.WholeTags.{LeadsToEnd}
use Rattle.upon_tag_parser.proofs.BaseStarts.{base_starts}
use Rattle.upon_tag_parser.proofs.Endings.{condition_starts}
use Rattle.upon_syntax.specs.Pieces.{HoldsPiece, inline_piece, block_piece}
use Rattle.upon_syntax.specs.TagExpressions.{HasExpressionAfter}
use Rattle.upon_tree.specs.Statements.{TreeSoFar, block_opened}
use Rattle.upon_syntax.specs.TreeTold.{tree_after_tag}
use Rattle.upon_syntax.proofs.KnownTrees.{IsTagEnd, leads_on, Stops, end_expr_stops, end_block_stops, as_stops, known_by}

-- ---- a token inside a tag, before the tag's end
head_is : (a b : Lexeme) (xs ys : List Lexeme) → a ∷ xs ≡ b ∷ ys → a ≡ b
head_is a b xs ys e = cc

tail_is : (a b : Lexeme) (xs ys : List Lexeme) → a ∷ xs ≡ b ∷ ys → xs ≡ ys
tail_is a b xs ys e = cc

-- what is first before the end goes without the end too
record GoesInside (t : Token) (span : Span) (last : Lexeme) (ts mid : List Lexeme) : Type 0 where
  lexeme : Lexeme
  rest : List Lexeme
  is : ts ≡ lexeme ∷ rest
  of_token : lexeme.token ≡ t
  at : lexeme.span ≡ span
  joins : mid ≡ rest ++ last ∷ []

goes_inside : (t end : Token) (span : Span) (last : Lexeme) (ts mid : List Lexeme) → last.token ≡ end → (t ≡ end → ⊥) → Goes t span (ts ++ last ∷ []) mid → GoesInside t span last ts mid
goes_inside t end span last [] mid ends other g =
    let same : last ≡ g.lexeme = head_is last g.lexeme [] mid g.is in
    absurd (other (sym g.of_token ∙ ap (λ (l : Lexeme). l.token) (sym same) ∙ ends))
goes_inside t end span last (l ∷ ls) mid ends other g =
    let same : l ≡ g.lexeme = head_is l g.lexeme (ls ++ last ∷ []) mid g.is in
    record {
      lexeme = l;
      rest = ls;
      is = refl;
      of_token = ap (λ (x : Lexeme). x.token) same ∙ g.of_token;
      at = ap (λ (x : Lexeme). x.span) same ∙ g.at;
      joins = sym (tail_is l g.lexeme (ls ++ last ∷ []) mid g.is);
    }

-- whether a token is a minus
abbrev minus_token : Token → Bool
minus_token t = minus_before (Some (record { token = t; hyphen = false; span = record { m = 0; n = 0 } }))

-- After so many of a tag's tokens these parts are to come, and those tokens with the tag's end.
record IsAt (s : List ℕ) (end : Token) (word : Wanted) (last : Lexeme) (ts : List Lexeme) (count : ℕ) (parts : List Part) (whole : List Lexeme) : Type 0 where
  read : List Lexeme
  left : List Lexeme
  splits : ts ≡ read ++ left
  counted : length read ≡ count
  leads : LeadsToEnd s parts left end word
  joins : whole ≡ left ++ last ∷ []
  previous : Option Lexeme
  no_minus : minus_before previous ≡ false
  each : EachTagToken s previous left

module _ (s : List ℕ) (end : Token) (word : Wanted) (last : Lexeme) (ends : last.token ≡ end) (is_end : IsTagEnd end) (ts : List Lexeme) where
  -- one token more was read
  on : (parts next : List Part) (count : ℕ) (t : Token) (span : Span) (whole mid : List Lexeme) → IsAt s end word last ts count parts whole → Goes t span whole mid → (t ≡ end → ⊥) → minus_token t ≡ false → after_symbol parts (record { token = t; word = word_of s t span }) ≡ Some next → IsAt s end word last ts (count + 1) next mid
  on parts next count t span whole mid x g other minus goes =
      let F : List Lexeme → Type 0 = λ w. Goes t span w mid in
      let i = goes_inside t end span last x.left mid ends other (subst F x.joins g) in
      let G : List Lexeme → Type 0 = λ w. EachTagToken s x.previous w in
      let there : Goes t span x.left i.rest = record { lexeme = i.lexeme; is = i.is; of_token = i.of_token; at = i.at } in
      record {
        read = x.read ++ i.lexeme ∷ [];
        left = i.rest;
        splits = x.splits ∙ ap (λ (w : List Lexeme). x.read ++ w) i.is ∙ sym (append_assoc x.read (i.lexeme ∷ []) i.rest);
        counted = length-append x.read (i.lexeme ∷ []) ∙ ap (λ (n : ℕ). n + 1) x.counted;
        leads = leads_on s parts next x.left i.rest end word x.leads (leads_by s there goes);
        joins = i.joins;
        previous = Some i.lexeme;
        no_minus = ap minus_token i.of_token ∙ minus;
        each = (subst G i.is x.each).1;
      }

  -- an expression is next, and what is after it does not go on with it
  expression_at : (parts P : List Part) (count : ℕ) (e : Expression) (whole rest : List Lexeme) → IsAt s end word last ts count parts whole → IsExpression s e whole rest → BehindExpression rest → BehindExpression (last ∷ []) → ((ls : List Lexeme) → IsExpression s e (ls ++ last ∷ []) rest → StartsBase s parts (filters ∷ P) ls) → Stops P → HasExpressionAfter s count ts e
  expression_at parts P count e whole rest x reads behind behind_end starts stops =
      let F : List Lexeme → Type 0 = λ w. IsExpression s e w rest in
      let here = subst F x.joins reads in
      record {
        read = x.read;
        left = x.left;
        splits = x.splits;
        counted = x.counted;
        known = known_by s e x.left (last ∷ []) rest here behind behind_end parts P (starts x.left here) stops end word is_end x.leads;
        previous = x.previous;
        no_minus = x.no_minus;
        each = x.each;
      }

-- ---- what is behind an expression
behind_token : (t : Token) (span : Span) (ts rest : List Lexeme) → Goes t span ts rest → (continues_base (Some t) ≡ false) × (continues_args (Some t) ≡ false) × (continues_filters (Some t) ≡ false) → BehindExpression ts
behind_token t span ts rest g stops =
    let first : first_token ts ≡ Some t = ap first_token g.is ∙ ap Some g.of_token in
    ((ap continues_base first ∙ stops.0, ap continues_args first ∙ stops.1), ap continues_filters first ∙ stops.2)

-- ---- tags of blocks
abbrev no_span : Span
no_span = record { m = 0; n = 0 }

abbrev bare : Token → Lexeme
bare t = record { token = t; hyphen = false; span = no_span }

is_block_end : IsTagEnd EndBlock
is_block_end = inr refl

module _ (s : List ℕ) (ts : List Lexeme) (leads : LeadsToEnd s (block_word ∷ []) ts EndBlock an_end_block) (each : EachTagToken s None ts) where
  abbrev At : ℕ → List Part → List Lexeme → Type 0
  At count parts whole = IsAt s EndBlock an_end_block (bare EndBlock) ts count parts whole

  begun : (mid : List Lexeme) → GoesBy BeginBlock (bare BeginBlock ∷ (ts ++ bare EndBlock ∷ [])) mid → At 0 (block_word ∷ []) mid
  begun mid (span, g) = record {
    read = [];
    left = ts;
    splits = refl;
    counted = refl;
    leads = leads;
    joins = sym (tail_is (bare BeginBlock) g.lexeme (ts ++ bare EndBlock ∷ []) mid g.is);
    previous = None;
    no_minus = refl;
    each = each;
  }

  after_key : (parts next : List Part) (count : ℕ) (word : List ℕ) (whole mid : List Lexeme) → At count parts whole → GoesKeyword s word whole mid → after parts Keyword (keyword_of word) ≡ Some next → At (count + 1) next mid
  after_key parts next count word whole mid x (span, (g, spelled)) goes =
      on s EndBlock an_end_block (bare EndBlock) refl is_block_end ts parts next count Keyword span whole mid x g (λ e. cc) refl (ap (λ (w : List ℕ). after parts Keyword (keyword_of w)) spelled ∙ goes)

  after_token : (parts next : List Part) (count : ℕ) (t : Token) (span : Span) (whole mid : List Lexeme) → At count parts whole → Goes t span whole mid → (t ≡ EndBlock → ⊥) → minus_token t ≡ false → after_symbol parts (record { token = t; word = word_of s t span }) ≡ Some next → At (count + 1) next mid
  after_token parts next count t span whole mid x g other minus goes = on s EndBlock an_end_block (bare EndBlock) refl is_block_end ts parts next count t span whole mid x g other minus goes

  -- an expression and the tag's end
  last_expression : (count : ℕ) (e : Expression) (whole rest more : List Lexeme) → At count (a_base ∷ filters ∷ end_block ∷ []) whole → IsExpression s e whole rest → GoesBy EndBlock rest more → HasExpressionAfter s count ts e
  last_expression count e whole rest more x reads (span, g) =
      expression_at s EndBlock an_end_block (bare EndBlock) refl is_block_end ts (a_base ∷ filters ∷ end_block ∷ []) (end_block ∷ []) count e whole rest x reads (behind_token EndBlock span rest more g (refl, refl, refl)) ((refl, refl), refl) (λ ls here. base_starts s (filters ∷ end_block ∷ []) ls) end_block_stops

  -- a condition and the tag's end
  last_condition : (negated : Bool) (count n : ℕ) (e : Expression) (whole rest more : List Lexeme) → At count (condition ∷ end_block ∷ []) whole → IsCondition s negated e whole rest → GoesBy EndBlock rest more → count + tokens_of_not negated ≡ n → HasExpressionAfter s n ts e
  last_condition true count n e whole rest more x (mid, k, reads) end counted =
      let F : ℕ → Type 0 = λ m. HasExpressionAfter s m ts e in
      subst F counted (last_expression (count + 1) e mid rest more (after_key (condition ∷ end_block ∷ []) (a_base ∷ filters ∷ end_block ∷ []) count (codes "not") whole mid x k refl) reads end)
  last_condition false count n e whole rest more x reads (span, g) counted =
      let F : ℕ → Type 0 = λ m. HasExpressionAfter s m ts e in
      let same : count ≡ n = omega (arith, counted) in
      let not_not : (ls us : List Lexeme) → IsExpression s e (ls ++ bare EndBlock ∷ []) us → NoWord s (codes "not") ls = λ ls us here at behind w. not_begins_no_expression s e (ls ++ bare EndBlock ∷ []) (ls ++ bare EndBlock ∷ []) us (behind ++ bare EndBlock ∷ []) refl here (keyword_more s (bare EndBlock ∷ []) (codes "not") ls behind (at, w)) in
      subst F same (expression_at s EndBlock an_end_block (bare EndBlock) refl is_block_end ts (condition ∷ end_block ∷ []) (end_block ∷ []) count e whole rest x reads (behind_token EndBlock span rest more g (refl, refl, refl)) ((refl, refl), refl) (λ ls here. condition_starts s (end_block ∷ []) ls (not_not ls rest here)) end_block_stops)

  -- the names of a loop, and `in`
  after_in : (names : LoopVars) (n : ℕ) (whole rest mid : List Lexeme) → At 1 (loop_name ∷ end_block ∷ []) whole → AreLoopVars s names whole rest → GoesKeyword s (codes "in") rest mid → 2 + tokens_of_names names ≡ n → At n (a_base ∷ filters ∷ end_block ∷ []) mid
  after_in (item name) n whole rest mid x vars k counted =
      let F : ℕ → Type 0 = λ m. At m (a_base ∷ filters ∷ end_block ∷ []) mid in
      let named = after_token (loop_name ∷ end_block ∷ []) (loop_rest ∷ end_block ∷ []) 1 Identifier name.span whole rest x vars.0 (λ e. cc) refl refl in
      subst F counted (after_key (loop_rest ∷ end_block ∷ []) (a_base ∷ filters ∷ end_block ∷ []) 2 (codes "in") rest mid named k refl)
  after_in (key_value key value span) n whole rest mid x (first, second, vars, (at, comma), others, whole_span) k counted =
      let F : ℕ → Type 0 = λ m. At m (a_base ∷ filters ∷ end_block ∷ []) mid in
      let named = after_token (loop_name ∷ end_block ∷ []) (loop_rest ∷ end_block ∷ []) 1 Identifier key.span whole first x vars.0 (λ e. cc) refl refl in
      let between = after_token (loop_rest ∷ end_block ∷ []) (loop_value ∷ end_block ∷ []) 2 Comma at first second named comma (λ e. cc) refl refl in
      let both = after_token (loop_value ∷ end_block ∷ []) (in_word ∷ end_block ∷ []) 3 Identifier value.span second rest between others.0 (λ e. cc) refl refl in
      subst F counted (after_key (in_word ∷ end_block ∷ []) (a_base ∷ filters ∷ end_block ∷ []) 4 (codes "in") rest mid both k refl)

  abbrev Whole : List Lexeme
  Whole = bare BeginBlock ∷ (ts ++ bare EndBlock ∷ [])

  known_in_opening : (opening : Opening) (e : Expression) → IsOpeningTag s opening e Whole [] → HasExpressionAfter s (tokens_before (opening_tag opening e)) ts e
  known_in_opening (if_tag negated) e (mid, rest, (m, g, k), c, end) =
      last_condition negated 1 _ e mid rest [] (after_key (block_word ∷ []) (condition ∷ end_block ∷ []) 0 (codes "if") m mid (begun m g) k refl) c end refl
  known_in_opening (for_tag names) e (mid, rest, (m, g, k), (from, to, vars, word, reads), end) =
      let opened = after_key (block_word ∷ []) (loop_name ∷ end_block ∷ []) 0 (codes "for") m mid (begun m g) k refl in
      last_expression _ e to rest [] (after_in names _ mid from to opened vars word refl) reads end
  known_in_opening (with_tag name) e (mid, rest, (m, g, k), (from, to, reads, (at, word), named), end) =
      let opened = after_key (block_word ∷ []) (a_base ∷ filters ∷ as_word ∷ end_block ∷ []) 0 (codes "with") m mid (begun m g) k refl in
      expression_at s EndBlock an_end_block (bare EndBlock) refl is_block_end ts (a_base ∷ filters ∷ as_word ∷ end_block ∷ []) (as_word ∷ end_block ∷ []) 1 e mid from opened reads (behind_token Keyword at from to word.0 (refl, refl, refl)) ((refl, refl), refl) (λ ls here. base_starts s (filters ∷ as_word ∷ end_block ∷ []) ls) as_stops

  known_in_else_if : (negated : Bool) (e : Expression) → IsElseIfTag s negated e Whole [] → HasExpressionAfter s (tokens_before (else_if_tag negated e)) ts e
  known_in_else_if negated e (start, mid, rest, (m, g, k), second, c, end) =
      let opened = after_key (block_word ∷ []) (else_rest ∷ []) 0 (codes "else") m start (begun m g) k refl in
      last_condition negated 2 _ e mid rest [] (after_key (else_rest ∷ []) (condition ∷ end_block ∷ []) 1 (codes "if") start mid opened second refl) c end refl

  known_in_include : (name : Ident) (e : Expression) → IsStatement s (include name (Some e)) Whole [] → HasExpressionAfter s (tokens_before (include_tag name (Some e))) ts e
  known_in_include name e (start, mid, rest, (m, g, k), text, (globals, word, reads), end) =
      let opened = after_key (block_word ∷ []) (include_name ∷ []) 0 (codes "include") m start (begun m g) k refl in
      let named = after_token (include_name ∷ []) (include_rest ∷ []) 1 String name.span start mid opened text.0 (λ x. cc) refl refl in
      last_expression 3 e globals rest [] (after_key (include_rest ∷ []) (a_base ∷ filters ∷ end_block ∷ []) 2 (codes "with") mid globals named word refl) reads end

-- ---- of the pieces that a reader holds
pub in_opening : (s : List ℕ) (opening : Opening) (e : Expression) (ts : List Lexeme) → HoldsPiece s (block_piece (opening_tag opening e)) ts → HasExpressionAfter s (tokens_before (opening_tag opening e)) ts e
in_opening s opening e ts (inside, leads, each) = known_in_opening s ts leads each opening e (inside (bare BeginBlock) (bare EndBlock) [] refl refl)

pub in_else_if : (s : List ℕ) (negated : Bool) (e : Expression) (ts : List Lexeme) → HoldsPiece s (block_piece (else_if_tag negated e)) ts → HasExpressionAfter s (tokens_before (else_if_tag negated e)) ts e
in_else_if s negated e ts (inside, leads, each) = known_in_else_if s ts leads each negated e (inside (bare BeginBlock) (bare EndBlock) [] refl refl)

pub in_include : (s : List ℕ) (name : Ident) (e : Expression) (ts : List Lexeme) → HoldsPiece s (block_piece (include_tag name (Some e))) ts → HasExpressionAfter s (tokens_before (include_tag name (Some e))) ts e
in_include s name e ts (inside, leads, each) = known_in_include s ts leads each name e (inside (bare BeginBlock) (bare EndBlock) [] refl refl)

pub in_inline : (s : List ℕ) (e : Expression) (span : Span) (ts : List Lexeme) → HoldsPiece s (inline_piece e span) ts → HasExpressionAfter s 0 ts e
in_inline s e span ts (inside, leads, each) =
    let (begin, end, mid, rest, opens, reads, closes, same) = inside (bare BeginExpr) (bare EndExpr) [] refl refl in
    let at : IsAt s EndExpr an_end_expression (bare EndExpr) ts 0 (a_base ∷ filters ∷ end_expr ∷ []) mid = record {
      read = [];
      left = ts;
      splits = refl;
      counted = refl;
      leads = leads;
      joins = sym (tail_is (bare BeginExpr) opens.lexeme (ts ++ bare EndExpr ∷ []) mid opens.is);
      previous = None;
      no_minus = refl;
      each = each;
    } in
    expression_at s EndExpr an_end_expression (bare EndExpr) refl (inl refl) ts (a_base ∷ filters ∷ end_expr ∷ []) (end_expr ∷ []) 0 e mid rest at reads (behind_token EndExpr end rest [] closes (refl, refl, refl)) ((refl, refl), refl) (λ ls here. base_starts s (filters ∷ end_expr ∷ []) ls) end_expr_stops

-- ---- by the tag that the code keeps
-- the expression of a tag, if it has one
abbrev pub expression_of : BlockTag → Option Expression
expression_of (opening_tag opening e) = Some e
expression_of (else_if_tag negated e) = Some e
expression_of (include_tag name globals) = globals
expression_of tag = None

known_in : (s : List ℕ) (tag : BlockTag) (e : Expression) (ts : List Lexeme) → expression_of tag ≡ Some e → HoldsPiece s (block_piece tag) ts → HasExpressionAfter s (tokens_before tag) ts e
known_in s (opening_tag opening f) e ts is h =
    let F : Expression → Type 0 = λ x. HasExpressionAfter s (tokens_before (opening_tag opening f)) ts x in
    subst F (same_Some f e is) (in_opening s opening f ts h)
known_in s (else_if_tag negated f) e ts is h =
    let F : Expression → Type 0 = λ x. HasExpressionAfter s (tokens_before (else_if_tag negated f)) ts x in
    subst F (same_Some f e is) (in_else_if s negated f ts h)
known_in s (include_tag name (Some f)) e ts is h =
    let F : Expression → Type 0 = λ x. HasExpressionAfter s (tokens_before (include_tag name (Some f))) ts x in
    subst F (same_Some f e is) (in_include s name f ts h)
known_in s (include_tag name None) e ts is h = absurd cc
known_in s else_tag e ts is h = absurd cc
known_in s (end_tag kind) e ts is h = absurd cc

pub counted_in : (s : List ℕ) (n : ℕ) (told tag : BlockTag) (e : Expression) (ts : List Lexeme) → told ≡ tag → expression_of tag ≡ Some e → n ≡ tokens_before told → HoldsPiece s (block_piece told) ts → HasExpressionAfter s n ts e
counted_in s n told tag e ts is has count h =
    let F : ℕ → Type 0 = λ m. HasExpressionAfter s m ts e in
    subst F (sym count) (known_in s told e ts (ap expression_of is ∙ has) h)

-- the tokens that are left are the code's from that number on
pub left_tokens : (s : List ℕ) (count : ℕ) (tokens : List Lexed) (e : Expression) (h : HasExpressionAfter s count (lexemes_of tokens) e) → h.left ≡ lexemes_of (take (length tokens - count) (drop count tokens))
left_tokens s count tokens e h =
    sym (drop-append_seam h.read h.left) ∙ ap (λ (n : ℕ). drop n (h.read ++ h.left)) h.counted
    ∙ ap (λ (ls : List Lexeme). drop count ls) (sym h.splits)
    ∙ drop-map lexeme_of count tokens ∙ ap lexemes_of (sym (take_rest tokens count))

-- ---- what a builder is told of
-- a block is opened as its tag says
pub told_opening : (told : BlockTag) (opening : Opening) (e f : Expression) (so : TreeSoFar) → told ≡ opening_tag opening e → f ≡ e → block_opened false opening f so ≡ tree_after_tag told so
told_opening told opening e f so is same = ap (λ (x : Expression). block_opened false opening x so) same ∙ ap (λ (t : BlockTag). tree_after_tag t so) (sym is)
