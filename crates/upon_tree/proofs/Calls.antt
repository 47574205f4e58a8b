-- The steps of a call.
use Rattle.std.proofs.Common.{◌≡◌, ℕ, List, [], ◌∷◌, ◌++◌, map, Bool, refl, sym, ap, ◌∙◌, subst}
use Rattle.upon_types.specs.declared.types.Span.{Span}
use Rattle.upon_types.specs.declared.types.token.Token.TheVariants.{Comma, OpenParen, CloseParen}
use Rattle.upon_types.specs.declared.types.ast.path.Ident.{Ident as AstIdent}
use Rattle.upon_types.specs.AstPath.{ident_of}
use Rattle.upon_types.specs.Expression.{Base, base_span, Bases, no_bases, call, no_arguments, arguments}
use Rattle.upon_language_spec.specs.Cut.{Lexeme}
use Rattle.upon_language_spec.specs.Tokens.{Goes, GoesBy, GoesName, from_to}
use Rattle.upon_language_spec.specs.Expressions.{last_end}
use Rattle.upon_language_spec.specs.Parts.{call_start}
use Rattle.upon_language_spec.specs.PartTails.{No}
use Rattle.upon_lexer.specs.declared.literal.Lexed.{Lexed}
use Rattle.upon_tag_parser.specs.declared.compile.parse.want.Want.{Want}
use Rattle.upon_tag_parser.specs.declared.compile.parse.want.Want.TheVariants.{CloseParen as WantCloseParen}
use Rattle.upon_tag_parser.specs.TagTokens.{lexemes_of}
use Rattle.upon_tag_parser.specs.Wants.{wanted_of}
use Rattle.upon_tag_parser.specs.TagParsing.{IsRefused, ReadsBase}
use Rattle.upon_tag_parser.specs.PartReadings.{bases_before, ArgsTo}
use Rattle.upon_tag_parser.proofs.Stuck.{stuck_then}
use Rattle.upon_tag_parser.proofs.Calls.{args_start, args_comma, args_last, call_reads, empty_call_reads, call_stuck, last_end-push}
use Rattle.upon_tree.specs.AstExpression.{base_tree, bases_tree}
use Rattle.upon_tree.specs.declared.ast.expression.BaseExpr.{BaseExpr}
use Rattle.upon_tree.specs.declared.opened.Applied.{Applied}
use Rattle.upon_tree.specs.declared.opened.Open.TheVariants as opened
use Rattle.upon_tag_parser.specs.Brackets.{StuckFrom, awaited}
use Rattle.upon_tree.specs.Opened.{CallTreeTo, IsBaseTreeGiven}
use Rattle.upon_tree.proofs.Starts.{call_leads}
use Rattle.upon_tree.proofs.Views.{bases_tree-before, bases-grown}

-- arguments that were read, with one more
pub grown_bases : (old new : List BaseExpr) (b : BaseExpr) → new ≡ old ++ b ∷ [] → bases_tree new ≡ bases_before (map base_tree old ++ base_tree b ∷ []) no_bases
grown_bases old new b e = bases_tree-before new ∙ ap (λ (bs : List Base). bases_before bs no_bases) (bases-grown old new b e)

-- where they end
pub grown_end : (old : List BaseExpr) (b : BaseExpr) → (base_span (base_tree b)).n ≡ last_end 0 (bases_before (map base_tree old ++ base_tree b ∷ []) no_bases)
grown_end old b = sym (last_end-push (map base_tree old) (base_tree b) 0)

module _ (s : List ℕ) where
  -- none yet
  pub none_read : (values : List BaseExpr) (ts : List Lexeme) → values ≡ [] → ArgsTo s (map base_tree values) ts ts
  none_read values ts e = let F : List BaseExpr → Type 0 = λ bs. ArgsTo s (map base_tree bs) ts ts in subst F (sym e) (args_start s ts)

  -- the name and the opening parenthesis
  pub call_begun : (applied : Applied) (before paren here : List Lexeme) → applied.values.items ≡ [] → GoesName s (ident_of applied.name) before paren → GoesBy OpenParen paren here → No CloseParen here → CallTreeTo s applied before here
  call_begun applied before paren here none named opens closed =
      record { paren = paren; inside = here; named = named; opens = opens; not_closed = closed; reads = none_read applied.values.items here none }

  -- and the closing one
  pub call_empty : (name : AstIdent) (b : BaseExpr) (before paren here there : List Lexeme) (closing : Span) → GoesName s (ident_of name) before paren → GoesBy OpenParen paren here → Goes CloseParen closing here there → base_tree b ≡ call (ident_of name) no_arguments (from_to name.span closing) → ReadsBase s (base_tree b) before there
  call_empty name b before paren here there closing named opens closes is =
      let F : Base → Type 0 = λ x. ReadsBase s x before there in
      subst F (sym is) (empty_call_reads s (ident_of name) (from_to name.span closing) before paren here there closing closes refl named opens)

  module _ (applied : Applied) (values : List BaseExpr) (argument : BaseExpr) (whole : Bool) (from here : List Lexeme) (given : IsBaseTreeGiven s whole (opened.Call applied) argument from here) (more : values ≡ applied.values.items ++ argument ∷ []) where
    -- an argument and a comma
    pub argument_comma : (next : Applied) (there : List Lexeme) (comma : Span) → Goes Comma comma here there → next.name ≡ applied.name → next.values.items ≡ values → CallTreeTo s next from there
    argument_comma next there comma c name is =
        let h = given.around in
        let F : List Base → Type 0 = λ bs. ArgsTo s bs h.inside there in
        let G : AstIdent → Type 0 = λ x. GoesName s (ident_of x) from h.paren in
        record {
          paren = h.paren;
          inside = h.inside;
          named = subst G (sym name) h.named;
          opens = h.opens;
          not_closed = h.not_closed;
          reads = subst F (sym (bases-grown applied.values.items next.values.items argument (is ∙ more))) (args_comma s (map base_tree applied.values.items) (base_tree argument) h.inside given.mid here there comma h.reads given.read c);
        }

    -- an argument and the closing parenthesis
    pub argument_closes : (b : BaseExpr) (there : List Lexeme) (at : Span) (closing : Span) → No Comma here → Goes CloseParen closing here there → at ≡ record { m = applied.name.span.m; n = (base_span (base_tree argument)).n } → base_tree b ≡ call (ident_of applied.name) (arguments (bases_tree values) at) (from_to applied.name.span closing) → ReadsBase s (base_tree b) from there
    argument_closes b there at closing none closes place is =
        let h = given.around in
        let name = ident_of applied.name in
        let bases = bases_before (map base_tree applied.values.items ++ base_tree argument ∷ []) no_bases in
        let span = from_to applied.name.span closing in
        let F : Base → Type 0 = λ x. ReadsBase s x from there in
        let e : base_tree b ≡ call name (arguments bases at) span = is ∙ ap (λ (bs : Bases). call name (arguments bs at) span) (grown_bases applied.values.items values argument more) in
        let ends : at ≡ record { m = name.span.m; n = last_end 0 bases } = place ∙ ap (λ (n : ℕ). record { m = applied.name.span.m; n = n }) (grown_end applied.values.items argument) in
        subst F (sym e)
        (call_reads s name bases at span from h.paren h.inside here there closing (args_last s (map base_tree applied.values.items) (base_tree argument) h.inside given.mid here h.reads given.read none) closes ends refl h.named h.opens)

-- neither a comma nor the closing parenthesis after an argument
pub argument_stuck : (s : List ℕ) (applied : Applied) (argument : BaseExpr) (whole : Bool) (from : List Lexeme) (tokens left : List Lexed) (want : Want) → IsBaseTreeGiven s whole (opened.Call applied) argument from (lexemes_of tokens) → No Comma (lexemes_of tokens) → IsRefused CloseParen WantCloseParen tokens want left → StuckFrom s whole from want left
argument_stuck s applied argument whole from tokens left want given none refused a ps starts =
    let h = given.around in
    let others = awaited whole ps in
    let all = bases_before (map base_tree applied.values.items ++ base_tree argument ∷ []) no_bases in
    stuck_then s a (call_start ∷ others) from h.inside (lexemes_of left) (wanted_of want) (call_leads s applied from given.mid h a others starts)
    (call_stuck s all h.inside tokens left want (args_last s (map base_tree applied.values.items) (base_tree argument) h.inside given.mid (lexemes_of tokens) h.reads given.read none) refused others)
