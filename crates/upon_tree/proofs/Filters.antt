-- The steps of an expression with its filters, and of parentheses.
use Rattle.std.proofs.Common.{◌≡◌, ℕ, List, [], ◌∷◌, ◌++◌, map, Bool, true, Option, Some, None, sym, ap, ◌∙◌, subst}
use Rattle.upon_types.specs.declared.types.Span.{Span}
use Rattle.upon_types.specs.declared.types.token.Token.TheVariants.{Comma, Pipe, Colon, OpenParen, CloseParen, Ident as Identifier}
use Rattle.upon_types.specs.declared.types.ast.path.Ident.{Ident as AstIdent}
use Rattle.upon_types.specs.Path.{Ident}
use Rattle.upon_types.specs.AstPath.{ident_of}
use Rattle.upon_types.specs.Expression.{Base, base_span, Bases, Expression, base, filtered, paren, no_arguments, arguments, no_bases, expression_span}
use Rattle.upon_language_spec.specs.Cut.{Lexeme}
use Rattle.upon_language_spec.specs.Tokens.{Goes, GoesBy, GoesName, from_to}
use Rattle.upon_language_spec.specs.Expressions.{last_end, filter_end}
use Rattle.upon_language_spec.specs.Parts.{filters, filter_name}
use Rattle.upon_language_spec.specs.PartTails.{No}
use Rattle.upon_language_spec.proofs.Wanted.ExpressionsLead.{leads_then, leads_token}
use Rattle.upon_lexer.specs.declared.literal.Lexed.{Lexed}
use Rattle.upon_tag_parser.specs.declared.compile.parse.want.Want.{Want}
use Rattle.upon_tag_parser.specs.declared.compile.parse.want.Want.TheVariants.{Name as WantName, CloseParen as WantCloseParen}
use Rattle.upon_tag_parser.specs.TagTokens.{lexemes_of}
use Rattle.upon_tag_parser.specs.Wants.{wanted_of}
use Rattle.upon_tag_parser.specs.TagParsing.{IsRefused, ReadsBase, ReadsPart, ReadsExpression}
use Rattle.upon_tag_parser.specs.PartReadings.{bases_before, ArgsTo}
use Rattle.upon_tag_parser.proofs.Stuck.{stuck_then}
use Rattle.upon_tag_parser.proofs.Calls.{args_comma, args_last}
use Rattle.upon_tag_parser.proofs.Filters.{inside, part_base, part_filtered, no_filter_args, filter_args_read, bar_leads, filter_name_stuck, paren_reads, paren_stuck}
use Rattle.upon_tree.specs.AstExpression.{base_tree, expression_tree, bases_tree}
use Rattle.upon_tree.specs.declared.ast.expression.BaseExpr.{BaseExpr}
use Rattle.upon_tree.specs.declared.ast.expression.Expr.{Expr}
use Rattle.upon_tree.specs.declared.opened.Applied.{Applied}
use Rattle.upon_tree.specs.declared.opened.Receiver.{Receiver}
use Rattle.upon_tree.specs.declared.opened.Open.TheVariants as opened
use Rattle.upon_tag_parser.specs.Brackets.{StuckFrom, awaited}
use Rattle.upon_tree.specs.Opened.{PartTreeStart, FilterTreeTo, IsBaseTreeGiven}
use Rattle.upon_tree.proofs.Calls.{none_read, grown_bases, grown_end}
use Rattle.upon_tree.proofs.Starts.{part_started}
use Rattle.upon_tree.proofs.Views.{bases-grown}

module _ (s : List ℕ) where
  -- ---- parts of an expression
  -- a Base is an expression so far
  pub part_of_base : (b : BaseExpr) (e : Expr) (from to : List Lexeme) → expression_tree e ≡ base (base_tree b) → ReadsBase s (base_tree b) from to → ReadsPart s (expression_tree e) from to
  part_of_base b e from to is h = part_base s (base_tree b) (expression_tree e) from to is h

  -- a filter without arguments
  pub filter_alone : (part made : Expr) (start here mid there : List Lexeme) (name : Ident) (place : Span) → ReadsPart s (expression_tree part) start here → GoesBy Pipe here mid → GoesName s name mid there → No Colon there → place ≡ record { m = (expression_span (expression_tree part)).m; n = name.span.n } → expression_tree made ≡ filtered (expression_tree part) name no_arguments place → ReadsPart s (expression_tree made) start there
  filter_alone part made start here mid there name place h bar named none at is =
      let F : Expression → Type 0 = λ x. ReadsPart s x start there in
      subst F (sym is) (part_filtered s (expression_tree part) name no_arguments place start here mid there there h bar named (no_filter_args s there none) at)

  -- no name after a bar
  pub name_stuck : (whole : Bool) (opening : Option Span) (part : Expr) (from start here : List Lexeme) (tokens left : List Lexed) (want : Want) → PartTreeStart whole opening from start → ReadsPart s (expression_tree part) start here → GoesBy Pipe here (lexemes_of tokens) → IsRefused Identifier WantName tokens want left → StuckFrom s whole from want left
  name_stuck whole opening part from start here tokens left want begins h bar refused a ps starts =
      let at = part_started s whole opening from start begins a ps starts in
      stuck_then s a (filter_name ∷ filters ∷ at.others) from (lexemes_of tokens) (lexemes_of left) (wanted_of want)
      (leads_then s at.leads (bar_leads s (expression_tree part) start here (lexemes_of tokens) h bar at.to at.others at.starts.takes))
      (filter_name_stuck s tokens left want refused at.others)

  -- ---- the end of an expression
  pub part_ends : (part : Expr) (from to : List Lexeme) → ReadsPart s (expression_tree part) from to → No Pipe to → ReadsExpression s (expression_tree part) from to
  part_ends part from to h none = record { part = h; no_more = none }

  -- of the whole
  pub whole_ends : (whole : Bool) (e : Expr) (from start here : List Lexeme) → PartTreeStart whole None from start → ReadsExpression s (expression_tree e) start here → (whole ≡ true) × ReadsExpression s (expression_tree e) from here
  whole_ends whole e from start here (is, tokens) h =
      let F : List Lexeme → Type 0 = λ ts. ReadsExpression s (expression_tree e) ts here in
      (is, subst F tokens h)

  -- of parentheses
  pub paren_closes : (e : Expr) (b : BaseExpr) (whole : Bool) (opening closing : Span) (from start here there : List Lexeme) → PartTreeStart whole (Some opening) from start → ReadsExpression s (expression_tree e) start here → Goes CloseParen closing here there → base_tree b ≡ paren (expression_tree e) (from_to opening closing) → ReadsBase s (base_tree b) from there
  paren_closes e b whole opening closing from start here there opens h closes is =
      let F : Base → Type 0 = λ x. ReadsBase s x from there in
      subst F (sym is) (paren_reads s (expression_tree e) from start here there opening closing h closes opens)

  -- no closing parenthesis
  pub paren_open_stuck : (e : Expr) (whole : Bool) (opening : Span) (from start : List Lexeme) (tokens left : List Lexed) (want : Want) → PartTreeStart whole (Some opening) from start → ReadsExpression s (expression_tree e) start (lexemes_of tokens) → IsRefused CloseParen WantCloseParen tokens want left → StuckFrom s whole from want left
  paren_open_stuck e whole opening from start tokens left want opens h refused a ps starts =
      let others = awaited whole ps in
      stuck_then s a (inside s others) from start (lexemes_of left) (wanted_of want) (leads_token s (opening, opens) (λ k. starts.takes OpenParen k))
      (paren_stuck s (expression_tree e) start tokens left want h refused others)

  -- ---- filters with arguments
  -- the name and the colon
  pub filter_begun : (whole : Bool) (receiver : Receiver) (applied : Applied) (from start here name colon there : List Lexeme) → PartTreeStart whole receiver.opening from start → ReadsPart s (expression_tree receiver.expr) start here → applied.values.items ≡ [] → GoesBy Pipe here name → GoesName s (ident_of applied.name) name colon → Goes Colon receiver.colon colon there → FilterTreeTo s whole receiver applied from there
  filter_begun whole receiver applied from start here name colon there begins part none bar named opens = record {
    start = start;
    begins = begins;
    mid = here;
    part = part;
    name = name;
    colon = colon;
    inside = there;
    bar = bar;
    named = named;
    opens = opens;
    reads = none_read s applied.values.items there none;
  }

  module _ (receiver : Receiver) (applied : Applied) (values : List BaseExpr) (argument : BaseExpr) (whole : Bool) (from here : List Lexeme) (given : IsBaseTreeGiven s whole (opened.Filter receiver applied) argument from here) (more : values ≡ applied.values.items ++ argument ∷ []) where
    -- an argument and a comma
    pub filter_comma : (next : Applied) (there : List Lexeme) (comma : Span) → Goes Comma comma here there → next.name ≡ applied.name → next.values.items ≡ values → FilterTreeTo s whole receiver next from there
    filter_comma next there comma c name is =
        let h = given.around in
        let F : List Base → Type 0 = λ bs. ArgsTo s bs h.inside there in
        let G : AstIdent → Type 0 = λ x. GoesName s (ident_of x) h.name h.colon in
        record {
          start = h.start;
          begins = h.begins;
          mid = h.mid;
          part = h.part;
          name = h.name;
          colon = h.colon;
          inside = h.inside;
          bar = h.bar;
          named = subst G (sym name) h.named;
          opens = h.opens;
          reads = subst F (sym (bases-grown applied.values.items next.values.items argument (is ∙ more))) (args_comma s (map base_tree applied.values.items) (base_tree argument) h.inside given.mid here there comma h.reads given.read c);
        }

    -- the last argument
    pub filter_applied : (made : Expr) (at place : Span) → No Comma here → at ≡ record { m = receiver.colon.m; n = (base_span (base_tree argument)).n } → place ≡ record { m = (expression_span (expression_tree receiver.expr)).m; n = (base_span (base_tree argument)).n } → expression_tree made ≡ filtered (expression_tree receiver.expr) (ident_of applied.name) (arguments (bases_tree values) at) place → ReadsPart s (expression_tree made) given.around.start here
    filter_applied made at place none args_at at_place is =
        let h = given.around in
        let name = ident_of applied.name in
        let bases = bases_before (map base_tree applied.values.items ++ base_tree argument ∷ []) no_bases in
        let args = arguments bases at in
        let end = grown_end applied.values.items argument in
        let e : expression_tree made ≡ filtered (expression_tree receiver.expr) name args place =
        is ∙ ap (λ (bs : Bases). filtered (expression_tree receiver.expr) name (arguments bs at) place) (grown_bases applied.values.items values argument more) in
        let ends : at ≡ record { m = receiver.colon.m; n = last_end 0 bases } = args_at ∙ ap (λ (n : ℕ). record { m = receiver.colon.m; n = n }) end in
        let ends_place : place ≡ record { m = (expression_span (expression_tree receiver.expr)).m; n = filter_end name args } =
        at_place ∙ ap (λ (x : Span). record { m = (expression_span (expression_tree receiver.expr)).m; n = x.n }) (sym args_at) in
        let read = args_last s (map base_tree applied.values.items) (base_tree argument) h.inside given.mid here h.reads given.read none in
        let F : Expression → Type 0 = λ x. ReadsPart s x h.start here in
        subst F (sym e)
        (part_filtered s (expression_tree receiver.expr) name args place h.start h.mid h.name h.colon here h.part h.bar h.named (filter_args_read s bases at h.colon h.inside here receiver.colon h.opens read ends) ends_place)
