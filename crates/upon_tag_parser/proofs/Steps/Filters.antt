-- The steps of an expression with its filters, and of parentheses, with the instructions.
use Rattle.std.proofs.Common.{◌≡◌, ℕ, suc, ◌+◌, List, [], ◌∷◌, ◌++◌, Bool, true, Option, Some, None, refl, sym, ap, ◌∙◌, subst, arith, append-nil}
use Rattle.upon_types.specs.declared.types.Span.{Span}
use Rattle.upon_types.specs.declared.types.token.Token.TheVariants.{Comma, Pipe, Colon, OpenParen, CloseParen, Ident as Identifier}
use Rattle.upon_types.specs.Path.{Ident}
use Rattle.upon_types.specs.AstPath.{ident_of}
use Rattle.upon_types.specs.Expression.{Bases, base, filtered, paren, no_arguments, arguments, no_bases, expression_span}
use Rattle.upon_machine_spec.specs.Instr.{Instr, apply}
use Rattle.upon_machine_spec.specs.Code.{base_code, bases_code, expression_code, count_bases}
use Rattle.upon_language_spec.specs.Cut.{Lexeme}
use Rattle.upon_language_spec.specs.Tokens.{Goes, GoesBy, GoesName, from_to}
use Rattle.upon_language_spec.specs.Expressions.{last_end, filter_end}
use Rattle.upon_language_spec.specs.Parts.{filters, filter_name}
use Rattle.upon_language_spec.specs.PartTails.{No}
use Rattle.upon_language_spec.proofs.Wanted.ExpressionsLead.{leads_then, leads_token}
use Rattle.upon_lexer.specs.declared.literal.Lexed.{Lexed}
use Rattle.upon_tag_parser.specs.declared.compile.parse.want.Want.{Want}
use Rattle.upon_tag_parser.specs.declared.compile.parse.want.Want.TheVariants.{Name as WantName, CloseParen as WantCloseParen}
use Rattle.upon_tag_parser.specs.declared.compile.parse.brackets.Applied.{Applied}
use Rattle.upon_tag_parser.specs.declared.compile.parse.brackets.Receiver.{Receiver}
use Rattle.upon_tag_parser.specs.declared.compile.parse.brackets.Open.TheVariants as opened
use Rattle.upon_tag_parser.specs.TagTokens.{lexemes_of}
use Rattle.upon_tag_parser.specs.Wants.{wanted_of}
use Rattle.upon_tag_parser.specs.TagParsing.{IsRefused}
use Rattle.upon_tag_parser.specs.PartReadings.{bases_before}
use Rattle.upon_tag_parser.specs.Brackets.{Place, BaseRead, PartRead, ExpressionRead, PartStart, FilterTo, IsBaseGiven, StuckFrom, awaited}
use Rattle.upon_tag_parser.proofs.Stuck.{stuck_then}
use Rattle.upon_tag_parser.proofs.Bases.{span_is}
use Rattle.upon_tag_parser.proofs.Calls.{args_start, args_comma, args_last, last_end-push, count_bases-push, bases_code-push}
use Rattle.upon_tag_parser.proofs.Filters.{inside, part_base, part_filtered, no_filter_args, filter_args_read, bar_leads, filter_name_stuck, paren_reads, paren_stuck}
use Rattle.upon_tag_parser.proofs.Stack.{part_started}
use Rattle.upon_tag_parser.proofs.Steps.Grown.{joined, joined_three}

module _ (s : List ℕ) where
  -- ---- parts of an expression
  -- a Base is an expression so far
  pub part_of_base : (span : Span) (from to : Place) → BaseRead s span from to → PartRead s span from to
  part_of_base span from to h = record { tree = base h.tree; reads = part_base s h.tree (base h.tree) from.tokens to.tokens refl h.reads; code = h.code; is_at = h.is_at }

  -- a filter without arguments
  pub filter_alone : (start here there : Place) (span place : Span) (name : Ident) (mid : List Lexeme) → PartRead s span start here → GoesBy Pipe here.tokens mid → GoesName s name mid there.tokens → No Colon there.tokens → place ≡ record { m = span.m; n = name.span.n } → there.code ≡ here.code ++ apply name 1 place ∷ [] → PartRead s place start there
  filter_alone start here there span place name mid h bar named none is code = record {
    tree = filtered h.tree name no_arguments place;
    reads = part_filtered s h.tree name no_arguments place start.tokens here.tokens mid there.tokens there.tokens h.reads bar named (no_filter_args s there.tokens none) (is ∙ ap (λ (x : Span). record { m = x.m; n = name.span.n }) h.is_at);
    code = joined (expression_code h.tree) (apply name 1 place ∷ []) start.code here.code there.code h.code code;
    is_at = refl;
  }

  -- no name after a bar
  pub name_stuck : (whole : Bool) (opening : Option Span) (from start here : Place) (span : Span) (tokens left : List Lexed) (want : Want) → PartStart whole opening from start → PartRead s span start here → GoesBy Pipe here.tokens (lexemes_of tokens) → IsRefused Identifier WantName tokens want left → StuckFrom s whole from.tokens want left
  name_stuck whole opening from start here span tokens left want begins h bar refused a ps starts =
      let at = part_started s whole opening from start begins a ps starts in
      stuck_then s a (filter_name ∷ filters ∷ at.others) from.tokens (lexemes_of tokens) (lexemes_of left) (wanted_of want)
      (leads_then s at.leads (bar_leads s h.tree start.tokens here.tokens (lexemes_of tokens) h.reads bar at.to at.others at.starts.takes))
      (filter_name_stuck s tokens left want refused at.others)

  -- ---- the end of an expression
  pub part_ends : (span : Span) (from to : Place) → PartRead s span from to → No Pipe to.tokens → ExpressionRead s span from to
  part_ends span from to h none = record { tree = h.tree; reads = record { part = h.reads; no_more = none }; code = h.code; is_at = h.is_at }

  -- of the whole
  pub whole_ends : (whole : Bool) (from start here : Place) (span : Span) → PartStart whole None from start → ExpressionRead s span start here → (whole ≡ true) × ExpressionRead s span from here
  whole_ends whole from start here span (is, tokens, code) h =
      let F : List Lexeme → List Instr → Type 0 = λ ts c. ExpressionRead s span (record { tokens = ts; code = c }) here in
      (is, subst (λ (ts : List Lexeme). F ts from.code) tokens (subst (λ (c : List Instr). F start.tokens c) code h))

  -- of parentheses
  pub paren_closes : (whole : Bool) (opening closing span : Span) (from start here there : Place) → PartStart whole (Some opening) from start → ExpressionRead s span start here → Goes CloseParen closing here.tokens there.tokens → there.code ≡ here.code → BaseRead s (from_to opening closing) from there
  paren_closes whole opening closing span from start here there (opens, same) h closes code = record {
    tree = paren h.tree (from_to opening closing);
    reads = paren_reads s h.tree from.tokens start.tokens here.tokens there.tokens opening closing h.reads closes opens;
    code = code ∙ h.code ∙ ap (λ c. c ++ expression_code h.tree) same;
    is_at = refl;
  }

  -- no closing parenthesis
  pub paren_open_stuck : (whole : Bool) (opening span : Span) (from start : Place) (code : List Instr) (tokens left : List Lexed) (want : Want) → PartStart whole (Some opening) from start → ExpressionRead s span start (record { tokens = lexemes_of tokens; code = code }) → IsRefused CloseParen WantCloseParen tokens want left → StuckFrom s whole from.tokens want left
  paren_open_stuck whole opening span from start code tokens left want (opens, same) h refused a ps starts =
      let others = awaited whole ps in
      stuck_then s a (inside s others) from.tokens start.tokens (lexemes_of left) (wanted_of want) (leads_token s (opening, opens) (λ k. starts.takes OpenParen k))
      (paren_stuck s h.tree start.tokens tokens left want h.reads refused others)

  -- ---- filters with arguments
  -- the name and the colon
  pub filter_begun : (whole : Bool) (receiver : Receiver) (applied : Applied) (from start here there : Place) (span : Span) (name colon : List Lexeme) → PartStart whole receiver.opening from start → PartRead s span start here → receiver.start ≡ span.m → applied.count ≡ 0 → GoesBy Pipe here.tokens name → GoesName s (ident_of applied.name) name colon → GoesBy Colon colon there.tokens → there.code ≡ here.code → FilterTo s whole receiver applied from there
  filter_begun whole receiver applied from start here there span name colon begins part at count bar named opens code = record {
    start = start;
    begins = begins;
    mid = here;
    span = span;
    part = part;
    begins_at = at;
    name = name;
    colon = colon;
    inside = there.tokens;
    bar = bar;
    named = named;
    opens = opens;
    values = [];
    reads = args_start s there.tokens;
    number = count;
    code = code ∙ sym (append-nil here.code);
  }

module _ (s : List ℕ) (receiver : Receiver) (applied : Applied) (whole : Bool) (span : Span) (from here : Place) (given : IsBaseGiven s whole (opened.Filter receiver applied) span from here) where
  -- the arguments so far
  abbrev bases : Bases
  bases = bases_before (given.around.values ++ given.read.tree ∷ []) no_bases

  counted : (n : ℕ) → n ≡ applied.count + 1 → n ≡ count_bases bases
  counted n e = omega (arith, e, given.around.number, count_bases-push given.around.values given.read.tree)

  coded : here.code ≡ given.around.mid.code ++ bases_code bases
  coded =
      joined (bases_code (bases_before given.around.values no_bases)) (base_code given.read.tree) given.around.mid.code given.mid.code here.code given.around.code given.read.code
      ∙ ap (λ c. given.around.mid.code ++ c) (sym (bases_code-push given.around.values given.read.tree))

  -- an argument and a comma
  pub filter_comma : (next : Applied) (there : Place) (comma : Span) → Goes Comma comma here.tokens there.tokens → next.name ≡ applied.name → next.count ≡ applied.count + 1 → there.code ≡ here.code → FilterTo s whole receiver next from there
  filter_comma next there comma c name count code =
      let h = given.around in
      record {
        start = h.start;
        begins = h.begins;
        mid = h.mid;
        span = h.span;
        part = h.part;
        begins_at = h.begins_at;
        name = h.name;
        colon = h.colon;
        inside = h.inside;
        bar = h.bar;
        named = rw name h.named;
        opens = h.opens;
        values = h.values ++ given.read.tree ∷ [];
        reads = args_comma s h.values given.read.tree h.inside given.mid.tokens here.tokens there.tokens comma h.reads given.read.reads c;
        number = counted next.count count;
        code = code ∙ coded;
      }

  -- the last argument
  pub filter_applied : (there : Place) (n : ℕ) (place : Span) → No Comma here.tokens → there.tokens ≡ here.tokens → n ≡ applied.count + 1 + 1 → place ≡ record { m = receiver.start; n = span.n } → there.code ≡ here.code ++ apply (ident_of applied.name) n place ∷ [] → PartRead s place given.around.start there
  filter_applied there n place none tokens count is code =
      let h = given.around in
      let name = ident_of applied.name in
      let colon = h.opens.0 in
      let args_place : Span = record { m = colon.m; n = last_end 0 bases } in
      let args = arguments bases args_place in
      let ends : span.n ≡ last_end 0 bases = ap (λ (x : Span). x.n) given.read.is_at ∙ sym (last_end-push h.values given.read.tree 0) in
      let at : place ≡ record { m = (expression_span h.part.tree).m; n = filter_end name args } =
      is ∙ span_is (record { m = receiver.start; n = span.n }) (expression_span h.part.tree).m (last_end 0 bases) (h.begins_at ∙ ap (λ (x : Span). x.m) h.part.is_at) ends in
      let read = args_last s h.values given.read.tree h.inside given.mid.tokens here.tokens h.reads given.read.reads none in
      let G : List Lexeme → Type 0 = λ ts. PartRead s place h.start (record { tokens = ts; code = there.code }) in
      let more : n ≡ suc (count_bases bases) = omega (arith, count, given.around.number, count_bases-push given.around.values given.read.tree) in
      subst G (sym tokens) (record {
        tree = filtered h.part.tree name args place;
        reads = part_filtered s h.part.tree name args place h.start.tokens h.mid.tokens h.name h.colon here.tokens h.part.reads h.bar h.named (filter_args_read s bases args_place h.colon h.inside here.tokens colon h.opens.1 read refl) at;
        code = joined_three (expression_code h.part.tree) (bases_code bases) (apply name (suc (count_bases bases)) place ∷ []) h.start.code h.mid.code here.code there.code h.part.code coded (code ∙ ap (λ k. here.code ++ apply name k place ∷ []) more);
        is_at = refl;
      })
