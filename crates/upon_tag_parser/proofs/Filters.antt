-- Expressions with their filters.
use Rattle.std.proofs.Common.{◌≡◌, ℕ, List, [], ◌∷◌, ◌++◌, None, refl, sym, subst}
use Rattle.upon_types.specs.declared.types.Span.{Span}
use Rattle.upon_types.specs.declared.types.token.Token.{Token}
use Rattle.upon_types.specs.declared.types.token.Token.TheVariants.{Pipe, Colon, OpenParen, CloseParen, Ident as Identifier}
use Rattle.upon_types.specs.Path.{Ident}
use Rattle.upon_types.specs.Expression.{Base, Bases, Expression, base, filtered, paren, Arguments, no_arguments, arguments, expression_span}
use Rattle.upon_language_spec.specs.Cut.{Lexeme}
use Rattle.upon_language_spec.specs.Tokens.{Goes, GoesBy, GoesName, from_to}
use Rattle.upon_language_spec.specs.Expressions.{IsFilterArgs, last_end, filter_end}
use Rattle.upon_language_spec.specs.Keys.{Key, keyword_of}
use Rattle.upon_language_spec.specs.Tags.{symbol_of}
use Rattle.upon_language_spec.specs.Parts.{Part, a_base, filters, filter_name, after_filter, more_args, close_paren, after}
use Rattle.upon_language_spec.specs.PartTails.{No, no_tail, TakesBase}
use Rattle.upon_language_spec.specs.PartLeads.{Leads}
use Rattle.upon_language_spec.specs.OpenParts.{Ending, base_ending, name_ending, args_ending, ending_parts}
use Rattle.upon_language_spec.proofs.Wanted.ExpressionsLead.{leads_then, leads_nowhere, leads_token, by_ending, base_takes}
use Rattle.upon_language_spec.proofs.Wanted.TagsLead.{tail_joins}
use Rattle.upon_lexer.specs.declared.literal.Lexed.{Lexed}
use Rattle.upon_tag_parser.specs.declared.compile.parse.want.Want.{Want}
use Rattle.upon_tag_parser.specs.declared.compile.parse.want.Want.TheVariants.{Name as WantName, CloseParen as WantCloseParen}
use Rattle.upon_tag_parser.specs.TagTokens.{lexemes_of}
use Rattle.upon_tag_parser.specs.Wants.{wanted_of}
use Rattle.upon_tag_parser.specs.TagParsing.{Refuses, StuckAt, IsRefused, QuietEnding, ReadsBase, ReadsPart, ReadsExpression, TakesComma}
use Rattle.upon_tag_parser.proofs.Stuck.{is_not, stuck_then, refused_here}
use Rattle.upon_tag_parser.proofs.Calls.{ReadsArgs}
use Rattle.upon_tag_parser.proofs.Endings.{ending_refuses, ending_wants}

-- the arguments of a filter were read, and what is next does not go on with them
pub record ReadsFilterArgs (s : List ℕ) (args : Arguments) (ts rest : List Lexeme) : Type 0 where
  pub reads : IsFilterArgs s args ts rest
  pub ending : Ending
  pub leads : (parts : List Part)
      → Leads s (after_filter ∷ filters ∷ parts) ts (ending_parts ending ++ filters ∷ parts) rest
  pub quiet : QuietEnding ending rest

pub more_takes : (ps : List Part) → TakesComma (more_args ∷ ps)
more_takes ps k = refl

module _ (s : List ℕ) where
  -- an expression without a filter
  pub part_base : (b : Base) (e : Expression) (ts us : List Lexeme) → e ≡ base b → ReadsBase s b ts us → ReadsPart s e ts us
  part_base b e ts us same g =
      let F : Expression → Type 0 = λ x. ReadsPart s x ts us in
      subst F (sym same) (record { reads = g.reads; ending = base_ending g.tail; leads = λ from ps takes. g.leads from (filters ∷ ps) takes; quiet = g.quiet })

  -- an expression, a bar, a name and arguments
  pub part_filtered : (e : Expression) (name : Ident) (args : Arguments) (span : Span) (ts before start mid us : List Lexeme) → ReadsPart s e ts before → GoesBy Pipe before start → GoesName s name start mid → ReadsFilterArgs s args mid us → span ≡ record { m = (expression_span e).m; n = filter_end name args } → ReadsPart s (filtered e name args span) ts us
  part_filtered e name args span ts before start mid us x bar named given same = record {
    reads = (before, start, mid, x.reads, bar, named, given.reads, same);
    ending = given.ending;
    leads = λ from ps takes. leads_then s (x.leads from ps takes) (leads_then s (by_ending s x.ending (filters ∷ ps) bar refl (λ k. refl))
        (leads_then s (leads_token s {a = filter_name ∷ filters ∷ ps} (name.span, named.0) (λ k. refl)) (given.leads ps)));
    quiet = given.quiet;
  }

  -- no arguments
  pub no_filter_args : (ts : List Lexeme) → No Colon ts → ReadsFilterArgs s no_arguments ts ts
  no_filter_args ts none = record { reads = refl; ending = name_ending; leads = λ ps. leads_nowhere s (after_filter ∷ filters ∷ ps) ts ts refl; quiet = none }

  -- a colon and arguments
  pub filter_args_read : (bases : Bases) (place : Span) (ts us vs : List Lexeme) (colon : Span) → Goes Colon colon ts us → ReadsArgs s bases us vs → place ≡ record { m = colon.m; n = last_end 0 bases } → ReadsFilterArgs s (arguments bases place) ts vs
  filter_args_read bases place ts us vs colon g x same = record {
    reads = (colon, us, g, x.reads, same);
    ending = args_ending x.tail;
    leads = λ ps.
        let F : List Part → Type 0 = λ y. Leads s (after_filter ∷ filters ∷ ps) ts y vs in
        let others = filters ∷ ps in
        subst F (tail_joins x.tail others) (leads_then s (leads_token s (colon, g) (λ k. refl)) (x.leads (a_base ∷ more_args ∷ others) (more_args ∷ others) (base_takes (more_args ∷ others)) (more_takes others)));
    quiet = (x.quiet, x.no_more);
  }

  -- no name after a bar
  name_refused : (ps : List Part) (ts : List Lexeme) → No Identifier ts → Refuses s (filter_name ∷ ps) ts
  name_refused ps [] a = λ k. (refl, refl)
  name_refused ps (l ∷ ls) a = none l.token (keyword_of (symbol_of s l).word) (is_not Identifier l ls a)
    where
      none : (t : Token) (k : Key) → (t ≡ Identifier → ⊥) → after (filter_name ∷ ps) t k ≡ None
      none Identifier k h = absurd (h refl)
      none t k h = refl

  pub filter_name_stuck : (tokens left : List Lexed) (want : Want) → IsRefused Identifier WantName tokens want left → (ps : List Part) → StuckAt s (filter_name ∷ filters ∷ ps) (lexemes_of tokens) (lexemes_of left) (wanted_of want)
  filter_name_stuck tokens left want r ps = refused_here s (filter_name ∷ filters ∷ ps) Identifier WantName tokens want left r (name_refused (filters ∷ ps) (lexemes_of tokens) r.none) refl

  -- a bar after what was read of an expression
  pub bar_leads : (e : Expression) (ts us vs : List Lexeme) → ReadsPart s e ts us → GoesBy Pipe us vs → (from ps : List Part) → TakesBase from (filters ∷ ps) → Leads s from ts (filter_name ∷ filters ∷ ps) vs
  bar_leads e ts us vs x bar from ps takes = leads_then s (x.leads from ps takes) (by_ending s x.ending (filters ∷ ps) bar refl (λ k. refl))

  -- a name and a colon after a bar
  pub colon_leads : (name : Ident) (ts us vs : List Lexeme) → GoesName s name ts us → GoesBy Colon us vs → (ps : List Part) → Leads s (filter_name ∷ filters ∷ ps) ts (a_base ∷ more_args ∷ filters ∷ ps) vs
  colon_leads name ts us vs g colon ps = leads_then s (leads_token s {a = filter_name ∷ filters ∷ ps} (name.span, g.0) (λ k. refl)) (leads_token s {a = after_filter ∷ filters ∷ ps} colon (λ k. refl))

-- ---- parentheses
close_refuses : (ps : List Part) (t : Token) (k : Key) → (t ≡ Pipe → ⊥) → (t ≡ CloseParen → ⊥) → after (filters ∷ close_paren ∷ ps) t k ≡ None
close_refuses ps Pipe k a b = absurd (a refl)
close_refuses ps CloseParen k a b = absurd (b refl)
close_refuses ps t k a b = refl

module _ (s : List ℕ) where
  close_refused : (ps : List Part) (ts : List Lexeme) → No Pipe ts → No CloseParen ts → Refuses s (filters ∷ close_paren ∷ ps) ts
  close_refused ps [] a b = λ k. (refl, refl)
  close_refused ps (l ∷ ls) a b = close_refuses ps l.token (keyword_of (symbol_of s l).word) (is_not Pipe l ls a) (is_not CloseParen l ls b)

  -- from the opening parenthesis on
  abbrev pub inside : List Part → List Part
  inside ps = a_base ∷ filters ∷ close_paren ∷ ps

  inside_leads : (e : Expression) (ts us : List Lexeme) (x : ReadsExpression s e ts us) (ps : List Part) → Leads s (inside ps) ts (ending_parts x.part.ending ++ filters ∷ close_paren ∷ ps) us
  inside_leads e ts us x ps = x.part.leads (inside ps) (close_paren ∷ ps) (base_takes (filters ∷ close_paren ∷ ps))

  pub paren_reads : (e : Expression) (before all mid rest : List Lexeme) (opening closing : Span) → ReadsExpression s e all mid → Goes CloseParen closing mid rest → Goes OpenParen opening before all → ReadsBase s (paren e (from_to opening closing)) before rest
  paren_reads e before all mid rest opening closing x c g = record {
    reads = (all, mid, (opening, g, refl), x.part.reads, (closing, c, refl));
    tail = no_tail;
    leads = λ from ps takes. leads_then s (leads_token s (opening, g) (λ k. takes OpenParen k))
        (leads_then s (inside_leads e all mid x ps) (by_ending s x.part.ending (filters ∷ close_paren ∷ ps) (closing, c) refl (λ k. refl)));
    quiet = tt;
  }

  -- no closing parenthesis
  pub paren_stuck : (e : Expression) (ts : List Lexeme) (tokens left : List Lexed) (want : Want) → ReadsExpression s e ts (lexemes_of tokens) → IsRefused CloseParen WantCloseParen tokens want left → (ps : List Part) → StuckAt s (inside ps) ts (lexemes_of left) (wanted_of want)
  paren_stuck e ts tokens left want x r ps =
      let others = filters ∷ close_paren ∷ ps in
      let parts = ending_parts x.part.ending ++ others in
      stuck_then s (inside ps) parts ts (lexemes_of tokens) (lexemes_of left) (wanted_of want) (inside_leads e ts (lexemes_of tokens) x ps)
      (refused_here s parts CloseParen WantCloseParen tokens want left r (ending_refuses s x.part.ending others (lexemes_of tokens) x.part.quiet (close_refused ps (lexemes_of tokens) x.no_more r.none)) (ending_wants x.part.ending others refl))
