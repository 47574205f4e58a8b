-- The steps of a call, with its instructions.
use Rattle.std.proofs.Common.{◌≡◌, ℕ, ◌+◌, List, [], ◌∷◌, ◌++◌, Bool, refl, sym, ap, ◌∙◌, arith, append-nil}
use Rattle.upon_types.specs.declared.types.Span.{Span}
use Rattle.upon_types.specs.declared.types.token.Token.TheVariants.{Comma, OpenParen, CloseParen}
use Rattle.upon_types.specs.Path.{Ident}
use Rattle.upon_types.specs.AstPath.{ident_of}
use Rattle.upon_types.specs.Expression.{Bases, call, no_arguments, arguments, no_bases}
use Rattle.upon_machine_spec.specs.Instr.{Instr, apply}
use Rattle.upon_machine_spec.specs.Code.{base_code, bases_code, count_bases}
use Rattle.upon_language_spec.specs.Cut.{Lexeme}
use Rattle.upon_language_spec.specs.Tokens.{Goes, GoesBy, GoesName, from_to}
use Rattle.upon_language_spec.specs.Expressions.{last_end}
use Rattle.upon_language_spec.specs.Parts.{call_start}
use Rattle.upon_language_spec.specs.PartTails.{No}
use Rattle.upon_lexer.specs.declared.literal.Lexed.{Lexed}
use Rattle.upon_tag_parser.specs.declared.compile.parse.want.Want.{Want}
use Rattle.upon_tag_parser.specs.declared.compile.parse.want.Want.TheVariants.{CloseParen as WantCloseParen}
use Rattle.upon_tag_parser.specs.declared.compile.parse.brackets.Applied.{Applied}
use Rattle.upon_tag_parser.specs.declared.compile.parse.brackets.Open.TheVariants as opened
use Rattle.upon_tag_parser.specs.TagTokens.{lexemes_of}
use Rattle.upon_tag_parser.specs.Wants.{wanted_of}
use Rattle.upon_tag_parser.specs.TagParsing.{IsRefused}
use Rattle.upon_tag_parser.specs.PartReadings.{bases_before}
use Rattle.upon_tag_parser.specs.Brackets.{Place, CallTo, BaseRead, IsBaseGiven, StuckFrom, awaited}
use Rattle.upon_tag_parser.proofs.Stuck.{stuck_then}
use Rattle.upon_tag_parser.proofs.Calls.{args_start, args_comma, args_last, call_reads, empty_call_reads, call_stuck, count_bases-push, bases_code-push}
use Rattle.upon_tag_parser.proofs.Stack.{call_leads}
use Rattle.upon_tag_parser.proofs.Steps.Grown.{joined}

-- the name and the opening parenthesis
pub call_begun : (s : List ℕ) (applied : Applied) (before paren : List Lexeme) (here : Place) → applied.count ≡ 0 → GoesName s (ident_of applied.name) before paren → GoesBy OpenParen paren here.tokens → No CloseParen here.tokens → CallTo s applied (record { tokens = before; code = here.code }) here
call_begun s applied before paren here count named opens none = record {
  paren = paren;
  inside = here.tokens;
  named = named;
  opens = opens;
  not_closed = none;
  values = [];
  reads = args_start s here.tokens;
  number = count;
  code = sym (append-nil here.code);
}

-- and the closing one
pub call_empty : (s : List ℕ) (name : Ident) (before paren : List Lexeme) (here there : Place) (span closing : Span) → GoesName s name before paren → GoesBy OpenParen paren here.tokens → Goes CloseParen closing here.tokens there.tokens → span ≡ from_to name.span closing → there.code ≡ here.code ++ apply name 0 span ∷ [] → BaseRead s span (record { tokens = before; code = here.code }) there
call_empty s name before paren here there span closing named opens closes is code = record {
  tree = call name no_arguments span;
  reads = empty_call_reads s name span before paren here.tokens there.tokens closing closes is named opens;
  code = code;
  is_at = refl;
}

module _ (s : List ℕ) (applied : Applied) (whole : Bool) (span : Span) (from here : Place) (given : IsBaseGiven s whole (opened.Call applied) span from here) where
  -- the arguments so far
  abbrev bases : Bases
  bases = bases_before (given.around.values ++ given.read.tree ∷ []) no_bases

  counted : (n : ℕ) → n ≡ applied.count + 1 → n ≡ count_bases bases
  counted n e = omega (arith, e, given.around.number, count_bases-push given.around.values given.read.tree)

  coded : here.code ≡ from.code ++ bases_code bases
  coded =
      joined (bases_code (bases_before given.around.values no_bases)) (base_code given.read.tree) from.code given.mid.code here.code given.around.code given.read.code
      ∙ ap (λ c. from.code ++ c) (sym (bases_code-push given.around.values given.read.tree))

  -- an argument and a comma
  pub argument_comma : (next : Applied) (there : Place) (comma : Span) → Goes Comma comma here.tokens there.tokens → next.name ≡ applied.name → next.count ≡ applied.count + 1 → there.code ≡ here.code → CallTo s next from there
  argument_comma next there comma c name count code = record {
    paren = given.around.paren;
    inside = given.around.inside;
    named = rw name given.around.named;
    opens = given.around.opens;
    not_closed = given.around.not_closed;
    values = given.around.values ++ given.read.tree ∷ [];
    reads = args_comma s given.around.values given.read.tree given.around.inside given.mid.tokens here.tokens there.tokens comma given.around.reads given.read.reads c;
    number = counted next.count count;
    code = code ∙ coded;
  }

  -- an argument and the closing parenthesis
  pub argument_closes : (there : Place) (n : ℕ) (place closing : Span) → No Comma here.tokens → Goes CloseParen closing here.tokens there.tokens → n ≡ applied.count + 1 → place ≡ from_to applied.name.span closing → there.code ≡ here.code ++ apply (ident_of applied.name) n place ∷ [] → BaseRead s place from there
  argument_closes there n place closing none closes count is code =
      let h = given.around in
      let name = ident_of applied.name in
      let args : Span = record { m = name.span.m; n = last_end 0 bases } in
      record {
        tree = call name (arguments bases args) place;
        reads = call_reads s name bases args place from.tokens h.paren h.inside here.tokens there.tokens closing (args_last s h.values given.read.tree h.inside given.mid.tokens here.tokens h.reads given.read.reads none) closes refl is h.named h.opens;
        code = joined (bases_code bases) (apply name (count_bases bases) place ∷ []) from.code here.code there.code coded (code ∙ ap (λ k. here.code ++ apply name k place ∷ []) (counted n count));
        is_at = refl;
      }

-- neither a comma nor the closing parenthesis after an argument
pub argument_stuck : (s : List ℕ) (applied : Applied) (whole : Bool) (span : Span) (from : Place) (code : List Instr) (tokens left : List Lexed) (want : Want) → IsBaseGiven s whole (opened.Call applied) span from (record { tokens = lexemes_of tokens; code = code }) → No Comma (lexemes_of tokens) → IsRefused CloseParen WantCloseParen tokens want left → StuckFrom s whole from.tokens want left
argument_stuck s applied whole span from code tokens left want given none refused a ps starts =
    let h = given.around in
    let others = awaited whole ps in
    let all = bases_before (h.values ++ given.read.tree ∷ []) no_bases in
    stuck_then s a (call_start ∷ others) from.tokens h.inside (lexemes_of left) (wanted_of want) (call_leads s applied from given.mid h a others starts)
    (call_stuck s all h.inside tokens left want (args_last s h.values given.read.tree h.inside given.mid.tokens (lexemes_of tokens) h.reads given.read.reads none) refused others)
