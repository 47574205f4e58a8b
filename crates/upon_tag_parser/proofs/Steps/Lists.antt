-- The steps of a list, with its instructions.
use Rattle.std.proofs.Common.{◌≡◌, ℕ, List, [], ◌∷◌, ◌++◌, length, Bool}
use Rattle.std.specs.Prelude.{slice_set}
use Rattle.upon_types.specs.declared.types.Span.{Span}
use Rattle.upon_types.specs.declared.types.token.Token.TheVariants.{Comma, OpenBracket, CloseBracket}
use Rattle.upon_types.specs.Expression.{list, no_bases}
use Rattle.upon_machine_spec.specs.Instr.{Instr, expr_start_list, expr_list_push}
use Rattle.upon_machine_spec.specs.Code.{base_code, list_code}
use Rattle.upon_language_spec.specs.Tokens.{Goes, from_to}
use Rattle.upon_language_spec.specs.Parts.{list_start}
use Rattle.upon_language_spec.specs.PartTails.{No}
use Rattle.upon_language_spec.proofs.Wanted.ExpressionsLead.{leads_token}
use Rattle.upon_lexer.specs.declared.literal.Lexed.{Lexed}
use Rattle.upon_tag_parser.specs.declared.compile.parse.want.Want.{Want}
use Rattle.upon_tag_parser.specs.declared.compile.parse.want.Want.TheVariants.{CloseBracket as WantCloseBracket}
use Rattle.upon_tag_parser.specs.declared.compile.parse.brackets.Beginning.{Beginning}
use Rattle.upon_tag_parser.specs.declared.compile.parse.brackets.Open.TheVariants as opened
use Rattle.upon_tag_parser.specs.TagTokens.{lexemes_of}
use Rattle.upon_tag_parser.specs.Wants.{wanted_of}
use Rattle.upon_tag_parser.specs.TagParsing.{IsRefused}
use Rattle.upon_tag_parser.specs.PartReadings.{bases_before}
use Rattle.upon_tag_parser.specs.Brackets.{Place, ListTo, BaseRead, IsBaseGiven, StuckFrom, awaited}
use Rattle.upon_tag_parser.proofs.Stuck.{stuck_then}
use Rattle.upon_tag_parser.proofs.Lists.{items_start, items_comma, list_closed, list_last, list_stuck, list_code-push}
use Rattle.upon_tag_parser.proofs.Steps.Grown.{replaced, grown}

module _ (s : List ℕ) (start : Beginning) where
  -- the opening bracket
  pub list_begun : (from to : Place) → Goes OpenBracket start.opening from.tokens to.tokens → start.at ≡ length from.code → to.code ≡ from.code ++ expr_start_list start.opening ∷ [] → ListTo s start from to
  list_begun from to opens number code = record { inside = to.tokens; opens = opens; items = []; reads = items_start s to.tokens; number = number; span = start.opening; code = code }

  -- the closing bracket, where an item may start
  pub list_closes : (from here there : Place) (closing place : Span) → ListTo s start from here → Goes CloseBracket closing here.tokens there.tokens → there.code ≡ slice_set here.code start.at (expr_start_list (from_to start.opening closing)) → place ≡ from_to start.opening closing → BaseRead s place from there
  list_closes from here there closing place h closes set is =
      let span = from_to start.opening closing in
      let bases = bases_before h.items no_bases in
      record {
        tree = list bases span;
        reads = list_closed s h.items from.tokens h.inside here.tokens there.tokens start.opening closing h.reads closes h.opens;
        code = replaced from.code (list_code bases) here.code there.code start.at (expr_start_list h.span) (expr_start_list span) h.code h.number set;
        is_at = is;
      }

  module _ (whole : Bool) (span : Span) (from here : Place) (given : IsBaseGiven s whole (opened.List start) span from here) where
    grows : (pushed : List Instr) → pushed ≡ here.code ++ expr_list_push ∷ [] → pushed ≡ from.code ++ expr_start_list given.around.0.span ∷ list_code (bases_before (given.around.0.items ++ given.read.tree ∷ []) no_bases)
    grows pushed code =
        let h = given.around.0 in
        grown from.code given.mid.code here.code pushed (expr_start_list h.span) (list_code (bases_before h.items no_bases)) (base_code given.read.tree) (list_code (bases_before (h.items ++ given.read.tree ∷ []) no_bases)) expr_list_push h.code given.read.code code (list_code-push h.items given.read.tree)

    -- an item and a comma
    pub item_comma : (there : Place) (comma : Span) → Goes Comma comma here.tokens there.tokens → there.code ≡ here.code ++ expr_list_push ∷ [] → ListTo s start from there
    item_comma there comma c code =
        let h = given.around.0 in
        record {
          inside = h.inside;
          opens = h.opens;
          items = h.items ++ given.read.tree ∷ [];
          reads = items_comma s h.items given.read.tree h.inside given.mid.tokens here.tokens there.tokens comma h.reads given.read.reads c;
          number = h.number;
          span = h.span;
          code = grows there.code code;
        }

    -- an item and the closing bracket
    pub item_closes : (there : Place) (pushed : List Instr) (closing place : Span) → Goes CloseBracket closing here.tokens there.tokens → pushed ≡ here.code ++ expr_list_push ∷ [] → there.code ≡ slice_set pushed start.at (expr_start_list (from_to start.opening closing)) → place ≡ from_to start.opening closing → BaseRead s place from there
    item_closes there pushed closing place closes code set is =
        let h = given.around.0 in
        let span = from_to start.opening closing in
        let bases = bases_before (h.items ++ given.read.tree ∷ []) no_bases in
        record {
          tree = list bases span;
          reads = list_last s h.items given.read.tree from.tokens h.inside given.mid.tokens here.tokens there.tokens start.opening closing h.reads given.read.reads closes h.opens;
          code = replaced from.code (list_code bases) pushed there.code start.at (expr_start_list h.span) (expr_start_list span) (grows pushed code) h.number set;
          is_at = is;
        }

-- neither a comma nor the closing bracket after an item
pub item_stuck : (s : List ℕ) (start : Beginning) (whole : Bool) (span : Span) (from : Place) (code : List Instr) (tokens left : List Lexed) (want : Want) → IsBaseGiven s whole (opened.List start) span from (record { tokens = lexemes_of tokens; code = code }) → No Comma (lexemes_of tokens) → IsRefused CloseBracket WantCloseBracket tokens want left → StuckFrom s whole from.tokens want left
item_stuck s start whole span from code tokens left want given none refused a ps starts =
    let h = given.around.0 in
    let others = awaited whole ps in
    stuck_then s a (list_start ∷ others) from.tokens h.inside (lexemes_of left) (wanted_of want) (leads_token s (start.opening, h.opens) (λ k. starts.takes OpenBracket k))
    (list_stuck s h.items given.read.tree h.inside given.mid.tokens tokens left want h.reads given.read.reads none refused others)
