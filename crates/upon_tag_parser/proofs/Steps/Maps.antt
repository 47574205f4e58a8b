-- The steps of a map, with its instructions.
use Rattle.std.proofs.Common.{◌≡◌, ℕ, List, [], ◌∷◌, ◌++◌, length, Bool, ◌∙◌}
use Rattle.std.specs.Prelude.{slice_set}
use Rattle.upon_types.specs.declared.types.Span.{Span}
use Rattle.upon_types.specs.declared.types.token.Token.TheVariants.{Comma, OpenBrace, CloseBrace}
use Rattle.upon_types.specs.declared.types.ast.expression.String.{String as Quoted}
use Rattle.upon_types.specs.AstPath.{string_of}
use Rattle.upon_types.specs.Expression.{mapping, no_items}
use Rattle.upon_machine_spec.specs.Instr.{Instr, expr_start_map, expr_map_insert}
use Rattle.upon_machine_spec.specs.Code.{base_code, map_code}
use Rattle.upon_language_spec.specs.Tokens.{Goes, from_to}
use Rattle.upon_language_spec.specs.Parts.{Part, map_start}
use Rattle.upon_language_spec.specs.PartTails.{No}
use Rattle.upon_language_spec.proofs.Wanted.ExpressionsLead.{leads_then, leads_token}
use Rattle.upon_lexer.specs.declared.literal.Lexed.{Lexed}
use Rattle.upon_tag_parser.specs.declared.compile.parse.want.Want.{Want}
use Rattle.upon_tag_parser.specs.declared.compile.parse.want.Want.TheVariants.{CloseBrace as WantCloseBrace}
use Rattle.upon_tag_parser.specs.declared.compile.parse.brackets.Beginning.{Beginning}
use Rattle.upon_tag_parser.specs.declared.compile.parse.brackets.Open.TheVariants as opened
use Rattle.upon_tag_parser.specs.TagTokens.{lexemes_of}
use Rattle.upon_tag_parser.specs.Wants.{wanted_of}
use Rattle.upon_tag_parser.specs.TagParsing.{IsRefused, StuckAt}
use Rattle.upon_tag_parser.specs.PartReadings.{entries_before}
use Rattle.upon_tag_parser.specs.Brackets.{Place, MapTo, BaseRead, IsBaseGiven, StuckFrom, awaited}
use Rattle.upon_tag_parser.proofs.Stuck.{stuck_then}
use Rattle.upon_tag_parser.proofs.Maps.{ReadsItem, entries_start, entries_comma, map_closed, map_last, map_stuck, map_code-push}
use Rattle.upon_tag_parser.proofs.Steps.Grown.{replaced, grown}

module _ (s : List ℕ) (start : Beginning) where
  -- the opening brace
  pub map_begun : (from to : Place) → Goes OpenBrace start.opening from.tokens to.tokens → start.at ≡ length from.code → to.code ≡ from.code ++ expr_start_map start.opening ∷ [] → MapTo s start from to
  map_begun from to opens number code = record { inside = to.tokens; opens = opens; entries = []; reads = entries_start s to.tokens; number = number; span = start.opening; code = code }

  -- the closing brace, where an entry may start
  pub map_closes : (from here there : Place) (closing place : Span) → MapTo s start from here → Goes CloseBrace closing here.tokens there.tokens → there.code ≡ slice_set here.code start.at (expr_start_map (from_to start.opening closing)) → place ≡ from_to start.opening closing → BaseRead s place from there
  map_closes from here there closing place h closes set is =
      let span = from_to start.opening closing in
      let items = entries_before h.entries no_items in
      record {
        tree = mapping items span;
        reads = map_closed s h.entries from.tokens h.inside here.tokens there.tokens start.opening closing h.reads closes h.opens;
        code = replaced from.code (map_code items) here.code there.code start.at (expr_start_map h.span) (expr_start_map span) h.code h.number set;
        is_at = is;
      }

  -- where the tokens are stuck at an entry's start
  pub map_around_stuck : (whole : Bool) (from here : Place) (want : Want) (left : List Lexed) → MapTo s start from here → ((ps : List Part) → StuckAt s (map_start ∷ ps) here.tokens (lexemes_of left) (wanted_of want)) → StuckFrom s whole from.tokens want left
  map_around_stuck whole from here want left h f a ps starts =
      let others = awaited whole ps in
      stuck_then s a (map_start ∷ others) from.tokens here.tokens (lexemes_of left) (wanted_of want) (leads_then s (leads_token s (start.opening, h.opens) (λ k. starts.takes OpenBrace k)) (h.reads.leads others)) (f others)

  module _ (key : Quoted) (whole : Bool) (span : Span) (from here : Place) (given : IsBaseGiven s whole (opened.Map start key) span from here) where
    -- the entry that was read
    entry : ReadsItem s (string_of key) given.read.tree given.around.mid.tokens here.tokens
    entry = record { colon = given.around.colon; start = given.mid.tokens; reads_key = given.around.reads_key; reads_colon = given.around.reads_colon; reads_value = given.read.reads }

    grows : (pushed : List Instr) → pushed ≡ here.code ++ expr_map_insert (string_of key) ∷ [] → pushed ≡ from.code ++ expr_start_map given.around.before.span ∷ map_code (entries_before (given.around.before.entries ++ (string_of key, given.read.tree) ∷ []) no_items)
    grows pushed code =
        let h = given.around.before in
        grown from.code given.mid.code here.code pushed (expr_start_map h.span) (map_code (entries_before h.entries no_items)) (base_code given.read.tree) (map_code (entries_before (h.entries ++ (string_of key, given.read.tree) ∷ []) no_items)) (expr_map_insert (string_of key)) (given.around.code ∙ h.code) given.read.code code (map_code-push h.entries (string_of key) given.read.tree)

    -- an entry and a comma
    pub entry_comma : (there : Place) (comma : Span) → Goes Comma comma here.tokens there.tokens → there.code ≡ here.code ++ expr_map_insert (string_of key) ∷ [] → MapTo s start from there
    entry_comma there comma c code =
        let h = given.around.before in
        record {
          inside = h.inside;
          opens = h.opens;
          entries = h.entries ++ (string_of key, given.read.tree) ∷ [];
          reads = entries_comma s h.entries (string_of key) given.read.tree h.inside given.around.mid.tokens here.tokens there.tokens comma h.reads entry c;
          number = h.number;
          span = h.span;
          code = grows there.code code;
        }

    -- an entry and the closing brace
    pub entry_closes : (there : Place) (pushed : List Instr) (closing place : Span) → Goes CloseBrace closing here.tokens there.tokens → pushed ≡ here.code ++ expr_map_insert (string_of key) ∷ [] → there.code ≡ slice_set pushed start.at (expr_start_map (from_to start.opening closing)) → place ≡ from_to start.opening closing → BaseRead s place from there
    entry_closes there pushed closing place closes code set is =
        let h = given.around.before in
        let span = from_to start.opening closing in
        let items = entries_before (h.entries ++ (string_of key, given.read.tree) ∷ []) no_items in
        record {
          tree = mapping items span;
          reads = map_last s h.entries (string_of key) given.read.tree from.tokens h.inside given.around.mid.tokens here.tokens there.tokens start.opening closing h.reads entry closes h.opens;
          code = replaced from.code (map_code items) pushed there.code start.at (expr_start_map h.span) (expr_start_map span) (grows pushed code) h.number set;
          is_at = is;
        }

-- neither a comma nor the closing brace after an entry
pub entry_stuck : (s : List ℕ) (start : Beginning) (key : Quoted) (whole : Bool) (span : Span) (from : Place) (code : List Instr) (tokens left : List Lexed) (want : Want) → IsBaseGiven s whole (opened.Map start key) span from (record { tokens = lexemes_of tokens; code = code }) → No Comma (lexemes_of tokens) → IsRefused CloseBrace WantCloseBrace tokens want left → StuckFrom s whole from.tokens want left
entry_stuck s start key whole span from code tokens left want given none refused a ps starts =
    let h = given.around.before in
    let others = awaited whole ps in
    let here : Place = record { tokens = lexemes_of tokens; code = code } in
    stuck_then s a (map_start ∷ others) from.tokens h.inside (lexemes_of left) (wanted_of want) (leads_token s (start.opening, h.opens) (λ k. starts.takes OpenBrace k))
    (map_stuck s h.entries (string_of key) given.read.tree h.inside given.around.mid.tokens tokens left want h.reads (entry s start key whole span from here given) none refused others)
