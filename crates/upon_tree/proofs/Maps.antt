-- The steps of a map.
use Rattle.std.proofs.Common.{◌≡◌, ℕ, List, [], ◌∷◌, ◌++◌, map, Bool, sym, ap, ◌∙◌, subst}
use Rattle.upon_types.specs.declared.types.Span.{Span}
use Rattle.upon_types.specs.declared.types.token.Token.TheVariants.{Comma, OpenBrace, CloseBrace}
use Rattle.upon_types.specs.declared.types.ast.expression.String.{String as Quoted}
use Rattle.upon_types.specs.Path.{Ident}
use Rattle.upon_types.specs.AstPath.{string_of}
use Rattle.upon_types.specs.Expression.{Base, Items as Entries', no_items, mapping}
use Rattle.upon_language_spec.specs.Cut.{Lexeme}
use Rattle.upon_language_spec.specs.Tokens.{Goes, from_to}
use Rattle.upon_language_spec.specs.Parts.{Part, map_start}
use Rattle.upon_language_spec.specs.PartTails.{No}
use Rattle.upon_language_spec.proofs.Wanted.ExpressionsLead.{leads_then, leads_token}
use Rattle.upon_lexer.specs.declared.literal.Lexed.{Lexed}
use Rattle.upon_tag_parser.specs.declared.compile.parse.want.Want.{Want}
use Rattle.upon_tag_parser.specs.declared.compile.parse.want.Want.TheVariants.{CloseBrace as WantCloseBrace}
use Rattle.upon_tag_parser.specs.TagTokens.{lexemes_of}
use Rattle.upon_tag_parser.specs.Wants.{wanted_of}
use Rattle.upon_tag_parser.specs.TagParsing.{IsRefused, ReadsBase, StuckAt}
use Rattle.upon_tag_parser.specs.PartReadings.{entries_before, EntriesTo}
use Rattle.upon_tag_parser.proofs.Stuck.{stuck_then}
use Rattle.upon_tag_parser.proofs.Maps.{ReadsItem, entries_start, entries_comma, map_closed, map_last, map_stuck}
use Rattle.upon_tree.specs.AstExpression.{base_tree, items_tree}
use Rattle.upon_tree.specs.declared.ast.expression.BaseExpr.{BaseExpr}
use Rattle.upon_tree.specs.declared.opened.Entries.{Entries}
use Rattle.upon_tree.specs.declared.opened.Open.TheVariants as opened
use Rattle.upon_tag_parser.specs.Brackets.{StuckFrom, awaited}
use Rattle.upon_tree.specs.Opened.{entry_of, MapTreeTo, IsBaseTreeGiven}
use Rattle.upon_tree.proofs.Views.{items_tree-before, entries-grown}

module _ (s : List ℕ) where
  -- the opening brace
  pub map_begun : (read : Entries) (from to : List Lexeme) → Goes OpenBrace read.opening from to → read.entries.items ≡ [] → MapTreeTo s read from to
  map_begun read from to opens none =
      let F : List (Quoted × BaseExpr) → Type 0 = λ es. EntriesTo s (map entry_of es) to to in
      record { inside = to; opens = opens; reads = subst F (sym none) (entries_start s to) }

  -- the closing brace, where an entry may start
  pub map_closes : (read : Entries) (b : BaseExpr) (from here there : List Lexeme) (closing : Span) → MapTreeTo s read from here → Goes CloseBrace closing here there → base_tree b ≡ mapping (items_tree read.entries.items) (from_to read.opening closing) → ReadsBase s (base_tree b) from there
  map_closes read b from here there closing h closes is =
      let span = from_to read.opening closing in
      let F : Base → Type 0 = λ x. ReadsBase s x from there in
      subst F (sym (is ∙ ap (λ (es : Entries'). mapping es span) (items_tree-before read.entries.items)))
      (map_closed s (map entry_of read.entries.items) from h.inside here there read.opening closing h.reads closes h.opens)

  -- where the tokens are stuck at an entry's start
  pub map_around_stuck : (read : Entries) (whole : Bool) (from here : List Lexeme) (want : Want) (left : List Lexed) → MapTreeTo s read from here → ((ps : List Part) → StuckAt s (map_start ∷ ps) here (lexemes_of left) (wanted_of want)) → StuckFrom s whole from want left
  map_around_stuck read whole from here want left h f a ps starts =
      let others = awaited whole ps in
      stuck_then s a (map_start ∷ others) from here (lexemes_of left) (wanted_of want) (leads_then s (leads_token s (read.opening, h.opens) (λ k. starts.takes OpenBrace k)) (h.reads.leads others)) (f others)

  module _ (read next : Entries) (key : Quoted) (value : BaseExpr) (whole : Bool) (from here : List Lexeme) (given : IsBaseTreeGiven s whole (opened.Map read key) value from here) where
    -- the entry that was read
    pub entry : ReadsItem s (string_of key) (base_tree value) given.around.mid here
    entry = record { colon = given.around.colon; start = given.mid; reads_key = given.around.reads_key; reads_colon = given.around.reads_colon; reads_value = given.read }

    module _ (same : next.opening ≡ read.opening) (more : next.entries.items ≡ read.entries.items ++ (key, value) ∷ []) where
      -- an entry and a comma
      pub entry_comma : (there : List Lexeme) (comma : Span) → Goes Comma comma here there → MapTreeTo s next from there
      entry_comma there comma c =
          let h = given.around.before in
          let F : List (Ident × Base) → Type 0 = λ es. EntriesTo s es h.inside there in
          let G : Span → Type 0 = λ x. Goes OpenBrace x from h.inside in
          record {
            inside = h.inside;
            opens = subst G (sym same) h.opens;
            reads = subst F (sym (entries-grown read.entries.items next.entries.items (key, value) more)) (entries_comma s (map entry_of read.entries.items) (string_of key) (base_tree value) h.inside given.around.mid here there comma h.reads entry c);
          }

      -- an entry and the closing brace
      pub entry_closes : (b : BaseExpr) (there : List Lexeme) (closing : Span) → Goes CloseBrace closing here there → base_tree b ≡ mapping (items_tree next.entries.items) (from_to next.opening closing) → ReadsBase s (base_tree b) from there
      entry_closes b there closing closes is =
          let h = given.around.before in
          let all = map entry_of read.entries.items ++ (string_of key, base_tree value) ∷ [] in
          let F : Base → Type 0 = λ x. ReadsBase s x from there in
          let denotes : items_tree next.entries.items ≡ entries_before all no_items =
          items_tree-before next.entries.items ∙ ap (λ (es : List (Ident × Base)). entries_before es no_items) (entries-grown read.entries.items next.entries.items (key, value) more) in
          let e = is ∙ ap (λ (es : Entries'). mapping es (from_to next.opening closing)) denotes ∙ ap (λ (x : Span). mapping (entries_before all no_items) (from_to x closing)) same in
          subst F (sym e)
          (map_last s (map entry_of read.entries.items) (string_of key) (base_tree value) from h.inside given.around.mid here there read.opening closing h.reads entry closes h.opens)

-- neither a comma nor the closing brace after an entry
pub entry_stuck : (s : List ℕ) (read : Entries) (key : Quoted) (value : BaseExpr) (whole : Bool) (from : List Lexeme) (tokens left : List Lexed) (want : Want) → IsBaseTreeGiven s whole (opened.Map read key) value from (lexemes_of tokens) → No Comma (lexemes_of tokens) → IsRefused CloseBrace WantCloseBrace tokens want left → StuckFrom s whole from want left
entry_stuck s read key value whole from tokens left want given none refused a ps starts =
    let h = given.around.before in
    let others = awaited whole ps in
    stuck_then s a (map_start ∷ others) from h.inside (lexemes_of left) (wanted_of want) (leads_token s (read.opening, h.opens) (λ k. starts.takes OpenBrace k))
    (map_stuck s (map entry_of read.entries.items) (string_of key) (base_tree value) h.inside given.around.mid tokens left want h.reads (entry s read read key value whole from (lexemes_of tokens) given) none refused others)
