-- The steps of a list.
use Rattle.std.proofs.Common.{◌≡◌, ℕ, List, [], ◌∷◌, ◌++◌, map, Bool, sym, ap, ◌∙◌, subst}
use Rattle.upon_types.specs.declared.types.Span.{Span}
use Rattle.upon_types.specs.declared.types.token.Token.TheVariants.{Comma, OpenBracket, CloseBracket}
use Rattle.upon_types.specs.Expression.{Base, Bases, no_bases, list}
use Rattle.upon_language_spec.specs.Cut.{Lexeme}
use Rattle.upon_language_spec.specs.Tokens.{Goes, from_to}
use Rattle.upon_language_spec.specs.Parts.{list_start}
use Rattle.upon_language_spec.specs.PartTails.{No}
use Rattle.upon_language_spec.proofs.Wanted.ExpressionsLead.{leads_token}
use Rattle.upon_lexer.specs.declared.literal.Lexed.{Lexed}
use Rattle.upon_tag_parser.specs.declared.compile.parse.want.Want.{Want}
use Rattle.upon_tag_parser.specs.declared.compile.parse.want.Want.TheVariants.{CloseBracket as WantCloseBracket}
use Rattle.upon_tag_parser.specs.TagTokens.{lexemes_of}
use Rattle.upon_tag_parser.specs.Wants.{wanted_of}
use Rattle.upon_tag_parser.specs.TagParsing.{IsRefused, ReadsBase}
use Rattle.upon_tag_parser.specs.PartReadings.{bases_before, ItemsTo}
use Rattle.upon_tag_parser.proofs.Stuck.{stuck_then}
use Rattle.upon_tag_parser.proofs.Lists.{items_start, items_comma, list_closed, list_last, list_stuck}
use Rattle.upon_tree.specs.AstExpression.{base_tree, bases_tree}
use Rattle.upon_tree.specs.declared.ast.expression.BaseExpr.{BaseExpr}
use Rattle.upon_tree.specs.declared.opened.Items.{Items}
use Rattle.upon_tree.specs.declared.opened.Open.TheVariants as opened
use Rattle.upon_tag_parser.specs.Brackets.{StuckFrom, awaited}
use Rattle.upon_tree.specs.Opened.{ListTreeTo, IsBaseTreeGiven}
use Rattle.upon_tree.proofs.Views.{bases_tree-before, bases-grown}

module _ (s : List ℕ) where
  -- the opening bracket
  pub list_begun : (read : Items) (from to : List Lexeme) → Goes OpenBracket read.opening from to → read.items.items ≡ [] → ListTreeTo s read from to
  list_begun read from to opens none =
      let F : List BaseExpr → Type 0 = λ bs. ItemsTo s (map base_tree bs) to to in
      record { inside = to; opens = opens; reads = subst F (sym none) (items_start s to) }

  -- the closing bracket, where an item may start
  pub list_closes : (read : Items) (b : BaseExpr) (from here there : List Lexeme) (closing : Span) → ListTreeTo s read from here → Goes CloseBracket closing here there → base_tree b ≡ list (bases_tree read.items.items) (from_to read.opening closing) → ReadsBase s (base_tree b) from there
  list_closes read b from here there closing h closes is =
      let span = from_to read.opening closing in
      let F : Base → Type 0 = λ x. ReadsBase s x from there in
      subst F (sym (is ∙ ap (λ (bs : Bases). list bs span) (bases_tree-before read.items.items)))
      (list_closed s (map base_tree read.items.items) from h.inside here there read.opening closing h.reads closes h.opens)

  module _ (read next : Items) (item : BaseExpr) (whole : Bool) (from here : List Lexeme) (given : IsBaseTreeGiven s whole (opened.List read) item from here) (same : next.opening ≡ read.opening) (more : next.items.items ≡ read.items.items ++ item ∷ []) where
    -- an item and a comma
    pub item_comma : (there : List Lexeme) (comma : Span) → Goes Comma comma here there → ListTreeTo s next from there
    item_comma there comma c =
        let h = given.around.0 in
        let F : List Base → Type 0 = λ bs. ItemsTo s bs h.inside there in
        let G : Span → Type 0 = λ x. Goes OpenBracket x from h.inside in
        record {
          inside = h.inside;
          opens = subst G (sym same) h.opens;
          reads = subst F (sym (bases-grown read.items.items next.items.items item more)) (items_comma s (map base_tree read.items.items) (base_tree item) h.inside given.mid here there comma h.reads given.read c);
        }

    -- an item and the closing bracket
    pub item_closes : (b : BaseExpr) (there : List Lexeme) (closing : Span) → Goes CloseBracket closing here there → base_tree b ≡ list (bases_tree next.items.items) (from_to next.opening closing) → ReadsBase s (base_tree b) from there
    item_closes b there closing closes is =
        let h = given.around.0 in
        let span = from_to read.opening closing in
        let F : Base → Type 0 = λ x. ReadsBase s x from there in
        let denotes : bases_tree next.items.items ≡ bases_before (map base_tree read.items.items ++ base_tree item ∷ []) no_bases =
        bases_tree-before next.items.items ∙ ap (λ (bs : List Base). bases_before bs no_bases) (bases-grown read.items.items next.items.items item more) in
        let e = is ∙ ap (λ (bs : Bases). list bs (from_to next.opening closing)) denotes ∙ ap (λ (x : Span). list (bases_before (map base_tree read.items.items ++ base_tree item ∷ []) no_bases) (from_to x closing)) same in
        subst F (sym e)
        (list_last s (map base_tree read.items.items) (base_tree item) from h.inside given.mid here there read.opening closing h.reads given.read closes h.opens)

-- neither a comma nor the closing bracket after an item
pub item_stuck : (s : List ℕ) (read : Items) (item : BaseExpr) (whole : Bool) (from : List Lexeme) (tokens left : List Lexed) (want : Want) → IsBaseTreeGiven s whole (opened.List read) item from (lexemes_of tokens) → No Comma (lexemes_of tokens) → IsRefused CloseBracket WantCloseBracket tokens want left → StuckFrom s whole from want left
item_stuck s read item whole from tokens left want given none refused a ps starts =
    let h = given.around.0 in
    let others = awaited whole ps in
    stuck_then s a (list_start ∷ others) from h.inside (lexemes_of left) (wanted_of want) (leads_token s (read.opening, h.opens) (λ k. starts.takes OpenBracket k))
    (list_stuck s (map base_tree read.items.items) (base_tree item) h.inside given.mid tokens left want h.reads given.read none refused others)
