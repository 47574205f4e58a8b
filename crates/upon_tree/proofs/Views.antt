-- What the parts of a tree in the code denote, with one more at their end.
use Rattle.std.proofs.Common.{◌≡◌, List, [], ◌∷◌, ◌++◌, map, refl, ap, ◌∙◌}
use Rattle.upon_types.specs.Path.{Ident}
use Rattle.upon_types.specs.Expression.{Base, no_bases, base_then, no_items, item_then}
use Rattle.upon_types.specs.declared.types.ast.expression.String.{String as Quoted}
use Rattle.upon_types.specs.AstPath.{string_of}
use Rattle.upon_tag_parser.specs.PartReadings.{bases_before, entries_before}
use Rattle.upon_tree.specs.AstExpression.{base_tree, bases_tree, items_tree}
use Rattle.upon_tree.specs.declared.ast.expression.BaseExpr.{BaseExpr}
use Rattle.upon_tree.specs.Opened.{entry_of}

-- expressions in a row, before none
pub bases_tree-before : (bs : List BaseExpr) → bases_tree bs ≡ bases_before (map base_tree bs) no_bases
bases_tree-before [] = refl
bases_tree-before (b ∷ bs) = ap (base_then (base_tree b)) (bases_tree-before bs)

-- entries in a row, before none
pub items_tree-before : (es : List (Quoted × BaseExpr)) → items_tree es ≡ entries_before (map entry_of es) no_items
items_tree-before [] = refl
items_tree-before (e ∷ es) = ap (item_then (string_of e.0) (base_tree e.1)) (items_tree-before es)

-- one expression more
pub bases-push : (bs : List BaseExpr) (b : BaseExpr) → map base_tree (bs ++ b ∷ []) ≡ map base_tree bs ++ base_tree b ∷ []
bases-push [] b = refl
bases-push (a ∷ bs) b = ap (λ (x : List Base). base_tree a ∷ x) (bases-push bs b)

-- one entry more
pub entries-push : (es : List (Quoted × BaseExpr)) (e : Quoted × BaseExpr) → map entry_of (es ++ e ∷ []) ≡ map entry_of es ++ entry_of e ∷ []
entries-push [] e = refl
entries-push (a ∷ es) e = ap (λ (x : List (Ident × Base)). entry_of a ∷ x) (entries-push es e)

-- one more of a row that was written
pub bases-grown : (old new : List BaseExpr) (b : BaseExpr) → new ≡ old ++ b ∷ [] → map base_tree new ≡ map base_tree old ++ base_tree b ∷ []
bases-grown old new b e = ap (map base_tree) e ∙ bases-push old b

pub entries-grown : (old new : List (Quoted × BaseExpr)) (e : Quoted × BaseExpr) → new ≡ old ++ e ∷ [] → map entry_of new ≡ map entry_of old ++ entry_of e ∷ []
entries-grown old new e is = ap (map entry_of) is ∙ entries-push old e
