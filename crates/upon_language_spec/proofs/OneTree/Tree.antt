-- A text has one tree at most, in the whole language.
use Rattle.std.proofs.Common.{◌≡◌, ℕ, List, [], subst, false}
use Rattle.upon_types.specs.Tree.{Statements}
use Rattle.upon_language_spec.specs.Search.{DelimiterText, HasTexts}
use Rattle.upon_language_spec.specs.Cut.{Lexeme}
use Rattle.upon_language_spec.specs.Shown.{shown_lexemes}
use Rattle.upon_language_spec.specs.Tokens.{significant}
use Rattle.upon_language_spec.specs.Grammar.{AreStatements, HasTree}
use Rattle.upon_language_spec.proofs.OneCut.Cut.{one_cut}
use Rattle.upon_language_spec.proofs.OneTree.Template.{one_statements}

pub one_whole_tree : (delimiters : List DelimiterText) (s : List ℕ) (a b : Statements) → HasTexts delimiters → HasTree delimiters s a → HasTree delimiters s b → a ≡ b
one_whole_tree delimiters s a b texts h k =
    let e = one_cut delimiters s h.lexemes k.lexemes texts h.cut k.cut in
    let F : List Lexeme → Type 0 = λ x. AreStatements s a (significant (shown_lexemes s false x)) [] in
    one_statements s (significant (shown_lexemes s false k.lexemes)) a b (subst F e h.reads) k.reads
