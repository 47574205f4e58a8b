-- Tokens that no tree reads: those with which no statement begins, and a number that is no integer.
use Rattle.std.proofs.Common.{◌≡◌, ℕ, List, [], ◌∷◌, Bool, true, false, refl, ap, ◌∙◌, subst}
use Rattle.upon_types.specs.declared.types.Span.{Span}
use Rattle.upon_types.specs.declared.types.token.Token.{Token}
use Rattle.upon_types.specs.declared.types.token.Token.TheVariants.{Raw, BeginExpr, BeginBlock}
use Rattle.upon_types.specs.Tree.{Statement, raw, inline_expr, include, block, Statements, no_statements, statement_then}
use Rattle.upon_language_spec.specs.Search.{DelimiterText, HasTexts}
use Rattle.upon_language_spec.specs.Cut.{Lexeme, outside}
use Rattle.upon_language_spec.specs.Shown.{shown_lexemes}
use Rattle.upon_language_spec.specs.Tokens.{significant, Goes}
use Rattle.upon_language_spec.specs.Grammar.{BeginsBlock, IsStatement, AreStatements, HasTree}
use Rattle.upon_language_spec.proofs.OneCut.Cut.{one_cut}
use Rattle.upon_language_spec.proofs.Computation.WholeCut.{cut_test, cut_tested}

-- no tree reads from the tokens
abbrev pub NothingReads : List ℕ → List Lexeme → Type 0
NothingReads s before = (tree : Statements) → AreStatements s tree before [] → ⊥

-- where a text is cut into such tokens, it has no tree, since it is cut in one way
pub no_tree : (delimiters : List DelimiterText) (s : List ℕ) (lexemes : List Lexeme) → HasTexts delimiters → cut_test delimiters s outside 0 lexemes ≡ true → NothingReads s (significant (shown_lexemes s false lexemes)) → (tree : Statements) → HasTree delimiters s tree → ⊥
no_tree delimiters s lexemes texts h nothing tree has =
    let same : has.lexemes ≡ lexemes = one_cut delimiters s has.lexemes lexemes texts has.cut (cut_tested delimiters s outside 0 lexemes h) in
    let F : List Lexeme → Type 0 = λ ls. AreStatements s tree (significant (shown_lexemes s false ls)) [] in
    nothing tree (subst F same has.reads)

-- the first token is the one that goes
pub first_goes : (t : Token) (span : Span) (l : Lexeme) (ls rest : List Lexeme) → Goes t span (l ∷ ls) rest → (l.token ≡ t) × (l.span ≡ span) × (ls ≡ rest)
first_goes t span l ls rest g =
    let is : l ∷ ls ≡ g.lexeme ∷ rest = g.is in
    let same : l ≡ g.lexeme = cc is in
    (ap (λ (x : Lexeme). x.token) same ∙ g.of_token, ap (λ (x : Lexeme). x.span) same ∙ g.at, cc is)

pub first_is : (t : Token) (span : Span) (l : Lexeme) (ls rest : List Lexeme) → Goes t span (l ∷ ls) rest → l.token ≡ t
first_is t span l ls rest g = (first_goes t span l ls rest g).0

-- a statement begins with a raw part, a begin of expression or a begin of block
abbrev pub begins_statement : Token → Bool
begins_statement Raw = true
begins_statement BeginExpr = true
begins_statement BeginBlock = true
begins_statement t = false

by_first : (t : Token) (span : Span) (l : Lexeme) (ls rest : List Lexeme) → begins_statement t ≡ true → Goes t span (l ∷ ls) rest → begins_statement l.token ≡ true
by_first t span l ls rest h g = ap begins_statement (first_is t span l ls rest g) ∙ h

pub by_block : (s word : List ℕ) (l : Lexeme) (ls rest : List Lexeme) → BeginsBlock s word (l ∷ ls) rest → l.token ≡ BeginBlock
by_block s word l ls rest b = first_is BeginBlock b.1.0 l ls b.0 b.1.1

statement_begins : (s : List ℕ) (t : Statement) (l : Lexeme) (ls rest : List Lexeme) → IsStatement s t (l ∷ ls) rest → begins_statement l.token ≡ true
statement_begins s (raw span) l ls rest h = by_first Raw span l ls rest refl h
statement_begins s (inline_expr e span) l ls rest h = by_first BeginExpr h.0 l ls h.2 refl h.4
statement_begins s (include name context) l ls rest h = ap begins_statement (by_block s _ l ls h.0 h.3)
statement_begins s (block opening e body other) l ls rest h = ap begins_statement (by_block s _ l ls h.2.0 h.2.2)

pub no_statement_begins : (s : List ℕ) (l : Lexeme) (ls : List Lexeme) → begins_statement l.token ≡ false → NothingReads s (l ∷ ls)
no_statement_begins s l ls h no_statements are = cc are
no_statement_begins s l ls h (statement_then t ts) are = let k = statement_begins s t l ls are.0 are.1 in cc (h, k)
