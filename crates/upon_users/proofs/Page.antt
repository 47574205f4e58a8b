-- Two templates of two syntaxes, one in the other, with a formatter and a function: their trees, and what they mean.
use Rattle.std.proofs.Common.{◌≡◌, ◌++◌, ℕ, List, [], ◌∷◌, Some, None, Result, String, codes, refl, ap, subst}
use Rattle.std.specs.Map.{update}
use Rattle.std.specs.Str.{bytes_eq}
use Rattle.std.specs.declared.alloc.Global.{Global}
use Rattle.std.proofs.lemmas.List.{append-nil}
use Rattle.upon_types.specs.Val.{Val}
use Rattle.upon_types.specs.declared.error.Error.{Error}
use Rattle.upon_types.specs.declared.types.token.Token.TheVariants as token
use Rattle.upon_language_spec.specs.DefaultDelimiters.{default_delimiters}
use Rattle.upon_language_spec.specs.Grammar.{HasTree}
use Rattle.upon_language_spec.proofs.Computation.Computing.{computing}
use Rattle.upon_language_spec.proofs.Computation.HasTreeTests.{has_tree_tested}
use Rattle.upon_language_spec.proofs.Examples.ShortTrees.{lex}
use Rattle.upon_meaning_spec.specs.Engine.{Table}
use Rattle.upon_meaning_spec.specs.Outcome.{good}
use Rattle.upon.specs.RenderingLaws.{IsTextOrMemory}
use Rattle.upon_engine.specs.Theorem.{IsTable, meaning, AnswersTree}
use Rattle.upon_users.specs.Greeting.{names}
use Rattle.upon_users.specs.Page.{angles, name_text, page_text, name_tree, page_tree, name_engine, page_engine}
use Rattle.upon_users.proofs.BuiltEngines.{put_in, good_only}

pub name_has : HasTree default_delimiters name_text name_tree
unfolding computing
name_has = has_tree_tested _ _ (lex token.BeginExpr 0 2 ∷ lex token.Whitespace 2 3 ∷ lex token.Ident 3 7 ∷ lex token.Whitespace 7 8 ∷ lex token.Pipe 8 9 ∷ lex token.Whitespace 9 10 ∷ lex token.Ident 10 14 ∷ lex token.Whitespace 14 15 ∷ lex token.EndExpr 15 17 ∷
    lex token.BeginExpr 17 19 ∷ lex token.Whitespace 19 20 ∷ lex token.Ident 20 24 ∷ lex token.OpenParen 24 25 ∷ lex token.CloseParen 25 26 ∷ lex token.Whitespace 26 27 ∷ lex token.EndExpr 27 29 ∷ []) _ refl

pub page_has : HasTree angles page_text page_tree
unfolding computing
page_has = has_tree_tested _ _ (lex token.Raw 0 6 ∷ lex token.BeginBlock 6 8 ∷ lex token.Whitespace 8 9 ∷ lex token.Keyword 9 16 ∷ lex token.Whitespace 16 17 ∷ lex token.String 17 23 ∷ lex token.Whitespace 23 24 ∷ lex token.EndBlock 24 26 ∷ []) _ refl

-- the table of what the engine holds
abbrev name_table : Table
name_table = update bytes_eq (λ n. None) (codes "name") (Some (record { source = name_text; tree = name_tree }))

abbrev pub table : Table
table = update bytes_eq name_table (codes "page") (Some (record { source = page_text; tree = page_tree }))

pub is_table : IsTable page_engine.texts table
is_table =
    put_in name_engine.texts name_table (codes "page") (record { text = page_text; syntax = angles }) page_tree ∣ page_has ∣₁
    (put_in (λ n. None) (λ n. None) (codes "name") (record { text = name_text; syntax = default_delimiters }) name_tree ∣ name_has ∣₁ (λ n. tt))

-- what the page means on a map of one text
page_means : (x : List ℕ) → ((meaning page_engine table (Some (codes "page")) page_text page_tree (names x)).end ≡ good)
    × ((meaning page_engine table (Some (codes "page")) page_text page_tree (names x)).text ≡ codes "Hello *" ++ x ++ codes "!")
page_means x = (refl, ap (λ z. codes "Hello *" ++ z) (append-nil (x ++ codes "!")))

pub page_said : (x : List ℕ) (v : Val) (r : Result (String Global) Error) → v ≡ names x → AnswersTree page_engine (Some (codes "page")) page_text page_tree v r
    → IsTextOrMemory (codes "Hello *" ++ x ++ codes "!") r
page_said x v r vs said =
    let it : AnswersTree page_engine (Some (codes "page")) page_text page_tree (names x) r = subst (λ z. AnswersTree page_engine (Some (codes "page")) page_text page_tree z r) vs said in
    let m = page_means x in
    good_only 64 (meaning page_engine table (Some (codes "page")) page_text page_tree (names x)) (codes "Hello *" ++ x ++ codes "!") m.0 m.1 r (it table is_table)
