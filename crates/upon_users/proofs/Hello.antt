-- `Hello {{ name }}!`: its tree, and what that means on a map of one text.
use Rattle.std.proofs.Common.{◌≡◌, ◌++◌, ℕ, List, [], ◌∷◌, Option, Some, None, codes, refl, subst, Result, Ok, Err, OnOk, String}
use Rattle.std.specs.Map.{update}
use Rattle.std.specs.Str.{bytes_eq}
use Rattle.std.specs.Io.KnownBytes.{Appends}
use Rattle.std.specs.declared.alloc.Global.{Global}
use Rattle.upon_types.specs.declared.error.Error.{Error}
use Rattle.upon_types.specs.Tree.{Statements, raw}
use Rattle.upon_types.specs.Val.{Val}
use Rattle.upon_types.specs.declared.types.token.Token.TheVariants.{Raw, BeginExpr, EndExpr, Whitespace, Ident}
use Rattle.upon_language_spec.specs.DefaultDelimiters.{default_delimiters}
use Rattle.upon_language_spec.specs.Grammar.{HasTree}
use Rattle.upon_language_spec.proofs.Computation.Computing.{computing}
use Rattle.upon_language_spec.proofs.Computation.HasTreeTests.{has_tree_tested}
use Rattle.upon_language_spec.specs.ShortTrees.{at, name}
use Rattle.upon_language_spec.proofs.Examples.ShortTrees.{lex, three, shows}
use Rattle.upon_meaning_spec.specs.Engine.{Table}
use Rattle.upon_meaning_spec.specs.Outcome.{good}
use Rattle.upon_engine.specs.Changes.{empty_engine, with_text}
use Rattle.upon.specs.RenderingLaws.{IsTextOrMemory}
use Rattle.upon_engine.specs.Texts.{Texts}
use Rattle.upon_engine.specs.Theorem.{IsTable, meaning, AnswersTree, Sends}
use Rattle.upon_users.specs.Greeting.{names}
use Rattle.upon_users.proofs.BuiltEngines.{put_in, good_only}

abbrev pub hello_text : List ℕ
hello_text = codes "Hello {{ name }}!"

abbrev pub tree : Statements
tree = three (raw (at 0 6)) (shows (name (codes "name") 9 13) 6 16) (raw (at 16 17))

pub hello_tree : HasTree default_delimiters hello_text tree
unfolding computing
hello_tree = has_tree_tested _ _ (lex Raw 0 6 ∷ lex BeginExpr 6 8 ∷ lex Whitespace 8 9 ∷ lex Ident 9 13 ∷ lex Whitespace 13 14 ∷ lex EndExpr 14 16 ∷ lex Raw 16 17 ∷ []) _ refl

-- an engine that holds this text alone
abbrev pub built : Texts
built = with_text (codes "hello") hello_text empty_engine

abbrev pub table : Table
table = update bytes_eq (λ n. None) (codes "hello") (Some (record { source = hello_text; tree = tree }))

is_table : IsTable built.texts table
is_table = put_in (λ n. None) (λ n. None) (codes "hello") (record { text = hello_text; syntax = default_delimiters }) tree ∣ hello_tree ∣₁ (λ n. tt)

-- what the tree means, by the engine
hello_means : (x : List ℕ) → ((meaning built table (Some (codes "hello")) hello_text tree (names x)).end ≡ good)
    × ((meaning built table (Some (codes "hello")) hello_text tree (names x)).text ≡ codes "Hello " ++ x ++ codes "!")
hello_means x = (refl, refl)

pub hello_said : (e : Texts) (x : List ℕ) (v : Val) (r : Result (String Global) Error) → e ≡ built → v ≡ names x
    → AnswersTree e (Some (codes "hello")) hello_text tree v r → IsTextOrMemory (codes "Hello " ++ x ++ codes "!") r
hello_said e x v r is vs said =
    let it : AnswersTree built (Some (codes "hello")) hello_text tree (names x) r = subst (λ z. AnswersTree built (Some (codes "hello")) hello_text tree z r) vs (subst (λ z. AnswersTree z (Some (codes "hello")) hello_text tree v r) is said) in
    let m = hello_means x in
    good_only 64 (meaning built table (Some (codes "hello")) hello_text tree (names x)) (codes "Hello " ++ x ++ codes "!") m.0 m.1 r (it table is_table)

-- what a writer receives of it, with an engine that holds nothing
pub hello_sent : (e : Texts) (x : List ℕ) (v : Val) (r : Result (Unit {0}) Error) (old new : Option (List ℕ)) → e ≡ empty_engine → v ≡ names x
    → Sends e None hello_text tree v r old new → OnOk r (Appends old new (codes "Hello " ++ x ++ codes "!"))
hello_sent e x v (Err error) old new is vs said = tt
hello_sent e x v (Ok u) old new is vs said =
    let it : Sends empty_engine None hello_text tree (names x) (Ok u) old new = subst (λ z. Sends empty_engine None hello_text tree z (Ok u) old new) vs (subst (λ z. Sends z None hello_text tree v (Ok u) old new) is said) in
    (it (λ n. None) (λ n. tt)).1
