-- `Hello {{ name }}!` in a store: its tree, and what that means on a map of one text.
use Rattle.std.proofs.Common.{◌≡◌, ◌++◌, ℕ, List, [], ◌∷◌, Option, Some, None, codes, refl, sym, ap, ◌∙◌, subst, Result, Ok, Err, OnOk, Bool}
use Rattle.std.specs.Io.KnownBytes.{Appends}
use Rattle.upon_types.specs.Tree.{Statements, raw}
use Rattle.upon_types.specs.Val.{Val}
use Rattle.upon_types.specs.declared.types.token.Token.TheVariants.{Raw, BeginExpr, EndExpr, Whitespace, Ident}
use Rattle.upon_language_spec.specs.DefaultDelimiters.{default_delimiters}
use Rattle.upon_language_spec.specs.Grammar.{HasTree}
use Rattle.upon_language_spec.specs.Search.{DelimiterText}
use Rattle.upon_language_spec.proofs.Computation.Computing.{computing}
use Rattle.upon_language_spec.proofs.Computation.HasTreeTests.{has_tree_tested}
use Rattle.upon_language_spec.specs.ShortTrees.{at, name}
use Rattle.upon_language_spec.proofs.Examples.ShortTrees.{lex, three, shows}
use Rattle.upon_lookup.specs.Asked.{refuses_all}
use Rattle.upon_lookup.specs.Environment.{context}
use Rattle.upon_meaning_spec.specs.Alone.{alone}
use Rattle.upon_meaning_spec.specs.Engine.{Resolver, Table, Template, rendering_by}
use Rattle.upon_meaning_spec.specs.Outcome.{Outcome, States, states}
use Rattle.upon_engine.specs.Changes.{empty_engine}
use Rattle.upon_engine.specs.Texts.{Texts}
use Rattle.upon_engine.specs.Theorem.{engine_meant}
use Rattle.upon_store.specs.Stored.{HoldsTemplate, RendersStored}
use Rattle.upon_store.specs.declared.store.StoreError.{StoreError}
use Rattle.upon_users.specs.Greeting.{names}

abbrev pub hello_text : List ℕ
hello_text = codes "Hello {{ name }}!"

abbrev pub tree : Statements
tree = three (raw (at 0 6)) (shows (name (codes "name") 9 13) 6 16) (raw (at 16 17))

hello_tree : HasTree default_delimiters hello_text tree
unfolding computing
hello_tree = has_tree_tested _ _ (lex Raw 0 6 ∷ lex BeginExpr 6 8 ∷ lex Whitespace 8 9 ∷ lex Ident 9 13 ∷ lex Whitespace 13 14 ∷ lex EndExpr 14 16 ∷ lex Raw 16 17 ∷ []) _ refl

-- what a template means on a value, with a store's answers to its includes
abbrev pub means : Texts → Table → Resolver (Unit {0}) → Val → Template → Outcome (States (Unit {0}) (Unit {0}))
means e table resolve v t = alone (rendering_by (engine_meant e table) refuses_all resolve None) t None (context v) (states (tt {0}) (tt {0}))

-- the template that is held is this text with this tree
held_is : (d : List DelimiterText) (t : Template) → d ≡ default_delimiters → HoldsTemplate d hello_text (Some t) → t ≡ record { source = hello_text; tree = tree }
held_is d t same holds =
    let only = holds.2 tree (subst (λ x. HasTree x hello_text tree) (sym same) hello_tree) in
    λ i. record { source = holds.0 i; tree = sym only i }

-- so its text is received whole, if the store's rendering ends well
pub hello_sent : (e : Texts) (d : List DelimiterText) (table : Table) (resolve : Resolver (Unit {0})) (v : Val) (x : List ℕ) (is_path : Bool) (held : Option Template) (limit : ℕ) (r : Result (Unit {0}) StoreError) (old new : Option (List ℕ))
    → e ≡ empty_engine → d ≡ default_delimiters → v ≡ names x → HoldsTemplate d hello_text held → RendersStored is_path held limit r old new (means e table resolve v) → OnOk r (Appends old new (codes "Hello " ++ x ++ codes "!"))
hello_sent e d table resolve v x is_path held limit (Err error) old new empty same vs holds said = tt
hello_sent e d table resolve v x is_path held limit (Ok u) old new empty same vs holds said =
    let is = held_is d said.0 same (subst (HoldsTemplate d hello_text) said.2 holds) in
    let text : (means e table resolve v said.0).text ≡ codes "Hello " ++ x ++ codes "!" = ap (λ t. (means e table resolve v t).text) is ∙ ap (λ z. (means z table resolve v (record { source = hello_text; tree = tree })).text) empty ∙ ap (λ z. (means empty_engine table resolve z (record { source = hello_text; tree = tree })).text) vs in
    subst (Appends old new) text said.3.1
