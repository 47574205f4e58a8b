use Rattle.std.proofs.Common.{◌≡◌, ℕ, List, Result, Ok, Err, IfOk, IfErr, sym, subst}
use Rattle.upon_language_spec.specs.Grammar.{HasTree}
use Rattle.upon_language_spec.specs.Search.{DelimiterText}
use Rattle.upon_syntax.specs.TagReading.{IsSyntaxError}
use Rattle.upon_compiler.proofs.CompiledTree.{is_compiled}
use Rattle.upon_engine.proofs.compile.compiled.Goals as goal

ok_map : {A E : Type 0} (r : Result A E) (P Q : A → Type 0) → ((a : A) → P a → Q a) → IfOk r P → IfOk r Q
ok_map (Ok a) P Q f h = f a h
ok_map (Err e) P Q f h = tt

err_map : {A E : Type 0} (r : Result A E) (P Q : E → Type 0) → ((e : E) → P e → Q e) → IfErr r P → IfErr r Q
err_map (Ok a) P Q f h = tt
err_map (Err e) P Q f h = f e h

-- what is said of the parser's delimiters and text is said of these
over : (P : List DelimiterText → List ℕ → Type 0) {d e : List DelimiterText} {s u : List ℕ} → d ≡ e → s ≡ u → P d s → P e u
over P {d} {e} {s} {u} de su h = subst (λ x. P x u) de (subst (P d) su h)

pub returns-clause-program : goal.returns-clause-program
returns-clause-program c =
    let own = c.args.searcher.now.syntax in
    ok_map c.compile_template.result _ _ (λ code is. is_compiled _ _ c.new-parser.ensures.syntax _ _ code.items is.tree c.new-parser.ensures.source is.has_tree is.program own.has_texts own.has_utf8 (rw c.new-parser.ensures.source c.utf8.source)) c.compile_template.ensures.program

pub returns-clause-has_tree : goal.returns-clause-has_tree
returns-clause-has_tree c =
    ok_map c.compile_template.result _ _ (λ code is. (is.tree, over (λ d s. HasTree d s is.tree) c.new-parser.ensures.syntax c.new-parser.ensures.source is.has_tree)) c.compile_template.ensures.program

pub returns-clause-fault : goal.returns-clause-fault
returns-clause-fault c =
    err_map c.compile_template.result _ _ (λ e h. over (λ d s. IsSyntaxError d s e) c.new-parser.ensures.syntax c.new-parser.ensures.source h) c.compile_template.ensures.fault

pub returns-clause-no_tree : goal.returns-clause-no_tree
returns-clause-no_tree c =
    err_map c.compile_template.result _ _ (λ e none kind tree has. none kind tree (over (λ d s. HasTree d s tree) (sym c.new-parser.ensures.syntax) (sym c.new-parser.ensures.source) has)) c.compile_template.ensures.no_tree
