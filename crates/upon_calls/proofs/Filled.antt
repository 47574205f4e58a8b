-- How an engine is filled.
use Rattle.std.proofs.Common.{◌≡◌, ◌<◌, ◌≤◌, ◌+◌, ◌∙◌, ◌∷◌, [], ◌++◌, ℕ, zero, suc, List, Contains, arith, length, take, get_or, Bor, Option, Some, None, codes, refl, sym, ap}
use Rattle.std.proofs.lemmas.List.{map-append, take_all, take_more}
use Rattle.upon_types.specs.Answers.{Formatter, Function, formatter, function}
use Rattle.upon_language_spec.specs.Search.{DelimiterText}
use Rattle.upon_meaning_spec.specs.DefaultFormat.{default_format}
use Rattle.upon_engine.specs.Changes.{empty_engine, with_callable, with_default_formatter, with_depth, with_syntax, with_text}
use Rattle.upon_engine.specs.Texts.{Texts}
use Rattle.upon_std.specs.Table.{standard_answer, standard_name}
use Rattle.upon_std.specs.declared.table.StandardFunction.{StandardFunction}
use Rattle.upon_calls.specs.Asked.{Asked}
use Rattle.upon_calls.specs.Escaping.{language_format}
use Rattle.upon_calls.specs.Filled.{engine_for, escaping_engine, filled, functions_if, with_functions, with_sources}
use Rattle.upon_calls.specs.Templates.{lent_pairs}
use Rattle.upon_calls.specs.declared.escaping.Language.{Language}

-- ---- its formatters, if values are written into a language
pub with_language : (b a e : Texts) (f g : Formatter) (escape : Option Language) (language : Language) → escape ≡ Some language → b ≡ empty_engine → a ≡ with_callable (codes "verbatim") (formatter f) b → f ≡ default_format → e ≡ with_default_formatter g a → g ≡ language_format language → e ≡ escaping_engine escape
with_language b a e f g escape language so before added verbatim set escapes =
    set
    ∙ (λ i. with_default_formatter (escapes i) ((added ∙ λ j. with_callable (codes "verbatim") (formatter (verbatim j)) (before j)) i))
    ∙ ap escaping_engine (sym so)

pub without_language : (e : Texts) (escape : Option Language) → escape ≡ None → e ≡ empty_engine → e ≡ escaping_engine escape
without_language e escape so is = is ∙ ap escaping_engine (sym so)

-- its delimiters and its depth
pub syntax_set : (escape : Option Language) (delimiters : List DelimiterText) (depth : ℕ) (first second third : Texts) → first ≡ escaping_engine escape → second ≡ with_syntax delimiters first → third ≡ with_depth depth second → third ≡ with_depth depth (with_syntax delimiters (escaping_engine escape))
syntax_set escape delimiters depth first second third begun set deep =
    deep ∙ ap (with_depth depth) set ∙ ap (λ e. with_depth depth (with_syntax delimiters e)) begun

-- its functions, one more
functions_more : (functions : List StandardFunction) (f : StandardFunction) (e : Texts) → with_functions (functions ++ f ∷ []) e ≡ with_callable (standard_name f) (function (standard_answer f)) (with_functions functions e)
functions_more [] f e = refl
functions_more (first ∷ rest) f e = functions_more rest f (with_callable (standard_name first) (function (standard_answer first)) e)

pub function_added : (functions : List StandardFunction) (i : ℕ) (d f : StandardFunction) (name : List ℕ) (answers : Function) (first old new : Texts) → i < length functions → old ≡ with_functions (take i functions) first
    → get_or functions i d ≡ f → name ≡ standard_name f → answers ≡ standard_answer f → new ≡ with_callable name (function answers) old → new ≡ with_functions (take (i + 1) functions) first
function_added functions i d f name answers first old new inside so_far is named answered added =
    added
    ∙ (λ j. with_callable (named j) (function (answered j)) (so_far j))
    ∙ sym (functions_more (take i functions) f first)
    ∙ ap (λ f. with_functions (take i functions ++ f ∷ []) first) (sym is)
    ∙ ap (λ fs. with_functions fs first) (sym (take_more functions i d inside))

pub all_added : (asked : Asked) (functions : List StandardFunction) (i : ℕ) (first e : Texts) → functions ≡ functions_if asked.functions → length functions ≤ i → e ≡ with_functions (take i functions) first
    → first ≡ with_depth asked.depth (with_syntax asked.delimiters (escaping_engine asked.escape)) → e ≡ engine_for asked
all_added asked functions i first e are done is begun =
    is
    ∙ ap (λ fs. with_functions fs first) (take_all i functions done)
    ∙ ap (λ fs. with_functions fs first) are
    ∙ ap (with_functions (functions_if asked.functions)) begun

-- ---- its templates, one more
pub sources_more : (sources : List (List ℕ × List ℕ)) (s : List ℕ × List ℕ) (e : Texts) → with_sources (sources ++ s ∷ []) e ≡ with_text s.0 s.1 (with_sources sources e)
sources_more [] s e = refl
sources_more (first ∷ rest) s e = sources_more rest s (with_text first.0 first.1 e)

pub source_added : (sources : List (Bor (List ℕ) × Bor (List ℕ))) (i : ℕ) (d : Bor (List ℕ) × Bor (List ℕ)) (name text : List ℕ) (first old new : Texts) → i < length sources → old ≡ with_sources (lent_pairs (take i sources)) first
    → (get_or sources i d).0.now ≡ name → (get_or sources i d).1.now ≡ text → new ≡ with_text name text old → new ≡ with_sources (lent_pairs (take (i + 1) sources)) first
source_added sources i d name text first old new inside so_far named texted added =
    added
    ∙ (λ j. with_text (sym named j) (sym texted j) (so_far j))
    ∙ sym (sources_more (lent_pairs (take i sources)) ((get_or sources i d).0.now, (get_or sources i d).1.now) first)
    ∙ ap (λ ss. with_sources ss first) (sym (map-append (λ pair. (pair.0.now, pair.1.now)) (take i sources) (get_or sources i d ∷ [])))
    ∙ ap (λ ss. with_sources (lent_pairs ss) first) (sym (take_more sources i d inside))

pub all_filled : (asked : Asked) (sources : List (Bor (List ℕ) × Bor (List ℕ))) (i : ℕ) (first e : Texts) → length sources ≤ i → e ≡ with_sources (lent_pairs (take i sources)) first → first ≡ engine_for asked → e ≡ filled asked (lent_pairs sources)
all_filled asked sources i first e done is begun =
    is
    ∙ ap (λ ss. with_sources (lent_pairs ss) first) (take_all i sources done)
    ∙ ap (with_sources (lent_pairs sources)) begun

-- ---- the delimiters stay
pub functions_syntax : (functions : List StandardFunction) (e : Texts) → (with_functions functions e).syntax ≡ e.syntax
functions_syntax [] e = refl
functions_syntax (f ∷ fs) e = functions_syntax fs (with_callable (standard_name f) (function (standard_answer f)) e)

sources_syntax : (sources : List (List ℕ × List ℕ)) (e : Texts) → (with_sources sources e).syntax ≡ e.syntax
sources_syntax [] e = refl
sources_syntax (s ∷ ss) e = sources_syntax ss (with_text s.0 s.1 e)

pub begun_syntax : (asked : Asked) → (engine_for asked).syntax ≡ asked.delimiters
begun_syntax asked = functions_syntax (functions_if asked.functions) (with_depth asked.depth (with_syntax asked.delimiters (escaping_engine asked.escape)))

pub filling_syntax : (asked : Asked) (sources : List (List ℕ × List ℕ)) (e : Texts) → e ≡ with_sources sources (engine_for asked) → e.syntax ≡ asked.delimiters
filling_syntax asked sources e is = ap (λ e. e.syntax) is ∙ sources_syntax sources (engine_for asked) ∙ begun_syntax asked

-- ---- each is one of them
pub lent_contains : (sources : List (Bor (List ℕ) × Bor (List ℕ))) (i : ℕ) (d : Bor (List ℕ) × Bor (List ℕ)) → i < length sources → Contains (lent_pairs sources) ((get_or sources i d).0.now, (get_or sources i d).1.now)
lent_contains [] i d inside = absurd (omega arith)
lent_contains (s ∷ ss) zero d inside = (0, omega arith, refl)
lent_contains (s ∷ ss) (suc i) d inside =
    let later = lent_contains ss i d (omega arith) in (suc later.0, omega (arith, later.1), later.2)
