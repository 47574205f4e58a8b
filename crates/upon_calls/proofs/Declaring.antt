-- What is declared of callables and of how values are written, which an engine keeps.
use Rattle.std.proofs.Common.{◌≡◌, ◌∙◌, ℕ, List, [], ◌∷◌, Bool, true, false, cond, Option, Some, None, codes, bytes_eq, refl, sym, ap, subst}
use mathlib.Core.Path.{fun_ext}
use Rattle.std.specs.Map.{update}
use Rattle.upon_types.specs.Answers.{Callable, formatter, function, well}
use Rattle.upon_types.specs.Val.{Val, none_val, bool_val, int_val, text_val, list_val, map_val}
use Rattle.upon_meaning_spec.specs.DefaultFormat.{default_format, formatter_or_default}
use Rattle.upon_shape_spec.specs.Declared.{CallableKeeps, Declared, DeclaredCallable, FormatsEach, KeepsDeclared, formats}
use Rattle.upon_shape_spec.specs.Fits.{Fits}
use Rattle.upon_shape_spec.specs.Shape.{Shape, plain, plain_shape, shown_values}
use Rattle.upon_engine.specs.Changes.{with_callable, with_depth, with_syntax, with_text}
use Rattle.upon_engine.specs.Texts.{Texts}
use Rattle.upon_std.specs.Table.{standard_answer, standard_name}
use Rattle.upon_std.specs.declared.table.StandardFunction.{StandardFunction}
use Rattle.upon_std_shapes.specs.Tables.{Declarations, with_all_added, with_all_declared}
use Rattle.upon_std_shapes.proofs.Added.{all_added_kept}
use Rattle.upon_quote.specs.Shell.{shell_escape_of}
use Rattle.upon_quote.specs.Tokens.{one_shell_word, shell_format, word_once}
use Rattle.upon_quote.proofs.PlainDefaults.{NotText, no_nul_default}
use Rattle.upon_quote.proofs.ShellLemmas.{shell_leaves}
use Rattle.upon_calls.specs.Asked.{Asked}
use Rattle.upon_calls.specs.Escaping.{written_shape}
use Rattle.upon_calls.specs.Filled.{engine_for, escaping_engine, filled, functions_if, with_functions, with_sources}
use Rattle.upon_calls.specs.Unsure.{declared_as, declared_before}
use Rattle.upon_calls.specs.declared.escaping.Language.{Language}
use Rattle.upon_calls.specs.declared.escaping.Language.TheVariants.{Html, Json, Shell, Yaml}

-- ---- values that are written
shown_well : (v : Val) → Fits shown_values v → (default_format v).end ≡ well
shown_well none_val fits = refl
shown_well (bool_val b) fits = refl
shown_well (int_val n) fits = refl
shown_well (text_val text) fits = refl
shown_well (list_val vs) fits = absurd fits
shown_well (map_val es) fits = absurd fits

word_well : (v : Val) → NotText v → (default_format v).end ≡ well → (shell_format v).end ≡ well
word_well v not is =
    ap (λ end. (word_once (default_format v).text end).end) is
    ∙ ap (λ b. (one_shell_word b (default_format v).text).end) (no_nul_default shell_escape_of shell_leaves v not)

shell_well : (v : Val) → Fits (plain_shape (plain true true true false)) v → (shell_format v).end ≡ well
shell_well none_val fits = word_well none_val tt refl
shell_well (bool_val b) fits = word_well (bool_val b) tt refl
shell_well (int_val n) fits = word_well (int_val n) tt refl
shell_well (text_val text) fits = let no : false ≡ true = fits in absurd cc
shell_well (list_val vs) fits = absurd fits
shell_well (map_val es) fits = absurd fits

formats_written : (escape : Option Language) → FormatsEach (formatter_or_default (escaping_engine escape).default_formatter) (written_shape escape)
formats_written None v fits = shown_well v fits
formats_written (Some Html) v fits = shown_well v fits
formats_written (Some Json) v fits = shown_well v fits
formats_written (Some Shell) v fits = shell_well v fits
formats_written (Some Yaml) v fits = shown_well v fits

-- ---- callables
one_keeps : (b : Bool) (d : Option DeclaredCallable) (c : Option Callable) → CallableKeeps d c → CallableKeeps (cond b (Some (formats shown_values)) d) (cond b (Some (formatter default_format)) c)
one_keeps true d c keeps = shown_well
one_keeps false d c keeps = keeps

-- and of what is declared before functions
before_keeps : (escape : Option Language) (name : List ℕ) → CallableKeeps (declared_before escape name) ((escaping_engine escape).callables name)
before_keeps None name = tt
before_keeps (Some language) name = one_keeps (bytes_eq (codes "verbatim") name) None None tt

-- what is declared before is known by its names
verbatim_added : (old new : Declarations) (name : List ℕ) (s : Shape) → ((other : List ℕ) → old other ≡ None) → name ≡ codes "verbatim" → s ≡ shown_values
    → ((other : List ℕ) → new other ≡ update bytes_eq old name (Some (formats s)) other) → (language : Language) (other : List ℕ) → new other ≡ declared_before (Some language) other
verbatim_added old new name s none named is added language other =
    added other ∙ (λ i. update bytes_eq (nothing i) (named i) (Some (formats (is i))) other)
  where
    nothing : old ≡ (λ other. None)
    nothing = fun_ext none

pub verbatim_is : (old new : Declarations) (name : List ℕ) (s : Shape) → ((other : List ℕ) → old other ≡ None) → name ≡ codes "verbatim" → s ≡ shown_values
    → ((other : List ℕ) → new other ≡ update bytes_eq old name (Some (formats s)) other) → (escape : Option Language) → (escape ≡ None → ⊥) → (other : List ℕ) → new other ≡ declared_before escape other
verbatim_is old new name s none named is added None some = absurd (some refl)
verbatim_is old new name s none named is added (Some language) some = verbatim_added old new name s none named is added language

abbrev made : Declarations → Shape → Declared
made callables written = record { callables = callables; default_formats = written }

-- all that is declared
pub all_declared : (old new : Declared) (asked : Asked) → ((name : List ℕ) → old.callables name ≡ declared_before asked.escape name) → old.default_formats ≡ written_shape asked.escape
    → ((name : List ℕ) → new.callables name ≡ with_all_declared (functions_if asked.functions) old.callables name) → new.default_formats ≡ old.default_formats
    → new ≡ declared_as asked
all_declared old new asked first written is same =
    let callables : new.callables ≡ with_all_declared (functions_if asked.functions) (declared_before asked.escape) =
    fun_ext is ∙ ap (with_all_declared (functions_if asked.functions)) (fun_ext first) in
    λ i. made (callables i) ((same ∙ written) i)

-- ---- an engine, as a call fills it
functions_default : (functions : List StandardFunction) (e : Texts) → (with_functions functions e).default_formatter ≡ e.default_formatter
functions_default [] e = refl
functions_default (f ∷ fs) e = functions_default fs (with_callable (standard_name f) (function (standard_answer f)) e)

pub begun_formats : (declared : Declared) (asked : Asked) → declared.default_formats ≡ written_shape asked.escape → FormatsEach (formatter_or_default (engine_for asked).default_formatter) declared.default_formats
begun_formats declared asked is =
    subst (λ f. FormatsEach (formatter_or_default f) declared.default_formats) (sym (functions_default (functions_if asked.functions) (with_depth asked.depth (with_syntax asked.delimiters (escaping_engine asked.escape)))))
    (subst (FormatsEach (formatter_or_default (escaping_engine asked.escape).default_formatter)) (sym is) (formats_written asked.escape))

-- its templates change nothing of that
sources_keep : (declared : Declared) (sources : List (List ℕ × List ℕ)) (e : Texts) → KeepsDeclared declared e.callables (formatter_or_default e.default_formatter) → KeepsDeclared declared (with_sources sources e).callables (formatter_or_default (with_sources sources e).default_formatter)
sources_keep declared [] e keeps = keeps
sources_keep declared (s ∷ ss) e keeps = sources_keep declared ss (with_text s.0 s.1 e) keeps

pub filled_keeps : (declared : Declared) (asked : Asked) (sources : List (List ℕ × List ℕ)) → KeepsDeclared declared (engine_for asked).callables (formatter_or_default (engine_for asked).default_formatter)
    → KeepsDeclared declared (filled asked sources).callables (formatter_or_default (filled asked sources).default_formatter)
filled_keeps declared asked sources keeps = sources_keep declared sources (engine_for asked) keeps

-- functions are added to what is called
functions_called : (functions : List StandardFunction) (e : Texts) → (with_functions functions e).callables ≡ with_all_added functions e.callables
functions_called [] e = refl
functions_called (f ∷ fs) e = functions_called fs (with_callable (standard_name f) (function (standard_answer f)) e)

-- and declared, so that all that is declared is kept
pub all_keep : (old new : Declared) (asked : Asked) → ((name : List ℕ) → old.callables name ≡ declared_before asked.escape name) → old.default_formats ≡ written_shape asked.escape
    → ((name : List ℕ) → new.callables name ≡ with_all_declared (functions_if asked.functions) old.callables name) → new.default_formats ≡ old.default_formats
    → KeepsDeclared new (engine_for asked).callables (formatter_or_default (engine_for asked).default_formatter)
all_keep old new asked first is declared same =
    subst (λ callables. KeepsDeclared new callables (formatter_or_default (engine_for asked).default_formatter))
    (sym (functions_called (functions_if asked.functions) (with_depth asked.depth (with_syntax asked.delimiters (escaping_engine asked.escape)))))
    (all_added_kept (functions_if asked.functions) old new (escaping_engine asked.escape).callables (formatter_or_default (engine_for asked).default_formatter) declared same
    (record { each = λ name. subst (λ d. CallableKeeps d ((escaping_engine asked.escape).callables name)) (sym (first name)) (before_keeps asked.escape name); default_formatter = begun_formats old asked is }))
