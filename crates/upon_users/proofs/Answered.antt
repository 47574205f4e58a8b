-- What a rendering answers whose formatters escape.
use Rattle.std.proofs.Common.{◌≡◌, ℕ, List, None, Some, Result, Ok, Err, IsErrAnd, sym, subst, ap}
use Rattle.std.specs.Prelude.{String}
use Rattle.std.specs.declared.alloc.Global.{Global}
use Rattle.std.specs.declared.dyn_box.DynBox.{DynBox}
use Rattle.upon_types.specs.Answers.{Formatter, Function, formatter}
use Rattle.upon_types.specs.Tree.{Statements}
use Rattle.upon_types.specs.Val.{Val}
use Rattle.upon_types.specs.declared.error.Error.{Error}
use Rattle.upon_language_spec.specs.DefaultDelimiters.{default_delimiters}
use Rattle.upon_language_spec.specs.Grammar.{HasTree}
use Rattle.upon_lookup.specs.Environment.{context}
use Rattle.upon_meaning_spec.specs.DefaultFormat.{formatter_or_default}
use Rattle.upon_meaning_spec.specs.Engine.{Table}
use Rattle.upon_meaning_spec.specs.Outcome.{states}
use Rattle.upon_meaning_spec.specs.Marks.{FromRawParts}
use Rattle.upon_meaning_spec.specs.Parts.{by_default, by_name}
use Rattle.upon_engine.specs.Answers.{AnswersText}
use Rattle.upon_engine.specs.Texts.{Texts, texts_of}
use Rattle.upon_engine.specs.Theorem.{IsTable, rendering, meaning, AnswersTree}
use Rattle.upon_engine.specs.declared.engine.Engine.{Engine as Held}
use Rattle.upon_html.specs.Escape.{is_markup}
use Rattle.upon_html.specs.Escaped.{escaped}
use Rattle.upon_html.proofs.NoMarkup.{markup_is_raw}
use Rattle.upon_html.specs.EscapedPage.{page, page_pieces, MarkupIsRaw}
use Rattle.upon_users.specs.Pages.{escaping_alone, no_templates, CallsEscape, OnlyEscapes}

raw_answer : (e : Texts) (table : Table) (source : List ℕ) (tree : Statements) (v : Val) (r : Result (String Global) Error) → CallsEscape e table source tree → AnswersText e.depth (meaning e table None source tree v) r → MarkupIsRaw e table None source tree v r
raw_answer e table source tree v (Ok text) all h =
    subst (FromRawParts is_markup (page_pieces e table None source tree v)) (sym h.1)
    (markup_is_raw (rendering e table) (page source tree) None (context v) (states tt tt) all)
raw_answer e table source tree v (Err x) all h = tt

-- where the escaping formatter is the only one
each_escapes : (e : Texts) (table : Table) (source : List ℕ) (tree : Statements) → OnlyEscapes e → CallsEscape e table source tree
each_escapes e table source tree only f by_default v = ap (λ d. (formatter_or_default d v).text) only.0
each_escapes e table source tree only f (by_name u name g reached names is) v = ap (λ h. (h v).text) (only.1 name g is)

-- an error has no markup
pub refused_has_none : (Q : Error → Type 0) (e : Texts) (table : Table) (source : List ℕ) (tree : Statements) (v : Val) (r : Result (String Global) Error) → IsErrAnd r Q → MarkupIsRaw e table None source tree v r
refused_has_none Q e table source tree v (Ok text) is = absurd is
refused_has_none Q e table source tree v (Err x) is = tt

-- a new engine, whose default formatter escapes: it has no other, and no text
escapes_alone : OnlyEscapes escaping_alone
escapes_alone = (λ i. Some escaped, λ name f is. absurd cc)

pub of_its_own : (e : Texts) (source : List ℕ) (tree : Statements) (v : Val) (r : Result (String Global) Error) → e ≡ escaping_alone → HasTree default_delimiters source tree
    → ((tree : Statements) (table : Table) → HasTree e.syntax source tree → IsTable e.texts table → OnlyEscapes e → MarkupIsRaw e table None source tree v r) → MarkupIsRaw escaping_alone no_templates None source tree v r
of_its_own e source tree v r is has said =
    let F : Texts → Type 0 = λ e. (tree : Statements) (table : Table) → HasTree e.syntax source tree → IsTable e.texts table → OnlyEscapes e → MarkupIsRaw e table None source tree v r in
    subst F is said tree no_templates has (λ name. tt) escapes_alone

-- of an engine
module _ {X Y : Type 0} {P : X → Type 0} {Q : Y → Type 0} (formats : DynBox X Global P → Formatter) (answers : DynBox Y Global Q → Function) (h : Held X Y P Q) where
  pub markup_answered : (table : Table) (source : List ℕ) (tree : Statements) (v : Val) (r : Result (String Global) Error) → AnswersTree (texts_of formats answers h) None source tree v r → IsTable (texts_of formats answers h).texts table → CallsEscape (texts_of formats answers h) table source tree → MarkupIsRaw (texts_of formats answers h) table None source tree v r
  markup_answered table source tree v r said it all = raw_answer (texts_of formats answers h) table source tree v r all (said table it)

  pub calls_escape : (table : Table) (source : List ℕ) (tree : Statements) → OnlyEscapes (texts_of formats answers h) → CallsEscape (texts_of formats answers h) table source tree
  calls_escape = each_escapes (texts_of formats answers h)
