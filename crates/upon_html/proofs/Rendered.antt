-- What a rendering answers whose formatters escape.
use Rattle.std.proofs.Common.{◌≡◌, ℕ, List, Option, false, Result, Ok, Err, option_map, sym, subst, ap, ◌∙◌}
use Rattle.std.specs.Prelude.{String}
use Rattle.std.specs.BTreeMap.{get_by_text}
use Rattle.std.specs.declared.alloc.Global.{Global}
use Rattle.std.specs.declared.dyn_box.DynBox.{DynBox}
use Rattle.upon_types.specs.Answers.{Formatter, Function}
use Rattle.upon_types.specs.Tree.{Statements}
use Rattle.upon_types.specs.Val.{Val}
use Rattle.upon_types.specs.declared.error.Error.{Error}
use Rattle.upon_lookup.specs.Asked.{refuses_all}
use Rattle.upon_lookup.specs.Environment.{context}
use Rattle.upon_meaning_spec.specs.Alone.{alone}
use Rattle.upon_meaning_spec.specs.DefaultFormat.{formatter_or_default}
use Rattle.upon_meaning_spec.specs.Engine.{Table, Template, from_table}
use Rattle.upon_meaning_spec.specs.Outcome.{states}
use Rattle.upon_meaning_spec.specs.Marks.{has, FromRawParts}
use Rattle.upon_meaning_spec.specs.Parts.{by_default, by_name, WritesOnly}
use Rattle.upon_meaning_spec.proofs.RawMarks.{raw_marks}
use Rattle.upon_engine.specs.Answers.{AnswersText}
use Rattle.upon_engine.specs.Base.{on_root, outcome_over}
use Rattle.upon_engine.specs.Calls.{engine_in, renderer_values, templates_in, template_in, name_in, limit_in}
use Rattle.upon_engine.specs.Sources.{engine_of_templates, value_in}
use Rattle.upon_engine.specs.Texts.{Texts, texts_of}
use Rattle.upon_engine.specs.Theorem.{IsTable, rendering, meaning, AnswersTree}
use Rattle.upon_engine.specs.declared.engine.Engine.{Engine as Held}
use Rattle.upon_engine.specs.declared.renderer.Renderer.{Renderer}
use Rattle.upon_engine.specs.declared.sources.EngineTemplates.{EngineTemplates}
use Rattle.upon_engine.specs.declared.values.Context.{Context}
use Rattle.upon_engine.proofs.Tables.{made, only_table}
use Rattle.upon_html.specs.Callables.{callables_in}
use Rattle.upon_engine.proofs.Renderings.{engine_of}
use Rattle.upon_html.specs.Escape.{escape, is_markup}
use Rattle.upon_html.specs.Escaped.{escaping, escaping_callable}
use Rattle.upon_html.specs.EscapedPage.{page, page_pieces, escaping_all, MarkupIsRaw}
use Rattle.upon_html.specs.declared.callables.Escaping.{Escaping}
use Rattle.upon_html.proofs.EscapeLaws.{no_markup}
use Rattle.upon_html.proofs.EscapedCallables.{was_formatter}
use Rattle.upon_html.proofs.NoMarkup.{has_same}
use denote.Bor.{Bor}

-- no formatter that escapes writes markup
escaped_unmarked : (f : Formatter) (v : Val) → has is_markup (escaping f v).text ≡ false
escaped_unmarked f v = has_same (escape (f v).text) ∙ no_markup (f v).text

all_unmarked : (e : Texts) (table : Table) (t : Template) → WritesOnly (rendering (escaping_all e) table).calls (rendering (escaping_all e) table).resolve t (λ text. has is_markup text ≡ false)
all_unmarked e table t f by_default v = escaped_unmarked (formatter_or_default e.default_formatter) v
all_unmarked e table t f (by_name u name g reached names is) v =
    let was = was_formatter (e.callables name) f is in
    subst (λ h. has is_markup (h v).text ≡ false) was.2 (escaped_unmarked was.0 v)

-- so the markup of the text is raw
pub raw_answer : (e : Texts) (table : Table) (name : Option (List ℕ)) (source : List ℕ) (tree : Statements) (v : Val) (r : Result (String Global) Error) → AnswersText e.depth (meaning (escaping_all e) table name source tree v) r → MarkupIsRaw (escaping_all e) table name source tree v r
raw_answer e table name source tree v (Ok text) h =
    let t = page source tree in
    let all = rendering (escaping_all e) table in
    subst (FromRawParts is_markup (page_pieces (escaping_all e) table name source tree v)) (sym h.1)
    (raw_marks is_markup all t name (context v) (states tt tt) (all_unmarked e table t))
raw_answer e table name source tree v (Err x) h = tt

-- the engine whose callables are escaped
pub same_engine : {X Y : Type 0} {P : X → Type 0} {Q : Y → Type 0} (k l : Escaping (Bor (Held X Y P Q))) (b : Bor (Held X Y P Q)) → k ≡ l → callables_in l ≡ b → (callables_in k).now ≡ b.now
same_engine {X} {Y} {P} {Q} k l b e f = ap (λ (x : Escaping (Bor (Held X Y P Q))). (callables_in x).now) e ∙ ap (λ (x : Bor (Held X Y P Q)). x.now) f

module _ {X Y : Type 0} {P : X → Type 0} {Q : Y → Type 0} (formats : DynBox X Global P → Formatter) (answers : DynBox Y Global Q → Function) where
  -- a renderer of an engine's templates, with its callables escaped
  module _ (result : Result (String Global) Error) where
    abbrev Gives : Held X Y P Q → Held X Y P Q → Template → Option (List ℕ) → ℕ → Val → Type 0
    Gives e behind t name limit v =
        AnswersText limit
        (outcome_over (record {
          calls = record {
            callables = λ n. option_map escaping_callable ((engine_of formats answers e).callables n);
            default_formatter = escaping (formatter_or_default (engine_of formats answers e).default_formatter);
            ask = refuses_all;
          };
          resolve = from_table (engine_of formats answers behind).templates;
          limit = limit;
        }) t name (on_root (context v)) (states (tt {0}) (tt {0}))) result

    pub gives : (r : Renderer (Escaping (Bor (Held X Y P Q))) Context (EngineTemplates X Y P Q)) (e : Held X Y P Q) (t : Template) (name : Option (List ℕ)) (limit : ℕ) (v : Val)
        → (callables_in (engine_in r)).now ≡ e → engine_of_templates (templates_in r) ≡ e → template_in r ≡ t → name_in r ≡ name → limit_in r ≡ limit → value_in (renderer_values r) ≡ v
        → Gives (callables_in (engine_in r)).now (engine_of_templates (templates_in r)) (template_in r) (name_in r) (limit_in r) (value_in (renderer_values r)) → Gives e e t name limit v
    gives r e t name limit v ee ff tt' nn ll vv h =
        subst (λ z. Gives e e t name limit z) vv
        (subst (λ z. Gives e e t name z (value_in (renderer_values r))) ll
        (subst (λ z. Gives e e t z (limit_in r) (value_in (renderer_values r))) nn
        (subst (λ z. Gives e e z (name_in r) (limit_in r) (value_in (renderer_values r))) tt'
        (subst (λ z. Gives e z (template_in r) (name_in r) (limit_in r) (value_in (renderer_values r))) ff
        (subst (λ z. Gives z (engine_of_templates (templates_in r)) (template_in r) (name_in r) (limit_in r) (value_in (renderer_values r))) ee h)))))

  -- an answer by the engine's own templates is one by each table of its texts
  module _ (e : Held X Y P Q) where
    pub answers_all : (name : Option (List ℕ)) (t : Template) (source : List ℕ) (tree : Statements) (v : Val) (result : Result (String Global) Error)
        → t ≡ made source tree → Gives result e e t name e.depth v → AnswersTree (escaping_all (texts_of formats answers e)) name source tree v result
    answers_all name t source tree v result is said table it =
        subst (λ z. AnswersText e.depth (meaning (escaping_all (texts_of formats answers e)) z name source tree v) result) (sym (only_table (get_by_text e.templates) table it))
        (subst (λ z. AnswersText e.depth (alone (rendering (escaping_all (texts_of formats answers e)) (engine_of formats answers e).templates) z name (context v) (states tt tt)) result) is said)

    pub markup_of : (name : Option (List ℕ)) (source : List ℕ) (tree : Statements) (v : Val) (result : Result (String Global) Error)
        → AnswersTree (escaping_all (texts_of formats answers e)) name source tree v result → (table : Table) → IsTable (texts_of formats answers e).texts table → MarkupIsRaw (escaping_all (texts_of formats answers e)) table name source tree v result
    markup_of name source tree v result said table it = raw_answer (texts_of formats answers e) table name source tree v result (said table it)
