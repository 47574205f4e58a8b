-- What a rendering answers, by what its template meant before `for .. else`.
use Rattle.std.proofs.Common.{◌≡◌, ◌∙◌, ℕ, List, None, Result, Ok, Err, ap, subst, inl, inr}
use Rattle.std.specs.Prelude.{String}
use Rattle.std.specs.Result.{IsErrAnd}
use Rattle.std.specs.declared.alloc.Global.{Global}
use Rattle.std.specs.declared.dyn_box.DynBox.{DynBox}
use Rattle.upon_types.specs.Answers.{Formatter, Function}
use Rattle.upon_types.specs.Error.{fault_of}
use Rattle.upon_types.specs.Fault.{out_of_memory, syntax}
use Rattle.upon_types.specs.Tree.{Statements}
use Rattle.upon_types.specs.declared.error.Error.{Error}
use Rattle.upon_language_spec.specs.Search.{DelimiterText}
use Rattle.upon_syntax.specs.TagReading.{IsSyntaxError}
use Rattle.upon_lookup.specs.Asked.{refuses_all}
use Rattle.upon_lookup.specs.Environment.{Root}
use Rattle.upon_meaning_spec.specs.Alone.{alone}
use Rattle.upon_meaning_spec.specs.Engine.{Engine, Template, calls_of, rendering_of}
use Rattle.upon_meaning_spec.specs.Outcome.{states}
use Rattle.upon_before_spec.specs.Alone.{Template as TemplateBefore, Table as TableBefore, alone as alone_before}
use Rattle.upon_before_spec.specs.Grammar.{HasTree as HadTree}
use Rattle.upon_before_spec.specs.Kept.{HoldAlike, rendering_before}
use Rattle.upon_before_spec.specs.Now.{statements_now, template_now}
use Rattle.upon_before_spec.specs.Tree.{Statements as StatementsBefore}
use Rattle.upon_before_spec.proofs.RenderingKept.{rendering_kept}
use Rattle.upon_engine.specs.Answers.{AnswersText}
use Rattle.upon_engine.specs.Before.{HadNoTree}
use Rattle.upon_engine.proofs.Renderings.{engine_of}
use Rattle.upon_engine.specs.declared.engine.Engine.{Engine as Held}

-- a template with a source and the tree of before is the one of before
pub same_template : (s s' : List ℕ) (now : Statements) (tree : StatementsBefore) (t : Template) → t ≡ record { source = s'; tree = now } → s' ≡ s → now ≡ statements_now tree → t ≡ template_now (record { source = s; tree = tree })
same_template s s' now tree t is same kept = is ∙ (λ i. record { source = same i; tree = kept i })

-- a text that had a tree is refused for memory alone
pub memory_alone : (delimiters : List DelimiterText) (s : List ℕ) (e : Error) → IsSyntaxError delimiters s e → ((fault_of e).kind ≡ syntax → HadNoTree delimiters s) → (tree : StatementsBefore) → HadTree delimiters s tree → fault_of e ≡ out_of_memory
memory_alone delimiters s e (inl memory) none tree had = memory
memory_alone delimiters s e (inr (span, reason, first, is)) none tree had = absurd (none (ap (λ f. f.kind) is) tree had)

module _ {X Y : Type 0} {P : X → Type 0} {Q : Y → Type 0} (formats : DynBox X Global P → Formatter) (answers : DynBox Y Global Q → Function) where
  -- what a template of before meant, on an engine with these templates of before
  abbrev pub Answered : Held X Y P Q → Root → TableBefore → TemplateBefore → Result (String Global) Error → Type 0
  Answered h root before t r =
      let e : Engine = engine_of formats answers h in
      AnswersText e.depth (alone_before (rendering_before e refuses_all before) t None root (states (tt {0}) (tt {0}))) r

  -- a rendering of a template of before
  pub answers_before : (h : Held X Y P Q) (held : Template) (root : Root) (r : Result (String Global) Error) (before : TableBefore) (t : TemplateBefore) → held ≡ template_now t → HoldAlike t.tree before (engine_of formats answers h).templates
      → AnswersText (engine_of formats answers h).depth (alone (rendering_of (engine_of formats answers h) refuses_all None) held None root (states (tt {0}) (tt {0}))) r
      → Answered h root before t r
  answers_before h held root r before t is alike says =
      let e : Engine = engine_of formats answers h in
      let kept = rendering_kept (calls_of e refuses_all) before e.templates t alike e.depth None root (states (tt {0}) (tt {0})) in
      subst (λ o. AnswersText e.depth o r) (ap (λ z. alone (rendering_of e refuses_all None) z None root (states (tt {0}) (tt {0}))) is ∙ kept) says

  -- that memory is out, which `?` hands on
  pub memory_answered : (h : Held X Y P Q) (root : Root) (before : TableBefore) (t : TemplateBefore) (e : Error) (r : Result (String Global) Error) → IsErrAnd r (λ x. x ≡ e) → fault_of e ≡ out_of_memory → Answered h root before t r
  memory_answered h root before t e (Ok text) is memory = absurd is
  memory_answered h root before t e (Err x) is memory = inr (ap fault_of is ∙ memory)
