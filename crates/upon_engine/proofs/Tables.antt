-- The texts that an engine holds have one table of trees, and an answer by that table is one by each.
use Rattle.std.proofs.Common.{◌≡◌, ℕ, List, [], Option, Some, None, Result, String, option_map, refl, sym, ap, ◌∙◌, subst, inl, inr, Ok, Err, IsErrAnd}
use mathlib.Core.Path.{fun_ext}
use Rattle.std.specs.BTreeMap.{get_by_text}
use Rattle.std.specs.declared.alloc.Global.{Global}
use Rattle.std.specs.declared.dyn_box.DynBox.{DynBox}
use Rattle.std.proofs.Math.Logic.{∥∥₁_elim}
use Rattle.upon_types.specs.Answers.{Formatter, Function}
use Rattle.upon_types.specs.Error.{fault_of}
use Rattle.upon_types.specs.Fault.{syntax, out_of_memory}
use Rattle.upon_types.specs.Tree.{Statements}
use Rattle.upon_types.specs.Val.{Val}
use Rattle.upon_types.specs.declared.error.Error.{Error}
use Rattle.upon_types.proofs.Sets.{Statements-one_path}
use Rattle.upon_language_spec.specs.Grammar.{HasTree}
use Rattle.upon_language_spec.specs.Search.{DelimiterText}
use Rattle.upon_lookup.specs.Environment.{context}
use Rattle.upon_meaning_spec.specs.Alone.{alone}
use Rattle.upon_meaning_spec.specs.Engine.{Table, Template}
use Rattle.upon_meaning_spec.specs.Outcome.{states}
use Rattle.std.proofs.KnownBytes.{Appends-nil}
use Rattle.upon_fmt.specs.Given.{ReceivesPart}
use Rattle.upon_vm.specs.Reports.{IsAnyIo, WritesReported}
use Rattle.upon_syntax.specs.TagReading.{IsSyntaxError}
use Rattle.upon_compiler.proofs.CompiledTree.{only, had_tree}
use Rattle.upon_engine.specs.Answers.{AnswersText}
use Rattle.upon_engine.specs.Engine.{engine_templates}
use Rattle.upon_engine.specs.Template.{template_of, template_source, template_syntax, template_tree}
use Rattle.upon_engine.specs.Texts.{Stored, stored_template, texts_of}
use Rattle.upon_engine.specs.Theorem.{IsTemplateOf, IsTable, rendering, meaning, AnswersTree, Sends}
use Rattle.upon_engine.specs.declared.engine.Engine.{Engine as Held}
use Rattle.upon_engine.specs.declared.template.Template.{Template as HeldTemplate}

abbrev pub made : List ℕ → Statements → Template
made source tree = record { source = source; tree = tree }

-- each tree of a template's text is its tree
only_held : (h : HeldTemplate) (tree : Statements) → HasTree (template_syntax h) (template_source h) tree → tree ≡ template_tree h
only_held h tree has = only (template_syntax h) (template_source h) h.instrs.items h.is_compiled tree has

pub held_one : (o : Option HeldTemplate) (t : Option Template) → IsTemplateOf (option_map stored_template o) t → t ≡ option_map template_of o
held_one None None is = refl
held_one None (Some t) is = absurd is
held_one (Some h) None is = absurd is
held_one (Some h) (Some t) is =
    let same : t.tree ≡ template_tree h = ∥∥₁_elim is.1 (Statements-one_path t.tree (template_tree h)) (only_held h t.tree) in
    ap (λ s. Some (made s t.tree)) is.0 ∙ ap (λ tree. Some (made (template_source h) tree)) same

pub held_is : (o : Option HeldTemplate) → IsTemplateOf (option_map stored_template o) (option_map template_of o)
held_is None = tt
held_is (Some h) = (refl, had_tree (template_syntax h) (template_source h) h.instrs.items h.is_compiled)

-- a text that is held has the tree of its template
pub tree_held : (o : Option HeldTemplate) (s : Stored) → option_map stored_template o ≡ Some s → (tree : Statements) × ∥ HasTree s.syntax s.text tree ∥₁
tree_held None s is = absurd cc
tree_held (Some h) s is =
    let same : stored_template h ≡ s = cc in
    subst (λ z. (tree : Statements) × ∥ HasTree z.syntax z.text tree ∥₁) same (template_tree h, had_tree (template_syntax h) (template_source h) h.instrs.items h.is_compiled)

-- the template of a name, by a tree that its text is known to have
pub template_held : (o : Option HeldTemplate) (s : Stored) (tree : Statements)
    → option_map stored_template o ≡ Some s → ∥ HasTree s.syntax s.text tree ∥₁ → option_map template_of o ≡ Some (made s.text tree)
template_held None s tree is has = absurd cc
template_held (Some h) s tree is has =
    let same : stored_template h ≡ s = cc in
    let F : Stored → Type 0 = λ s. ∥ HasTree s.syntax s.text tree ∥₁ → Some (template_of h) ≡ Some (made s.text tree) in
    let only : ∥ HasTree (template_syntax h) (template_source h) tree ∥₁ → tree ≡ template_tree h = λ k. ∥∥₁_elim k (Statements-one_path tree (template_tree h)) (only_held h tree) in
    subst F same (λ k. ap (λ t. Some (made (template_source h) t)) (sym (only k))) has

-- a template that is known to be held under a name is the one of its text and of the tree that this has
pub held_named : (o : Option HeldTemplate) (r : Template) (s : Stored) (tree : Statements)
    → option_map template_of o ≡ Some r → option_map stored_template o ≡ Some s → ∥ HasTree s.syntax s.text tree ∥₁ → r ≡ made s.text tree
held_named o r s tree here is has =
    let both : Some r ≡ Some (made s.text tree) = sym here ∙ template_held o s tree is has in
    cc

module _ (held : List ℕ → Option HeldTemplate) where
  abbrev pub table_held : Table
  table_held name = option_map template_of (held name)

  pub only_table : (table : Table) → IsTable (λ name. option_map stored_template (held name)) table → table ≡ table_held
  only_table table is = fun_ext (λ name. held_one (held name) (table name) (is name))

  pub is_table : IsTable (λ name. option_map stored_template (held name)) table_held
  is_table name = held_is (held name)

  pub table_of : (table : Table) × IsTable (λ name. option_map stored_template (held name)) table
      × ((other : Table) → IsTable (λ name. option_map stored_template (held name)) other → other ≡ table)
  table_of = (table_held, is_table, only_table)

-- a fault of compiling a text that has a tree is that memory is out
pub no_memory : (delimiters : List DelimiterText) (s : List ℕ) (e : Error) (tree : Statements)
    → IsSyntaxError delimiters s e → ((fault_of e).kind ≡ syntax → (other : Statements) → HasTree delimiters s other → ⊥)
    → HasTree delimiters s tree → fault_of e ≡ out_of_memory
no_memory delimiters s e tree (inl out) none has = out
no_memory delimiters s e tree (inr first) none has = absurd (none (ap (λ f. f.kind) first.3) tree has)

-- nothing of a text is a beginning of it
pub nothing_yet : (old : Option (List ℕ)) (text : List ℕ) → ReceivesPart old old text
nothing_yet old text = ([], text, refl, Appends-nil old)

-- the error that `?` hands on is the result's
pub handed : {A : Type 0} (error : Error) (r : Result A Error) → IsErrAnd r (λ x. x ≡ error) → r ≡ Err error
handed error (Ok a) same = absurd same
handed error (Err x) same = ap Err same

module _ {X Y : Type 0} {P : X → Type 0} {Q : Y → Type 0} (formats : DynBox X Global P → Formatter) (answers : DynBox Y Global Q → Function) (e : Held X Y P Q) where
  pub answers_by : (name : Option (List ℕ)) (t : Template) (source : List ℕ) (tree : Statements) (v : Val) (result : Result (String Global) Error)
      → t ≡ made source tree
      → AnswersText e.depth (alone (rendering (texts_of formats answers e) (engine_templates e)) t name (context v) (states tt tt)) result
      → AnswersTree (texts_of formats answers e) name source tree v result
  answers_by name t source tree v result is said table it =
      subst (λ z. AnswersText e.depth (meaning (texts_of formats answers e) z name source tree v) result) (sym (only_table (get_by_text e.templates) table it))
      (subst (λ z. AnswersText e.depth (alone (rendering (texts_of formats answers e) (engine_templates e)) z name (context v) (states tt tt)) result) is said)

  -- what a writer receives of a held template, it receives of its text and its tree, by any table
  pub sends_by : (name : Option (List ℕ)) (t : Template) (source : List ℕ) (tree : Statements) (v : Val) (result : Result (Unit {0}) Error) (old new : Option (List ℕ))
      → t ≡ made source tree
      → WritesReported e.depth IsAnyIo result old new (alone (rendering (texts_of formats answers e) (engine_templates e)) t name (context v) (states tt tt))
      → Sends (texts_of formats answers e) name source tree v result old new
  sends_by name t source tree v result old new is said table it =
      subst (λ z. WritesReported e.depth IsAnyIo result old new (meaning (texts_of formats answers e) z name source tree v)) (sym (only_table (get_by_text e.templates) table it))
      (subst (λ z. WritesReported e.depth IsAnyIo result old new (alone (rendering (texts_of formats answers e) (engine_templates e)) z name (context v) (states tt tt))) is said)
