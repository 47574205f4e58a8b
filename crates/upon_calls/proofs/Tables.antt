-- Where each text that is held has a tree, there is a table of them.
use Rattle.std.proofs.Common.{◌≡◌, ◌⊎◌, ◌∙◌, ℕ, List, [], ◌∷◌, Option, Some, None, refl, sym, ap, subst, inl, inr}
use Rattle.std.specs.Str.{bytes_eq}
use Rattle.std.proofs.lemmas.Map.{update_same}
use Rattle.std.proofs.lemmas.Slice.Eq.{bytes_eq-Decides}
use Rattle.upon_types.specs.Fault.{Fault}
use Rattle.upon_types.specs.Val.{Val}
use Rattle.upon_language_spec.specs.Grammar.{HasTree}
use Rattle.upon_meaning_spec.specs.Alone.{fault_of_end}
use Rattle.upon_meaning_spec.specs.CallFaults.{depth_reached}
use Rattle.upon_meaning_spec.specs.Engine.{Table, Template}
use Rattle.upon_shape_spec.specs.Shape.{Shape}
use Rattle.upon_vm.specs.declared.limits.Limits.{Limits}
use Rattle.upon_engine.specs.Changes.{with_text}
use Rattle.upon_engine.specs.Texts.{Stored, Texts}
use Rattle.upon_engine.specs.Theorem.{IsTable, IsTemplateOf, meaning}
use Rattle.upon_std.specs.declared.table.StandardFunction.{StandardFunction}
use Rattle.upon_calls.specs.Asked.{Asked}
use Rattle.upon_calls.specs.ByTable.{FailsNamedBy, FailsTextBy, NamedEnds}
use Rattle.upon_calls.specs.Contexts.{EndsOnEach}
use Rattle.upon_calls.specs.Filled.{engine_for, escaping_engine, functions_if, with_functions}
use Rattle.upon_calls.specs.Rendering.{EachHasTree, FailsNamed, FailsText}
use Rattle.upon_calls.specs.declared.escaping.Language.{Language}

module _ (e : Texts) (each : EachHasTree e) where
  abbrev template_at : (name : List ℕ) (s : Option Stored) → e.texts name ≡ s → Option Template
  template_at name None is = None
  template_at name (Some held) is = Some (record { source = held.text; tree = (each name held is).0 })

  is_at : (name : List ℕ) (s : Option Stored) (is : e.texts name ≡ s) → IsTemplateOf s (template_at name s is)
  is_at name None is = tt
  is_at name (Some held) is = (refl, (each name held is).1)

  pub has_table : (table : Table) × IsTable e.texts table
  has_table = (λ name. template_at name (e.texts name) refl, λ name. is_at name (e.texts name) refl)

-- functions leave the texts as they are
functions_keep : (fs : List StandardFunction) (e : Texts) (name : List ℕ) → (with_functions fs e).texts name ≡ e.texts name
functions_keep [] e name = refl
functions_keep (f ∷ fs) e name = functions_keep fs _ name

-- an engine for a language holds none
none_escaping : (escape : Option Language) (name : List ℕ) → (escaping_engine escape).texts name ≡ None
none_escaping None name = refl
none_escaping (Some language) name = refl

-- before its templates an engine holds no text: so each that it holds has a tree
pub no_text_has_tree : (asked : Asked) → EachHasTree (engine_for asked)
no_text_has_tree asked name held there =
    let none : (engine_for asked).texts name ≡ None = functions_keep (functions_if asked.functions) _ name ∙ none_escaping asked.escape name in
    absurd cc

-- the template that a table has under the name of a text that is held
pub of_held : (s : Option Stored) (t : Option Template) (held : Stored) → IsTemplateOf s t → s ≡ Some held
    → (u : Template) × (t ≡ Some u) × (u.source ≡ held.text) × ∥ HasTree held.syntax held.text u.tree ∥₁
of_held None None held is same = absurd cc
of_held None (Some t) held is same = absurd is
of_held (Some s) None held is same = absurd is
of_held (Some s) (Some t) held is same =
    let one : s ≡ held = cc in
    (t, refl, is.0 ∙ ap (λ h. h.text) one, subst (λ h. ∥ HasTree h.syntax h.text t.tree ∥₁) one is.1)

-- a text that was added is held under its name
pub added : (name text : List ℕ) (e : Texts) → (with_text name text e).texts name ≡ Some (record { text = text; syntax = e.syntax })
added name text e = update_same bytes_eq e.texts name (Some (record { text = text; syntax = e.syntax })) name ((bytes_eq-Decides name name).1 refl)

-- ---- faults
-- a template has a first fault, or a rendering ends with a fault by a table
pub named_fault : {First : Type 0} (limits : Limits) (e : Texts) (name : List ℕ) (v : Val) (fault : Fault) → First ⊎ FailsNamed limits e name v fault → First ⊎ ((table : Table) × IsTable e.texts table × FailsNamedBy limits e table name v fault)
named_fault limits e name v fault (inl first) = inl first
named_fault limits e name v fault (inr (each, held, tree, there, has, ends)) =
    let (table, is_table) = has_table e each in inr (table, is_table, (held, tree, there, has, ends table is_table))

-- so a text
pub text_fault : (limits : Limits) (e : Texts) (source : List ℕ) (v : Val) (fault : Fault) (table : Table) → IsTable e.texts table → FailsText limits e source v fault → FailsTextBy limits e table source v fault
text_fault limits e source v fault table is (inl first) = inl first
text_fault limits e source v fault table is (inr (tree, has, ends)) = inr (tree, has, ends table is)

-- ---- what is held under a name ends on each value of a shape, by a table
pub ends_by : (e : Texts) (table : Table) (name : List ℕ) (held : Stored) (s : Shape) → IsTable e.texts table → e.texts name ≡ Some held → EndsOnEach e name s → NamedEnds e table name s
ends_by e table name held s is there ends =
    let (t, at, same, has) = of_held (e.texts name) (table name) held (is name) there in
    (t, at, λ v f fits. subst (λ source. fault_of_end e.depth (meaning e table (Some name) source t.tree v).end ≡ Some f → f ≡ depth_reached e.depth) (sym same) (ends table held t.tree v f is there has fits))
