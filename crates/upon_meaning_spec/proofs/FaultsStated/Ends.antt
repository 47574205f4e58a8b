-- The end of a rendering, and the fault that is reported for it: one of the stated ones, at an offset of the running template's text.
use Rattle.std.proofs.Common.{◌≡◌, ◌⊎◌, inl, inr, ℕ, List, Option, Some, None, sym, subst, codes, ◌++◌, ap}
use Rattle.upon_types.specs.declared.types.Span.{Span}
use Rattle.upon_types.specs.Answers.{refused}
use Rattle.upon_types.specs.Fault.{Fault}
use Rattle.upon_types.specs.Span.{LiesIn}
use Rattle.upon_types.specs.TreeSpans.{TreeLiesIn}
use Rattle.upon_types.specs.Val.{Val, none_val, bool_val, int_val, text_val, list_val, map_val, kind_word}
use Rattle.upon_types.proofs.CombinedSpans.{combined_lies_in}
use Rattle.upon_lookup.specs.Environment.{Root}
use Rattle.upon_lookup.specs.Finding.{reply}
use Rattle.upon_lookup.specs.Source.{says, refuses}
use Rattle.upon_meaning_spec.specs.Alone.{alone_within, fault_of_end}
use Rattle.upon_meaning_spec.specs.CallFaults.{depth_reached}
use Rattle.upon_meaning_spec.specs.DefaultFormat.{default_format}
use Rattle.upon_meaning_spec.specs.Engine.{Template, Table, Calls, Resolver, table_answer, from_table}
use Rattle.upon_meaning_spec.specs.Outcome.{End, good, fails, too_deep, States}
use Rattle.upon_meaning_spec.specs.RenderFaults.{EndStated, Anywhere, TemplatesLie}
use Rattle.upon_meaning_spec.proofs.FaultsStated.Anywhere.{of_statements}
use Rattle.upon_meaning_spec.proofs.FaultsStated.Templates.{alone_stated}

module _ {V T : Type 0} (calls : Calls V) (resolve : Resolver T) (left : ℕ) (t : Template) (name : Option (List ℕ)) (root : Root) (s : States V T) where
  -- whatever its tree
  pub end_stated : EndStated calls resolve t name Anywhere (alone_within calls resolve left t name root s).end
  end_stated = alone_stated calls resolve Anywhere (λ source a b h k. tt) t name (λ q word u e. of_statements (Anywhere u.source) (λ span. tt) u.tree) (of_statements (Anywhere t.source) (λ span. tt) t.tree) left root s

  -- where the spans of trees lie in their texts
  pub end_lies : TemplatesLie resolve → TreeLiesIn t.source t.tree → EndStated calls resolve t name LiesIn (alone_within calls resolve left t name root s).end
  end_lies others lies = alone_stated calls resolve LiesIn combined_lies_in t name others lies left root s

-- the fault that is reported for an end
pub told_stated : {V T : Type 0} (calls : Calls V) (resolve : Resolver T) (t : Template) (name : Option (List ℕ)) (Lies : List ℕ → Span → Type 0) (limit : ℕ) (end : End) (f : Fault) → EndStated calls resolve t name Lies end → fault_of_end limit end ≡ Some f → (f ≡ depth_reached limit) ⊎ (EndStated calls resolve t name Lies (fails f))
told_stated calls resolve t name Lies limit good f h e = absurd (cc)
told_stated calls resolve t name Lies limit (fails g) f h e = let same : g ≡ f = cc in inr (subst (λ x. EndStated calls resolve t name Lies (fails x)) same h)
told_stated calls resolve t name Lies limit too_deep f h e = let same : depth_reached limit ≡ f = cc in inl (sym same)

-- what refuses where nothing else is set
pub default_refusal : (v : Val) (message : Option (List ℕ)) → (default_format v).end ≡ refused message → message ≡ Some (codes "expression evaluated to unformattable type " ++ kind_word v)
default_refusal none_val message e = absurd (cc)
default_refusal (bool_val b) message e = absurd (cc)
default_refusal (int_val z) message e = absurd (cc)
default_refusal (text_val s) message e = absurd (cc)
default_refusal (list_val vs) message e = cc
default_refusal (map_val es) message e = cc

held_refusal : (o : Option Template) (text : List ℕ) → table_answer o ≡ refuses text → text ≡ codes "unknown template"
held_refusal None text e = cc
held_refusal (Some t) text e = absurd (cc)

pub table_refusal : {T : Type 0} (table : Table) (q : T) (name text : List ℕ) → (from_table table q name).answer ≡ refuses text → text ≡ codes "unknown template"
table_refusal table q name text e = held_refusal (table name) text e

-- the templates of a table, where the spans in each tree lie in its text
table_says : (o : Option Template) (t : Template) → ((u : Template) → o ≡ Some u → TreeLiesIn u.source u.tree) → table_answer o ≡ says t → TreeLiesIn t.source t.tree
table_says None t h e = absurd (cc)
table_says (Some u) t h e = let same : u ≡ t = cc in h t (ap Some same)

pub table_lies : {T : Type 0} (table : Table) → ((name : List ℕ) (t : Template) → table name ≡ Some t → TreeLiesIn t.source t.tree) → TemplatesLie {T = T} (from_table table)
table_lies table h q name t e = table_says (table name) t (h name) e

-- the one template of a source, where the spans in its tree lie in its text
pub one_lies : {T : Type 0} (t : Template) → TreeLiesIn t.source t.tree → TemplatesLie {T = T} (λ q name. reply (says t) q)
one_lies t h q name u e = let same : t ≡ u = cc in let F : Template → Type 0 = λ u. TreeLiesIn u.source u.tree in subst F same h
