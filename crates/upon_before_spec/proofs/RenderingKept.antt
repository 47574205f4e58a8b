-- A table whose templates are those of before, under each name that is reached, answers as the table of before.
use Rattle.std.proofs.Common.{◌≡◌, ℕ, List, [], Option, Some, None, refl, ap, ◌∙◌, option_map}
use Rattle.upon_lookup.specs.Environment.{Root}
use Rattle.upon_lookup.specs.Finding.{reply}
use Rattle.upon_lookup.specs.Source.{says}
use Rattle.upon_meaning_spec.specs.Alone.{includes_left, alone}
use Rattle.upon_meaning_spec.specs.Engine.{Table, Calls, table_answer, from_table}
use Rattle.upon_meaning_spec.specs.Includes.{Reaches}
use Rattle.upon_meaning_spec.specs.Outcome.{States}
use Rattle.upon_meaning_spec.proofs.Reached.{reaches_more}
use Rattle.upon_before_spec.specs.Alone.{Template as TemplateBefore, Table as TableBefore, table_answer as table_answer_before, from_table as from_table_before, alone as alone_before}
use Rattle.upon_before_spec.specs.Now.{statements_now, template_now, answer_now}
use Rattle.upon_before_spec.specs.Kept.{AnswersAlike, HoldAlike}
use Rattle.upon_before_spec.proofs.MeaningKept.{meaning_kept}

answer_kept : (x : Option TemplateBefore) → table_answer (option_map template_now x) ≡ answer_now (table_answer_before x)
answer_kept None = refl
answer_kept (Some t) = refl

held_says : (x : Option TemplateBefore) (t : TemplateBefore) → table_answer_before x ≡ says t → x ≡ Some t
held_says None t e = absurd (cc)
held_says (Some u) t e = let same : u ≡ t = cc in ap Some same

module _ {V T : Type 0} (calls : Calls V) (before : TableBefore) (now : Table) (t : TemplateBefore) (held : HoldAlike t.tree before now) where
  answers_alike : AnswersAlike {T = T} (Reaches now (statements_now t.tree)) (from_table_before before) (from_table now)
  answers_alike = record {
    same = λ q name reached. ap (λ a. reply a q) (ap table_answer (held name reached) ∙ answer_kept (before name));
    closed = λ q name u reached e n includes.
        let here : now name ≡ Some (template_now u) = held name reached ∙ ap (option_map template_now) (held_says (before name) u e) in
        reaches_more now (statements_now t.tree) name (template_now u) n reached here includes;
  }

  pub rendering_kept : (limit : ℕ) (name : Option (List ℕ)) (root : Root) (s : States V T) → alone (record { calls = calls; resolve = from_table now; limit = limit }) (template_now t) name root s ≡ alone_before (record { calls = calls; resolve = from_table_before before; limit = limit }) t name root s
  rendering_kept limit name root s = meaning_kept calls (from_table_before before) (from_table now) (Reaches now (statements_now t.tree)) answers_alike (includes_left limit) t name root s (λ n is. ([], is))
