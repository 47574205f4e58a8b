use Rattle.std.proofs.Common.{◌≡◌, ◌↔◌, ℕ, List, IfOk, Contains, is_some, true}
use Rattle.upon_meaning_spec.specs.Includes.{Reaches}
use Rattle.upon_meaning_spec.specs.Missing.{Missing}
use Rattle.upon_meaning_spec.specs.Needs.{NeedsAll, NeedsName}
use Rattle.upon_needs.specs.EngineNeeds.{needed_names, reached_templates, missing_names, needs_whole}
use Rattle.upon_needs.specs.Names.{Rise}
use Rattle.upon_needs.proofs.Begun.{for_table}
use Rattle.upon_needs.proofs.needs.needs_of.Goals as goal

pub returns-in-Some-clause-names : goal.returns-in-Some-clause-names
returns-in-Some-clause-names g c t is = for_table _ _ c.args.name.now (λ table tree. IfOk c.needed_by.result (λ needs. (word : List ℕ) → Contains (needed_names needs) word ↔ NeedsName table tree word)) c.templates.ensures c.in-Some.template.now t c.in-Some.ensures is c.needed_by.ensures.names

pub returns-in-Some-clause-templates : goal.returns-in-Some-clause-templates
returns-in-Some-clause-templates g c t is = for_table _ _ c.args.name.now (λ table tree. IfOk c.needed_by.result (λ needs. (word : List ℕ) → Contains (reached_templates needs) word ↔ (Reaches table tree word × (is_some (table word) ≡ true)))) c.templates.ensures c.in-Some.template.now t c.in-Some.ensures is c.needed_by.ensures.templates

pub returns-in-Some-clause-missing : goal.returns-in-Some-clause-missing
returns-in-Some-clause-missing g c t is = for_table _ _ c.args.name.now (λ table tree. IfOk c.needed_by.result (λ needs. (word : List ℕ) → Contains (missing_names needs) word ↔ Missing table tree word)) c.templates.ensures c.in-Some.template.now t c.in-Some.ensures is c.needed_by.ensures.missing

pub returns-in-Some-clause-whole : goal.returns-in-Some-clause-whole
returns-in-Some-clause-whole g c t is = for_table _ _ c.args.name.now (λ table tree. IfOk c.needed_by.result (λ needs. (needs_whole needs ≡ true) ↔ NeedsAll table tree)) c.templates.ensures c.in-Some.template.now t c.in-Some.ensures is c.needed_by.ensures.whole

pub returns-in-Some-clause-rise : goal.returns-in-Some-clause-rise
returns-in-Some-clause-rise g c t is = for_table _ _ c.args.name.now (λ table tree. IfOk c.needed_by.result (λ needs. Rise (needed_names needs) × Rise (reached_templates needs) × Rise (missing_names needs))) c.templates.ensures c.in-Some.template.now t c.in-Some.ensures is c.needed_by.ensures.rise
