use Rattle.std.proofs.Common.{◌≡◌, ℕ, List, Option, Some, None, IsSomeAnd}
use Rattle.std.proofs.lemmas.Result.{IfOk-weaker}
use Rattle.upon_types.specs.Val.{Entries, entry_at, map_val}
use Rattle.upon_lookup.specs.Asked.{refuses_all}
use Rattle.upon_lookup.specs.Environment.{context}
use Rattle.upon_meaning_spec.specs.Alone.{alone}
use Rattle.upon_meaning_spec.specs.Engine.{Engine, Template, Table, Calls, from_table, calls_of, limit_of, rendering_of}
use Rattle.upon_meaning_spec.specs.Names.{AgreeOn}
use Rattle.upon_meaning_spec.specs.Needs.{NeedsName}
use Rattle.upon_meaning_spec.specs.Outcome.{States, states}
use Rattle.upon_engine.specs.contracts.texts.EngineEngineTexts.TheImpl.{ghosts}
use Rattle.upon_engine.specs.Engine.{engine_templates}
use Rattle.upon_engine.specs.Theorem.{engine_meant}
use Rattle.upon_users.proofs.users.needs_of.Goals as goal

weaker_some : {X : Type 0} (o : Option X) (P Q : X → Type 0) → ((x : X) → P x → Q x) → IsSomeAnd o P → IsSomeAnd o Q
weaker_some None P Q weaker h = h
weaker_some (Some x) P Q weaker h = weaker x h

-- the law, for renderings that ask no source
abbrev Law : Type 0
Law = (calls : Calls (Unit {0})) (table : Table) (limit : ℕ) (template : Template) (name : Option (List ℕ)) (these those : Entries) (at : States (Unit {0}) (Unit {0}))
    → AgreeOn (NeedsName table template.tree) (λ n. entry_at n these) (λ n. entry_at n those)
    → alone (record { calls = calls; resolve = from_table table; limit = limit }) template name (context (map_val these)) at
    ≡ alone (record { calls = calls; resolve = from_table table; limit = limit }) template name (context (map_val those)) at

alike : Law → (e : Engine) (t : Template) (these those : Entries) → AgreeOn (NeedsName e.templates t.tree) (λ n. entry_at n these) (λ n. entry_at n those)
    → alone (rendering_of {V = Unit {0}} {T = Unit {0}} e refuses_all None) t None (context (map_val these)) (states (tt {0}) (tt {0})) ≡ alone (rendering_of {V = Unit {0}} {T = Unit {0}} e refuses_all None) t None (context (map_val those)) (states (tt {0}) (tt {0}))
alike law e t these those agree = law (calls_of e refuses_all) e.templates (limit_of None e) t None these those (states (tt {0}) (tt {0})) agree

pub returns : goal.returns
returns g c = let e = engine_meant ((ghosts g.dyn-1 g.dyn-2).texts c.args.engine.now) (engine_templates c.args.engine.now) in λ t is. weaker_some c.needs_of.result _ _ (λ r h. IfOk-weaker r _ _ (λ needs exact these those agree. alike c.names_needed.ensures e t these those (λ n needed. agree n ((exact n).1 needed))) h) (c.needs_of.ensures.names t is)
