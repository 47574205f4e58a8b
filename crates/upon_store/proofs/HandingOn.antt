-- A store hands on what it holds, and two that hold the same at the paths that are reached answer alike.
use Rattle.std.proofs.Common.{◌≡◌, ◌∙◌, ℕ, List, Option, Some, None, option_map, refl, ap, sym}
use Rattle.upon_types.specs.Tree.{Statements}
use Rattle.upon_lookup.specs.Finding.{reply}
use Rattle.upon_lookup.specs.Source.{says}
use Rattle.upon_meaning_spec.specs.Engine.{Template}
use Rattle.upon_meaning_spec.specs.Includes.{Reaches}
use Rattle.upon_meaning_spec.specs.Names.{AgreeOn}
use Rattle.upon_meaning_spec.specs.Sources.{HandsOnFrom, AnswerAlike}
use Rattle.upon_engine.specs.HandsOn.{shown_answer}
use Rattle.upon_engine.specs.Template.{template_of}
use Rattle.upon_engine.specs.declared.template.Template.{Template as Held}
use Rattle.upon_store.specs.Paths.{resolved}
use Rattle.upon_store.specs.Stored.{held, stored, stored_at, folder_table, path_answer, store_answer, from_store, ReachesPath}
use Rattle.upon_store.specs.declared.store.Store.{Store}

path_says : (o : Option Held) (t : Template) → shown_answer template_of (path_answer o) ≡ says t → option_map template_of o ≡ Some t
path_says None t e = absurd (cc)
path_says (Some u) t e = let same : template_of u ≡ t = cc in ap Some same

name_says : (store : Store) (path : Option (List ℕ)) (t : Template) → shown_answer template_of (store_answer (held store) path) ≡ says t → stored_at store path ≡ Some t
name_says store None t e = absurd (cc)
name_says store (Some path) t e = path_says (held store path) t e

pub store_hands_on : {T : Type 0} (store : Store) (path : List ℕ) → HandsOnFrom {T = T} (folder_table store path) (from_store store path)
store_hands_on store path q name t e = name_says store (resolved path name) t e

path_shown : (o : Option Held) → shown_answer template_of (path_answer o) ≡ path_answer (option_map template_of o)
path_shown None = refl
path_shown (Some t) = refl

names_alike : (these those : Store) (path : Option (List ℕ)) → ((p : List ℕ) → path ≡ Some p → stored these p ≡ stored those p) → shown_answer template_of (store_answer (held these) path) ≡ shown_answer template_of (store_answer (held those) path)
names_alike these those None agree = refl
names_alike these those (Some p) agree = path_shown (held these p) ∙ ap path_answer (agree p refl) ∙ sym (path_shown (held those p))

pub stores_alike : {T : Type 0} (these those : Store) (path : List ℕ) (tree : Statements) → AgreeOn (ReachesPath these path tree) (stored these) (stored those) → AnswerAlike {T = T} (Reaches (folder_table these path) tree) (from_store these path) (from_store those path)
stores_alike these those path tree agree q name reaches =
    ap (λ a. reply a q) (names_alike these those (resolved path name) (λ p is. agree p (name, reaches, is)))
