-- How a context is put together.
use Rattle.std.proofs.Common.{◌≡◌, ℕ, List, Bool, Bor, Option, Some, subst, inl, inr}
use Rattle.upon_types.specs.Val.{Val, map_val, Entries}
use Rattle.upon_data.specs.declared.format.Format.{Format}
use Rattle.upon_tool_io.specs.World.{World}
use Rattle.upon_tool_data.specs.Context.{IsContext, RefusesContext}
use Rattle.upon_tool_data.specs.Environment.{HasEnvironment, RefusesEnvironment}
use Rattle.upon_tool_data.specs.Files.{AddsFiles, RefusesFiles}
use Rattle.upon_tool_data.specs.Settings.{set_each, RefusesSettings}
use Rattle.upon_tool_data.specs.Words.{format_asked}
use Rattle.upon_tool_data.specs.declared.fault.ContextFault.{ContextFault}
use Rattle.upon_tool_data.specs.declared.settings.Writing.TheVariants.{Text, Json}

module _ (world : World) (env : Bool) (files : List (Bor (List ℕ))) (format : Option (Bor (List ℕ))) (values texts : List (Bor (List ℕ))) (input : Option (List ℕ)) where
  pub environment_refused : (fault : ContextFault) → RefusesEnvironment world env fault → RefusesContext world env files format values texts input fault
  environment_refused fault refused = inl refused

module _ (world : World) (env : Bool) (files : List (Bor (List ℕ))) (format : Option (Bor (List ℕ))) (values texts : List (Bor (List ℕ))) (input : Option (List ℕ)) (given : Option Format) (start : Entries) (asked : given ≡ format_asked format) (has : HasEnvironment world env start) where
  files_so : (later : Option (List ℕ)) (es : Entries) → AddsFiles world given files input start later es → AddsFiles world (format_asked format) files input start later es
  files_so later es adds = subst (λ given. AddsFiles world given files input start later es) asked adds

  pub context_is : (later : Option (List ℕ)) (es mid new : Entries) (v : Val) → AddsFiles world given files input start later es → set_each Json values es ≡ Some mid → set_each Text texts mid ≡ Some new → v ≡ map_val new → IsContext world env files format values texts input v later
  context_is later es mid new v adds set_values set_texts is = (start, es, mid, new, has, files_so later es adds, set_values, set_texts, is)

  pub files_refused : (fault : ContextFault) → RefusesFiles world given files input start fault → RefusesContext world env files format values texts input fault
  files_refused fault refused = inr (start, has, inl (subst (λ given. RefusesFiles world given files input start fault) asked refused))

  pub values_refused : (later : Option (List ℕ)) (es : Entries) (fault : ContextFault) → AddsFiles world given files input start later es → RefusesSettings Json values es fault → RefusesContext world env files format values texts input fault
  values_refused later es fault adds refused = inr (start, has, inr (es, later, files_so later es adds, inl refused))

  pub texts_refused : (later : Option (List ℕ)) (es mid : Entries) (fault : ContextFault) → AddsFiles world given files input start later es → set_each Json values es ≡ Some mid → RefusesSettings Text texts mid fault → RefusesContext world env files format values texts input fault
  texts_refused later es mid fault adds set_values refused = inr (start, has, inr (es, later, files_so later es adds, inr (mid, set_values, refused)))
