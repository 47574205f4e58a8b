-- What is done with many pages.
use Rattle.std.specs.Prelude.{◌≡◌, ◌⊎◌, ℕ, List, false, Option, Some, None, if◌then◌else◌}
use Rattle.std.specs.List.{list_any}
use Rattle.upon_types.specs.Val.{Val}
use Rattle.upon_vm.specs.declared.limits.Limits.{Limits}
use Rattle.upon_engine.specs.Texts.{Texts}
use Rattle.upon_tool_io.specs.World.{World}
use Rattle.upon_tool_io.specs.Written.{Log}
use Rattle.upon_tool_many.specs.Build.{DoesBuild}
use Rattle.upon_tool_many.specs.Each.{DoesEach}
use Rattle.upon_tool_many.specs.Pages.{is_failed}
use Rattle.upon_tool_many.specs.declared.build.Build.{Build}
use Rattle.upon_tool_many.specs.declared.each.Each.{Each}
use Rattle.upon_tool_many.specs.declared.pages.DonePage.{DonePage}
use Rattle.upon_vm.specs.Limits.{is_limited}

-- no page failed
abbrev pub AreWell : List DonePage → Type 0
AreWell done = list_any (λ page. is_failed page.end) done ≡ false

-- limits, if one is set
abbrev pub limits_set : Limits → Option Limits
limits_set limits = if is_limited limits then Some limits else None

module _ (world : World) where
  -- A template was rendered for each item of a list of a value, and the status is 0 only if no page failed; or none
  -- was, and nothing was written, and the status is not 0.
  abbrev pub EachIsWell : Texts → Val → Each → ℕ → Log → Log → Type 0
  EachIsWell e v asked status old new =
      ((done : List DonePage) × DoesEach world e asked v done old new × (status ≡ 0 → AreWell done))
      ⊎ ((status ≡ 0 → ⊥) × (new ≡ old))

  -- A folder was built on a value, and the status is 0 only if no page failed; or it was not, and nothing was written,
  -- and the status is not 0.
  abbrev pub BuildIsWell : Texts → Val → Build → ℕ → Log → Log → Type 0
  BuildIsWell e v asked status old new =
      ((done : List DonePage) × DoesBuild world e asked v done old new × (status ≡ 0 → AreWell done))
      ⊎ ((status ≡ 0 → ⊥) × (new ≡ old))
