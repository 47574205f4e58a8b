-- How pages of files end.
use Rattle.std.proofs.Common.{◌≡◌, ℕ, List, Bool, Option, Some, None, refl, sym, subst}
use Rattle.upon_types.specs.Val.{Val}
use Rattle.upon_tool_io.specs.World.{World}
use Rattle.upon_tool_io.specs.Written.{Log}
use Rattle.upon_tool_io.specs.declared.files.ReadFault.{ReadFault}
use Rattle.upon_engine.specs.Texts.{Texts}
use Rattle.upon_tool_many.specs.Build.{EndsOf, EndsOfRead}
use Rattle.upon_tool_many.specs.declared.build.Build.{Build}
use Rattle.upon_tool_many.specs.declared.pages.PageEnd.{PageEnd}
use Rattle.upon_tool_many.specs.declared.pages.PageEnd.TheVariants.{Failed}
use Rattle.upon_tool_many.specs.declared.pages.PageFault.TheVariants.{Unread}

pub ends_known : (world : World) (name path : List ℕ) (known : Option ReadFault) (fault : ReadFault) (is_template : Bool) (e : Texts) (asked : Build) (context : Val) (old : Log) → known ≡ Some fault → EndsOf world known is_template name path e asked context (Failed (Unread fault)) old old
ends_known world name path known fault is_template e asked context old is = subst (λ known. EndsOf world known is_template name path e asked context (Failed (Unread fault)) old old) (sym is) (refl, refl)

pub ends_read : (world : World) (name path : List ℕ) (known : Option ReadFault) (is_template which : Bool) (e : Texts) (asked : Build) (context : Val) (end : PageEnd) (old new : Log) → known ≡ None → is_template ≡ which → EndsOfRead world which name path e asked context end old new → EndsOf world known is_template name path e asked context end old new
ends_read world name path known is_template which e asked context end old new none is said =
    subst (λ known. EndsOf world known is_template name path e asked context end old new) (sym none) (subst (λ is_template. EndsOfRead world is_template name path e asked context end old new) (sym is) said)
