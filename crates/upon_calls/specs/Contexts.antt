-- Contexts on which the pages of a check are to end without a fault, as options give them.
use Rattle.std.specs.Prelude.{◌≡◌, ◌⊎◌, ℕ, List, [], ◌∷◌, All, Contains, map, true, false, Option, Some, None, IsSomeAnd, option_map, option_and_then, codes}
use Rattle.upon_types.specs.Tree.{Statements}
use Rattle.upon_types.specs.Fault.{Fault}
use Rattle.upon_types.specs.Val.{Val, list_val, map_val, key_of, Vals, no_vals, val_then}
use Rattle.upon_language_spec.specs.Grammar.{HasTree}
use Rattle.upon_meaning_spec.specs.Alone.{fault_of_end}
use Rattle.upon_meaning_spec.specs.CallFaults.{depth_reached}
use Rattle.upon_meaning_spec.specs.Engine.{Table}
use Rattle.upon_meaning_spec.specs.MapOrder.{IsAmong}
use Rattle.upon_json.specs.Context.{entries_in}
use Rattle.upon_shape_spec.specs.Fits.{Fits, MapsRise}
use Rattle.upon_shape_spec.specs.Shape.{Shape}
use Rattle.upon_shape.specs.View.{shape_view}
use Rattle.upon_schema.specs.Refusal.{Refusal, out_of_memory}
use Rattle.upon_schema.specs.Refused.{IsRefusedSchema}
use Rattle.upon_schema.specs.Valid.{Valid}
use Rattle.upon_needs.specs.Names.{texts}
use Rattle.upon_engine.specs.Texts.{Stored, Texts}
use Rattle.upon_engine.specs.Theorem.{IsTable, meaning}
use Rattle.upon_calls.specs.Arguments.{IsArgumentValue, its_text}
use Rattle.upon_calls.specs.Asked.{Asked, Asks}
use Rattle.upon_calls.specs.Check.{is_missing}
use Rattle.upon_calls.specs.declared.contexts.CheckContexts.{CheckContexts}
use Rattle.upon_calls.specs.declared.options.Known.TheVariants.{Rendering, OnContexts}

-- the shape of contexts, and the names of pages, if they are given
pub record Contexts : Type 0 where
  pub shape : Shape
  pub pages : Option (List (List ℕ))

-- what the code knows of them
abbrev pub contexts_by : CheckContexts → Contexts
contexts_by c = record { shape = shape_view c.shape; pages = option_map (λ names. texts names.items) c.pages }

-- the context of a sample: an object, or a list at the key `items`
abbrev pub sample_in : Val → Option Val
sample_in v = option_map map_val (entries_in v)

-- what each of some values is, if each is something
abbrev pub read_each : {A : Type 0} → (Val → Option A) → Vals → Option (List A)
read_each read no_vals = Some []
read_each read (val_then v vs) = option_and_then (λ a. option_map (λ rest. a ∷ rest) (read_each read vs)) (read v)

-- the samples of a list, which has one at least
abbrev pub samples_in : Val → Option (List Val)
samples_in (list_val (val_then v vs)) = read_each sample_in (val_then v vs)
samples_in _ = None

-- each sample that a value is fits a shape
abbrev pub SamplesFit : Val → Shape → Type 0
SamplesFit v s = (samples : List Val) × (samples_in v ≡ Some samples)
    × ((sample : Val) → IsAmong sample samples → Fits s sample)

-- each value that is valid by a schema fits a shape, if its keys are in order, as in each value of the code
abbrev pub ValidFit : Val → Shape → Type 0
ValidFit schema s = (v : Val) → MapsRise v → Valid schema v → Fits s v

-- the shape of contexts by samples, or by a schema, but not by both; of neither there is none
abbrev pub IsShapeBy : Option Val → Option Val → Option Shape → Type 0
IsShapeBy None None None = Unit {0}
IsShapeBy (Some samples) None (Some s) = SamplesFit samples s
IsShapeBy None (Some schema) (Some s) = ValidFit schema s
IsShapeBy samples schema s = ⊥

-- a schema is not read, for a cause that is in it
abbrev pub IsUnreadSchema : Val → Type 0
IsUnreadSchema schema = (r : Refusal) × (r ≡ out_of_memory → ⊥) × IsRefusedSchema 128 65536 schema r

-- there is no shape of them, or their schema is not read
abbrev pub NoShapeBy : Option Val → Option Val → Type 0
NoShapeBy samples schema =
    ((shape : Option Shape) → IsShapeBy samples schema shape → ⊥) ⊎ IsSomeAnd schema IsUnreadSchema

-- the names of pages at a key: none are given if nothing is there
abbrev pub pages_in : Option Val → Option (Option (List (List ℕ)))
pages_in None = Some None
pages_in (Some (list_val vs)) = option_map (λ names. Some names) (read_each its_text vs)
pages_in (Some _) = None

-- A value asks for this, and for a check on contexts.
pub record AsksOn (v : Val) (asked : Asked) (contexts : Contexts) : Type 0 where
  pub asks : Asks OnContexts v asked
  pub shape : IsShapeBy (key_of (codes "samples") v) (key_of (codes "schema") v) (Some contexts.shape)
  pub pages : pages_in (key_of (codes "pages") v) ≡ Some contexts.pages

-- what a value asks a check for: without contexts what it asks a rendering for
abbrev pub AsksCheck : Val → Asked → Option Contexts → Type 0
AsksCheck v asked None = Asks Rendering v asked
AsksCheck v asked (Some contexts) = AsksOn v asked contexts

-- it asks a check for nothing, or its schema is not read
abbrev pub AsksNoCheck : Val → Type 0
AsksNoCheck v = ((asked : Asked) (contexts : Option Contexts) → AsksCheck v asked contexts → ⊥)
    ⊎ IsSomeAnd (key_of (codes "schema") v) IsUnreadSchema

-- the text of options asks a check for this
abbrev pub IsCheckAsked : List ℕ → Asked → Option Contexts → Type 0
IsCheckAsked text asked contexts = (v : Val) × IsArgumentValue text v × AsksCheck v asked contexts

-- it asks for nothing, its schema is not read, or it is no JSON
abbrev pub IsCheckUnasked : List ℕ → Type 0
IsCheckUnasked text = (v : Val) → IsArgumentValue text v → AsksNoCheck v

-- the pages that are checked: those that are named, or all templates
abbrev pub checked_pages : Option (List (List ℕ)) → List (List ℕ × List ℕ) → List (List ℕ)
checked_pages None sources = map (λ source. source.0) sources
checked_pages (Some names) sources = names

-- what the template of a name means on each value of a shape ends without a fault, but that includes may be too deep
-- one inside another
abbrev pub EndsOnEach : Texts → List ℕ → Shape → Type 0
EndsOnEach e name s =
    (table : Table) (held : Stored) (tree : Statements) (v : Val) (f : Fault)
    → IsTable e.texts table → e.texts name ≡ Some held → ∥ HasTree held.syntax held.text tree ∥₁ → Fits s v
    → fault_of_end e.depth (meaning e table (Some name) held.text tree v).end ≡ Some f → f ≡ depth_reached e.depth

-- each page that is named is one of the templates of an object
abbrev pub AreThere : Option (List (List ℕ)) → Val → Type 0
AreThere None templates = Unit {0}
AreThere (Some names) templates = All (λ name. is_missing templates name ≡ false) names

-- one that is named is none of them
abbrev pub IsOneMissing : Option (List (List ℕ)) → Val → Type 0
IsOneMissing None templates = ⊥
IsOneMissing (Some names) templates = (name : List ℕ) × Contains names name × (is_missing templates name ≡ true)

-- Of contexts that are given: each page is a template, and ends so on them.
pub record PagesEnd (contexts : Contexts) (e : Texts) (templates : Val) (sources : List (List ℕ × List ℕ))
    : Type 0 where
  pub there : AreThere contexts.pages templates
  pub ends : All (λ name. EndsOnEach e name contexts.shape) (checked_pages contexts.pages sources)

-- if contexts are given, each page is a template, and ends on each of them without a fault but the depth of includes
abbrev pub PagesEndIf : Option Contexts → Texts → Val → List (List ℕ × List ℕ) → Type 0
PagesEndIf None e templates sources = Unit {0}
PagesEndIf (Some contexts) e templates sources = PagesEnd contexts e templates sources

-- contexts are given with the name of a page that no template has
abbrev pub LacksPage : Option Contexts → Val → Type 0
LacksPage None templates = ⊥
LacksPage (Some contexts) templates = IsOneMissing contexts.pages templates
