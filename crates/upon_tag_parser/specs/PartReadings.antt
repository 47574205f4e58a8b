-- Lists, maps and arguments that are read in part: whatever goes on as they do goes on with them.
use Rattle.std.specs.Prelude.{ℕ, List, [], ◌∷◌}
use Rattle.upon_types.specs.declared.types.Span.{Span}
use Rattle.upon_types.specs.Path.{Ident}
use Rattle.upon_types.specs.Expression.{Base, Bases, base_then, Items, item_then}
use Rattle.upon_language_spec.specs.Cut.{Lexeme}
use Rattle.upon_language_spec.specs.Expressions.{IsListBody, IsMapBody, IsArgs}
use Rattle.upon_language_spec.specs.Parts.{Part, list_start, map_start}
use Rattle.upon_language_spec.specs.PartTails.{TakesBase}
use Rattle.upon_language_spec.specs.PartLeads.{Leads}
use Rattle.upon_tag_parser.specs.TagParsing.{StartsBase, TakesComma}

-- expressions before others
abbrev pub bases_before : List Base → Bases → Bases
bases_before [] more = more
bases_before (b ∷ bs) more = base_then b (bases_before bs more)

-- entries before others
abbrev pub entries_before : List (Ident × Base) → Items → Items
entries_before [] more = more
entries_before (entry ∷ entries) more = item_then entry.0 entry.1 (entries_before entries more)

-- items were read up to an item's start
pub record ItemsTo (s : List ℕ) (items : List Base) (all now : List Lexeme) : Type 0 where
  pub body : (more : Bases) (span : Span) (rest : List Lexeme) → IsListBody s more span now rest
      → IsListBody s (bases_before items more) span all rest
  pub leads : (ps : List Part) → Leads s (list_start ∷ ps) all (list_start ∷ ps) now

-- entries were read up to an entry's start
pub record EntriesTo (s : List ℕ) (entries : List (Ident × Base)) (all now : List Lexeme) : Type 0 where
  pub body : (more : Items) (span : Span) (rest : List Lexeme) → IsMapBody s more span now rest
      → IsMapBody s (entries_before entries more) span all rest
  pub leads : (ps : List Part) → Leads s (map_start ∷ ps) all (map_start ∷ ps) now

-- some parts where the tokens are, at which a Base may start, and what is to come after it
pub record BaseStart (s : List ℕ) (from others : List Part) (all now : List Lexeme) : Type 0 where
  pub to : List Part
  pub leads : Leads s from all to now
  pub starts : StartsBase s to others now

-- some parts where the tokens are, which take what a Base may begin with, and what is to come after it
pub record BaseTaken (s : List ℕ) (from others : List Part) (all now : List Lexeme) : Type 0 where
  pub to : List Part
  pub leads : Leads s from all to now
  pub takes : TakesBase to others

-- arguments were read up to an argument's start
pub record ArgsTo (s : List ℕ) (values : List Base) (all now : List Lexeme) : Type 0 where
  pub body : (more : Bases) (rest : List Lexeme) → IsArgs s more now rest → IsArgs s (bases_before values more) all rest
  pub starts : (from parts : List Part) → TakesComma parts → StartsBase s from parts all
      → BaseStart s from parts all now
  pub takes : (from parts : List Part) → TakesComma parts → TakesBase from parts → BaseTaken s from parts all now
