-- What is valid where a schema is read, and what is wrong there.
use Rattle.std.specs.Prelude.{ℕ, ◌+◌, List, map}
use Rattle.upon_types.specs.Val.{Val}
use Rattle.upon_types.specs.View.{view}
use Rattle.upon_schema.specs.Counted.{schemas_read}
use Rattle.upon_schema.specs.Refusal.{Refusal}
use Rattle.upon_schema.specs.Refused.{IsCause, IsNoReference}
use Rattle.upon_schema.specs.Valid.{ValidWithin}
use Rattle.upon_schema.specs.declared.place.Place.{Place}

-- a value is valid by a schema as deep as it is read here
abbrev pub ValidAt : Place → Val → Val → Type 0
ValidAt p schema v = ValidWithin p.depth (view p.root.now) schema v

-- a schema that is read here is the cause of a refusal
abbrev pub IsCauseAt : Place → Val → Refusal → Type 0
IsCauseAt p schema r = IsCause p.depth (view p.root.now) schema r

-- a schema around, which is no reference, is the cause of a refusal
abbrev pub IsCauseAround : Place → Val → Refusal → Type 0
IsCauseAround p schema r = IsNoReference schema → IsCause (p.depth + 1) (view p.root.now) schema r

-- the references that are open here
abbrev pub references_at : Place → List (List ℕ)
references_at p = map (λ r. r.now) p.references.now

-- how many schemas are read where a schema is read here
abbrev pub count_at : Place → Val → ℕ
count_at p schema = schemas_read p.depth (view p.root.now) (references_at p) schema
