-- What each call of rendering keeps: what a depth changes, what an include with a value gives, what a template depends
-- on, of what its text is made.
use Rattle.std.specs.Prelude.{◌≡◌, ◌≢◌, ℕ, suc, ◌≤◌, ◌<◌, List, Some}
use Rattle.upon_types.specs.Expression.{Expression}
use Rattle.upon_types.specs.Path.{Ident}
use Rattle.upon_types.specs.Tree.{include}
use Rattle.upon_types.specs.Val.{Val, Entries, map_val, entry_at}
use Rattle.upon_lookup.specs.Environment.{Environment, context}
use Rattle.upon_meaning_spec.specs.Alone.{included, alone}
use Rattle.upon_meaning_spec.specs.Engine.{Template, Table, from_table}
use Rattle.upon_meaning_spec.specs.GreaterDepth.{GoesOn}
use Rattle.upon_meaning_spec.specs.IncludeFinds.{IncludeFinds}
use Rattle.upon_meaning_spec.specs.Includes.{Reaches, IsNumbered}
use Rattle.upon_meaning_spec.specs.Meaning.{RunningTemplate, statement_means}
use Rattle.upon_meaning_spec.specs.Names.{Reads, AgreeOn}
use Rattle.upon_meaning_spec.specs.Outcome.{States, too_deep}
use Rattle.upon_meaning_spec.specs.Parts.{WovenOf}
use Rattle.upon_engine.specs.Base.{on_root}
use Rattle.upon_engine.specs.Calls.{Call, outcome, at_depth, on_base, answered_by}
use Rattle.upon_engine.specs.Pieces.{pieces_of_call}

-- a greater depth changes nothing but where includes were too deep
abbrev pub DepthsAgree : {V T : Type 0} → Call V T → Type 0
DepthsAgree c = (a b : ℕ) → a ≤ b → GoesOn (outcome (at_depth a c)) (outcome (at_depth b c))

-- includes whose numbers fall, from one below the depth, are never too deep
abbrev pub NumbersSuffice : {V T : Type 0} → Call V T → Type 0
NumbersSuffice c =
    (table : Table) (number : List ℕ → ℕ) (k : ℕ) → c.rendering.resolve ≡ from_table table
    → IsNumbered table number c.template.tree k → k < c.rendering.limit →
    (outcome c).end ≢ too_deep

-- an include with a value, anywhere in this rendering, gives what its template gives alone on the value
abbrev pub IncludesAlone : {V T : Type 0} → Call V T → Type 0
IncludesAlone {V} {T} c =
    (running : RunningTemplate) (left : ℕ) (word : Ident) (e : Expression) (env : Environment) (s : States V T)
    (v : Val) (t : Template) (next : States V T) →
    IncludeFinds c.rendering.calls c.rendering.resolve word e env s v t next →
    statement_means c.rendering.calls (included c.rendering.calls c.rendering.resolve (suc left)) running
    (include word (Some e)) env s ≡
    alone (record c.rendering { limit = suc left }) t (Some word.text) (context v) next

-- with the templates of a table: maps that agree on the names that are read give the same, and tables that agree on
-- those reached
abbrev pub NamesSuffice : {V T : Type 0} → Call V T → Type 0
NamesSuffice c =
    (table : Table) (these those : Entries) → c.rendering.resolve ≡ from_table table
    → c.base ≡ on_root (context (map_val these)) →
    AgreeOn (Reads table c.template.tree) (λ n. entry_at n these) (λ n. entry_at n those) →
    outcome c ≡ outcome (on_base (on_root (context (map_val those))) c)

abbrev pub TemplatesSuffice : {V T : Type 0} → Call V T → Type 0
TemplatesSuffice c =
    (these those : Table) → c.rendering.resolve ≡ from_table these →
    AgreeOn (Reaches these c.template.tree) these those →
    outcome c ≡ outcome (answered_by (from_table those) c)

-- over a context the value source is not asked
abbrev pub SourceStays : {V T : Type 0} → Call V T → Type 0
SourceStays c = (v : Val) → c.base ≡ on_root (context v) → (outcome c).next.values ≡ c.from.values

-- the text, up to its end, is the call's pieces joined, in their order: each is a raw part of the template or of one
-- that it reaches, or what the default formatter, or one that they name, wrote for a value
abbrev pub IsWoven : {V T : Type 0} → Call V T → Type 0
IsWoven c = WovenOf c.rendering.calls c.rendering.resolve c.template (pieces_of_call c) (outcome c).text

-- all of these
pub record KeepsLaws {V T : Type 0} (c : Call V T) : Type 0 where
  pub depths : DepthsAgree c
  pub numbered : NumbersSuffice c
  pub isolated : IncludesAlone c
  pub names_read : NamesSuffice c
  pub reached : TemplatesSuffice c
  pub source_stays : SourceStays c
  pub woven : IsWoven c
