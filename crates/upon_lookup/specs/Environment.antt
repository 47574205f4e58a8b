-- What is bound where a part of a template runs: bindings, innermost first, over a root.
use Rattle.std.specs.Prelude.{ℕ, List, [], ◌∷◌, ◌++◌, Option, Some, None, codes, bytes_eq, if◌then◌else◌}
use Rattle.upon_types.specs.Path.{Ident, Access, by_index, by_key}
use Rattle.upon_types.specs.Val.{Val}

-- a plain value, a loop's key, or a loop's state: its item of this index, of so many
pub data Bound : Type 0 where
  plain : Val → Bound
  key_text : List ℕ → Bound
  loop_state : ℕ → ℕ → Bound

-- what is bound to a name
pub record Binding : Type 0 where
  pub name : List ℕ
  pub bound : Bound

-- what lies under the bindings: a context, the value source, or nothing
pub data Root : Type 0 where
  context : Val → Root
  value_source : Root
  nothing : Root

-- bindings, innermost first, over a root
pub record Environment : Type 0 where
  pub bindings : List Binding
  pub root : Root

-- a name with what it is bound to
abbrev pub binding : List ℕ → Bound → Binding
binding name bound = record { name = name; bound = bound }

-- no bindings yet
abbrev pub root_environment : Root → Environment
root_environment root = record { bindings = []; root = root }

-- what `include .. with` gives: the value alone
abbrev pub alone_over : Val → Environment
alone_over v = root_environment (context v)

-- one binding more, and several, the first of them innermost
abbrev pub bind : Binding → Environment → Environment
bind b env = record env { bindings = b ∷ env.bindings }

-- several bindings more, the first of them innermost
abbrev pub bind_all : List Binding → Environment → Environment
bind_all bs env = record env { bindings = bs ++ env.bindings }

-- what `with` adds
abbrev pub with_name : Ident → Val → Environment → Environment
with_name word v env = bind (binding word.text (plain v)) env

-- what a loop adds for its item of this index, of so many: its state under `loop`, ahead of what the item binds
abbrev pub iteration : ℕ → ℕ → List Binding → Environment → Environment
iteration index count bs env = bind (binding (codes "loop") (loop_state index count)) (bind_all bs env)

-- the first binding of a name
abbrev pub first_bound : List ℕ → List Binding → Option Bound
first_bound name [] = None
first_bound name (b ∷ bs) = if bytes_eq name b.name then Some b.bound else first_bound name bs

-- what is bound to a path's first member, whatever its operator; an index is never bound
abbrev pub binding_of : Access → List Binding → Option Bound
binding_of (by_index n span) bs = None
binding_of (by_key word) bs = first_bound word.text bs
