-- Environments in which the names of a set are found alike, and bindings that hide others of their name.
use Rattle.std.proofs.Common.{◌≡◌, ℕ, List, [], ◌∷◌, ◌++◌, Bool, true, false, Option, Some, inl, inr, refl, sym, ap, ◌∙◌, bytes_eq, if◌then◌else◌}
use Rattle.upon_types.specs.declared.types.Span.{Span}
use Rattle.upon_types.specs.declared.types.ast.path.AccessOp.{AccessOp}
use Rattle.upon_types.specs.Path.{Ident, Access, by_index, by_key, Member}
use Rattle.upon_types.specs.Val.{Val}
use Rattle.upon_lookup.specs.Environment.{Bound, Binding, Root, Environment, bind, bind_all, first_bound}
use Rattle.upon_lookup.specs.Finding.{Finding, found, at_fault}
use Rattle.upon_lookup.specs.Lookup.{maybe_bound, bound_value, or_root, lookup}
use Rattle.upon_lookup.specs.Walk.{as_some}
use Rattle.upon_lookup.specs.Source.{Source}
use Rattle.upon_meaning_spec.specs.Shadowing.{Binds}

-- the first member is an index, or one of the names
abbrev pub Known : (List ℕ → Type 0) → Access → Type 0
Known names (by_index n span) = Unit {0}
Known names (by_key word) = names word.text

-- every path that begins with one of the names is found alike
abbrev pub FoundAlike : {V : Type 0} → Source V → (List ℕ → Type 0) → Environment → Environment → Type 0
FoundAlike {V} ask names env env' = (first : Member) (rest : List Member) (q : V) → Known names first.access → lookup ask env first rest q ≡ lookup ask env' first rest q

module _ {V : Type 0} (ask : Source V) where
  -- what is bound answers, whatever the root
  bound_alike : (x : Finding Val) (root root' : Root) (first : Member) (rest : List Member) (q : V) → or_root (as_some x) ask root first rest q ≡ or_root (as_some x) ask root' first rest q
  bound_alike (found v) root root' first rest q = refl
  bound_alike (at_fault fault) root root' first rest q = refl

  module _ (names : List ℕ → Type 0) (b : Binding) (env env' : Environment) (alike : FoundAlike ask names env env') where
    by_test : (x : Bool) (op : AccessOp) (word : Ident) (span : Span) (rest : List Member) (q : V) → names word.text →
        or_root (maybe_bound (if x then Some b.bound else first_bound word.text env.bindings) rest) ask env.root (record { op = op; access = by_key word; span = span }) rest q
        ≡ or_root (maybe_bound (if x then Some b.bound else first_bound word.text env'.bindings) rest) ask env'.root (record { op = op; access = by_key word; span = span }) rest q
    by_test true op word span rest q known = bound_alike (bound_value b.bound rest) env.root env'.root (record { op = op; access = by_key word; span = span }) rest q
    by_test false op word span rest q known = alike (record { op = op; access = by_key word; span = span }) rest q known

    by_selector : (selector : Access) (op : AccessOp) (span : Span) (rest : List Member) (q : V) → Known names selector →
        lookup ask (bind b env) (record { op = op; access = selector; span = span }) rest q ≡ lookup ask (bind b env') (record { op = op; access = selector; span = span }) rest q
    by_selector (by_index n at) op span rest q known = alike (record { op = op; access = by_index n at; span = span }) rest q known
    by_selector (by_key word) op span rest q known = by_test (bytes_eq word.text b.name) op word span rest q known

    -- one binding more on both sides
    pub alike_bind : FoundAlike ask names (bind b env) (bind b env')
    alike_bind first rest q known = by_selector first.access first.op first.span rest q known

  pub alike_bind_all : (names : List ℕ → Type 0) (bs : List Binding) (env env' : Environment) → FoundAlike ask names env env' → FoundAlike ask names (bind_all bs env) (bind_all bs env')
  alike_bind_all names [] env env' alike = alike
  alike_bind_all names (b ∷ bs) env env' alike = alike_bind names b (bind_all bs env) (bind_all bs env') (alike_bind_all names bs env env' alike)

-- every name
abbrev pub Any : List ℕ → Type 0
Any name = Unit {0}

-- a binding hides another of its name that is further out
module _ (b : Binding) (outer : List Binding) where
  abbrev Hidden : List ℕ → List Binding → Type 0
  Hidden w bs = first_bound w (bs ++ b ∷ outer) ≡ first_bound w (bs ++ outer)

  both : (x : Bool) (c : Bound) (y z : Option Bound) → (x ≡ false → y ≡ z) → (if x then Some c else y) ≡ (if x then Some c else z)
  both true c y z h = refl
  both false c y z h = h refl

  -- a name that is not its own is found as if it were not there
  pub other_name : (w : List ℕ) (bs : List Binding) → bytes_eq w b.name ≡ false → Hidden w bs
  other_name w [] other = ap (λ x. if x then Some b.bound else first_bound w outer) other
  other_name w (c ∷ bs) other = both (bytes_eq w c.name) c.bound (first_bound w (bs ++ b ∷ outer)) (first_bound w (bs ++ outer)) (λ e. other_name w bs other)

  hidden : (w : List ℕ) (bs : List Binding) → Binds b.name bs → Hidden w bs
  hidden w [] h = absurd h
  hidden w (c ∷ bs) (inl same) = both (bytes_eq w c.name) c.bound (first_bound w (bs ++ b ∷ outer)) (first_bound w (bs ++ outer)) (λ e. other_name w bs (ap (bytes_eq w) (sym same) ∙ e))
  hidden w (c ∷ bs) (inr behind) = both (bytes_eq w c.name) c.bound (first_bound w (bs ++ b ∷ outer)) (first_bound w (bs ++ outer)) (λ e. hidden w bs behind)

module _ {V : Type 0} (ask : Source V) (b : Binding) (bs : List Binding) (env : Environment) (binds : Binds b.name bs) where
  hidden_at : (selector : Access) (op : AccessOp) (span : Span) (rest : List Member) (q : V) →
      lookup ask (bind_all bs (bind b env)) (record { op = op; access = selector; span = span }) rest q ≡ lookup ask (bind_all bs env) (record { op = op; access = selector; span = span }) rest q
  hidden_at (by_index n at) op span rest q = refl
  hidden_at (by_key word) op span rest q =
      ap (λ x. or_root (maybe_bound x rest) ask env.root (record { op = op; access = by_key word; span = span }) rest q) (hidden b env.bindings word.text bs binds)

  pub hides : FoundAlike ask Any (bind_all bs (bind b env)) (bind_all bs env)
  hides first rest q known = hidden_at first.access first.op first.span rest q

-- what is bound among the first is bound among all
pub binds_more : (name : List ℕ) (bs cs : List Binding) → Binds name bs → Binds name (bs ++ cs)
binds_more name [] cs h = absurd h
binds_more name (b ∷ bs) cs (inl same) = inl same
binds_more name (b ∷ bs) cs (inr behind) = inr (binds_more name bs cs behind)
