-- Environments in which paths that begin so are found alike, under more and more bindings.
use Rattle.std.proofs.Common.{◌≡◌, ◌⊎◌, ℕ, List, [], ◌∷◌, map, Bool, true, false, Some, inl, inr, refl, sym, bytes_eq, if◌then◌else◌}
use Rattle.std.proofs.lemmas.Slice.Eq.{bytes_eq-Decides}
use Rattle.upon_types.specs.declared.types.Span.{Span}
use Rattle.upon_types.specs.declared.types.ast.path.AccessOp.{AccessOp}
use Rattle.upon_types.specs.Path.{Ident, Access, by_index, by_key, Member}
use Rattle.upon_types.specs.Val.{Val}
use Rattle.upon_lookup.specs.Environment.{alone_over, Binding, Root, Environment, bind, bind_all, first_bound}
use Rattle.upon_lookup.specs.Finding.{Finding, found, at_fault}
use Rattle.upon_lookup.specs.Lookup.{maybe_bound, bound_value, or_root, lookup}
use Rattle.upon_lookup.specs.Walk.{as_some}
use Rattle.upon_lookup.specs.Source.{Source}
use Rattle.upon_meaning_spec.specs.Needs.{Start, a_name, an_index, IsStart, Hides, OneHides}

-- how a path begins
abbrev pub start_of : Access → Start
start_of (by_index n span) = an_index
start_of (by_key word) = a_name word.text

-- every path that begins so is found alike
abbrev pub FoundAlike : {V : Type 0} → Source V → Source V → (Start → Type 0) → Environment → Environment → Type 0
FoundAlike {V} ask ask' starts env env' = (first : Member) (rest : List Member) (q : V) → starts (start_of first.access) → lookup ask env first rest q ≡ lookup ask' env' first rest q

-- each of the first is one of the second
abbrev pub Within : (Start → Type 0) → (Start → Type 0) → Type 0
Within some starts = (start : Start) → some start → starts start

-- one of the bindings hides it
abbrev pub HiddenBy : List Binding → Start → Type 0
HiddenBy bs start = OneHides (map (λ (b : Binding). b.name) bs) start

pub begun : (starts : Start → Type 0) (access : Access) → Within (λ start. IsStart start access) starts → starts (start_of access)
begun starts (by_index n span) h = h an_index tt
begun starts (by_key word) h = h (a_name word.text) refl

pub fewer : {V : Type 0} (ask ask' : Source V) (some starts : Start → Type 0) (env env' : Environment) → FoundAlike ask ask' starts env env' → Within some starts → FoundAlike ask ask' some env env'
fewer ask ask' some starts env env' alike h first rest q known = alike first rest q (h (start_of first.access) known)

module _ {V : Type 0} (ask ask' : Source V) where
  bound_alike : (x : Finding Val) (root root' : Root) (first : Member) (rest : List Member) (q : V) → or_root (as_some x) ask root first rest q ≡ or_root (as_some x) ask' root' first rest q
  bound_alike (found v) root root' first rest q = refl
  bound_alike (at_fault fault) root root' first rest q = refl

  not_both : (a b : List ℕ) → bytes_eq a b ≡ false → b ≡ a → ⊥
  not_both a b e same = let t : bytes_eq a b ≡ true = (bytes_eq-Decides a b).1 (sym same) in absurd (cc)

  module _ (inside starts : Start → Type 0) (b : Binding) (env env' : Environment) (alike : FoundAlike ask ask' starts env env') (outside : (start : Start) → inside start → (Hides b.name start → ⊥) → starts start) where
    by_test : (x : Bool) (op : AccessOp) (word : Ident) (span : Span) (rest : List Member) (q : V) → inside (a_name word.text) → bytes_eq word.text b.name ≡ x →
        or_root (maybe_bound (if x then Some b.bound else first_bound word.text env.bindings) rest) ask env.root (record { op = op; access = by_key word; span = span }) rest q
        ≡ or_root (maybe_bound (if x then Some b.bound else first_bound word.text env'.bindings) rest) ask' env'.root (record { op = op; access = by_key word; span = span }) rest q
    by_test true op word span rest q known is = bound_alike (bound_value b.bound rest) env.root env'.root (record { op = op; access = by_key word; span = span }) rest q
    by_test false op word span rest q known is =
        alike (record { op = op; access = by_key word; span = span }) rest q (outside (a_name word.text) known (λ same. not_both word.text b.name is same))

    by_selector : (selector : Access) (op : AccessOp) (span : Span) (rest : List Member) (q : V) → inside (start_of selector) →
        lookup ask (bind b env) (record { op = op; access = selector; span = span }) rest q ≡ lookup ask' (bind b env') (record { op = op; access = selector; span = span }) rest q
    by_selector (by_index n at) op span rest q known = alike (record { op = op; access = by_index n at; span = span }) rest q (outside an_index known (λ none. none))
    by_selector (by_key word) op span rest q known = by_test (bytes_eq word.text b.name) op word span rest q known refl

    -- one binding more on both sides: what it hides is found alike too
    pub alike_bind : FoundAlike ask ask' inside (bind b env) (bind b env')
    alike_bind first rest q known = by_selector first.access first.op first.span rest q known

  pub alike_bind_all : (inside starts : Start → Type 0) (bs : List Binding) (env env' : Environment) → FoundAlike ask ask' starts env env' → ((start : Start) → inside start → (HiddenBy bs start → ⊥) → starts start) → FoundAlike ask ask' inside (bind_all bs env) (bind_all bs env')
  alike_bind_all inside starts [] env env' alike outside = fewer ask ask' inside starts env env' alike (λ start i. outside start i (λ none. none))
  alike_bind_all inside starts (b ∷ bs) env env' alike outside =
      let middle : Start → Type 0 = λ start. inside start × (Hides b.name start → ⊥) in
      let either : (start : Start) → (Hides b.name start → ⊥) → (HiddenBy bs start → ⊥) → Hides b.name start ⊎ HiddenBy bs start → ⊥ = λ start n m h. neither n m h in
      alike_bind inside middle b (bind_all bs env) (bind_all bs env')
      (alike_bind_all middle starts bs env env' alike (λ start both none. outside start both.0 (either start both.1 none)))
      (λ start i none. (i, none))
    where
      neither : {A B : Type 0} → (A → ⊥) → (B → ⊥) → A ⊎ B → ⊥
      neither n m (inl a) = n a
      neither n m (inr b) = m b

  -- over a value alone the source is not asked
  over_value : (v : Val) (selector : Access) (op : AccessOp) (span : Span) (rest : List Member) (q : V) →
      lookup ask (alone_over v) (record { op = op; access = selector; span = span }) rest q ≡ lookup ask' (alone_over v) (record { op = op; access = selector; span = span }) rest q
  over_value v (by_index n at) op span rest q = refl
  over_value v (by_key word) op span rest q = refl

  pub alike_over : (starts : Start → Type 0) (v : Val) → FoundAlike ask ask' starts (alone_over v) (alone_over v)
  alike_over starts v first rest q known = over_value v first.access first.op first.span rest q
