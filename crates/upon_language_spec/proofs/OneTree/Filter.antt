-- Tokens are one expression with filters at most.
use Rattle.std.proofs.Common.{◌≡◌, ◌⊎◌, ℕ, List, false, inl, inr, refl, sym, ap, ◌∙◌}
use Rattle.upon_types.specs.declared.types.Span.{Span}
use Rattle.upon_types.specs.declared.types.token.Token.TheVariants.{Pipe}
use Rattle.upon_types.specs.Path.{Ident}
use Rattle.upon_types.specs.Expression.{Expression, base, filtered, Base, Arguments, expression_span}
use Rattle.upon_language_spec.specs.Cut.{Lexeme}
use Rattle.upon_language_spec.specs.Tokens.{GoesBy}
use Rattle.upon_language_spec.specs.Expressions.{IsBase, IsExpression, filter_end}
use Rattle.upon_language_spec.proofs.OneTree.Token.{first_token, no_token, one_goes_by, one_name}
use Rattle.upon_language_spec.proofs.OneTree.Path.{BehindBase}
use Rattle.upon_language_spec.proofs.OneTree.Claims.{continues_filters, BehindArgs, BehindExpression, OneBase, OneFilterArgs, IsFilter, Within, OneExpression}
use Rattle.upon_language_spec.proofs.OneTree.Arguments.{args_end_at}

pipe_behind : (ts r : List Lexeme) → GoesBy Pipe ts r → BehindArgs ts
pipe_behind ts r g = args_end_at Pipe ts r refl refl g

no_pipe : (ts us r : List Lexeme) → ts ≡ us → continues_filters (first_token ts) ≡ false → GoesBy Pipe us r → ⊥
no_pipe ts us r same none g = no_token continues_filters Pipe ts us r refl same none g

module _ (s : List ℕ) where
  base_before : (b : Base) → OneBase s b → (f : Expression) (ts us mid rest : List Lexeme) → ts ≡ us → IsBase s b ts mid → BehindBase mid → IsExpression s f us rest → BehindBase rest → ((base b ≡ f) × (mid ≡ rest)) ⊎ Within s (base b) mid f rest
  base_before b one (base c) ts us mid rest same h p k q = let o = one c ts us mid rest same h p k q in inl (ap base o.0, o.1)
  base_before b one (filtered f name args span) ts us mid rest same h p k q =
      inr (k.0, base_before b one f ts us mid k.0 same h p k.3 (pipe_behind k.0 k.1 k.4).0, (k.1, k.2, k.4, k.5, k.6, k.7))

  pub one_base_alone : (b : Base) → OneBase s b → OneExpression s (base b)
  one_base_alone b one f ts us mid rest same h p k q = base_before b one f ts us mid rest same h p.0 k q.0.0

  -- two readings of a filter after one expression give one tree, and leave the same tokens
  one_filter : (e f : Expression) (name word : Ident) (args others : Arguments) (span place : Span) (ts us r x : List Lexeme) → OneFilterArgs s args → e ≡ f → ts ≡ us
      → IsFilter s e name args span ts r → BehindArgs r → IsFilter s f word others place us x → BehindArgs x → (filtered e name args span ≡ filtered f word others place) × (r ≡ x)
  one_filter e f name word args others span place ts us r x one before same h p k q =
      let start = (one_goes_by Pipe Pipe ts us h.0 k.0 same h.2 k.2).1 in
      let o = one_name s name word h.0 k.0 h.1 k.1 start h.3 k.3 in
      let a = one others h.1 k.1 r x o.1 h.4 p k.4 q in
      let names : name ≡ word = o.0 in
      let all : args ≡ others = a.0 in
      let stands : span ≡ place = h.5 ∙ (λ i. record { m = (expression_span (before i)).m; n = filter_end (names i) (all i) }) ∙ sym k.5 in
      ((λ i. filtered (before i) (names i) (all i) (stands i)), a.1)

  -- with one filter more it is the other one, or still within it
  one_more : (e f : Expression) (name : Ident) (args : Arguments) (span : Span) (mid r rest : List Lexeme) → OneFilterArgs s args
      → IsFilter s e name args span mid r → BehindArgs r → Within s e mid f rest → BehindArgs rest
      → ((filtered e name args span ≡ f) × (r ≡ rest)) ⊎ Within s (filtered e name args span) r f rest
  one_more e (base c) name args span mid r rest one h p w q = absurd w
  one_more e (filtered f word others place) name args span mid r rest one h p (next, inl same, filter) q =
      inl (one_filter e f name word args others span place mid next r rest one same.0 same.1 h p filter q)
  one_more e (filtered f word others place) name args span mid r rest one h p (next, inr within, filter) q =
      inr (next, one_more e f name args span mid r next one h p within (pipe_behind next filter.0 filter.2), filter)

  -- after an expression within another one goes a filter
  ends_within : (e f : Expression) (mid rest : List Lexeme) → Within s e mid f rest → continues_filters (first_token mid) ≡ false → ⊥
  ends_within e (base c) mid rest w none = absurd w
  ends_within e (filtered f word others place) mid rest (next, inl same, filter) none = no_pipe mid next filter.0 same.1 none filter.2
  ends_within e (filtered f word others place) mid rest (next, inr within, filter) none = ends_within e f mid next within none

  pub one_filtered : (e : Expression) (name : Ident) (args : Arguments) (span : Span) → OneExpression s e → OneFilterArgs s args → OneExpression s (filtered e name args span)
  one_filtered e name args span one filters f ts us mid rest same h p k q =
      let filter : IsFilter s e name args span h.0 mid = (h.1, h.2, h.4, h.5, h.6, h.7) in
      elim (one f ts us h.0 rest same h.3 (pipe_behind h.0 h.1 h.4) k q) [
        | inl all ↦ absurd (no_pipe rest h.0 h.1 (sym all.1) q.1 h.4)
        | inr within ↦ one_more e f name args span h.0 mid rest filters filter p within q.0
      ]

  -- two whole expressions
  pub one_whole : (e f : Expression) (ts us r x : List Lexeme) → OneExpression s e → ts ≡ us → IsExpression s e ts r → BehindExpression r → IsExpression s f us x → BehindExpression x → (e ≡ f) × (r ≡ x)
  one_whole e f ts us r x one same h p k q = elim (one f ts us r x same h p.0 k q) [
    | inl all ↦ all
    | inr within ↦ absurd (ends_within e f r x within p.1)
  ]
