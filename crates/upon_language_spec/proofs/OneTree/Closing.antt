-- An opening and a closing token are where a span begins and ends, and a list ends in one way.
use Rattle.std.proofs.Common.{◌≡◌, List, Some, false, inl, inr, sym, ap, subst, ◌∙◌}
use Rattle.upon_types.specs.declared.types.Span.{Span}
use Rattle.upon_types.specs.declared.types.token.Token.{Token}
use Rattle.upon_types.specs.declared.types.token.Token.TheVariants.{Comma}
use Rattle.upon_language_spec.specs.Cut.{Lexeme}
use Rattle.upon_language_spec.specs.Tokens.{GoesBy}
use Rattle.upon_language_spec.specs.Expressions.{Opens, Closes, ClosesList}
use Rattle.upon_language_spec.proofs.OneTree.Token.{goes_first, one_goes, one_goes_by}
use Rattle.upon_language_spec.proofs.OneTree.Path.{BehindBase, continues_base}

pub one_opens : (t : Token) (p q : Span) (ts us r x : List Lexeme) → ts ≡ us → Opens t p ts r → Opens t q us x → (p.m ≡ q.m) × (r ≡ x)
one_opens t p q ts us r x same h k =
    let o = one_goes t t h.0 k.0 ts us r x same h.1 k.1 in
    (sym h.2 ∙ ap (λ (y : Span). y.m) o.1 ∙ k.2, o.2)

pub one_closes : (t : Token) (p q : Span) (ts us r x : List Lexeme) → ts ≡ us → Closes t p ts r → Closes t q us x → (p.n ≡ q.n) × (r ≡ x)
one_closes t p q ts us r x same h k =
    let o = one_goes t t h.0 k.0 ts us r x same h.1 k.1 in
    (sym h.2 ∙ ap (λ (y : Span). y.n) o.1 ∙ k.2, o.2)

-- a closing token goes where no comma does
no_comma : (t : Token) (p : Span) (ts us r x : List Lexeme) → (t ≡ Comma → ⊥) → ts ≡ us → Closes t p ts r → GoesBy Comma us x → ⊥
no_comma t p ts us r x differ same h k = differ (one_goes_by t Comma ts us r x same (h.0, h.1) k).0

pub one_closes_list : (t : Token) (p q : Span) (ts us r x : List Lexeme) → (t ≡ Comma → ⊥) → ts ≡ us → ClosesList t p ts r → ClosesList t q us x → (p.n ≡ q.n) × (r ≡ x)
one_closes_list t p q ts us r x differ same (inl h) (inl k) = one_closes t p q ts us r x same h k
one_closes_list t p q ts us r x differ same (inl h) (inr k) = absurd (no_comma t p ts us r k.0 differ same h k.1)
one_closes_list t p q ts us r x differ same (inr h) (inl k) = absurd (no_comma t q us ts x h.0 differ (sym same) k h.1)
one_closes_list t p q ts us r x differ same (inr h) (inr k) = one_closes t p q h.0 k.0 r x (one_goes_by Comma Comma ts us h.0 k.0 same h.1 k.1).1 h.2 k.2

-- where a list ends and a comma goes, the closing token goes after it
pub closes_behind_comma : (t : Token) (p : Span) (ts us r mid : List Lexeme) → (t ≡ Comma → ⊥) → ts ≡ us → ClosesList t p ts r → GoesBy Comma us mid → GoesBy t mid r
closes_behind_comma t p ts us r mid differ same (inl h) k = absurd (no_comma t p ts us r mid differ same h k)
closes_behind_comma t p ts us r mid differ same (inr h) k =
    let After : List Lexeme → Type 0 = λ y. GoesBy t y r in
    subst After (one_goes_by Comma Comma ts us h.0 mid same h.1 k).1 (h.2.0, h.2.1)

pub closes_behind_base : (t : Token) (p : Span) (ts r : List Lexeme) → continues_base (Some t) ≡ false → ClosesList t p ts r → BehindBase ts
closes_behind_base t p ts r stops (inl h) = ap continues_base (goes_first t h.0 ts r h.1) ∙ stops
closes_behind_base t p ts r stops (inr h) = ap continues_base (goes_first Comma h.1.0 ts h.0 h.1.1)
