-- Tokens inside a tag that are fine as they are: literals denote something, brackets match, and no delimiter is among them.
use Rattle.std.proofs.Common.{◌≡◌, ℕ, ℤ, List, [], ◌∷◌, ◌++◌, true, false, Option, Some, refl, sym, ap, ◌∙◌, subst, append_assoc}
use Rattle.upon_types.specs.declared.types.Span.{Span}
use Rattle.upon_types.specs.declared.types.token.Token.{Token}
use Rattle.upon_types.specs.declared.types.token.Token.TheVariants.{Raw, BeginExpr, EndExpr, BeginBlock, EndBlock, BeginComment, EndComment, CloseBracket, CloseBrace, CloseParen, Whitespace, Index, Number, String}
use Rattle.upon_types.specs.Span.{slice}
use Rattle.upon_language_spec.specs.Cut.{Lexeme}
use Rattle.upon_language_spec.specs.Literal.{IsInteger, IsIndex, IsText}
use Rattle.upon_language_spec.specs.Tokens.{Goes}
use Rattle.upon_language_spec.specs.Reading.{brackets_after}
use Rattle.upon_language_spec.specs.Faults.{closes_first}
use Rattle.upon_language_spec.specs.LaterFaults.{minus_before}

-- a token that is fine after another, with these brackets open
abbrev pub TokenFine : List ℕ → List Lexeme → Option Lexeme → Token → Lexeme → Type 0
TokenFine s stack before Number l = (z : ℤ) × IsInteger (minus_before before) (slice s l.span) z
TokenFine s stack before Index l = (i : ℕ) × IsIndex (slice s l.span) i
TokenFine s stack before String l = (t : List ℕ) × IsText s l.span.m l.span.n t
TokenFine s stack before CloseBracket l = closes_first stack CloseBracket ≡ true
TokenFine s stack before CloseBrace l = closes_first stack CloseBrace ≡ true
TokenFine s stack before CloseParen l = closes_first stack CloseParen ≡ true
TokenFine s stack before Raw l = ⊥
TokenFine s stack before BeginExpr l = ⊥
TokenFine s stack before EndExpr l = ⊥
TokenFine s stack before BeginBlock l = ⊥
TokenFine s stack before EndBlock l = ⊥
TokenFine s stack before BeginComment l = ⊥
TokenFine s stack before EndComment l = ⊥
TokenFine s stack before Whitespace l = ⊥
TokenFine s stack before t l = Unit {0}

-- the tokens are fine, one after the other, from these open brackets to those
abbrev pub Fine : List ℕ → List Lexeme → Option Lexeme → List Lexeme → List Lexeme → Option Lexeme → Type 0
Fine s stack before [] stack' before' = (stack ≡ stack') × (before ≡ before')
Fine s stack before (l ∷ ls) stack' before' = TokenFine s stack before l.token l × Fine s (brackets_after stack l.token l) (Some l) ls stack' before'

pub fine_then : (s : List ℕ) (a b c : List Lexeme) (x y z : Option Lexeme) (ls ks : List Lexeme) → Fine s a x ls b y → Fine s b y ks c z → Fine s a x (ls ++ ks) c z
fine_then s a b c x y z [] ks h k =
    let F : List Lexeme → Type 0 = λ v. Fine s v x ks c z in
    let G : Option Lexeme → Type 0 = λ v. Fine s b v ks c z in
    subst F (sym h.0) (subst G (sym h.1) k)
fine_then s a b c x y z (l ∷ ls) ks h k = (h.0, fine_then s (brackets_after a l.token l) b c (Some l) y z ls ks h.1 k)

-- the tokens up to the rest are fine after what is no minus, and end with what is none
abbrev pub FineFrom : List ℕ → List Lexeme → List Lexeme → List Lexeme → Option Lexeme → Type 0
FineFrom s mid stack stack' before = (before' : Option Lexeme) × (minus_before before' ≡ false) × Fine s stack before mid stack' before'

abbrev pub Passing : List ℕ → List Lexeme → List Lexeme → List Lexeme → List Lexeme → Type 0
Passing s ts rest stack stack' = (mid : List Lexeme) × (ts ≡ mid ++ rest) × ((before : Option Lexeme) → minus_before before ≡ false → FineFrom s mid stack stack' before)

-- with whatever brackets open
abbrev pub Passes : List ℕ → List Lexeme → List Lexeme → Type 0
Passes s ts rest = (stack : List Lexeme) → Passing s ts rest stack stack

module _ (s : List ℕ) where
  pub passing_then : (ts us rest a b c : List Lexeme) → Passing s ts us a b → Passing s us rest b c → Passing s ts rest a c
  passing_then ts us rest a b c x y =
      let first = x.0 in
      let second = y.0 in (
        first ++ second,
        x.1 ∙ ap (λ v. first ++ v) y.1 ∙ sym (append_assoc first second rest),
        λ before h.
            let p = x.2 before h in
            let q = y.2 p.0 p.1 in
            (q.0, q.1, fine_then s a b c before p.0 q.0 first second p.2 q.2),
      )

  pub passes_then : (ts us rest : List Lexeme) → Passes s ts us → Passes s us rest → Passes s ts rest
  passes_then ts us rest x y = λ stack. passing_then ts us rest stack stack stack (x stack) (y stack)

  pub passes_nothing : (ts rest : List Lexeme) → ts ≡ rest → Passes s ts rest
  passes_nothing ts rest e = λ stack. ([], e, λ before h. (before, h, (refl, refl)))

  -- one token
  pub passing_one : (t : Token) (span : Span) (ts rest a b : List Lexeme) (g : Goes t span ts rest) → ((before : Option Lexeme) → minus_before before ≡ false → TokenFine s a before g.lexeme.token g.lexeme) → brackets_after a g.lexeme.token g.lexeme ≡ b → minus_before (Some g.lexeme) ≡ false → Passing s ts rest a b
  passing_one t span ts rest a b g fine stack no_minus = (g.lexeme ∷ [], g.is, λ before h. (Some g.lexeme, no_minus, (fine before h, (stack, refl))))
