-- Single tokens that are fine: plain ones, literals, signs and brackets.
use Rattle.std.proofs.Common.{◌≡◌, ℕ, ℤ, List, [], ◌∷◌, Bool, true, false, Option, Some, refl, sym, ap, ◌∙◌, subst}
use Rattle.upon_types.specs.declared.types.Span.{Span}
use Rattle.upon_types.specs.declared.types.token.Token.{Token}
use Rattle.upon_types.specs.declared.types.token.Token.TheVariants.{OpenBracket, CloseBracket, OpenBrace, CloseBrace, OpenParen, CloseParen, Dot, QuestionDot, Pipe, Comma, Colon, Plus, Minus, Keyword, Ident, Index, Number, String}
use Rattle.upon_types.specs.Span.{slice}
use Rattle.upon_language_spec.specs.Cut.{Lexeme}
use Rattle.upon_language_spec.specs.Literal.{IsInteger, IsIndex, IsText}
use Rattle.upon_language_spec.specs.Tokens.{Goes}
use Rattle.upon_language_spec.specs.Reading.{brackets_after}
use Rattle.upon_language_spec.specs.Faults.{closes}
use Rattle.upon_language_spec.specs.LaterFaults.{minus_before}
use Rattle.upon_language_spec.proofs.NoTreeWithFault.Fine.{TokenFine, Passing, Passes, passing_one}

abbrev pub is_plain : Token → Bool
is_plain Dot = true
is_plain QuestionDot = true
is_plain Pipe = true
is_plain Comma = true
is_plain Colon = true
is_plain Keyword = true
is_plain Ident = true
is_plain Plus = true
is_plain t = false

abbrev pub is_minus : Token → Bool
is_minus Minus = true
is_minus t = false

abbrev pub is_open : Token → Bool
is_open OpenBracket = true
is_open OpenBrace = true
is_open OpenParen = true
is_open t = false

no_minus : (l : Lexeme) (t : Token) → l.token ≡ t → is_minus t ≡ false → minus_before (Some l) ≡ false
no_minus l t e h = ap is_minus e ∙ h

plain_is_no_minus : (t : Token) → is_plain t ≡ true → is_minus t ≡ false
plain_is_no_minus Minus h = absurd cc
plain_is_no_minus t h = refl

module _ (s : List ℕ) where
  plain_fine : (t : Token) (a : List Lexeme) (before : Option Lexeme) (l : Lexeme) → is_plain t ≡ true → TokenFine s a before t l
  plain_fine Dot a before l h = tt
  plain_fine QuestionDot a before l h = tt
  plain_fine Pipe a before l h = tt
  plain_fine Comma a before l h = tt
  plain_fine Colon a before l h = tt
  plain_fine Keyword a before l h = tt
  plain_fine Ident a before l h = tt
  plain_fine Plus a before l h = tt
  plain_fine _ a before l h = absurd cc

  plain_stack : (t : Token) (a : List Lexeme) (l : Lexeme) → is_plain t ≡ true → brackets_after a t l ≡ a
  plain_stack Dot [] l h = refl
  plain_stack Dot (o ∷ a) l h = refl
  plain_stack QuestionDot [] l h = refl
  plain_stack QuestionDot (o ∷ a) l h = refl
  plain_stack Pipe [] l h = refl
  plain_stack Pipe (o ∷ a) l h = refl
  plain_stack Comma [] l h = refl
  plain_stack Comma (o ∷ a) l h = refl
  plain_stack Colon [] l h = refl
  plain_stack Colon (o ∷ a) l h = refl
  plain_stack Keyword [] l h = refl
  plain_stack Keyword (o ∷ a) l h = refl
  plain_stack Ident [] l h = refl
  plain_stack Ident (o ∷ a) l h = refl
  plain_stack Plus [] l h = refl
  plain_stack Plus (o ∷ a) l h = refl
  plain_stack _ a l h = absurd cc

  stack_by : (l : Lexeme) (t : Token) (a b : List Lexeme) → l.token ≡ t → brackets_after a t l ≡ b → brackets_after a l.token l ≡ b
  stack_by l t a b e h = ap (λ x. brackets_after a x l) e ∙ h

  fine_by : (l : Lexeme) (t : Token) (a : List Lexeme) (before : Option Lexeme) → l.token ≡ t → TokenFine s a before t l → TokenFine s a before l.token l
  fine_by l t a before e h = let F : Token → Type 0 = λ x. TokenFine s a before x l in subst F (sym e) h

  pub passes_plain : (t : Token) (span : Span) (ts rest : List Lexeme) → is_plain t ≡ true → Goes t span ts rest → Passes s ts rest
  passes_plain t span ts rest h g = λ a.
      passing_one s t span ts rest a a g (λ before _. fine_by g.lexeme t a before g.of_token (plain_fine t a before g.lexeme h)) (stack_by g.lexeme t a a g.of_token (plain_stack t a g.lexeme h)) (no_minus g.lexeme t g.of_token (plain_is_no_minus t h))

  index_stack : (a : List Lexeme) (l : Lexeme) → brackets_after a Index l ≡ a
  index_stack [] l = refl
  index_stack (o ∷ a) l = refl

  string_stack : (a : List Lexeme) (l : Lexeme) → brackets_after a String l ≡ a
  string_stack [] l = refl
  string_stack (o ∷ a) l = refl

  number_stack : (a : List Lexeme) (l : Lexeme) → brackets_after a Number l ≡ a
  number_stack [] l = refl
  number_stack (o ∷ a) l = refl

  minus_stack : (a : List Lexeme) (l : Lexeme) → brackets_after a Minus l ≡ a
  minus_stack [] l = refl
  minus_stack (o ∷ a) l = refl

  pub passes_index : (span : Span) (i : ℕ) (ts rest : List Lexeme) → Goes Index span ts rest → IsIndex (slice s span) i → Passes s ts rest
  passes_index span i ts rest g h = λ a.
      let F : Span → Type 0 = λ x. IsIndex (slice s x) i in
      passing_one s Index span ts rest a a g (λ before _. fine_by g.lexeme Index a before g.of_token (i, subst F (sym g.at) h)) (stack_by g.lexeme Index a a g.of_token (index_stack a g.lexeme)) (no_minus g.lexeme Index g.of_token refl)

  pub passes_string : (span : Span) (t : List ℕ) (ts rest : List Lexeme) → Goes String span ts rest → IsText s span.m span.n t → Passes s ts rest
  passes_string span t ts rest g h = λ a.
      let F : Span → Type 0 = λ x. IsText s x.m x.n t in
      passing_one s String span ts rest a a g (λ before _. fine_by g.lexeme String a before g.of_token (t, subst F (sym g.at) h)) (stack_by g.lexeme String a a g.of_token (string_stack a g.lexeme)) (no_minus g.lexeme String g.of_token refl)

  pub passes_number : (span : Span) (z : ℤ) (ts rest : List Lexeme) → Goes Number span ts rest → IsInteger false (slice s span) z → Passes s ts rest
  passes_number span z ts rest g h = λ a.
      let F : Span → Type 0 = λ x. IsInteger false (slice s x) z in
      passing_one s Number span ts rest a a g
      (λ before k. fine_by g.lexeme Number a before g.of_token (z, let G : Bool → Type 0 = λ x. IsInteger x (slice s g.lexeme.span) z in subst G (sym k) (subst F (sym g.at) h)))
      (stack_by g.lexeme Number a a g.of_token (number_stack a g.lexeme)) (no_minus g.lexeme Number g.of_token refl)

  -- a sign and its number
  pub passes_signed : (t : Token) (minus : Bool) (sign number : Span) (z : ℤ) (ts us rest : List Lexeme) → is_minus t ≡ minus → ((a : List Lexeme) (before : Option Lexeme) (l : Lexeme) → TokenFine s a before t l) → ((a : List Lexeme) (l : Lexeme) → brackets_after a t l ≡ a) → Goes t sign ts us → Goes Number number us rest → IsInteger minus (slice s number) z → Passes s ts rest
  passes_signed t minus sign number z ts us rest e fine keeps g h value = λ a.
      let first = g.lexeme in
      let second = h.lexeme in
      let F : Span → Type 0 = λ x. IsInteger minus (slice s x) z in
      let known : minus_before (Some first) ≡ minus = ap is_minus g.of_token ∙ e in
      let G : Bool → Type 0 = λ x. IsInteger x (slice s second.span) z in
      let number_fine : TokenFine s (brackets_after a first.token first) (Some first) second.token second = fine_by second Number (brackets_after a first.token first) (Some first) h.of_token (z, subst G (sym known) (subst F (sym h.at) value)) in
      let stack : brackets_after (brackets_after a first.token first) second.token second ≡ a =
      ap (λ x. brackets_after x second.token second) (stack_by first t a a g.of_token (keeps a first)) ∙ stack_by second Number a a h.of_token (number_stack a second) in
      (first ∷ second ∷ [], g.is ∙ ap (λ x. first ∷ x) h.is, λ before _. (Some second, no_minus second Number h.of_token refl, (fine_by first t a before g.of_token (fine a before first), (number_fine, (stack, refl)))))

  pub passes_minus : (sign number : Span) (z : ℤ) (ts us rest : List Lexeme) → Goes Minus sign ts us → Goes Number number us rest → IsInteger true (slice s number) z → Passes s ts rest
  passes_minus sign number z ts us rest g h value = passes_signed Minus true sign number z ts us rest refl (λ a before l. tt) minus_stack g h value

  pub passes_plus : (sign number : Span) (z : ℤ) (ts us rest : List Lexeme) → Goes Plus sign ts us → Goes Number number us rest → IsInteger false (slice s number) z → Passes s ts rest
  passes_plus sign number z ts us rest g h value = passes_signed Plus false sign number z ts us rest refl (λ a before l. tt) (λ a l. plain_stack Plus a l refl) g h value

  -- an opening bracket, and the closing one that closes it
  open_stack : (t : Token) (a : List Lexeme) (l : Lexeme) → is_open t ≡ true → brackets_after a t l ≡ l ∷ a
  open_stack OpenBracket a l h = refl
  open_stack OpenBrace a l h = refl
  open_stack OpenParen a l h = refl
  open_stack _ a l h = absurd cc

  open_fine : (t : Token) (a : List Lexeme) (before : Option Lexeme) (l : Lexeme) → is_open t ≡ true → TokenFine s a before t l
  open_fine OpenBracket a before l h = tt
  open_fine OpenBrace a before l h = tt
  open_fine OpenParen a before l h = tt
  open_fine _ a before l h = absurd cc

  pub passing_open : (t : Token) (span : Span) (ts rest a : List Lexeme) (g : Goes t span ts rest) → is_open t ≡ true → is_minus t ≡ false → Passing s ts rest a (g.lexeme ∷ a)
  passing_open t span ts rest a g h k = passing_one s t span ts rest a (g.lexeme ∷ a) g (λ before _. fine_by g.lexeme t a before g.of_token (open_fine t a before g.lexeme h)) (stack_by g.lexeme t a (g.lexeme ∷ a) g.of_token (open_stack t a g.lexeme h)) (no_minus g.lexeme t g.of_token k)

  close_stack : (t u : Token) (o : Lexeme) (a : List Lexeme) (l : Lexeme) → closes t u ≡ true → brackets_after (o ∷ a) u l ≡ a
  close_stack OpenBracket CloseBracket o a l h = refl
  close_stack OpenBrace CloseBrace o a l h = refl
  close_stack OpenParen CloseParen o a l h = refl
  close_stack _ _ o a l h = absurd cc

  close_fine : (t u : Token) (o : Lexeme) (a : List Lexeme) (before : Option Lexeme) (l : Lexeme) → o.token ≡ t → closes t u ≡ true → TokenFine s (o ∷ a) before u l
  close_fine OpenBracket CloseBracket o a before l e h = ap (λ x. closes x CloseBracket) e
  close_fine OpenBrace CloseBrace o a before l e h = ap (λ x. closes x CloseBrace) e
  close_fine OpenParen CloseParen o a before l e h = ap (λ x. closes x CloseParen) e
  close_fine _ _ o a before l e h = absurd cc

  pub passing_close : (t u : Token) (o : Lexeme) (span : Span) (ts rest a : List Lexeme) → o.token ≡ t → closes t u ≡ true → is_minus u ≡ false → Goes u span ts rest → Passing s ts rest (o ∷ a) a
  passing_close t u o span ts rest a e h k g = passing_one s u span ts rest (o ∷ a) a g (λ before _. fine_by g.lexeme u (o ∷ a) before g.of_token (close_fine t u o a before g.lexeme e h)) (stack_by g.lexeme u (o ∷ a) a g.of_token (close_stack t u o a g.lexeme h)) (no_minus g.lexeme u g.of_token k)
