-- What is left of a tag's tokens after some were read.
use Rattle.std.proofs.Common.{◌≡◌, ℕ, ◌+◌, List, [], ◌∷◌, ◌++◌, Bool, true, false, refl, sym, ap, subst, ◌∙◌, Option, Some, None, append_assoc}
use Rattle.upon_types.specs.declared.types.Span.{Span}
use Rattle.upon_types.specs.declared.types.token.Token.{Token}
use Rattle.upon_types.specs.declared.types.token.Token.TheVariants.{Minus, Number, String}
use Rattle.upon_language_spec.specs.Cut.{Lexeme}
use Rattle.upon_language_spec.specs.LaterFaults.{minus_before}
use Rattle.upon_language_spec.specs.InTags.{is_inside}
use Rattle.upon_language_spec.specs.Tokens.{Goes}
use Rattle.upon_language_spec.specs.Inside.{IsQuoted}
use Rattle.upon_language_spec.specs.LiteralFaults.{escape_fault}
use Rattle.upon_lexer.specs.Literals.{lexeme_of}
use Rattle.upon_lexer.specs.declared.literal.Lexed.{Lexed}
use Rattle.upon_tag_parser.specs.TagTokens.{lexemes_of, is_minus, minus_last, IsTagToken, EachTagToken, AreTagTokens, IsRestOf, IsRest}

-- the rest after one token that is no minus
pub rest_goes : (t : Token) (span : Span) (tokens rest : List Lexeme) → Goes t span tokens rest → is_minus t ≡ false → IsRestOf rest tokens
rest_goes t span tokens rest g m = record { read = g.lexeme ∷ []; joins = g.is; no_minus = ap is_minus g.of_token ∙ m }

minus_joined : (xs ys : List Lexeme) (b : Bool) → minus_last b (xs ++ ys) ≡ minus_last (minus_last b xs) ys
minus_joined [] ys b = refl
minus_joined (x ∷ xs) ys b = minus_joined xs ys (is_minus x.token)

-- what is left of what is left
pub rest_then : (a b c : List Lexeme) → IsRestOf b a → IsRestOf c b → IsRestOf c a
rest_then a b c x y = record {
  read = x.read ++ y.read;
  joins = x.joins ∙ ap (λ (z : List Lexeme). x.read ++ z) y.joins ∙ sym (append_assoc x.read y.read c);
  no_minus = minus_joined x.read y.read false ∙ ap (λ b. minus_last b y.read) x.no_minus ∙ y.no_minus;
}

-- all of it
pub rest_all : (a : List Lexeme) → IsRestOf a a
rest_all a = record { read = []; joins = refl; no_minus = refl }

minus_is : (t : Token) → elim t [ Minus ↦ true | _ ↦ false ] ≡ is_minus t
minus_is Minus = refl
minus_is t = refl

-- they are tokens of the tag
pub tokens_rest : (s : List ℕ) (tokens rest : List Lexed) → AreTagTokens s tokens → IsRest rest tokens → AreTagTokens s rest
tokens_rest s tokens rest a r = let F : List Lexeme → Type 0 = λ x. EachTagToken s a.before x in on r.read a.before false a.no_minus (subst F r.joins a.each) r.no_minus
  where
    on : (xs : List Lexeme) (before : Option Lexeme) (b : Bool) → minus_before before ≡ b → EachTagToken s before (xs ++ lexemes_of rest) → minus_last b xs ≡ false → AreTagTokens s rest
    on [] before b e h m = record { before = before; no_minus = e ∙ m; each = h }
    on (x ∷ xs) before b e h m = on xs (Some x) (is_minus x.token) (minus_is x.token) h.1 m

-- the rest after the first token, which is no minus
pub rest_next : (first : Lexed) (rest tokens : List Lexed) → tokens ≡ first ∷ rest → is_minus first.token ≡ false → IsRest rest tokens
rest_next first rest tokens e m = record { read = lexeme_of first ∷ []; joins = ap lexemes_of e; no_minus = m }

-- the rest after a sign and a number
pub rest_signed : (sign : Lexed) (span : Span) (rest left tokens : List Lexed) → tokens ≡ sign ∷ rest → Goes Number span (lexemes_of rest) (lexemes_of left) → IsRest left tokens
rest_signed sign span rest left tokens e g = record { read = lexeme_of sign ∷ g.lexeme ∷ []; joins = ap lexemes_of e ∙ ap (λ (x : List Lexeme). lexeme_of sign ∷ x) g.is; no_minus = ap is_minus g.of_token }

-- what is known of the first token
pub first_known : (s : List ℕ) (tokens : List Lexed) (t : Token) (span : Span) (rest : List Lexeme) → AreTagTokens s tokens → Goes t span (lexemes_of tokens) rest → (before : Option Lexeme) × (l : Lexeme) × (l.token ≡ t) × (l.span ≡ span) × IsTagToken s before l
first_known s tokens t span rest a g = let F : List Lexeme → Type 0 = λ x. EachTagToken s a.before x in (a.before, g.lexeme, g.of_token, g.at, (subst F g.is a.each).0)

-- a string that is next has no strange escape
pub string_escapes : (s : List ℕ) (tokens : List Lexed) (span : Span) (rest : List Lexeme) → AreTagTokens s tokens → Goes String span (lexemes_of tokens) rest → (q : IsQuoted s span.m span.n) → escape_fault (span.m + 1) q.pieces ≡ None
string_escapes s tokens span rest a g =
    let (before, l, t, at, known) = first_known s tokens String span rest a g in
    let F : Span → Type 0 = λ x. (q : IsQuoted s x.m x.n) → escape_fault (x.m + 1) q.pieces ≡ None in
    subst F at (known.fine.string t)

-- the first token may be inside a tag
pub first_inside : (s : List ℕ) (tokens : List Lexed) → AreTagTokens s tokens → (l : Lexeme) (ls : List Lexeme) → lexemes_of tokens ≡ l ∷ ls → is_inside l.token ≡ true
first_inside s tokens a l ls e = let F : List Lexeme → Type 0 = λ x. EachTagToken s a.before x in let h = subst F e a.each in h.0.inside
