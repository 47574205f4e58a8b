-- Where a Base may begin and where none does, and what may be left out after one.
use Rattle.std.proofs.Common.{◌≡◌, ℕ, List, [], ◌∷◌, ◌++◌, true, None, refl, sym, ◌∙◌, subst, codes}
use Rattle.upon_types.specs.declared.types.token.Token.{Token}
use Rattle.upon_types.specs.declared.types.token.Token.TheVariants.{OpenBracket, OpenBrace, OpenParen, Dot, QuestionDot, Plus, Minus, Keyword, Ident, Number, String}
use Rattle.upon_types.specs.Span.{slice}
use Rattle.upon_language_spec.specs.Cut.{Lexeme}
use Rattle.upon_language_spec.specs.Tags.{symbol_of, word_of}
use Rattle.upon_language_spec.specs.Keys.{Key, key_true, key_false, keyword_of, key_word}
use Rattle.upon_language_spec.specs.Wanted.{an_expression}
use Rattle.upon_language_spec.specs.Parts.{Part, a_base, after_name, after_member, base_key, base_goes, after, wanted_at}
use Rattle.upon_language_spec.specs.PartTails.{No, Tail, no_tail, member_tail, name_tail, tail_parts, Quiet}
use Rattle.upon_language_spec.proofs.Wanted.ExpressionsLead.{base_takes}
use Rattle.upon_language_spec.proofs.Wanted.LeadingBegins.{is_key, known}
use Rattle.upon_tag_parser.specs.TagParsing.{Refuses, StuckAt, NoWord, NoBase, NoLiteral, StartsBase}
use Rattle.upon_tag_parser.proofs.Stuck.{is_not, stuck_here}

-- ---- what may be left out
member_quiet : (ps : List Part) (t : Token) (k : Key) → (t ≡ Dot → ⊥) → (t ≡ QuestionDot → ⊥) → after (after_member ∷ ps) t k ≡ after ps t k
member_quiet ps Dot k a b = absurd (a refl)
member_quiet ps QuestionDot k a b = absurd (b refl)
member_quiet ps t k a b = refl

name_quiet : (ps : List Part) (t : Token) (k : Key) → (t ≡ Dot → ⊥) → (t ≡ QuestionDot → ⊥) → (t ≡ OpenParen → ⊥) → after (after_name ∷ ps) t k ≡ after ps t k
name_quiet ps Dot k a b c = absurd (a refl)
name_quiet ps QuestionDot k a b c = absurd (b refl)
name_quiet ps OpenParen k a b c = absurd (c refl)
name_quiet ps t k a b c = refl

-- what is left out takes nothing of what is next
pub tail_quiet : (tail : Tail) (ps : List Part) (l : Lexeme) (ls : List Lexeme) (k : Key) → Quiet tail (l ∷ ls) → after (tail_parts tail ++ ps) l.token k ≡ after ps l.token k
tail_quiet no_tail ps l ls k q = refl
tail_quiet member_tail ps l ls k q = member_quiet ps l.token k (is_not Dot l ls q.0) (is_not QuestionDot l ls q.1)
tail_quiet name_tail ps l ls k q = name_quiet ps l.token k (is_not Dot l ls q.0) (is_not QuestionDot l ls q.1) (is_not OpenParen l ls q.2)

-- what may not be after what is left out, may not be there
pub tail_refuses : (s : List ℕ) (tail : Tail) (ps : List Part) (ts : List Lexeme) → Quiet tail ts → Refuses s ps ts → Refuses s (tail_parts tail ++ ps) ts
tail_refuses s no_tail ps [] q h = h
tail_refuses s member_tail ps [] q h = h
tail_refuses s name_tail ps [] q h = h
tail_refuses s tail ps (l ∷ ls) q h = tail_quiet tail ps l ls (keyword_of (symbol_of s l).word) q ∙ h

pub tail_wants : (tail : Tail) (ps : List Part) → wanted_at (tail_parts tail ++ ps) ≡ wanted_at ps
tail_wants no_tail ps = refl
tail_wants member_tail ps = refl
tail_wants name_tail ps = refl

-- ---- where a Base may begin
base_refused : (s : List ℕ) (ps : List Part) (ts : List Lexeme) → NoBase s ts → Refuses s (a_base ∷ ps) ts
base_refused s ps [] h = λ k. (refl, refl)
base_refused s ps (l ∷ ls) h = none l.token (keyword_of (symbol_of s l).word) h
  where
    word : (k : Key) → base_key k [] ≡ None → after (a_base ∷ ps) Keyword k ≡ None
    word key_true e = absurd cc
    word key_false e = absurd cc
    word k e = refl

    none : (t : Token) (k : Key) → base_goes t k [] ≡ None → after (a_base ∷ ps) t k ≡ None
    none Keyword k e = word k e
    none Plus k e = absurd cc
    none Minus k e = absurd cc
    none Number k e = absurd cc
    none String k e = absurd cc
    none Ident k e = absurd cc
    none Dot k e = absurd cc
    none QuestionDot k e = absurd cc
    none OpenBracket k e = absurd cc
    none OpenBrace k e = absurd cc
    none OpenParen k e = absurd cc
    none t k e = refl

pub base_starts : (s : List ℕ) (ps : List Part) (ts : List Lexeme) → StartsBase s (a_base ∷ ps) ps ts
base_starts s ps ts = record { takes = base_takes ps; wants = refl; refuses = base_refused s ps ts }

-- ---- where no Base begins
no_word : (s : List ℕ) (word : List ℕ) (l : Lexeme) (ls : List Lexeme) → NoWord s word (l ∷ ls) → l.token ≡ Keyword → word ≡ slice s l.span → ⊥
no_word s word l ls none e same = none l.span ls (record { lexeme = l; is = refl; of_token = e; at = refl }, sym same)

-- a key is spelled as the word of which it is the key
pub key_spells : (k : Key) (w : List ℕ) → k ≡ keyword_of w → is_key k ≡ true → key_word k ≡ w
key_spells k w e h = let F : Key → Type 0 = λ x. is_key x ≡ true → key_word x ≡ w in subst F (sym e) (known w) h

key_none : (s : List ℕ) (l : Lexeme) (ls : List Lexeme) → NoWord s (codes "true") (l ∷ ls) → NoWord s (codes "false") (l ∷ ls) → l.token ≡ Keyword → (k : Key) → k ≡ keyword_of (slice s l.span) → base_key k [] ≡ None
key_none s l ls a b h key_true e = absurd (no_word s (codes "true") l ls a h (key_spells key_true (slice s l.span) e refl))
key_none s l ls a b h key_false e = absurd (no_word s (codes "false") l ls b h (key_spells key_false (slice s l.span) e refl))
key_none s l ls a b h k e = refl

token_none : (s : List ℕ) (l : Lexeme) (ls : List Lexeme) → No Ident (l ∷ ls) → No Dot (l ∷ ls) × No QuestionDot (l ∷ ls) → No OpenBracket (l ∷ ls) → No OpenBrace (l ∷ ls) → No OpenParen (l ∷ ls) → NoLiteral s (l ∷ ls) → (t : Token) → l.token ≡ t → base_goes t (keyword_of (word_of s t l.span)) [] ≡ None
token_none s l ls a b d e f (truth, untruth, text, ((minus, plus), number)) Keyword h = key_none s l ls truth untruth h (keyword_of (slice s l.span)) refl
token_none s l ls a b d e f (truth, untruth, text, ((minus, plus), number)) Plus h = absurd (is_not Plus l ls plus h)
token_none s l ls a b d e f (truth, untruth, text, ((minus, plus), number)) Minus h = absurd (is_not Minus l ls minus h)
token_none s l ls a b d e f (truth, untruth, text, ((minus, plus), number)) Number h = absurd (is_not Number l ls number h)
token_none s l ls a b d e f (truth, untruth, text, ((minus, plus), number)) String h = absurd (is_not String l ls text h)
token_none s l ls a b d e f g Ident h = absurd (is_not Ident l ls a h)
token_none s l ls a b d e f g Dot h = absurd (is_not Dot l ls b.0 h)
token_none s l ls a b d e f g QuestionDot h = absurd (is_not QuestionDot l ls b.1 h)
token_none s l ls a b d e f g OpenBracket h = absurd (is_not OpenBracket l ls d h)
token_none s l ls a b d e f g OpenBrace h = absurd (is_not OpenBrace l ls e h)
token_none s l ls a b d e f g OpenParen h = absurd (is_not OpenParen l ls f h)
token_none s l ls a b d e f g t h = refl

no_base : (s : List ℕ) (ts : List Lexeme) → No Ident ts → No Dot ts × No QuestionDot ts → No OpenBracket ts → No OpenBrace ts → No OpenParen ts → NoLiteral s ts → NoBase s ts
no_base s [] a b d e f g = tt
no_base s (l ∷ ls) a b d e f g = token_none s l ls a b d e f g l.token refl

-- nothing that begins a Base comes first
pub base_stuck : (s : List ℕ) (ts : List Lexeme) → No Ident ts → No Dot ts × No QuestionDot ts → No OpenBracket ts → No OpenBrace ts → No OpenParen ts → NoLiteral s ts → (from ps : List Part) → StartsBase s from ps ts → StuckAt s from ts ts an_expression
base_stuck s ts a b d e f g from ps starts = stuck_here s from ts an_expression (starts.refuses (no_base s ts a b d e f g)) starts.wants
