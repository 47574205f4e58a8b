-- Tokens that lie in a text one after the other, from an offset on.
use Rattle.std.proofs.Common.{ℕ, ◌≤◌, ◌&&◌, List, [], ◌∷◌, Bool, true, false, sym, subst, arith, if◌then◌else◌}
use Rattle.std.specs.Str.{IsUtf8, IsCharBoundary}
use Rattle.upon_types.specs.declared.types.Span.{Span}
use Rattle.upon_types.specs.declared.types.token.Token.{Token}
use Rattle.upon_types.specs.declared.types.token.Token.TheVariants.{Raw}
use Rattle.upon_types.specs.Span.{LiesIn}
use Rattle.upon_language_spec.specs.Search.{DelimiterText, HasTexts}
use Rattle.upon_language_spec.specs.Cut.{Lexeme, Mode, mode_after, Cut}
use Rattle.upon_language_spec.specs.LiesIn.{HasUtf8}
use Rattle.upon_language_spec.specs.Shown.{begin_trims, is_end, shown_lexeme, shown_lexemes}
use Rattle.upon_language_spec.specs.Tokens.{is_space, begins_comment, is_raw, without_spaces, without_comments, comment_from, after_comment_end, significant, Goes, GoesBy}
use Rattle.upon_language_spec.proofs.SpansLieIn.Token.{step_lies_in}
use Rattle.upon_language_spec.proofs.Spans.Trimmed.{Shrinks, shown_shrinks}

abbrev pub Along : List ℕ → ℕ → List Lexeme → Type 0
Along s p [] = Unit {0}
Along s p (l ∷ ls) = (p ≤ l.span.m) × LiesIn s l.span × Along s l.span.n ls

pub along_before : (s : List ℕ) (q p : ℕ) (ls : List Lexeme) → q ≤ p → Along s p ls → Along s q ls
along_before s q p [] l h = tt
along_before s q p (k ∷ ks) l h = (omega (arith, l, h.0), h.1, h.2)

-- without the first token
pub along_rest : (s : List ℕ) (p : ℕ) (l : Lexeme) (ls : List Lexeme) → Along s p (l ∷ ls) → Along s p ls
along_rest s p l ls h = along_before s p l.span.n ls (omega (arith, h.0, h.1.ordered)) h.2

pub along_spaces : (s : List ℕ) (p : ℕ) (ls : List Lexeme) → Along s p ls → Along s p (without_spaces ls)
along_spaces s p [] h = tt
along_spaces s p (l ∷ ls) h = by_space (is_space l.token) (along_spaces s l.span.n ls h.2)
  where
    by_space : (b : Bool) → Along s l.span.n (without_spaces ls) → Along s p (if b then without_spaces ls else (l ∷ without_spaces ls))
    by_space true others = along_before s p l.span.n (without_spaces ls) (omega (arith, h.0, h.1.ordered)) others
    by_space false others = (h.0, h.1, others)

either : (s : List ℕ) (p : ℕ) (l : Lexeme) (ls : List Lexeme) (b : Bool) → Along s p (l ∷ ls) → Along s p (comment_from l ls) → Along s l.span.n (without_comments ls) → Along s p (if b then comment_from l ls else (l ∷ without_comments ls))
either s p l ls true h comment others = comment
either s p l ls false h comment others = (h.0, h.1, others)

either_end : (s : List ℕ) (p : ℕ) (begin l : Lexeme) (ls : List Lexeme) (b : Bool) → Along s p (begin ∷ l ∷ ls) → Along s l.span.n (after_comment_end ls) → Along s l.span.n (without_comments ls) → Along s p (if b then after_comment_end ls else (begin ∷ l ∷ without_comments ls))
either_end s p begin l ls true h ended others = along_before s p l.span.n (after_comment_end ls) (omega (arith, h.0, h.1.ordered, h.2.0, h.2.1.ordered)) ended
either_end s p begin l ls false h ended others = (h.0, h.1, (h.2.0, h.2.1, others))

mutual
  pub along_comments : (s : List ℕ) (p : ℕ) (ls : List Lexeme) → Along s p ls → Along s p (without_comments ls)
  along_comments s p [] h = tt
  along_comments s p (l ∷ ls) h = either s p l ls (begins_comment l.token) h (along_from s p l ls h) (along_comments s l.span.n ls h.2)

  along_from : (s : List ℕ) (p : ℕ) (begin : Lexeme) (ls : List Lexeme) → Along s p (begin ∷ ls) → Along s p (comment_from begin ls)
  along_from s p begin [] h = h
  along_from s p begin (l ∷ ls) h = either_end s p begin l ls (is_raw l.token) h (along_end s l.span.n ls h.2.2) (along_comments s l.span.n ls h.2.2)

  along_end : (s : List ℕ) (p : ℕ) (ls : List Lexeme) → Along s p ls → Along s p (after_comment_end ls)
  along_end s p [] h = tt
  along_end s p (l ∷ ls) h = along_before s p l.span.n (without_comments ls) (omega (arith, h.0, h.1.ordered)) (along_comments s l.span.n ls h.2)

shown_lies : (s : List ℕ) (text : IsUtf8 s) (before later : Bool) (t : Token) (l : Lexeme) → LiesIn s l.span → Shrinks s l.span (shown_lexeme s before later t l).span
shown_lies s text before later Raw l lies = shown_shrinks s text l.span before later lies
shown_lies s text before later t l lies = record { lies = lies; start = omega arith; end = omega arith }

along_shown : (s : List ℕ) (text : IsUtf8 s) (p : ℕ) (before : Bool) (ls : List Lexeme) → Along s p ls → Along s p (shown_lexemes s before ls)
along_shown s text p before [] h = tt
along_shown s text p before (l ∷ ls) h =
    let small = shown_lies s text before (begin_trims ls) l.token l h.1 in
    let k = shown_lexeme s before (begin_trims ls) l.token l in
    let others = along_shown s text l.span.n (is_end l.token && l.hyphen) ls h.2 in
    (omega (arith, h.0, small.start), small.lies, along_before s k.span.n l.span.n (shown_lexemes s (is_end l.token && l.hyphen) ls) small.end others)

module _ (delimiters : List DelimiterText) (s : List ℕ) (texts : HasTexts delimiters) (utf8 : HasUtf8 delimiters) (text : IsUtf8 s) where
  pub along_cut : (mode mode' : Mode) (m n : ℕ) (ls : List Lexeme) → IsCharBoundary s m → Cut delimiters s mode m ls mode' n → Along s m ls
  along_cut mode mode' m n [] start h = tt
  along_cut mode mode' m n (l ∷ ls) start h =
      let lies = step_lies_in delimiters s texts utf8 text mode l.token l.hyphen m l.span.n start h.1 in
      let F : ℕ → Type 0 = λ x. LiesIn s (record { m = x; n = l.span.n }) in
      (omega (arith, h.0), subst F (sym h.0) lies, along_cut (mode_after mode l.token) mode' l.span.n n ls lies.end h.2)

  -- the tokens that the grammar reads
  pub along_significant : (before : Bool) (mode mode' : Mode) (m n : ℕ) (ls : List Lexeme) → IsCharBoundary s m → Cut delimiters s mode m ls mode' n → Along s m (significant (shown_lexemes s before ls))
  along_significant before mode mode' m n ls start h = along_comments s m (without_spaces (shown_lexemes s before ls)) (along_spaces s m (shown_lexemes s before ls) (along_shown s text m before ls (along_cut mode mode' m n ls start h)))

-- a token is read at this span, and the rest lies after it
pub record Passed (s : List ℕ) (p : ℕ) (span : Span) (rest : List Lexeme) : Type 0 where
  pub lies : LiesIn s span
  pub from : p ≤ span.m
  pub along : Along s span.n rest

pub goes_along : (s : List ℕ) (p : ℕ) (t : Token) (span : Span) (before rest : List Lexeme) → Along s p before → Goes t span before rest → Passed s p span rest
goes_along s p t span before rest h g =
    let F : List Lexeme → Type 0 = λ x. Along s p x in
    let read = subst F g.is h in
    let G : Span → Type 0 = λ x. Passed s p x rest in
    subst G g.at (record { lies = read.1; from = read.0; along = read.2 })

pub by_along : (s : List ℕ) (p : ℕ) (t : Token) (before rest : List Lexeme) → Along s p before → GoesBy t before rest → Along s p rest
by_along s p t before rest h g = let x = goes_along s p t g.0 before rest h g.1 in along_before s p g.0.n rest (omega (arith, x.from, x.lies.ordered)) x.along
