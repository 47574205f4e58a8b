-- The tokens that a tree is read from, split where the cut of the text lies in a tag, in an empty comment, or outside.
use Rattle.std.proofs.Common.{◌≡◌, ℕ, List, [], ◌∷◌, ◌++◌, Bool, true, false, Option, Some, None, refl, sym, ap, ◌∙◌, append_assoc}
use Rattle.upon_types.specs.declared.types.token.Token.{Token}
use Rattle.upon_types.specs.declared.types.token.Token.TheVariants.{Raw, BeginComment, EndComment}
use Rattle.upon_language_spec.specs.Search.{DelimiterText}
use Rattle.upon_language_spec.specs.Delimiters.{Sort, begin_token}
use Rattle.upon_language_spec.specs.Cut.{Lexeme, Mode, outside, in_tag, in_comment, Cut}
use Rattle.upon_language_spec.specs.Shown.{shown_lexemes}
use Rattle.upon_language_spec.specs.Tokens.{begins_comment, without_spaces, comment_from, after_comment_end, significant}
use Rattle.upon_language_spec.specs.Reading.{open_tag, last_of}
use Rattle.upon_language_spec.specs.LaterFaults.{is_comment_begin}
use Rattle.upon_language_spec.specs.InTags.{EachInside, last_or}
use Rattle.upon_language_spec.proofs.NoTreeWithFault.InsideTag.{significant_behind, at_empty_comment}
use Rattle.upon_language_spec.proofs.NoTreeWithFault.TagWalk.{Arrives, walk}

-- the open tag is a begin and what may be inside a tag, and its tokens are read as they are, between some others and the rest
pub record InTag (s : List ℕ) (sort : Sort) (rest tag read : List Lexeme) : Type 0 where
  pub front : List Lexeme
  pub begin : Lexeme
  pub inner : List Lexeme
  pub later : Bool
  pub opens : tag ≡ begin ∷ inner
  pub of_sort : begin.token ≡ begin_token sort
  pub no_comment : begins_comment begin.token ≡ false
  pub inside : EachInside inner
  pub tokens : read ≡ front ++ (without_spaces (begin ∷ inner) ++ significant (shown_lexemes s later rest))

-- the begin of a comment is read, and the end after it
pub record InComment (read : List Lexeme) : Type 0 where
  pub front : List Lexeme
  pub begin : Lexeme
  pub back : List Lexeme
  pub of_comment : begin.token ≡ BeginComment
  pub tokens : read ≡ front ++ (begin ∷ back)

abbrev is_outside : Mode → Bool
is_outside outside = true
is_outside mode = false

abbrev is_comment : Mode → Bool
is_comment in_comment = true
is_comment mode = false

abbrev sort_of : Sort → Mode → Sort
sort_of other (in_tag sort path) = sort
sort_of other mode = other

no_inside : (P : Type 0) → true ≡ false → P
no_inside P e = absurd cc

pub last_is : (l : Lexeme) (ls : List Lexeme) → last_of (l ∷ ls) ≡ last_or (Some l) ls
last_is l [] = refl
last_is l (k ∷ ls) = last_is k ls

pub last_or_none : (ls : List Lexeme) → last_of ls ≡ last_or None ls
last_or_none [] = refl
last_or_none (l ∷ ls) = last_is l ls

module _ (s : List ℕ) (rest : List Lexeme) where
  abbrev TagGoal : Sort → Option Lexeme → List Lexeme → List Lexeme → Type 0
  TagGoal sort o tag read = InTag s sort rest tag read

  tag_fronted : (sort : Sort) (tag front read : List Lexeme) → InTag s sort rest tag read → InTag s sort rest tag (front ++ read)
  tag_fronted sort tag front read h = record {
    front = front ++ h.front;
    begin = h.begin;
    inner = h.inner;
    later = h.later;
    opens = h.opens;
    of_sort = h.of_sort;
    no_comment = h.no_comment;
    inside = h.inside;
    tokens = ap (λ (x : List Lexeme). front ++ x) h.tokens ∙ sym (append_assoc front h.front (without_spaces (h.begin ∷ h.inner) ++ significant (shown_lexemes s h.later rest)));
  }

  tag_arrives : (sort : Sort) (path : Bool) → Arrives s rest (in_tag sort path) (TagGoal sort)
  tag_arrives sort path = record {
    fronted = λ o tag front read h. tag_fronted sort tag front read h;
    at_outside = λ o acc later e. no_inside (InTag s sort rest acc (significant (shown_lexemes s later rest))) (ap is_outside e);
    at_tag = λ o so pa begin inner later e t c each. record {
      front = [];
      begin = begin;
      inner = inner;
      later = later;
      opens = refl;
      of_sort = t ∙ ap begin_token (ap (sort_of sort) e);
      no_comment = ap begins_comment t ∙ c;
      inside = each;
      tokens = refl;
    };
    at_comment = λ begin later e t. no_inside (InTag s sort rest (begin ∷ []) (comment_from begin (without_spaces (shown_lexemes s later rest)))) (ap is_comment e);
    at_raw = λ begin raw later e t r. no_inside (InTag s sort rest (begin ∷ raw ∷ []) (after_comment_end (without_spaces (shown_lexemes s later rest)))) (ap is_comment e);
  }

  abbrev CommentGoal : Option Lexeme → List Lexeme → List Lexeme → Type 0
  CommentGoal o tag read = is_comment_begin o ≡ true → InComment read

  comment_fronted : (front read : List Lexeme) → InComment read → InComment (front ++ read)
  comment_fronted front read h = record {
    front = front ++ h.front;
    begin = h.begin;
    back = h.back;
    of_comment = h.of_comment;
    tokens = ap (λ (x : List Lexeme). front ++ x) h.tokens ∙ sym (append_assoc front h.front (h.begin ∷ h.back));
  }

  raw_just_begun : (t : Token) → t ≡ Raw → (l : Lexeme) → l.token ≡ t → is_comment_begin (Some l) ≡ false
  raw_just_begun t e l h = ap begins_comment (h ∙ e)

  comment_arrives : ((begin : Lexeme) (later : Bool) → begin.token ≡ BeginComment → InComment (comment_from begin (without_spaces (shown_lexemes s later rest)))) → Arrives s rest in_comment CommentGoal
  comment_arrives here = record {
    fronted = λ o tag front read h k. comment_fronted front read (h k);
    at_outside = λ o acc later e k. no_inside (InComment (significant (shown_lexemes s later rest))) (ap is_outside e);
    at_tag = λ o so pa begin inner later e t c each k. no_inside (InComment (without_spaces (begin ∷ inner) ++ significant (shown_lexemes s later rest))) (sym (ap is_comment e));
    at_comment = λ begin later e t k. here begin later t;
    at_raw = λ begin raw later e t r k. no_inside (InComment (after_comment_end (without_spaces (shown_lexemes s later rest)))) (sym k ∙ raw_just_begun Raw refl raw r);
  }

-- a cut that goes on from a span in a tag: the open tag's tokens are read as they are
pub split_in_tag : (delimiters : List DelimiterText) (s : List ℕ) (sort : Sort) (path : Bool) (p : ℕ) (ls rest : List Lexeme) → Cut delimiters s outside 0 ls (in_tag sort path) p → InTag s sort rest (open_tag ls) (significant (shown_lexemes s false (ls ++ rest)))
split_in_tag delimiters s sort path p ls rest h = walk delimiters s rest (in_tag sort path) p (TagGoal s rest sort) (tag_arrives s rest sort path) ls h

-- a cut that goes on from a span in a comment that has just begun, with its end: the comment's begin is read
pub split_in_comment : (delimiters : List DelimiterText) (s : List ℕ) (p : ℕ) (ls : List Lexeme) (l : Lexeme) (more : List Lexeme) → Cut delimiters s outside 0 ls in_comment p → is_comment_begin (last_of ls) ≡ true → l.token ≡ EndComment → InComment (significant (shown_lexemes s false (ls ++ l ∷ more)))
split_in_comment delimiters s p ls l more h begun t =
    walk delimiters s (l ∷ more) in_comment p (CommentGoal s (l ∷ more))
    (comment_arrives s (l ∷ more) (λ begin later of_comment. record {
      front = [];
      begin = begin;
      back = significant_behind s later l more;
      of_comment = of_comment;
      tokens = at_empty_comment s later begin l more t;
    })) ls h (sym (ap is_comment_begin (last_or_none ls)) ∙ begun)
