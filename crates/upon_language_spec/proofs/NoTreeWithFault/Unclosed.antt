-- The open blocks do not depend on what is shown of raw parts: a text that ends with a block open has no tree.
use Rattle.std.proofs.Common.{◌≡◌, ℕ, List, [], ◌∷◌, length, Bool, true, false, Option, Some, None, option_map, refl, sym, ap, ◌∙◌, subst, codes, ◌&&◌, if◌then◌else◌}
use Rattle.std.specs.Str.{bytes_eq}
use Rattle.upon_types.specs.declared.types.Span.{Span}
use Rattle.upon_types.specs.declared.types.token.Token.{Token}
use Rattle.upon_types.specs.declared.types.token.Token.TheVariants.{Raw, BeginBlock, EndBlock, Keyword}
use Rattle.upon_types.specs.Span.{slice}
use Rattle.upon_types.specs.Expression.{Expression}
use Rattle.upon_types.specs.Tree.{Statements}
use Rattle.upon_language_spec.specs.Search.{DelimiterText, HasTexts}
use Rattle.upon_language_spec.specs.Cut.{Lexeme, outside, Cut}
use Rattle.upon_language_spec.specs.Shown.{shown_lexeme, shown_lexemes, begin_trims, is_end}
use Rattle.upon_language_spec.specs.Tokens.{is_space, begins_comment, is_raw, without_spaces, without_comments, comment_from, after_comment_end, significant, from_to}
use Rattle.upon_language_spec.specs.Expressions.{IsExpression}
use Rattle.upon_language_spec.specs.Grammar.{HasTree}
use Rattle.upon_language_spec.proofs.NoTreeWithFault.Fine.{Passes}
use Rattle.upon_language_spec.proofs.OneCut.Cut.{one_cut_to}
use Rattle.upon_language_spec.specs.LaterFaults.{UnclosedBlock}
use Rattle.upon_language_spec.proofs.NoTreeWithFault.InsideTag.{shown_token}
use Rattle.upon_language_spec.specs.Blocks.{OpenBlock, Closer, else_if, plain_else, end_of, else_by, closer_by, end_from, open_or, by_word, by_closer, blocks_from, outermost}
use Rattle.upon_types.specs.BlockKinds.{Block, block_word, end_word, kind_with}
use Rattle.upon_language_spec.specs.ClosingTags.{is_word, blocks_past, word_next, closer_in, Closing, TokenTaken, AllTaken}
use Rattle.upon_language_spec.proofs.NoTreeWithFault.TagBlocks.{begins_block}
use Rattle.upon_language_spec.proofs.NoTreeWithFault.Blocks.{blocks_of_statements, taken_of_statements}

-- a raw part without its span
abbrev pub erased : Token → Lexeme → Lexeme
erased Raw l = record l { span = record { m = 0; n = 0 } }
erased t l = l

abbrev pub erase : Lexeme → Lexeme
erase l = erased l.token l

abbrev pub all_erased : List Lexeme → List Lexeme
all_erased [] = []
all_erased (l ∷ ls) = erase l ∷ all_erased ls

erased_token : (t : Token) (l : Lexeme) → (erased t l).token ≡ l.token
erased_token Raw l = refl
erased_token t l = refl

erase_token : (l : Lexeme) → (erase l).token ≡ l.token
erase_token l = erased_token l.token l

shown_erased_as : (s : List ℕ) (e b : Bool) (t : Token) (l : Lexeme) → erased t (shown_lexeme s e b t l) ≡ erased t l
shown_erased_as s e b Raw l = refl
shown_erased_as s e b t l = refl

shown_erased : (s : List ℕ) (e b : Bool) (l : Lexeme) → erase (shown_lexeme s e b l.token l) ≡ erase l
shown_erased s e b l = ap (λ (t : Token). erased t (shown_lexeme s e b l.token l)) (shown_token s e b l.token l) ∙ shown_erased_as s e b l.token l

pub all_shown_erased : (s : List ℕ) (e : Bool) (ls : List Lexeme) → all_erased (shown_lexemes s e ls) ≡ all_erased ls
all_shown_erased s e [] = refl
all_shown_erased s e (l ∷ ls) =
    let x = shown_lexeme s e (begin_trims ls) l.token l in
    ap (λ (y : Lexeme). y ∷ all_erased (shown_lexemes s (is_end l.token && l.hyphen) ls)) (shown_erased s e (begin_trims ls) l) ∙ ap (λ (ys : List Lexeme). erase l ∷ ys) (all_shown_erased s (is_end l.token && l.hyphen) ls)

erased_if : (b : Bool) (x y : List Lexeme) → all_erased (if b then x else y) ≡ (if b then all_erased x else all_erased y)
erased_if true x y = refl
erased_if false x y = refl

spaces_erased : (ls : List Lexeme) → without_spaces (all_erased ls) ≡ all_erased (without_spaces ls)
spaces_erased [] = refl
spaces_erased (l ∷ ls) =
    ap (λ (t : Token). if is_space t then without_spaces (all_erased ls) else (erase l ∷ without_spaces (all_erased ls))) (erase_token l)
    ∙ ap (λ (ys : List Lexeme). if is_space l.token then ys else (erase l ∷ ys)) (spaces_erased ls) ∙ sym (erased_if (is_space l.token) (without_spaces ls) (l ∷ without_spaces ls))

mutual
  comments_erased : (ls : List Lexeme) → without_comments (all_erased ls) ≡ all_erased (without_comments ls)
  comments_erased [] = refl
  comments_erased (l ∷ ls) =
      ap (λ (t : Token). if begins_comment t then comment_from (erase l) (all_erased ls) else (erase l ∷ without_comments (all_erased ls))) (erase_token l)
      ∙ ap (λ (ys : List Lexeme). if begins_comment l.token then ys else (erase l ∷ without_comments (all_erased ls))) (comment_erased l ls)
      ∙ ap (λ (ys : List Lexeme). if begins_comment l.token then all_erased (comment_from l ls) else (erase l ∷ ys)) (comments_erased ls)
      ∙ sym (erased_if (begins_comment l.token) (comment_from l ls) (l ∷ without_comments ls))

  comment_erased : (begin : Lexeme) (ls : List Lexeme) → comment_from (erase begin) (all_erased ls) ≡ all_erased (comment_from begin ls)
  comment_erased begin [] = refl
  comment_erased begin (l ∷ ls) =
      ap (λ (t : Token). if is_raw t then after_comment_end (all_erased ls) else (erase begin ∷ erase l ∷ without_comments (all_erased ls))) (erase_token l)
      ∙ ap (λ (ys : List Lexeme). if is_raw l.token then ys else (erase begin ∷ erase l ∷ without_comments (all_erased ls))) (end_erased ls)
      ∙ ap (λ (ys : List Lexeme). if is_raw l.token then all_erased (after_comment_end ls) else (erase begin ∷ erase l ∷ ys)) (comments_erased ls)
      ∙ sym (erased_if (is_raw l.token) (after_comment_end ls) (begin ∷ l ∷ without_comments ls))

  end_erased : (ls : List Lexeme) → after_comment_end (all_erased ls) ≡ all_erased (after_comment_end ls)
  end_erased [] = refl
  end_erased (l ∷ ls) = comments_erased ls

pub significant_erased : (ls : List Lexeme) → significant (all_erased ls) ≡ all_erased (significant ls)
significant_erased ls = ap without_comments (spaces_erased ls) ∙ comments_erased (without_spaces ls)

-- what is shown is read alike
pub alike : (s : List ℕ) (e : Bool) (ls : List Lexeme) → all_erased (significant (shown_lexemes s e ls)) ≡ all_erased (significant ls)
alike s e ls = sym (significant_erased (shown_lexemes s e ls)) ∙ ap significant (all_shown_erased s e ls) ∙ significant_erased ls

pub same_closer_by : (s word : List ℕ) (xs ys : List Lexeme) → else_by s xs ≡ else_by s ys → closer_by s word xs ≡ closer_by s word ys
same_closer_by s word xs ys f = ap (λ (x : Closer). if bytes_eq word (codes "else") then Some x else option_map end_of (kind_with end_word word)) f

pub same_by_word : (s : List ℕ) (begin : Span) (word : List ℕ) (xs ys : List Lexeme) (stack : List OpenBlock) → end_from begin xs ≡ end_from begin ys → else_by s xs ≡ else_by s ys → by_word s begin word xs stack ≡ by_word s begin word ys stack
same_by_word s begin word xs ys stack e f = opened (kind_with block_word word)
  where
    opened : (o : Option Block) → open_or o begin xs stack (by_closer (closer_by s word xs) stack) ≡ open_or o begin ys stack (by_closer (closer_by s word ys) stack)
    opened (Some kind) = ap (λ (x : Span). record { kind = kind; has_else = false; span = from_to begin x } ∷ stack) e
    opened None = ap (λ (x : Option Closer). by_closer x stack) (same_closer_by s word xs ys f)

end_at : (begin : Span) (ls : List Lexeme) (t : Token) (l : Lexeme) → (elim t as (λ _. Span) [ EndBlock ↦ (erased t l).span | _ ↦ end_from begin ls ]) ≡ (elim t as (λ _. Span) [ EndBlock ↦ l.span | _ ↦ end_from begin ls ])
end_at begin ls EndBlock l = refl
end_at begin ls t l = refl

end_erased_from : (begin : Span) (ls : List Lexeme) → end_from begin (all_erased ls) ≡ end_from begin ls
end_erased_from begin [] = refl
end_erased_from begin (l ∷ ls) =
    ap (λ (t : Token). elim t as (λ _. Span) [ EndBlock ↦ (erase l).span | _ ↦ end_from begin (all_erased ls) ]) (erase_token l)
    ∙ ap (λ (x : Span). elim l.token as (λ _. Span) [ EndBlock ↦ (erase l).span | _ ↦ x ]) (end_erased_from begin ls) ∙ end_at begin ls l.token l

else_erased : (s : List ℕ) (ls : List Lexeme) → else_by s (all_erased ls) ≡ else_by s ls
else_erased s [] = refl
else_erased s (l ∷ ls) = ap (λ (t : Token). elim t as (λ _. Closer) [ Keyword ↦ else_if | _ ↦ plain_else ]) (erase_token l)

word_stays : (t : Token) (l : Lexeme) → is_word t ≡ true → erased t l ≡ l
word_stays Raw l h = absurd cc
word_stays t l h = refl

word_next_erased : (ls : List Lexeme) → word_next (all_erased ls) ≡ word_next ls
word_next_erased [] = refl
word_next_erased (k ∷ ls) = ap is_word (erase_token k)

module _ (s : List ℕ) where
  closer_erased : (ls : List Lexeme) → word_next ls ≡ true → closer_in s (all_erased ls) ≡ closer_in s ls
  closer_erased [] h = refl
  closer_erased (k ∷ ls) h = ap (λ (x : Lexeme). closer_by s (slice s x.span) (all_erased ls)) (word_stays k.token k h) ∙ same_closer_by s (slice s k.span) (all_erased ls) ls (else_erased s ls)

  begin_erased : (begin : Span) (a : List OpenBlock) (ls : List Lexeme) → word_next ls ≡ true → blocks_past s a BeginBlock begin (all_erased ls) ≡ blocks_past s a BeginBlock begin ls
  begin_erased begin a [] h = refl
  begin_erased begin a (k ∷ ls) h =
      ap (λ (x : Lexeme). by_word s begin (slice s x.span) (all_erased ls) a) (word_stays k.token k h) ∙ same_by_word s begin (slice s k.span) (all_erased ls) ls a (end_erased_from begin ls) (else_erased s ls)

  step_erased_as : (a : List OpenBlock) (t : Token) (l : Lexeme) (ls : List Lexeme) → (begins_block t ≡ true → word_next ls ≡ true) → blocks_past s a t (erased t l).span (all_erased ls) ≡ blocks_past s a t l.span ls
  step_erased_as a BeginBlock l ls h = begin_erased l.span a ls (h refl)
  step_erased_as a t l ls h = refl

  step_erased : (a : List OpenBlock) (l : Lexeme) (ls : List Lexeme) → (begins_block l.token ≡ true → word_next ls ≡ true) → blocks_past s a (erase l).token (erase l).span (all_erased ls) ≡ blocks_past s a l.token l.span ls
  step_erased a l ls h = ap (λ (t : Token). blocks_past s a t (erase l).span (all_erased ls)) (erase_token l) ∙ step_erased_as a l.token l ls h

  taken_word : (a : List OpenBlock) (t : Token) (ls : List Lexeme) → TokenTaken s a t ls → begins_block t ≡ true → word_next ls ≡ true
  taken_word a BeginBlock ls h e = h.0
  taken_word a _ ls h e = absurd cc

  token_erased : (a : List OpenBlock) (t : Token) (ls : List Lexeme) → TokenTaken s a t ls → TokenTaken s a t (all_erased ls)
  token_erased a BeginBlock ls h = let F : Option Closer → Type 0 = λ x. Closing a x in (word_next_erased ls ∙ h.0, subst F (sym (closer_erased ls h.0)) h.1)
  token_erased a _ ls h = tt

  token_back : (a : List OpenBlock) (t : Token) (ls : List Lexeme) → TokenTaken s a t (all_erased ls) → TokenTaken s a t ls
  token_back a BeginBlock ls h = let F : Option Closer → Type 0 = λ x. Closing a x in let w = sym (word_next_erased ls) ∙ h.0 in (w, subst F (closer_erased ls w) h.1)
  token_back a _ ls h = tt

  pub taken_erased : (a : List OpenBlock) (ls : List Lexeme) → AllTaken s a ls → AllTaken s a (all_erased ls)
  taken_erased a [] h = tt
  taken_erased a (l ∷ ls) h =
      let F : Token → Type 0 = λ t. TokenTaken s a t (all_erased ls) in
      let G : List OpenBlock → Type 0 = λ x. AllTaken s x (all_erased ls) in
      (subst F (sym (erase_token l)) (token_erased a l.token ls h.0), subst G (sym (step_erased a l ls (taken_word a l.token ls h.0))) (taken_erased (blocks_past s a l.token l.span ls) ls h.1))

  pub taken_back : (a : List OpenBlock) (ls : List Lexeme) → AllTaken s a (all_erased ls) → AllTaken s a ls
  taken_back a [] h = tt
  taken_back a (l ∷ ls) h =
      let F : Token → Type 0 = λ t. TokenTaken s a t (all_erased ls) in
      let G : List OpenBlock → Type 0 = λ x. AllTaken s x (all_erased ls) in
      let here : TokenTaken s a l.token ls = token_back a l.token ls (subst F (erase_token l) h.0) in
      (here, taken_back (blocks_past s a l.token l.span ls) ls (subst G (step_erased a l ls (taken_word a l.token ls here)) h.1))

  pub blocks_erased : (a : List OpenBlock) (ls : List Lexeme) → AllTaken s a ls → blocks_from s a (all_erased ls) ≡ blocks_from s a ls
  blocks_erased a [] h = refl
  blocks_erased a (l ∷ ls) h = ap (λ (x : List OpenBlock). blocks_from s x (all_erased ls)) (step_erased a l ls (taken_word a l.token ls h.0)) ∙ blocks_erased (blocks_past s a l.token l.span ls) ls h.1

  -- tokens that are read alike take closing tags alike, and leave the same blocks open
  pub alike_taken : (a : List OpenBlock) (xs ys : List Lexeme) → all_erased xs ≡ all_erased ys → AllTaken s a xs → AllTaken s a ys
  alike_taken a xs ys e h = let F : List Lexeme → Type 0 = λ x. AllTaken s a x in taken_back a ys (subst F e (taken_erased a xs h))

  pub alike_blocks : (a : List OpenBlock) (xs ys : List Lexeme) → all_erased xs ≡ all_erased ys → AllTaken s a xs → blocks_from s a xs ≡ blocks_from s a ys
  alike_blocks a xs ys e h = sym (blocks_erased a xs h) ∙ ap (blocks_from s a) e ∙ blocks_erased a ys (alike_taken a xs ys e h)

none_open : (blocks : List OpenBlock) (o : OpenBlock) → blocks ≡ [] → outermost blocks ≡ Some o → ⊥
none_open blocks o e h = let nothing : outermost blocks ≡ None = ap outermost e in cc

module _ (delimiters : List DelimiterText) (s : List ℕ) (texts : HasTexts delimiters) (passes : (e : Expression) (ts rest : List Lexeme) → IsExpression s e ts rest → Passes s ts rest) where
  -- a tree's tokens as they are in the text take their closing tags, and leave no block open
  pub tree_taken : (tree : Statements) (h : HasTree delimiters s tree) → AllTaken s [] (significant h.lexemes)
  tree_taken tree h = alike_taken s [] (significant (shown_lexemes s false h.lexemes)) (significant h.lexemes) (alike s false h.lexemes) (taken_of_statements s passes tree (significant (shown_lexemes s false h.lexemes)) h.reads)

  pub tree_blocks : (tree : Statements) (h : HasTree delimiters s tree) → blocks_from s [] (significant h.lexemes) ≡ []
  tree_blocks tree h =
      let ts = significant (shown_lexemes s false h.lexemes) in
      sym (alike_blocks s [] ts (significant h.lexemes) (alike s false h.lexemes) (taken_of_statements s passes tree ts h.reads)) ∙ blocks_of_statements s passes tree [] ts [] h.reads

  pub no_tree_unclosed_block : (p : ℕ) (place : Span) (reason : List ℕ) → UnclosedBlock delimiters s p place reason → (tree : Statements) → HasTree delimiters s tree → ⊥
  no_tree_unclosed_block p place reason f tree h =
      let F : ℕ → Type 0 = λ q. Cut delimiters s outside 0 f.lexemes outside q in
      let same = one_cut_to delimiters s outside outside (length s) f.lexemes h.lexemes texts (subst F f.eof f.reads) h.cut in
      none_open (blocks_from s [] (significant f.lexemes)) f.opening (ap (λ (x : List Lexeme). blocks_from s [] (significant x)) same.0 ∙ tree_blocks tree h) f.outer
