-- The open blocks of before are those of today, kind by kind, and so are the closing tags.
use Rattle.std.proofs.Common.{◌≡◌, ℕ, List, [], ◌∷◌, map, Bool, true, false, Option, Some, None, option_map, refl, sym, ap, ap₂, ◌∙◌, if◌then◌else◌, bytes_eq, codes}
use Rattle.upon_types.specs.declared.types.Span.{Span}
use Rattle.upon_types.specs.declared.types.token.Token.{Token}
use Rattle.upon_types.specs.declared.types.token.Token.TheVariants.{BeginBlock, Keyword}
use Rattle.upon_types.specs.Span.{slice}
use Rattle.upon_types.specs.BlockKinds.{Block, if_block, for_block, with_block, block_word, end_word, kind_with}
use Rattle.upon_language_spec.specs.Cut.{Lexeme}
use Rattle.upon_language_spec.specs.Blocks.{OpenBlock, Closer, else_if, plain_else, end_of, else_by, closer_by, closer_of, open_or, by_closer, by_word, at_begin, blocks_from, open_blocks, outermost, closer_words}
use Rattle.upon_before_spec.specs.Blocks.{Block as BlockBefore, if_block as if_before, for_block as for_before, with_block as with_before, OpenBlock as OpenBefore, Closer as CloserBefore, else_if as else_if_before, plain_else as plain_else_before, end_if, end_for, end_with, else_by as else_was_by, closer_by as closer_was_by, closer_of as closer_was_of, by_closer as was_by_closer, by_word as was_by_word, at_begin as was_at_begin, blocks_from as blocks_were_from, open_blocks as blocks_were_open, open_block as opened_before, outermost as was_outermost, block_word as word_before, closer_words as closer_had_words}

-- a kind of block as it was
abbrev pub kind_was : Block → BlockBefore
kind_was if_block = if_before
kind_was for_block = for_before
kind_was with_block = with_before

-- an open block
abbrev pub opened_was : OpenBlock → OpenBefore
opened_was o = record { kind = kind_was o.kind; has_else = o.has_else; span = o.span }

-- a closing tag, and the one of today that it is
abbrev pub closer_was : Closer → CloserBefore
closer_was else_if = else_if_before
closer_was plain_else = plain_else_before
closer_was (end_of if_block) = end_if
closer_was (end_of for_block) = end_for
closer_was (end_of with_block) = end_with

abbrev pub closer_now : CloserBefore → Closer
closer_now else_if_before = else_if
closer_now plain_else_before = plain_else
closer_now end_if = end_of if_block
closer_now end_for = end_of for_block
closer_now end_with = end_of with_block

same_closer : (c : Closer) → closer_now (closer_was c) ≡ c
same_closer else_if = refl
same_closer plain_else = refl
same_closer (end_of if_block) = refl
same_closer (end_of for_block) = refl
same_closer (end_of with_block) = refl

pub words_were : (c : Closer) → closer_had_words (closer_was c) ≡ closer_words c
words_were else_if = refl
words_were plain_else = refl
words_were (end_of if_block) = refl
words_were (end_of for_block) = refl
words_were (end_of with_block) = refl

pub words_now : (c : CloserBefore) → closer_words (closer_now c) ≡ closer_had_words c
words_now else_if_before = refl
words_now plain_else_before = refl
words_now end_if = refl
words_now end_for = refl
words_now end_with = refl

pub word_was : (kind : Block) → word_before (kind_was kind) ≡ block_word kind
word_was if_block = refl
word_was for_block = refl
word_was with_block = refl

-- ---- closing tags
else_token_was : (t : Token) → elim t as (λ _. CloserBefore) [ Keyword ↦ else_if_before | _ ↦ plain_else_before ] ≡ closer_was (elim t as (λ _. Closer) [ Keyword ↦ else_if | _ ↦ plain_else ])
else_token_was Keyword = refl
else_token_was t = refl

else_was : (s : List ℕ) (ls : List Lexeme) → else_was_by s ls ≡ closer_was (else_by s ls)
else_was s [] = refl
else_was s (l ∷ ls) = else_token_was l.token

by_words : (a b c d : Bool) (e : Closer) → (if a then Some (closer_was e) else (if b then Some end_if else (if c then Some end_for else (if d then Some end_with else None)))) ≡ option_map closer_was (if a then Some e else option_map end_of (if b then Some if_block else (if c then Some for_block else (if d then Some with_block else None))))
by_words true b c d e = refl
by_words false true c d e = refl
by_words false false true d e = refl
by_words false false false true e = refl
by_words false false false false e = refl

closer_by_was : (s word : List ℕ) (ls : List Lexeme) → closer_was_by s word ls ≡ option_map closer_was (closer_by s word ls)
closer_by_was s word ls =
    ap (λ (e : CloserBefore). if bytes_eq word (codes "else") then Some e else (if bytes_eq word (codes "endif") then Some end_if else (if bytes_eq word (codes "endfor") then Some end_for else (if bytes_eq word (codes "endwith") then Some end_with else None)))) (else_was s ls)
    ∙ by_words (bytes_eq word (codes "else")) (bytes_eq word (codes "endif")) (bytes_eq word (codes "endfor")) (bytes_eq word (codes "endwith")) (else_by s ls)

at_token : (t : Token) (x : Option CloserBefore) (y : Option Closer) → x ≡ option_map closer_was y → elim t as (λ _. Option CloserBefore) [ BeginBlock ↦ x | _ ↦ None ] ≡ option_map closer_was (elim t as (λ _. Option Closer) [ BeginBlock ↦ y | _ ↦ None ])
at_token BeginBlock x y e = e
at_token t x y e = refl

pub closer_of_was : (s : List ℕ) (ls : List Lexeme) → closer_was_of s ls ≡ option_map closer_was (closer_of s ls)
closer_of_was s [] = refl
closer_of_was s (l ∷ []) = refl
closer_of_was s (l ∷ k ∷ ls) = at_token l.token _ _ (closer_by_was s (slice s k.span) ls)

only_one : (x : Option Closer) (c : CloserBefore) → option_map closer_was x ≡ Some c → x ≡ Some (closer_now c)
only_one None c e = absurd cc
only_one (Some d) c e = ap Some (sym (same_closer d)) ∙ ap (option_map closer_now) e

pub closing_now : (s : List ℕ) (ls : List Lexeme) (c : CloserBefore) → closer_was_of s ls ≡ Some c → closer_of s ls ≡ Some (closer_now c)
closing_now s ls c e = only_one (closer_of s ls) c (sym (closer_of_was s ls) ∙ e)

-- ---- open blocks
by_closer_was : (x : Option Closer) (stack : List OpenBlock) → was_by_closer (option_map closer_was x) (map opened_was stack) ≡ map opened_was (by_closer x stack)
by_closer_was None stack = refl
by_closer_was (Some c) [] = refl
by_closer_was (Some else_if) (o ∷ stack) = refl
by_closer_was (Some plain_else) (o ∷ stack) = refl
by_closer_was (Some (end_of if_block)) (o ∷ stack) = refl
by_closer_was (Some (end_of for_block)) (o ∷ stack) = refl
by_closer_was (Some (end_of with_block)) (o ∷ stack) = refl

by_first_word : (a b c : Bool) (begin : Span) (ls : List Lexeme) (stack others : List OpenBlock) → (if a then opened_before if_before begin ls (map opened_was stack) else (if b then opened_before for_before begin ls (map opened_was stack) else (if c then opened_before with_before begin ls (map opened_was stack) else map opened_was others))) ≡ map opened_was (open_or (if a then Some if_block else (if b then Some for_block else (if c then Some with_block else None))) begin ls stack others)
by_first_word true b c begin ls stack others = refl
by_first_word false true c begin ls stack others = refl
by_first_word false false true begin ls stack others = refl
by_first_word false false false begin ls stack others = refl

by_word_was : (s : List ℕ) (begin : Span) (word : List ℕ) (ls : List Lexeme) (stack : List OpenBlock) → was_by_word s begin word ls (map opened_was stack) ≡ map opened_was (by_word s begin word ls stack)
by_word_was s begin word ls stack =
    ap (λ (x : List OpenBefore). if bytes_eq word (codes "if") then opened_before if_before begin ls (map opened_was stack) else (if bytes_eq word (codes "for") then opened_before for_before begin ls (map opened_was stack) else (if bytes_eq word (codes "with") then opened_before with_before begin ls (map opened_was stack) else x)))
    (ap (λ (x : Option CloserBefore). was_by_closer x (map opened_was stack)) (closer_by_was s word ls) ∙ by_closer_was (closer_by s word ls) stack)
    ∙ by_first_word (bytes_eq word (codes "if")) (bytes_eq word (codes "for")) (bytes_eq word (codes "with")) begin ls stack (by_closer (closer_by s word ls) stack)

at_begin_was : (s : List ℕ) (begin : Span) (ls : List Lexeme) (stack : List OpenBlock) → was_at_begin s begin ls (map opened_was stack) ≡ map opened_was (at_begin s begin ls stack)
at_begin_was s begin [] stack = refl
at_begin_was s begin (k ∷ ls) stack = by_word_was s begin (slice s k.span) ls stack

past_token : (t : Token) (stack more : List OpenBlock) (more_before : List OpenBefore) → more_before ≡ map opened_was more → elim t as (λ _. List OpenBefore) [ BeginBlock ↦ more_before | _ ↦ map opened_was stack ] ≡ map opened_was (elim t as (λ _. List OpenBlock) [ BeginBlock ↦ more | _ ↦ stack ])
past_token BeginBlock stack more more_before e = e
past_token t stack more more_before e = refl

from_was : (s : List ℕ) (stack : List OpenBlock) (ls : List Lexeme) → blocks_were_from s (map opened_was stack) ls ≡ map opened_was (blocks_from s stack ls)
from_was s stack [] = refl
from_was s stack (l ∷ ls) =
    ap (λ (x : List OpenBefore). blocks_were_from s x ls) (past_token l.token stack (at_begin s l.span ls stack) _ (at_begin_was s l.span ls stack))
    ∙ from_was s (elim l.token [ BeginBlock ↦ at_begin s l.span ls stack | _ ↦ stack ]) ls

pub open_was : (s : List ℕ) (ls : List Lexeme) → blocks_were_open s ls ≡ map opened_was (open_blocks s ls)
open_was s ls = from_was s [] ls

pub outermost_was : (stack : List OpenBlock) → was_outermost (map opened_was stack) ≡ option_map opened_was (outermost stack)
outermost_was [] = refl
outermost_was (o ∷ []) = refl
outermost_was (o ∷ p ∷ stack) = outermost_was (p ∷ stack)
