-- The open blocks in the code's list: the last is the innermost, and tags open and close at that end.
use Rattle.std.proofs.Common.{◌≡◌, ℕ, ◌-◌, List, [], ◌∷◌, ◌++◌, length, Bool, true, false, Option, Some, None, option_map, MatchOption, ◌<◌, get_or, refl, sym, ap, ◌∙◌, subst, arith, if◌then◌else◌}
use Rattle.std.specs.List.{slice_get}
use Rattle.std.specs.Option.{option_to_list}
use Rattle.std.proofs.lemmas.List.{append-nil}
use Rattle.std.proofs.Math.ListN.{set}
use Rattle.std.proofs.Math.Seq.{set-append_seam, get_or-append_seam}
use Rattle.upon_types.specs.declared.types.Span.{Span}
use Rattle.upon_types.specs.BlockKinds.{Block}
use Rattle.upon_language_spec.specs.Blocks.{OpenBlock, Closer, else_if, plain_else, end_of, block_takes, takes, after_closer, by_closer, outermost}
use Rattle.upon_syntax.specs.declared.compile.parse.open_blocks.OpenBlock.{OpenBlock as CodeBlock}
use Rattle.upon_tag_parser.specs.BlockTags.{BlockTag, opening_tag, else_if_tag, else_tag, end_tag, include_tag}
use Rattle.upon_types.specs.BlockKinds.{block_kind}
use Rattle.upon_syntax.specs.Pieces.{kinds_left, after_closing, blocks_after_tag}
use Rattle.upon_types.specs.declared.types.block.BlockKind.{BlockKind}
use Rattle.upon_types.specs.declared.types.block.Closing.{Closing}
use Rattle.upon_syntax.specs.declared.compile.parse.open_blocks.Effect.TheVariants.{Opens, Closes, Nothing}
use Rattle.upon_syntax.specs.OpenBlocks.{closer_view, block_of, stack_from, innermost_block, kinds_of, new_block, with_block_opened, after_tag, HasEffect, IsTaken, IsUntaken}

pub stack_more : (stack : List OpenBlock) (bs cs : List CodeBlock) → stack_from stack (bs ++ cs) ≡ stack_from (stack_from stack bs) cs
stack_more stack [] cs = refl
stack_more stack (b ∷ bs) cs = stack_more (block_of b ∷ stack) bs cs

last_from : (stack : List OpenBlock) (b : CodeBlock) (bs : List CodeBlock) → option_map block_of (slice_get (b ∷ bs) (length bs)) ≡ innermost_block (stack_from stack (b ∷ bs))
last_from stack b [] = refl
last_from stack b (c ∷ cs) = last_from (block_of b ∷ stack) c cs

-- the innermost block is the last of the list
pub innermost_last : (bs : List CodeBlock) → option_map block_of (slice_get bs (length bs - 1)) ≡ innermost_block (stack_from [] bs)
innermost_last [] = refl
innermost_last (b ∷ bs) = let same : length (b ∷ bs) - 1 ≡ length bs = omega arith in ap (λ (k : ℕ). option_map block_of (slice_get (b ∷ bs) k)) same ∙ last_from [] b bs

-- the outermost one stays while others open
outermost_stays : (o p : OpenBlock) (stack : List OpenBlock) (bs : List CodeBlock) → outermost (stack_from (o ∷ (p ∷ stack)) bs) ≡ outermost (stack_from (p ∷ stack) bs)
outermost_stays o p stack [] = refl
outermost_stays o p stack (b ∷ bs) = outermost_stays (block_of b) o (p ∷ stack) bs ∙ outermost_stays o p stack bs ∙ sym (outermost_stays (block_of b) p stack bs)

outermost_from : (o : OpenBlock) (bs : List CodeBlock) → outermost (stack_from (o ∷ []) bs) ≡ Some o
outermost_from o [] = refl
outermost_from o (b ∷ bs) = outermost_stays (block_of b) o [] bs ∙ outermost_from o bs

-- the outermost block is the first of the list
pub outermost_first : (bs : List CodeBlock) → option_map block_of (slice_get bs 0) ≡ outermost (stack_from [] bs)
outermost_first [] = refl
outermost_first (b ∷ bs) = sym (outermost_from (block_of b) bs)

-- the blocks without the innermost, where there is one
pub popped : (kind : Block) (bs rest : List CodeBlock) (last : Option CodeBlock) → bs ≡ rest ++ option_to_list last → (last ≡ None → rest ≡ []) → stack_from [] rest ≡ after_closer (end_of kind) (stack_from [] bs)
popped kind bs rest None e none =
    let empty : rest ≡ [] = none refl in
    let all : bs ≡ [] = e ∙ append-nil rest ∙ empty in
    ap (stack_from []) empty ∙ ap (λ (x : List CodeBlock). after_closer (end_of kind) (stack_from [] x)) (sym all)
popped kind bs rest (Some b) e none = sym (ap (λ (x : List CodeBlock). after_closer (end_of kind) (stack_from [] x)) e ∙ ap (after_closer (end_of kind)) (stack_more [] rest (b ∷ [])))

-- a list that is not empty, by its last
pub by_last : (b : CodeBlock) (bs : List CodeBlock) → (front : List CodeBlock) × (last : CodeBlock) × (b ∷ bs ≡ front ++ last ∷ []) × (length front ≡ length bs)
by_last b [] = ([], b, refl, refl)
by_last b (c ∷ cs) =
    let rest = by_last c cs in
    let longer : length (b ∷ rest.0) ≡ length (c ∷ cs) = omega (arith, rest.3) in
    (b ∷ rest.0, rest.1, ap (λ (x : List CodeBlock). b ∷ x) rest.2, longer)

abbrev marked : CodeBlock → CodeBlock
marked r = record { kind = r.kind; has_else = true; span = r.span }

-- the innermost's `else` was read
pub else_begun : (bs : List CodeBlock) (k : ℕ) (r : CodeBlock) → 0 < length bs → k ≡ length bs - 1 → r ≡ get_or bs k r → stack_from [] (set bs k (marked r)) ≡ after_closer plain_else (stack_from [] bs)
else_begun [] k r some e at = absurd (omega (arith, some))
else_begun (b ∷ bs) k r some e at =
    let x = by_last b bs in
    let all = x.2 in
    let place : k ≡ length x.0 = omega (arith, e, x.3) in
    let found : get_or (b ∷ bs) k r ≡ get_or (x.0 ++ x.1 ∷ []) (length x.0) r = λ i. get_or (all i) (place i) r in
    let same : r ≡ x.1 = at ∙ found ∙ get_or-append_seam x.0 x.1 [] r in
    let stored : set (b ∷ bs) k (marked r) ≡ set (x.0 ++ x.1 ∷ []) (length x.0) (marked r) = λ i. set (all i) (place i) (marked r) in
    ap (stack_from []) (stored ∙ set-append_seam x.0 x.1 [] (marked r)) ∙ stack_more [] x.0 (marked r ∷ [])
    ∙ ap (λ (y : CodeBlock). block_of (marked y) ∷ stack_from [] x.0) same
    ∙ sym (ap (after_closer plain_else) (ap (stack_from []) all ∙ stack_more [] x.0 (x.1 ∷ [])))

takes_first : (stack : List OpenBlock) (o : OpenBlock) (closer : Closer) → innermost_block stack ≡ Some o → block_takes o.kind o.has_else closer ≡ takes stack closer
takes_first [] o closer e = absurd cc
takes_first (p ∷ stack) o closer e = let same : p ≡ o = cc in ap (λ (x : OpenBlock). block_takes x.kind x.has_else closer) (sym same)

-- whether the innermost takes a closing tag
pub takes_innermost : (bs xs : List CodeBlock) (b : CodeBlock) (closer : Closer) → xs ≡ bs → Some b ≡ slice_get xs (length xs - 1) → block_takes (block_of b).kind b.has_else closer ≡ takes (stack_from [] bs) closer
takes_innermost bs xs b closer e last =
    let F : List CodeBlock → Type 0 = λ x. Some b ≡ slice_get x (length x - 1) in
    takes_first (stack_from [] bs) (block_of b) closer (sym (innermost_last bs) ∙ ap (option_map block_of) (sym (subst F e last)))

-- ---- the kinds of the open blocks
abbrev opened : Block → Bool → Span → OpenBlock
opened kind has_else span = record { kind = kind; has_else = has_else; span = span }

same_left : (closer : Closer) (kind : Block) (has_else : Bool) (span : Span) (stack : List OpenBlock) → kinds_left closer (kind, has_else) (kinds_of stack) ≡ kinds_of (after_closer closer (opened kind has_else span ∷ stack))
same_left else_if kind has_else span stack = refl
same_left plain_else kind has_else span stack = refl
same_left (end_of ended) kind has_else span stack = refl

one_closed : (closer : Closer) (kind : Block) (has_else : Bool) (span : Span) (stack : List OpenBlock) → block_takes kind has_else closer ≡ true
    → after_closing closer (kinds_of (opened kind has_else span ∷ stack)) ≡ Some (kinds_of (after_closer closer (opened kind has_else span ∷ stack)))
one_closed closer kind has_else span stack h =
    ap (λ (b : Bool). if b then Some (kinds_left closer (kind, has_else) (kinds_of stack)) else None) h ∙ ap Some (same_left closer kind has_else span stack)

closed : (closer : Closer) (stack : List OpenBlock) → takes stack closer ≡ true → after_closing closer (kinds_of stack) ≡ Some (kinds_of (after_closer closer stack))
closed closer [] h = absurd cc
closed closer (o ∷ stack) h = one_closed closer o.kind o.has_else o.span stack h

-- a tag that is taken leads the kinds of the open blocks on as the blocks
pub kinds_on : (tag : BlockTag) (span : Span) (stack : List OpenBlock) → IsTaken tag stack → blocks_after_tag tag (kinds_of stack) ≡ Some (kinds_of (after_tag tag span stack))
kinds_on (opening_tag opening e) span stack taken = refl
kinds_on (else_if_tag negated e) span stack taken = closed else_if stack (taken else_if refl)
kinds_on else_tag span stack taken = closed plain_else stack (taken plain_else refl)
kinds_on (end_tag kind) span stack taken = closed (end_of kind) stack (taken (end_of kind) refl)
kinds_on (include_tag name globals) span stack taken = refl

-- ---- what the code does for a tag
-- nothing
pub none_done : (tag : BlockTag) (span : Span) (stack : List OpenBlock) → HasEffect tag Nothing → IsTaken tag stack × (stack ≡ after_tag tag span stack)
none_done tag span stack e = (
  λ closer some. absurd (let none = e.1 in cc),
  sym (λ i. with_block_opened (e.0 i) span (by_closer (e.1 i) stack)),
)

-- it opens a block
pub one_opened : (tag : BlockTag) (kind : BlockKind) (span : Span) (stack next : List OpenBlock) → HasEffect tag (Opens kind) → next ≡ new_block (block_kind kind) span ∷ stack → IsTaken tag stack × (next ≡ after_tag tag span stack)
one_opened tag kind span stack next e is = (
  λ closer some. absurd (let none = e.1 in cc),
  is ∙ sym (λ i. with_block_opened (e.0 i) span (by_closer (e.1 i) stack)),
)

-- it closes one, or goes on with it, if that is taken
pub one_taken : (tag : BlockTag) (closer : Closing) (span : Span) (stack next : List OpenBlock) (untaken : Option Closing) → HasEffect tag (Closes closer)
    → MatchOption untaken ((takes stack (closer_view closer) ≡ true) × (next ≡ after_closer (closer_view closer) stack)) (λ refused. (refused ≡ closer) × (takes stack (closer_view closer) ≡ false))
    → MatchOption untaken (IsTaken tag stack × (next ≡ after_tag tag span stack)) (IsUntaken tag stack)
one_taken tag closer span stack next None e h = (
  λ other some. let closing = e.1 in let same : closer_view closer ≡ other = cc in ap (takes stack) (sym same) ∙ h.0,
  h.1 ∙ sym (λ i. with_block_opened (e.0 i) span (by_closer (e.1 i) stack)),
)
one_taken tag closer span stack next (Some refused) e h = (
  e.1 ∙ ap (λ (x : Closing). Some (closer_view x)) (sym h.0),
  ap (λ (x : Closing). takes stack (closer_view x)) h.0 ∙ h.1,
)
