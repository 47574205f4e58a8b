-- The open blocks in the code's list, whose last is the innermost.
use Rattle.std.proofs.Common.{◌≡◌, ℕ, zero, suc, ◌-◌, ◌<◌, List, [], ◌∷◌, ◌++◌, length, reverse, Option, Some, None, Bool, true, false, refl, sym, ap, ◌∙◌, arith}
use Rattle.std.proofs.lemmas.List.{append-nil, length-reverse, reverse-append}
use Rattle.std.proofs.lemmas.Option.{same_Some}
use Rattle.std.specs.List.{slice_get}
use Rattle.std.specs.Option.{option_to_list}
use Rattle.std.specs.Prelude.{MatchOption}
use Rattle.upon_machine_spec.specs.Instr.{Instr}
use Rattle.upon_compiler.specs.After.{LeavesElseIf, branch_ended, else_begun, else_if_begun, else_ifs_ended, for_ended, if_ended, is_else_if, outer}
use Rattle.upon_compiler.specs.Compiler.{CompilerState, state}
use Rattle.upon_compiler.specs.declared.compile.OpenBlock.{OpenBlock}
use Rattle.upon_compiler.specs.declared.compile.OpenBlock.TheVariants.{If, Else, ElseIf, For, ForElse, With}

-- states with the same parts
pub same_state : (c d : List Instr) (b a : List OpenBlock) → c ≡ d → b ≡ a → state c b ≡ state d a
same_state c d b a code blocks = ap (λ x. state x b) code ∙ ap (λ x. state d x) blocks

-- one more block
pub reverse_more : (xs ys : List OpenBlock) (x : OpenBlock) → xs ≡ ys ++ x ∷ [] → reverse xs ≡ x ∷ reverse ys
reverse_more xs ys x e = ap reverse e ∙ reverse-append ys (x ∷ [])

-- the innermost block, if there is one
abbrev pub first : List OpenBlock → Option OpenBlock
first [] = None
first (x ∷ xs) = Some x

-- more blocks around do not change the innermost
first_front : (xs : List OpenBlock) (x : OpenBlock) → 0 < length xs → first xs ≡ first (xs ++ x ∷ [])
first_front [] x some = absurd (omega arith)
first_front (y ∷ ys) x some = refl

last_at : (xs : List OpenBlock) (n : ℕ) → suc n ≡ length xs → slice_get xs n ≡ first (reverse xs)
last_at [] n is = absurd (omega arith)
last_at (x ∷ []) zero is = refl
last_at (x ∷ []) (suc n) is = absurd (omega arith)
last_at (x ∷ (y ∷ ys)) zero is = absurd (omega arith)
last_at (x ∷ (y ∷ ys)) (suc n) is =
    last_at (y ∷ ys) n (omega arith)
    ∙ first_front (reverse (y ∷ ys)) x (omega (arith, length-reverse (y ∷ ys)))
    ∙ ap first (sym (reverse-append (x ∷ []) (y ∷ ys)))

-- the last of the code's list is the innermost
pub last_first : (xs : List OpenBlock) → slice_get xs (length xs - 1) ≡ first (reverse xs)
last_first [] = refl
last_first (x ∷ xs) = last_at (x ∷ xs) (length (x ∷ xs) - 1) (omega arith)

-- an `if` that goes on with an `else if` is closed with it
else_if_closed : (block : OpenBlock) (blocks : List OpenBlock) (code : List Instr) → is_else_if block ≡ true
    → else_ifs_ended code (block ∷ blocks) ≡ else_ifs_ended (branch_ended block code) blocks
else_if_closed (If negated start) blocks code is = absurd cc
else_if_closed (Else past) blocks code is = absurd cc
else_if_closed (ElseIf past) blocks code is = refl
else_if_closed (For next) blocks code is = absurd cc
else_if_closed (ForElse next other) blocks code is = absurd cc
else_if_closed With blocks code is = absurd cc

-- another block is not
other_stays : (block : OpenBlock) (blocks : List OpenBlock) (code : List Instr) → is_else_if block ≡ false
    → else_ifs_ended code (block ∷ blocks) ≡ state code (block ∷ blocks)
other_stays (If negated start) blocks code is = refl
other_stays (Else past) blocks code is = refl
other_stays (ElseIf past) blocks code is = absurd cc
other_stays (For next) blocks code is = refl
other_stays (ForElse next other) blocks code is = refl
other_stays With blocks code is = refl

-- the innermost block is closed, if there is one
pub left_block : (last : Option OpenBlock) (old new : List OpenBlock) → old ≡ new ++ option_to_list last → (last ≡ None → new ≡ [])
    → MatchOption last (reverse old ≡ []) (λ block. reverse old ≡ block ∷ reverse new)
left_block None old new is none = ap reverse (is ∙ append-nil new ∙ none refl)
left_block (Some block) old new is none = reverse_more old new block is

-- the blocks around it
pub left_blocks : (last : Option OpenBlock) (old new : List OpenBlock) → old ≡ new ++ option_to_list last → (last ≡ None → new ≡ [])
    → reverse new ≡ outer (reverse old)
left_blocks None old new is none =
    let empty : old ≡ [] = is ∙ append-nil new ∙ none refl in
    ap reverse (none refl) ∙ ap (λ xs. outer (reverse xs)) (sym empty)
left_blocks (Some block) old new is none = ap outer (sym (reverse_more old new block is))

-- an `if` that goes on with an `else if` is the innermost, and closed
pub leaves : (last : Option OpenBlock) (old new : List OpenBlock) (block : OpenBlock) → first old ≡ Some block → is_else_if block ≡ true
    → MatchOption last (old ≡ []) (λ b. old ≡ b ∷ new) → LeavesElseIf last old new
leaves None old new block here is none =
    let empty : first old ≡ None = ap first none in absurd cc
leaves (Some b) old new block here is more =
    let same : Some b ≡ Some block = sym (ap first more) ∙ here in
    let is_b : is_else_if b ≡ true = ap is_else_if (same_Some _ _ same) ∙ is in
    (omega (arith, ap length more), λ code. ap (else_ifs_ended code) more ∙ else_if_closed b new code is_b)

-- no block is open
pub none_stays : (old : List OpenBlock) → first old ≡ None → (code : List Instr) → else_ifs_ended code old ≡ state code old
none_stays [] none code = refl
none_stays (block ∷ blocks) none code = absurd cc

-- another block is the innermost
pub stays : (old : List OpenBlock) (block : OpenBlock) → first old ≡ Some block → is_else_if block ≡ false
    → (code : List Instr) → else_ifs_ended code old ≡ state code old
stays [] block here is code = absurd cc
stays (b ∷ blocks) block here is code = other_stays b blocks code (ap is_else_if (same_Some _ _ here) ∙ is)

-- one more block, that holds a number
pub one_block : (f : ℕ → OpenBlock) (new mid old : List OpenBlock) (n m : ℕ) → new ≡ f n ∷ mid → n ≡ m → mid ≡ old → new ≡ f m ∷ old
one_block f new mid old n m is number rest = is ∙ ap (λ k. f k ∷ mid) number ∙ ap (λ b. f m ∷ b) rest

-- where no block is open, none is closed
pub none_open : (F : List OpenBlock → CompilerState) (c d : List Instr) (old new : List OpenBlock) → c ≡ d → new ≡ outer old → old ≡ []
    → F [] ≡ state d [] → state c new ≡ F old
none_open F c d old new code rest none here =
    same_state c d new [] code (rest ∙ ap outer none) ∙ sym here ∙ sym (ap F none)

-- the innermost block is closed
pub closed : (F : List OpenBlock → CompilerState) (c d : List Instr) (new left old : List OpenBlock) (block was : OpenBlock) → c ≡ d → new ≡ left
    → old ≡ block ∷ left → block ≡ was → F (was ∷ left) ≡ state d left → state c new ≡ F old
closed F c d new left old block was code rest is same here =
    same_state c d new left code rest ∙ sym here ∙ ap (λ b. F (b ∷ left)) (sym same) ∙ sym (ap F is)

-- the innermost block goes on as another one, that holds a number
pub went_on : (F : List OpenBlock → CompilerState) (f : ℕ → OpenBlock) (c d : List Instr) (new mid left old : List OpenBlock) (n m : ℕ)
    (block was : OpenBlock) → c ≡ d → new ≡ f n ∷ mid → n ≡ m → mid ≡ left → old ≡ block ∷ left → block ≡ was
    → F (was ∷ left) ≡ state d (f m ∷ left) → state c new ≡ F old
went_on F f c d new mid left old n m block was code opened number rest is same here =
    same_state c d new (f m ∷ left) code (one_block f new mid left n m opened number rest)
    ∙ sym here
    ∙ ap (λ b. F (b ∷ left)) (sym same)
    ∙ sym (ap F is)

-- what an `else if` does with a block that is no `if`
pub no_else_if : (block : OpenBlock) (blocks : List OpenBlock) (code : List Instr) → ((negated : Bool) (start : ℕ) → block ≡ If negated start → ⊥)
    → else_if_begun code (block ∷ blocks) ≡ state code blocks
no_else_if (If negated start) blocks code no_if = absurd (no_if negated start refl)
no_else_if (Else past) blocks code no_if = refl
no_else_if (ElseIf past) blocks code no_if = refl
no_else_if (For next) blocks code no_if = refl
no_else_if (ForElse next other) blocks code no_if = refl
no_else_if With blocks code no_if = refl

-- what an `else` does with a block that takes none
pub no_else : (block : OpenBlock) (blocks : List OpenBlock) (code : List Instr) → ((negated : Bool) (start : ℕ) → block ≡ If negated start → ⊥)
    → ((next : ℕ) → block ≡ For next → ⊥) → else_begun code (block ∷ blocks) ≡ state code blocks
no_else (If negated start) blocks code no_if no_for = absurd (no_if negated start refl)
no_else (Else past) blocks code no_if no_for = refl
no_else (ElseIf past) blocks code no_if no_for = refl
no_else (For next) blocks code no_if no_for = absurd (no_for next refl)
no_else (ForElse next other) blocks code no_if no_for = refl
no_else With blocks code no_if no_for = refl

-- what the end of a loop does with another block
pub no_loop : (block : OpenBlock) (blocks : List OpenBlock) (code : List Instr) → ((next : ℕ) → block ≡ For next → ⊥)
    → ((next other : ℕ) → block ≡ ForElse next other → ⊥) → for_ended code (block ∷ blocks) ≡ state code blocks
no_loop (If negated start) blocks code no_for no_other = refl
no_loop (Else past) blocks code no_for no_other = refl
no_loop (ElseIf past) blocks code no_for no_other = refl
no_loop (For next) blocks code no_for no_other = absurd (no_for next refl)
no_loop (ForElse next other) blocks code no_for no_other = absurd (no_other next other refl)
no_loop With blocks code no_for no_other = refl

-- the last branch of an `if` is closed, and then each `if` that goes on with it
pub if_closed : (code left done : List Instr) (old around blocks : List OpenBlock) (block : OpenBlock) (end : CompilerState)
    → end ≡ else_ifs_ended done blocks → done ≡ branch_ended block left → left ≡ code → blocks ≡ around → old ≡ block ∷ around
    → end ≡ if_ended code old
if_closed code left done old around blocks block end is ended same rest here =
    is
    ∙ ap (λ c. else_ifs_ended c blocks) (ended ∙ ap (branch_ended block) same)
    ∙ ap (else_ifs_ended (branch_ended block code)) rest
    ∙ sym (ap (if_ended code) here)

-- an `if` that goes on with an `else if` is closed
pub else_if_step : (block : OpenBlock) (code left done : List Instr) (old around blocks : List OpenBlock)
    → ((c : List Instr) → else_ifs_ended c old ≡ else_ifs_ended (branch_ended block c) around)
    → done ≡ branch_ended block left → left ≡ code → blocks ≡ around
    → else_ifs_ended done blocks ≡ else_ifs_ended code old
else_if_step block code left done old around blocks step ended same rest =
    ap (λ c. else_ifs_ended c blocks) (ended ∙ ap (branch_ended block) same)
    ∙ ap (else_ifs_ended (branch_ended block code)) rest
    ∙ sym (step code)

-- a block that ends no `if` has no jump past it
pub branch_kept : (block : OpenBlock) (code : List Instr) → ((negated : Bool) (start : ℕ) → block ≡ If negated start → ⊥)
    → ((past : ℕ) → block ≡ Else past → ⊥) → ((past : ℕ) → block ≡ ElseIf past → ⊥) → branch_ended block code ≡ code
branch_kept (If negated start) code no_if no_else no_else_if = absurd (no_if negated start refl)
branch_kept (Else past) code no_if no_else no_else_if = absurd (no_else past refl)
branch_kept (ElseIf past) code no_if no_else no_else_if = absurd (no_else_if past refl)
branch_kept (For next) code no_if no_else no_else_if = refl
branch_kept (ForElse next other) code no_if no_else no_else_if = refl
branch_kept With code no_if no_else no_else_if = refl
