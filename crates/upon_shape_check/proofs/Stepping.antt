-- What is known in a program, as operands come and go, and blocks begin and end.
use Rattle.std.proofs.Common.{◌≡◌, ℕ, ◌+◌, ◌-◌, ◌<◌, ◌≤◌, zero, suc, List, [], ◌∷◌, ◌++◌, length, map, take, drop, get_or, Option, Some, None, Bool, true, false, subst, Bor, codes, option_map, refl, sym, ap, ◌∙◌, arith, length-drop}
use Rattle.std.proofs.Math.Seq.{drop-append_seam}
use Rattle.upon_types.specs.declared.types.ast.path.Var.{Var}
use Rattle.std.proofs.lemmas.List.{append-nil, take-append-drop}
use Rattle.upon_machine_spec.specs.Operands.{taken, taken_before}
use Rattle.upon_shape_spec.specs.Accepted.{iteration_names}
use Rattle.upon_shape_spec.specs.Scope.{NameShape, Scope, a_loop, name_shape, with_names}
use Rattle.upon_shape_spec.specs.Known.{Known, KnownOperand, KnownPath, Open, body_to, other_to, binding, known, around, has_ended, path_tested}
use Rattle.upon_shape_spec.specs.ProgramDoubts.{binds_shapes, leaves_block, other_case, tests}
use Rattle.upon_shape_check.specs.Rows.{on_top}
use Rattle.upon_shape_check.specs.Known.{ends_at, open_view, opens_view, opens_within, operand_view, operands_view, outside, path_view}
use Rattle.upon_shape_check.specs.Undo.{undone}
use Rattle.upon_shape_check.specs.declared.known.Block.{Block}
use Rattle.upon_shape_check.specs.declared.known.Block.TheVariants.{Body, Other, Names}
use Rattle.upon_shape_check.specs.declared.known.Operand.{Operand}
use Rattle.upon_shape_check.specs.declared.undo.Undo.{Undo}
use Rattle.upon_shape_check.specs.declared.undo.Undo.TheVariants.{Nothing}
use Rattle.upon_shape_check.proofs.OnTop.{on_top-push, on_top-more}

-- ---- operands
pub pushed : (os new : List Operand) (o : Operand) (scope : Scope) (opens : List Open) → new ≡ os ++ o ∷ [] → known (operands_view new) scope opens ≡ known (operand_view o ∷ operands_view os) scope opens
pushed os new o scope opens e = ap (λ l. known l scope opens) (ap operands_view e ∙ on_top-push operand_view os o [])

on_top-append : {A B : Type 0} (f : A → B) (xs ys : List A) (below : List B) → on_top f (xs ++ ys) below ≡ on_top f ys (on_top f xs below)
on_top-append f [] ys below = refl
on_top-append f (x ∷ xs) ys below = on_top-append f xs ys (f x ∷ below)

taken_more : {A B : Type 0} (f : A → B) (ys : List A) (m : ℕ) (os below : List B) → taken_before (length ys + m) os (on_top f ys below) ≡ taken_before m (map f ys ++ os) below
taken_more f [] m os below = let none : 0 + m ≡ m = omega arith in ap (λ n. taken_before n os below) none
taken_more f (y ∷ ys) m os below =
    let next : suc (length ys) + m ≡ length ys + suc m = omega arith in
    ap (λ n. taken_before n os (on_top f ys (f y ∷ below))) next ∙ taken_more f ys (suc m) os (f y ∷ below)

-- so many from the top
pub taken_top : {A B : Type 0} (f : A → B) (xs : List A) (count at : ℕ) → count + at ≡ length xs → taken count (on_top f xs []) ≡ Some (map f (drop at xs), on_top f (take at xs) [])
taken_top {A} {B} f xs count at e =
    let many : count ≡ length (drop at xs) + 0 = omega (arith, length-drop at xs) in
    ap (λ l. taken count (on_top f l [])) (sym (take-append-drop at xs))
    ∙ (ap (taken count) (on_top-append f (take at xs) (drop at xs) [])
    ∙ (ap (λ n. taken_before n [] (on_top f (drop at xs) (on_top f (take at xs) []))) many
    ∙ (taken_more f (drop at xs) 0 [] (on_top f (take at xs) [])
    ∙ ap (λ (l : List B). Some (l, on_top f (take at xs) [])) (append-nil (map f (drop at xs))))))

pub taken_missing : {A B : Type 0} (f : A → B) (xs : List A) (count : ℕ) → length xs < count → taken count (on_top f xs []) ≡ None
taken_missing f xs count less =
    let many : count ≡ length xs + suc (count - length xs - 1) = omega arith in
    ap (λ n. taken_before n [] (on_top f xs [])) many ∙ taken_more f xs (suc (count - length xs - 1)) [] []

-- ---- blocks
pub opens-push : (scope : Scope) (blocks new : List Block) (b : Block) → new ≡ blocks ++ b ∷ [] → opens_view scope new ≡ open_view b (outside b scope) ∷ opens_view (outside b scope) blocks
opens-push scope blocks new b e = ap (opens_view scope) e ∙ ap (opens_within scope) (on_top-push (λ (b : Block). b) blocks b [])

around-open : (b : Block) (outer : Scope) → around (open_view b outer) ≡ outer
around-open (Body end undo other) outer = refl
around-open (Other end undo) outer = refl
around-open (Names count) outer = refl

-- the innermost block is left
pub left : (os : List KnownOperand) (scope next : Scope) (blocks rest : List Block) (b : Block) → blocks ≡ rest ++ b ∷ [] → next ≡ outside b scope
    → known os next (opens_view next rest) ≡ leaves_block (known os scope (opens_view scope blocks)) (opens_view scope blocks)
left os scope next blocks rest b e go =
    ap (λ s. known os s (opens_view s rest)) go
    ∙ (ap (λ s. known os s (opens_view (outside b scope) rest)) (sym (around-open b (outside b scope)))
    ∙ sym (ap (leaves_block (known os scope (opens_view scope blocks))) (opens-push scope rest blocks b e)))

-- ---- names are bound in a block
pub bound : (os : List KnownOperand) (names : List NameShape) (scope next : Scope) (blocks new : List Block) (count : ℕ) → next ≡ with_names names scope → new ≡ blocks ++ Names count ∷ [] → drop count (names ++ scope.names) ≡ scope.names
    → known os next (opens_view next new) ≡ binds_shapes names os (known os scope (opens_view scope blocks))
bound os names scope next blocks new count go e back =
    ap (λ s. known os s (opens_view s new)) go
    ∙ (ap (known os (with_names names scope)) (opens-push (with_names names scope) blocks new (Names count) e)
    ∙ ap (λ (l : List NameShape). known os (with_names names scope) (binding (record scope { names = l }) ∷ opens_view (record scope { names = l }) blocks)) back)

-- ---- tests
pub tested_true : (os : List KnownOperand) (scope next : Scope) (blocks new : List Block) (end : ℕ) (u : Undo) (o : KnownOperand) → next ≡ path_tested true o.path scope → undone u next ≡ scope → new ≡ blocks ++ Body end u None ∷ []
    → known os next (opens_view next new) ≡ tests true end o os (known os scope (opens_view scope blocks))
tested_true os scope next blocks new end u o go back e =
    ap (known os next) (opens-push next blocks new (Body end u None) e)
    ∙ (ap (λ s. known os next (body_to end s s ∷ opens_view s blocks)) back
    ∙ ap (λ s. known os s (body_to end scope scope ∷ opens_view scope blocks)) go)

pub other_begun : (os : List KnownOperand) (scope back next : Scope) (blocks rest new : List Block) (old end : ℕ) (u v : Undo) (other : Option KnownPath)
    → opens_view scope blocks ≡ body_to old (path_tested true other back) back ∷ opens_view back rest
    → next ≡ path_tested true other back → undone v next ≡ back → new ≡ rest ++ Other end v ∷ []
    → known os next (opens_view next new) ≡ other_case end (known os scope (opens_view scope blocks)) (opens_view scope blocks)
other_begun os scope back next blocks rest new old end u v other was go undo e =
    ap (known os next) (opens-push next rest new (Other end v) e)
    ∙ (ap (λ s. known os next (other_to end s ∷ opens_view s rest)) undo
    ∙ (ap (λ s. known os s (other_to end back ∷ opens_view back rest)) go
    ∙ sym (ap (other_case end (known os scope (opens_view scope blocks))) was)))

-- ---- by what calls say
pub taken_split : {A B : Type 0} (f : A → B) (xs front back : List A) (count at : ℕ) → count + at ≡ length xs → front ≡ take at xs → back ≡ drop at xs → taken count (on_top f xs []) ≡ Some (map f back, on_top f front [])
taken_split {A} {B} f xs front back count at e front_is back_is =
    taken_top f xs count at e
    ∙ (ap (λ (l : List A). Some (map f l, on_top f (take at xs) [])) (sym back_is) ∙ ap (λ (l : List A). Some (map f back, on_top f l [])) (sym front_is))

pub none_popped : (old new : List Operand) (scope : Scope) (opens : List Open) → length old ≡ 0 → length new ≡ 0 → (operands_view old ≡ []) × (known (operands_view new) scope opens ≡ known (operands_view old) scope opens)
none_popped [] [] scope opens e f = (refl, refl)
none_popped [] (o ∷ os) scope opens e f = absurd (omega arith)
none_popped (o ∷ os) new scope opens e f = absurd (omega arith)

pub bound_loop : (os : List KnownOperand) (looped : List NameShape) (scope mid next : Scope) (blocks new : List Block) (count : ℕ) → mid ≡ with_names looped scope → next ≡ with_names (name_shape (codes "loop") a_loop ∷ []) mid
    → count ≡ length looped → new ≡ blocks ++ Names (count + 1) ∷ [] → known os next (opens_view next new) ≡ binds_shapes (iteration_names looped) os (known os scope (opens_view scope blocks))
bound_loop os looped scope mid next blocks new count go on many e =
    let all : count + 1 ≡ length (iteration_names looped) = omega arith in
    bound os (iteration_names looped) scope next blocks new (count + 1) (on ∙ ap (with_names (name_shape (codes "loop") a_loop ∷ [])) go) e
    (ap (λ n. drop n (iteration_names looped ++ scope.names)) all ∙ drop-append_seam (iteration_names looped) scope.names)

pub tested : (so : Bool) (os : List KnownOperand) (scope next : Scope) (blocks new : List Block) (end : ℕ) (u : Undo) (o : KnownOperand) (path : Option KnownPath) → so ≡ true → o.path ≡ path → next ≡ path_tested true path scope → undone u next ≡ scope → new ≡ blocks ++ Body end u None ∷ []
    → known os next (opens_view next new) ≡ tests so end o os (known os scope (opens_view scope blocks))
tested so os scope next blocks new end u o path is_so same go back e =
    tested_true os scope next blocks new end u o (go ∙ ap (λ p. path_tested true p scope) (sym same)) back e
    ∙ ap (λ b. tests b end o os (known os scope (opens_view scope blocks))) (sym is_so)

pub tested_not : (so : Bool) (os : List KnownOperand) (scope : Scope) (blocks new : List Block) (end : ℕ) (o : KnownOperand) (path : Option (Bor Var)) → so ≡ false → o.path ≡ option_map (λ p. path_view p.now) path → new ≡ blocks ++ Body end Nothing path ∷ []
    → known os scope (opens_view scope new) ≡ tests so end o os (known os scope (opens_view scope blocks))
tested_not so os scope blocks new end o path is_so same e =
    ap (known os scope) (opens-push scope blocks new (Body end Nothing path) e)
    ∙ (ap (λ p. known os scope (body_to end (path_tested true p scope) scope ∷ opens_view scope blocks)) (sym same)
    ∙ ap (λ b. tests b end o os (known os scope (opens_view scope blocks))) (sym is_so))

pub begun : (os : List KnownOperand) (scope back next : Scope) (blocks rest new : List Block) (old end : ℕ) (u v : Undo) (other : Option (Bor Var)) → blocks ≡ rest ++ Body old u other ∷ [] → back ≡ undone u scope
    → next ≡ path_tested true (option_map (λ p. path_view p.now) other) back → undone v next ≡ back → new ≡ rest ++ Other end v ∷ []
    → known os next (opens_view next new) ≡ other_case end (known os scope (opens_view scope blocks)) (opens_view scope blocks)
begun os scope back next blocks rest new old end u v other was outer go undo e =
    other_begun os scope back next blocks rest new old end u v (option_map (λ p. path_view p.now) other)
    (opens-push scope rest blocks (Body old u other) was
    ∙ ap (λ s. body_to old (path_tested true (option_map (λ p. path_view p.now) other) s) s ∷ opens_view s rest) (sym outer))
    go undo e

kept : (os : List KnownOperand) (scope : Scope) (blocks new rest : List Block) (b : Block) (end : ℕ) → ((k : Known) (outer : Scope) (opens : List Open) → other_case end k (open_view b outer ∷ opens) ≡ k)
    → blocks ≡ rest ++ b ∷ [] → new ≡ rest ++ b ∷ [] → known os scope (opens_view scope new) ≡ other_case end (known os scope (opens_view scope blocks)) (opens_view scope blocks)
kept os scope blocks new rest b end stays was e =
    ap (λ l. known os scope (opens_view scope l)) (e ∙ sym was)
    ∙ (sym (stays (known os scope (opens_view scope blocks)) (outside b scope) (opens_view (outside b scope) rest))
    ∙ sym (ap (other_case end (known os scope (opens_view scope blocks))) (opens-push scope rest blocks b was)))

pub kept_other : (os : List KnownOperand) (scope : Scope) (blocks new rest : List Block) (n : ℕ) (u : Undo) (end : ℕ) → blocks ≡ rest ++ Other n u ∷ [] → new ≡ rest ++ Other n u ∷ []
    → known os scope (opens_view scope new) ≡ other_case end (known os scope (opens_view scope blocks)) (opens_view scope blocks)
kept_other os scope blocks new rest n u end was e = kept os scope blocks new rest (Other n u) end (λ k outer opens. refl) was e

pub kept_names : (os : List KnownOperand) (scope : Scope) (blocks new rest : List Block) (n : ℕ) (end : ℕ) → blocks ≡ rest ++ Names n ∷ [] → new ≡ rest ++ Names n ∷ []
    → known os scope (opens_view scope new) ≡ other_case end (known os scope (opens_view scope blocks)) (opens_view scope blocks)
kept_names os scope blocks new rest n end was e = kept os scope blocks new rest (Names n) end (λ k outer opens. refl) was e

-- where no block is open
pub none_open : (os : List KnownOperand) (scope : Scope) (old new : List Block) (end : ℕ) → length old ≡ 0 → length new ≡ 0
    → known os scope (opens_view scope new) ≡ other_case end (known os scope (opens_view scope old)) (opens_view scope old)
none_open os scope [] [] end e f = refl
none_open os scope [] (b ∷ bs) end e f = absurd (omega arith)
none_open os scope (b ∷ bs) new end e f = absurd (omega arith)

pub none_left : (os : List KnownOperand) (scope : Scope) (old new : List Block) → length old ≡ 0 → length new ≡ 0
    → known os scope (opens_view scope new) ≡ leaves_block (known os scope (opens_view scope old)) (opens_view scope old)
none_left os scope [] [] e f = refl
none_left os scope [] (b ∷ bs) e f = absurd (omega arith)
none_left os scope (b ∷ bs) new e f = absurd (omega arith)

-- ---- blocks that have ended
take_whole : {A : Type 0} (xs : List A) (n : ℕ) → n ≡ length xs → take n xs ≡ xs
take_whole [] zero e = refl
take_whole [] (suc n) e = refl
take_whole (x ∷ xs) zero e = absurd (omega arith)
take_whole (x ∷ xs) (suc n) e = ap (λ l. x ∷ l) (take_whole xs n (omega arith))

-- the innermost decides
pub ends_in : (number : ℕ) (scope : Scope) (blocks : List Block) (b : Block) (count : ℕ) → count ≡ length blocks → 0 < count → b ≡ get_or blocks (count - 1) b
    → ends_at number (opens_view scope blocks) ≡ has_ended number (open_view b (outside b scope))
ends_in number scope blocks b count all some is =
    let next : count ≡ (count - 1) + 1 = omega arith in
    let within : count ≤ length blocks = omega arith in
    sym (ap (λ l. ends_at number (opens_view scope l)) (take_whole blocks count all))
    ∙ ap (λ l. ends_at number (opens_within scope l)) (on_top-more (λ (b : Block). b) blocks count (count - 1) b next within is)

fewer_left : (k : Known) (number : ℕ) (opens : List Open) → ends_at number opens ≡ true → length (leaves_block k opens).opens < length opens
fewer_left k number [] e = cc
fewer_left k number (block ∷ opens) e = omega arith

pub fewer : (number : ℕ) (k new : Known) → ends_at number k.opens ≡ true → new ≡ leaves_block k k.opens → length new.opens < length k.opens
fewer number k new ends e = subst (λ (n : Known). length n.opens < length k.opens) (sym e) (fewer_left k number k.opens ends)
