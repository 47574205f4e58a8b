-- The blocks that are open along a walk over a program: what binds a name of them, and what lies outside of them all.
use Rattle.std.proofs.Common.{◌≡◌, ◌≤◌, ◌<◌, ◌+◌, ◌-◌, ◌||◌, ◌&&◌, ℕ, zero, suc, leb, if◌then◌else◌, List, [], ◌∷◌, ◌++◌, length, get_or, drop, Option, Some, None, Bool, true, false, not, Bor, bytes_eq, refl, sym, ap, ◌∙◌, arith}
use Rattle.std.specs.List.{list_any}
use Rattle.std.specs.Option.{option_to_list}
use Rattle.std.proofs.lemmas.List.{drop_more}
use Rattle.upon_types.specs.Tree.{Statements}
use Rattle.upon_meaning_spec.specs.Needs.{a_name, StatementsPass}
use Rattle.upon_machine_spec.specs.Code.{program_of}
use Rattle.upon_machine_spec.specs.Instr.{Instr, jump, with_start, with_end, loop_start}
use Rattle.upon_machine_spec.specs.ProgramNames.{block_begins, count_after, unbound, path_name, is_this, plain_include, IsListed}
use Rattle.upon_machine_spec.proofs.NamesOfTree.{listed, tree_passes}
use Rattle.upon_compiler.specs.Program.{instr_of, program_view}
use Rattle.upon_compiler.specs.declared.types.program.Instr.{Instr as CodeInstr}
use Rattle.upon_needs.specs.OpenBlocks.{binds_name, blocks, depth_after, free_includes, is_block_end, open_count, opens, outside_blocks}
use Rattle.upon_needs.proofs.NeededNames.{either_way, weaker}

-- one block more is open inside of some
pub count_last : (name : List ℕ) (n : ℕ) (outer : List Instr) (block : Instr) → open_count name n (outer ++ block ∷ []) ≡ block_begins (binds_name name block) (open_count name n outer)
count_last name n [] block = refl
count_last name n (b ∷ outer) block = count_last name (block_begins (binds_name name b) n) outer block

begun_less : (binds_name : Bool) (n : ℕ) → block_begins binds_name n - 1 ≡ n
begun_less true zero = refl
begun_less false zero = refl
begun_less binds_name (suc n) = omega arith

pub count_less : (name : List ℕ) (outer : List Instr) (block : Instr) → open_count name 0 (outer ++ block ∷ []) - 1 ≡ open_count name 0 outer
count_less name outer block = ap (λ x. x - 1) (count_last name 0 outer block) ∙ begun_less (binds_name name block) (open_count name 0 outer)

-- how many there are after an instruction, by whether it begins or ends a block
pub count_by : (name : List ℕ) (at : ℕ) (i : Instr) (n : ℕ) → count_after name at i n ≡ (if opens i then block_begins (binds_name name i) n else (if is_block_end at i then n - 1 else n))
count_by name at (with_start word) n = refl
count_by name at with_end n = refl
count_by name at (loop_start names span) n = refl
count_by name at (jump to) n = refl
count_by name at _ n = refl

-- the open blocks after one begins, and after one ends, if one was open
blocks_last : (outer : List (Bor CodeInstr)) (one : Bor CodeInstr) → blocks (outer ++ one ∷ []) ≡ blocks outer ++ instr_of one.now ∷ []
blocks_last [] one = refl
blocks_last (k ∷ outer) one = ap (λ l. instr_of k.now ∷ l) (blocks_last outer one)

pub opened_by : (name : List ℕ) (at : ℕ) (i : CodeInstr) (old new : List (Bor CodeInstr)) (one : Bor CodeInstr) (so : Bool) → new ≡ old ++ one ∷ [] → one.now ≡ i → so ≡ opens (instr_of i) → so ≡ true
    → open_count name 0 (blocks new) ≡ count_after name at (instr_of i) (open_count name 0 (blocks old))
opened_by name at i old new one so is here law begun =
    let n = open_count name 0 (blocks old) in
    ap (λ l. open_count name 0 (blocks l)) is ∙ ap (λ l. open_count name 0 l) (blocks_last old one) ∙ count_last name 0 (blocks old) (instr_of one.now)
    ∙ ap (λ k. block_begins (binds_name name (instr_of k)) n) here
    ∙ sym (count_by name at (instr_of i) n ∙ ap (λ b. if b then block_begins (binds_name name (instr_of i)) n else (if is_block_end at (instr_of i) then n - 1 else n)) (sym law ∙ begun))

count_closed : (name : List ℕ) (at : ℕ) (i : Instr) (n : ℕ) → opens i ≡ false → is_block_end at i ≡ true → count_after name at i n ≡ n - 1
count_closed name at i n unbegun ended = count_by name at i n ∙ ap (λ b. if b then block_begins (binds_name name i) n else (if is_block_end at i then n - 1 else n)) unbegun ∙ ap (λ b. if b then n - 1 else n) ended

nothing_left : (l : List (Bor CodeInstr)) → length l ≡ 0 → l ≡ []
nothing_left [] e = refl
nothing_left (x ∷ l) e = absurd (omega (arith, e))

pub closed_by : (name : List ℕ) (at : ℕ) (i : Instr) (old new : List (Bor CodeInstr)) (o : Option (Bor CodeInstr)) → old ≡ new ++ option_to_list o → opens i ≡ false → is_block_end at i ≡ true → (o ≡ None → length new ≡ 0)
    → open_count name 0 (blocks new) ≡ count_after name at i (open_count name 0 (blocks old))
closed_by name at i old new None is unbegun ended empty =
    let none : new ≡ [] = nothing_left new (empty refl) in
    let before : old ≡ [] = is ∙ ap (λ l. l ++ []) none in
    ap (λ l. open_count name 0 (blocks l)) none ∙ sym (count_closed name at i (open_count name 0 (blocks old)) unbegun ended ∙ ap (λ l. open_count name 0 (blocks l) - 1) before)
closed_by name at i old new (Some one) is unbegun ended empty =
    sym (count_closed name at i (open_count name 0 (blocks old)) unbegun ended ∙ ap (λ l. open_count name 0 (blocks l) - 1) is ∙ ap (λ l. open_count name 0 l - 1) (blocks_last new one) ∙ count_less name (blocks new) (instr_of one.now))

-- there is one that binds the name just if the number is not zero
counted : (name : List ℕ) (n : ℕ) (bs : List Instr) → open_count name (suc n) bs ≡ 0 → ⊥
counted name n [] e = absurd (omega arith)
counted name n (b ∷ bs) e = counted name (suc n) bs e

pub bound_counted : (name : List ℕ) (bs : List Instr) → list_any (binds_name name) bs ≡ true → open_count name 0 bs ≡ 0 → ⊥
bound_counted name [] so e = absurd cc
bound_counted name (block ∷ bs) so e = by (bound_counted name bs) (binds_name name block) so e
  where
    by : (list_any (binds_name name) bs ≡ true → open_count name 0 bs ≡ 0 → ⊥) → (first : Bool) → (first || list_any (binds_name name) bs) ≡ true → open_count name (block_begins first 0) bs ≡ 0 → ⊥
    by further true so e = counted name 0 bs e
    by further false so e = further so e

pub free_counted : (name : List ℕ) (bs : List Instr) → list_any (binds_name name) bs ≡ false → open_count name 0 bs ≡ 0
free_counted name [] so = refl
free_counted name (block ∷ bs) so = by (free_counted name bs) (binds_name name block) so
  where
    by : (list_any (binds_name name) bs ≡ false → open_count name 0 bs ≡ 0) → (first : Bool) → (first || list_any (binds_name name) bs) ≡ false → open_count name (block_begins first 0) bs ≡ 0
    by further true so = absurd cc
    by further false so = further so

or_false : (x : Bool) → (x || false) ≡ x
or_false true = refl
or_false false = refl

or_assoc : (x y z : Bool) → ((x || y) || z) ≡ (x || (y || z))
or_assoc true y z = refl
or_assoc false y z = refl

-- a set into which the names go that begin paths, and what is left of the walk
module _ (name : List ℕ) (at : ℕ) where
  abbrev here : Instr → Bool
  here i = is_this name (path_name i)

  put_step : (i : Instr) (is : List Instr) (old new bound : Bool) (n : ℕ) → (bound ≡ true → n ≡ 0 → ⊥) → (bound ≡ false → n ≡ 0) → new ≡ (old || (not bound && here i)) → (new || list_any here (unbound name (at + 1) (count_after name at i n) is)) ≡ (old || list_any here (unbound name at n (i ∷ is)))
  put_step i is old new true zero some none puts = absurd (some refl refl)
  put_step i is old new true (suc n) some none puts = ap (λ x. x || list_any here (unbound name (at + 1) (count_after name at i (suc n)) is)) (puts ∙ or_false old)
  put_step i is old new false zero some none puts = ap (λ x. x || list_any here (unbound name (at + 1) (count_after name at i zero) is)) puts ∙ or_assoc old (here i) (list_any here (unbound name (at + 1) (count_after name at i zero) is))
  put_step i is old new false (suc n) some none puts = let no : suc n ≡ 0 = none refl in absurd (omega arith)

  pub walk_puts : (bs shown : List Instr) (instrs : List CodeInstr) (item : CodeInstr) (old new : Bool) (m : ℕ) (whole : Bool) → shown ≡ bs → at < length instrs → item ≡ get_or instrs at item → new ≡ (old || (not (list_any (binds_name name) shown) && here (instr_of item))) → m ≡ count_after name at (instr_of item) (open_count name 0 bs)
      → (old || list_any here (unbound name at (open_count name 0 bs) (program_view (drop at instrs)))) ≡ whole
      → (new || list_any here (unbound name (at + 1) m (program_view (drop (at + 1) instrs)))) ≡ whole
  walk_puts bs shown instrs item old new m whole same inside is puts count so =
      let rest = drop (at + 1) instrs in
      ap (λ n. new || list_any here (unbound name (at + 1) n (program_view rest))) count
      ∙ put_step (instr_of item) (program_view rest) old new (list_any (binds_name name) bs) (open_count name 0 bs) (bound_counted name bs) (free_counted name bs) (puts ∙ ap (λ l. old || (not (list_any (binds_name name) l) && here (instr_of item))) same)
      ∙ sym (ap (λ l. old || list_any here (unbound name at (open_count name 0 bs) (program_view l))) (drop_more instrs at item inside ∙ ap (λ x. x ∷ rest) (sym is)))
      ∙ so

-- of all open blocks, some are those from one on that binds the name
begin_below : (binds_name : Bool) (count depth : ℕ) → count ≤ depth → block_begins binds_name count ≤ depth + 1
begin_below true zero depth le = omega arith
begin_below false zero depth le = omega arith
begin_below binds_name (suc count) depth le = omega arith

jump_below : (back : Bool) (count depth : ℕ) → count ≤ depth → (if back then count - 1 else count) ≤ (if back then depth - 1 else depth)
jump_below true count depth le = omega arith
jump_below false count depth le = le

count_below : (name : List ℕ) (at : ℕ) (i : Instr) (count depth : ℕ) → count ≤ depth → count_after name at i count ≤ depth_after at i depth
count_below name at (with_start word) count depth le = begin_below (bytes_eq word.text name) count depth le
count_below name at with_end count depth le = omega arith
count_below name at (loop_start names span) count depth le = begin_below (binds_name name (loop_start names span)) count depth le
count_below name at (jump to) count depth le = jump_below (leb to at) count depth le
count_below name at _ count depth le = le

-- what lies outside of each block lies outside of those that bind the name
outside_unbound : (f : Instr → Bool) (name : List ℕ) (at count depth : ℕ) (is : List Instr) → count ≤ depth → list_any f (outside_blocks at depth is) ≡ true → list_any f (unbound name at count is) ≡ true
outside_unbound f name at count depth [] le e = e
outside_unbound f name at zero zero (i ∷ is) le e = either_way (f i) (list_any f (outside_blocks (at + 1) (depth_after at i zero) is)) (list_any f (unbound name (at + 1) (count_after name at i zero) is)) (outside_unbound f name (at + 1) (count_after name at i zero) (depth_after at i zero) is (count_below name at i zero zero le)) e
outside_unbound f name at zero (suc depth) (i ∷ is) le e = weaker (f i) (list_any f (outside_blocks (at + 1) (depth_after at i (suc depth)) is)) (list_any f (unbound name (at + 1) (count_after name at i zero) is)) (outside_unbound f name (at + 1) (count_after name at i zero) (depth_after at i (suc depth)) is (count_below name at i zero (suc depth) le)) e
outside_unbound f name at (suc count) zero (i ∷ is) le e = absurd (omega arith)
outside_unbound f name at (suc count) (suc depth) (i ∷ is) le e = outside_unbound f name (at + 1) (count_after name at i (suc count)) (depth_after at i (suc depth)) is (count_below name at i (suc count) (suc depth) le) e

-- an include without a value outside of each block passes every name
pub free_passes : (name via : List ℕ) (tree : Statements) → IsListed (free_includes (program_of tree)) via → StatementsPass (a_name name) via tree
free_passes name via tree e =
    let code = program_of tree in
    let found = outside_unbound (λ i. is_this via (plain_include i)) name 0 0 0 code (omega arith) (sym (listed plain_include via (outside_blocks 0 0 code)) ∙ e) in
    (tree_passes name via tree).0 (listed plain_include via (unbound name 0 0 code) ∙ found)
