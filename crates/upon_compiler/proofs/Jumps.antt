-- A jump past instructions is written once they are there.
use Rattle.std.proofs.Common.{◌≡◌, ℕ, ◌+◌, List, [], ◌∷◌, ◌++◌, length, Bool, sym, ap, ◌∙◌, arith, append_assoc, append-nil, length-append}
use Rattle.std.specs.Prelude.{slice_set}
use Rattle.std.proofs.Math.Seq.{set-append_seam}
use Rattle.upon_types.specs.Path.{LoopVars}
use Rattle.upon_types.specs.declared.types.Span.{Span}
use Rattle.upon_types.specs.Tree.{Statements, no_else, otherwise}
use Rattle.upon_machine_spec.specs.Code.{for_code, if_code, jump_unless}
use Rattle.upon_machine_spec.specs.Instr.{Instr, jump, loop_next, loop_next_else, loop_start}
use Rattle.upon_compiler.specs.After.{between_branches}

-- after instructions, what depends on how many there are
abbrev pub then_from : List Instr → (ℕ → List Instr) → List Instr
then_from code rest = code ++ rest (length code)

-- after a base and then a value, what depends on how many instructions both have
pub value_first : (base value : List Instr) (rest : ℕ → List Instr)
    → then_from (base ++ value) rest ≡ base ++ (value ++ rest (length base + length value))
value_first base value rest =
    ap (λ n. (base ++ value) ++ rest n) (length-append base value) ∙ append_assoc base value (rest (length base + length value))

-- an instruction in the midst is replaced
pub replaced : (before after code : List Instr) (n : ℕ) (old new : Instr) → code ≡ before ++ old ∷ after → n ≡ length before
    → slice_set code n new ≡ before ++ new ∷ after
replaced before after code n old new is at =
    ap (λ m. slice_set code m new) at
    ∙ ap (λ l. slice_set l (length before) new) is
    ∙ set-append_seam before old after new

-- an `if` without another case
pub if_alone : (base inner code : List Instr) (negated : Bool) (old : Instr) → code ≡ base ++ old ∷ inner
    → slice_set code (length base) (jump_unless negated (length code)) ≡ base ++ if_code negated no_else (length base) inner []
if_alone base inner code negated old is =
    let end : ℕ = length base + 1 + length inner in
    let k : length code ≡ end = omega (arith, ap length is, length-append base (old ∷ inner)) in
    ap (λ n. slice_set code (length base) (jump_unless negated n)) k
    ∙ ap (λ l. slice_set l (length base) (jump_unless negated end)) is
    ∙ set-append_seam base old inner (jump_unless negated end)
    ∙ ap (λ l. base ++ jump_unless negated end ∷ l) (sym (append-nil inner))

-- between the cases of an `if`
between_is : (base inner code : List Instr) (negated : Bool) (old : Instr) → code ≡ base ++ old ∷ inner
    → between_branches negated (length base) code
    ≡ base ++ jump_unless negated (length base + 1 + length inner + 1) ∷ (inner ++ jump 0 ∷ [])
between_is base inner code negated old is =
    let way : List Instr = code ++ jump 0 ∷ [] in
    let second : ℕ = length base + 1 + length inner + 1 in
    let is_way : way ≡ base ++ old ∷ (inner ++ jump 0 ∷ []) =
    ap (λ l. l ++ jump 0 ∷ []) is ∙ append_assoc base (old ∷ inner) (jump 0 ∷ []) in
    let k : length way ≡ second =
    omega (arith, ap length is, length-append base (old ∷ inner), length-append code (jump 0 ∷ [])) in
    ap (λ n. slice_set way (length base) (jump_unless negated n)) k
    ∙ ap (λ l. slice_set l (length base) (jump_unless negated second)) is_way
    ∙ set-append_seam base old (inner ++ jump 0 ∷ []) (jump_unless negated second)

-- an `if` with another case
pub if_otherwise : (base inner code : List Instr) (negated : Bool) (old : Instr) (body : Statements) (rest : ℕ → List Instr)
    → code ≡ base ++ old ∷ inner
    → slice_set (then_from (between_branches negated (length base) code) rest) (length code)
    (jump (length (then_from (between_branches negated (length base) code) rest)))
    ≡ base ++ if_code negated (otherwise body) (length base) inner (rest (length base + 1 + length inner + 1))
if_otherwise base inner code negated old body rest is =
    let way : List Instr = between_branches negated (length base) code in
    let both : List Instr = then_from way rest in
    let second : ℕ = length base + 1 + length inner + 1 in
    let test : Instr = jump_unless negated second in
    let other : List Instr = rest second in
    let past : Instr = jump (second + length other) in
    let front : List Instr = base ++ test ∷ inner in
    let is_way : way ≡ base ++ test ∷ (inner ++ jump 0 ∷ []) = between_is base inner code negated old is in
    let k_way : length way ≡ second =
    omega (arith, ap length is_way, length-append base (test ∷ (inner ++ jump 0 ∷ [])), length-append inner (jump 0 ∷ [])) in
    let is_both : both ≡ front ++ jump 0 ∷ other =
    ap (λ n. way ++ rest n) k_way
    ∙ ap (λ l. l ++ other) (is_way ∙ sym (append_assoc base (test ∷ inner) (jump 0 ∷ [])))
    ∙ append_assoc front (jump 0 ∷ []) other in
    let k_both : length both ≡ second + length other =
    omega (arith, ap length is_both, length-append front (jump 0 ∷ other), length-append base (test ∷ inner)) in
    let k_past : length code ≡ length front =
    omega (arith, ap length is, length-append base (old ∷ inner), length-append base (test ∷ inner)) in
    ap (λ n. slice_set both (length code) (jump n)) k_both
    ∙ replaced front other both (length code) (jump 0) past is_both k_past
    ∙ append_assoc base (test ∷ inner) (past ∷ other)

-- a loop after its body: the way back to the next turn
for_back : (base inner code : List Instr) (start old : Instr) → code ≡ (base ++ start ∷ []) ++ old ∷ inner
    → (code ++ jump (length (base ++ start ∷ [])) ∷ [] ≡ (base ++ start ∷ []) ++ old ∷ (inner ++ jump (length base + 1) ∷ []))
    × (length (code ++ jump (length (base ++ start ∷ [])) ∷ []) ≡ length base + 1 + 1 + length inner + 1)
for_back base inner code start old is =
    let begun : List Instr = base ++ start ∷ [] in
    let k : length begun ≡ length base + 1 = omega (arith, length-append base (start ∷ [])) in
    let way : Instr = jump (length base + 1) in
    let is_back : code ++ jump (length begun) ∷ [] ≡ begun ++ old ∷ (inner ++ way ∷ []) =
    ap (λ n. code ++ jump n ∷ []) k ∙ ap (λ l. l ++ way ∷ []) is ∙ append_assoc begun (old ∷ inner) (way ∷ []) in (
      is_back,
      omega (arith, k, ap length is, length-append begun (old ∷ inner), length-append code (jump (length begun) ∷ [])),
    )

-- a loop without another branch
pub for_alone : (base inner code : List Instr) (names : LoopVars) (span : Span) (old : Instr)
    → code ≡ (base ++ loop_start names span ∷ []) ++ old ∷ inner
    → slice_set (code ++ jump (length (base ++ loop_start names span ∷ [])) ∷ []) (length (base ++ loop_start names span ∷ []))
    (loop_next (length (code ++ jump (length (base ++ loop_start names span ∷ [])) ∷ [])))
    ≡ base ++ for_code no_else names span (length base) inner []
for_alone base inner code names span old is =
    let start : Instr = loop_start names span in
    let begun : List Instr = base ++ start ∷ [] in
    let back : List Instr = code ++ jump (length begun) ∷ [] in
    let backs = for_back base inner code start old is in
    let end : ℕ = length base + 1 + 1 + length inner + 1 + 0 in
    let k : length back ≡ end = omega (arith, backs.1) in
    let round : List Instr = inner ++ jump (length base + 1) ∷ [] in
    ap (λ n. slice_set back (length begun) (loop_next n)) k
    ∙ ap (λ l. slice_set l (length begun) (loop_next end)) backs.0
    ∙ set-append_seam begun old round (loop_next end)
    ∙ append_assoc base (start ∷ []) (loop_next end ∷ round)

-- a loop with another branch
pub for_otherwise : (base inner code : List Instr) (names : LoopVars) (span : Span) (old : Instr) (body : Statements)
    (rest : ℕ → List Instr)
    → code ≡ (base ++ loop_start names span ∷ []) ++ old ∷ inner
    → slice_set (then_from (code ++ jump (length (base ++ loop_start names span ∷ [])) ∷ []) rest)
    (length (base ++ loop_start names span ∷ []))
    (loop_next_else (length (code ++ jump (length (base ++ loop_start names span ∷ [])) ∷ []))
    (length (then_from (code ++ jump (length (base ++ loop_start names span ∷ [])) ∷ []) rest)))
    ≡ base ++ for_code (otherwise body) names span (length base) inner (rest (length base + 1 + 1 + length inner + 1))
for_otherwise base inner code names span old body rest is =
    let start : Instr = loop_start names span in
    let begun : List Instr = base ++ start ∷ [] in
    let back : List Instr = code ++ jump (length begun) ∷ [] in
    let both : List Instr = then_from back rest in
    let backs = for_back base inner code start old is in
    let second : ℕ = length base + 1 + 1 + length inner + 1 in
    let other : List Instr = rest second in
    let way : Instr = jump (length base + 1) in
    let next : Instr = loop_next_else second (second + length other) in
    let is_both : both ≡ begun ++ old ∷ (inner ++ way ∷ other) =
    ap (λ n. back ++ rest n) backs.1
    ∙ ap (λ l. l ++ other) backs.0
    ∙ append_assoc begun (old ∷ (inner ++ way ∷ [])) other
    ∙ ap (λ l. begun ++ old ∷ l) (append_assoc inner (way ∷ []) other) in
    let k : length both ≡ second + length other =
    omega (arith, ap length (ap (λ n. back ++ rest n) backs.1), length-append back other, backs.1) in
    ap (λ n. slice_set both (length begun) (loop_next_else n (length both))) backs.1
    ∙ ap (λ n. slice_set both (length begun) (loop_next_else second n)) k
    ∙ ap (λ l. slice_set l (length begun) next) is_both
    ∙ set-append_seam begun old (inner ++ way ∷ other) next
    ∙ append_assoc base (start ∷ []) (next ∷ (inner ++ way ∷ other))
