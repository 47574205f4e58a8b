-- Each jump of a tree's program goes to one of its instructions, or to its end.
use Rattle.std.proofs.Common.{ℕ, ◌+◌, ◌≤◌, List, [], ◌∷◌, ◌++◌, length, Some, None, arith, length-append}
use Rattle.upon_types.specs.Expression.{Expression, base, filtered, Base, var, literal, list, mapping, paren, call, Bases, no_bases, base_then, Items, no_items, item_then, Arguments, no_arguments, arguments, expression_span}
use Rattle.upon_types.specs.Tree.{Statement, raw, inline_expr, include, block, Statements, no_statements, statement_then, Else, no_else, otherwise}
use Rattle.upon_machine_spec.specs.Code.{expression_code, base_code, bases_code, arguments_code, list_code, map_code, emission_code, base_emission_code, body_start, block_code, statement_code, statements_code, else_code, program_of}
use Rattle.upon_machine_spec.specs.Instr.{Instr, emit}
use Rattle.upon_machine_spec.specs.Jumps.{JumpWithin}
use Rattle.upon_machine_spec.proofs.BlockCode.{jumps_append as joined, past_body, block_jumps}

-- expressions have no jumps
module _ (end : ℕ) where
  mutual
    expression_jumps : (e : Expression) → JumpWithin end (expression_code e)
    expression_jumps (base b) = base_jumps b
    expression_jumps (filtered receiver name args span) = joined end (expression_code receiver) _ (expression_jumps receiver) (joined end (arguments_code args) _ (arguments_jump args) (tt, tt))

    base_jumps : (b : Base) → JumpWithin end (base_code b)
    base_jumps (var first rest) = (tt, tt)
    base_jumps (literal v span) = (tt, tt)
    base_jumps (list bases span) = (tt, list_jumps bases)
    base_jumps (mapping items span) = (tt, map_jumps items)
    base_jumps (paren e span) = expression_jumps e
    base_jumps (call name args span) = joined end (arguments_code args) _ (arguments_jump args) (tt, tt)

    bases_jump : (bs : Bases) → JumpWithin end (bases_code bs)
    bases_jump no_bases = tt
    bases_jump (base_then b bs) = joined end (base_code b) _ (base_jumps b) (bases_jump bs)

    arguments_jump : (args : Arguments) → JumpWithin end (arguments_code args)
    arguments_jump no_arguments = tt
    arguments_jump (arguments bases span) = bases_jump bases

    list_jumps : (bs : Bases) → JumpWithin end (list_code bs)
    list_jumps no_bases = tt
    list_jumps (base_then b bs) = joined end (base_code b) _ (base_jumps b) (tt, list_jumps bs)

    map_jumps : (items : Items) → JumpWithin end (map_code items)
    map_jumps no_items = tt
    map_jumps (item_then key b items) = joined end (base_code b) _ (base_jumps b) (tt, map_jumps items)

  plain_jumps : (b : Base) → JumpWithin end (base_code b ++ (emit ∷ []))
  plain_jumps b = joined end (base_code b) _ (base_jumps b) (tt, tt)

  mutual
    emission_jumps : (e : Expression) → JumpWithin end (emission_code e)
    emission_jumps (base b) = base_emission_jumps b
    emission_jumps (filtered receiver name args span) = joined end (expression_code receiver) _ (expression_jumps receiver) (joined end (arguments_code args) _ (arguments_jump args) (tt, tt))

    base_emission_jumps : (b : Base) → JumpWithin end (base_emission_code b)
    base_emission_jumps (paren e span) = emission_jumps e
    base_emission_jumps (call name args span) = joined end (arguments_code args) _ (arguments_jump args) (tt, tt)
    base_emission_jumps (var first rest) = plain_jumps (var first rest)
    base_emission_jumps (literal v span) = plain_jumps (literal v span)
    base_emission_jumps (list bases span) = plain_jumps (list bases span)
    base_emission_jumps (mapping items span) = plain_jumps (mapping items span)

-- statements from an offset on jump no further than to their end, nor than anything after it
mutual
  statement_jumps : (end at : ℕ) (t : Statement) → at + length (statement_code at t) ≤ end → JumpWithin end (statement_code at t)
  statement_jumps end at (raw span) le = (tt, tt)
  statement_jumps end at (inline_expr e span) le = emission_jumps end e
  statement_jumps end at (include word None) le = (tt, tt)
  statement_jumps end at (include word (Some e)) le = joined end (expression_code e) _ (expression_jumps end e) (tt, tt)
  statement_jumps end at (block opening e body branch) le =
      let start : ℕ = at + length (expression_code e) in
      let inner : List Instr = statements_code (body_start opening start) body in
      let to : ℕ = past_body opening branch start inner in
      let code : List Instr = block_code opening branch (expression_span e) start inner (else_code to branch) in
      joined end (expression_code e) code (expression_jumps end e) (block_jumps end opening branch (expression_span e) start inner (else_code to branch) (omega (arith, le, length-append (expression_code e) code)) (statements_jump end (body_start opening start) body) (branch_jumps end branch to))

  statements_jump : (end at : ℕ) (ts : Statements) → at + length (statements_code at ts) ≤ end → JumpWithin end (statements_code at ts)
  statements_jump end at no_statements le = tt
  statements_jump end at (statement_then t ts) le =
      let first : List Instr = statement_code at t in
      let rest : List Instr = statements_code (at + length first) ts in
      let in_all = length-append first rest in
      joined end first rest (statement_jumps end at t (omega (arith, le, in_all))) (statements_jump end (at + length first) ts (omega (arith, le, in_all)))

  branch_jumps : (end : ℕ) (branch : Else) (at : ℕ) → at + length (else_code at branch) ≤ end → JumpWithin end (else_code at branch)
  branch_jumps end no_else at le = tt
  branch_jumps end (otherwise body) at le = statements_jump end at body le

pub jumps_within : (tree : Statements) → JumpWithin (length (program_of tree)) (program_of tree)
jumps_within tree = statements_jump (length (program_of tree)) 0 tree (omega arith)
