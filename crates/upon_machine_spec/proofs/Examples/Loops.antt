-- Programs of trees with a `for`, and what one gives.
use Rattle.std.proofs.Common.{◌≡◌, pos, [], ◌∷◌, Some, None, refl, codes}
use Rattle.upon_types.specs.Expression.{base}
use Rattle.upon_types.specs.Path.{item}
use Rattle.upon_types.specs.Tree.{for_loop, otherwise, no_else}
use Rattle.upon_types.specs.Val.{int_val}
use Rattle.upon_lookup.specs.Environment.{context}
use Rattle.upon_meaning_spec.specs.Engine.{calls_of, from_table}
use Rattle.upon_meaning_spec.specs.Outcome.{text_outcome}
use Rattle.upon_meaning_spec.proofs.Computing.{computing}
use Rattle.upon_meaning_spec.proofs.Examples.ShortContexts.{at, word, first, name, statements, shows, text, list_of, map_of, template, engine, no_source, no_states}
use Rattle.upon_machine_spec.specs.Code.{program_of}
use Rattle.upon_machine_spec.specs.Instr.{jump, emit, emit_raw, loop_start, loop_next, loop_next_else, expr_start_var}
use Rattle.upon_machine_spec.specs.Run.{run, steps}
use Rattle.upon_machine_spec.specs.State.{at_start}

-- `{% for x in xs %}{{ x }}{% endfor %}`: back to the next turn after the body
in_turns : program_of (statements (for_loop (item (word 7 (codes "x"))) (base (name 12 (codes "xs"))) (statements (shows 17 24 (name 20 (codes "x")) ∷ [])) no_else ∷ []))
    ≡ expr_start_var (first 12 (codes "xs")) [] ∷ loop_start (item (word 7 (codes "x"))) (at 12 14) ∷ loop_next 6 ∷ expr_start_var (first 20 (codes "x")) [] ∷ emit ∷ jump 2 ∷ []
in_turns = refl

-- `{% for x in xs %}x{% else %}y{% endfor %}`: to the other branch if there is no turn at all, and past it after the last turn
in_turns_or_else : program_of (statements (for_loop (item (word 7 (codes "x"))) (base (name 12 (codes "xs"))) (statements (text 17 18 ∷ [])) (otherwise (statements (text 28 29 ∷ []))) ∷ []))
    ≡ expr_start_var (first 12 (codes "xs")) [] ∷ loop_start (item (word 7 (codes "x"))) (at 12 14) ∷ loop_next_else 5 6 ∷ emit_raw (at 17 18) ∷ jump 2 ∷ emit_raw (at 28 29) ∷ []
in_turns_or_else = refl

-- the loop on {xs: [1, 2]}: eleven steps go on, and the next one ends the run
eleven_steps : steps (calls_of (engine [] []) no_source) (from_table (engine [] []).templates) (context (map_of ((codes "xs", list_of (int_val (pos 1) ∷ int_val (pos 2) ∷ [])) ∷ []))) 100
    (at_start (template (codes "{% for x in xs %}{{ x }}{% endfor %}") (for_loop (item (word 7 (codes "x"))) (base (name 12 (codes "xs"))) (statements (shows 17 24 (name 20 (codes "x")) ∷ [])) no_else ∷ [])) None 63 no_states) ≡ 11
unfolding computing
eleven_steps = refl

both_items : run (calls_of (engine [] []) no_source) (from_table (engine [] []).templates) (context (map_of ((codes "xs", list_of (int_val (pos 1) ∷ int_val (pos 2) ∷ [])) ∷ []))) 12
    (at_start (template (codes "{% for x in xs %}{{ x }}{% endfor %}") (for_loop (item (word 7 (codes "x"))) (base (name 12 (codes "xs"))) (statements (shows 17 24 (name 20 (codes "x")) ∷ [])) no_else ∷ [])) None 63 no_states)
    ≡ Some (text_outcome (codes "12") no_states)
unfolding computing
both_items = refl
