use Rattle.std.proofs.Common.{rules, ◌≡◌, ◌||◌, ◌&&◌, ◌∙◌, ap, Some, false, not}
use Rattle.std.specs.List.{list_any}
use Rattle.upon_compiler.specs.Program.{instr_of}
use Rattle.upon_machine_spec.specs.ProgramNames.{is_this, path_name}
use Rattle.upon_needs.specs.Names.{has_name}
use Rattle.upon_needs.specs.OpenBlocks.{binds_name, blocks}
use Rattle.upon_needs.proofs.SetsOfNames.{free_one, puts_one}
use Rattle.upon_needs.proofs.template_names.insert_free.Goals as goal

pub returns-in_ok-insert : goal.returns-in_ok-insert
returns-in_ok-insert c = λ name.
    let one = c.in-Some.name.now in
    let free : list_any (binds_name one) (blocks c.args.opened.now) ≡ false = search rules in
    let is : Some one ≡ path_name (instr_of c.args.instr.now) = search rules in
    puts_one c.args.names.now c.insert.new.self c.in-Some.name c.in_ok-insert.ensures.updates name
    ∙ ap (λ x. has_name c.args.names.now name || x) (free_one (λ k. list_any (binds_name k) (blocks c.args.opened.now)) one name free
    ∙ ap (λ p. not (list_any (binds_name name) (blocks c.args.opened.now)) && is_this name p) is)
