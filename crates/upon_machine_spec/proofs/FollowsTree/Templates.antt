-- The run of a template's program ends, and gives what the template means.
use Rattle.std.proofs.Common.{◌≡◌, ℕ, ◌+◌, List, [], length, Option, Some, None, option_map, ap, ◌∙◌, arith, append-nil}
use Rattle.std.specs.Prelude.{slice_get}
use Rattle.std.proofs.lemmas.Option.{slice_get_past}
use Rattle.upon_lookup.specs.Environment.{Root}
use Rattle.upon_meaning_spec.specs.Alone.{running, alone_within}
use Rattle.upon_meaning_spec.specs.Engine.{Template, Calls, Resolver}
use Rattle.upon_meaning_spec.specs.Outcome.{End, good, fails, too_deep, States, with_text_before}
use Rattle.upon_machine_spec.specs.Code.{program_of}
use Rattle.upon_machine_spec.specs.Run.{on_next, run}
use Rattle.upon_machine_spec.specs.State.{State, at_start}
use Rattle.upon_machine_spec.specs.Step.{act}
use Rattle.upon_machine_spec.proofs.FollowsTree.Comes.{Reaches}
use Rattle.upon_machine_spec.proofs.FollowsTree.Places.{has_all}
use Rattle.upon_machine_spec.proofs.FollowsTree.Statements.{follows_at}

module _ {V T : Type 0} (calls : Calls V) (resolve : Resolver T) (root : Root) where
  -- the run of a whole program, at its end
  abbrev done : Template → Option (List ℕ) → ℕ → States V T → State V T
  done t name left s = record { active = record { code = program_of t.tree; running = running t name; left = left }; callers = []; position = 0 + length (program_of t.tree); operands = []; frames = []; asked = s }

  finish : (t : Template) (name : Option (List ℕ)) (left : ℕ) (end : End) (s : State V T) (text : List ℕ) (q : States V T) → Reaches calls resolve root end s text q (done t name left q) → (n : ℕ) × (run calls resolve root n s ≡ Some (record { text = text; end = end; next = q }))
  finish t name left good s text q h =
      let code = program_of t.tree in
      let past : slice_get code (0 + length code) ≡ None = slice_get_past code (0 + length code) (omega arith) in
      let a = h.by 1 in
      (a.0, a.1 ∙ ap (λ o. option_map (with_text_before text) (on_next (run calls resolve root 0) (act calls resolve root o (done t name left q)))) past ∙ ap (λ l. Some (record { text = l; end = good; next = q })) (append-nil text))
  finish t name left (fails f) s text q h = h.by
  finish t name left too_deep s text q h = h.by

pub simulates : {V T : Type 0} (calls : Calls V) (resolve : Resolver T) (left : ℕ) (t : Template) (name : Option (List ℕ)) (root : Root) (s : States V T) → (n : ℕ) × (run calls resolve root n (at_start t name left s) ≡ Some (alone_within calls resolve left t name root s))
simulates calls resolve left t name root s =
    let o = alone_within calls resolve left t name root s in
    finish calls resolve root t name left o.end (at_start t name left s) o.text o.next (follows_at calls resolve root left t.tree (program_of t.tree) (running t name) [] 0 [] s (has_all (program_of t.tree)))
