use Rattle.std.proofs.Common.{◌≡◌, take}
use Rattle.upon_engine.specs.Texts.{texts_of}
use Rattle.upon_calls.specs.Filled.{with_functions, with_sources}
use Rattle.upon_calls.specs.Templates.{lent_pairs}
use Rattle.upon_calls.proofs.work.carry_out.OwnLists.{own-1, own-2}
use Rattle.upon_calls.proofs.work.carry_out.Given as goal

-- the engine has the functions so far
abbrev pub invariant-loop-function : goal.invariant-loop-function
invariant-loop-function l =
    texts_of (λ f. (own-1.entry f.vtable).1.formats f.value) (λ f. (own-2.entry f.vtable).1.answers f.value) l.engine ≡ with_functions (take l.function-index l.callables) (texts_of (λ f. (own-1.entry f.vtable).1.formats f.value) (λ f. (own-2.entry f.vtable).1.answers f.value) l.initial.engine)

-- and then the templates so far
abbrev pub invariant-loop-name : goal.invariant-loop-name
invariant-loop-name l =
    texts_of (λ f. (own-1.entry f.vtable).1.formats f.value) (λ f. (own-2.entry f.vtable).1.answers f.value) l.engine ≡ with_sources (lent_pairs (take l.name-index l.sources)) (texts_of (λ f. (own-1.entry f.vtable).1.formats f.value) (λ f. (own-2.entry f.vtable).1.answers f.value) l.initial.engine)
