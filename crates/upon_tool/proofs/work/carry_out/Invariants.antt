use Rattle.std.proofs.Common.{◌≡◌, take}
use Rattle.std.specs.Vec.Iter.{into_iter_items}
use Rattle.upon_engine.specs.Texts.{texts_of, Texts}
use Rattle.upon_calls.specs.Filled.{with_functions}
use Rattle.upon_tool.specs.Filled.{TakesFiles}
use Rattle.upon_tool.proofs.FolderFiles.{FolderSoFar}
use Rattle.upon_tool.proofs.work.carry_out.OwnLists.{own-1, own-2}
use Rattle.upon_tool.proofs.work.carry_out.Given as goal

-- the engine has the functions so far
abbrev pub invariant-loop-function : goal.invariant-loop-function
invariant-loop-function g l =
    (l.page ≡ l.initial.page)
    × (texts_of (λ f. (own-1.entry f.vtable).1.formats f.value) (λ f. (own-2.entry f.vtable).1.answers f.value) l.engine ≡ with_functions (take l.function-index l.functions) (texts_of (λ f. (own-1.entry f.vtable).1.formats f.value) (λ f. (own-2.entry f.vtable).1.answers f.value) l.initial.engine))
    × (l.work ≡ l.initial.work)

-- what is left of the files is taken by what the engine holds so far; the library has the names of those that were taken,
-- and each without a reason is held
abbrev pub invariant-loop-file : goal.invariant-loop-file
invariant-loop-file g l =
    (l.page ≡ l.initial.page)
    × ((e : Texts) → TakesFiles (into_iter_items l.file-iterator) (texts_of (λ f. (own-1.entry f.vtable).1.formats f.value) (λ f. (own-2.entry f.vtable).1.answers f.value) l.engine) e → TakesFiles (into_iter_items l.initial.file-iterator) (texts_of (λ f. (own-1.entry f.vtable).1.formats f.value) (λ f. (own-2.entry f.vtable).1.answers f.value) l.initial.engine) e)
    × FolderSoFar l.library (texts_of (λ f. (own-1.entry f.vtable).1.formats f.value) (λ f. (own-2.entry f.vtable).1.answers f.value) l.engine) (into_iter_items l.file-iterator) (into_iter_items l.initial.file-iterator)
    × (l.work ≡ l.initial.work)
