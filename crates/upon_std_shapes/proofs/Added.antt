-- What is declared of functions and what is called, as functions are added on both sides.
use Rattle.std.proofs.Common.{◌≡◌, ℕ, List, [], ◌∷◌, Bool, true, false, cond, Option, Some, bytes_eq, subst, sym}
use Rattle.std.specs.Map.{update}
use Rattle.upon_types.specs.Answers.{Callable, Formatter, Function, function}
use Rattle.upon_shape_spec.specs.Declared.{Declared, DeclaredCallable, Giving, gives_by, given_by, FormatsEach, KeepsGiving, CallableKeeps, KeepsDeclared}
use Rattle.upon_std.specs.Table.{standard_answer, standard_name}
use Rattle.upon_std.specs.declared.table.StandardFunction.{StandardFunction}
use Rattle.upon_std_shapes.specs.Signatures.{standard_signatures}
use Rattle.upon_std_shapes.specs.Tables.{Declarations, with_declared, with_all_declared, with_all_added}
use Rattle.upon_std_shapes.proofs.Kept.{giving_kept}

one_more : (b : Bool) (given : Giving) (f : Function) (d : Option DeclaredCallable) (c : Option Callable) → KeepsGiving f given → CallableKeeps d c → CallableKeeps (cond b (Some (gives_by given)) d) (cond b (Some (function f)) c)
one_more true given f d c h k = h
one_more false given f d c h k = k

pub added_kept : (functions : List StandardFunction) (declared : Declarations) (callables : List ℕ → Option Callable)
    → ((name : List ℕ) → CallableKeeps (declared name) (callables name))
    → (name : List ℕ) → CallableKeeps (with_all_declared functions declared name) (with_all_added functions callables name)
added_kept [] declared callables h = h
added_kept (f ∷ fs) declared callables h =
    added_kept fs (with_declared f declared) (update bytes_eq callables (standard_name f) (Some (function (standard_answer f))))
    (λ name. one_more (bytes_eq (standard_name f) name) (given_by (standard_signatures f)) (standard_answer f) (declared name) (callables name) (giving_kept f) (h name))

pub all_added_kept : (functions : List StandardFunction) (old new : Declared) (callables : List ℕ → Option Callable) (default : Formatter)
    → ((name : List ℕ) → new.callables name ≡ with_all_declared functions old.callables name) → new.default_formats ≡ old.default_formats
    → KeepsDeclared old callables default → KeepsDeclared new (with_all_added functions callables) default
all_added_kept functions old new callables default same formats keeps = record {
  each = λ name.
      subst (λ (d : Option DeclaredCallable). CallableKeeps d (with_all_added functions callables name)) (sym (same name))
      (added_kept functions old.callables callables keeps.each name);
  default_formatter = subst (FormatsEach default) (sym formats) keeps.default_formatter;
}
