-- How the work on the words of a call ends.
use Rattle.std.proofs.Common.{◌≡◌, ◌∷◌, ℕ, List, [], false, Option, Some, None, Result, Ok, Err, IsErrAnd, String, Global, map, string_bytes, refl, sym, subst, ◌∙◌, inl, inr}
use Rattle.std.specs.Io.KnownBytes.{Keeps}
use Rattle.upon_types.specs.Conversions.{HoldsLast}
use Rattle.upon_types.specs.Error.{fault_of}
use Rattle.upon_types.specs.Fault.{out_of_memory}
use Rattle.upon_types.specs.Val.{Val}
use Rattle.upon_types.specs.declared.error.Error.{Error}
use Rattle.upon_meaning_spec.specs.Outcome.{Outcome}
use Rattle.upon_engine.specs.Theorem.{meaning}
use Rattle.upon_vm.specs.Reports.{IsAnyIo, WritesReported}
use Rattle.upon.specs.Program.{is_call, word_pair, holding, RunEnds, IsKnown, ReadsFile, RendersValue, RendersOn, Shown}
use Rattle.upon.specs.declared.program.Failure.{Failure}
use Rattle.upon.specs.declared.program.Failure.TheVariants.{Usage, Unreadable, NotText, Fault}
use Rattle.upon.proofs.Shown.{appends_kept, keeps_same}

-- ---- on the map of the words
pub on_words : (name : List ℕ) (words : List (String Global)) (text : List ℕ) (v : Val) (r : Result (Unit {0}) Error) (old new : Option (List ℕ)) → HoldsLast (map word_pair words) v → RendersValue name text v r old new → RendersOn name words text r old new
on_words name words text v (Ok u) old new holds renders = (v, holds, renders)
on_words name words text v (Err e) old new holds renders = inl (v, holds, renders)

pub without_memory : (name : List ℕ) (words : List (String Global)) (text : List ℕ) (r : Result (Unit {0}) Error) (a : Option (List ℕ)) → IsErrAnd r (λ e. fault_of e ≡ out_of_memory) → RendersOn name words text r a a
without_memory name words text (Ok u) a is = absurd is
without_memory name words text (Err e) a is = inr (is, keeps_same a)

-- ---- of words and a file
pub no_call : (args : List (String Global)) (file : Option (List ℕ)) (a : Option (List ℕ)) → is_call args ≡ false → RunEnds args file (Err Usage) a a
no_call [] file a is = (refl, keeps_same a)
no_call (name ∷ words) file a is = (is, keeps_same a)

not_read : (name : String Global) (words : List (String Global)) (file : Option (List ℕ)) (failure : Failure) (a : Option (List ℕ)) → ReadsFile file (Err failure) → RunEnds (name ∷ words) file (Err failure) a a
not_read name words file Usage a reads = absurd reads
not_read name words file Unreadable a reads = keeps_same a
not_read name words file NotText a reads = (reads, keeps_same a)
not_read name words file (Fault e) a reads = inr (reads, keeps_same a)

pub unread : (args : List (String Global)) (name : String Global) (words : List (String Global)) (file : Option (List ℕ)) (failure : Failure) (r : Result (Unit {0}) Failure) (a : Option (List ℕ)) → args ≡ name ∷ words → IsErrAnd r (λ x. x ≡ failure) → ReadsFile file (Err failure) → RunEnds args file r a a
unread args name words file failure (Ok u) a call is reads = absurd is
unread args name words file failure (Err x) a call is reads =
    subst (λ args. RunEnds args file (Err x) a a) (sym call) (subst (λ x. RunEnds (name ∷ words) file (Err x) a a) (sym is) (not_read name words file failure a reads))

pub ended : (args : List (String Global)) (name : String Global) (words : List (String Global)) (file : Option (List ℕ)) (text : List ℕ) (q : Result (Unit {0}) Error) (e : Error) (r : Result (Unit {0}) Failure) (old new : Option (List ℕ)) → args ≡ name ∷ words
    → q ≡ Err e → IsErrAnd r (λ x. x ≡ Fault e) → IsKnown file text → RendersOn (string_bytes name) words text q old new → RunEnds args file r old new
ended args name words file text q e (Ok u) old new call was is known renders = absurd is
ended args name words file text q e (Err x) old new call was is known renders =
    subst (λ args. RunEnds args file (Err x) old new) (sym call) (subst (λ x. RunEnds (name ∷ words) file (Err x) old new) (sym is) (inl (text, known, subst (λ q. RendersOn (string_bytes name) words text q old new) was renders)))

pub ended_well : (args : List (String Global)) (name : String Global) (words : List (String Global)) (file : Option (List ℕ)) (text : List ℕ) (q : Result (Unit {0}) Error) (old new : Option (List ℕ)) → args ≡ name ∷ words
    → q ≡ Ok tt → IsKnown file text → RendersOn (string_bytes name) words text q old new → RunEnds args file (Ok tt) old new
ended_well args name words file text q old new call was known renders =
    subst (λ args. RunEnds args file (Ok tt) old new) (sym call) (text, known, subst (λ q. RendersOn (string_bytes name) words text q old new) was renders)

-- ---- as the output is flushed after a failure
keeps_then : (old mid new : Option (List ℕ)) → Keeps old mid → Keeps mid new → Keeps old new
keeps_then None mid new first then = tt
keeps_then (Some xs) None new first then = absurd first
keeps_then (Some xs) (Some ys) None first then = absurd then
keeps_then (Some xs) (Some ys) (Some zs) first then = then ∙ first

writes_kept : {Q : Type 0} (limit : ℕ) (e : Error) (old mid new : Option (List ℕ)) (o : Outcome Q) → Keeps mid new → WritesReported limit IsAnyIo (Err e) old mid o → WritesReported limit IsAnyIo (Err e) old new o
writes_kept limit e old mid new o keeps (inl said) = inl (said.0, appends_kept old mid new o.text said.1 keeps)
writes_kept limit e old mid new o keeps (inr said) = inr (said.0, (said.1.0, said.1.1, said.1.2, appends_kept old mid new said.1.0 said.1.3 keeps))

shown_kept : (name text : List ℕ) (v : Val) (e : Error) (old mid new : Option (List ℕ)) → Keeps mid new → Shown name text v (Err e) old mid → Shown name text v (Err e) old new
shown_kept name text v e old mid new keeps shown = (shown.0, shown.1, λ table it. writes_kept 64 e old mid new (meaning (holding name text) table (Some name) text shown.0 v) keeps (shown.2 table it))

renders_kept : (name text : List ℕ) (v : Val) (e : Error) (old mid new : Option (List ℕ)) → Keeps mid new → RendersValue name text v (Err e) old mid → RendersValue name text v (Err e) old new
renders_kept name text v e old mid new keeps (inl shown) = inl (shown_kept name text v e old mid new keeps shown)
renders_kept name text v e old mid new keeps (inr said) = inr (said.0, keeps_then old mid new said.1 keeps)

on_words_kept : (name : List ℕ) (words : List (String Global)) (text : List ℕ) (e : Error) (old mid new : Option (List ℕ)) → Keeps mid new → RendersOn name words text (Err e) old mid → RendersOn name words text (Err e) old new
on_words_kept name words text e old mid new keeps (inl said) = inl (said.0, said.1, renders_kept name text said.0 e old mid new keeps said.2)
on_words_kept name words text e old mid new keeps (inr said) = inr (said.0, keeps_then old mid new said.1 keeps)

pub ends_kept : (args : List (String Global)) (file : Option (List ℕ)) (failure : Failure) (old mid new : Option (List ℕ)) → Keeps mid new → RunEnds args file (Err failure) old mid → RunEnds args file (Err failure) old new
ends_kept [] file failure old mid new keeps said = (said.0, keeps_then old mid new said.1 keeps)
ends_kept (name ∷ words) file Usage old mid new keeps said = (said.0, keeps_then old mid new said.1 keeps)
ends_kept (name ∷ words) file Unreadable old mid new keeps said = keeps_then old mid new said keeps
ends_kept (name ∷ words) file NotText old mid new keeps said = (said.0, keeps_then old mid new said.1 keeps)
ends_kept (name ∷ words) file (Fault e) old mid new keeps (inl said) = inl (said.0, said.1, on_words_kept (string_bytes name) words said.0 e old mid new keeps said.2)
ends_kept (name ∷ words) file (Fault e) old mid new keeps (inr said) = inr (said.0, keeps_then old mid new said.1 keeps)
