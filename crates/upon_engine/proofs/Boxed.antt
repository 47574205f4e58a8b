-- What a boxed value gives, for whoever has boxed it: its clauses are about the entry of its type, which is known.
use Rattle.std.proofs.Common.{◌≡◌, refl, sym, subst}
use Rattle.std.specs.declared.alloc.Global.{Global}
use Rattle.std.specs.declared.dyn_box.DynBox.{DynBox}
use denote.Param.Object.{Made, read_made}
use denote.Param.Table.{Entry, Table}
use denote.RawPtr.{Ptr}

-- what is said of each box of this entry is so of a box that has it
pub boxed_gives : {X A : Type 0} {P : X → Type 0} (gives : DynBox X Global P → A) (at : X) (a : A) (b : DynBox X Global P)
    → ((p : Ptr) (alloc : Global) (v : P at) → gives (record { ptr = p; vtable = at; alloc = alloc; value = v }) ≡ a) → b.vtable ≡ at → gives b ≡ a
boxed_gives {X} {A} {P} gives at a b each is =
    subst (λ k. (v : P k) → gives (record { ptr = b.ptr; vtable = k; alloc = b.alloc; value = v }) ≡ a) (sym is) (each b.ptr b.alloc) b.value

-- what is read of a box is what is read of the value that was boxed
pub boxed_reads {ℓ} : {G : Type 0 → Type 1} {C : Type 0} (boxes : Table G C) (at : boxes.I) (Z : Type ℓ) (read : (j : Entry G C) → j.0.Denot → Z) (i : boxes.I) (y : (boxes.entry i).0.Denot) (x : (boxes.entry at).0.Denot)
    → Made (λ j. (boxes.entry j).0.coded.code) (boxes.entry at).0.coded.code at i y x → read (boxes.entry i) y ≡ read (boxes.entry at) x
boxed_reads boxes at Z read i y x made = read_made boxes (boxes.entry at) at refl Z read i y x made
