-- What a change of the table makes of the disk that it shows.
use Rattle.std.proofs.Common.{◌≡◌, ◌≢◌, ◌⊎◌, inl, inr, ℕ, Bool, true, false, cond, if◌then◌else◌, refl, sym, ◌∙◌, ap, subst, List, [], Option, Some, None, Result, Ok, Err, IfOk}
use Rattle.std.specs.Bool.{Decides}
use Rattle.std.proofs.lemmas.Bool.Decides.{Decides-eqb}
use Rattle.std.proofs.Math.Dec.{eqb}
use Rattle.std.specs.BTreeMap.{BTreeMap, get}
use Rattle.std.specs.Map.{lookup}
use Rattle.std.specs.Cmp.{unsigned_tied}
use Rattle.std.specs.Ordering.{nat_cmp, is_eq}
use Rattle.ost_types.specs.Path.{Name, Path, under, same_path}
use Rattle.ost_types.proofs.Paths.{root_or_under, under-not_root}
use Rattle.ost_types.specs.declared.meta.Meta.{Meta}
use Rattle.fs_trait.specs.declared.types.Value.{Value}
use Rattle.fs_trait.specs.declared.types.Value.TheVariants.{Absent, Folder, Link, File}
use Rattle.fs_trait.specs.View.{Disk, put, set_at}
use Rattle.fs_trait.specs.Effect.{HasNames, IsListing}
use Rattle.fs_trait.proofs.Puts.{put-here, put-apart}
use Rattle.memory_table.specs.declared.table.File as file
use Rattle.memory_table.specs.declared.table.Table.{Table}
use Rattle.memory_table.specs.Tree.{Holds, HasAny, IsNamesIn}
use Rattle.memory_table.specs.Ties.{Ties, present}
use Rattle.memory_table.proofs.Holding.{Holds-same}

pub present_none : (x : Value) → present x ≡ None → x ≡ Absent
present_none Absent e = refl
present_none (Folder m) e = cc
present_none (Link m t) e = cc
present_none (File n) e = cc

pub present_some : (v x : Value) → Some v ≡ present x → v ≡ x
present_some v Absent e = cc
present_some v (Folder m) e = cc
present_some v (Link m t) e = cc
present_some v (File n) e = cc

-- the files of a map show those of a disk
abbrev pub AreFiles : BTreeMap ℕ file.File → Disk → Type 0
AreFiles m d = (n : ℕ) (f : file.File) → get nat_cmp m n ≡ Some f → (f.meta ≡ d.meta n) × (f.bytes ≡ d.bytes n)

pub no_files : (m : BTreeMap ℕ file.File) (d : Disk) → m.entries ≡ [] → AreFiles m d
no_files m d empty n f is = let e : None ≡ Some f = sym (ap (λ (es : List (ℕ × file.File)). lookup (λ k. is_eq (nat_cmp n k)) es) empty) ∙ is in cc

pub at_file : (m n : BTreeMap ℕ file.File) (k : ℕ) (w : Option file.File) (d e : Disk) → ((q : ℕ) → get nat_cmp n q ≡ cond (is_eq (nat_cmp k q)) w (get nat_cmp m q))
    → ((f : file.File) → w ≡ Some f → (f.meta ≡ e.meta k) × (f.bytes ≡ e.bytes k)) → ((q : ℕ) → k ≢ q → (e.meta q ≡ d.meta q) × (e.bytes q ≡ d.bytes q)) → AreFiles m d → AreFiles n e
at_file m n k w d e updates here apart old q f is = go (eqb k q) (Decides-eqb k q) (unsigned_tied k q)
  where
    go : (b : Bool) → Decides b (k ≡ q) → is_eq (nat_cmp k q) ≡ b → (f.meta ≡ e.meta q) × (f.bytes ≡ e.bytes q)
    go true s t = subst (λ j. (f.meta ≡ e.meta j) × (f.bytes ≡ e.bytes j)) (s.0 refl) (here f (sym (updates q ∙ ap (λ c. cond c w (get nat_cmp m q)) t) ∙ is))
    go false s t =
        let o = old q f (sym (updates q ∙ ap (λ c. cond c w (get nat_cmp m q)) t) ∙ is) in
        let a = apart q (λ same. let n : false ≡ true = s.1 same in cc) in
        (o.0 ∙ sym a.0, o.1 ∙ sym a.1)

pub Ties-name : (t u : Table) (p : Path) (x : Value) (o : Option Value) (d : Disk) → u.files ≡ t.files → present x ≡ o → ((g : Path → Option Value) → Holds t.names g → Holds u.names (put p o g)) → Ties t d → Ties u (set_at p x d)
unfolding put
Ties-name t u p x o d files is holds ties = record {
  names = Holds-same u.names (put p o (λ q. present (d.at q))) (λ q. present (put p x d.at q)) (λ q. same q (same_path p q)) (holds (λ q. present (d.at q)) ties.names);
  files = λ n f has. ties.files n f (ap (λ m. get nat_cmp m n) (sym files) ∙ has);
}
  where
    same : (q : Path) (b : Bool) → (if b then o else present (d.at q)) ≡ present (if b then x else d.at q)
    same q true = sym is
    same q false = refl

pub Ties-new : (t : Table) (d : Disk) (m : Meta) → Holds t.names (put [] (Some (Folder m)) (λ p. None)) → t.files.entries ≡ [] → d.at [] ≡ Folder m → ((f : Path) (x : Name) → d.at (under f x) ≡ Absent) → Ties t d
Ties-new t d m holds empty root below = record {
  names = Holds-same t.names _ (λ p. present (d.at p)) (λ p. each p (root_or_under p)) holds;
  files = no_files t.files d empty;
}
  where
    each : (p : Path) → (p ≡ []) ⊎ ((f : Path) × (x : Name) × (p ≡ under f x)) → put [] (Some (Folder m)) (λ p. None) p ≡ present (d.at p)
    each p (inl e) = ap (put [] (Some (Folder m)) (λ p. None)) e ∙ put-here [] (Some (Folder m)) (λ p. None) ∙ sym (ap (λ q. present (d.at q)) e ∙ ap present root)
    each p (inr (f, x, e)) = put-apart [] (Some (Folder m)) (λ p. None) p (λ none. under-not_root f x (sym e ∙ sym none)) ∙ sym (ap (λ q. present (d.at q)) e ∙ ap present (below f x))

pub named_any : (b : Bool) (d : Disk) (f : Path) → f ≢ [] → HasAny b (λ p. present (d.at p)) f → HasNames b f d
named_any true d f below any = inr (any.0, λ e. any.1 (ap present e))
named_any false d f below none = (below, λ x. present_none _ (none x))

pub listing : (d : Disk) (f : Path) (names : List Name) → IsNamesIn (λ p. present (d.at p)) f names → IsListing d f names
listing d f names are = record {
  ascending = are.ascending;
  there = λ x has e. are.there x has (ap present e);
  all = λ x there. are.all x (λ none. there (present_none _ none));
}

pub if_ok : {T E : Type 0} (r : Result T E) (P Q : T → Type 0) → ((x : T) → P x → Q x) → IfOk r P → IfOk r Q
if_ok (Ok x) P Q to h = to x h
if_ok (Err e) P Q to h = h
