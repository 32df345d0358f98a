-- Fewer steps are left; and what the look tells.
use Rattle.std.proofs.Common.{◌≡◌, ◌≢◌, ◌==◌, ◌∙◌, ℕ, ◌+◌, ◌*◌, ◌≤◌, ◌<◌, arith, Bool, true, false, refl, sym, ap, subst, List, length, Option, Some, None, if◌then◌else◌}
use Rattle.std.specs.Prelude.{count_by}
use Rattle.std.proofs.lemmas.List.Splits.{length-slice_split}
use Rattle.fs_trait.specs.declared.types.Value.{Value}
use Rattle.fs_trait.specs.declared.types.Value.TheVariants.{Absent, Folder, Link, File}
use Rattle.fs_trait.specs.View.{Disk, View}
use Rattle.fs_trait.specs.Image.{is_folder}
use Rattle.repo_layout.specs.RefName.{IsRefName, parts_of}
use Rattle.repo_layout.specs.Paths.{ref_path}
use Rattle.repo_layout.specs.Refs.{is_leaf}
use Rattle.ref_room.proofs.Names.{length-ref_path}
use Rattle.ref_room.specs.Clearing as clearing
use Rattle.ref_room.specs.Way as way
use Rattle.ref_store.specs.declared.phase.Phase.{Phase}
use Rattle.ref_store.specs.declared.phase.Phase.TheVariants as phase
use Rattle.ref_store.specs.declared.lookup.There.{There}
use Rattle.ref_store.specs.declared.lookup.There.TheVariants as there
use Rattle.ref_store.specs.Lookup.{IsThere}
use Rattle.ref_store.specs.Change.{Change, begun, commit_of, left, left_in, left_way}
use Rattle.ref_store.specs.Steps.{HasValue, goes_on}
use Rattle.ref_store.proofs.RoomLemmas.{left_small}

-- the parts of a name by its slashes
pub parts_counted : (text name : List ℕ) → text ≡ name → (count : ℕ) → count ≡ count_by (λ b. b == 47) text → count + 1 ≡ length (parts_of name)
parts_counted text name e count is = ap (λ n. n + 1) (is ∙ ap (count_by (λ b. b == 47)) e) ∙ sym (length-slice_split (λ b. b == 47) name)

pub parts_few : (text : List ℕ) → IsRefName text → (count : ℕ) → count ≡ count_by (λ b. b == 47) text → count + 1 ≤ 12
parts_few text named count is = omega (arith, parts_counted text text refl count is, named.few)

pub way_counted : (name : List ℕ) (parts : ℕ) → parts ≡ length (parts_of name) → 2 * (4 + parts) + 9 ≡ left_way name
way_counted name parts is = omega (arith, is, length-ref_path name)

walk_left : (w : way.Walked) (name : List ℕ) → w.name ≡ name → (t : Change) → left_in (phase.Walk w) t ≤ left_way name
walk_left w name e t = by (way.is_over w.leg)
  where
    by : (b : Bool) → (if b then 8 else way.left w + 9) ≤ left_way name
    by true = omega arith
    by false = left_small w name e

begun_left : (o : Option (List ℕ)) (x : There) (t : Change) → left_in (begun o x t.name) t < 170141183460469231731687303715884105730 + left_way t.name
begun_left None x t = omega arith
begun_left (Some commit) there.Folder t = omega arith
begun_left (Some commit) there.Nothing t = omega (arith, walk_left (way.begun t.name) t.name refl t)
begun_left (Some commit) (there.Commit c) t = omega (arith, walk_left (way.begun t.name) t.name refl t)
begun_left (Some commit) there.OtherLeaf t = omega (arith, walk_left (way.begun t.name) t.name refl t)

pub look_falls : (t u : Change) → t ≡ u → t.phase ≡ phase.Look → (x : There) (ph : Phase) → ph ≡ begun t.value x t.name → left (record t { phase = ph }) < left u
look_falls t u same is x ph e =
    subst (λ y. left (record t { phase = ph }) < left y) same
    (subst (λ q. left_in ph (record t { phase = ph }) < left_in q t) (sym is)
    (subst (λ q. left_in q (record t { phase = q }) < 170141183460469231731687303715884105730 + left_way t.name) (sym e) (begun_left t.value x (record t { phase = begun t.value x t.name }))))

pub clear_falls : (t u : Change) → t ≡ u → (c : clearing.Cleared) → t.phase ≡ phase.Clear c → (x : way.Walked) → x ≡ way.begun t.name → clearing.act c ≡ clearing.Ends → left (record t { phase = phase.Walk x }) < left u
clear_falls t u same c is x e ends =
    subst (λ y. left (record t { phase = phase.Walk x }) < left y) same
    (subst (λ q. left (record t { phase = phase.Walk x }) < left_in q t) (sym is)
    (subst (λ a. left (record t { phase = phase.Walk x }) < clearing.left_by a c + left_way t.name) (sym ends)
    (let h = walk_left x t.name (ap (λ (y : way.Walked). y.name) e) (record t { phase = phase.Walk x }) in omega (arith, h))))

folder_leaf : (z : Value) → is_folder z ≡ true → is_leaf z ≡ false
folder_leaf (Folder m) e = refl
folder_leaf Absent e = refl
folder_leaf (Link m l) e = let n : false ≡ true = e in cc
folder_leaf (File n) e = let n : false ≡ true = e in cc

there_value : (d : Disk) (name : List ℕ) (x : There) → x ≢ there.OtherLeaf → IsThere d (ref_path name) x → HasValue d name (commit_of x)
there_value d name there.Nothing other is = ap is_leaf is
there_value d name there.Folder other is = folder_leaf (d.at (ref_path name)) is
there_value d name (there.Commit c) other is = is
there_value d name there.OtherLeaf other is = absurd (other refl)

pub look_tells : (t u : Change) → t ≡ u → t.phase ≡ phase.Look → (v : View) (at : List (List ℕ)) → at ≡ ref_path t.name → (x : There) → x ≢ there.OtherLeaf → IsThere v.now at x → commit_of x ≡ t.seen → (next : Phase) → goes_on u.phase next u v
look_tells t u same is v at e x other is_there seen next =
    subst (λ y. goes_on y.phase next y v) same
    (subst (λ q. goes_on q next t v) (sym is) (subst (HasValue v.now t.name) seen (there_value v.now t.name x other (subst (λ p. IsThere v.now p x) e is_there))))
