-- A folder in a file's place is damage.
use Rattle.std.proofs.Common.{◌≡◌, ◌^◌, inl, ℕ, Bool, true, false, List, [], ◌∷◌, ◌++◌, length, Some, None, if◌then◌else◌, refl, sym, ◌∙◌, ap, arith}
use Rattle.std.specs.Prelude.{nat_lt}
use Rattle.std.specs.Int.{w32, to_be_bytes}
use Rattle.gv_core.proofs.Sizes.{bind_some}
use Rattle.sha2.specs.Sha256.{sha256}
use Rattle.ost_types.specs.declared.meta.Meta.{Meta}
use Rattle.ost_types.specs.declared.object.Kind.TheVariants as kind
use Rattle.ost_types.specs.Path.{same_name}
use Rattle.ost_types.proofs.Paths.{same_name-Decides}
use Rattle.ost_forms.specs.declared.fault.ObjFault.TheVariants as read
use Rattle.ost_forms.specs.Stream.{framed, header_form, zeros}
use Rattle.ost_objects.specs.declared.fault.CheckFault.TheVariants as check
use Rattle.fs_trait.specs.declared.types.Node.TheVariants as node
use Rattle.fs_trait.specs.declared.types.Value.{Value}
use Rattle.fs_trait.specs.declared.types.Value.TheVariants.{Absent, File, Folder, Link}
use Rattle.fs_trait.specs.Effect.{IsNode}
use Rattle.fs_trait.specs.Seen.{seen}
use Rattle.fs_trait.specs.View.{Disk}
use Rattle.repo_model.specs.Objects.{object_at, object_in, path_of}
use Rattle.repo_model.specs.Trees.{name_of}
use Rattle.tree_read.specs.Looks.{IsDamaged}

some_bytes : (xs : List ℕ) (y : ℕ) (ys : List ℕ) → xs ++ y ∷ ys ≡ [] → ⊥
some_bytes [] y ys e = cc
some_bytes (x ∷ xs) y ys e = cc

-- no bytes are a frame's
not_framed : (header content : List ℕ) → framed header content ≡ Some [] → ⊥
not_framed header content is = by (nat_lt (length header) (2 ^ 32)) is
  where
    by : (b : Bool) → (if b then Some (to_be_bytes w32 (length header) ++ (zeros ++ (header ++ content))) else None) ≡ Some [] → ⊥
    by true is = some_bytes (to_be_bytes w32 (length header)) 0 (0 ∷ 0 ∷ 0 ∷ (header ++ content)) (let e : to_be_bytes w32 (length header) ++ (zeros ++ (header ++ content)) ≡ [] = cc in e)
    by false is = let no : None ≡ Some [] = is in cc

-- a folder that is found stands there
pub node_folder : (d : Disk) (x : Value) (m : Meta) → IsNode d x (Some (node.Folder m)) → x ≡ Folder m
node_folder d Absent m is = let no : Some (node.Folder m) ≡ None = is in cc
node_folder d (Folder k) m is =
    let e : Some (node.Folder m) ≡ Some (node.Folder k) = is in
    let same : k ≡ m = cc in
    ap Folder same
node_folder d (Link k target) m is =
    let e : Some (node.Folder m) ≡ Some (node.Link k target) = is in
    let no : node.Folder m ≡ node.Link k target = cc in
    cc
node_folder d (File n) m is =
    let e : Some (node.Folder m) ≡ Some (node.File (d.meta n) (length (d.bytes n))) = is in
    let no : node.Folder m ≡ node.File (d.meta n) (length (d.bytes n)) = cc in
    cc

pub folder_damaged : (d : Disk) (content : ℕ) (sum : List ℕ) (m : Meta) → d.at (path_of (name_of kind.File sum)) ≡ Folder m → IsDamaged d content (name_of kind.File sum)
folder_damaged d content sum m at = by (same_name (sha256 []) sum) refl
  where
    none : object_at d (name_of kind.File sum) ≡ Some []
    none = ap (λ x. object_in kind.File (seen d x)) at

    by : (b : Bool) → same_name (sha256 []) sum ≡ b → IsDamaged d content (name_of kind.File sum)
    by true is = (
      check.Unreadable read.NotNormal,
      inl (record {
        bytes = [];
        stored = record { there = none; named = (same_name-Decides (sha256 []) sum).0 is };
        reads = (λ fits. absurd (omega (arith, fits)), λ h bytes is_form. (let header = bind_some (header_form h) (λ x. framed x bytes) [] is_form in not_framed header.0 bytes header.2));
        cause = λ no. cc;
      }),
    )
    by false is = (
      check.WrongSum (sha256 []),
      record {
        bytes = [];
        there = none;
        sum = refl;
        other = λ same. (let no : true ≡ false = sym ((same_name-Decides (sha256 []) sum).1 same) ∙ is in cc);
      },
    )
