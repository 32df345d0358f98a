-- A map that is found to be a tree.
use Rattle.std.proofs.Common.{◌≡◌, ◌⊎◌, inl, inr, Bool, true, List, [], ◌∷◌, Option, Some, None, nat_eq, refl, sym, ◌∙◌, ap, subst}
use Rattle.std.specs.Cmp.Lexicographic.{pointwise}
use Rattle.ost_types.specs.declared.meta.Meta.{Meta}
use Rattle.ost_types.specs.declared.node.NodeName.{NodeName}
use Rattle.ost_types.specs.declared.node.NodeName.TheVariants.{Folder}
use Rattle.ost_types.specs.Path.{Name, Path, same_path, under}
use Rattle.ost_types.specs.PathMap.{Nodes, node_at}
use Rattle.ost_types.proofs.Paths.{same_or_apart, same_path-Decides, under-folder}
use Rattle.etc_merge.specs.Merging.{IsTreeMap}
use Rattle.etc_merge.proofs.Finds.{node_first, node_rest, apart_by, same_by}

abbrev pub IsFolderIn : Nodes → Path → Type 0
IsFolderIn m p = (meta : Meta) × (node_at m p ≡ Some (Folder meta))

-- where a folder has an entry that is left, or is there
abbrev pub AreParented : Nodes → Nodes → Type 0
AreParented whole left = (f : Path) (x : Name) (n : NodeName) → node_at whole (under f x) ≡ Some n → (node_at left (under f x) ≡ Some n) ⊎ IsFolderIn whole f

pub parented_first : (whole : Nodes) → AreParented whole whole
parented_first whole f x n is = inl is

pub parented_more : (whole left : Nodes) (e : Path × NodeName) (rest : Nodes) → AreParented whole left → left ≡ e ∷ rest → ((f : Path) (x : Name) → e.0 ≡ under f x → IsFolderIn whole f) → AreParented whole rest
parented_more whole left e rest parented cut here f x n is = elim (parented f x n is) [
  | inl there ↦ elim (same_or_apart e.0 (under f x)) [
    | inl same ↦ inr (here f x same)
    | inr apart ↦ inl (sym (node_rest e rest (under f x) apart) ∙ sym (ap (λ m. node_at m (under f x)) cut) ∙ there)
  ]
  | inr folder ↦ inr folder
]

pub parented_all : (whole left : Nodes) → AreParented whole left → left ≡ [] → IsFolderIn whole [] → IsTreeMap whole
parented_all whole left parented none root = record {
  root = root;
  inner = λ f x n is. elim (parented f x n is) [
    | inl there ↦ let n : None ≡ Some n = sym (ap (λ m. node_at m (under f x)) none) ∙ there in cc
    | inr folder ↦ folder
  ];
}

pub passed_more : (whole left : Nodes) (e : Path × NodeName) (rest : Nodes) (p : Path) → node_at whole p ≡ node_at left p → left ≡ e ∷ rest → (e.0 ≡ p → ⊥) → node_at whole p ≡ node_at rest p
passed_more whole left e rest p is cut apart = is ∙ ap (λ m. node_at m p) cut ∙ node_rest e rest p apart

pub passed_here : (whole left : Nodes) (e : Path × NodeName) (rest : Nodes) (p : Path) → node_at whole p ≡ node_at left p → left ≡ e ∷ rest → e.0 ≡ p → node_at whole p ≡ Some e.1
passed_here whole left e rest p is cut same = is ∙ ap (λ m. node_at m p) cut ∙ node_first e rest p same
