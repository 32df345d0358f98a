-- One item more.
use Rattle.std.proofs.Common.{◌≡◌, List, [], ◌∷◌, ◌++◌, length, map, subst, sym}
use Rattle.std.specs.Prelude.{All}
use Rattle.std.proofs.lemmas.List.{map-append}
use Rattle.std.proofs.lemmas.List.Elements.{All-nil, All-cons, All-append}
use Rattle.ost_types.specs.Text.{IsName}
use Rattle.ost_forms.specs.declared.entry.FileItem.{FileItem}
use Rattle.ost_forms.specs.declared.entry.FolderItem.{FolderItem}
use Rattle.ost_forms.specs.DirTree.{AreFiles, AreFolders, IsAscending, file_names, folder_names}

all_more : {A : Type 0} (P : A → Type 0) (xs : List A) (x : A) → All P xs → P x → All P (xs ++ x ∷ [])
all_more P xs x h p = All-append P xs (x ∷ []) h (All-cons P x [] p (All-nil P))

pub files_more : (items : List FileItem) (i : FileItem) → AreFiles items → length i.file ≡ 32 → IsName i.name → IsAscending (file_names (items ++ i ∷ [])) → AreFiles (items ++ i ∷ [])
files_more items i h sum name ascending = record {
  sums = all_more (λ i. length i.file ≡ 32) items i h.sums sum;
  names = subst (All IsName) (sym (map-append (λ i. i.name) items (i ∷ []))) (all_more IsName (file_names items) i.name h.names name);
  ascending = ascending;
}

pub folders_more : (items : List FolderItem) (i : FolderItem) → AreFolders items → length i.tree ≡ 32 → length i.meta ≡ 32 → IsName i.name → IsAscending (folder_names (items ++ i ∷ [])) → AreFolders (items ++ i ∷ [])
folders_more items i h tree meta name ascending = record {
  trees = all_more (λ i. length i.tree ≡ 32) items i h.trees tree;
  metas = all_more (λ i. length i.meta ≡ 32) items i h.metas meta;
  names = subst (All IsName) (sym (map-append (λ i. i.name) items (i ∷ []))) (all_more IsName (folder_names items) i.name h.names name);
  ascending = ascending;
}
