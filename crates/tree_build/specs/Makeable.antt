-- The bounds within which each object of a tree can be made.
use Rattle.std.specs.Prelude.{◌≡◌, ◌≤◌, ℕ, List, [], ◌∷◌, length, Option, Some, None}
use Rattle.ost_types.specs.declared.limits.Limits.{Limits}
use Rattle.ost_types.specs.declared.meta.Meta.{Meta}
use Rattle.ost_types.specs.Path.{Path}
use Rattle.ost_forms.specs.declared.body.Body.{Body}
use Rattle.ost_forms.specs.declared.tree_item.BodySpec.{BodySpec}
use Rattle.ost_forms.specs.declared.tree_item.TreeItem.{TreeItem}
use Rattle.ost_forms.specs.DirMeta.{object_limit, dirmeta_form}
use Rattle.ost_forms.specs.DirTree.{tree_form}
use Rattle.ost_forms.specs.Stream.{header_form, header_of, bytes_of}
use Rattle.tree_build.specs.Items.{body_of}
use Rattle.tree_build.specs.Objects.{Made, children, entries_of, made}

-- the form is there, and has at most 67,108,864 bytes
pub record IsSmall (form : Option (List ℕ)) : Type 0 where
  pub bytes : List ℕ
  pub is : form ≡ Some bytes
  pub short : length bytes ≤ object_limit

-- so has the header of the file, and its content has at most so many bytes
pub record IsSmallFile (content : ℕ) (meta : Meta) (body : Body) : Type 0 where
  pub header : IsSmall (header_form (header_of meta body))
  pub few : length (bytes_of body) ≤ content

abbrev pub IsSmallBy : ℕ → List Made → Path → Meta → Option BodySpec → Type 0
IsSmallBy content ms p meta None = IsSmall (tree_form (entries_of (children p ms))) × IsSmall (dirmeta_form meta)
IsSmallBy content ms p meta (Some body) = IsSmallFile content meta (body_of body)

-- each object is small
unfoldable pub AreSmall : ℕ → List TreeItem → Type 0
AreSmall content [] = Unit {0}
AreSmall content (i ∷ items) = IsSmallBy content (made items) i.path i.meta i.body × AreSmall content items

-- There are at most so many paths; no content, no header of a file, and no other object has too many bytes.
pub record AreMakeable (limits : Limits) (items : List TreeItem) : Type 0 where
  pub few : length items ≤ limits.paths
  pub small : AreSmall limits.content items
