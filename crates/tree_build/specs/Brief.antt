-- How much of a text a tree takes that is written out line by line, and the bound on that within which each object can be made.
use Rattle.std.specs.Prelude.{◌≤◌, ◌+◌, ℕ, List, [], length, All, Option, Some, None}
use Rattle.std.specs.List.{sum_by}
use Rattle.ost_types.specs.Path.{joined}
use Rattle.ost_types.specs.Text.{IsText}
use Rattle.ost_types.specs.declared.limits.Limits.{Limits}
use Rattle.ost_types.specs.declared.meta.Xattr.{Xattr}
use Rattle.ost_forms.specs.declared.body.Body.{Body}
use Rattle.ost_forms.specs.declared.body.Body.TheVariants.{Regular, Symlink}
use Rattle.ost_forms.specs.declared.tree_item.BodySpec.{BodySpec}
use Rattle.ost_forms.specs.declared.tree_item.TreeItem.{TreeItem}
use Rattle.ost_forms.specs.Stream.{bytes_of}
use Rattle.tree_build.specs.Items.{body_of}

-- as many bytes as a script may have
abbrev pub text_limit : ℕ
text_limit = 4194304

-- the bytes of an attribute, and a mark between its name and its value
abbrev pub xattr_size : Xattr → ℕ
xattr_size x = length x.name + length x.value + 1

abbrev pub xattrs_size : List Xattr → ℕ
xattrs_size = sum_by xattr_size

abbrev pub target_of : Body → List ℕ
target_of (Regular bytes) = []
target_of (Symlink target) = target

abbrev pub target_size : Option BodySpec → ℕ
target_size None = 0
target_size (Some body) = length (target_of (body_of body))

-- The bytes of its path, its attributes and its target, and eight for all else that its line says. What a file holds doesn't count.
abbrev pub item_size : TreeItem → ℕ
item_size i = 8 + length (joined i.path) + xattrs_size i.meta.xattrs + target_size i.body

abbrev pub tree_size : List TreeItem → ℕ
tree_size = sum_by item_size

-- a file's content has at most so many bytes
abbrev pub HoldsFew : ℕ → Option BodySpec → Type 0
HoldsFew content None = Unit {0}
HoldsFew content (Some body) = length (bytes_of (body_of body)) ≤ content

-- what the type of a link's target keeps
abbrev pub HasText : Option BodySpec → Type 0
HasText None = Unit {0}
HasText (Some body) = IsText (target_of (body_of body))

-- There are at most so many paths, no content is too long, and written out the tree fits into a script.
pub record AreBrief (limits : Limits) (items : List TreeItem) : Type 0 where
  pub few : length items ≤ limits.paths
  pub contents : All (λ i. HoldsFew limits.content i.body) items
  pub size : tree_size items ≤ text_limit
