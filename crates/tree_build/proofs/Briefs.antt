-- Within the bound on a tree that is written out each object can be made.
use Rattle.std.proofs.Common.{◌≡◌, ℕ, ◌+◌, ◌≤◌, true, false, List, [], ◌∷◌, length, Option, Some, None, refl, ap, arith}
use Rattle.std.specs.Prelude.{All, option_and_then}
use Rattle.std.specs.Int.{w64, to_be_bytes}
use Rattle.std.specs.List.{AllByRecursion}
use Rattle.std.proofs.lemmas.List.Elements.{recursion_from_All}
use Rattle.std.proofs.lemmas.List.Sums.{sum_by-cons}
use Rattle.sha2.proofs.Facts256.{length-sha256}
use Rattle.gv_core.specs.Measure.{alignment, fixed}
use Rattle.gv_core.specs.Layout.{Part, tuple_of, text_bytes, layout, offset_size}
use Rattle.gv_core.specs.Container.{each_part, container}
use Rattle.gv_core.specs.Tree as t
use Rattle.gv_core.specs.Tree.{no_trees}
use Rattle.ost_types.specs.Text.{IsText}
use Rattle.ost_types.specs.Path.{AreNames}
use Rattle.ost_types.specs.declared.limits.Limits.{Limits}
use Rattle.ost_types.specs.declared.meta.Meta.{Meta}
use Rattle.ost_forms.specs.declared.body.Body.{Body}
use Rattle.ost_forms.specs.declared.body.Body.TheVariants.{Regular, Symlink}
use Rattle.ost_forms.specs.declared.tree_item.BodySpec.{BodySpec}
use Rattle.ost_forms.specs.declared.tree_item.TreeItem.{TreeItem}
use Rattle.ost_forms.specs.Commit.{commit_form, metadata_form, related_form, parent_bytes}
use Rattle.ost_forms.specs.DirMeta.{object_limit}
use Rattle.ost_forms.specs.Stream.{bytes_of}
use Rattle.ost_forms.proofs.Texts.{empty_text}
use Rattle.tree_build.specs.Items.{AreTyped, body_of}
use Rattle.tree_build.specs.Objects.{made, root_of, meta_bytes, tree_bytes}
use Rattle.tree_build.specs.Makeable.{IsSmall, IsSmallFile, IsSmallBy, AreSmall, AreMakeable}
use Rattle.tree_build.specs.Brief.{AreBrief, HasText, HoldsFew, item_size, target_of, target_size, text_limit, tree_size, xattrs_size}
use Rattle.tree_build.specs.Commits.{commit_parts}
use Rattle.tree_build.proofs.ObjectKinds.{commit, commit_members, metadata_type, files_type, commit_type}
use Rattle.tree_build.proofs.Containers.{IsWithin, within_bind, within_more, tuple_within, plain}
use Rattle.tree_build.proofs.RowLengths.{dirmeta_within, header_within, text_within, tuple_at}
use Rattle.tree_build.proofs.EntryLengths.{tree_within}

small : (form : Option (List ℕ)) (n : ℕ) → IsWithin form n → n ≤ object_limit → IsSmall form
small form n h le = record { bytes = h.bytes; is = h.is; short = let s = h.short in omega (arith, s, le) }

-- ---- a file's header

small_file : (content : ℕ) (m : Meta) (body : Body) → IsText (target_of body) → length (target_of body) + xattrs_size m.xattrs + 8 ≤ text_limit → length (bytes_of body) ≤ content → IsSmallFile content m body
small_file content m (Regular bytes) text le few = record { header = small _ _ (header_within m [] empty_text (omega (arith, le))) (omega (arith, le)); few = few }
small_file content m (Symlink target) text le few = record { header = small _ _ (header_within m target text (omega (arith, le))) (omega (arith, le)); few = few }

-- ---- all objects

abbrev Fits : ℕ → TreeItem → Type 0
Fits content i = AreNames i.path × HasText i.body × HoldsFew content i.body

names_of : (content : ℕ) (items : List TreeItem) → AllByRecursion (Fits content) items → AllByRecursion (λ i. AreNames i.path) items
names_of content [] h = tt
names_of content (i ∷ items) h = (h.0.0, names_of content items h.1)

small_by : (content : ℕ) (items : List TreeItem) (i : TreeItem) (b : Option BodySpec) → AllByRecursion (λ i. AreNames i.path) items → HasText b → HoldsFew content b → xattrs_size i.meta.xattrs + target_size b + 8 + tree_size items ≤ text_limit
    → IsSmallBy content (made items) i.path i.meta b
small_by content items i None names text few le = (
  small _ _ (tree_within i.path items names (omega (arith, le))) (omega (arith, le)),
  small _ _ (dirmeta_within i.meta (omega (arith, le))) (omega (arith, le)),
)
small_by content items i (Some body) names text few le = small_file content i.meta (body_of body) text (omega (arith, le)) few

all_small : (content : ℕ) (items : List TreeItem) → AllByRecursion (Fits content) items → tree_size items ≤ text_limit → AreSmall content items
unfolding AreSmall
all_small content [] h le = tt
all_small content (i ∷ items) h le =
    let c = sum_by-cons item_size i items in (
      small_by content items i i.body (names_of content items h.1) h.0.1 h.0.2 (omega (arith, c, le)),
      all_small content items h.1 (omega (arith, c, le)),
    )

pub makeable : (limits : Limits) (items : List TreeItem) → AreTyped items → All (λ i. HasText i.body) items → AreBrief limits items → AreMakeable limits items
makeable limits items typed texts brief = record {
  few = brief.few;
  small = all_small limits.content items (recursion_from_All (Fits limits.content) items (λ k d lt. (typed.names k d lt, texts k d lt, brief.contents k d lt))) brief.size;
}

-- ---- the commit

none_metadata : metadata_form (t.array no_trees) ≡ Some []
unfolding layout fixed offset_size
none_metadata = rw metadata_type refl

none_related : related_form (t.array no_trees) ≡ Some []
unfolding layout fixed offset_size
none_related = rw files_type refl

abbrev wide : List ℕ → Part
wide r = record { align = 8; fixed = true; bytes = r }

abbrev loose : List ℕ → Part
loose r = record { align = 8; fixed = false; bytes = r }

commit_each : (p s b time tree meta : List ℕ) → length time ≡ 8
    → each_part commit_members ([] ∷ p ∷ [] ∷ s ∷ b ∷ time ∷ tree ∷ meta ∷ []) ≡ Some (loose [] ∷ plain p ∷ plain [] ∷ plain s ∷ plain b ∷ wide time ∷ plain tree ∷ plain meta ∷ [])
unfolding fixed alignment
commit_each p s b time tree meta e = rw e refl

commit_parts_are : (p s b time tree meta : List ℕ) → length time ≡ 8
    → container commit ([] ∷ p ∷ [] ∷ s ∷ b ∷ time ∷ tree ∷ meta ∷ []) ≡ tuple_of (loose [] ∷ plain p ∷ plain [] ∷ plain s ∷ plain b ∷ wide time ∷ plain tree ∷ plain meta ∷ [])
unfolding container
commit_parts_are p s b time tree meta e = ap (option_and_then tuple_of) (commit_each p s b time tree meta e)

pub small_commit : (tree meta : List ℕ) (parent : Option (List ℕ)) (subject body : List ℕ) (time : ℕ)
    → length tree ≤ 32 → length meta ≤ 32 → length (parent_bytes parent) ≤ 32 → IsText subject → IsText body → length subject + length body ≤ text_limit
    → IsSmall (commit_form (commit_parts tree meta parent subject body time))
small_commit tree meta parent subject body time tree_le meta_le parent_le s_text b_text le =
    let p = parent_bytes parent in
    let n = to_be_bytes w64 time in
    let made : IsWithin (commit_form (commit_parts tree meta parent subject body time)) (length subject + length body + 200) = rw (none_metadata, none_related)
    (within_bind (text_bytes subject) _ _ _ (text_within subject s_text) (λ s s_short. within_bind (text_bytes body) _ _ _ (text_within body b_text) (λ b b_short.
    let ps = loose [] ∷ plain p ∷ plain [] ∷ plain s ∷ plain b ∷ wide n ∷ plain tree ∷ plain meta ∷ [] in
    let w = tuple_within ps refl (omega arith, (omega arith, (omega arith, (omega arith, (omega arith, (omega arith, (omega arith, (omega arith, tt))))))))
    (omega (arith, s_short, b_short, tree_le, meta_le, parent_le, le)) in
    tuple_at _ commit ([] ∷ p ∷ [] ∷ s ∷ b ∷ n ∷ tree ∷ meta ∷ []) ps _ commit_type (commit_parts_are p s b n tree meta refl) (within_more _ _ _ w (omega (arith, s_short, b_short, tree_le, meta_le, parent_le)))))) in
    small _ _ made (omega (arith, le))

-- the names of the root's objects
root_short : (items : List TreeItem) → (length (root_of items).0 ≤ 32) × (length (root_of items).1 ≤ 32)
root_short [] = (omega arith, omega arith)
root_short (i ∷ items) = let a = length-sha256 (tree_bytes (made items) i.path) in let b = length-sha256 (meta_bytes i.meta) in (omega (arith, a), omega (arith, b))

pub small_root : (items : List TreeItem) (parent : Option (List ℕ)) (subject body : List ℕ) (time : ℕ) → length (parent_bytes parent) ≤ 32 → IsText subject → IsText body → length subject + length body ≤ text_limit
    → IsSmall (commit_form (commit_parts (root_of items).0 (root_of items).1 parent subject body time))
small_root items parent subject body time parent_le s_text b_text le =
    let r = root_short items in
    small_commit (root_of items).0 (root_of items).1 parent subject body time r.0 r.1 parent_le s_text b_text le
