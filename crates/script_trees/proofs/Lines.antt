-- What the line of a node gives of its item.
use Rattle.std.proofs.Common.{◌≡◌, inl, inr, ◌<◌, ◌≤◌, ◌+◌, ◌^◌, ℕ, List, ◌∷◌, length, Some, refl, sym, ◌∙◌, ap, subst, arith, codes}
use Rattle.std.proofs.lemmas.List.{length-replicate}
use Rattle.ost_types.specs.Mode.{IsFileMode}
use Rattle.ost_types.specs.Path.{AreNames}
use Rattle.ost_forms.specs.declared.tree_item.BodySpec.{BodySpec}
use Rattle.ost_forms.specs.declared.tree_item.BodySpec.TheVariants.{Given, Fill, Target}
use Rattle.ost_forms.specs.declared.tree_item.TreeItem.{TreeItem}
use Rattle.ost_forms.specs.Stream.{FitsMode}
use Rattle.ost_forms.proofs.Texts.{empty_text}
use Rattle.script_reader.specs.Nodes.{fields_of, IsFileAt, IsFolderAt, IsLinkAt, IsNode}
use Rattle.script_reader.specs.Values.{IsContent, IsMode}
use Rattle.script_reader.proofs.Values.{small_mode}
use Rattle.tree_build.specs.Brief.{HasText, HoldsFew, item_size, target_size}
use Rattle.tree_build.specs.Items.{FitsBody, IsItem, IsWide, body_of}
use Rattle.script_trees.proofs.Lengths.{spread, spread_pieces, spells_long, field_long, path_long, xattrs_long}

-- what each item of a script's tree has
pub record IsWritten (item : TreeItem) : Type 0 where
  pub orderly : IsItem item
  pub names : AreNames item.path
  pub numbers : IsWide item.meta
  pub text : HasText item.body
  pub content : HoldsFew 268435456 item.body

small : (field : List ℕ) (bits : ℕ) → IsMode field bits → bits < 4096
small field bits is = small_mode field (Some bits) is

wide_mode : (mode base bits : ℕ) → bits < 4096 → mode ≡ base + bits → base < 65536 → mode < 2 ^ 32
wide_mode mode base bits few is low = omega (arith, few, is, low)

-- ---- a file's content

content_target : (c : List ℕ) (b : BodySpec) → IsContent c b → target_size (Some b) ≡ 0
content_target c (Given bytes) is = refl
content_target c (Fill len byte) is = refl
content_target c (Target t) is = absurd is

content_mode : (mode : ℕ) (c : List ℕ) (b : BodySpec) → IsContent c b → IsFileMode mode → FitsMode mode (body_of b)
content_mode mode c (Given bytes) is file = file
content_mode mode c (Fill len byte) is file = file
content_mode mode c (Target t) is file = absurd is

content_text : (c : List ℕ) (b : BodySpec) → IsContent c b → HasText (Some b)
content_text c (Given bytes) is = empty_text
content_text c (Fill len byte) is = empty_text
content_text c (Target t) is = absurd is

content_few : (c : List ℕ) (b : BodySpec) → IsContent c b → length c ≤ 4194304 → HoldsFew 268435456 (Some b)
content_few c (Given bytes) is few = omega (arith, few, ap length is.1, spells_long is.0 bytes is.2)
content_few c (Fill len byte) is few = omega (arith, length-replicate len byte, is.written.few)
content_few c (Target t) is few = absurd is

-- ---- the three kinds

cut : (line word : List ℕ) (fields more : List (List ℕ)) → fields_of line ≡ word ∷ fields → fields ≡ more → length line + 1 ≡ spread (word ∷ more)
cut line word fields more e is = sym (spread_pieces 32 line) ∙ ap spread (e ∙ ap (λ f. word ∷ f) is)

folder_size : (line p u g m x : List ℕ) (item : TreeItem) → length line + 1 ≡ 7 + (length p + 1 + (length u + 1 + (length g + 1 + (length m + 1 + (length x + 1 + 0))))) → IsFolderAt p u g m x item → item_size item ≤ length line + 1
folder_size line p u g m x item whole at = omega (arith, whole, path_long p item.path at.path, xattrs_long x item.meta.xattrs at.meta.xattrs, ap target_size at.body)

file_size : (line p u g m x c : List ℕ) (item : TreeItem) → length line + 1 ≡ 5 + (length p + 1 + (length u + 1 + (length g + 1 + (length m + 1 + (length x + 1 + (length c + 1 + 0)))))) → IsFileAt p u g m x c item
    → (item_size item ≤ length line + 1) × (length c ≤ length line)
file_size line p u g m x c item whole at = (
  omega (arith, whole, path_long p item.path at.path, xattrs_long x item.meta.xattrs at.meta.xattrs, ap target_size at.body, content_target c at.content at.written),
  omega (arith, whole),
)

link_size : (line p u g x t : List ℕ) (item : TreeItem) → length line + 1 ≡ 5 + (length p + 1 + (length u + 1 + (length g + 1 + (length x + 1 + (length t + 1 + 0))))) → IsLinkAt p u g x t item → item_size item ≤ length line + 1
link_size line p u g x t item whole at =
    omega (arith, whole, path_long p item.path at.path, xattrs_long x item.meta.xattrs at.meta.xattrs, ap target_size at.body, field_long t at.target at.written.text.spelled)

pub node_size : (line : List ℕ) (item : TreeItem) → IsNode line item → item_size item ≤ length line + 1
node_size line item (fields, inl is) = folder_size line is.1.0 is.1.1 is.1.2 is.1.3 is.1.4 item (cut line (codes "folder") fields _ is.0 is.1.5) is.1.6
node_size line item (fields, inr (inl is)) = (file_size line is.1.0 is.1.1 is.1.2 is.1.3 is.1.4 is.1.5 item (cut line (codes "file") fields _ is.0 is.1.6) is.1.7).0
node_size line item (fields, inr (inr is)) = link_size line is.1.0 is.1.1 is.1.2 is.1.3 is.1.4 item (cut line (codes "link") fields _ is.0 is.1.5) is.1.6

pub node_written : (line : List ℕ) (item : TreeItem) → IsNode line item → length line ≤ 4194304 → IsWritten item
node_written line item (fields, inl is) few =
    let at = is.1.6 in record {
      orderly = record {
        few = at.path.written.3;
        short = subst (λ t. length t ≤ 1024) (sym at.path.written.1) at.path.written.2;
        mode = subst (FitsBody item.meta.mode) (sym at.body) (at.meta.bits, small is.1.3 at.meta.bits at.meta.permissions, at.meta.mode);
      };
      names = at.path.written.0;
      numbers = record { uid = at.meta.owner.below; gid = at.meta.group.below; mode = wide_mode item.meta.mode 16384 at.meta.bits (small is.1.3 at.meta.bits at.meta.permissions) at.meta.mode (omega arith) };
      text = subst HasText (sym at.body) tt;
      content = subst (HoldsFew 268435456) (sym at.body) tt;
    }
node_written line item (fields, inr (inl is)) few =
    let at = is.1.7 in
    let size = file_size line is.1.0 is.1.1 is.1.2 is.1.3 is.1.4 is.1.5 item (cut line (codes "file") fields _ is.0 is.1.6) at in record {
      orderly = record {
        few = at.path.written.3;
        short = subst (λ t. length t ≤ 1024) (sym at.path.written.1) at.path.written.2;
        mode = subst (FitsBody item.meta.mode) (sym at.body) (content_mode item.meta.mode is.1.5 at.content at.written (at.meta.bits, small is.1.3 at.meta.bits at.meta.permissions, at.meta.mode));
      };
      names = at.path.written.0;
      numbers = record { uid = at.meta.owner.below; gid = at.meta.group.below; mode = wide_mode item.meta.mode 32768 at.meta.bits (small is.1.3 at.meta.bits at.meta.permissions) at.meta.mode (omega arith) };
      text = subst HasText (sym at.body) (content_text is.1.5 at.content at.written);
      content = subst (HoldsFew 268435456) (sym at.body) (content_few is.1.5 at.content at.written (omega (arith, size.1, few)));
    }
node_written line item (fields, inr (inr is)) few =
    let at = is.1.6 in record {
      orderly = record {
        few = at.path.written.3;
        short = subst (λ t. length t ≤ 1024) (sym at.path.written.1) at.path.written.2;
        mode = subst (FitsBody item.meta.mode) (sym at.body) ((511, omega arith, at.meta.mode), at.written.some);
      };
      names = at.path.written.0;
      numbers = record { uid = at.meta.owner.below; gid = at.meta.group.below; mode = wide_mode item.meta.mode 40960 511 (omega arith) at.meta.mode (omega arith) };
      text = subst HasText (sym at.body) at.written.text.text;
      content = subst (HoldsFew 268435456) (sym at.body) (omega arith);
    }
