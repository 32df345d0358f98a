-- No items at all are items, and each of their objects can be made.
use Rattle.std.proofs.Common.{◌≤◌, [], length, arith}
use Rattle.std.specs.List.Sorted.{IsStrictlySortedBy}
use Rattle.std.proofs.lemmas.List.Elements.{All-nil}
use Rattle.ost_types.specs.declared.limits.Limits.{Limits}
use Rattle.ost_types.specs.Path.{text_of}
use Rattle.ost_forms.specs.declared.tree_item.TreeItem.{TreeItem}
use Rattle.tree_build.specs.Items.{AreItems, FitsBody}
use Rattle.tree_build.specs.Makeable.{AreMakeable, AreSmall}

pub no_items : AreItems []
unfolding IsStrictlySortedBy
no_items = record {
  ascending = tt;
  few = All-nil (λ (i : TreeItem). length i.path ≤ 64);
  short = All-nil (λ (i : TreeItem). length (text_of i.path) ≤ 1024);
  modes = All-nil (λ (i : TreeItem). FitsBody i.meta.mode i.body);
}

pub none_to_make : (limits : Limits) → AreMakeable limits []
unfolding AreSmall
none_to_make limits = record { few = omega arith; small = tt }
