use Rattle.std.proofs.Common.{Contains, subst}
use Rattle.std.specs.Prelude.{IsTrue}
use Rattle.std.proofs.lemmas.Cmp.{nat_list_cmp_total}
use Rattle.std.proofs.lemmas.Map.Lookups.{exact_bytes}
use Rattle.std.proofs.lemmas.Map.Views.{btree_set_contains_iff}
use Rattle.tree_read.proofs.remembered.Remembered.has_file.Goals as goal

pub returns : goal.returns
returns c = λ yes.
    subst (λ m. Contains m.files c.args.file.now) c.self.view_is
    ((btree_set_contains_iff nat_list_cmp_total exact_bytes c.self.inside.files c.args.file.now).0 (subst IsTrue c.contains.ensures yes))
