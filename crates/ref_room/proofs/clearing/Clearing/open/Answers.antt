use Rattle.std.proofs.Common.{◌≡◌, ◌⊎◌, ◌++◌, ◌-◌, List, arith, sym, ◌∙◌, ap, subst, length, take}
use Rattle.std.specs.Prelude.{Contains}
use Rattle.std.specs.BTreeSet.{insert_key}
use Rattle.ost_types.specs.Path.{Name, Path, IsPath, path_cmp, under}
use Rattle.ref_room.specs.Clearing.{Cleared, top}
use Rattle.ref_room.proofs.Sets.{opened_new, opened_old}
use Rattle.ref_room.proofs.clearing.Clearing.open.Goals as goal

pub returns-then-len-before-clause-ok : goal.returns-then-len-before-clause-ok
returns-then-len-before-clause-ok c =
    let at : c.in_ok-folder.folder ≡ top c.args.self.now = c.in_ok-folder.ensures ∙ c.top.ensures in
    let folders = c.in_ok-insert.ensures.keys ∙ ap (λ k. insert_key path_cmp c.self.inside.folders.keys k) at ∙ ap (λ (t : Cleared). insert_key path_cmp t.folders (top c.args.self.now)) c.self.view_is in
    let pending = c.pop.ensures.rest ∙ ap (λ n. take (n - 1) c.reserve.new.self.items) (c.in_ok-reserve.ensures.len ∙ c.self.inside.pending.ok.0) ∙ ap (λ (xs : List Path). take (length c.self.inside.pending.items - 1) xs) c.in_ok-reserve.ensures.items ∙ ap (λ (t : Cleared). take (length t.pending - 1) t.pending) c.self.view_is in
    let e : length c.insert.new.self.keys ≡ length c.self.inside.folders.keys = sym c.len-2.ensures.len ∙ c.if-len-before.true ∙ c.len-before.ensures.len in
    let f : length c.self.inside.folders.keys ≡ length c.args.self.now.folders = ap (λ (t : Cleared). length t.folders) c.self.view_is in
    opened_old c.args.names.now c.args.self.now _ c.requires (ap (λ (t : Cleared). t.name) c.self.view_is) (ap (λ (t : Cleared). t.least) c.self.view_is) folders pending (omega (arith, e, f))

pub returns-clause-ok : goal.returns-clause-ok
returns-clause-ok c =
    let at : c.in_ok-folder.folder ≡ top c.args.self.now = c.in_ok-folder.ensures ∙ c.top.ensures in
    let folders = c.in_ok-insert.ensures.keys ∙ ap (λ k. insert_key path_cmp c.self.inside.folders.keys k) at ∙ ap (λ (t : Cleared). insert_key path_cmp t.folders (top c.args.self.now)) c.self.view_is in
    let pending = c.pop.ensures.rest ∙ ap (λ n. take (n - 1) c.reserve.new.self.items) (c.in_ok-reserve.ensures.len ∙ c.self.inside.pending.ok.0) ∙ ap (λ (xs : List Path). take (length c.self.inside.pending.items - 1) xs) c.in_ok-reserve.ensures.items ∙ ap (λ (t : Cleared). take (length t.pending - 1) t.pending) c.self.view_is in
    let inside = c.in_ok-inside.inside.items in
    opened_new c.args.names.now c.args.self.now _ c.requires (ap (λ (t : Cleared). t.name) c.self.view_is) (ap (λ (t : Cleared). t.least) c.self.view_is) folders inside
    (c.in_ok-append.ensures.items ∙ ap (λ xs. xs ++ inside) pending)
    (subst (λ f. (p : Path) → Contains inside p → (x : Name) × (p ≡ under f x)) at c.in_ok-inside.ensures.each)
    (subst (λ f. (x : Name) → Contains c.args.names.now x → Contains inside (under f x) ⊎ (IsPath (under f x) → ⊥)) at c.in_ok-inside.ensures.all)
