use Rattle.std.proofs.Common.{◌≢◌, ◌∙◌, ap, subst, Some, length}
use Rattle.fs_trait.specs.Effect.{IsNode}
use Rattle.ref_room.specs.declared.stands.Stands.{Stands}
use Rattle.ref_store.proofs.Lookups.{is_absent, is_link, is_file, link_shows_none, shows_none-length}
use Rattle.sys_open.proofs.Holding.{holds_nothing, none_below, wrong_leaf, damaged_walk}
use Rattle.sys_open.proofs.refs.visit.Goals as goal

pub returns-in-None-clause-told : goal.returns-in-None-clause-told
returns-in-None-clause-told g c = λ v told.
    holds_nothing v.now (g.met.F.Fs.tree c.args.fs.now v told) c.args.at.now (is_absent v.now _ (subst (IsNode v.now (v.now.at c.args.at.now)) c.in-None.is (c.in_ok-node_at.ensures.told v told)))

pub returns-in-None-clause-whole : goal.returns-in-None-clause-whole
returns-in-None-clause-whole g c = λ v told other.
    none_below v.now (g.met.F.Fs.tree c.args.fs.now v told) c.args.at.now c.args.found.now.refs (is_absent v.now _ (subst (IsNode v.now (v.now.at c.args.at.now)) c.in-None.is (c.in_ok-node_at.ensures.told v told)))

pub returns-in-Some-Link-clause-told : goal.returns-in-Some-Link-clause-told
returns-in-Some-Link-clause-told g c = λ v told.
    let node = subst (IsNode v.now (v.now.at c.args.at.now)) (c.in-Some-Link.is ∙ ap Some c.in-Some-Link.field-0-is) (c.in_ok-node_at.ensures.told v told) in
    damaged_walk Stands v.now c.args.at.now c.damaged.result c.damaged.ensures (wrong_leaf v.now c.args.at.now (link_shows_none v.now c.args.at.now _ _ (is_link v.now _ _ _ node)))

pub returns-then-len-eq-REF_FILE_LEN-clause-right : goal.returns-then-len-eq-REF_FILE_LEN-clause-right
returns-then-len-eq-REF_FILE_LEN-clause-right g c = λ v told. c.read_file.ensures.right v (c.node_at.ensures.quiet.view ∙ told)

pub returns-then-len-eq-REF_FILE_LEN-clause-whole : goal.returns-then-len-eq-REF_FILE_LEN-clause-whole
returns-then-len-eq-REF_FILE_LEN-clause-whole g c = λ v told. c.read_file.ensures.whole v (c.node_at.ensures.quiet.view ∙ told)

pub returns-clause-told : goal.returns-clause-told
returns-clause-told g c = λ v told.
    let node = subst (IsNode v.now (v.now.at c.args.at.now)) (c.in-Some-File.is ∙ ap Some c.in-Some-File.field-0-is) (c.in_ok-node_at.ensures.told v told) in
    let file = is_file v.now _ _ _ node in
    let other : length (v.now.bytes file.0) ≢ 65 = λ e. c.if-len-eq-REF_FILE_LEN.false (file.2 ∙ e) in
    damaged_walk Stands v.now c.args.at.now c.damaged-else-len-eq-REF_FILE_LEN.result c.damaged-else-len-eq-REF_FILE_LEN.ensures (wrong_leaf v.now c.args.at.now (shows_none-length v.now c.args.at.now file.0 file.1 other))
