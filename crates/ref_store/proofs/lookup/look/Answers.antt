use Rattle.std.proofs.Common.{◌≢◌, Some, ◌∙◌, ap, subst, length}
use Rattle.fs_trait.specs.Effect.{IsNode}
use Rattle.ref_store.proofs.Lookups.{link_shows_none, is_link, is_file, shows_none-length}
use Rattle.ref_store.proofs.lookup.look.Goals as goal

pub returns-in-Some-Link-clause-told : goal.returns-in-Some-Link-clause-told
returns-in-Some-Link-clause-told g c = λ v told.
    let answer = c.in_ok-stat.ensures.answer v told in
    let node = subst (IsNode v.now (v.now.at c.args.at.now)) (c.in-Some-Link.is ∙ ap Some c.in-Some-Link.field-0-is) answer.1 in
    link_shows_none v.now c.args.at.now _ _ (is_link v.now _ _ _ node)

pub returns-clause-told : goal.returns-clause-told
returns-clause-told g c = λ v told.
    let answer = c.in_ok-stat.ensures.answer v told in
    let node = subst (IsNode v.now (v.now.at c.args.at.now)) (c.in-Some-File.is ∙ ap Some c.in-Some-File.field-0-is) answer.1 in
    let file = is_file v.now _ _ _ node in
    let other : length (v.now.bytes file.0) ≢ 65 = λ e. c.if-len-eq-REF_FILE_LEN.false (file.2 ∙ e) in
    shows_none-length v.now c.args.at.now file.0 file.1 other
