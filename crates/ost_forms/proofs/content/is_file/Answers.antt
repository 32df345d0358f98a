use Rattle.std.proofs.Common.{◌≡◌, ◌≢◌, [], rules, sym, ◌∙◌}
use Rattle.ost_types.specs.Mode.{IsFileMode, IsLinkMode}
use Rattle.ost_forms.specs.Stream.{IsFile}
use Rattle.ost_forms.proofs.FileTests.{regular_file, link_file, no_regular, no_link, tells, empty_from, filled_from, empty_tells}
use Rattle.ost_forms.proofs.content.is_file.Goals as goal

pub returns-then-is_empty : goal.returns-then-is_empty
returns-then-is_empty c =
    let rdev : c.args.header.now.rdev ≡ 0 = search rules in
    let empty : c.args.header.now.target ≡ [] = sym c.as_slice-target.ensures.value ∙ empty_from _ _ c.is_empty.ensures c.if-is_empty.true in
    tells (IsFile c.args.header.now c.args.content.now) (IsFileMode c.args.header.now.meta.mode) _ c.is_file_mode.ensures (λ m. regular_file _ _ rdev empty m) (λ n. no_regular _ _ empty n)

pub returns-then-is_link_mode : goal.returns-then-is_link_mode
returns-then-is_link_mode c =
    let rdev : c.args.header.now.rdev ≡ 0 = search rules in
    let aims : c.args.header.now.target ≢ [] = λ e. filled_from _ _ c.is_empty.ensures c.if-is_empty.false (c.as_slice-target.ensures.value ∙ e) in
    let mode : IsLinkMode c.args.header.now.meta.mode = search rules in
    tells (IsFile c.args.header.now c.args.content.now) (c.args.content.now ≡ []) _ (empty_tells _ _ c.is_empty-then-is_link_mode.ensures) (λ e. link_file _ _ rdev aims mode e) (λ n. no_link _ _ aims (λ _ e. n e))
