use Rattle.std.proofs.Common.{◌≡◌, true, false, ◌<◌, ◌≤◌, length, sym, ◌∙◌, ap, subst}
use Rattle.std.proofs.lemmas.Bool.{lt-ltb}
use Rattle.tree_build.proofs.Looks.{starts_is, on_the_way, in_the_item, goes_below, goes_folder, root_goes_nowhere}
use Rattle.tree_build.proofs.paths.goes_on.Goals as goal

pub returns-then-folder-way : goal.returns-then-folder-way
returns-then-folder-way c =
    let is = sym c.names.ensures.value ∙ c.in-Some.ensures.cases.0 in
    let below = sym (starts_is c.in-Some.folder.now c.args.earlier.now.path c.names-way.result.now c.starts_with.result c.names-way.ensures.value c.starts_with.ensures.value) ∙ c.if-starts_with.true in
    (λ _. on_the_way c.args.earlier.now c.args.path.now c.in-Some.folder.now c.in-Some.field-0-0.now is below (subst (λ w. length c.in-Some.folder.now < length w) c.names-way.ensures.value c.if-folder-way.true), λ _. lt-ltb _ _ c.if-folder-way.true)

pub returns-else-folder-way : goal.returns-else-folder-way
returns-else-folder-way c =
    let is = sym c.names.ensures.value ∙ c.in-Some.ensures.cases.0 in
    let below = sym (starts_is c.in-Some.folder.now c.args.earlier.now.path c.names-way.result.now c.starts_with.result c.names-way.ensures.value c.starts_with.ensures.value) ∙ c.if-starts_with.true in
    let long = subst (λ w. length w ≤ length c.in-Some.folder.now) c.names-way.ensures.value c.if-folder-way.false in (
      λ t. in_the_item c.args.earlier.now c.args.path.now c.in-Some.folder.now c.in-Some.field-0-0.now is below (c.is_folder.ensures.0 t),
      λ g. c.is_folder.ensures.1 (goes_folder c.args.earlier.now c.args.path.now c.in-Some.folder.now c.in-Some.field-0-0.now is below long g),
    )

pub returns-else-starts_with : goal.returns-else-starts_with
returns-else-starts_with c =
    let is = sym c.names.ensures.value ∙ c.in-Some.ensures.cases.0 in
    let starts = starts_is c.in-Some.folder.now c.args.earlier.now.path c.names-way.result.now c.starts_with.result c.names-way.ensures.value c.starts_with.ensures.value in (
      λ t. let n : true ≡ false = sym t ∙ c.if-starts_with.false in cc,
      λ g. starts ∙ goes_below c.args.earlier.now c.args.path.now c.in-Some.folder.now c.in-Some.field-0-0.now is g,
    )

pub returns-in_default : goal.returns-in_default
returns-in_default c =
    let none = ap length (sym c.names.ensures.value) ∙ c.in_default.ensures.cases in
    (λ t. let n : false ≡ true = t in cc, λ g. absurd (root_goes_nowhere c.args.earlier.now c.args.path.now none g))
