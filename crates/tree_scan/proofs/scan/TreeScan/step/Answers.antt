use Rattle.std.proofs.Common.{rules, ◌≡◌, false, true, sym, ◌∙◌, ap, subst, [], ◌∷◌, ◌++◌, None}
use Rattle.ost_types.specs.Path.{IsPath}
use Rattle.ost_types.specs.PathMap.{IsAscending, paths_of}
use Rattle.fs_trait.specs.declared.types.FsErr.{FsErr}
use Rattle.tree_scan.specs.Looking.{Tells}
use Rattle.tree_scan.specs.Scanning.{Scanning}
use Rattle.tree_scan.proofs.Coming.{came_told, ended_told, is_next, may_push, nothing_next}
use Rattle.tree_scan.proofs.Falls.{came_falls}
use Rattle.tree_scan.proofs.scan.TreeScan.step.Goals as goal

pub returns-in_default-clause-told : goal.returns-in_default-clause-told
returns-in_default-clause-told g c = λ v told so.
    let none : c.self.inside.next ≡ None = search rules in
    let ascending = subst (λ m. IsAscending (paths_of m)) (c.as_slice-pairs.ensures.value ∙ ap (λ (t : Scanning). t.found) c.self.view_is) c.as_slice-pairs.ensures.map.ascending in
    ended_told v.now (g.met.F.Fs.tree c.args.fs.now v told) c.args.self.now
    (sym (ap (λ (t : Scanning). t.todo) c.self.view_is) ∙ nothing_next c.self.inside.next c.self.inside.after.items none c.self.invariant.1) ascending so

pub returns-then-not-fits-clause-told : goal.returns-then-not-fits-clause-told
returns-then-not-fits-clause-told g c = λ v told so.
    let found = ap (λ (t : Scanning). t.found) c.self.view_is in
    let ascending = subst (λ m. IsAscending (paths_of m)) (c.as_slice-pairs.ensures.value ∙ found) c.as_slice-pairs.ensures.map.ascending in
    let next = is_next c.args.self.now c.self.inside.next c.self.inside.after.items c.in-Some.next c.in_ok-next.next (ap (λ (t : Scanning). t.todo) c.self.view_is) c.in-Some.is c.in_ok-next.ensures in
    let fits = subst (λ m. IsAscending (paths_of m ++ c.in_ok-next.next ∷ [])) (sym found) (may_push v.now c.args.self.now c.in_ok-next.next next ascending so) in
    let yes : c.fits.result ≡ true = c.fits.ensures.1 fits in
    let no_ : c.fits.result ≡ false = search rules in
    absurd (let n : false ≡ true = sym no_ ∙ yes in cc)

pub take-requires-clause-next : goal.take-requires-clause-next
take-requires-clause-next g c =
    is_next c.args.self.now c.self.inside.next c.self.inside.after.items c.in-Some.next c.in_ok-next.next (ap (λ (t : Scanning). t.todo) c.self.view_is) c.in-Some.is c.in_ok-next.ensures

pub returns-clause-told : goal.returns-clause-told
returns-clause-told g c = λ v told so.
    let next = is_next c.args.self.now c.self.inside.next c.self.inside.after.items c.in-Some.next c.in_ok-next.next (ap (λ (t : Scanning). t.todo) c.self.view_is) c.in-Some.is c.in_ok-next.ensures in
    let at = c.in_ok-at.ensures ∙ ap (λ (t : Scanning). t.at ++ c.in_ok-next.next) c.self.view_is in
    let tells = subst (λ (t : Scanning). Tells v.now c.in_ok-at.at t.limits.content c.in_ok-looked.looked) c.self.view_is (c.in_ok-looked.ensures.told v told) in
    came_told v.now (g.met.F.Fs.tree c.args.fs.now v told) c.args.self.now c.take.new.self c.in_ok-next.next next so c.in_ok-looked.looked c.in_ok-at.at at (subst IsPath c.at.view_is c.at.invariant) c.in_ok-looked.ensures.node tells c.in_ok-take.field-0 c.in_ok-take.ensures

pub returns-clause-falls : goal.returns-clause-falls
returns-clause-falls g c =
    let next = is_next c.args.self.now c.self.inside.next c.self.inside.after.items c.in-Some.next c.in_ok-next.next (ap (λ (t : Scanning). t.todo) c.self.view_is) c.in-Some.is c.in_ok-next.ensures in
    came_falls FsErr c.args.self.now c.take.new.self c.in_ok-next.next next c.in_ok-looked.looked c.in_ok-take.field-0 c.in_ok-take.ensures
