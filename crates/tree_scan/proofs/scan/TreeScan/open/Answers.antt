use Rattle.std.proofs.Common.{rules, ◌≡◌, true, sym, ◌∙◌, ap, subst, ◌++◌, map, reverse}
use Rattle.std.specs.Prelude.{All, option_to_list}
use Rattle.std.proofs.lemmas.List.{reverse-append}
use Rattle.ost_types.specs.Path.{IsPath, under}
use Rattle.tree_scan.specs.Scanning.{Scanning, AreWithin}
use Rattle.tree_scan.proofs.Bounds.{children_within, fit_inside, within_more}
use Rattle.tree_scan.proofs.Coming.{some_next}
use Rattle.tree_scan.proofs.scan.TreeScan.open.Goals as goal

pub children_of-requires : goal.children_of-requires
children_of-requires c =
    let fits : c.all_fit.result ≡ true = search rules in
    subst (All (λ x. IsPath (under c.args.next x))) (c.as_slice.ensures ∙ sym c.as_slice-2.ensures)
    (fit_inside c.args.self.now.at c.args.next c.args.at.now c.requires.at c.as_slice.result.now c.all_fit.result c.all_fit.ensures fits)

pub invariant_of-self-2 : goal.invariant_of-self-2
invariant_of-self-2 c =
    let fits : c.all_fit.result ≡ true = search rules in
    let old = c.self.inside.after.items in
    let at = ap (λ (t : Scanning). t.at) c.self.view_is in
    let below = c.in_ok-below.ensures ∙ ap (map (under c.args.next)) (c.as_slice-2.ensures ∙ sym c.as_slice.ensures) in
    let items = c.in-Ok.ensures.items ∙ ap (λ l. l ++ c.in_ok-below.below.items) c.in_ok-reserve.ensures.items in
    let waiting : reverse c.append.new.self.items ≡ map (under c.args.next) c.as_slice.result.now ++ reverse old = ap reverse items ∙ reverse-append old c.in_ok-below.below.items ∙ ap (λ l. l ++ reverse old) below in
    let within : AreWithin c.self.inside.at (map (under c.args.next) c.as_slice.result.now) = subst (λ a. AreWithin a (map (under c.args.next) c.as_slice.result.now)) (sym at) (children_within c.args.self.now.at c.args.next c.args.at.now c.requires.at c.as_slice.result.now c.all_fit.result c.all_fit.ensures fits) in (
      subst (λ l. AreWithin c.self.inside.at (option_to_list c.self.inside.next ++ l)) (sym waiting) (within_more c.self.inside.at (option_to_list c.self.inside.next) (map (under c.args.next) c.as_slice.result.now) (reverse old) c.self.invariant.0 within),
      λ none. absurd (some_next c.args.self.now c.args.next c.requires.next c.self.inside.next old (ap (λ (t : Scanning). t.todo) c.self.view_is) c.self.invariant.1 none),
    )
