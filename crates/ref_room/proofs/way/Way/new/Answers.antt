use Rattle.std.proofs.Common.{sym, ◌∙◌, ap, subst, refl}
use Rattle.repo_layout.specs.RefName.{IsRefName}
use Rattle.ref_room.specs.Way.{Walked, leg_of}
use Rattle.ref_room.proofs.Names.{some_parts, way_to-none}
use Rattle.ref_room.proofs.WayData.{heads_shorter, gone_path, gone_on, leg_by_length, leg_at-of}
use Rattle.ref_room.proofs.way.Way.new.Goals as goal

pub bounds-names-4 : goal.bounds-names-4
bounds-names-4 c = heads_shorter c.names.result.now c.args.name (c.names.ensures.value ∙ c.in_ok-at.ensures)

pub child-requires : goal.child-requires
child-requires c =
    gone_path c.names.result.now c.in_ok-folder.folder c.args.name 0 4 _ c.names.ensures.path (c.names.ensures.value ∙ c.in_ok-at.ensures) (c.in_ok-folder.ensures ∙ sym (way_to-none c.args.name)) refl (some_parts c.args.name) c.index-names-4.is

pub leg_at-leg-requires : goal.leg_at-leg-requires
leg_at-leg-requires c = heads_shorter c.in_ok-at.at c.args.name c.in_ok-at.ensures

pub invariant_of-result : goal.invariant_of-result
invariant_of-result c =
    let on = gone_on c.names.result.now c.in_ok-folder.folder c.args.name 0 4 _ (c.names.ensures.value ∙ c.in_ok-at.ensures) (c.in_ok-folder.ensures ∙ sym (way_to-none c.args.name)) refl (some_parts c.args.name) c.index-names-4.is in
    let leg = leg_by_length c.in_ok-at.at c.args.name 0 _ c.in_ok-at.ensures c.leg_at-leg.ensures in (
      c.in_ok-at.ensures,
      c.in_ok-folder.ensures ∙ sym (way_to-none c.args.name),
      c.in_ok-next.ensures ∙ on,
      c.folder_meta.ensures,
      some_parts c.args.name,
      subst (λ l. leg_of l 0 c.args.name) (sym leg) (leg_at-of 0 c.args.name (some_parts c.args.name)),
      subst IsRefName c.name.view_is c.name.invariant,
    )

pub returns : goal.returns
returns c =
    let leg = leg_by_length c.in_ok-at.at c.args.name 0 _ c.in_ok-at.ensures c.leg_at-leg.ensures in
    ap (λ l. let t : Walked = record { name = c.args.name; reached = 0; leg = l } in t) leg
