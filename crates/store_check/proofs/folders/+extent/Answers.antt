use Rattle.std.proofs.Common.{rules, arith, ◌∙◌, sym}
use Rattle.std.proofs.lemmas.Option.{IfSome_then}
use Rattle.fs_trait.proofs.Quiet.{IsQuiet-trans}
use Rattle.store_check.proofs.Folding.{folder_known_by, folders_more, in_some, known_more}
use Rattle.store_check.proofs.folders.+extent.Goals as goal

pub extent_of-returns-in-Some-clause-told : goal.extent_of-returns-in-Some-clause-told
extent_of-returns-in-Some-clause-told g t c = λ v told. (c.requires.known v told).each c.args.tree.now c.in-Some.extent.now (sym c.in-Some.ensures.value)

pub extent_of-returns-in-Ok-clause-told : goal.extent_of-returns-in-Ok-clause-told
extent_of-returns-in-Ok-clause-told g t c = λ v told.
    let now = c.entries_of.ensures.quiet.view ∙ told in
    folder_known_by v.now c.args.limits.now c.args.objects.now.names.items (c.requires.found v told).sound c.args.tree.now _ _ _ c.in-Some-files_extent.files c.in-Some-3.extent c.as_slice.ensures.value c.as_slice-folders.ensures.value
    (in_some _ _ _ c.in-Some-2.is (c.in_ok-entries.ensures.told v told)) c.in-Some-files_extent.ensures (in_some _ _ _ c.in-Some-3.is (c.in_ok-extent.ensures.told v now))

pub extent_of-returns-in-Ok-clause-known : goal.extent_of-returns-in-Ok-clause-known
extent_of-returns-in-Ok-clause-known g t c = λ v told.
    let now = c.entries_of.ensures.quiet.view ∙ told in
    known_more v.now c.args.limits.now.content c.folders_extent.new.known c.insert.new.self c.args.tree.now c.in-Some-3.extent c.in-Ok.ensures.updates (c.in_ok-extent.ensures.known v now)
    (folder_known_by v.now c.args.limits.now c.args.objects.now.names.items (c.requires.found v told).sound c.args.tree.now _ _ _ c.in-Some-files_extent.files c.in-Some-3.extent c.as_slice.ensures.value c.as_slice-folders.ensures.value
    (in_some _ _ _ c.in-Some-2.is (c.in_ok-entries.ensures.told v told)) c.in-Some-files_extent.ensures (in_some _ _ _ c.in-Some-3.is (c.in_ok-extent.ensures.told v now)))

pub folders_extent-loop-item-preserved : goal.folders_extent-loop-item-preserved
folders_extent-loop-item-preserved g t c =
    let i = c.loop-item.invariant in
    record {
      so_far = λ v told.
          folders_more v.now c.args.limits.now.content c.args.objects.now.names.items c.args.folders.now c.args.files c.loop-item.item-index c.item-item.result c.loop-item-test.true c.item-item.is c.loop-item.extent c.in-Some.more
          (in_some _ _ _ c.in-Some.is (c.in_ok-more.ensures.told v (i.quiet.view ∙ told))) (i.so_far v told);
      known = λ v told. c.in_ok-more.ensures.known v (i.quiet.view ∙ told);
      quiet = IsQuiet-trans _ _ _ _ _ _ _ _ _ i.quiet c.with_folder.ensures.quiet;
      room = omega (arith, i.room, c.with_folder.ensures.keeps_room);
      faults = omega (arith, i.faults, c.with_folder.ensures.cause.later);
    }

pub with_folder-returns-in-Some-clause-told : goal.with_folder-returns-in-Some-clause-told
with_folder-returns-in-Some-clause-told g t c = λ v told.
    IfSome_then c.with.result c.with.ensures.with (λ w made. record { listed = c.is_listed.ensures (search rules); below = c.in-Some.below; known = in_some _ _ _ c.in-Some.is (c.in_ok-below.ensures.told v told); made = made })
