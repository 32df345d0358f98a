use Rattle.std.proofs.Common.{rules, ◌≡◌, ◌<◌, subst, length, slice_index_or}
use Rattle.rely_guarantee.specs.declared.books.Entry.{Entry}
use Rattle.ref_book.specs.Tracks.{HasEventRoom}
use Rattle.lane_system.proofs.step.note.Goals as goal

pub change-requires : goal.change-requires
change-requires c =
    let entry = c.in-Some.entry.now in
    let few : c.args.before < length c.args.history.now = search rules in
    let is : slice_index_or c.args.history.now c.args.before entry ≡ entry = search rules in
    subst (λ (e : Entry). HasEventRoom c.args.refs.now e.event) is (c.requires.room entry few)
