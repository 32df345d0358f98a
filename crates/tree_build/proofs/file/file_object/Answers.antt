use Rattle.ost_forms.proofs.OwnStreams.{never_bad, header_wide}
use Rattle.tree_build.specs.Items.{body_of}
use Rattle.tree_build.proofs.file.file_object.Goals as goal

pub unreachable-requires-in-Err-BadMode : goal.unreachable-requires-in-Err-BadMode
unreachable-requires-in-Err-BadMode c =
    let reads = rw (c.in-Err-BadMode.field-0-is, c.as_slice.ensures) at c.in-Err-BadMode.ensures in
    let body = body_of c.args.body.now in
    let wide = header_wide c.args.meta.now body c.numbers_of.ensures.uid c.numbers_of.ensures.gid c.numbers_of.ensures.mode in
    never_bad c.args.meta.now body _ _ wide ∣ c.requires.mode ∣₁ c.in_ok-bytes.ensures reads
