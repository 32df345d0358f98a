use Rattle.ost_forms.proofs.OwnStreams.{never_bad, header_wide}
use Rattle.ost_objects.proofs.checked.Checked.of_content.Goals as goal

pub unreachable-requires-in-Err-BadMode : goal.unreachable-requires-in-Err-BadMode
unreachable-requires-in-Err-BadMode c =
    let reads = rw (c.in-Err-BadMode.field-0-is, c.as_slice.ensures) at c.in-Err-BadMode.ensures in
    let wide = header_wide c.args.value.now.meta c.args.value.now.body c.meta_numbers.ensures.uid c.meta_numbers.ensures.gid c.meta_numbers.ensures.mode in
    never_bad c.args.value.now.meta c.args.value.now.body _ _ wide c.args.value.now.fits c.in_ok-bytes.ensures reads
