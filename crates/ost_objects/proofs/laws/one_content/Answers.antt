use Rattle.ost_forms.proofs.OwnStreams.{one_content, header_wide}
use Rattle.ost_objects.proofs.laws.one_content.Goals as goal

pub returns : goal.returns
returns c = λ bytes e f.
    let left = header_wide c.args.left.now.meta c.args.left.now.body c.meta_numbers.ensures.uid c.meta_numbers.ensures.gid c.meta_numbers.ensures.mode in
    let right = header_wide c.args.right.now.meta c.args.right.now.body c.meta_numbers-2.ensures.uid c.meta_numbers-2.ensures.gid c.meta_numbers-2.ensures.mode in
    one_content _ _ _ _ bytes left right c.args.left.now.fits c.args.right.now.fits e f
