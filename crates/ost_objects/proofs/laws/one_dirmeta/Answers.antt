use Rattle.ost_forms.proofs.Parted.{one_dirmeta}
use Rattle.ost_objects.proofs.laws.one_dirmeta.Goals as goal

pub returns : goal.returns
returns c = λ bytes e f. one_dirmeta _ _ bytes (record { uid = c.meta_numbers.ensures.uid; gid = c.meta_numbers.ensures.gid; mode = c.meta_numbers.ensures.mode }) (record { uid = c.meta_numbers-2.ensures.uid; gid = c.meta_numbers-2.ensures.gid; mode = c.meta_numbers-2.ensures.mode }) e f
